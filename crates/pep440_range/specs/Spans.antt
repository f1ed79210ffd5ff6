-- The spans that constructs of PEP 440, "Version specifiers", make in a domain: this project's own. Numerals are of any size, and
-- so are those that are raised by one.
use Rattle.std.specs.Prelude.{◌+◌, ℕ, List, [], ◌∷◌, ◌++◌, Option, Some, None}
use Rattle.std.specs.List.{AllByRecursion}
use Rattle.vx_scheme.specs.declared.domain.Domain.{Domain}
use Rattle.vx_scheme.specs.declared.domain.Domain.TheVariants.{All, Releases}
use Rattle.vx_scheme.specs.declared.ident.Ident.{Ident}
use Rattle.vx_scheme.specs.declared.span.Cut.{Cut}
use Rattle.vx_scheme.specs.declared.span.Span.{Span}
use Rattle.vx_scheme.specs.Cuts.{cuts_of}
use Rattle.vx_range.specs.Spans.{point, from, above, below, up_to, between}
use Rattle.pep440_scheme.specs.declared.version.PrePart.{PrePart}
use Rattle.pep440_scheme.specs.Version.{Fields, IsWithin, public_of}
use Rattle.pep440_scheme.specs.Next.{bump_of, dev0_of, next_pre_of, succ_of}
use Rattle.pep440_range.specs.declared.construct.Comparison.{Comparison}
use Rattle.pep440_range.specs.declared.construct.Comparison.TheVariants.{Compatible, LessOrEqual, GreaterOrEqual, Less, Greater}
use Rattle.pep440_range.specs.declared.construct.Construct.{Construct}
use Rattle.pep440_range.specs.declared.construct.Construct.TheVariants.{Compares, Equal, NotEqual, Within, NotWithin, Identical}
use Rattle.pep440_range.specs.Holds.{prefix_of, release_of}

-- The lowest version of the domain whose release, continued by zeros, begins with the one of this version: `R.dev0`, whose
-- `.dev0` is left out among releases.
abbrev pub lowest_in : Domain → Fields → Fields
lowest_in All r = dev0_of r
lowest_in Releases r = r

-- `==V`: `[V, succ V)` of a public V, since its locals are meant too; and `[V, V]` of a local one, and among releases
abbrev pub equal_by : Domain → ℕ → Fields → List Ident → List (Span Fields)
equal_by All mark bound [] = between mark bound (succ_of bound)
equal_by All mark bound (part ∷ parts) = point mark bound
equal_by Releases mark bound local = point mark bound

-- `!=V`: `(-, V)`, and `[succ V, -)` of a public V, and `(V, -)` of a local one, and among releases
abbrev pub not_equal_by : Domain → ℕ → Fields → List Ident → List (Span Fields)
not_equal_by All mark bound [] = below mark bound ++ from (mark + 1) (succ_of bound)
not_equal_by All mark bound (part ∷ parts) = below mark bound ++ above (mark + 1) bound
not_equal_by Releases mark bound local = below mark bound ++ above (mark + 1) bound

-- where the versions end whose release, continued by zeros, begins with R
abbrev pub end_of : Domain → Fields → Fields
end_of domain r = lowest_in domain (bump_of r)

-- `==R.*`, `!=R.*`
abbrev pub within_spans : Domain → ℕ → Fields → List (Span Fields)
within_spans domain mark r = between mark (lowest_in domain r) (end_of domain r)

abbrev pub not_within_spans : Domain → ℕ → Fields → List (Span Fields)
not_within_spans domain mark r = below mark (lowest_in domain r) ++ from (mark + 1) (end_of domain r)

-- `<=V`: its locals are meant too
abbrev pub less_or_equal_spans : Domain → ℕ → Fields → List (Span Fields)
less_or_equal_spans All mark bound = below mark (succ_of bound)
less_or_equal_spans Releases mark bound = up_to mark bound

-- `<V`: the pre-releases of a V that has neither pre nor dev are not meant
abbrev pub less_by : Domain → ℕ → Fields → Option PrePart → Option ℕ → List (Span Fields)
less_by All mark bound None None = below mark (dev0_of bound)
less_by All mark bound None (Some dev) = below mark bound
less_by All mark bound (Some pre) dev = below mark bound
less_by Releases mark bound pre dev = below mark bound

-- `>V`: of a V with a post or a dev its locals are not meant, and of one with a pre alone its post-releases neither; of a final
-- V there is no end in the domain of all
abbrev pub greater_by : ℕ → Fields → Option PrePart → Option ℕ → Option ℕ → List (Span Fields)
greater_by mark bound pre post (Some dev) = from mark (succ_of bound)
greater_by mark bound pre (Some post) None = from mark (succ_of bound)
greater_by mark bound (Some pre) None None = from mark (next_pre_of bound)
greater_by mark bound None None None = []

abbrev pub greater_spans : Domain → ℕ → Fields → List (Span Fields)
greater_spans All mark bound = greater_by mark bound bound.pre bound.post bound.dev
greater_spans Releases mark bound = above mark bound

-- the operators that take a public V; `~=V` ends where `==P.*` does, P being V's epoch and release without its last number
abbrev pub compared_spans : Comparison → Domain → ℕ → Fields → List (Span Fields)
compared_spans Compatible domain mark bound = between mark bound (end_of domain (prefix_of bound))
compared_spans LessOrEqual domain mark bound = less_or_equal_spans domain mark bound
compared_spans GreaterOrEqual domain mark bound = from mark bound
compared_spans Less domain mark bound = less_by domain mark bound bound.pre bound.dev
compared_spans Greater domain mark bound = greater_spans domain mark bound

-- the spans of a construct in a domain; the marks of its cuts run on from the given one, lower before upper
abbrev pub made_spans : Domain → ℕ → Construct → List (Span Fields)
made_spans domain mark (Compares how bound) = compared_spans how domain mark (public_of bound)
made_spans domain mark (Equal bound) = equal_by domain mark bound bound.local
made_spans domain mark (NotEqual bound) = not_equal_by domain mark bound bound.local
made_spans domain mark (Within r) = within_spans domain mark (release_of r.epoch r.release)
made_spans domain mark (NotWithin r) = not_within_spans domain mark (release_of r.epoch r.release)
made_spans domain mark (Identical text) = []

-- each cut of the spans is within the limit of numerals
abbrev pub AreWithin : List (Span Fields) → Type 0
AreWithin spans = AllByRecursion (λ (cut : Cut Fields). IsWithin cut.version) (cuts_of spans)
