-- A construct makes two cuts at most, so a text makes at most twice as many cuts as it has constructs.
use Rattle.std.proofs.Common.{◌≡◌, ◌≤◌, ◌*◌, ℕ, List, [], ◌∷◌, length, arith, Option, Some, None}
use Rattle.vx_scheme.specs.declared.domain.Domain.{Domain}
use Rattle.vx_scheme.specs.declared.domain.Domain.TheVariants.{All, Releases}
use Rattle.vx_scheme.specs.declared.ident.Ident.{Ident}
use Rattle.vx_scheme.specs.declared.span.Span.{Span}
use Rattle.vx_scheme.specs.Cuts.{cuts_of}
use Rattle.vx_range.specs.Sizes.{cut_count, HasTwoCuts}
use Rattle.vx_range.specs.Laws.OneRefusal.{reads_one}
use Rattle.vx_range.specs.Laws.Sizes.{terms_are_short, one_count}
use Rattle.pep440_scheme.specs.declared.version.PrePart.{PrePart}
use Rattle.pep440_scheme.specs.Version.{Fields, public_of}
use Rattle.pep440_range.specs.declared.construct.Comparison.{Comparison}
use Rattle.pep440_range.specs.declared.construct.Comparison.TheVariants.{Compatible, LessOrEqual, GreaterOrEqual, Less, Greater}
use Rattle.pep440_range.specs.declared.construct.Construct.TheVariants.{Compares, Equal, NotEqual, Within, NotWithin, Identical}
use Rattle.pep440_range.specs.Reading.{IsCut, ReadsAs}
use Rattle.pep440_range.specs.Refusals.{IsPast, outcome}
use Rattle.pep440_range.specs.Spans.{equal_by, not_equal_by, less_or_equal_spans, less_by, greater_by, greater_spans, compared_spans, made_spans}
use Rattle.pep440_range.specs.Range.{Makes}
use Rattle.pep440_range.specs.Sizes.{HasConstructs}
use Rattle.pep440_range.specs.Laws.Readings.{pypi_cuts, pypi_pieces}

equal_two : (domain : Domain) (mark : ℕ) (bound : Fields) (local : List Ident) → length (cuts_of (equal_by domain mark bound local)) ≤ 2
equal_two All mark bound [] = omega arith
equal_two All mark bound (part ∷ parts) = omega arith
equal_two Releases mark bound local = omega arith

not_equal_two : (domain : Domain) (mark : ℕ) (bound : Fields) (local : List Ident) → length (cuts_of (not_equal_by domain mark bound local)) ≤ 2
not_equal_two All mark bound [] = omega arith
not_equal_two All mark bound (part ∷ parts) = omega arith
not_equal_two Releases mark bound local = omega arith

less_or_equal_two : (domain : Domain) (mark : ℕ) (bound : Fields) → length (cuts_of (less_or_equal_spans domain mark bound)) ≤ 2
less_or_equal_two All mark bound = omega arith
less_or_equal_two Releases mark bound = omega arith

less_two : (domain : Domain) (mark : ℕ) (bound : Fields) (pre : Option PrePart) (dev : Option ℕ) → length (cuts_of (less_by domain mark bound pre dev)) ≤ 2
less_two All mark bound None None = omega arith
less_two All mark bound None (Some dev) = omega arith
less_two All mark bound (Some pre) dev = omega arith
less_two Releases mark bound pre dev = omega arith

greater_by_two : (mark : ℕ) (bound : Fields) (pre : Option PrePart) (post dev : Option ℕ) → length (cuts_of (greater_by mark bound pre post dev)) ≤ 2
greater_by_two mark bound pre post (Some dev) = omega arith
greater_by_two mark bound pre (Some post) None = omega arith
greater_by_two mark bound (Some pre) None None = omega arith
greater_by_two mark bound None None None = omega arith

greater_two : (domain : Domain) (mark : ℕ) (bound : Fields) → length (cuts_of (greater_spans domain mark bound)) ≤ 2
greater_two All mark bound = greater_by_two mark bound bound.pre bound.post bound.dev
greater_two Releases mark bound = omega arith

compared_two : (how : Comparison) (domain : Domain) (mark : ℕ) (bound : Fields) → length (cuts_of (compared_spans how domain mark bound)) ≤ 2
compared_two Compatible domain mark bound = omega arith
compared_two LessOrEqual domain mark bound = less_or_equal_two domain mark bound
compared_two GreaterOrEqual domain mark bound = omega arith
compared_two Less domain mark bound = less_two domain mark bound bound.pre bound.dev
compared_two Greater domain mark bound = greater_two domain mark bound

pub pypi_two : (domain : Domain) → HasTwoCuts (made_spans domain)
pypi_two domain mark (Compares how bound) = compared_two how domain mark (public_of bound)
pypi_two domain mark (Equal bound) = equal_two domain mark bound bound.local
pypi_two domain mark (NotEqual bound) = not_equal_two domain mark bound bound.local
pypi_two domain mark (Within r) = omega arith
pypi_two domain mark (NotWithin r) = omega arith
pypi_two domain mark (Identical text) = omega arith

pub pypi_short : (domain : Domain) (text : List ℕ) (bounds : List (List (List (Span Fields)))) → Makes domain text bounds
    → (n : ℕ) × HasConstructs text n × (cut_count bounds ≤ 2 * n)
pypi_short domain text bounds makes = terms_are_short (made_spans domain) (pypi_two domain) IsCut ReadsAs IsPast (outcome domain) text bounds makes

-- a text has one number of constructs
pub pypi_one : (text : List ℕ) (a b : ℕ) → HasConstructs text a → HasConstructs text b → a ≡ b
pypi_one text = one_count IsCut ReadsAs text (reads_one ReadsAs IsPast pypi_pieces IsCut pypi_cuts text)
