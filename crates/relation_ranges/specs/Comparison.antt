-- The operators that compare with one version, as RubyGems (`Gem::Requirement`), RPM (the reference manual, "Dependencies") and
-- Debian (Debian Policy, 7.1) write them: their signs, the orders that they ask for, and their spans.
use Rattle.std.specs.Prelude.{◌≡◌, ◌==◌, ◌||◌, ℕ, Bool, List, codes}
use Rattle.std.specs.Ordering.{is_eq, is_lt, is_le, is_gt, is_ge}
use Rattle.std.specs.declared.cmp.Ordering.{Ordering}
use Rattle.vx_scheme.specs.declared.span.Span.{Span}
use Rattle.vx_range.specs.Spans.{point, from, above, below, up_to}
use Rattle.relation_ranges.specs.declared.comparison.Comparison.{Comparison}
use Rattle.relation_ranges.specs.declared.comparison.Comparison.TheVariants.{Less, LessOrEqual, Equal, GreaterOrEqual, Greater}
use Rattle.relation_ranges.specs.declared.comparison.Strict.{Strict}
use Rattle.relation_ranges.specs.declared.comparison.Strict.TheVariants.{Single, Doubled}

-- How an operator is written: the two strict ones with one sign, or with two, as Debian Policy, 7.1, has them.
abbrev pub signs_of : Strict → Comparison → List ℕ
signs_of strict LessOrEqual = codes "<="
signs_of strict Equal = codes "="
signs_of strict GreaterOrEqual = codes ">="
signs_of Single Less = codes "<"
signs_of Single Greater = codes ">"
signs_of Doubled Less = codes "<<"
signs_of Doubled Greater = codes ">>"

-- the operator is written so
abbrev pub HasSigns : Strict → Comparison → List ℕ → Type 0
HasSigns strict comparison signs = signs ≡ signs_of strict comparison

-- '<' (60), '=' (61) or '>' (62): a byte of a comparison's signs
abbrev pub is_sign : ℕ → Bool
is_sign b = b == 60 || b == 61 || b == 62

-- how a version has to compare with the operator's
abbrev pub is_so : Comparison → Ordering → Bool
is_so Less order = is_lt order
is_so LessOrEqual order = is_le order
is_so Equal order = is_eq order
is_so GreaterOrEqual order = is_ge order
is_so Greater order = is_gt order

-- `(-, V)`, `(-, V]`, `[V, V]`, `[V, -)` or `(V, -)`
abbrev pub spans_of : {V : Type 0} → ℕ → Comparison → V → List (Span V)
spans_of mark Less bound = below mark bound
spans_of mark LessOrEqual bound = up_to mark bound
spans_of mark Equal bound = point mark bound
spans_of mark GreaterOrEqual bound = from mark bound
spans_of mark Greater bound = above mark bound
