-- The order of versions after NuGet's page "Package versioning", "Where NuGetVersion diverges from Semantic Versioning", and
-- Semantic Versioning 2.0, item 11: by the first place at which the keys of two versions differ.
use Rattle.std.specs.Prelude.{ℕ, List, [], ◌∷◌}
use Rattle.std.specs.Cmp.{IsTotalOrder, on_total}
use Rattle.std.specs.declared.cmp.Ordering.{Ordering}
use Rattle.vx_spec.specs.Places.{ComparesAs, endless}
use Rattle.vx_spec.specs.Rows.{rows_cmp}
use Rattle.vx_spec.proofs.RowLaws.{rows_total}
use Rattle.vx_order.specs.Idents.{entry_cmp, idents_key}
use Rattle.vx_order.proofs.IdentLaws.{entries_total}
use Rattle.vx_order.specs.declared.idents.IdentRule.{IdentRule}
use Rattle.vx_order.specs.declared.idents.NumberPlace.TheVariants.{BelowWords}
use Rattle.vx_order.specs.declared.idents.WordOrder.TheVariants.{Folded}
use Rattle.vx_order.specs.declared.idents.EmptyPlace.TheVariants.{Highest}
use Rattle.nuget_scheme.specs.Version.{Fields}

-- item 11.4: numeric labels go by value and are below the others; item 11.3: no label stands above every label. "Where
-- NuGetVersion diverges from Semantic Versioning": the others go by their bytes without regard to the case of letters.
abbrev pub label_rule : IdentRule
label_rule = record { numbers = BelowWords; words = Folded; empty = Highest }

-- the four numbers, then the labels from left to right
abbrev pub key : Fields → List (List ℕ)
key v = (v.major ∷ []) ∷ (v.minor ∷ []) ∷ (v.patch ∷ []) ∷ (v.fourth ∷ []) ∷ idents_key label_rule v.labels

-- How two versions compare: a key that ends goes on with the lowest entry, so that by item 11.4.4 a shorter list of labels is
-- below a longer one that it begins.
abbrev pub order_of : Fields → Fields → Ordering
order_of a b = rows_cmp entry_cmp [] (key a) (key b)

-- the answer says how the keys, continued without end by the lowest entry, compare at their first place of difference
abbrev pub AnswersKeys : Fields → Fields → Ordering → Type 0
AnswersKeys a b answer = ComparesAs entry_cmp (endless [] (key a)) (endless [] (key b)) answer

pub order_total : IsTotalOrder order_of
order_total = on_total {J = List (List ℕ)} key (rows_total entry_cmp entries_total [])
