-- The order of lists of identifiers is total.
use Rattle.std.proofs.Common.{◌≡◌, ◌<◌, ◌≤◌, ◌+◌, ℕ, suc, List, [], ◌∷◌, length, get_or, map, Ordering, sym, ap, ◌∙◌, arith, add-one}
use Rattle.std.specs.Char.{to_ascii_lowercase}
use Rattle.std.specs.Cmp.{IsTotalOrder, nat_cmp_total, on_total}
use Rattle.std.proofs.lemmas.Cmp.{lists_total}
use Rattle.std.proofs.lemmas.List.{get_or-map, length-map}
use Rattle.vx_spec.specs.Places.{endless}
use Rattle.vx_spec.proofs.RowLaws.{rows_total}
use Rattle.vx_scheme.specs.declared.ident.Ident.{Ident}
use Rattle.vx_text.specs.Folding.{lowered}
use Rattle.vx_order.specs.declared.idents.IdentRule.{IdentRule}
use Rattle.vx_order.specs.Idents.{entry_cmp, idents_cmp, idents_key}

pub entries_total : IsTotalOrder entry_cmp
entries_total = lists_total nat_cmp_total

pub idents_total : (rule : IdentRule) → IsTotalOrder (idents_cmp rule)
idents_total rule = on_total {J = List (List ℕ)} (idents_key rule) (rows_total entry_cmp entries_total [])

-- the empty list and one that has a first identifier
pub headed : (rule : IdentRule) (a b : List Ident) (x : Ident) (r : Ordering) → length a ≡ 0 → 1 ≤ length b → x ≡ get_or b 0 x
    → ((more : List Ident) → r ≡ idents_cmp rule [] (x ∷ more)) → r ≡ idents_cmp rule a b
headed rule [] [] x r none some is h = absurd (omega (arith, some))
headed rule [] (y ∷ b) x r none some is h = h b ∙ ap (λ z. idents_cmp rule [] (z ∷ b)) is
headed rule (y ∷ a) b x r none some is h = absurd (omega (arith, none))

-- a byte of a text, lower-cased and raised by one
pub folded_byte : (text : List ℕ) (i byte low : ℕ) → i < length text → byte ≡ get_or text i byte → low ≡ to_ascii_lowercase byte
    → low + 1 ≡ endless 0 (map suc (lowered text)) i
folded_byte text i byte low inside is lower =
    let inside' : i < length (lowered text) = omega (arith, inside, length-map text to_ascii_lowercase) in
    let raised = get_or-map suc (lowered text) i byte 0 inside' in
    let folded = get_or-map to_ascii_lowercase text i byte byte inside in
    add-one low ∙ ap suc (lower ∙ ap to_ascii_lowercase is ∙ sym folded) ∙ sym raised
