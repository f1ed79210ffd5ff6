-- Parts that a text is cut into.
use Rattle.std.proofs.Common.{◌≡◌, ◌++◌, ℕ, true, false, List, refl, sym, ap, ◌∙◌}
use Rattle.std.specs.Char.{is_ascii_alphanumeric, is_ascii_digit}
use Rattle.std.specs.List.{AllByRecursion, list_all}
use Rattle.std.specs.Option.{option_copied}
use Rattle.vx_spec.specs.Marks.{Lacks, marked}
use Rattle.vx_spec.proofs.EndLaws.{lacks_append}
use Rattle.vx_spec.proofs.MarkLaws.{one_cut}
use Rattle.vx_text.proofs.Joins.{join_lacks}
use Rattle.vx_spec.specs.Signs.{dot, hyphen}
use Rattle.vx_order.specs.Dotted.{pieces, tail}
use Rattle.vx_order.specs.Laws.Dotted.{all_made_lack, dot_not_hyphen, identifiers_lack, made_lacks, pieces_together, tail_lacks, tail_marked, tail_pieces, together}
use Rattle.gem_scheme.specs.Spelling.{Parts, AreVersionParts, is_piece, whole}
use Rattle.gem_scheme.specs.Steps.Apart.{IsApart}
use Rattle.gem_scheme.specs.Steps.Written.{parts}
use Rattle.gem_scheme.specs.declared.spelling.Written.{Written}

-- ---- parts lack the marks that part them

pieces_lack : (c : ℕ) → is_ascii_alphanumeric c ≡ false → (xs : List (List ℕ)) → list_all is_piece xs ≡ true → AllByRecursion (Lacks c) xs
pieces_lack = all_made_lack is_ascii_alphanumeric

front_lacks : (p : Parts) → AreVersionParts p → Lacks hyphen (p.number ++ tail dot p.pieces)
front_lacks p form =
    lacks_append hyphen p.number (tail dot p.pieces) (made_lacks is_ascii_digit hyphen refl p.number form.number)
    (tail_lacks hyphen dot p.pieces dot_not_hyphen (join_lacks dot hyphen p.pieces dot_not_hyphen (pieces_lack hyphen refl p.pieces form.pieces)))

-- ---- the parts of a text are those that it is cut into

pub same_parts : {text : List ℕ} {w : Written} (p : Parts) → IsApart text w → text ≡ whole p → AreVersionParts p → parts w ≡ p
same_parts {text} {w} p apart joined form =
    let front = p.number ++ tail dot p.pieces in
    let first = one_cut hyphen front apart.front (together p.labels) (option_copied w.labels) (front_lacks p form) apart.labels.first
    (ap (λ (t : List ℕ). front ++ t) (sym (tail_marked hyphen p.labels)) ∙ sym joined ∙ apart.labels.joined) in
    let second = one_cut dot p.number w.number.now (together p.pieces) (option_copied w.pieces) (made_lacks is_ascii_digit dot refl p.number form.number) apart.pieces.first
    (ap (λ (t : List ℕ). p.number ++ t) (sym (tail_marked dot p.pieces)) ∙ first.0 ∙ apart.pieces.joined) in
    let found : pieces (option_copied w.pieces) ≡ p.pieces = ap pieces (sym second.1) ∙ pieces_together p.pieces (pieces_lack dot refl p.pieces form.pieces) in
    let labels : pieces (option_copied w.labels) ≡ p.labels = ap pieces (sym first.1) ∙ pieces_together p.labels (identifiers_lack dot refl p.labels form.labels) in
    λ i. record { number = sym second.0 i; pieces = found i; labels = labels i }

-- what the cuts give is the text
pub cut_whole : {text : List ℕ} {w : Written} → IsApart text w → text ≡ whole (parts w)
cut_whole {text} {w} apart =
    apart.labels.joined ∙ ap (λ (t : List ℕ). t ++ marked hyphen (option_copied w.labels)) apart.pieces.joined
    ∙ ap (λ (t : List ℕ). (w.number.now ++ t) ++ marked hyphen (option_copied w.labels)) (sym (tail_pieces dot (option_copied w.pieces)))
    ∙ ap (λ (t : List ℕ). (w.number.now ++ tail dot (pieces (option_copied w.pieces))) ++ t) (sym (tail_pieces hyphen (option_copied w.labels)))
