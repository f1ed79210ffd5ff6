-- One part more at the end of a joined text.
use Rattle.std.proofs.Common.{◌≡◌, ◌<◌, ◌+◌, ℕ, suc, List, [], ◌∷◌, ◌++◌, length, get_or, map, take, refl, sym, ap, ◌∙◌, arith, append_assoc}
use Rattle.std.specs.List.{join_with_byte}
use Rattle.std.proofs.lemmas.List.{take_more, map_push, length-map, length-take-le}
use Rattle.std.proofs.lemmas.Bool.{ne_eqb}
use Rattle.vx_text.specs.Steps.Between.{mark_before}

module _ (mark : ℕ) where
  pub join_more : (x : List ℕ) (xs : List (List ℕ)) (y : List ℕ) → join_with_byte mark (x ∷ (xs ++ y ∷ [])) ≡ join_with_byte mark (x ∷ xs) ++ mark ∷ y
  join_more x [] y = refl
  join_more x (w ∷ ws) y = ap (λ (r : List ℕ). x ++ mark ∷ r) (join_more w ws y) ∙ sym (append_assoc x (mark ∷ join_with_byte mark (w ∷ ws)) (mark ∷ y))

  join_push : (xs : List (List ℕ)) (y : List ℕ) → join_with_byte mark (xs ++ y ∷ []) ≡ join_with_byte mark xs ++ (mark_before mark (length xs) ++ y)
  join_push [] y = refl
  join_push (x ∷ xs) y = rw (ne_eqb (suc (length xs)) 0 (omega arith)) (join_more x xs y)

  module _ {A : Type 0} (text_of : A → List ℕ) where
    -- the texts of the items before the next place
    pub texts_more : (items : List A) (i : ℕ) (x : A) → i < length items → x ≡ get_or items i x
        → (map text_of (take (i + 1) items) ≡ map text_of (take i items) ++ text_of x ∷ []) × (length (map text_of (take i items)) ≡ i)
    texts_more items i x l at = (
      ap (map text_of) (take_more items i x l) ∙ ap (λ (e : A). map text_of (take i items ++ e ∷ [])) (sym at) ∙ map_push text_of (take i items) x,
      length-map (take i items) text_of ∙ length-take-le i items (omega arith),
    )

    -- the item at a place is appended behind its mark
    pub pushed : (start out out' out'' : List ℕ) (items : List A) (i : ℕ) (x : A) → i < length items → x ≡ get_or items i x
        → out ≡ start ++ join_with_byte mark (map text_of (take i items)) → out' ≡ out ++ mark_before mark i → out'' ≡ out' ++ text_of x
        → out'' ≡ start ++ join_with_byte mark (map text_of (take (i + 1) items))
    pushed start out out' out'' items i x l at before one two =
        let text = text_of x in
        let so_far = map text_of (take i items) in
        let more = texts_more items i x l at in
        rw (more.0, join_push so_far text, more.1, two, one, before)
        (append_assoc (start ++ join_with_byte mark so_far) (mark_before mark i) text
        ∙ append_assoc start (join_with_byte mark so_far) (mark_before mark i ++ text))
