-- One number more at the end of a release, one part more at the end of a label.
use Rattle.std.proofs.Common.{◌≡◌, ◌<◌, ◌+◌, ℕ, suc, List, [], ◌∷◌, ◌++◌, length, get_or, map, take, refl, ap, ◌∙◌, arith, append_assoc}
use Rattle.std.proofs.lemmas.Bool.{ne_eqb}
use Rattle.vx_spec.specs.Numerals.{numeral_text}
use Rattle.vx_scheme.specs.declared.ident.Ident.{Ident}
use Rattle.vx_text.proofs.Pushed.{join_more, pushed, texts_more}
use Rattle.vx_order.specs.Dotted.{tail}
use Rattle.vx_spec.specs.Signs.{dot, plus}
use Rattle.pep440_scheme.specs.Writing.{ident_text, locals_text, release_text}
use Rattle.pep440_scheme.specs.Steps.Begun.{dot_before, sign_before}

-- the number at a place is appended behind its sign
pub number_pushed : (start out out' out'' release : List ℕ) (i x : ℕ) → i < length release → x ≡ get_or release i x
    → out ≡ start ++ release_text (take i release) → out' ≡ out ++ dot_before i → out'' ≡ out' ++ numeral_text x
    → out'' ≡ start ++ release_text (take (i + 1) release)
number_pushed = pushed dot numeral_text

-- ---- labels

label_is : (idents : List Ident) → locals_text idents ≡ tail plus (map ident_text idents)
label_is [] = refl
label_is (ident ∷ idents) = refl

label_push : (xs : List (List ℕ)) (y : List ℕ) → tail plus (xs ++ y ∷ []) ≡ tail plus xs ++ sign_before (length xs) ∷ y
label_push [] y = refl
label_push (x ∷ xs) y = rw (ne_eqb (suc (length xs)) 0 (omega arith)) (ap (λ (r : List ℕ). plus ∷ r) (join_more dot x xs y))

pub ident_pushed : (start out out' out'' : List ℕ) (idents : List Ident) (i : ℕ) (x : Ident) → i < length idents → x ≡ get_or idents i x
    → out ≡ start ++ locals_text (take i idents) → out' ≡ out ++ sign_before i ∷ [] → out'' ≡ out' ++ ident_text x
    → out'' ≡ start ++ locals_text (take (i + 1) idents)
ident_pushed start out out' out'' idents i x l at before one two =
    let so_far = map ident_text (take i idents) in
    let more = texts_more dot ident_text idents i x l at in
    rw (label_is (take (i + 1) idents), more.0, label_push so_far (ident_text x), more.1, two, one, before, label_is (take i idents))
    (append_assoc (start ++ tail plus so_far) (sign_before i ∷ []) (ident_text x) ∙ append_assoc start (tail plus so_far) (sign_before i ∷ ident_text x))
