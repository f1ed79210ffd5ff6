-- Where the first numeral past the limit begins, and that a version is within the limit where there is none.
use Rattle.std.proofs.Common.{◌≡◌, ◌≤◌, ◌+◌, ℕ, true, List, ◌∷◌, ◌++◌, length, ap, Option, Some, None, arith, length-append}
use Rattle.std.proofs.lemmas.Bool.{and_parts}
use Rattle.vx_spec.specs.Marks.{marked}
use Rattle.vx_spec.specs.Numerals.{is_numeral}
use Rattle.vx_spec.specs.Signs.{dot, hyphen, plus}
use Rattle.vx_order.specs.Dotted.{pieces, tail}
use Rattle.vx_order.specs.Laws.Dotted.{tail_pieces}
use Rattle.vx_order.proofs.PastPartLaws.{fine, idents_fine, idents_none, join_none, not_past, split_none}
use Rattle.npm_scheme.specs.Version.{IsWithin}
use Rattle.npm_scheme.specs.Spelling.{Parts, AreVersionParts, core, whole, is_plain_numeral, version_of}
use Rattle.npm_scheme.specs.Past.{past_numeral_of}
use Rattle.npm_scheme.proofs.Apart.{cut_parts}

-- ---- the places are in the text

whole_length : (a b c : List ℕ) (pre build : Option (List ℕ)) → length a + 1 + length b + 1 + length c + length (marked hyphen pre) ≤ length (whole (cut_parts a b c pre build))
whole_length a b c pre build =
    omega (arith, length-append (core a b c ++ tail hyphen (pieces pre)) (tail plus (pieces build)), length-append (core a b c) (tail hyphen (pieces pre)), ap length (tail_pieces hyphen pre), length-append a (dot ∷ (b ++ (dot ∷ c))), length-append b (dot ∷ c))

-- the three numbers and the pre-release, with the signs in front of each, are no longer than the text
pub before_pre : (a b c text : List ℕ) (pre build : Option (List ℕ)) → pre ≡ Some text
    → length a + 1 + length b + 1 + length c + 1 + length text ≤ length (whole (cut_parts a b c pre build))
before_pre a b c text pre build is = omega (arith, whole_length a b c pre build, ap (λ (p : Option (List ℕ)). length (marked hyphen p)) is)

-- ---- versions within the limit

numeral_is : (part : List ℕ) → is_plain_numeral part ≡ true → is_numeral part ≡ true
numeral_is part is = (and_parts _ _ is).0

pub none_within : (p : Parts) (at : ℕ) → AreVersionParts p → past_numeral_of at p ≡ None → IsWithin (version_of p)
none_within p at form none =
    let a = split_none at p.major (p.minor ∷ p.patch ∷ p.pre) none in
    let b = split_none _ p.minor (p.patch ∷ p.pre) a.1 in
    let c = split_none _ p.patch p.pre b.1 in
    (fine p.major (numeral_is p.major form.major) a.0, fine p.minor (numeral_is p.minor form.minor) b.0, fine p.patch (numeral_is p.patch form.patch) c.0, idents_fine _ p.pre c.1)

pub within_none : (p : Parts) (at : ℕ) → IsWithin (version_of p) → past_numeral_of at p ≡ None
within_none p at within =
    join_none at p.major (p.minor ∷ p.patch ∷ p.pre) (not_past p.major within.0)
    (join_none _ p.minor (p.patch ∷ p.pre) (not_past p.minor within.1)
    (join_none _ p.patch p.pre (not_past p.patch within.2) (idents_none _ p.pre within.3)))
