-- The parts of a normal text, appended one after the other.
use Rattle.std.proofs.Common.{◌≡◌, ◌++◌, ℕ, List, [], ◌∷◌, codes, ◌∙◌, append_assoc, append-nil}

pub core_written : (out a b c pre one two three done : List ℕ) → one ≡ out ++ (a ++ codes ".") → two ≡ one ++ (b ++ codes ".")
    → three ≡ two ++ c → done ≡ three ++ pre
    → done ≡ out ++ (a ++ 46 ∷ (b ++ 46 ∷ (c ++ (pre ++ []))))
core_written out a b c pre one two three done p q r s = s ∙ rw (r, q, p) (simp (append_assoc, append-nil))
