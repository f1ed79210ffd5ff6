-- Texts decoded on the way over the parts.
use Rattle.std.proofs.Common.{◌≡◌, ◌++◌, ℕ, List, [], ◌∷◌, refl, ap, sym, ◌∙◌, append_assoc, inl, inr}
use Rattle.std.proofs.lemmas.Bool.{cases_Bool}
use Rattle.purl_core.specs.Value.{is_dots}
use Rattle.purl_core.specs.Places.{AllText, IsOtherAt, IsText}
use Rattle.purl_core.specs.Steps.Reads.{IsTextFault, texts_of, without_dots}
use Rattle.purl_core.specs.declared.fault.PurlFault.{PurlFault}
use Rattle.purl_core.specs.declared.fault.PurlFault.TheVariants.{Scheme, BadType, Name, Escape, NotText, Qualifier, DuplicateKey, NoMemory}
use Rattle.purl_core.proofs.Firsts.{Goes, goes_wrong}

-- a refusal of the next parts is one of all
pub fault_next : (all xs rest : List (ℕ × List ℕ)) (fault : PurlFault) → IsTextFault xs fault → Goes IsText IsOtherAt all (xs ++ rest) → IsTextFault all fault
fault_next all xs rest Scheme h g = h
fault_next all xs rest BadType h g = h
fault_next all xs rest Name h g = h
fault_next all xs rest (Escape at) h g = h
fault_next all xs rest (NotText at) h g = goes_wrong IsText IsOtherAt all xs rest at h g
fault_next all xs rest (Qualifier at) h g = h
fault_next all xs rest (DuplicateKey at) h g = h
fault_next all xs rest NoMemory h g = tt

pub texts_apart : (xs ys : List (ℕ × List ℕ)) → AllText (xs ++ ys) → AllText xs × AllText ys
texts_apart [] ys all = (tt, all)
texts_apart (x ∷ xs) ys all = let r = texts_apart xs ys all.1 in ((all.0, r.0), r.1)

pub dots_apart : (xs ys : List (List ℕ)) → without_dots (xs ++ ys) ≡ without_dots xs ++ without_dots ys
dots_apart [] ys = refl
dots_apart (x ∷ xs) ys = elim (cases_Bool (is_dots x)) [
  | inl dots ↦ rw dots (dots_apart xs ys)
  | inr none ↦ rw none (ap (λ (l : List (List ℕ)). x ∷ l) (dots_apart xs ys))
]

-- one segment of the path more
pub more_segments : (namespace : List (List ℕ)) (part next : ℕ × List ℕ) (text : List ℕ) (rest : List (ℕ × List ℕ)) (all : List (List ℕ)) → texts_of (part ∷ []) ≡ text ∷ []
    → namespace ++ texts_of (part ∷ next ∷ rest) ≡ all → (namespace ++ text ∷ []) ++ texts_of (next ∷ rest) ≡ all
more_segments namespace part next text rest all is e =
    append_assoc namespace (text ∷ []) (texts_of (next ∷ rest)) ∙ ap (λ (l : List (List ℕ)). namespace ++ (l ++ texts_of (next ∷ rest))) (sym is) ∙ e

-- one segment of the subpath more
pub more_parts : (segments : List (List ℕ)) (part : ℕ × List ℕ) (text : List ℕ) (rest : List (ℕ × List ℕ)) (all : List (List ℕ)) → texts_of (part ∷ []) ≡ text ∷ []
    → segments ++ without_dots (texts_of (part ∷ rest)) ≡ all → (segments ++ without_dots (text ∷ [])) ++ without_dots (texts_of rest) ≡ all
more_parts segments part text rest all is e =
    append_assoc segments (without_dots (text ∷ [])) (without_dots (texts_of rest))
    ∙ ap (λ (l : List (List ℕ)). segments ++ l) (sym (dots_apart (text ∷ []) (texts_of rest)))
    ∙ ap (λ (l : List (List ℕ)). segments ++ without_dots (l ++ texts_of rest)) (sym is) ∙ e
