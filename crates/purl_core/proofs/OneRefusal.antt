-- A text is refused for one cause, at one place.
use Rattle.std.proofs.Common.{◌≡◌, ◌≢◌, ◌+◌, ◌++◌, ℕ, List, [], ◌∷◌, refl, sym, ap, ◌∙◌, subst, append_assoc, inl, inr}
use Rattle.std.proofs.lemmas.List.{map-append}
use Rattle.vx_text.proofs.EscapeLaws.{not_whole, one_first_broken}
use Rattle.purl_core.specs.Grammar.{Parts, IsPurlWritten, WithScheme, WithType}
use Rattle.purl_core.specs.Spelling.{Distinct}
use Rattle.purl_core.specs.Places.{AllText, AllWhole, AreKeyed, HasKey, IsBadPieceAt, IsDuplicateAt, IsEscapeAt, IsNotTextAt, components, keyed_pair, pieces_of, without_places}
use Rattle.purl_core.specs.Reading.{IsRefused}
use Rattle.purl_core.specs.declared.fault.PurlFault.{PurlFault}
use Rattle.purl_core.specs.declared.fault.PurlFault.TheVariants.{Scheme, BadType, Name, Escape, NotText, Qualifier, DuplicateKey, NoMemory}
use Rattle.purl_core.proofs.PartLaws.{one_written}
use Rattle.purl_core.proofs.OneValue.{one_piece}
use Rattle.purl_core.proofs.Unspelled.{no_escape, no_other, not_twice, with_scheme, with_type}

-- ---- one place

one_escape : (xs : List (ℕ × List ℕ)) (at to : ℕ) → IsEscapeAt xs at → IsEscapeAt xs to → at ≡ to
one_escape [] at to p q = absurd p
one_escape (x ∷ xs) at to (inl p) (inl q) = p.2 ∙ ap (λ (k : ℕ). x.0 + k) (one_first_broken x.1 p.0 q.0 p.1 q.1) ∙ sym q.2
one_escape (x ∷ xs) at to (inl p) (inr q) = absurd (not_whole x.1 p.0 p.1 q.0)
one_escape (x ∷ xs) at to (inr p) (inl q) = absurd (not_whole x.1 q.0 q.1 p.0)
one_escape (x ∷ xs) at to (inr p) (inr q) = one_escape xs at to p.1 q.1

one_not_text : (xs : List (ℕ × List ℕ)) (at to : ℕ) → IsNotTextAt xs at → IsNotTextAt xs to → at ≡ to
one_not_text [] at to p q = absurd p
one_not_text (x ∷ xs) at to (inl p) (inl q) = p.1 ∙ sym q.1
one_not_text (x ∷ xs) at to (inl p) (inr q) = absurd (p.0 q.0)
one_not_text (x ∷ xs) at to (inr p) (inl q) = absurd (q.0 p.0)
one_not_text (x ∷ xs) at to (inr p) (inr q) = one_not_text xs at to p.1 q.1

one_bad : (xs : List (ℕ × List ℕ)) (at to : ℕ) → IsBadPieceAt xs at → IsBadPieceAt xs to → at ≡ to
one_bad [] at to p q = absurd p
one_bad (x ∷ xs) at to (inl p) (inl q) = p.1 ∙ sym q.1
one_bad (x ∷ xs) at to (inl p) (inr q) = absurd (p.0 q.0.0 q.0.1)
one_bad (x ∷ xs) at to (inr p) (inl q) = absurd (q.0 p.0.0 p.0.1)
one_bad (x ∷ xs) at to (inr p) (inr q) = one_bad xs at to p.1 q.1

-- a piece that is none has no pair
not_keyed : (xs : List (ℕ × List ℕ)) (at : ℕ) (keyed : List (ℕ × (List ℕ × List ℕ))) → IsBadPieceAt xs at → ¬ (AreKeyed xs keyed)
not_keyed [] at keyed bad are = bad
not_keyed (x ∷ xs) at keyed (inl bad) (pair, rest, is, more, e) = bad.0 pair is
not_keyed (x ∷ xs) at keyed (inr bad) (pair, rest, is, more, e) = not_keyed xs at rest bad.1 more

one_keyed : (xs : List (ℕ × List ℕ)) (a b : List (ℕ × (List ℕ × List ℕ))) → AreKeyed xs a → AreKeyed xs b → a ≡ b
one_keyed [] a b p q = p ∙ sym q
one_keyed (x ∷ xs) a b (pair, rest, is, more, e) (other, left, are, and, f) =
    e ∙ ap (λ (z : List ℕ × List ℕ). keyed_pair x.0 z ++ rest) (one_piece x.1 pair other is are)
    ∙ ap (λ (r : List (ℕ × (List ℕ × List ℕ))). keyed_pair x.0 other ++ r) (one_keyed xs rest left more and) ∙ sym f

-- ---- the first key that stands twice

abbrev Entry : Type 0
Entry = ℕ × (List ℕ × List ℕ)

plain_append : (xs ys : List Entry) → without_places (xs ++ ys) ≡ without_places xs ++ without_places ys
plain_append xs ys = map-append (λ (entry : Entry). entry.1) xs ys

-- a pair whose key stands before is not among pairs with distinct keys
not_before : (seen : List Entry) (at : ℕ) (pair : List ℕ × List ℕ) (y : Entry) (ys : List Entry) → ◌≡◌ {A = Entry} (at, pair) y
    → HasKey pair.0 (without_places (seen ++ [])) → ¬ (Distinct (without_places (seen ++ y ∷ ys)))
not_before seen at pair y ys e twice all =
    let key : pair.0 ≡ y.1.0 = ap (λ (entry : Entry). entry.1.0) e in
    let here = subst (λ (l : List (List ℕ × List ℕ)). HasKey pair.0 l) (ap without_places (nothing_behind seen)) twice in
    not_twice (without_places seen) y.1 (without_places ys) (subst Distinct (plain_append seen (y ∷ ys)) all) (subst (λ (k : List ℕ). HasKey k (without_places seen)) key here)
  where
    nothing_behind : (xs : List Entry) → xs ++ [] ≡ xs
    nothing_behind [] = refl
    nothing_behind (x ∷ xs) = ap (λ (l : List Entry). x ∷ l) (nothing_behind xs)

record IsTwice (seen front : List Entry) (pair : List ℕ × List ℕ) : Type 0 where
  all : Distinct (without_places (seen ++ front))
  key : HasKey pair.0 (without_places (seen ++ front))

step : (seen : List Entry) (y : Entry) (ys : List Entry) (pair : List ℕ × List ℕ) → IsTwice seen (y ∷ ys) pair → IsTwice (seen ++ y ∷ []) ys pair
step seen y ys pair t =
    let e : seen ++ y ∷ ys ≡ (seen ++ y ∷ []) ++ ys = sym (append_assoc seen (y ∷ []) ys) in
    record { all = subst (λ (l : List Entry). Distinct (without_places l)) e t.all; key = subst (λ (l : List Entry). HasKey pair.0 (without_places l)) e t.key }

one_twice : (seen a b : List Entry) (at to : ℕ) (p q : List ℕ × List ℕ) (r s : List Entry) → ◌≡◌ {A = List Entry} (a ++ (at, p) ∷ r) (b ++ (to, q) ∷ s)
    → IsTwice seen a p → IsTwice seen b q → at ≡ to
one_twice seen [] [] at to p q r s e x y = let f : ◌≡◌ {A = Entry} (at, p) (to, q) = cc e in ap (λ (entry : Entry). entry.0) f
one_twice seen [] (b ∷ bs) at to p q r s e x y = absurd (not_before seen at p b bs (cc e) x.key y.all)
one_twice seen (a ∷ front) [] at to p q r s e x y = absurd (not_before seen to q a front (cc e) y.key x.all)
one_twice seen (a ∷ front) (b ∷ bs) at to p q r s e x y =
    let first : b ≡ a = cc e in
    let other = subst (λ (z : Entry). IsTwice seen (z ∷ bs) q) first y in
    one_twice (seen ++ a ∷ []) front bs at to p q r s (cc e) (step seen a front p x) (step seen a bs q other)

one_duplicate : (keyed : List Entry) (at to : ℕ) → IsDuplicateAt keyed at → IsDuplicateAt keyed to → at ≡ to
one_duplicate keyed at to x y =
    one_twice [] x.before y.before at to x.pair y.pair x.behind y.behind (sym x.split ∙ y.split)
    (record { all = x.first; key = x.twice }) (record { all = y.first; key = y.twice })

-- ---- one cause

type_scheme : (text : List ℕ) → WithType text → WithScheme text
type_scheme text w = record { body = w.body; qualifiers = w.qualifiers; subpath = w.subpath; scheme = w.scheme; rest = w.rest; ended = w.ended; scheme_is = w.scheme_is }

-- what holds of the raw parts of a text holds of them however they were found
there : (text : List ℕ) (P : Parts → Type 0) (a b : Parts) → IsPurlWritten text a → IsPurlWritten text b → P b → P a
there text P a b x y = subst P (one_written text b a y x)

by_scheme : (text : List ℕ) (fault : PurlFault) → ¬ (WithScheme text) → IsRefused text fault → fault ≢ NoMemory → Scheme ≡ fault
by_scheme text Scheme none h some = refl
by_scheme text BadType none h some = absurd (none h.0)
by_scheme text Name none h some = absurd (none (type_scheme text h.0))
by_scheme text (Escape to) none h some = absurd (none (with_scheme text h.0 h.1))
by_scheme text (NotText to) none h some = absurd (none (with_scheme text h.0 h.1))
by_scheme text (Qualifier to) none h some = absurd (none (with_scheme text h.0 h.1))
by_scheme text (DuplicateKey to) none h some = absurd (none (with_scheme text h.0 h.1))
by_scheme text NoMemory none h some = absurd (some refl)

by_type : (text : List ℕ) (fault : PurlFault) → IsRefused text BadType → IsRefused text fault → fault ≢ NoMemory → BadType ≡ fault
by_type text Scheme x h some = absurd (h x.0)
by_type text BadType x h some = refl
by_type text Name x h some = absurd (x.1 h.0)
by_type text (Escape to) x h some = absurd (x.1 (with_type text h.0 h.1))
by_type text (NotText to) x h some = absurd (x.1 (with_type text h.0 h.1))
by_type text (Qualifier to) x h some = absurd (x.1 (with_type text h.0 h.1))
by_type text (DuplicateKey to) x h some = absurd (x.1 (with_type text h.0 h.1))
by_type text NoMemory x h some = absurd (some refl)

by_name : (text : List ℕ) (fault : PurlFault) → IsRefused text Name → IsRefused text fault → fault ≢ NoMemory → Name ≡ fault
by_name text Scheme x h some = absurd (h (type_scheme text x.0))
by_name text BadType x h some = absurd (h.1 x.0)
by_name text Name x h some = refl
by_name text (Escape to) x h some = absurd (x.1 h.0 h.1)
by_name text (NotText to) x h some = absurd (x.1 h.0 h.1)
by_name text (Qualifier to) x h some = absurd (x.1 h.0 h.1)
by_name text (DuplicateKey to) x h some = absurd (x.1 h.0 h.1)
by_name text NoMemory x h some = absurd (some refl)

by_escape : (text : List ℕ) (at : ℕ) (fault : PurlFault) → IsRefused text (Escape at) → IsRefused text fault → fault ≢ NoMemory → Escape at ≡ fault
by_escape text at Scheme (parts, written, p) h some = absurd (h (with_scheme text parts written))
by_escape text at BadType (parts, written, p) h some = absurd (h.1 (with_type text parts written))
by_escape text at Name (parts, written, p) h some = absurd (h.1 parts written)
by_escape text at (Escape to) (parts, written, p) (other, also, q) some =
    ap Escape (one_escape (components parts) at to p (there text (λ r. IsEscapeAt (components r) to) parts other written also q))
by_escape text at (NotText to) (parts, written, p) (other, also, whole, q) some =
    absurd (no_escape (components parts) at p (there text (λ r. AllWhole (components r)) parts other written also whole))
by_escape text at (Qualifier to) (parts, written, p) (other, also, whole, good, q) some =
    absurd (no_escape (components parts) at p (there text (λ r. AllWhole (components r)) parts other written also whole))
by_escape text at (DuplicateKey to) (parts, written, p) (other, also, whole, good, q) some =
    absurd (no_escape (components parts) at p (there text (λ r. AllWhole (components r)) parts other written also whole))
by_escape text at NoMemory x h some = absurd (some refl)

by_not_text : (text : List ℕ) (at : ℕ) (fault : PurlFault) → IsRefused text (NotText at) → IsRefused text fault → fault ≢ NoMemory → NotText at ≡ fault
by_not_text text at Scheme (parts, written, whole, p) h some = absurd (h (with_scheme text parts written))
by_not_text text at BadType (parts, written, whole, p) h some = absurd (h.1 (with_type text parts written))
by_not_text text at Name (parts, written, whole, p) h some = absurd (h.1 parts written)
by_not_text text at (Escape to) (parts, written, whole, p) h some = sym (by_escape text to (NotText at) h (parts, written, whole, p) (λ e. cc e))
by_not_text text at (NotText to) (parts, written, whole, p) (other, also, wholly, q) some =
    ap NotText (one_not_text (components parts) at to p (there text (λ r. IsNotTextAt (components r) to) parts other written also q))
by_not_text text at (Qualifier to) (parts, written, whole, p) (other, also, wholly, good, q) some =
    absurd (no_other (components parts) at p (there text (λ r. AllText (components r)) parts other written also good))
by_not_text text at (DuplicateKey to) (parts, written, whole, p) (other, also, wholly, good, q) some =
    absurd (no_other (components parts) at p (there text (λ r. AllText (components r)) parts other written also good))
by_not_text text at NoMemory x h some = absurd (some refl)

by_qualifier : (text : List ℕ) (at : ℕ) (fault : PurlFault) → IsRefused text (Qualifier at) → IsRefused text fault → fault ≢ NoMemory → Qualifier at ≡ fault
by_qualifier text at Scheme (parts, written, whole, good, p) h some = absurd (h (with_scheme text parts written))
by_qualifier text at BadType (parts, written, whole, good, p) h some = absurd (h.1 (with_type text parts written))
by_qualifier text at Name (parts, written, whole, good, p) h some = absurd (h.1 parts written)
by_qualifier text at (Escape to) x h some = sym (by_escape text to (Qualifier at) h x (λ e. cc e))
by_qualifier text at (NotText to) x h some = sym (by_not_text text to (Qualifier at) h x (λ e. cc e))
by_qualifier text at (Qualifier to) (parts, written, whole, good, p) (other, also, wholly, well, q) some =
    ap Qualifier (one_bad (pieces_of parts) at to p (there text (λ r. IsBadPieceAt (pieces_of r) to) parts other written also q))
by_qualifier text at (DuplicateKey to) (parts, written, whole, good, p) (other, also, wholly, well, (keyed, are, q)) some =
    absurd (not_keyed (pieces_of parts) at keyed p (there text (λ r. AreKeyed (pieces_of r) keyed) parts other written also are))
by_qualifier text at NoMemory x h some = absurd (some refl)

by_key : (text : List ℕ) (at : ℕ) (fault : PurlFault) → IsRefused text (DuplicateKey at) → IsRefused text fault → fault ≢ NoMemory → DuplicateKey at ≡ fault
by_key text at Scheme (parts, written, whole, good, p) h some = absurd (h (with_scheme text parts written))
by_key text at BadType (parts, written, whole, good, p) h some = absurd (h.1 (with_type text parts written))
by_key text at Name (parts, written, whole, good, p) h some = absurd (h.1 parts written)
by_key text at (Escape to) x h some = sym (by_escape text to (DuplicateKey at) h x (λ e. cc e))
by_key text at (NotText to) x h some = sym (by_not_text text to (DuplicateKey at) h x (λ e. cc e))
by_key text at (Qualifier to) x h some = sym (by_qualifier text to (DuplicateKey at) h x (λ e. cc e))
by_key text at (DuplicateKey to) (parts, written, whole, good, (keyed, are, p)) (other, also, wholly, well, (found, be, q)) some =
    let same = one_keyed (pieces_of parts) found keyed (there text (λ r. AreKeyed (pieces_of r) found) parts other written also be) are in
    ap DuplicateKey (one_duplicate keyed at to p (subst (λ (l : List Entry). IsDuplicateAt l to) same q))
by_key text at NoMemory x h some = absurd (some refl)

pub one_refusal : (text : List ℕ) (fault other : PurlFault) → IsRefused text fault → IsRefused text other → fault ≢ NoMemory → other ≢ NoMemory → fault ≡ other
one_refusal text Scheme other x h some also = by_scheme text other x h also
one_refusal text BadType other x h some also = by_type text other x h also
one_refusal text Name other x h some also = by_name text other x h also
one_refusal text (Escape at) other x h some also = by_escape text at other x h also
one_refusal text (NotText at) other x h some also = by_not_text text at other x h also
one_refusal text (Qualifier at) other x h some also = by_qualifier text at other x h also
one_refusal text (DuplicateKey at) other x h some also = by_key text at other x h also
one_refusal text NoMemory other x h some also = absurd (some refl)
