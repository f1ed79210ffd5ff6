-- Texts that lack a byte; where a text is cut at a first or a last mark, and that it is cut there in one way.
use Rattle.std.proofs.Common.{◌≡◌, ◌≢◌, ◌<◌, ◌≤◌, ◌+◌, ◌-◌, ℕ, Bool, true, false, List, [], ◌∷◌, ◌++◌, length, get_or, take, drop, refl, sym, ap, ◌∙◌, subst, Option, Some, None, arith, append-nil, take-append-drop, length-append, length-drop}
use Rattle.std.specs.List.{list_all}
use Rattle.std.proofs.lemmas.Bool.{and_parts, false≢true}
use Rattle.std.proofs.lemmas.List.{drop_more, get_or-take, get_or-drop, length-take-le, take_rest}
use Rattle.vx_spec.specs.Marks.{Lacks, marked, IsCut, in_front, first_part, last_part, IsLastCut}
use Rattle.vx_spec.proofs.MarkLaws.{lacks, one_cut}

-- bytes that pass a test that the mark does not pass
pub lacks_by : (test : ℕ → Bool) (c : ℕ) → test c ≡ false → (text : List ℕ) → list_all test text ≡ true → Lacks c text
lacks_by test c fails [] all = tt
lacks_by test c fails (b ∷ text) all =
    let a = and_parts (test b) (list_all test text) all in
    (λ e. false≢true (sym fails ∙ sym (ap test e) ∙ a.0), lacks_by test c fails text a.1)

pub lacks_append : (c : ℕ) (a b : List ℕ) → Lacks c a → Lacks c b → Lacks c (a ++ b)
lacks_append c [] b p q = q
lacks_append c (x ∷ a) b p q = (p.0, lacks_append c a b p.1 q)

-- a text that holds the mark does not lack it
pub not_lacking : (c : ℕ) (xs t : List ℕ) → Lacks c (xs ++ c ∷ t) → ⊥
not_lacking c [] t p = p.0 refl
not_lacking c (x ∷ xs) t p = not_lacking c xs t p.1

-- ---- one cut

-- a text is cut at its first mark in one way
pub one_first_cut : (c : ℕ) (x y : Option (List ℕ)) (r s : List ℕ) → Lacks c (first_part x r) → Lacks c (first_part y s) → in_front c x r ≡ in_front c y s → (x ≡ y) × (r ≡ s)
one_first_cut c None None r s p q e = (refl, e)
one_first_cut c None (Some u) r s p q e = absurd (not_lacking c u s (subst (Lacks c) e p))
one_first_cut c (Some t) None r s p q e = absurd (not_lacking c t r (subst (Lacks c) (sym e) q))
one_first_cut c (Some t) (Some u) r s p q e = let k = one_cut c t u (Some r) (Some s) p q e in (cc (k.0), cc (k.1))

-- and at its last mark
pub one_last_cut : (c : ℕ) (a b : List ℕ) (x y : Option (List ℕ)) → Lacks c (last_part a x) → Lacks c (last_part b y) → a ++ marked c x ≡ b ++ marked c y → (a ≡ b) × (x ≡ y)
one_last_cut c a b None None p q e = (sym (append-nil a) ∙ e ∙ append-nil b, refl)
one_last_cut c a b None (Some t) p q e = absurd (not_lacking c b t (subst (Lacks c) (sym (append-nil a) ∙ e) p))
one_last_cut c a b (Some s) None p q e = absurd (not_lacking c a s (subst (Lacks c) (sym (append-nil b) ∙ sym e) q))
one_last_cut c [] [] (Some s) (Some t) p q e = (refl, cc e)
one_last_cut c [] (y ∷ ys) (Some s) (Some t) p q e = let f : s ≡ ys ++ c ∷ t = cc e in absurd (not_lacking c ys t (subst (Lacks c) f p))
one_last_cut c (x ∷ xs) [] (Some s) (Some t) p q e = let f : t ≡ xs ++ c ∷ s = cc e in absurd (not_lacking c xs s (subst (Lacks c) f q))
one_last_cut c (x ∷ xs) (y ∷ ys) (Some s) (Some t) p q e = let r = one_last_cut c xs ys (Some s) (Some t) p q (cc e) in (cc (e, r.0), r.1)

-- ---- where a text is cut

-- a list is its front, the byte at i and the rest
split_around : (xs : List ℕ) (i s : ℕ) → i < length xs → get_or xs i 0 ≡ s → xs ≡ take i xs ++ s ∷ drop (i + 1) xs
split_around xs i s inside here = sym (take-append-drop i xs) ∙ ap (λ l. take i xs ++ l) (drop_more xs i 0 inside ∙ ap (λ b. b ∷ drop (i + 1) xs) here)

pub cut_at : (c : ℕ) (text : List ℕ) (i : ℕ) → i < length text → get_or text i 0 ≡ c → ((k : ℕ) → k < i → get_or text k 0 ≢ c)
    → IsCut c text (take i text) (Some (take (length text - (i + 1)) (drop (i + 1) text)))
cut_at c text i inside here before = record {
  joined = split_around text i c inside here ∙ ap (λ (t : List ℕ). take i text ++ c ∷ t) (sym (take_rest text (i + 1)));
  first = lacks c (take i text) (λ k w. let below : k < i = omega (arith, length-take-le i text (omega (arith, inside))) in rw (get_or-take i text k 0 below) (before k below));
}

pub no_cut : (c : ℕ) (text : List ℕ) → ((k : ℕ) → k < length text → get_or text k 0 ≢ c) → IsCut c text text None
no_cut c text none = record { joined = sym (append-nil text); first = lacks c text none }

pub last_cut_at : (c : ℕ) (text : List ℕ) (i : ℕ) → i < length text → get_or text i 0 ≡ c → ((k : ℕ) → i + 1 ≤ k → k < length text → get_or text k 0 ≢ c)
    → IsLastCut c text (take i text) (Some (take (length text - (i + 1)) (drop (i + 1) text)))
last_cut_at c text i inside here after = record {
  joined = split_around text i c inside here ∙ ap (λ (t : List ℕ). take i text ++ c ∷ t) (sym (take_rest text (i + 1)));
  last = rw (take_rest text (i + 1)) (lacks c (drop (i + 1) text) (λ k w. rw (get_or-drop (i + 1) text k 0) (after (i + 1 + k) (omega arith) (omega (arith, length-drop (i + 1) text)))));
}

pub no_last_cut : (c : ℕ) (text : List ℕ) → ((k : ℕ) → k < length text → get_or text k 0 ≢ c) → IsLastCut c text text None
no_last_cut c text none = record { joined = sym (append-nil text); last = lacks c text none }

-- how long the parts of a cut are
pub cut_length : (c : ℕ) (text front rest : List ℕ) → IsCut c text front (Some rest) → length text ≡ length front + 1 + length rest
cut_length c text front rest cut = omega (arith, ap length cut.joined, length-append front (c ∷ rest))
