-- What stays as it is where constraints are dropped.
use Rattle.std.proofs.Common.{◌≡◌, Bool, true, false, ◌||◌, cond, List, [], ◌∷◌, ◌++◌, ◌⊎◌, refl, ap, ◌∙◌, inl, inr}
use Rattle.std.proofs.lemmas.Bool.{cond_both, or_parts, or_from}
use Rattle.vx_vers.specs.Meaning.{Kind, point, hole, opening, closing, opens_next, opens_last, closes_here, closes_first}
use Rattle.vx_simplify.specs.Simplified.{is_dropped, stays_behind, simplified, IsSubList, at_end, left_out, kept_on}

-- two answers are the same, except that the second may be false where `free` is true
abbrev pub Agree : Bool → Bool → Bool → Type 0
Agree r s free = (r ≡ s) ⊎ ((s ≡ false) × (free ≡ true))

agree_closed : (r s free : Bool) → free ≡ false → Agree r s free → r ≡ s
agree_closed r s free e = elim [ inl h ↦ h | inr h ↦ let q = h.1 in cc ]

agree_true : (r s free : Bool) → s ≡ true → Agree r s free → r ≡ true
agree_true r s free e = elim [ inl h ↦ cc | inr h ↦ let q = h.0 in cc ]

module _ {C : Type 0} (kind : C → Kind) where
  -- the same as `stays_behind`, by what is known of the constraints before and behind
  abbrev pub kept : Bool → Bool → List C → List C
  kept p n [] = []
  kept p n (c ∷ list) = cond (is_dropped p (kind c) (closes_first kind list n)) (kept (opens_next p (kind c)) n list) (c ∷ kept (opens_next p (kind c)) n list)

  pub opens_last-append : (p : Bool) (xs ys : List C) → opens_last kind p (xs ++ ys) ≡ opens_last kind (opens_last kind p xs) ys
  opens_last-append p [] ys = refl
  opens_last-append p (x ∷ xs) ys = opens_last-append (opens_next p (kind x)) xs ys

  pub closes_first-append : (n : Bool) (xs ys : List C) → closes_first kind (xs ++ ys) n ≡ closes_first kind xs (closes_first kind ys n)
  closes_first-append n [] ys = refl
  closes_first-append n (x ∷ xs) ys = ap (closes_here (kind x)) (closes_first-append n xs ys)

  behind_both : (b : Bool) (x : C) (xs ys : List C) → cond b (xs ++ ys) (x ∷ (xs ++ ys)) ≡ cond b xs (x ∷ xs) ++ ys
  behind_both true x xs ys = refl
  behind_both false x xs ys = refl

  pub kept-append : (p n : Bool) (xs ys : List C) → kept p n (xs ++ ys) ≡ kept p (closes_first kind ys n) xs ++ kept (opens_last kind p xs) n ys
  kept-append p n [] ys = refl
  kept-append p n (x ∷ xs) ys = rw (closes_first-append n xs ys, kept-append (opens_next p (kind x)) n xs ys) (behind_both (is_dropped p (kind x) (closes_first kind xs (closes_first kind ys n))) x (kept (opens_next p (kind x)) (closes_first kind ys n) xs) (kept (opens_last kind (opens_next p (kind x)) xs) n ys))

  pub stays_behind-kept : (before list : List C) → stays_behind kind before list ≡ kept (opens_last kind false before) false list
  stays_behind-kept before [] = refl
  stays_behind-kept before (c ∷ list) = rw (stays_behind-kept (before ++ c ∷ []) list, opens_last-append false before (c ∷ [])) refl

  pub simplified-kept : (list : List C) → simplified kind list ≡ kept false false list
  simplified-kept list = stays_behind-kept [] list

  -- ---- the first range constraint

  closes_step : (p n : Bool) (c : C) (rest : List C) (m : Bool) (x : Kind) → kind c ≡ x → Agree (closes_first kind rest n) m (opens_next p x) → Agree (closes_first kind (cond (is_dropped p x m) rest (c ∷ rest)) n) (closes_here x m) p
  closes_step p n c rest m point e i = cond_both (p || m) rest (c ∷ rest) (λ w. Agree (closes_first kind w n) m p) (λ t. i) (λ t. rw e i)
  closes_step p n c rest m hole e i = rw e i
  closes_step p n c rest m opening e i = cond_both p rest (c ∷ rest) (λ w. Agree (closes_first kind w n) false p) (λ t. inr (refl, t)) (λ t. rw e (inl refl))
  closes_step p n c rest m closing e i = cond_both m rest (c ∷ rest) (λ w. Agree (closes_first kind w n) true p) (λ t. inl (agree_true _ m false t i)) (λ t. rw e (inl refl))

  pub closes_agree : (p n : Bool) (list : List C) → Agree (closes_first kind (kept p n list) n) (closes_first kind list n) p
  closes_agree p n [] = inl refl
  closes_agree p n (c ∷ list) = closes_step p n c (kept (opens_next p (kind c)) n list) (closes_first kind list n) (kind c) refl (closes_agree (opens_next p (kind c)) n list)

  -- ---- what goes on, of anything that depends on the last range constraint: p of what was kept, and q of the whole

  agree_next : (p q m : Bool) (x : Kind) → Agree p q (closes_here x m) → is_dropped q x m ≡ true → Agree p (opens_next q x) m
  agree_next p q m point a t = a
  agree_next p q m hole a t = a
  agree_next p q m opening a t = inl (agree_closed p q false refl a ∙ t)
  agree_next p q m closing a t = inr (refl, t)

  agree_kept : (p q m : Bool) (x : Kind) → Agree p q (closes_here x m) → Agree (opens_next p x) (opens_next q x) m
  agree_kept p q m point a = a
  agree_kept p q m hole a = a
  agree_kept p q m opening a = inl refl
  agree_kept p q m closing a = inl refl

  pub opens_agree : (p q n : Bool) (list : List C) → Agree p q (closes_first kind list n) → Agree (opens_last kind p (kept q n list)) (opens_last kind q list) n
  opens_agree p q n [] a = a
  opens_agree p q n (c ∷ list) a =
      cond_both (is_dropped q (kind c) (closes_first kind list n)) (kept (opens_next q (kind c)) n list) (c ∷ kept (opens_next q (kind c)) n list)
      (λ w. Agree (opens_last kind p w) (opens_last kind (opens_next q (kind c)) list) n)
      (λ t. opens_agree p (opens_next q (kind c)) n list (agree_next p q (closes_first kind list n) (kind c) a t))
      (λ t. opens_agree (opens_next p (kind c)) (opens_next q (kind c)) n list (agree_kept p q (closes_first kind list n) (kind c) a))

  -- ---- a list from which nothing would be dropped

  abbrev pub IsClean : Bool → Bool → List C → Type 0
  IsClean p n [] = Unit {0}
  IsClean p n (c ∷ list) = (is_dropped p (kind c) (closes_first kind list n) ≡ false) × IsClean (opens_next p (kind c)) n list

  pub kept_of_clean : (p n : Bool) (list : List C) → IsClean p n list → kept p n list ≡ list
  kept_of_clean p n [] h = refl
  kept_of_clean p n (c ∷ list) h = rw (h.0, kept_of_clean (opens_next p (kind c)) n list h.1) refl

  clean_here : (p q m m' : Bool) (x : Kind) → Agree p q (closes_here x m) → Agree m' m (opens_next q x) → is_dropped q x m ≡ false → is_dropped p x m' ≡ false
  clean_here p q m m' point a b t =
      let h = or_parts q m t in
      or_from p m' (agree_closed p q m h.1 a ∙ h.0) (agree_closed m' m q h.0 b ∙ h.1)
  clean_here p q m m' hole a b t = refl
  clean_here p q m m' opening a b t = agree_closed p q false refl a ∙ t
  clean_here p q m m' closing a b t = agree_closed m' m false refl b ∙ t

  pub kept_is_clean : (p q n : Bool) (list : List C) → Agree p q (closes_first kind list n) → IsClean p n (kept q n list)
  kept_is_clean p q n [] a = tt
  kept_is_clean p q n (c ∷ list) a =
      cond_both (is_dropped q (kind c) (closes_first kind list n)) (kept (opens_next q (kind c)) n list) (c ∷ kept (opens_next q (kind c)) n list)
      (λ w. IsClean p n w)
      (λ t. kept_is_clean p (opens_next q (kind c)) n list (agree_next p q (closes_first kind list n) (kind c) a t))
      (λ t. (clean_here p q (closes_first kind list n) _ (kind c) a (closes_agree (opens_next q (kind c)) n list) t, kept_is_clean (opens_next p (kind c)) (opens_next q (kind c)) n list (agree_kept p q (closes_first kind list n) (kind c) a)))

  pub simplified_is_clean : (list : List C) → IsClean false false (simplified kind list)
  simplified_is_clean list = rw (simplified-kept list) (kept_is_clean false false false list (inl refl))

  pub simplified_once : (list : List C) → simplified kind (simplified kind list) ≡ simplified kind list
  simplified_once list = simplified-kept (simplified kind list) ∙ kept_of_clean false false (simplified kind list) (simplified_is_clean list)

  sub_list_kept : (p n : Bool) (list : List C) → IsSubList (kept p n list) list
  sub_list_kept p n [] = at_end
  sub_list_kept p n (c ∷ list) =
      let rest = kept (opens_next p (kind c)) n list in
      let i : IsSubList rest list = sub_list_kept (opens_next p (kind c)) n list in
      cond_both (is_dropped p (kind c) (closes_first kind list n)) rest (c ∷ rest) (λ w. IsSubList w (c ∷ list)) (λ t. left_out c rest list i) (λ t. kept_on c rest list i)

  pub simplified_is_sub_list : (list : List C) → IsSubList (simplified kind list) list
  simplified_is_sub_list list = rw (simplified-kept list) (sub_list_kept false false list)
