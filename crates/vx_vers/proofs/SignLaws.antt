-- The longest comparator that a text begins with: there is one, and only one.
use Rattle.std.proofs.Common.{◌≡◌, ◌≢◌, ◌≤◌, ◌++◌, eqb, cond, ℕ, List, [], ◌∷◌, length, get_or, refl, sym, ap, ◌∙◌, inl, inr, arith}
use Rattle.std.specs.Prelude.{codes}
use Rattle.vx_vers.specs.declared.constraints.Comparator.{Comparator}
use Rattle.vx_vers.specs.declared.constraints.Comparator.TheVariants.{Equal as EqualTo, NotEqual as NotEqualTo, Less as LessThan, LessEqual as AtMost, Greater as GreaterThan, GreaterEqual as AtLeast}
use Rattle.vx_vers.specs.Grammar.{IsSigned, Writes}
use Rattle.vx_vers.specs.Steps.Reading.{HasNoLongSign}

-- no comparator is longer than two bytes
short : (front : List ℕ) (c : Comparator) → Writes front c → length front ≤ 2
short front EqualTo (inl w) = let n : length front ≡ 0 = ap length w in omega arith
short front NotEqualTo (inl w) = let n : length front ≡ 2 = ap length w in omega arith
short front LessThan (inl w) = let n : length front ≡ 1 = ap length w in omega arith
short front AtMost (inl w) = let n : length front ≡ 2 = ap length w in omega arith
short front GreaterThan (inl w) = let n : length front ≡ 1 = ap length w in omega arith
short front AtLeast (inl w) = let n : length front ≡ 2 = ap length w in omega arith
short front c (inr w) = let n : length front ≡ 1 = ap length w.1 in omega arith

pub signed_long : (text front rest : List ℕ) (c : Comparator) → Writes front c → length front ≡ 2 → text ≡ front ++ rest → IsSigned text c rest
signed_long text front rest c w two e = record {
  front = front;
  writes = w;
  joined = e;
  longest = λ other d more v f. omega (arith, two, short other d v);
}

-- where none of two bytes fits, what fits is of one byte or none
not_long : (text other more : List ℕ) (c : Comparator) → HasNoLongSign text → Writes other c → text ≡ other ++ more → length other ≤ 1
not_long text other more EqualTo none (inl w) e = let n : length other ≡ 0 = ap length w in omega arith
not_long text other more NotEqualTo none (inl w) e = absurd (none.2 more (e ∙ ap (λ (o : List ℕ). o ++ more) w))
not_long text other more LessThan none (inl w) e = let n : length other ≡ 1 = ap length w in omega arith
not_long text other more AtMost none (inl w) e = absurd (none.0 more (e ∙ ap (λ (o : List ℕ). o ++ more) w))
not_long text other more GreaterThan none (inl w) e = let n : length other ≡ 1 = ap length w in omega arith
not_long text other more AtLeast none (inl w) e = absurd (none.1 more (e ∙ ap (λ (o : List ℕ). o ++ more) w))
not_long text other more c none (inr w) e = let n : length other ≡ 1 = ap length w.1 in omega arith

pub signed_short : (text front rest : List ℕ) (c : Comparator) → HasNoLongSign text → Writes front c → length front ≡ 1 → text ≡ front ++ rest → IsSigned text c rest
signed_short text front rest c none w one e = record {
  front = front;
  writes = w;
  joined = e;
  longest = λ other d more v f. omega (arith, one, not_long text other more d none v f);
}

-- where none fits, nothing is written
none_fits : (text other more : List ℕ) (c : Comparator) → HasNoLongSign text → ((rest : List ℕ) → text ≢ codes "<" ++ rest) → ((rest : List ℕ) → text ≢ codes ">" ++ rest) → ((rest : List ℕ) → text ≢ codes "=" ++ rest) → Writes other c → text ≡ other ++ more → length other ≤ 0
none_fits text other more EqualTo none less greater equal (inl w) e = let n : length other ≡ 0 = ap length w in omega arith
none_fits text other more NotEqualTo none less greater equal (inl w) e = absurd (none.2 more (e ∙ ap (λ (o : List ℕ). o ++ more) w))
none_fits text other more LessThan none less greater equal (inl w) e = absurd (less more (e ∙ ap (λ (o : List ℕ). o ++ more) w))
none_fits text other more AtMost none less greater equal (inl w) e = absurd (none.0 more (e ∙ ap (λ (o : List ℕ). o ++ more) w))
none_fits text other more GreaterThan none less greater equal (inl w) e = absurd (greater more (e ∙ ap (λ (o : List ℕ). o ++ more) w))
none_fits text other more AtLeast none less greater equal (inl w) e = absurd (none.1 more (e ∙ ap (λ (o : List ℕ). o ++ more) w))
none_fits text other more c none less greater equal (inr w) e = absurd (equal more (e ∙ ap (λ (o : List ℕ). o ++ more) w.1))

pub signed_none : (text : List ℕ) → HasNoLongSign text → ((rest : List ℕ) → text ≢ codes "<" ++ rest) → ((rest : List ℕ) → text ≢ codes ">" ++ rest) → ((rest : List ℕ) → text ≢ codes "=" ++ rest) → IsSigned text EqualTo text
signed_none text none less greater equal = record {
  front = [];
  writes = inl refl;
  joined = refl;
  longest = λ other d more v f. none_fits text other more d none less greater equal v f;
}

-- the comparator that is written so
sign_read : List ℕ → Comparator
sign_read front =
    cond (eqb (get_or front 0 0) 33) NotEqualTo
    (cond (eqb (get_or front 0 0) 60) (cond (eqb (length front) 1) LessThan AtMost)
    (cond (eqb (get_or front 0 0) 62) (cond (eqb (length front) 1) GreaterThan AtLeast) EqualTo))

sign_is : (front : List ℕ) (c : Comparator) → Writes front c → sign_read front ≡ c
unfolding sign_read
sign_is front EqualTo (inl w) = ap sign_read w
sign_is front NotEqualTo (inl w) = ap sign_read w
sign_is front LessThan (inl w) = ap sign_read w
sign_is front AtMost (inl w) = ap sign_read w
sign_is front GreaterThan (inl w) = ap sign_read w
sign_is front AtLeast (inl w) = ap sign_read w
sign_is front c (inr w) = ap sign_read w.1 ∙ sym w.0

same_length : (a b r s : List ℕ) → length a ≡ length b → a ++ r ≡ b ++ s → (a ≡ b) × (r ≡ s)
same_length [] [] r s n e = (refl, e)
same_length [] (y ∷ b) r s n e = absurd (omega arith)
same_length (x ∷ a) [] r s n e = absurd (omega arith)
same_length (x ∷ a) (y ∷ b) r s n e = let h = same_length a b r s (omega arith) (cc e) in (cc (e, h.0), h.1)

-- a text has one longest comparator
pub one_sign : {text r s : List ℕ} {c d : Comparator} → IsSigned text c r → IsSigned text d s → (c ≡ d) × (r ≡ s)
one_sign {text} {r} {s} {c} {d} p q =
    let n : length p.front ≡ length q.front = omega (arith, p.longest q.front d s q.writes q.joined, q.longest p.front c r p.writes p.joined) in
    let h = same_length p.front q.front r s n (sym p.joined ∙ q.joined) in
    (sym (sign_is p.front c p.writes) ∙ ap sign_read h.0 ∙ sign_is q.front d q.writes, h.1)
