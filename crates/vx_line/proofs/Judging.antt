-- Judging each piece of a line gives a list of cuts that says what the judge says.
use Rattle.std.proofs.Common.{◌≡◌, Bool, true, false, not, cond, ◌||◌, List, [], ◌∷◌, refl, sym, ap, ◌∙◌}
use Rattle.std.specs.declared.cmp.Ordering.{Ordering}
use Rattle.std.specs.declared.cmp.Ordering.TheVariants.{Less, Equal, Greater}
use Rattle.std.specs.Ordering.{ordering_reverse, is_gt}
use Rattle.std.specs.Cmp.{IsTotalOrder}
use Rattle.std.specs.List.{AllByRecursion}
use Rattle.std.proofs.lemmas.Cmp.{tied_itself}
use Rattle.vx_spec.specs.Ascending.{IsAscending}
use Rattle.vx_line.specs.Line.{IsPlace, is_in, emit, judged}
use Rattle.vx_line.proofs.InOrder.{All-emit, emit_in_order}
use Rattle.vx_line.proofs.Merging.{emitted}

module _ {C : Type 0} {R : C → C → Ordering} (o : IsTotalOrder R) where
  -- d lies at or below c
  abbrev pub upto : C → C → Bool
  upto c d = not (is_gt (R d c))

  abbrev pub Depends : ((C → Bool) → Bool) → List C → Type 0
  Depends test line = (b b' : C → Bool) → AllByRecursion (λ d. b d ≡ b' d) line → test b ≡ test b'

  map_all : {P Q : C → Type 0} (line : List C) → ((d : C) → P d → Q d) → AllByRecursion P line → AllByRecursion Q line
  map_all [] f h = tt
  map_all (d ∷ line) f h = (f d h.0, map_all line f h.1)

  pub each : {Q : C → Type 0} (line : List C) → ((d : C) → Q d) → AllByRecursion Q line
  each [] f = tt
  each (d ∷ line) f = (f d, each line f)

  itself : (c : C) → upto c c ≡ true
  itself c = ap (λ r. not (is_gt r)) (tied_itself o c)

  higher : (c d : C) → R c d ≡ Less → upto c d ≡ false
  higher c d l = ap (λ r. not (is_gt r)) (o.antisymm d c ∙ ap ordering_reverse l)

  or_none : (b : Bool) → (b || false) ≡ b
  or_none true = refl
  or_none false = refl

  absorbed : (a b : Bool) → (b ≡ false → a ≡ false) → (a || b) ≡ b
  absorbed true true f = refl
  absorbed true false f = f refl
  absorbed false b f = refl

  pub judged_same : (test test' : (C → Bool) → Bool) (x : Bool) (line : List C) → AllByRecursion (λ e. test (upto e) ≡ test' (upto e)) line → judged R test x line ≡ judged R test' x line
  judged_same test test' x [] h = refl
  judged_same test test' x (c ∷ line) h = λ i. emit x (h.0 i) c ((judged_same test test' (test (upto c)) line h.1 ∙ ap (λ y. judged R test' y line) h.0) i)

  by_below : (b x t u : Bool) → (b ≡ true → t ≡ u) → (b ≡ false → x ≡ u) → cond b t x ≡ u
  by_below true x t u f g = f refl
  by_below false x t u f g = g refl

  pub judged_means : (line : List C) → IsAscending R line → (test : (C → Bool) → Bool) → Depends test line → (x : Bool) → x ≡ test (λ d. false) → (below : C → Bool) → IsPlace R below → is_in below x (judged R test x line) ≡ test below
  judged_means [] s test depends x x_is below place = x_is ∙ depends (λ d. false) below tt
  judged_means (c ∷ rest) s test depends x x_is below place =
      let y = test (upto c) in
      let same : judged R test y rest ≡ judged R (λ b. test (λ d. upto c d || b d)) y rest =
      judged_same test (λ b. test (λ d. upto c d || b d)) y rest (map_all rest (λ e l. depends (upto e) (λ d. upto c d || upto e d) (each (c ∷ rest) (λ d. sym (absorbed (upto c d) (upto e d) (λ n. lower c d e l n))))) s.0) in
      let said : is_in below y (judged R test y rest) ≡ test (λ d. upto c d || below d) =
      ap (λ l. is_in below y l) same
      ∙ judged_means rest s.1 (λ b. test (λ d. upto c d || b d)) (λ b b' h. depends (λ d. upto c d || b d) (λ d. upto c d || b' d) (rw (itself c) refl, map_all rest (λ d e. ap (λ w. upto c d || w) e) h))
      y (depends (upto c) (λ d. upto c d || false) (each (c ∷ rest) (λ d. sym (or_none (upto c d))))) below place in
      emitted o place x y c (judged R test y rest) (λ n. said ∙ depends (λ d. upto c d || below d) (upto c) (rw (itself c) refl, map_all rest (λ d l. rw (place.upward c d l n) (or_none (upto c d))) s.0))
      ∙ by_below (below c) x (is_in below y (judged R test y rest)) (test below)
      (λ t. said ∙ depends (λ d. upto c d || below d) below (rw (itself c, t) refl, map_all rest (λ d l. rw (higher c d l) refl) s.0))
      (λ n. x_is ∙ depends (λ d. false) below (sym n, map_all rest (λ d l. sym (place.upward c d l n)) s.0))
    where
      not_above : (d c e : C) (r t : Ordering) → R d e ≡ r → R d c ≡ t → R c e ≡ Less → not (is_gt r) ≡ false → not (is_gt t) ≡ false
      not_above d c e r Greater f g l n = refl
      not_above d c e Less t f g l n = absurd (cc)
      not_above d c e Equal t f g l n = absurd (cc)
      not_above d c e Greater Less f g l n = absurd (cc (f, o.trans d c e g l))
      not_above d c e Greater Equal f g l n = absurd (cc (f, o.congr d c e g, l))

      lower : (c d e : C) → R c e ≡ Less → upto e d ≡ false → upto c d ≡ false
      lower c d e l n = not_above d c e (R d e) (R d c) refl refl l n

  -- the judged cuts are cuts of the line
  pub All-judged : (P : C → Type 0) (test : (C → Bool) → Bool) (x : Bool) (line : List C) → AllByRecursion P line → AllByRecursion P (judged R test x line)
  All-judged P test x [] h = tt
  All-judged P test x (c ∷ line) h = All-emit P x (test (upto c)) c (judged R test (test (upto c)) line) h.0 (All-judged P test (test (upto c)) line h.1)

  pub judged_in_order : (test : (C → Bool) → Bool) (x : Bool) (line : List C) → IsAscending R line → IsAscending R (judged R test x line)
  judged_in_order test x [] s = tt
  judged_in_order test x (c ∷ line) s =
      emit_in_order o (λ p q. q) x (test (upto c)) c (judged R test (test (upto c)) line)
      (All-judged (λ d. R c d ≡ Less) test (test (upto c)) line s.0) (judged_in_order test (test (upto c)) line s.1)
