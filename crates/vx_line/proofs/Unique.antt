-- Two lists of cuts that say the same of every place are order-equal cut by cut.
use Rattle.std.proofs.Common.{◌≡◌, Bool, true, false, not, cond, List, [], ◌∷◌, refl, sym, ap, ◌∙◌}
use Rattle.std.specs.declared.cmp.Ordering.{Ordering}
use Rattle.std.specs.declared.cmp.Ordering.TheVariants.{Less, Equal, Greater}
use Rattle.std.specs.Ordering.{ordering_reverse, is_gt}
use Rattle.std.specs.Cmp.{IsTotalOrder}
use Rattle.std.specs.List.{AllByRecursion}
use Rattle.std.proofs.lemmas.Cmp.{tied_itself, alike_right}
use Rattle.vx_spec.specs.Ascending.{IsAscending}
use Rattle.vx_line.specs.Line.{IsPlace, IsLevel, is_in}
use Rattle.vx_line.proofs.PlaceLaws.{none_below}
use Rattle.vx_line.proofs.Above.{above_lower}

module _ {C : Type 0} {R : C → C → Ordering} (o : IsTotalOrder R) where
  not_above : (c d e : C) (r s : Ordering) → R c e ≡ r → R d e ≡ s → R c d ≡ Less → not (is_gt r) ≡ false → not (is_gt s) ≡ false
  not_above c d e Less s f g l n = absurd (cc)
  not_above c d e Equal s f g l n = absurd (cc)
  not_above c d e Greater Greater f g l n = refl
  not_above c d e Greater Less f g l n = absurd (cc (f, o.trans c d e l g))
  not_above c d e Greater Equal f g l n = absurd (cc (f, l, alike_right o d e c g))

  -- the place directly above a cut
  pub above_cut : (e : C) → IsPlace R (λ c. not (is_gt (R c e)))
  above_cut e = record {
    upward = λ c d l n. not_above c d e (R c e) (R d e) refl refl l n;
    alike = λ c d t. ap (λ r. not (is_gt r)) (o.congr c d e t);
  }

  -- the place below all cuts
  pub lowest : IsPlace R (λ c. false)
  lowest = record { upward = λ c d l n. refl; alike = λ c d t. refl }

  higher : (e d : C) → R e d ≡ Less → not (is_gt (R d e)) ≡ false
  higher e d l = ap (λ r. not (is_gt r)) (o.antisymm d e ∙ ap ordering_reverse l)

  -- at the place above a cut, nothing changes behind it
  all_above : (e : C) (starts : Bool) (cuts : List C) → AllByRecursion (λ d. R e d ≡ Less) cuts → is_in (λ c. not (is_gt (R c e))) starts cuts ≡ starts
  all_above e starts [] h = refl
  all_above e starts (d ∷ cuts) h = rw (higher e d h.0) refl

  itself : (e : C) → not (is_gt (R e e)) ≡ true
  itself e = ap (λ r. not (is_gt r)) (tied_itself o e)

  -- directly above its first cut, a list has turned
  pub turned : (x : C) (p : Bool) (xs : List C) → AllByRecursion (λ d. R x d ≡ Less) xs → is_in (λ c. not (is_gt (R c x))) p (x ∷ xs) ≡ not p
  turned x p xs h = rw (itself x) (all_above x (not p) xs h)

  never : (p : Bool) → p ≡ not p → ⊥
  never true e = cc
  never false e = cc

  strip : (b b' p s t : Bool) → b ≡ b' → cond b s p ≡ cond b' t p → (b ≡ false → s ≡ t) → s ≡ t
  strip true true p s t e same f = same
  strip true false p s t e same f = absurd (cc)
  strip false true p s t e same f = absurd (cc)
  strip false false p s t e same f = f refl

  level_by : (p : Bool) (x : C) (xs : List C) (y : C) (ys : List C) → IsAscending R (x ∷ xs) → IsAscending R (y ∷ ys)
      → ((below : C → Bool) → IsPlace R below → is_in below p (x ∷ xs) ≡ is_in below p (y ∷ ys))
      → (r : Ordering) → R x y ≡ r
      → (((below : C → Bool) → IsPlace R below → is_in below (not p) xs ≡ is_in below (not p) ys) → IsLevel R xs ys)
      → IsLevel R (x ∷ xs) (y ∷ ys)
  level_by p x xs y ys s t same Less e i =
      absurd (never p (sym (all_above x p (y ∷ ys) (e, above_lower o x y ys e t.0)) ∙ sym (same (λ c. not (is_gt (R c x))) (above_cut x)) ∙ turned x p xs s.0))
  level_by p x xs y ys s t same Greater e i =
      let l : R y x ≡ Less = o.antisymm y x ∙ ap ordering_reverse e in
      absurd (never p (sym (all_above y p (x ∷ xs) (l, above_lower o y x xs l s.0)) ∙ same (λ c. not (is_gt (R c y))) (above_cut y) ∙ turned y p ys t.0))
  level_by p x xs y ys s t same Equal e i =
      (e, i (λ below place. strip (below x) (below y) p (is_in below (not p) xs) (is_in below (not p) ys) (place.alike x y e) (same below place) (λ n. none_below place x (not p) xs s.0 n ∙ sym (none_below place y (not p) ys t.0 (sym (place.alike x y e) ∙ n)))))

  -- two lists that say the same of every place are order-equal cut by cut
  pub unique : (p : Bool) (xs ys : List C) → IsAscending R xs → IsAscending R ys → ((below : C → Bool) → IsPlace R below → is_in below p xs ≡ is_in below p ys) → IsLevel R xs ys
  unique p [] [] s t same = tt
  unique p [] (y ∷ ys) s t same = absurd (never p (same (λ c. not (is_gt (R c y))) (above_cut y) ∙ turned y p ys t.0))
  unique p (x ∷ xs) [] s t same = absurd (never p (sym (same (λ c. not (is_gt (R c x))) (above_cut x)) ∙ turned x p xs s.0))
  unique p (x ∷ xs) (y ∷ ys) s t same = level_by p x xs y ys s t same (R x y) refl (λ same'. unique (not p) xs ys s.1 t.1 same')

  lowest_piece : (p : Bool) (xs : List C) → is_in (λ c. false) p xs ≡ p
  lowest_piece p [] = refl
  lowest_piece p (x ∷ xs) = refl

  -- and they agree on the piece below all cuts
  pub unique_start : (p q : Bool) (xs ys : List C) → ((below : C → Bool) → IsPlace R below → is_in below p xs ≡ is_in below q ys) → p ≡ q
  unique_start p q xs ys same = sym (lowest_piece p xs) ∙ same (λ c. false) lowest ∙ lowest_piece q ys
