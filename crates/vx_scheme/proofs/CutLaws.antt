-- What the laws of an order give of cuts.
use Rattle.std.proofs.Common.{◌≡◌, Bool, true, false, Less, Equal, Greater, Ordering, sym, ap, refl, ◌∙◌}
use Rattle.std.specs.Cmp.{IsTotalOrder, alike_right}
use Rattle.std.specs.Ordering.{ordering_then, bool_cmp}
use Rattle.vx_scheme.specs.declared.span.Cut.{Cut}
use Rattle.vx_scheme.specs.Cuts.{stands_below, cut_below, cut_cmp}

-- a version that the cut after stands below, the cut before stands below too
before_of : (before after : Bool) (p : Ordering) → bool_cmp before after ≡ Less → stands_below p after ≡ true → stands_below p before ≡ true
before_of false true Less less below = refl
before_of false true Equal less below = absurd (cc)
before_of false true Greater less below = absurd (cc)
before_of false false p less below = absurd (cc)
before_of true after p less below = below_true after less
  where
    below_true : (after : Bool) → bool_cmp true after ≡ Less → stands_below p true ≡ true
    below_true true less = absurd (cc)
    below_true false less = absurd (cc)

module _ {V : Type 0} (order : V → V → Ordering) (laws : IsTotalOrder order) where
  below_by : (x y v : V) (before after : Bool) (o p : Ordering) → order x y ≡ o → order y v ≡ p → ordering_then o (bool_cmp before after) ≡ Less → stands_below p after ≡ true → stands_below (order x v) before ≡ true
  below_by x y v before after Less Less e f less below = ap (λ r. stands_below r before) (laws.trans x y v e f)
  below_by x y v before after Less Equal e f less below = ap (λ r. stands_below r before) (sym (alike_right laws y v x f) ∙ e)
  below_by x y v before after Less Greater e f less below = absurd (cc)
  below_by x y v before after Equal p e f less below = ap (λ r. stands_below r before) (laws.congr x y v e ∙ f) ∙ before_of before after p less below
  below_by x y v before after Greater p e f less below = absurd (cc)

  -- a version above a cut is above each lower cut
  pub cut_below-lower : (c d : Cut V) (v : V) → cut_cmp order c d ≡ Less → cut_below order d v ≡ true → cut_below order c v ≡ true
  cut_below-lower c d v = below_by c.version d.version v c.after d.after (order c.version d.version) (order d.version v) refl refl
