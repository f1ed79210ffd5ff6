-- The rows of the table exclude each other.
use Rattle.std.proofs.Common.{◌≡◌, ◌≢◌, ◌<◌, ℕ, List, [], ◌∷◌, Option, Some, None, length, refl, sym, ◌∙◌, arith}
use Rattle.vx_spec.proofs.MarkLaws.{one_cut}
use Rattle.vx_lines.specs.Lines.{Reading, ComesWith, FindsLine, FitsLine, IsFirstLine}
use Rattle.vx_lines.specs.declared.next_line.NextLine.{NextLine}
use Rattle.vx_lines.specs.declared.next_line.NextLine.TheVariants.{Line, TooLong, End, Failed, Limit}

module _ (most : ℕ) (input : List ℕ) (new : Reading) where
  short_or_long : FindsLine (FitsLine most new.line) input new → FindsLine (λ front. most < length front) input new → ⊥
  short_or_long a b =
      let same = one_cut 10 a.front b.front a.behind b.behind a.first.cut.first b.first.cut.first (sym a.first.cut.joined ∙ b.first.cut.joined) in
      omega (arith, a.is.short, rw (← same.0) at b.is)

  pub no_input : (front : List ℕ) (behind : Option (List ℕ)) → IsFirstLine new.ended [] front behind → ⊥
  no_input [] None first = omega (arith, first.last.1)
  no_input [] (Some rest) first = cc first.cut.joined
  no_input (x ∷ xs) behind first = cc first.cut.joined

  line_or_end : (Is : List ℕ → Type 0) → FindsLine Is input new → input ≡ [] → ⊥
  line_or_end Is a none = no_input a.front a.behind (rw none at a.first)

  below_or_full : new.taken < new.limit → new.taken ≡ new.limit → ⊥
  below_or_full below full = omega (arith, below, full)

pub one_answer : (most piece : ℕ) (a b : NextLine) (input : List ℕ) (new : Reading) → a ≢ Failed → b ≢ Failed → ComesWith most piece a input new → ComesWith most piece b input new → a ≡ b
one_answer most piece Line Line input new p q x y = refl
one_answer most piece Line TooLong input new p q x y = absurd (short_or_long most input new x y)
one_answer most piece Line End input new p q x y = absurd (line_or_end most input new _ x y.0)
one_answer most piece Line Limit input new p q x y = absurd (below_or_full most input new x.below y.0)
one_answer most piece TooLong Line input new p q x y = absurd (short_or_long most input new y x)
one_answer most piece TooLong TooLong input new p q x y = refl
one_answer most piece TooLong End input new p q x y = absurd (line_or_end most input new _ x y.0)
one_answer most piece TooLong Limit input new p q x y = absurd (below_or_full most input new x.below y.0)
one_answer most piece End Line input new p q x y = absurd (line_or_end most input new _ y x.0)
one_answer most piece End TooLong input new p q x y = absurd (line_or_end most input new _ y x.0)
one_answer most piece End End input new p q x y = refl
one_answer most piece End Limit input new p q x y = absurd (below_or_full most input new x.2 y.0)
one_answer most piece Limit Line input new p q x y = absurd (below_or_full most input new y.below x.0)
one_answer most piece Limit TooLong input new p q x y = absurd (below_or_full most input new y.below x.0)
one_answer most piece Limit End input new p q x y = absurd (below_or_full most input new y.2 x.0)
one_answer most piece Limit Limit input new p q x y = refl
one_answer most piece Failed b input new p q x y = absurd (p refl)
one_answer most piece a Failed input new p q x y = absurd (q refl)
