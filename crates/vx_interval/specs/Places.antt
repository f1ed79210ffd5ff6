-- Places of the line of versions.
use Rattle.std.specs.Prelude.{Bool}
use Rattle.std.specs.declared.cmp.Ordering.{Ordering}
use Rattle.vx_scheme.specs.declared.span.Cut.{Cut}
use Rattle.vx_scheme.specs.Cuts.{cut_cmp}
use Rattle.vx_line.specs.Line.{IsPlace}

-- the fact holds at each place of the line, which is given by the cuts that stand below it
abbrev pub AtEachPlace : {V : Type 0} → (V → V → Ordering) → ((Cut V → Bool) → Type 0) → Type 0
AtEachPlace {V} order P = (below : Cut V → Bool) → IsPlace (cut_cmp order) below → P below
