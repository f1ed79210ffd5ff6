use Rattle.std.proofs.Common.{◌≤◌, ◌+◌, ◌-◌, ◌∙◌, ◌++◌, ap, sym, arith, drop, length, take, length-take}
use Rattle.std.proofs.lemmas.List.{drop_all, drop-drop, length-drop}
use Rattle.vx_lines.proofs.Parts.{given_of_front}
use Rattle.vx_lines.proofs.memory_source.MemorySourceSource.read.Goals as goal

pub returns-clause-bytes : goal.returns-clause-bytes
returns-clause-bytes c =
    let bytes = c.self.inside.bytes.items in
    let at = c.self.inside.at in
    let n = c.copy_front-count.result in
    let m = c.min-most.result - at in
    let left = sym (ap (λ source. source.left) c.self.view_is) in
    let is = rw c.deref.ensures.value at c.copy_front-count.ensures in
    let fits : n ≤ length (take m (drop at bytes)) = omega (arith, is.count) in
    let whole = given_of_front (drop at bytes) (take n c.copy_front-count.new.buf) m n fits is.given in (
      left ∙ whole ∙ ap (λ l. take n c.copy_front-count.new.buf ++ l) (drop-drop n at bytes),
      λ none some. drop_all (at + n) bytes (grind (arith, none, some, is.count, length-take, length-drop)),
    )
