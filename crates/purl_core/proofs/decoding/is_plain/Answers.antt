use Rattle.std.proofs.Common.{◌≡◌, ◌∙◌, sym, refl, Bool, true, false}
use Rattle.std.specs.Prelude.{not}
use Rattle.purl_core.proofs.Plain.{lacks_if}
use Rattle.purl_core.proofs.decoding.is_plain.Goals as goal

flipped : (x : Bool) → not x ≡ true → x ≡ false
flipped true e = sym e
flipped false e = refl

pub returns : goal.returns
returns c = λ told. lacks_if 37 c.args.bytes.now (sym c.contains.ensures.value ∙ flipped c.contains.result told)
