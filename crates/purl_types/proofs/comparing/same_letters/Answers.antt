use Rattle.std.specs.Char.{to_ascii_lowercase}
use Rattle.purl_types.specs.Same.{SameLetter}
use Rattle.purl_types.proofs.Letters.{letter_if, letter_only, list_if, list_only}
use Rattle.purl_types.proofs.comparing.same_letters.Goals as goal

pub returns : goal.returns
returns c = (
  (λ told. list_if SameLetter to_ascii_lowercase letter_if c.args.a.now c.args.b.now (c.same_folded.ensures.0 told)),
  (λ same. c.same_folded.ensures.1 (list_only SameLetter to_ascii_lowercase letter_only c.args.a.now c.args.b.now same)),
)
