use Rattle.std.proofs.Common.{map, string_bytes}
use Rattle.vx_text.specs.Escapes.{unescaped}
use Rattle.vx_text.specs.Folding.{lowered}
use Rattle.std.specs.Prelude.{is_some}
use Rattle.purl_core.specs.Steps.Pairing.{entry_view}
use Rattle.purl_core.proofs.SoFar.{put_is, puts_as}
use Rattle.purl_core.proofs.pairing.put_pair.Goals as goal

pub unreachable-requires : goal.unreachable-requires
unreachable-requires c = (rw c.in_default.is at c.in_ok-plain.ensures) c.requires.text

pub returns-in-Ok : goal.returns-in-Ok
returns-in-Ok c =
    let old = c.args.found.now.entries in
    let new = c.insert.new.self.entries in
    puts_as (map entry_view old) (map entry_view new) (string_bytes c.in_ok-low.low) c.in-Some.plain (lowered c.args.key.now) (unescaped c.args.value.now)
    (is_some c.in-Ok.old) c.is_some.result c.in_ok-low.ensures (rw c.in-Some.is at c.in_ok-plain.ensures).1 c.is_some.ensures
    (put_is c.in_ok-low.low c.in-Some.plain old new c.in-Ok.old c.in-Ok.ensures.old c.in-Ok.ensures.entries)
