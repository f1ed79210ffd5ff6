-- The letters of the bytes so far are appended.
use Rattle.std.proofs.Common.{◌≡◌, ◌++◌, map, take}
use Rattle.deb_scheme.specs.Version.{byte_letter}
use Rattle.deb_scheme.proofs.letters.push_others.Given as goal

abbrev pub invariant-loop-byte : goal.invariant-loop-byte
invariant-loop-byte l = l.letters ≡ l.fn.letters ++ map byte_letter (take l.byte-index l.others)
