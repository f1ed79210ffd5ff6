use Rattle.std.proofs.Common.{◌≡◌, ◌<◌, ◌^◌, true, take}
use Rattle.std.specs.Char.{is_ascii_digit}
use Rattle.std.specs.List.{list_all}
use Rattle.vx_spec.specs.Numerals.{value}
use Rattle.vx_text.proofs.numerals.short_value.Given as goal

-- what was read is digits, and their value is at hand
abbrev pub invariant-loop-byte : goal.invariant-loop-byte
invariant-loop-byte l = record {
  digits : list_all is_ascii_digit (take l.byte-index l.text) ≡ true;
  number : l.number ≡ value (take l.byte-index l.text);
  below : l.number < 10 ^ l.byte-index;
}
