-- The parts of a text as the program holds them.
use Rattle.std.specs.Prelude.{Option, Some, None}
use Rattle.std.specs.Option.{option_copied}
use Rattle.pep440_scheme.specs.declared.words.BegunWord.{BegunWord}
use Rattle.pep440_scheme.specs.declared.words.Suffix.{Suffix}
use Rattle.pep440_scheme.specs.declared.spelling.WrittenPre.{WrittenPre}
use Rattle.pep440_scheme.specs.declared.spelling.Written.{Written}
use Rattle.pep440_scheme.specs.Steps.Apart.{Begun, Taken, PreTaken, Apart}

abbrev pub begun : Option BegunWord → Option Begun
begun None = None
begun (Some word) = Some (record { mark = word.mark; rest = word.rest.now })

abbrev pub taken : Option Suffix → Option Taken
taken None = None
taken (Some suffix) = Some (record { mark = suffix.mark; digits = suffix.digits.now; rest = suffix.rest.now })

abbrev pub pre_taken : Option WrittenPre → Option PreTaken
pre_taken None = None
pre_taken (Some pre) = Some (record { kind = pre.kind; digits = pre.digits.now })

-- the parts that the program holds
abbrev pub parts : Written → Apart
parts w = record {
  epoch = option_copied w.epoch;
  release = w.release.now;
  pre = pre_taken w.pre;
  post = option_copied w.post;
  dev = option_copied w.dev;
  label = w.label.now;
}
