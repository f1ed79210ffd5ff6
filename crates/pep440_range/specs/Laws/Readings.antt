-- A text is cut in one way, and a piece is one construct at most, whose first numeral past the limit begins at one place.
use Rattle.std.proofs.Common.{◌≡◌, ℕ, List, refl, sym, ap, ◌∙◌, Option, Some, None}
use Rattle.vx_range.specs.Lists.{groups_of}
use Rattle.vx_range.specs.Reading.{PieceLaws, CutLaws}
use Rattle.pep440_scheme.specs.Version.{Fields}
use Rattle.pep440_scheme.specs.Laws.Reading.{one_reading}
use Rattle.pep440_range.specs.declared.construct.Comparison.{Comparison}
use Rattle.pep440_range.specs.declared.construct.Construct.{Construct}
use Rattle.pep440_range.specs.declared.construct.Construct.TheVariants.{Compares, Equal, NotEqual, Within, NotWithin}
use Rattle.pep440_range.specs.declared.construct.Operator.{Operator}
use Rattle.pep440_range.specs.declared.construct.Operator.TheVariants as operator_of
use Rattle.pep440_range.specs.Reading.{Begun, IsCut, ReadsAs, ReadsBy, Takes, TakesEither, TakesPublic, before_star, operand_of, operator_at}
use Rattle.pep440_range.specs.Refusals.{IsPast}

pub pypi_cuts : CutLaws IsCut
pypi_cuts = record {
  cut_one = λ text a b p q. p ∙ sym q;
  cut_some = λ text none. none (groups_of None text) refl;
}

one_either : (of_version of_release : Fields → Construct) (text : List ℕ) (star : Option (List ℕ)) (a b : Construct)
    → TakesEither of_version of_release text star a → TakesEither of_version of_release text star b → a ≡ b
one_either of_version of_release text None a b p q = p.2 ∙ ap of_version (one_reading text p.0 q.0 p.1 q.1) ∙ sym q.2
one_either of_version of_release text (Some front) a b p q =
    p.2 ∙ ap of_release (one_reading front p.0 q.0 p.1.spelled q.1.spelled) ∙ sym q.2

one_public : (how : Comparison) (text : List ℕ) (a b : Construct) → TakesPublic how text a → TakesPublic how text b → a ≡ b
one_public how text a b p q =
    p.is ∙ ap (λ (v : Fields). Compares how v) (one_reading text p.version q.version p.spelled q.spelled) ∙ sym q.is

one_taken : (operator : Operator) (text : List ℕ) (a b : Construct) → Takes operator text a → Takes operator text b → a ≡ b
one_taken operator_of.Identical text a b p q = p.is ∙ sym q.is
one_taken operator_of.Equal text a b p q = one_either Equal Within text (before_star text) a b p q
one_taken operator_of.NotEqual text a b p q = one_either NotEqual NotWithin text (before_star text) a b p q
one_taken (operator_of.Compares how) text a b p q = one_public how text a b p q

one_begun : (begun : Option Begun) (a b : Construct) → ReadsBy begun a → ReadsBy begun b → a ≡ b
one_begun None a b p q = absurd p
one_begun (Some begun) a b p q = one_taken begun.operator (operand_of begun) a b p q

pub pypi_pieces : PieceLaws ReadsAs IsPast
pypi_pieces = record {
  reads_one = λ piece a b p q. one_begun (operator_at piece.bytes) a b p q;
  past_one = λ piece a b p q. let e = sym p.first ∙ q.first in cc e;
  past_reads = λ piece at p. (p.construct, p.reads);
}
