use Rattle.std.proofs.Common.{◌≡◌, ◌≢◌, ◌∙◌, ap, sym, refl, subst, map, List, ℕ, [], ◌∷◌, length, Bool, false, IsTrue, arith, IsUtf8}
use Rattle.std.proofs.lemmas.Bool.{eqb-false, eqb-true}
use Rattle.std.proofs.lemmas.Result.{IfOk-weaker}
use Rattle.std.proofs.lemmas.Str.{IsUtf8-nil}
use Rattle.percent_encoding.proofs.PercentLemmas.{percent_decode-nil}
use Rattle.vx_text.specs.Escapes.{unescaped}
use Rattle.vx_text.specs.Folding.{lowered}
use Rattle.purl_core.specs.Value.{pair_view}
use Rattle.purl_core.specs.Spelling.{IsPiece}
use Rattle.purl_core.specs.Places.{AllText, IsText, value_in}
use Rattle.purl_core.specs.Steps.Placing.{part_view}
use Rattle.purl_core.specs.Steps.Pairing.{PutsPair, PutsPiece}
use Rattle.purl_core.proofs.SoFar.{first_value, key_text, puts_none, puts_some}
use Rattle.purl_core.proofs.pairing.push_piece.Goals as goal

empty_if : (text : List ℕ) → length text ≡ 0 → text ≡ []
empty_if [] none = refl
empty_if (b ∷ text) none = absurd (omega (arith, none))

none_text : (text : List ℕ) → text ≡ [] → IsText text
none_text text none = subst IsText (sym none) (subst IsUtf8 (sym percent_decode-nil) IsUtf8-nil)

value_passes : (at : ℕ) (piece : List ℕ) (pair : List ℕ × List ℕ) → IsPiece piece pair → IsText pair.1 → AllText (value_in at piece)
value_passes at piece pair is text = subst AllText (sym (first_value piece at pair is)) (text, tt)

pub push_pair-requires : goal.push_pair-requires
push_pair-requires c = key_text c.in-Some.key.now c.in-Some.ensures.key

pub returns-then-is_empty : goal.returns-then-is_empty
returns-then-is_empty c = λ told.
    let pair : List ℕ × List ℕ = (c.in-Some.key.now, c.in-Some.value.now) in
    let none = empty_if c.in-Some.value.now (eqb-true (length c.in-Some.value.now) 0 (sym c.is_empty.ensures ∙ c.if-is_empty.true)) in (
      value_passes c.args.piece.at c.args.piece.bytes.now pair c.in-Some.ensures (none_text c.in-Some.value.now none),
      puts_none (map pair_view c.args.pairs.now) (part_view c.args.piece) pair c.in-Some.ensures none,
    )

pub returns : goal.returns
returns c =
    let pair : List ℕ × List ℕ = (c.in-Some.key.now, c.in-Some.value.now) in
    let some : c.in-Some.value.now ≢ [] = λ e. eqb-false (length c.in-Some.value.now) 0 (sym c.is_empty.ensures ∙ c.if-is_empty.false) (ap length e) in
    let old = map pair_view c.args.pairs.now in
    let new = map pair_view c.push_pair.new.pairs in
    let piece = part_view c.args.piece in
    IfOk-weaker c.push_pair.result (λ (pushed : Bool). IsTrue pushed → IsText pair.1 × PutsPair old new (lowered pair.0, unescaped pair.1) false)
    (λ (pushed : Bool). IsTrue pushed → AllText (value_in piece.0 piece.1) × PutsPiece old new piece false)
    (λ pushed h told. (value_passes piece.0 piece.1 pair c.in-Some.ensures (h told).0, puts_some old new piece pair false c.in-Some.ensures some (h told).1))
    c.push_pair.ensures
