-- What has the form of a partial: it is UTF-8; and what a piece with a partial is.
use Rattle.std.proofs.Common.{◌≡◌, ◌<◌, ℕ, List, [], ◌∷◌, true, false, refl, sym, ap, ◌∙◌, subst, inl, inr, arith, lit<, None}
use Rattle.std.specs.Char.{is_ascii_digit}
use Rattle.std.specs.List.{AllByRecursion}
use Rattle.std.specs.Str.{IsUtf8}
use Rattle.std.proofs.lemmas.Bool.Decides.{nat_tests}
use Rattle.vx_spec.proofs.TextLaws.{utf8_by_each}
use Rattle.vx_range.specs.declared.piece.PieceReading.{PieceReading}
use Rattle.vx_range.specs.declared.piece.PieceReading.TheVariants as reading_of
use Rattle.vx_range.specs.Pieces.{Written}
use Rattle.vx_range.specs.Reading.{AnswersPiece, IsConstruct}
use Rattle.vx_order.specs.PastParts.{first_past_part}
use Rattle.npm_scheme.specs.Version.{without_build}
use Rattle.npm_scheme.specs.Spelling.{Parts, version_of}
use Rattle.npm_scheme.specs.Written.{IsVersionWritten, NoVersionWritten}
use Rattle.npm_range.specs.declared.cutting.Kind.{Kind}
use Rattle.npm_range.specs.declared.construct.Operator.{Operator}
use Rattle.npm_range.specs.declared.construct.Partial.{Partial}
use Rattle.npm_range.specs.declared.construct.Partial.TheVariants.{Full}
use Rattle.npm_range.specs.Reading.{is_short, HasOperator, IsPartial, partial_text, ReadsAs}
use Rattle.npm_range.specs.Refusals.{partial_place, IsPast}
use Rattle.npm_range.specs.Steps.Partials.{HasNoOperator, HasFirstPast, AnswersWhole, AnswersPartial}
use Rattle.npm_range.specs.Laws.Pieces.{short_all, any_byte, one_counted}
use Rattle.npm_range.specs.Laws.Texts.{IsInner, whole_bytes}

digit : (b : ℕ) → is_ascii_digit b ≡ true → b < 128
digit b is = grind (arith, nat_tests)

any : (b : ℕ) → any_byte b ≡ true → b < 128
any b is = grind (arith, nat_tests)

each_weaker : (P Q : ℕ → Type 0) → ((b : ℕ) → P b → Q b) → (text : List ℕ) → AllByRecursion P text → AllByRecursion Q text
each_weaker P Q gives [] all = tt
each_weaker P Q gives (b ∷ text) all = (gives b all.0, each_weaker P Q gives text all.1)

pub partial_utf8 : (text : List ℕ) (p : Partial) → IsPartial text p → IsUtf8 text
partial_utf8 text p (inl x) = utf8_by_each text (short_all (λ b. b < 128) text (lit< tt) digit any x.0)
partial_utf8 text p (inr x) =
    let inner = subst (AllByRecursion IsInner) (sym x.spelled.joined) (whole_bytes x.spelled.parts x.spelled.form) in
    utf8_by_each text (each_weaker IsInner (λ b. b < 128) (λ b is. is.ascii) text inner)

-- ---- what a text stands for

pub whole_is : (text : List ℕ) (p : Parts) → IsVersionWritten text p → IsPartial text (Full (without_build (version_of p)))
whole_is text p w = inr (record { version = version_of p; spelled = record { parts = p; joined = w.joined; form = w.form; values = refl }; is = refl })

pub whole_answers : (at : ℕ) (text : List ℕ) (p : Parts) (r : PieceReading Partial) → IsVersionWritten text p → AnswersWhole at p r → AnswersPartial at text r
whole_answers at text p (reading_of.Construct partial) w a =
    let e : Full (without_build (version_of p)) ≡ partial = sym a.0 in
    (subst (IsPartial text) e (whole_is text p w), (_, inr (p, w, refl), a.1))
whole_answers at text p (reading_of.Past place) w a = ((_, whole_is text p w), (_, inr (p, w, refl), a))
whole_answers at text p reading_of.NoConstruct w a = absurd a

pub no_partial : (text : List ℕ) → is_short text ≡ false → NoVersionWritten text → (p : Partial) → ¬ (IsPartial text p)
no_partial text other none p (inl x) = cc (x.0, other)
no_partial text other none p (inr x) = none x.spelled.parts (record { joined = x.spelled.joined; form = x.spelled.form })

-- ---- what a piece is

module _ (piece : Written Kind) where
  pub no_operator : HasNoOperator piece → ¬ (IsConstruct ReadsAs piece)
  no_operator none is = none is.0.operator is.1.operator

  pub no_construct : ((p : Partial) → ¬ (IsPartial (partial_text piece) p)) → ¬ (IsConstruct ReadsAs piece)
  no_construct none is = none is.0.partial is.1.partial

  -- where no numeral counts that is past the limit, the piece has none
  pub none_past : HasFirstPast (partial_place piece) (partial_text piece) None → (at : ℕ) → ¬ (IsPast piece at)
  none_past first at past =
      let same = one_counted (partial_text piece) first.0 past.parts first.1 past.counted in
      let e = sym first.2 ∙ ap (first_past_part (partial_place piece)) same ∙ past.first in
      cc e

  pub construct_read : (o : Operator) (p : Partial) → HasOperator piece.kind piece.bytes o → AnswersPartial (partial_place piece) (partial_text piece) (reading_of.Construct p)
      → AnswersPiece ReadsAs IsPast piece (reading_of.Construct (record { operator = o; partial = p }))
  construct_read o p is a = (record { operator = is; partial = a.0 }, none_past a.1)

  pub past_read : (o : Operator) (at : ℕ) → HasOperator piece.kind piece.bytes o → AnswersPartial (partial_place piece) (partial_text piece) (reading_of.Past at) → IsPast piece at
  past_read o at is a = record {
    construct = record { operator = o; partial = a.0.0 };
    reads = record { operator = is; partial = a.0.1 };
    parts = a.1.0;
    counted = a.1.1;
    first = a.1.2;
  }
