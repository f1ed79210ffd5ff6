-- What operands are, from what their versions are.
use Rattle.std.proofs.Common.{◌≡◌, ◌&&◌, ◌∷◌, nat_le, is_none, ◌+◌, ◌-◌, ◌≤◌, length, ℕ, true, false, List, [], Option, Some, None, Result, Ok, Err, IfOk, refl, sym, subst, arith}
use Rattle.std.specs.List.{suffix_len}
use Rattle.std.proofs.lemmas.Bool.{and_from, and_parts}
use Rattle.std.proofs.lemmas.List.{take_all}
use Rattle.vx_spec.specs.Runs.{is_blank, without_end}
use Rattle.vx_scheme.specs.declared.memory.NoMemory.{NoMemory}
use Rattle.vx_scheme.specs.declared.ident.Ident.{Ident}
use Rattle.vx_range.specs.declared.piece.PieceReading.{PieceReading}
use Rattle.vx_range.specs.declared.piece.PieceReading.TheVariants as reading_of
use Rattle.pep440_scheme.specs.Version.{Fields, IsPublic, IsRelease}
use Rattle.pep440_scheme.specs.Spelling.{Spells}
use Rattle.pep440_scheme.specs.Laws.Reading.{one_reading}
use Rattle.pep440_scheme.specs.Shape.{has_no_label, is_bare}
use Rattle.pep440_range.specs.declared.construct.Comparison.{Comparison}
use Rattle.pep440_range.specs.declared.construct.Comparison.TheVariants as comparison_of
use Rattle.pep440_range.specs.declared.construct.Construct.{Construct}
use Rattle.pep440_range.specs.declared.construct.Construct.TheVariants as construct
use Rattle.pep440_range.specs.declared.construct.Operator.TheVariants as operator_of
use Rattle.pep440_range.specs.declared.operands.Asked.{Asked}
use Rattle.pep440_range.specs.declared.operands.Asked.TheVariants.{Any, Release}
use Rattle.pep440_range.specs.declared.operands.Form.{Form}
use Rattle.pep440_range.specs.declared.operands.Form.TheVariants as form_of
use Rattle.pep440_range.specs.Reading.{SpellsRelease, TakesPublic, has_numbers}
use Rattle.pep440_range.specs.Steps.Operands.{AnswersEither, AnswersOperand, AnswersVersion, IsOperand, asked_by, construct_of, is_asked}

no_label : (local : List Ident) → has_no_label local ≡ true → local ≡ []
no_label [] is = refl
no_label (part ∷ parts) is = absurd (cc is)

label_none : (local : List Ident) → local ≡ [] → has_no_label local ≡ true
label_none local e = rw e refl

none_is : {A : Type 0} (x : Option A) → is_none x ≡ true → x ≡ None
none_is None is = refl
none_is (Some x) is = absurd (cc is)

bare_release : (v : Fields) → is_asked Release v ≡ true → IsRelease v
bare_release v is =
    let a = and_parts (has_no_label v.local) (is_bare v) is in
    let b = and_parts (is_none v.pre && is_none v.post) (is_none v.dev) a.1 in
    let d = and_parts (is_none v.pre) (is_none v.post) b.0 in
    record { pre = none_is v.pre d.0; post = none_is v.post d.1; dev = none_is v.dev b.1; local = no_label v.local a.0 }

release_bare : (v : Fields) → IsRelease v → is_asked Release v ≡ true
release_bare v is = rw (is.pre, is.post, is.dev, is.local) refl

-- ---- the operators that take a public version

asked_public : (how : Comparison) (v : Fields) → is_asked (asked_by how) v ≡ true → IsPublic v × (has_numbers how v ≡ true)
asked_public comparison_of.Compatible v is =
    let a = and_parts (has_no_label v.local) (nat_le 2 (length v.release)) is in (no_label v.local a.0, a.1)
asked_public comparison_of.LessOrEqual v is = (no_label v.local is, refl)
asked_public comparison_of.GreaterOrEqual v is = (no_label v.local is, refl)
asked_public comparison_of.Less v is = (no_label v.local is, refl)
asked_public comparison_of.Greater v is = (no_label v.local is, refl)

public_asked : (how : Comparison) (v : Fields) → IsPublic v → has_numbers how v ≡ true → is_asked (asked_by how) v ≡ true
public_asked comparison_of.Compatible v is numbers =
    and_from (has_no_label v.local) (nat_le 2 (length v.release)) (label_none v.local is) numbers
public_asked comparison_of.LessOrEqual v is numbers = label_none v.local is
public_asked comparison_of.GreaterOrEqual v is numbers = label_none v.local is
public_asked comparison_of.Less v is numbers = label_none v.local is
public_asked comparison_of.Greater v is numbers = label_none v.local is

public_taken : (how : Comparison) (text : List ℕ) (c : Construct) (v : Fields) → IsOperand (asked_by how) text v
    → c ≡ construct.Compares how v → TakesPublic how text c
public_taken how text c v is e =
    let a = asked_public how v is.met in record { version = v; spelled = is.spelled; public' = a.0; numbers = a.1; is = e }

taken_public : (how : Comparison) (text : List ℕ) (c : Construct) (is : TakesPublic how text c) → IsOperand (asked_by how) text is.version
taken_public how text c is = record { spelled = is.spelled; met = public_asked how is.version is.public' is.numbers }

public_answer : (how : Comparison) (at : ℕ) (text : List ℕ) (r : PieceReading Construct)
    → AnswersVersion (asked_by how) (form_of.Compares how) at text r → AnswersOperand (operator_of.Compares how) at text r
public_answer how at text (reading_of.Construct c) a = (public_taken how text c a.0.0 a.0.1 a.0.2, a.1)
public_answer how at text (reading_of.Past place) a =
    ((construct.Compares how a.0.0, public_taken how text (construct.Compares how a.0.0) a.0.0 a.0.1 refl), a.1)
public_answer how at text reading_of.NoConstruct a = λ c taken. a taken.version (taken_public how text c taken)

pub public_answers : (how : Comparison) (at : ℕ) (text : List ℕ) (r : Result (PieceReading Construct) NoMemory)
    → IfOk r (AnswersVersion (asked_by how) (form_of.Compares how) at text) → IfOk r (AnswersOperand (operator_of.Compares how) at text)
public_answers how at text (Ok r) a = public_answer how at text r a
public_answers how at text (Err error) a = tt

-- ---- a version, or a release followed by '.*'

module _ (of_version of_release : Form) (at : ℕ) (text : List ℕ) where
  version_answer : (r : PieceReading Construct) → AnswersVersion Any of_version at text r
      → AnswersEither of_version of_release at text None r
  version_answer (reading_of.Construct c) a = ((a.0.0, a.0.1.spelled, a.0.2), a.1)
  version_answer (reading_of.Past place) a = ((construct_of of_version a.0.0, (a.0.0, a.0.1.spelled, refl)), a.1)
  version_answer reading_of.NoConstruct a = λ c taken. a taken.0 (record { spelled = taken.1; met = refl })

  pub version_answers : (star : Option (List ℕ)) → star ≡ None → (r : Result (PieceReading Construct) NoMemory)
      → IfOk r (AnswersVersion Any of_version at text) → IfOk r (AnswersEither of_version of_release at text star)
  version_answers star e (Ok r) a =
      subst (λ (s : Option (List ℕ)). AnswersEither of_version of_release at text s r) (sym e) (version_answer r a)
  version_answers star e (Err error) a = tt

  module _ (front : List ℕ) (tight : without_end is_blank front ≡ front) where
    operand_release : (r : Fields) → IsOperand Release front r → SpellsRelease front r
    operand_release r is = record { spelled = is.spelled; alone = bare_release r is.met; tight = tight }

    release_operand : (r : Fields) → SpellsRelease front r → IsOperand Release front r
    release_operand r is = record { spelled = is.spelled; met = release_bare r is.alone }

    release_answer : (r : PieceReading Construct) → AnswersVersion Release of_release at front r
        → AnswersEither of_version of_release at text (Some front) r
    release_answer (reading_of.Construct c) a = ((a.0.0, operand_release a.0.0 a.0.1, a.0.2), a.1)
    release_answer (reading_of.Past place) a = ((construct_of of_release a.0.0, (a.0.0, operand_release a.0.0 a.0.1, refl)), a.1)
    release_answer reading_of.NoConstruct a = λ c taken. a taken.0 (release_operand taken.0 taken.1)

    pub release_answers : (star : Option (List ℕ)) → star ≡ Some front → (r : Result (PieceReading Construct) NoMemory)
        → IfOk r (AnswersVersion Release of_release at front) → IfOk r (AnswersEither of_version of_release at text star)
    release_answers star e (Ok r) a =
        subst (λ (s : Option (List ℕ)). AnswersEither of_version of_release at text s r) (sym e) (release_answer r a)
    release_answers star e (Err error) a = tt

-- nothing is left out at the end of a text that is as long as what is left of it
pub as_long : (front cut : List ℕ) → cut ≡ without_end is_blank front → length front ≤ length cut
    → length cut + suffix_len is_blank front ≡ length front → without_end is_blank front ≡ front
as_long front cut is long count =
    let none : suffix_len is_blank front ≡ 0 = omega (arith, long, count) in
    rw none (take_all (length front - 0) front (omega arith))

-- ---- versions

-- a text spells no version as it is asked for where the one that it spells is none
pub not_met : (asked : Asked) (text : List ℕ) (w : Fields) → Spells text w → is_asked asked w ≡ false → (v : Fields)
    → ¬ (IsOperand asked text v)
not_met asked text w s no' v is =
    let same : v ≡ w = one_reading text v w is.spelled s in
    let yes : is_asked asked w ≡ true = subst (λ (u : Fields). is_asked asked u ≡ true) same is.met in
    cc (yes, no')
