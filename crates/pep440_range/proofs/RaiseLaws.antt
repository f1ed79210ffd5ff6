-- What is made by raising a numeral is within the limit exactly where the numeral can be raised.
use Rattle.std.proofs.Common.{◌≡◌, ◌+◌, ◌<◌, ◌^◌, nat_lt, nat_le, ℕ, true, List, [], ◌∷◌, length, Option, Some, None, refl, sym, inl, inr, arith, subst}
use Rattle.std.specs.List.{AllByRecursion}
use Rattle.std.proofs.lemmas.Bool.{cases_Bool}
use Rattle.std.proofs.lemmas.Bool.Decides.{nat_tests}
use Rattle.vx_scheme.specs.declared.domain.Domain.{Domain}
use Rattle.vx_scheme.specs.declared.domain.Domain.TheVariants.{All, Releases}
use Rattle.vx_scheme.specs.declared.ident.Ident.{Ident}
use Rattle.vx_range.specs.declared.making.Outcome.TheVariants.{Spans, TooHigh}
use Rattle.vx_range.specs.Lists.{Plain}
use Rattle.pep440_scheme.specs.declared.version.PrePart.{PrePart}
use Rattle.pep440_scheme.specs.Version.{Fields, IsSmall, IsSmallOption, IsSmallPre, IsWithin, public_of}
use Rattle.pep440_scheme.specs.Next.{bump_of, dev0_of, last_number, next_pre_of, pre_number, raised_of, succ_of}
use Rattle.pep440_scheme.specs.Next as next
use Rattle.pep440_scheme.specs.Spelling.{Spells}
use Rattle.pep440_scheme.specs.Laws.Texts.{pypi_texts}
use Rattle.pep440_range.specs.declared.construct.Comparison.{Comparison}
use Rattle.pep440_range.specs.declared.construct.Comparison.TheVariants.{Compatible, LessOrEqual, GreaterOrEqual, Less, Greater}
use Rattle.pep440_range.specs.declared.construct.Construct.{Construct}
use Rattle.pep440_range.specs.declared.construct.Construct.TheVariants.{Compares, Equal, NotEqual, Within, NotWithin, Identical}
use Rattle.pep440_range.specs.declared.construct.Operator.{Operator}
use Rattle.pep440_range.specs.declared.construct.Operator.TheVariants as operator_of
use Rattle.pep440_range.specs.Holds.{prefix_of, release_of, without_last}
use Rattle.pep440_range.specs.Reading.{Begun, ReadsAs, ReadsBy, Takes, TakesEither, before_star, has_numbers, operand_of, operator_at}
use Rattle.pep440_range.specs.Refusals.{ConstructIsWithin, bumped, compared_outcome, equal_outcome, greater_outcome, outcome, raised}
use Rattle.pep440_range.specs.Spans.{AreWithin, compared_spans, end_of, equal_by, greater_by, less_by, lowest_in, made_spans, not_equal_by}
use Rattle.pep440_range.proofs.MakingLaws.{without_small}

-- ---- numbers

raised_small : (n : ℕ) → raised (Some n) ≡ Spans → n + 1 < 2 ^ 128
raised_small n makes = elim (cases_Bool (nat_lt (n + 1) (2 ^ 128))) [
  | inl below ↦ grind (arith, nat_tests)
  | inr high ↦ absurd (let e : TooHigh ≡ Spans = rw high at makes in cc e)
]

raised_large : (n : ℕ) → raised (Some n) ≡ TooHigh → ¬ (n + 1 < 2 ^ 128)
raised_large n high small = elim (cases_Bool (nat_lt (n + 1) (2 ^ 128))) [
  | inl below ↦ absurd (let e : Spans ≡ TooHigh = rw below at high in cc e)
  | inr large ↦ absurd (grind (arith, nat_tests))
]

bumped_small : (release : List ℕ) → AllByRecursion IsSmall release → bumped (last_number release) ≡ Spans
    → AllByRecursion IsSmall (next.bumped release)
bumped_small [] small makes = tt
bumped_small (n ∷ []) small makes = (raised_small n makes, tt)
bumped_small (n ∷ m ∷ release) small makes = (small.0, bumped_small (m ∷ release) small.1 makes)

bumped_large : (release : List ℕ) → nat_lt 0 (length release) ≡ true → bumped (last_number release) ≡ TooHigh
    → ¬ (AllByRecursion IsSmall (next.bumped release))
bumped_large [] some high small = cc some
bumped_large (n ∷ []) some high small = raised_large n high small.0
bumped_large (n ∷ m ∷ release) some high small = bumped_large (m ∷ release) (grind (arith, nat_tests)) high small.1

-- ---- versions

zero_small : IsSmall 0
zero_small = omega arith

succ_within_by : (v : Fields) (post dev : Option ℕ) → IsWithin v → IsSmallOption post → raised (next.raised_by post dev) ≡ Spans
    → IsWithin (next.succ_by v post dev)
succ_within_by v post (Some n) is small makes =
    record { epoch = is.epoch; release = is.release; pre = is.pre; post = small; dev = raised_small n makes; local = tt }
succ_within_by v (Some n) None is small makes =
    record { epoch = is.epoch; release = is.release; pre = is.pre; post = raised_small n makes; dev = zero_small; local = tt }
succ_within_by v None None is small makes =
    record { epoch = is.epoch; release = is.release; pre = is.pre; post = zero_small; dev = zero_small; local = tt }

succ_within : (v : Fields) → IsWithin v → raised (raised_of v) ≡ Spans → IsWithin (succ_of v)
succ_within v is makes = succ_within_by v v.post v.dev is is.post makes

succ_large_by : (v : Fields) (post dev : Option ℕ) → raised (next.raised_by post dev) ≡ TooHigh → ¬ (IsWithin (next.succ_by v post dev))
succ_large_by v post (Some n) high is = raised_large n high is.dev
succ_large_by v (Some n) None high is = raised_large n high is.post
succ_large_by v None None high is = cc high

succ_large : (v : Fields) → raised (raised_of v) ≡ TooHigh → ¬ (IsWithin (succ_of v))
succ_large v high is = succ_large_by v v.post v.dev high is

dev0_within : (v : Fields) → IsWithin v → IsWithin (dev0_of v)
dev0_within v is = record { epoch = is.epoch; release = is.release; pre = is.pre; post = is.post; dev = zero_small; local = tt }

lowest_within : (domain : Domain) (v : Fields) → IsWithin v → IsWithin (lowest_in domain v)
lowest_within All v is = dev0_within v is
lowest_within Releases v is = is

public_within : (v : Fields) → IsWithin v → IsWithin (public_of v)
public_within v is = record { epoch = is.epoch; release = is.release; pre = is.pre; post = is.post; dev = is.dev; local = tt }

release_within : (v : Fields) → IsWithin v → IsWithin (release_of v.epoch v.release)
release_within v is = record { epoch = is.epoch; release = is.release; pre = tt; post = tt; dev = tt; local = tt }

prefix_within : (v : Fields) → IsWithin v → IsWithin (prefix_of v)
prefix_within v is = record { epoch = is.epoch; release = without_small v.release is.release; pre = tt; post = tt; dev = tt; local = tt }

end_within : (domain : Domain) (r : Fields) → IsWithin r → bumped (last_number r.release) ≡ Spans → IsWithin (end_of domain r)
end_within domain r is makes =
    lowest_within domain (bump_of r) (record { epoch = is.epoch; release = bumped_small r.release is.release makes; pre = tt; post = tt; dev = tt; local = tt })

end_large : (domain : Domain) (r : Fields) → nat_lt 0 (length r.release) ≡ true → bumped (last_number r.release) ≡ TooHigh
    → ¬ (IsWithin (end_of domain r))
end_large All r some high is = bumped_large r.release some high is.release
end_large Releases r some high is = bumped_large r.release some high is.release

-- ---- constructs that make spans

equal_made : (domain : Domain) (mark : ℕ) (v : Fields) (local : List Ident) → IsWithin v → equal_outcome domain v local ≡ Spans
    → AreWithin (equal_by domain mark v local)
equal_made All mark v [] is makes = (is, (succ_within v is makes, tt))
equal_made All mark v (part ∷ parts) is makes = (is, (is, tt))
equal_made Releases mark v local is makes = (is, (is, tt))

not_equal_made : (domain : Domain) (mark : ℕ) (v : Fields) (local : List Ident) → IsWithin v → equal_outcome domain v local ≡ Spans
    → AreWithin (not_equal_by domain mark v local)
not_equal_made All mark v [] is makes = (is, (succ_within v is makes, tt))
not_equal_made All mark v (part ∷ parts) is makes = (is, (is, tt))
not_equal_made Releases mark v local is makes = (is, (is, tt))

less_made : (domain : Domain) (mark : ℕ) (v : Fields) (pre : Option PrePart) (dev : Option ℕ) → IsWithin v
    → AreWithin (less_by domain mark v pre dev)
less_made All mark v None None is = (dev0_within v is, tt)
less_made All mark v None (Some dev) is = (is, tt)
less_made All mark v (Some pre) dev is = (is, tt)
less_made Releases mark v pre dev is = (is, tt)

pre_within : (v : Fields) (pre : PrePart) → v.pre ≡ Some pre → IsWithin v → raised (Some pre.number) ≡ Spans → IsWithin (next_pre_of v)
pre_within v pre e is makes =
    let small : IsSmallPre (next_pre_of v).pre = rw e (raised_small pre.number makes) in
    record { epoch = is.epoch; release = is.release; pre = small; post = tt; dev = zero_small; local = tt }

pre_large : (v : Fields) (pre : PrePart) → v.pre ≡ Some pre → raised (Some pre.number) ≡ TooHigh → ¬ (IsWithin (next_pre_of v))
pre_large v pre e high is =
    let small : IsSmallPre (next_pre_of v).pre = is.pre in
    raised_large pre.number high (rw e at small)

greater_made : (mark : ℕ) (v : Fields) (pre : Option PrePart) (post dev : Option ℕ) → v.pre ≡ pre → IsWithin v
    → greater_outcome v pre post dev ≡ Spans → AreWithin (greater_by mark v pre post dev)
greater_made mark v pre post (Some dev) e is makes = (succ_within v is makes, tt)
greater_made mark v pre (Some post) None e is makes = (succ_within v is makes, tt)
greater_made mark v (Some pre) None None e is makes = (pre_within v pre e is makes, tt)
greater_made mark v None None None e is makes = absurd (cc makes)

compared_made : (how : Comparison) (domain : Domain) (mark : ℕ) (v : Fields) → IsWithin v → compared_outcome how domain v ≡ Spans
    → AreWithin (compared_spans how domain mark v)
compared_made Compatible domain mark v is makes = (is, (end_within domain (prefix_of v) (prefix_within v is) makes, tt))
compared_made LessOrEqual All mark v is makes = (succ_within v is makes, tt)
compared_made LessOrEqual Releases mark v is makes = (is, tt)
compared_made GreaterOrEqual domain mark v is makes = (is, tt)
compared_made Less domain mark v is makes = less_made domain mark v v.pre v.dev is
compared_made Greater All mark v is makes = greater_made mark v v.pre v.post v.dev refl is makes
compared_made Greater Releases mark v is makes = (is, tt)

pub made_within : (c : Construct) (domain : Domain) (mark : ℕ) → ConstructIsWithin c → outcome domain c ≡ Spans
    → AreWithin (made_spans domain mark c)
made_within (Compares how v) domain mark is makes = compared_made how domain mark (public_of v) (public_within v is) makes
made_within (Equal v) domain mark is makes = equal_made domain mark v v.local is makes
made_within (NotEqual v) domain mark is makes = not_equal_made domain mark v v.local is makes
made_within (Within r) domain mark is makes =
    (lowest_within domain _ (release_within r is), (end_within domain (release_of r.epoch r.release) (release_within r is) makes, tt))
made_within (NotWithin r) domain mark is makes =
    (lowest_within domain _ (release_within r is), (end_within domain (release_of r.epoch r.release) (release_within r is) makes, tt))
made_within (Identical text) domain mark is makes = absurd (cc makes)

-- ---- constructs with a numeral that is too high

equal_high : (domain : Domain) (mark : ℕ) (v : Fields) (local : List Ident) → equal_outcome domain v local ≡ TooHigh
    → ¬ (AreWithin (equal_by domain mark v local))
equal_high All mark v [] high are = succ_large v high are.1.0
equal_high All mark v (part ∷ parts) high are = cc high
equal_high Releases mark v local high are = cc high

not_equal_high : (domain : Domain) (mark : ℕ) (v : Fields) (local : List Ident) → equal_outcome domain v local ≡ TooHigh
    → ¬ (AreWithin (not_equal_by domain mark v local))
not_equal_high All mark v [] high are = succ_large v high are.1.0
not_equal_high All mark v (part ∷ parts) high are = cc high
not_equal_high Releases mark v local high are = cc high

greater_high : (mark : ℕ) (v : Fields) (pre : Option PrePart) (post dev : Option ℕ) → v.pre ≡ pre
    → greater_outcome v pre post dev ≡ TooHigh → ¬ (AreWithin (greater_by mark v pre post dev))
greater_high mark v pre post (Some dev) e high are = succ_large v high are.0
greater_high mark v pre (Some post) None e high are = succ_large v high are.0
greater_high mark v (Some pre) None None e high are = pre_large v pre e high are.0
greater_high mark v None None None e high are = cc high

-- a release of two numbers or more has one without its last
without_some : (numbers : List ℕ) → nat_le 2 (length numbers) ≡ true → nat_lt 0 (length (without_last numbers)) ≡ true
without_some [] two = absurd (cc two)
without_some (n ∷ []) two = absurd (cc two)
without_some (n ∷ m ∷ numbers) two = grind (arith, nat_tests)

compared_high : (how : Comparison) (domain : Domain) (mark : ℕ) (v : Fields) → has_numbers how v ≡ true
    → compared_outcome how domain v ≡ TooHigh → ¬ (AreWithin (compared_spans how domain mark v))
compared_high Compatible domain mark v numbers high are = end_large domain (prefix_of v) (without_some v.release numbers) high are.1.0
compared_high LessOrEqual All mark v numbers high are = succ_large v high are.0
compared_high LessOrEqual Releases mark v numbers high are = cc high
compared_high GreaterOrEqual domain mark v numbers high are = cc high
compared_high Less domain mark v numbers high are = cc high
compared_high Greater All mark v numbers high are = greater_high mark v v.pre v.post v.dev refl high are
compared_high Greater Releases mark v numbers high are = cc high

-- what is read has the numbers that are raised
abbrev HasNumbers : Construct → Type 0
HasNumbers (Compares how v) = has_numbers how v ≡ true
HasNumbers (Equal v) = Unit {0}
HasNumbers (NotEqual v) = Unit {0}
HasNumbers (Within r) = nat_lt 0 (length r.release) ≡ true
HasNumbers (NotWithin r) = nat_lt 0 (length r.release) ≡ true
HasNumbers (Identical text) = Unit {0}

numbers_of : (how : Comparison) (v : Fields) → has_numbers how v ≡ true → has_numbers how (public_of v) ≡ true
numbers_of Compatible v is = is
numbers_of LessOrEqual v is = refl
numbers_of GreaterOrEqual v is = refl
numbers_of Less v is = refl
numbers_of Greater v is = refl

some_release : (text : List ℕ) (r : Fields) → Spells text r → nat_lt 0 (length r.release) ≡ true
some_release text r s = (pypi_texts.spelled_version text r s).release

either_numbers : (of of' : Fields → Construct) → ((v : Fields) → HasNumbers (of v))
    → ((r : Fields) → nat_lt 0 (length r.release) ≡ true → HasNumbers (of' r))
    → (text : List ℕ) (star : Option (List ℕ)) (c : Construct) → TakesEither of of' text star c → HasNumbers c
either_numbers of of' by by' text None c t = subst HasNumbers (sym t.2) (by t.0)
either_numbers of of' by by' text (Some front) c t = subst HasNumbers (sym t.2) (by' t.0 (some_release front t.0 t.1.spelled))

taken_numbers : (operator : Operator) (text : List ℕ) (c : Construct) → Takes operator text c → HasNumbers c
taken_numbers operator_of.Identical text c t = subst HasNumbers (sym t.is) tt
taken_numbers operator_of.Equal text c t = either_numbers Equal Within (λ v. tt) (λ r some. some) text (before_star text) c t
taken_numbers operator_of.NotEqual text c t = either_numbers NotEqual NotWithin (λ v. tt) (λ r some. some) text (before_star text) c t
taken_numbers (operator_of.Compares how) text c t = subst HasNumbers (sym t.is) t.numbers

begun_numbers : (begun : Option Begun) (c : Construct) → ReadsBy begun c → HasNumbers c
begun_numbers None c reads = absurd reads
begun_numbers (Some begun) c reads = taken_numbers begun.operator (operand_of begun) c reads

high_not : (c : Construct) (domain : Domain) (mark : ℕ) → HasNumbers c → outcome domain c ≡ TooHigh
    → ¬ (AreWithin (made_spans domain mark c))
high_not (Compares how v) domain mark numbers high are = compared_high how domain mark (public_of v) (numbers_of how v numbers) high are
high_not (Equal v) domain mark numbers high are = equal_high domain mark v v.local high are
high_not (NotEqual v) domain mark numbers high are = not_equal_high domain mark v v.local high are
high_not (Within r) domain mark numbers high are = end_large domain (release_of r.epoch r.release) numbers high are.1.0
high_not (NotWithin r) domain mark numbers high are = end_large domain (release_of r.epoch r.release) numbers high are.1.0
high_not (Identical text) domain mark numbers high are = cc high

pub too_high_not : (piece : Plain) (c : Construct) (domain : Domain) (mark : ℕ) → ReadsAs piece c → outcome domain c ≡ TooHigh
    → ¬ (AreWithin (made_spans domain mark c))
too_high_not piece c domain mark reads high are = high_not c domain mark (begun_numbers (operator_at piece.bytes) c reads) high are
