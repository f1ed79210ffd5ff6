-- Null letters: dropping those at the end of the letters so far, before each letter but a number with '.', leaves the letters
-- that count.
use Rattle.std.proofs.Common.{◌≡◌, ◌<◌, ◌-◌, ◌&&◌, ◌||◌, not, ℕ, suc, Bool, true, false, if◌then◌else◌, List, [], ◌∷◌, ◌++◌, length, slice_get, Option, Some, None, MatchOption, refl, sym, ap, ◌∙◌, subst, append_assoc, append-nil, inl, inr, arith}
use Rattle.std.specs.List.{AllByRecursion}
use Rattle.std.proofs.lemmas.Bool.{cases_Bool, and_parts, and_from}
use Rattle.std.proofs.lemmas.Bool.Decides.{nat_tests}
use Rattle.vx_spec.proofs.EachLaws.{each_append, each_behind}
use Rattle.vx_order.specs.declared.letter.Letter.{Letter}
use Rattle.vx_order.specs.Letters.{LetterIsWithin}
use Rattle.maven_scheme.specs.Version.{is_dotted, is_null}
use Rattle.maven_scheme.specs.Letters.{without_nulls, drops_null}
use Rattle.maven_scheme.specs.Steps.Nulls.{ends_null, goes_on, is_tidy, null_before, null_there, with_letter, without_null_end}

-- one letter in front of those that count
abbrev step : Bool → Letter → List Letter → List Letter
step null letter kept = if null && drops_null kept then kept else letter ∷ kept

step_drops : (null : Bool) (x : Letter) (kept : List Letter) → is_dotted x ≡ false → drops_null (step null x kept) ≡ true
step_drops null x kept other = elim (cases_Bool (null && drops_null kept)) [
  | inl holds ↦ rw holds (and_parts null (drops_null kept) holds).1
  | inr fails ↦ rw fails (ap not other)
]

step_true : (x : Letter) (kept : List Letter) → drops_null kept ≡ true → step true x kept ≡ kept
step_true x kept drops = rw drops refl

-- ---- before any letter but a number with '.' the null letters at the end do not count

front_dropped : (null : Bool) (x l : Letter) (k more w : List Letter) → is_null x ≡ null → is_dotted l ≡ false → w ≡ without_nulls (k ++ l ∷ more) → step null x w ≡ without_nulls (null_before null x k ++ l ∷ more)
front_dropped true x l [] more w is other e = ap (step true x) e ∙ step_true x (without_nulls (l ∷ more)) (step_drops (is_null l) l (without_nulls more) other)
front_dropped false x l [] more w is other e = ap (step false x) e ∙ ap (λ b. step b x (without_nulls (l ∷ more))) (sym is)
front_dropped true x l (n ∷ k) more w is other e = ap (step true x) e ∙ ap (λ b. step b x (without_nulls (n ∷ (k ++ l ∷ more)))) (sym is)
front_dropped false x l (n ∷ k) more w is other e = ap (step false x) e ∙ ap (λ b. step b x (without_nulls (n ∷ (k ++ l ∷ more)))) (sym is)

dropped : (ls : List Letter) (l : Letter) (more : List Letter) → is_dotted l ≡ false → without_nulls (ls ++ l ∷ more) ≡ without_nulls (without_null_end ls ++ l ∷ more)
dropped [] l more other = refl
dropped (x ∷ ls) l more other = front_dropped (is_null x) x l (without_null_end ls) more (without_nulls (ls ++ l ∷ more)) refl other (dropped ls l more other)

pushed_dotted : (ls : List Letter) (l : Letter) → is_dotted l ≡ true → with_letter ls l ≡ ls ++ l ∷ []
pushed_dotted ls l holds = rw holds refl

pushed_other : (ls : List Letter) (l : Letter) → is_dotted l ≡ false → with_letter ls l ≡ without_null_end ls ++ l ∷ []
pushed_other ls l fails = rw fails refl

-- one letter more
pub pushed_counted : (ls : List Letter) (l : Letter) (more : List Letter) → without_nulls (with_letter ls l ++ more) ≡ without_nulls (ls ++ l ∷ more)
pushed_counted ls l more = elim (cases_Bool (is_dotted l)) [
  | inl holds ↦ ap (λ t. without_nulls (t ++ more)) (pushed_dotted ls l holds) ∙ ap without_nulls (append_assoc ls (l ∷ []) more)
  | inr fails ↦ ap (λ t. without_nulls (t ++ more)) (pushed_other ls l fails) ∙ ap without_nulls (append_assoc (without_null_end ls) (l ∷ []) more) ∙ sym (dropped ls l more fails)
]

-- ---- letters so far, where behind each null one stands nothing or a number with '.'

goes_before : (null b : Bool) (y : Letter) (k : List Letter) → (not null || is_dotted y) ≡ true → goes_on null (null_before b y k) ≡ true
goes_before null true y [] h = refl
goes_before null false y [] h = h
goes_before null true y (n ∷ k) h = h
goes_before null false y (n ∷ k) h = h

goes_stripped : (null : Bool) (ls : List Letter) → goes_on null ls ≡ true → goes_on null (without_null_end ls) ≡ true
goes_stripped null [] h = refl
goes_stripped null (y ∷ ls) h = goes_before null (is_null y) y (without_null_end ls) h

goes_dotted : (null : Bool) (ls : List Letter) (l : Letter) → is_dotted l ≡ true → goes_on null ls ≡ true → goes_on null (ls ++ l ∷ []) ≡ true
goes_dotted true [] l holds h = holds
goes_dotted false [] l holds h = refl
goes_dotted null (y ∷ ls) l holds h = h

same_step : (null : Bool) (x : Letter) (k : List Letter) → goes_on null k ≡ true → step null x k ≡ null_before null x k
same_step true x [] h = refl
same_step false x [] h = refl
same_step true x (n ∷ k) h = let d : is_dotted n ≡ true = h in rw d refl
same_step false x (n ∷ k) h = refl

-- of such letters those count that are left without the null ones at the end
pub tidy_counts : (ls : List Letter) → is_tidy ls ≡ true → without_nulls ls ≡ without_null_end ls
tidy_counts [] tidy = refl
tidy_counts (x ∷ ls) tidy =
    let a = and_parts (goes_on (is_null x) ls) (is_tidy ls) tidy in
    ap (step (is_null x) x) (tidy_counts ls a.1) ∙ same_step (is_null x) x (without_null_end ls) (goes_stripped (is_null x) ls a.0)

tidy_dotted : (ls : List Letter) (l : Letter) → is_dotted l ≡ true → is_tidy ls ≡ true → is_tidy (ls ++ l ∷ []) ≡ true
tidy_dotted [] l holds tidy = refl
tidy_dotted (x ∷ ls) l holds tidy =
    let a = and_parts (goes_on (is_null x) ls) (is_tidy ls) tidy in
    and_from (goes_on (is_null x) (ls ++ l ∷ [])) (is_tidy (ls ++ l ∷ [])) (goes_dotted (is_null x) ls l holds a.0) (tidy_dotted ls l holds a.1)

tidy_front : (null : Bool) (x l : Letter) (k : List Letter) → is_null x ≡ null → goes_on null k ≡ true → is_tidy (k ++ l ∷ []) ≡ true → is_tidy (null_before null x k ++ l ∷ []) ≡ true
tidy_front true x l [] is goes tidy = tidy
tidy_front false x l [] is goes tidy = and_from (goes_on (is_null x) (l ∷ [])) (is_tidy (l ∷ [])) (rw is refl) tidy
tidy_front true x l (n ∷ k) is goes tidy = and_from (goes_on (is_null x) (n ∷ (k ++ l ∷ []))) (is_tidy (n ∷ (k ++ l ∷ []))) (subst (λ b. goes_on b (n ∷ k) ≡ true) (sym is) goes) tidy
tidy_front false x l (n ∷ k) is goes tidy = and_from (goes_on (is_null x) (n ∷ (k ++ l ∷ []))) (is_tidy (n ∷ (k ++ l ∷ []))) (subst (λ b. goes_on b (n ∷ k) ≡ true) (sym is) goes) tidy

tidy_stripped : (ls : List Letter) (l : Letter) → is_tidy ls ≡ true → is_tidy (without_null_end ls ++ l ∷ []) ≡ true
tidy_stripped [] l tidy = refl
tidy_stripped (x ∷ ls) l tidy =
    let a = and_parts (goes_on (is_null x) ls) (is_tidy ls) tidy in
    tidy_front (is_null x) x l (without_null_end ls) refl (goes_stripped (is_null x) ls a.0) (tidy_stripped ls l a.1)

pub pushed_tidy : (ls : List Letter) (l : Letter) → is_tidy ls ≡ true → is_tidy (with_letter ls l) ≡ true
pushed_tidy ls l tidy = elim (cases_Bool (is_dotted l)) [
  | inl holds ↦ ap is_tidy (pushed_dotted ls l holds) ∙ tidy_dotted ls l holds tidy
  | inr fails ↦ ap is_tidy (pushed_other ls l fails) ∙ tidy_stripped ls l tidy
]

-- at the end of the text
pub all_counted : (ls all more : List Letter) → more ≡ [] → without_nulls (ls ++ more) ≡ all → is_tidy ls ≡ true → without_null_end ls ≡ all
all_counted ls all more none joined tidy = sym (tidy_counts ls tidy) ∙ ap without_nulls (sym (append-nil ls)) ∙ ap (λ t. without_nulls (ls ++ t)) (sym none) ∙ joined

-- ---- the limit

null_within : (x : Letter) → is_null x ≡ true → LetterIsWithin x
null_within x is = let none : x.number ≡ 0 = grind (arith, nat_tests) in omega (arith, none)

before_within : (b : Bool) (x : Letter) (k : List Letter) → LetterIsWithin x → AllByRecursion LetterIsWithin k → AllByRecursion LetterIsWithin (null_before b x k)
before_within true x [] here all = tt
before_within false x [] here all = (here, tt)
before_within true x (n ∷ k) here all = (here, all)
before_within false x (n ∷ k) here all = (here, all)

pub stripped_within : (ls : List Letter) → AllByRecursion LetterIsWithin ls → AllByRecursion LetterIsWithin (without_null_end ls)
stripped_within [] all = tt
stripped_within (x ∷ ls) all = before_within (is_null x) x (without_null_end ls) all.0 (stripped_within ls all.1)

pub pushed_within : (ls : List Letter) (l : Letter) → AllByRecursion LetterIsWithin ls → LetterIsWithin l → AllByRecursion LetterIsWithin (with_letter ls l)
pushed_within ls l all here = elim (cases_Bool (is_dotted l)) [
  | inl holds ↦ subst (AllByRecursion LetterIsWithin) (sym (pushed_dotted ls l holds)) (each_append LetterIsWithin ls (l ∷ []) all (here, tt))
  | inr fails ↦ subst (AllByRecursion LetterIsWithin) (sym (pushed_other ls l fails)) (each_append LetterIsWithin (without_null_end ls) (l ∷ []) (stripped_within ls all) (here, tt))
]

step_each : (P : Letter → Type 0) (null : Bool) (x : Letter) (kept : List Letter) → P x → AllByRecursion P kept → AllByRecursion P (step null x kept)
step_each P null x kept here all = elim (cases_Bool (null && drops_null kept)) [
  | inl holds ↦ rw holds all
  | inr fails ↦ rw fails (here, all)
]

-- the letters that count are among all
pub counted_each : (P : Letter → Type 0) (ls : List Letter) → AllByRecursion P ls → AllByRecursion P (without_nulls ls)
counted_each P [] all = tt
counted_each P (x ∷ ls) all = step_each P (is_null x) x (without_nulls ls) all.0 (counted_each P ls all.1)

-- and all are within the limit where those are

step_back : (null : Bool) (x : Letter) (kept : List Letter) → is_null x ≡ null → AllByRecursion LetterIsWithin (step null x kept) → LetterIsWithin x × AllByRecursion LetterIsWithin kept
step_back null x kept is all = elim (cases_Bool (null && drops_null kept)) [
  | inl holds ↦ (null_within x (is ∙ (and_parts null (drops_null kept) holds).0), rw holds at all)
  | inr fails ↦ rw fails at all
]

pub counted_back : (ls : List Letter) → AllByRecursion LetterIsWithin (without_nulls ls) → AllByRecursion LetterIsWithin ls
counted_back [] all = tt
counted_back (x ∷ ls) all = let r = step_back (is_null x) x (without_nulls ls) refl all in (r.0, counted_back ls r.1)

-- so each letter is where all that count are
pub here_within : (ls : List Letter) (l : Letter) (more all : List Letter) → without_nulls (ls ++ l ∷ more) ≡ all → AllByRecursion LetterIsWithin all → LetterIsWithin l
here_within ls l more all joined fits = (each_behind LetterIsWithin ls (l ∷ more) (counted_back (ls ++ l ∷ more) (subst (AllByRecursion LetterIsWithin) (sym joined) fits))).0

-- one letter more, for all that is kept of the letters so far
pub one_more : (new old : List Letter) (l : Letter) (more all : List Letter) → new ≡ with_letter old l → without_nulls (old ++ l ∷ more) ≡ all → is_tidy old ≡ true → AllByRecursion LetterIsWithin old → LetterIsWithin l
    → (without_nulls (new ++ more) ≡ all) × (is_tidy new ≡ true) × AllByRecursion LetterIsWithin new
one_more new old l more all is joined tidy fits here = (
  ap (λ (t : List Letter). without_nulls (t ++ more)) is ∙ pushed_counted old l more ∙ joined,
  ap is_tidy is ∙ pushed_tidy old l tidy,
  subst (AllByRecursion LetterIsWithin) (sym is) (pushed_within old l fits here),
)

-- ---- taking null letters off the end

strip_null : (ls : List Letter) (l : Letter) → is_null l ≡ true → without_null_end (ls ++ l ∷ []) ≡ without_null_end ls
strip_null [] l holds = rw holds refl
strip_null (x ∷ ls) l holds = ap (null_before (is_null x) x) (strip_null ls l holds)

before_next : (b : Bool) (x y : Letter) (ls : List Letter) → null_before b x (y ∷ ls) ≡ x ∷ y ∷ ls
before_next true x y ls = refl
before_next false x y ls = refl

ends_more : (x y : Letter) (ls : List Letter) → ends_null (x ∷ y ∷ ls) ≡ ends_null (y ∷ ls)
ends_more x y ls = ap (λ i. null_there (slice_get (x ∷ y ∷ ls) i)) (less (length ls))
  where
    less : (k : ℕ) → suc (suc k) - 1 ≡ suc (suc k - 1)
    less k = omega arith

ends_with : (ls : List Letter) (l : Letter) → ends_null (ls ++ l ∷ []) ≡ is_null l
ends_with [] l = refl
ends_with (x ∷ []) l = ends_more x l []
ends_with (x ∷ y ∷ ls) l = ends_more x y (ls ++ l ∷ []) ∙ ends_with (y ∷ ls) l

pub none_ends : (ls : List Letter) → ends_null ls ≡ false → without_null_end ls ≡ ls
none_ends [] fails = refl
none_ends (x ∷ []) fails = let other : is_null x ≡ false = fails in rw other refl
none_ends (x ∷ y ∷ ls) fails = ap (null_before (is_null x) x) (none_ends (y ∷ ls) (sym (ends_more x y ls) ∙ fails)) ∙ before_next (is_null x) x y ls

-- one letter less
pub popped : (old new : List Letter) (last : Option Letter) → ends_null old ≡ true → MatchOption last ((old ≡ []) × (new ≡ [])) (λ l. old ≡ new ++ l ∷ []) → without_null_end new ≡ without_null_end old
popped old new None holds is = ap without_null_end (is.1 ∙ sym is.0)
popped old new (Some l) holds is = sym (strip_null new l (sym (ends_with new l) ∙ ap ends_null (sym is) ∙ holds)) ∙ ap without_null_end (sym is)

longer : (ls : List Letter) (l : Letter) → length ls < length (ls ++ l ∷ [])
longer [] l = omega arith
longer (x ∷ ls) l = omega (arith, longer ls l)

pub shorter : (old new : List Letter) (last : Option Letter) → ends_null old ≡ true → MatchOption last ((old ≡ []) × (new ≡ [])) (λ l. old ≡ new ++ l ∷ []) → length new < length old
shorter old new None holds is = let empty = ap ends_null (sym is.0) ∙ holds in cc empty
shorter old new (Some l) holds is = subst (λ t. length new < length t) (sym is) (longer new l)
