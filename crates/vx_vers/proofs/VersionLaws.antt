-- From what a scheme answers to what is answered of a constraint, and from what was printed to what is read of it.
use Rattle.std.proofs.Common.{◌≡◌, ◌≢◌, ◌<◌, ◌≤◌, ◌-◌, ◌++◌, arith, ℕ, true, List, [], ◌∷◌, zero, suc, get_or, length, take, drop, refl, sym, ap, subst, ◌∙◌, Result, Ok, Err, Ordering}
use Rattle.std.specs.Prelude.{IfErr, IfOk, IsUtf8}
use Rattle.std.specs.Cmp.{IsTotalOrder}
use Rattle.std.specs.List.{AllByRecursion, list_all}
use Rattle.std.proofs.lemmas.Bool.Decides.{nat_tests}
use Rattle.std.proofs.lemmas.List.{drop_at, take_rest}
use Rattle.std.proofs.lemmas.List.Elements.{All-from_recursion}
use Rattle.percent_encoding.proofs.PercentLemmas.{percent_decode-nil, percent_decode_not_percent}
use Rattle.vx_spec.specs.Marks.{Lacks}
use Rattle.vx_spec.proofs.TextLaws.{each_by_test, utf8_by_each}
use Rattle.vx_scheme.specs.declared.name.SchemeName.{SchemeName}
use Rattle.vx_scheme.specs.declared.version_fault.VersionFault.{VersionFault}
use Rattle.vx_scheme.specs.declared.version_fault.VersionFault.TheVariants as version_fault_of
use Rattle.vx_scheme.specs.Scheme.{Refuses as RefusesVersion}
use Rattle.vx_text.specs.Escapes.{IsWhole, escaped, is_left, unescaped}
use Rattle.vx_text.proofs.EscapeLaws.{escaped-whole, escaped_left, unescaped-escaped}
use Rattle.vx_vers.specs.declared.constraints.Comparator.{Comparator}
use Rattle.vx_vers.specs.declared.constraints.Constraint.{Constraint}
use Rattle.vx_vers.specs.declared.fault.VersFault.{VersFault}
use Rattle.vx_vers.specs.declared.fault.VersFault.TheVariants as fault_of
use Rattle.vx_vers.specs.Again.{IsSameList, IsWritable, SpellsSame}
use Rattle.vx_vers.specs.Grammar.{EachWithin, HasForm, IsSigned, SpellsList}
use Rattle.vx_vers.specs.Heads.{solid}
use Rattle.vx_vers.specs.Steps.Reading.{IsPartReadAs, constraint_of_version, is_plain}
use Rattle.vx_vers.specs.Refusals.{Refuses}
use Rattle.vx_vers.proofs.OneList.{one_list, unspelled}
use Rattle.vx_vers.proofs.PartLaws.{plain_lacks}

lacks_at : (c : ℕ) (text : List ℕ) → Lacks c text → (i : ℕ) → i < length text → get_or text i 0 ≢ c
lacks_at c [] lacks i before = absurd (omega arith)
lacks_at c (b ∷ text) lacks zero before = lacks.0
lacks_at c (b ∷ text) lacks (suc i) before = lacks_at c text lacks.1 i (omega arith)

-- bytes that are never escaped stand for themselves
pub left_escaped : (raw : List ℕ) → list_all is_left raw ≡ true → escaped raw ≡ raw
left_escaped raw left = escaped_left raw (each_by_test (λ b. is_left b ≡ true) is_left raw (λ b t. t) left)

left_small : (b : ℕ) → is_left b ≡ true → b < 128
left_small b left = grind (arith, nat_tests)

left_bytes : (n : ℕ) → 128 ≤ n → (raw : List ℕ) → list_all is_left raw ≡ true → AllByRecursion (λ b. b < n) raw
left_bytes n large raw left = each_by_test (λ b. b < n) is_left raw (λ b t. omega (arith, left_small b t)) left

pub left_stands : (raw : List ℕ) → list_all is_left raw ≡ true → unescaped raw ≡ raw
left_stands raw left = ap unescaped (sym (left_escaped raw left)) ∙ unescaped-escaped raw (All-from_recursion (λ b. b < 256) raw (left_bytes 256 (omega arith) raw left))

pub left_form : (raw : List ℕ) → list_all is_left raw ≡ true → raw ≢ [] → HasForm raw
left_form raw left some = record {
  some = some;
  whole = subst IsWhole (left_escaped raw left) (escaped-whole raw);
  utf8 = subst IsUtf8 (sym (left_stands raw left)) (utf8_by_each raw (left_bytes 128 (omega arith) raw left));
}

-- a text without '%' stands for itself
pub plain_stands : (raw : List ℕ) → Lacks 37 raw → unescaped raw ≡ raw
plain_stands [] lacks = percent_decode-nil
plain_stands (b ∷ raw) lacks = percent_decode_not_percent b raw lacks.0 ∙ ap (λ (t : List ℕ). b ∷ t) (plain_stands raw lacks.1)

plain_whole : (raw : List ℕ) → Lacks 37 raw → IsWhole raw
plain_whole raw lacks = λ i before broken. lacks_at 37 raw lacks i before broken.1

pub plain_form : (raw : List ℕ) → list_all is_plain raw ≡ true → IsUtf8 raw → raw ≢ [] → HasForm raw × (unescaped raw ≡ raw)
plain_form raw all utf8 some =
    let lacks = plain_lacks 37 refl raw all in
    let stands = plain_stands raw lacks in
    (record { some = some; whole = plain_whole raw lacks; utf8 = subst IsUtf8 (sym stands) utf8 }, stands)

-- what was written behind a text
pub left_tail : (old normal whole : List ℕ) (start : ℕ) → start ≡ length old → whole ≡ old ++ normal → list_all is_left (take (length whole - start) (drop start whole)) ≡ true → list_all is_left normal ≡ true
left_tail old normal whole start size e left =
    ap (list_all is_left) (sym (take_rest whole start ∙ ap (drop start) e ∙ ap (λ (k : ℕ). drop k (old ++ normal)) size ∙ drop_at old normal (length old) refl)) ∙ left

pub left_writable : {V : Type 0} (IsVersion IsWithin : V → Type 0) (normal : V → List ℕ) (v : V) → IsVersion v → IsWithin v → list_all is_left (normal v) ≡ true → IsWritable IsVersion IsWithin normal v
left_writable IsVersion IsWithin normal v is within left =
    record { is = is; within = within; bytes = left_bytes 256 (omega arith) (normal v) left; utf8 = utf8_by_each (normal v) (left_bytes 128 (omega arith) (normal v) left) }

module _ {V : Type 0} (Spells : List ℕ → V → Type 0) (IsWithin : V → Type 0) where
  -- what the scheme answers of the version is what is answered of the constraint
  pub part_read : (k : ℕ) (text raw plain : List ℕ) (c : Comparator) (answer : Result V VersionFault) → IsSigned text c raw → HasForm raw → unescaped raw ≡ plain
      → IfOk answer (λ v. Spells plain v × IsWithin v) → IfErr answer (RefusesVersion Spells IsWithin plain) → IsPartReadAs Spells IsWithin (k, text) (constraint_of_version c k answer)
  part_read k text raw plain c (Ok v) signed form is ok err = (record { raw = raw; signed = signed; form = form; version = subst (λ t. Spells t v) (sym is) ok.0 }, ok.1)
  part_read k text raw plain c (Err version_fault_of.NotAVersion) signed form is ok err = λ cause. (
    refl,
    record { comparator = c; raw = raw; signed = signed; form = form; refused = subst (λ t. RefusesVersion Spells IsWithin t version_fault_of.NotAVersion) (sym is) err },
  )
  part_read k text raw plain c (Err version_fault_of.Numeral) signed form is ok err = λ cause. (
    refl,
    record { comparator = c; raw = raw; signed = signed; form = form; refused = subst (λ t. RefusesVersion Spells IsWithin t version_fault_of.Numeral) (sym is) err },
  )
  part_read k text raw plain c (Err version_fault_of.NoMemory) signed form is ok err = λ cause. absurd (cause refl)

  module _ (one_version : (text : List ℕ) (v w : V) → Spells text v → Spells text w → v ≡ w) (order : V → V → Ordering) (laws : IsTotalOrder order) (name : SchemeName) where
    -- what is read of a text that spells the same list
    pub again_ok : (text : List ℕ) (list : List (Constraint V)) (answer : Result (List (Constraint V)) VersFault) → SpellsSame name order Spells IsWithin text list
        → IfOk answer (λ l. SpellsList name order Spells text l × EachWithin IsWithin l) → IfOk answer (λ l. IsSameList order l list)
    again_ok text list (Ok l) same ok = subst (λ a. IsSameList order a list) (one_list Spells one_version order laws name (solid text) same.again l same.spelled ok.0) same.same
    again_ok text list (Err fault) same ok = tt

    not_refused : (text : List ℕ) (list : List (Constraint V)) (fault : VersFault) → SpellsSame name order Spells IsWithin text list → Refuses name order Spells IsWithin text fault → ⊥
    not_refused text list fault same refused = unspelled Spells one_version order laws IsWithin name (solid text) fault same.again refused same.spelled same.within

    only_memory : (fault : VersFault) → (fault ≢ fault_of.NoMemory → ⊥) → fault ≡ fault_of.NoMemory
    only_memory fault_of.Head h = absurd (h (λ e. cc e))
    only_memory (fault_of.Constraint k) h = absurd (h (λ e. cc e))
    only_memory (fault_of.Version k) h = absurd (h (λ e. cc e))
    only_memory (fault_of.Duplicate k) h = absurd (h (λ e. cc e))
    only_memory fault_of.StarNotAlone h = absurd (h (λ e. cc e))
    only_memory (fault_of.Numeral k) h = absurd (h (λ e. cc e))
    only_memory fault_of.NoMemory h = refl

    pub again_err : (text : List ℕ) (list : List (Constraint V)) (answer : Result (List (Constraint V)) VersFault) → SpellsSame name order Spells IsWithin text list
        → IfErr answer (λ fault. fault ≢ fault_of.NoMemory → Refuses name order Spells IsWithin text fault) → IfErr answer (λ fault. fault ≡ fault_of.NoMemory)
    again_err text list (Ok l) same err = tt
    again_err text list (Err fault) same err = only_memory fault (λ cause. not_refused text list fault same (err cause))
