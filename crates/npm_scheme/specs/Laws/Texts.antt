-- What texts spell, and which: exactly the versions.
use Rattle.std.proofs.Common.{◌≡◌, ◌≢◌, ℕ, List, [], ◌∷◌, ◌++◌, length, get_or, map, true, false, not, eqb, refl, sym, inl, inr, arith, append-nil}
use Rattle.std.specs.List.{list_all, join_with_byte}
use Rattle.std.specs.Cmp.{tied_itself}
use Rattle.std.proofs.lemmas.Bool.{cases_Bool, and_parts, and_from, not-true, not_from_false, eqb-true, le-ltb}
use Rattle.std.proofs.lemmas.List.Splits.{join_with_byte-slice_split}
use Rattle.vx_spec.specs.Numerals.{is_numeral, numeral_text}
use Rattle.vx_spec.proofs.NumeralLaws.{numeral_text_is, numeral_text_first, value-numeral_text}
use Rattle.vx_text.proofs.Joins.{split_join}
use Rattle.vx_scheme.specs.declared.ident.Ident.{Ident}
use Rattle.vx_scheme.specs.declared.ident.Ident.TheVariants.{Number, Word}
use Rattle.vx_scheme.specs.Scheme.{IsSpelled, NormalSpells, TextLaws}
use Rattle.vx_spec.specs.Signs.{dot, hyphen}
use Rattle.vx_order.specs.Dotted.{tail}
use Rattle.vx_order.specs.Identifiers.{identifier_text, is_ident, is_identifier}
use Rattle.vx_order.specs.Laws.Dotted.{identifiers_lack}
use Rattle.vx_order.specs.Laws.Identifiers.{again, all_again, formed_idents}
use Rattle.npm_scheme.specs.Version.{Fields, IsWithin, IsVersion, build_pieces, without_build}
use Rattle.npm_scheme.specs.Spelling.{Parts, AreVersionParts, Spells, whole, zero_digit, has_leading_zero, is_plain_numeral, is_pre_identifier, version_of}
use Rattle.npm_scheme.specs.Writing.{normal}
use Rattle.npm_scheme.specs.Order.{order_of, order_total}
use Rattle.npm_scheme.specs.Laws.Unique.{one_reading, pre_identifiers}

-- the numeral of a number has no leading zeros
pub has_leading_zero-numeral_text : (n : ℕ) → has_leading_zero (numeral_text n) ≡ false
has_leading_zero-numeral_text n = elim (cases_Bool (eqb (get_or (numeral_text n) 0 0) zero_digit)) [
  | inl zero' ↦ rw (zero', le-ltb 1 (length (numeral_text n)) (omega (arith, numeral_text_first n (eqb-true _ _ zero')))) refl
  | inr other ↦ rw other refl
]

pub is_plain_numeral-numeral_text : (n : ℕ) → is_plain_numeral (numeral_text n) ≡ true
is_plain_numeral-numeral_text n = and_from _ _ (numeral_text_is n) (not_from_false _ (has_leading_zero-numeral_text n))

-- an identifier's text is a pre-release identifier's
pre_again : (i : Ident) → is_ident i ≡ true → is_pre_identifier (identifier_text i) ≡ true
pre_again (Number n) is = and_from _ _ (again (Number n) is).0 (rw (numeral_text_is n, has_leading_zero-numeral_text n) refl)
pre_again (Word w) is =
    let parts = and_parts (is_identifier w) (not (is_numeral w)) is in
    and_from _ _ parts.0 (rw (not-true (is_numeral w) parts.1) refl)

all_pre_again : (pre : List Ident) → list_all is_ident pre ≡ true → list_all is_pre_identifier (map identifier_text pre) ≡ true
all_pre_again [] all = refl
all_pre_again (i ∷ pre) all = let a = and_parts _ _ all in and_from _ _ (pre_again i a.0) (all_pre_again pre a.1)

not_blank : (byte : List ℕ) → is_identifier byte ≡ true → byte ≢ []
not_blank [] is e = cc is
not_blank (x ∷ t) is e = cc e

-- cutting a build undoes joining it
build_again : (ts : List (List ℕ)) → list_all is_identifier ts ≡ true → build_pieces (join_with_byte dot ts) ≡ ts
build_again [] all = refl
build_again ([] ∷ ts) all = absurd (not_blank [] (and_parts (is_identifier []) (list_all is_identifier ts) all).0 refl)
build_again ((x ∷ t) ∷ []) all = split_join dot (x ∷ t) [] (identifiers_lack dot refl ((x ∷ t) ∷ []) all)
build_again ((x ∷ t) ∷ u ∷ us) all = split_join dot (x ∷ t) (u ∷ us) (identifiers_lack dot refl ((x ∷ t) ∷ u ∷ us) all)

joined_again : (build : List ℕ) → join_with_byte dot (build_pieces build) ≡ build
joined_again [] = refl
joined_again (b ∷ build) = join_with_byte-slice_split dot (b ∷ build)

-- parts that have the form give a version
pub formed : (p : Parts) → AreVersionParts p → IsVersion (version_of p)
formed p form = record { pre = formed_idents p.pre (pre_identifiers p.pre form.pre); build = rw (build_again p.build form.build) form.build }

parts_with : Fields → List (List ℕ) → Parts
parts_with v build = record { major = numeral_text v.major; minor = numeral_text v.minor; patch = numeral_text v.patch; pre = map identifier_text v.pre; build = build }

with_form : (v : Fields) (build : List (List ℕ)) → IsVersion v → list_all is_identifier build ≡ true → AreVersionParts (parts_with v build)
unfolding parts_with
with_form v build is all = record { major = is_plain_numeral-numeral_text v.major; minor = is_plain_numeral-numeral_text v.minor; patch = is_plain_numeral-numeral_text v.patch; pre = all_pre_again v.pre is.pre; build = all }

pub version_spelled : (v : Fields) → IsVersion v → IsSpelled Spells v
unfolding parts_with
version_spelled v is =
    let pre = (all_again v.pre is.pre).1 in
    let build = joined_again v.build in
    record {
      text = whole (parts_with v (build_pieces v.build));
      spelled = record {
        parts = parts_with v (build_pieces v.build);
        joined = refl;
        form = with_form v (build_pieces v.build) is is.build;
        values = rw (value-numeral_text v.major, value-numeral_text v.minor, value-numeral_text v.patch, build, pre) refl;
      };
    }

pub spelled_version : (text : List ℕ) (v : Fields) → Spells text v → IsVersion v
spelled_version text v s = rw s.values (formed s.parts s.form)

pub normal_is : (v : Fields) → IsVersion v → Spells (normal v) (without_build v)
unfolding parts_with
normal_is v is =
    let pre = (all_again v.pre is.pre).1 in
    record {
      parts = parts_with v [];
      joined = sym (append-nil (normal v));
      form = with_form v [] is refl;
      values = rw (value-numeral_text v.major, value-numeral_text v.minor, value-numeral_text v.patch, pre) refl;
    }

some_front : (a b : List ℕ) (c : ℕ) (rest : List ℕ) → (a ++ (c ∷ b)) ++ rest ≢ []
some_front [] b c rest e = cc e
some_front (x ∷ a) b c rest e = cc e

pub normal_spells : (v : Fields) → IsVersion v → NormalSpells order_of IsWithin Spells normal v
normal_spells v is = record {
  not_empty = some_front (numeral_text v.major) (numeral_text v.minor ++ dot ∷ numeral_text v.patch) dot (tail hyphen (map identifier_text v.pre));
  version = without_build v;
  spelled = normal_is v is;
  order_equal = tied_itself order_total v;
  same_text = refl;
  within = λ w. w;
}

pub npm_texts : TextLaws order_of IsVersion IsWithin Spells normal
npm_texts = record { version_spelled = version_spelled; spelled_version = spelled_version; spells_one = one_reading; normal_spells = normal_spells }
