-- The shape of the version that parts stand for.
use Rattle.std.proofs.Common.{Bor, suc, ◌≡◌, ◌&&◌, nat_le, is_none, is_some, ◌==◌, ◌<◌, ℕ, Bool, true, false, List, [], ◌∷◌, length, map, Option, Some, None, refl, sym, ap, ◌∙◌, subst, arith}
use Rattle.std.specs.List.{slice_split}
use Rattle.std.specs.Option.{option_copied, option_map}
use Rattle.std.proofs.lemmas.Bool.{ne_eqb}
use Rattle.std.proofs.lemmas.List.{length-map}
use Rattle.std.proofs.lemmas.List.Splits.{length-slice_split}
use Rattle.vx_text.proofs.Joins.{split_some}
use Rattle.pep440_scheme.specs.declared.shape.Shape.{Shape}
use Rattle.pep440_scheme.specs.Version.{Fields}
use Rattle.vx_spec.specs.Signs.{dot}
use Rattle.pep440_scheme.specs.Spelling.{Spells, is_separator, local_of}
use Rattle.pep440_scheme.specs.Shape.{HasShape, has_no_label}
use Rattle.pep440_scheme.specs.declared.spelling.Written.{Written}
use Rattle.pep440_scheme.specs.declared.spelling.WrittenPre.{WrittenPre}
use Rattle.pep440_scheme.specs.Steps.Written.{parts, pre_taken}
use Rattle.pep440_scheme.specs.Steps.Apart.{Apart, apart, fields_of, is_dot, label_parts, parts_behind, pre_part_of, release_parts}
use Rattle.pep440_scheme.specs.Laws.Reading.{spelled_reads}
use Rattle.vx_spec.specs.Numerals.{value}

-- of parts, the first and those behind it, there are two or more where something stands behind the first
pub two_behind : (front : List ℕ) (behind : Option (List ℕ)) → nat_le 2 (length (front ∷ parts_behind is_dot behind)) ≡ is_some behind
two_behind front None = refl
two_behind front (Some text) = two (parts_behind is_dot (Some text)) (split_some dot text)
  where
    two : (parts : List (List ℕ)) → 0 < length parts → nat_le 2 (length (front ∷ parts)) ≡ true
    two parts some = grind arith

-- whether something is there, seen through the reference
pub some_copied : (text : Option (Bor (List ℕ))) → is_some (option_copied text) ≡ is_some text
some_copied None = refl
some_copied (Some text) = refl

no_label : (parts : List (List ℕ)) → 0 < length parts → has_no_label (map local_of parts) ≡ false
no_label [] some = absurd (omega (arith, some))
no_label (part ∷ parts) some = refl

-- a text has a label where it has a byte
label_is : (label : List ℕ) → (length label == 0) ≡ has_no_label (map local_of (label_parts label))
label_is [] = refl
label_is (sign ∷ label) =
    ne_eqb (suc (length label)) 0 (omega arith) ∙ sym (no_label (slice_split is_separator label) (omega (arith, length-slice_split is_separator label)))

none_pre : (pre : Option WrittenPre) → is_none (pre_part_of (pre_taken pre)) ≡ is_none pre
none_pre None = refl
none_pre (Some pre) = refl

none_digits : (digits : Option (Bor (List ℕ))) → is_none (option_map value (option_copied digits)) ≡ is_none digits
none_digits None = refl
none_digits (Some digits) = refl

-- the shape of the version that the parts stand for
pub parts_shape : (w : Written) (two public' bare : Bool) → two ≡ nat_le 2 (length (release_parts w.release.now))
    → public' ≡ (length w.label.now == 0)
    → bare ≡ ((is_none w.pre && is_none w.post) && is_none w.dev)
    → HasShape (record { has_two_numbers = two; is_public = public'; is_bare = bare }) (fields_of (parts w))
parts_shape w two public' bare numbers label none = record {
  numbers = numbers ∙ ap (nat_le 2) (sym (length-map (release_parts w.release.now) value));
  public' = label ∙ label_is w.label.now;
  bare = none ∙ rw (none_pre w.pre, none_digits w.post, none_digits w.dev) refl;
}

-- the shape of a text is that of its parts
pub shape_spelled : (text : List ℕ) (a : Apart) (shape : Shape) → a ≡ apart text → HasShape shape (fields_of a) → (v : Fields)
    → Spells text v → HasShape shape v
shape_spelled text a shape e has v s = subst (HasShape shape) (ap fields_of e ∙ (spelled_reads text v s).values) has
