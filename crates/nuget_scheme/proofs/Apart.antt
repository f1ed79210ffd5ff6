-- Which texts are not taken apart.
use Rattle.std.proofs.Common.{◌≡◌, ◌&&◌, ℕ, List, true, nat_lt, length, refl, ap, ◌∙◌, Option}
use Rattle.std.specs.List.{list_all}
use Rattle.std.proofs.lemmas.Bool.{and_from, and_parts, lt-ltb}
use Rattle.std.proofs.lemmas.List.Splits.{join_with_byte-slice_split}
use Rattle.vx_spec.specs.Numerals.{is_numeral}
use Rattle.vx_text.proofs.Joins.{split_some}
use Rattle.vx_spec.specs.Signs.{dot}
use Rattle.vx_order.specs.Dotted.{dotted, pieces}
use Rattle.vx_order.specs.Identifiers.{is_identifier}
use Rattle.vx_order.specs.Cuts.{IsCutApart}
use Rattle.vx_order.specs.Laws.Dotted.{cut_whole, found}
use Rattle.nuget_scheme.specs.Spelling.{Parts, AreVersionParts, whole}
use Rattle.nuget_scheme.specs.Steps.Written.{IsVersionWritten, has_form}
use Rattle.nuget_scheme.specs.Laws.Unique.{core, core_lacks_hyphen, core_lacks_plus, dotted_joined, numerals_lack}

-- the parts that the cuts give
abbrev pub cut_parts : List ℕ → Option (List ℕ) → Option (List ℕ) → Parts
cut_parts numbers labels build = record { numbers = dotted numbers; labels = pieces labels; build = pieces build }

-- they are the parts that the text is written of, where there are such
pub same_parts : {text numbers : List ℕ} {labels build : Option (List ℕ)} → IsCutApart text numbers labels build
    → (p : Parts) → IsVersionWritten text p → AreVersionParts (cut_parts numbers labels build)
same_parts {text} {numbers} {labels} {build} cut p is =
    let f = found {core = core p} {core' = numbers} {pre = p.labels} {build = p.build} cut is.joined (core_lacks_plus p is.form) (core_lacks_hyphen p is.form) is.form.labels is.form.build in
    let numbers_are : dotted numbers ≡ p.numbers = ap dotted f.core_is ∙ dotted_joined p.numbers is.form.some (numerals_lack dot refl p.numbers is.form.numerals) in
    record {
      some = rw numbers_are is.form.some;
      few = rw numbers_are is.form.few;
      numerals = rw numbers_are is.form.numerals;
      labels = rw f.pre_is is.form.labels;
      build = rw f.build_is is.form.build;
    }

-- what the cuts give is the text
pub joined_parts : {text numbers : List ℕ} {labels build : Option (List ℕ)} → IsCutApart text numbers labels build → text ≡ whole (cut_parts numbers labels build)
joined_parts {text} {numbers} {labels} {build} cut = rw (join_with_byte-slice_split dot numbers) (cut_whole cut)

-- what is tested is the form
pub form_from : (numbers : List ℕ) (labels build : Option (List ℕ)) → has_form (cut_parts numbers labels build) ≡ true → AreVersionParts (cut_parts numbers labels build)
form_from numbers labels build is =
    let a = and_parts (nat_lt (length (dotted numbers)) 5) (list_all is_numeral (dotted numbers) && (list_all is_identifier (pieces labels) && list_all is_identifier (pieces build))) is in
    let b = and_parts (list_all is_numeral (dotted numbers)) (list_all is_identifier (pieces labels) && list_all is_identifier (pieces build)) a.1 in
    let d = and_parts (list_all is_identifier (pieces labels)) (list_all is_identifier (pieces build)) b.1 in
    record { some = lt-ltb 0 (length (dotted numbers)) (split_some dot numbers); few = a.0; numerals = b.0; labels = d.0; build = d.1 }

pub form_to : (p : Parts) → AreVersionParts p → has_form p ≡ true
form_to p form =
    and_from (nat_lt (length p.numbers) 5) (list_all is_numeral p.numbers && (list_all is_identifier p.labels && list_all is_identifier p.build)) form.few
    (and_from (list_all is_numeral p.numbers) (list_all is_identifier p.labels && list_all is_identifier p.build) form.numerals
    (and_from (list_all is_identifier p.labels) (list_all is_identifier p.build) form.labels form.build))
