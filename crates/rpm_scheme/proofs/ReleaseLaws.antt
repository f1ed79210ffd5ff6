-- A version without its release.
use Rattle.std.proofs.Common.{◌≡◌, ℕ, List, ◌∷◌, ◌++◌, true, false, Option, Some, None, refl, sym, ap, ◌∙◌, arith, take, length, append_assoc, append-nil}
use Rattle.std.specs.List.{list_all}
use Rattle.vx_spec.specs.Marks.{IsCut, Lacks, in_front, marked}
use Rattle.vx_spec.specs.Runs.{begins}
use Rattle.vx_spec.proofs.EndLaws.{lacks_append}
use Rattle.vx_spec.proofs.RunLaws.{one_run}
use Rattle.vx_spec.proofs.TextLaws.{test_by_each}
use Rattle.std.proofs.lemmas.List.{take_at}
use Rattle.std.proofs.lemmas.Bool.{ne_eqb, not_from_false}
use Rattle.vx_spec.specs.Signs.{colon, hyphen}
use Rattle.vx_text.specs.EpochParts.{Parts, is_epoch, whole}
use Rattle.vx_text.proofs.EpochLaws.{epoch_lacks}
use Rattle.rpm_scheme.specs.Version.{Fields, is_no_hyphen, front_text, without_release}
use Rattle.rpm_scheme.specs.Spelling.{AreVersionParts, IsVersion}
use Rattle.rpm_scheme.specs.Laws.Unique.{part_lacks}

no_hyphens : (text : List ℕ) → Lacks hyphen text → list_all is_no_hyphen text ≡ true
no_hyphens text lacks = test_by_each (λ b. ¬ (b ≡ hyphen)) is_no_hyphen text (λ b other. not_from_false _ (ne_eqb b hyphen other)) lacks

marked_begins : (part : Option (List ℕ)) → begins is_no_hyphen (marked hyphen part) ≡ false
marked_begins None = refl
marked_begins (Some part) = refl

-- the front of a text that is cut at its first '-'
pub cut_front : (text front : List ℕ) (behind : Option (List ℕ)) → IsCut hyphen text front behind → front_text text ≡ front
cut_front text front behind cut =
    ap front_text cut.joined ∙ (one_run is_no_hyphen front (marked hyphen behind) (no_hyphens front cut.first) (marked_begins behind)).0

pub cut_taken : (text front : List ℕ) (behind : Option (List ℕ)) → IsCut hyphen text front behind → take (length front) text ≡ front
cut_taken text front behind cut = ap (take (length front)) cut.joined ∙ take_at front (marked hyphen behind) (length front) refl

-- the parts without the release
abbrev front_parts : Parts → Parts
front_parts p = record { epoch = p.epoch; main = p.main; last = None }

front_form : (p : Parts) → AreVersionParts p → AreVersionParts (front_parts p)
front_form p form = record { epoch = form.epoch; main = form.main; last = refl; alone = λ _. part_lacks hyphen refl p.main form.main }

front_lacks : (epoch : Option (List ℕ)) (version : List ℕ) → is_epoch epoch ≡ true → Lacks hyphen version → Lacks hyphen (in_front colon epoch version)
front_lacks None version is lacks = lacks
front_lacks (Some part) version is lacks = lacks_append hyphen part (colon ∷ version) (epoch_lacks hyphen refl part is) (λ e. omega (arith, e), lacks)

front_joined : (epoch : Option (List ℕ)) (version rest : List ℕ) → in_front colon epoch (version ++ rest) ≡ in_front colon epoch version ++ rest
front_joined None version rest = refl
front_joined (Some part) version rest = sym (append_assoc part (colon ∷ version) rest)

-- what stands before the '-' is the epoch and the version
parts_cut : (p : Parts) → AreVersionParts p → IsCut hyphen (whole p) (in_front colon p.epoch p.main) p.last
parts_cut p form = record { joined = front_joined p.epoch p.main (marked hyphen p.last); first = front_lacks p.epoch p.main form.epoch (part_lacks hyphen refl p.main form.main) }

front_whole : (p : Parts) → AreVersionParts p → front_text (whole p) ≡ whole (front_parts p)
front_whole p form = cut_front (whole p) (in_front colon p.epoch p.main) p.last (parts_cut p form) ∙ ap (in_front colon p.epoch) (sym (append-nil p.main))

-- it spells the version without its release
pub front_spells : (v : Fields) → IsVersion v → IsVersion (without_release v)
front_spells v is =
    let p = is.parts in record {
      parts = front_parts p;
      joined = ap front_text is.joined ∙ front_whole p is.form;
      form = front_form p is.form;
      values = ap without_release is.values;
    }
