-- The bytes of parts hold no signs of others, so that no text spells two versions.
use Rattle.std.proofs.Common.{◌≡◌, ◌≢◌, ℕ, nat_lt, length, Bool, List, [], ◌∷◌, true, refl}
use Rattle.std.specs.List.{list_all}
use Rattle.std.proofs.lemmas.Bool.{and_parts}
use Rattle.vx_spec.specs.Marks.{Lacks}
use Rattle.vx_spec.specs.Runs.{is_made_of}
use Rattle.vx_spec.proofs.EndLaws.{lacks_by}
use Rattle.vx_spec.specs.Signs.{colon, hyphen}
use Rattle.vx_text.proofs.EpochVersionLaws as by_parts
use Rattle.deb_scheme.specs.Spelling.{Spells, is_revision_byte, is_upstream_byte, is_revision, is_upstream, version_of}
use Rattle.deb_scheme.specs.Version.{Fields}

pub made_of : (test : ℕ → Bool) (text : List ℕ) → is_made_of test text ≡ true → list_all test text ≡ true
made_of test text is = (and_parts (nat_lt 0 (length text)) (list_all test text) is).1

pub upstream_some : (part : List ℕ) → is_upstream part ≡ true → part ≢ []
upstream_some [] is e = cc is
upstream_some (b ∷ part) is e = cc e

pub upstream_lacks : (part : List ℕ) → is_upstream part ≡ true → Lacks colon part
upstream_lacks part is = lacks_by is_upstream_byte colon refl part (made_of is_upstream_byte part is)

pub revision_lacks : (part : List ℕ) → is_revision part ≡ true → Lacks colon part × Lacks hyphen part
revision_lacks part is =
    let all = made_of is_revision_byte part is in
    (lacks_by is_revision_byte colon refl part all, lacks_by is_revision_byte hyphen refl part all)

-- no text spells two versions
pub one_reading : (text : List ℕ) (v w : Fields) → Spells text v → Spells text w → v ≡ w
one_reading = by_parts.one_reading is_upstream is_revision version_of upstream_lacks revision_lacks
