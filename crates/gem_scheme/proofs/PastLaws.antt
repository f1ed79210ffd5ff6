-- A version is within the limit exactly where no numeral of its text is past it.
use Rattle.std.proofs.Common.{◌≡◌, ◌↔◌, ℕ, List, sym, subst, None}
use Rattle.std.specs.List.{AllByRecursion}
use Rattle.vx_scheme.specs.declared.ident.Ident.TheVariants.{Number, Word}
use Rattle.vx_text.specs.Past.{first_past, NonePast}
use Rattle.vx_text.proofs.PastLaws.{first_none, none_past}
use Rattle.vx_order.proofs.ScanLimits.{none_tokens, tokens_within}
use Rattle.gem_scheme.specs.Version.{Fields, IsWithin, SegmentIsWithin}
use Rattle.gem_scheme.specs.Spelling.{Spells}
use Rattle.gem_scheme.specs.Steps.Tokens.{sign_segments}
use Rattle.gem_scheme.specs.Laws.Scanning.{segments_scanned, sign_within}

pub version_within : (text : List ℕ) (v : Fields) → Spells text v → NonePast text → IsWithin v
version_within text v s none =
    subst IsWithin (sym s.values) (subst (AllByRecursion SegmentIsWithin) (sym (segments_scanned text))
    (tokens_within SegmentIsWithin Number Word sign_segments (λ n small. small) (λ n small. small) (λ word. tt) sign_within text none))

pub version_none : (text : List ℕ) (v : Fields) → Spells text v → IsWithin v → NonePast text
version_none text v s fits =
    none_tokens SegmentIsWithin Number Word sign_segments (λ n small. small) (λ n small. small) (λ word. tt) sign_within text
    (subst (AllByRecursion SegmentIsWithin) (segments_scanned text) (subst IsWithin s.values fits))

-- a version is within the limit exactly where none of its numerals is past it
pub limits_agree : (text : List ℕ) (v : Fields) (at : ℕ) → Spells text v → IsWithin v ↔ (first_past at text ≡ None)
limits_agree text v at s = (λ fits. first_none at text (version_none text v s fits), λ none. version_within text v s (none_past at text none))
