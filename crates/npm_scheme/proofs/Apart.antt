-- Which texts are not taken apart.
use Rattle.std.proofs.Common.{◌≡◌, ℕ, List, ◌∷◌, ◌++◌, refl, sym, ◌∙◌, Option, Some}
use Rattle.vx_spec.specs.Marks.{IsCut}
use Rattle.vx_spec.proofs.MarkLaws.{one_cut}
use Rattle.vx_spec.specs.Signs.{dot}
use Rattle.vx_order.specs.Dotted.{pieces}
use Rattle.vx_order.specs.Cuts.{IsCutApart}
use Rattle.vx_order.specs.Laws.Dotted.{Found, cut_whole, found}
use Rattle.npm_scheme.specs.Written.{IsVersionWritten}
use Rattle.npm_scheme.specs.Steps.Dotted.{IsDotted}
use Rattle.npm_scheme.specs.Spelling.{Parts, AreVersionParts, core, whole}
use Rattle.npm_scheme.specs.Laws.Unique.{core_lacks_hyphen, core_lacks_plus, numeral_lacks, pre_identifiers}

-- where a text with two dots is cut
pub dotted_first : {text front : List ℕ} {behind : Option (List ℕ)} → IsCut dot text front behind → (a b c : List ℕ) → IsDotted text a b c
    → (a ≡ front) × (Some (b ++ dot ∷ c) ≡ behind)
dotted_first {text} {front} {behind} cut a b c is =
    one_cut dot a front (Some (b ++ dot ∷ c)) behind is.first cut.first (sym is.joined ∙ cut.joined)

pub dotted_second : {text front rest middle : List ℕ} {behind : Option (List ℕ)} → IsCut dot text front (Some rest) → IsCut dot rest middle behind
    → (a b c : List ℕ) → IsDotted text a b c → (b ≡ middle) × (Some c ≡ behind)
dotted_second {text} {front} {rest} {middle} {behind} cut cut' a b c is =
    let first = dotted_first cut a b c is in
    one_cut dot b middle (Some c) behind is.second cut'.first (cc (first.1, cut'.joined))

pub core_found : {text front : List ℕ} {pre build : Option (List ℕ)} → IsCutApart text front pre build → (p : Parts) → IsVersionWritten text p
    → Found (core p.major p.minor p.patch) front p.pre p.build pre build
core_found {text} {front} {pre} {build} cut p is =
    found cut is.joined (core_lacks_plus p is.form) (core_lacks_hyphen p is.form) (pre_identifiers p.pre is.form.pre) is.form.build

-- the numbers of a text that is written have their dots
pub core_dotted : {text front : List ℕ} {pre build : Option (List ℕ)} → IsCutApart text front pre build → (p : Parts) → IsVersionWritten text p
    → IsDotted front p.major p.minor p.patch
core_dotted {text} {front} {pre} {build} cut p is = record {
  joined = (core_found cut p is).core_is;
  first = numeral_lacks dot p.major refl is.form.major;
  second = numeral_lacks dot p.minor refl is.form.minor;
}

-- the parts that the cuts give
abbrev pub cut_parts : List ℕ → List ℕ → List ℕ → Option (List ℕ) → Option (List ℕ) → Parts
cut_parts a b c pre build = record { major = a; minor = b; patch = c; pre = pieces pre; build = pieces build }

-- they are the parts that the text is written of, where there are such
pub same_parts : {text front a b c : List ℕ} {pre build : Option (List ℕ)} → IsCutApart text front pre build → IsDotted front a b c
    → (p : Parts) → IsVersionWritten text p → AreVersionParts (cut_parts a b c pre build)
same_parts {text} {front} {a} {b} {c} {pre} {build} cut dots p is =
    let f = core_found cut p is in
    let d = core_dotted cut p is in
    let first = one_cut dot p.major a (Some (p.minor ++ dot ∷ p.patch)) (Some (b ++ dot ∷ c)) d.first dots.first (sym d.joined ∙ dots.joined) in
    let second = one_cut dot p.minor b (Some p.patch) (Some c) d.second dots.second (cc (first.1)) in
    let third : p.patch ≡ c = cc (second.1) in
    record {
      major = rw (← first.0) is.form.major;
      minor = rw (← second.0) is.form.minor;
      patch = rw (← third) is.form.patch;
      pre = rw f.pre_is is.form.pre;
      build = rw f.build_is is.form.build;
    }

-- what the cuts give is the text
pub joined_parts : {text front a b c : List ℕ} {pre build : Option (List ℕ)} → IsCutApart text front pre build → IsDotted front a b c
    → text ≡ whole (cut_parts a b c pre build)
joined_parts {text} {front} {a} {b} {c} {pre} {build} cut dots = rw (← dots.joined) (cut_whole cut)
