-- Where a text of dotted parts behind their marks is cut is known from the bytes that its parts lack.
use Rattle.std.proofs.Common.{◌≡◌, ◌≢◌, ◌<◌, ℕ, List, [], ◌∷◌, ◌++◌, Bool, true, false, length, refl, sym, ap, ◌∙◌, Option, Some, None, arith, append-nil}
use Rattle.std.specs.List.{AllByRecursion, join_with_byte, list_all}
use Rattle.std.proofs.lemmas.Bool.{and_parts}
use Rattle.std.proofs.lemmas.List.Splits.{join_with_byte-slice_split}
use Rattle.vx_spec.specs.Marks.{IsCut, Lacks, marked}
use Rattle.vx_spec.specs.Runs.{is_made_of}
use Rattle.vx_spec.proofs.MarkLaws.{one_cut}
use Rattle.vx_spec.proofs.EndLaws.{lacks_append, lacks_by}
use Rattle.vx_text.proofs.Joins.{join_lacks, parts_behind, split_cut, split_join, split_some}
use Rattle.vx_spec.specs.Signs.{dot, hyphen, plus}
use Rattle.vx_order.specs.Dotted.{dotted, pieces, tail}
use Rattle.vx_order.specs.Identifiers.{is_identifier, is_identifier_byte}
use Rattle.vx_order.specs.Cuts.{IsCutApart}
use Rattle.vx_order.specs.Steps.Apart.{is_core_byte}

pub dot_not_hyphen : dot ≢ hyphen
dot_not_hyphen e = cc e

pub dot_not_plus : dot ≢ plus
dot_not_plus e = cc e

hyphen_not_plus : hyphen ≢ plus
hyphen_not_plus e = cc e

-- texts made of a class of bytes lack what is no byte of it
module _ (test : ℕ → Bool) where
  pub made_bytes : (t : List ℕ) → is_made_of test t ≡ true → list_all test t ≡ true
  made_bytes t is = (and_parts _ _ is).1

  pub made_lacks : (c : ℕ) → test c ≡ false → (t : List ℕ) → is_made_of test t ≡ true → Lacks c t
  made_lacks c fails t is = lacks_by test c fails t (made_bytes t is)

  pub all_made_lack : (c : ℕ) → test c ≡ false → (xs : List (List ℕ)) → list_all (is_made_of test) xs ≡ true → AllByRecursion (Lacks c) xs
  all_made_lack c fails [] all = tt
  all_made_lack c fails (x ∷ xs) all =
      let a = and_parts (is_made_of test x) (list_all (is_made_of test) xs) all in
      (made_lacks c fails x a.0, all_made_lack c fails xs a.1)

pub identifiers_lack : (c : ℕ) → is_identifier_byte c ≡ false → (xs : List (List ℕ)) → list_all is_identifier xs ≡ true → AllByRecursion (Lacks c) xs
identifiers_lack = all_made_lack is_identifier_byte

-- ---- a part as the program holds it

abbrev pub together : List (List ℕ) → Option (List ℕ)
together [] = None
together (x ∷ xs) = Some (join_with_byte dot (x ∷ xs))

pub tail_marked : (mark : ℕ) (xs : List (List ℕ)) → tail mark xs ≡ marked mark (together xs)
tail_marked mark [] = refl
tail_marked mark (x ∷ xs) = refl

pub pieces_together : (xs : List (List ℕ)) → AllByRecursion (Lacks dot) xs → pieces (together xs) ≡ xs
pieces_together [] h = refl
pieces_together (x ∷ xs) h = split_join dot x xs h

pub tail_lacks : (c mark : ℕ) (xs : List (List ℕ)) → mark ≢ c → Lacks c (join_with_byte dot xs) → Lacks c (tail mark xs)
tail_lacks c mark [] other h = tt
tail_lacks c mark (x ∷ xs) other h = (other, h)

tail_some : (mark : ℕ) (xs : List (List ℕ)) → 0 < length xs → tail mark xs ≡ mark ∷ join_with_byte dot xs
tail_some mark [] some = absurd (omega arith)
tail_some mark (x ∷ xs) some = refl

pub tail_pieces : (mark : ℕ) (part : Option (List ℕ)) → tail mark (pieces part) ≡ marked mark part
tail_pieces mark None = refl
tail_pieces mark (Some t) =
    tail_some mark (dotted t) (split_some dot t)
    ∙ ap (λ (r : List ℕ). mark ∷ r) (join_with_byte-slice_split dot t)

pieces_behind : (behind : Option (List ℕ)) → parts_behind dot behind ≡ pieces behind
pieces_behind None = refl
pieces_behind (Some text) = refl

-- what is left is the part before its first dot and what stands behind that
pub pieces_cut : (rest : Option (List ℕ)) (text front : List ℕ) (behind : Option (List ℕ)) → rest ≡ Some text → IsCut dot text front behind → pieces rest ≡ front ∷ pieces behind
pieces_cut rest text front behind is cut = ap pieces is ∙ split_cut dot text front behind cut ∙ ap (λ (parts : List (List ℕ)). front ∷ parts) (pieces_behind behind)

-- ---- a core, a pre-release and a build

-- what stands before the build lacks the '+'
pub front_lacks : (core : List ℕ) (pre : List (List ℕ)) → Lacks plus core → list_all is_identifier pre ≡ true → Lacks plus (core ++ tail hyphen pre)
front_lacks core pre lacks all =
    lacks_append plus core (tail hyphen pre) lacks
    (tail_lacks plus hyphen pre hyphen_not_plus (join_lacks dot plus pre dot_not_plus (identifiers_lack plus refl pre all)))

-- what the cuts of such a text give
pub record Found (core core' : List ℕ) (pre build : List (List ℕ)) (pre' build' : Option (List ℕ)) : Type 0 where
  pub core_is : core' ≡ core
  pub pre_is : pieces pre' ≡ pre
  pub build_is : pieces build' ≡ build

-- the cuts of a text are at the bounds of its parts
pub found : {text core core' : List ℕ} {pre build : List (List ℕ)} {pre' build' : Option (List ℕ)} → IsCutApart text core' pre' build'
    → text ≡ core ++ tail hyphen pre ++ tail plus build → Lacks plus core → Lacks hyphen core → list_all is_identifier pre ≡ true → list_all is_identifier build ≡ true
    → Found core core' pre build pre' build'
found {text} {core} {core'} {pre} {build} {pre'} {build'} cut joined lacks_plus lacks_hyphen pre_all build_all =
    let front = core ++ tail hyphen pre in
    let first = one_cut plus front cut.front (together build) build' (front_lacks core pre lacks_plus pre_all) cut.at_plus.first
    (ap (λ (t : List ℕ). front ++ t) (sym (tail_marked plus build)) ∙ sym joined ∙ cut.at_plus.joined) in
    let second = one_cut hyphen core core' (together pre) pre' lacks_hyphen cut.at_hyphen.first
    (ap (λ (t : List ℕ). core ++ t) (sym (tail_marked hyphen pre)) ∙ first.0 ∙ cut.at_hyphen.joined) in
    record {
      core_is = sym second.0;
      pre_is = ap pieces (sym second.1) ∙ pieces_together pre (identifiers_lack dot refl pre pre_all);
      build_is = ap pieces (sym first.1) ∙ pieces_together build (identifiers_lack dot refl build build_all);
    }

-- what the cuts give is the text
pub cut_whole : {text core : List ℕ} {pre build : Option (List ℕ)} → IsCutApart text core pre build → text ≡ core ++ tail hyphen (pieces pre) ++ tail plus (pieces build)
cut_whole {text} {core} {pre} {build} cut = rw (tail_pieces hyphen pre, tail_pieces plus build, ← cut.at_hyphen.joined) cut.at_plus.joined

-- a text without marks is a core
pub uncut : (text : List ℕ) → list_all is_core_byte text ≡ true → IsCutApart text text None None
uncut text all = record {
  front = text;
  at_plus = record { joined = sym (append-nil text); first = lacks_by is_core_byte plus refl text all };
  at_hyphen = record { joined = sym (append-nil text); first = lacks_by is_core_byte hyphen refl text all };
}

-- a text of parts is cut so
pub cut_laid : (core : List ℕ) (pre build : List (List ℕ)) → Lacks plus core → Lacks hyphen core → list_all is_identifier pre ≡ true
    → IsCutApart (core ++ tail hyphen pre ++ tail plus build) core (together pre) (together build)
cut_laid core pre build lacks_plus lacks_hyphen all = record {
  front = core ++ tail hyphen pre;
  at_plus = record { joined = ap (λ (t : List ℕ). core ++ tail hyphen pre ++ t) (tail_marked plus build); first = front_lacks core pre lacks_plus all };
  at_hyphen = record { joined = ap (λ (t : List ℕ). core ++ t) (tail_marked hyphen pre); first = lacks_hyphen };
}

-- one text has one core, one pre-release and one build
pub one_apart : (core core' : List ℕ) (pre pre' build build' : List (List ℕ)) → core ++ tail hyphen pre ++ tail plus build ≡ core' ++ tail hyphen pre' ++ tail plus build'
    → Lacks plus core → Lacks hyphen core → list_all is_identifier pre ≡ true → list_all is_identifier build ≡ true
    → Lacks plus core' → Lacks hyphen core' → list_all is_identifier pre' ≡ true → list_all is_identifier build' ≡ true
    → (core ≡ core') × (pre ≡ pre') × (build ≡ build')
one_apart core core' pre pre' build build' e plus_lacks hyphen_lacks pre_all build_all plus_lacks' hyphen_lacks' pre_all' build_all' =
    let f = found {core = core} {core' = core'} {pre = pre} {build = build} (cut_laid core' pre' build' plus_lacks' hyphen_lacks' pre_all') (sym e) plus_lacks hyphen_lacks pre_all build_all in
    (sym f.core_is, sym f.pre_is ∙ pieces_together pre' (identifiers_lack dot refl pre' pre_all'), sym f.build_is ∙ pieces_together build' (identifiers_lack dot refl build' build_all'))
