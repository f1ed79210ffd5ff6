-- The text of spans in PyPI's range language, PEP 440, "Version specifiers", or its first refusal; which text is printed is this
-- project's own. Numerals are of any size, and so are those that are raised by one.
use Rattle.std.specs.Prelude.{◌-◌, ◌==◌, ◌&&◌, ◌||◌, not, if◌then◌else◌, is_none, ℕ, Bool, true, false, List, [], ◌∷◌, ◌++◌, length, map, take, codes, Option, Some, None, Result, Ok, Err}
use Rattle.std.specs.List.{join_with_byte, suffix_len}
use Rattle.std.specs.Ordering.{is_eq}
use Rattle.vx_scheme.specs.declared.domain.Domain.{Domain}
use Rattle.vx_scheme.specs.declared.domain.Domain.TheVariants.{All, Releases}
use Rattle.vx_scheme.specs.declared.back_fault.BackFault.{BackFault}
use Rattle.vx_scheme.specs.declared.back_fault.BackFault.TheVariants.{NotOneInterval, LocalBound, LocalsApart}
use Rattle.vx_scheme.specs.declared.ident.Ident.{Ident}
use Rattle.vx_scheme.specs.declared.span.Cut.{Cut}
use Rattle.vx_scheme.specs.declared.span.Span.{Span}
use Rattle.vx_range.specs.Spans.{is_point}
use Rattle.pep440_scheme.specs.Version.{Fields}
use Rattle.pep440_scheme.specs.Order.{order_of}
use Rattle.pep440_scheme.specs.Next.{succ_of}
use Rattle.pep440_scheme.specs.Writing.{normal}
use Rattle.pep440_range.specs.declared.construct.Comparison.{Comparison}
use Rattle.pep440_range.specs.declared.construct.Comparison.TheVariants.{Compatible, LessOrEqual, GreaterOrEqual, Less, Greater}
use Rattle.pep440_range.specs.declared.construct.Construct.{Construct}
use Rattle.pep440_range.specs.declared.construct.Construct.TheVariants.{Compares, Equal, NotEqual, Within, NotWithin, Identical}
use Rattle.pep440_range.specs.Holds.{release_of}
use Rattle.pep440_range.specs.Spans.{end_of, lowest_in}

-- ---- constructs as they are written

abbrev pub comparison_signs : Comparison → List ℕ
comparison_signs Compatible = codes "~="
comparison_signs LessOrEqual = codes "<="
comparison_signs GreaterOrEqual = codes ">="
comparison_signs Less = codes "<"
comparison_signs Greater = codes ">"

-- the operator and the normal text of the version, or of the release with '.*' behind it
abbrev pub construct_text : Construct → List ℕ
construct_text (Compares how v) = comparison_signs how ++ normal v
construct_text (Equal v) = codes "==" ++ normal v
construct_text (NotEqual v) = codes "!=" ++ normal v
construct_text (Within r) = codes "==" ++ (normal r ++ codes ".*")
construct_text (NotWithin r) = codes "!=" ++ (normal r ++ codes ".*")
construct_text (Identical text) = codes "===" ++ text

-- the constructs with a comma between each two
abbrev pub range_text : List Construct → List ℕ
range_text constructs = join_with_byte 44 (map construct_text constructs)

-- ---- one version

-- the version has a local version label
abbrev pub is_local_by : List Ident → Bool
is_local_by [] = false
is_local_by (part ∷ parts) = true

abbrev pub is_local : Fields → Bool
is_local v = is_local_by v.local

-- from before a public version to before the next public one: the version and its locals
abbrev pub holds_locals : Cut Fields → Cut Fields → Bool
holds_locals lower upper =
    (not lower.after && not upper.after) && (not (is_local lower.version) && is_eq (order_of upper.version (succ_of lower.version)))

-- What lies between the cuts is what `==V` holds of, V being the version of the first: among releases one order class; else one
-- order class of a local version, or a public version with its locals.
abbrev pub is_one_version : Domain → Cut Fields → Cut Fields → Bool
is_one_version Releases lower upper = is_point order_of lower upper
is_one_version All lower upper = (is_point order_of lower upper && is_local lower.version) || holds_locals lower upper

-- ---- the versions of a release

abbrev pub is_zero : ℕ → Bool
is_zero n = n == 0

-- the numbers without the zeros at their end
abbrev pub without_zeros : List ℕ → List ℕ
without_zeros numbers = take (length numbers - suffix_len is_zero numbers) numbers

-- the numbers, the last one lowered by one
abbrev pub lowered_last : List ℕ → List ℕ
lowered_last [] = []
lowered_last (n ∷ []) = (n - 1) ∷ []
lowered_last (n ∷ m ∷ numbers) = n ∷ lowered_last (m ∷ numbers)

-- The release R of which `==R.*` could end before this version: its epoch and its release without the zeros at the end, the last
-- number lowered by one.
abbrev pub series_before : Fields → Fields
series_before v = release_of v.epoch (lowered_last (without_zeros v.release))

abbrev pub is_some_number : List ℕ → Bool
is_some_number [] = false
is_some_number (n ∷ numbers) = true

-- What lies between the cuts is what `==R.*` holds of in the domain: the first stands before the lowest version whose release
-- begins with R, the second before the lowest one behind them, R being the release of which this could be so.
abbrev pub is_series : Domain → Cut Fields → Cut Fields → Bool
is_series domain lower upper =
    (not lower.after && not upper.after)
    && (is_some_number (without_zeros upper.version.release)
    && (is_eq (order_of lower.version (lowest_in domain (series_before upper.version)))
    && is_eq (order_of upper.version (end_of domain (series_before upper.version)))))

-- ---- bounds

-- Among releases a lower cut before V is `>=V`, and one after it `>V`. Where locals are meant too, only the first is written.
abbrev pub lower_by : Bool → Comparison
lower_by false = GreaterOrEqual
lower_by true = Greater

abbrev pub lower_constructs : Option (Cut Fields) → List Construct
lower_constructs None = []
lower_constructs (Some cut) = Compares (lower_by cut.after) cut.version ∷ []

-- Among releases an upper cut before W is `<W`, and one after it `<=W`.
abbrev pub upper_by : Bool → Comparison
upper_by false = Less
upper_by true = LessOrEqual

-- Else one before W is `<W` where W has a pre or a dev. Where it has neither, `<W` leaves out the pre-releases of W, which are
-- below it: so it is `<=W,!=W`.
abbrev pub below_by : Fields → Bool → List Construct
below_by w true = Compares LessOrEqual w ∷ NotEqual w ∷ []
below_by w false = Compares Less w ∷ []

abbrev pub upper_constructs : Domain → Option (Cut Fields) → List Construct
upper_constructs domain None = []
upper_constructs Releases (Some cut) = Compares (upper_by cut.after) cut.version ∷ []
upper_constructs All (Some cut) = below_by cut.version (is_none cut.version.pre && is_none cut.version.dev)

-- a version with a label is no bound; and where locals are meant too, no bound parts a public version from its locals
abbrev pub apart_fault : Domain → Bool → ℕ → Option BackFault
apart_fault All true mark = Some (LocalsApart mark)
apart_fault All false mark = None
apart_fault Releases after mark = None

abbrev pub bound_fault : Domain → Option (Cut Fields) → Option BackFault
bound_fault domain None = None
bound_fault domain (Some cut) = if is_local cut.version then Some (LocalBound cut.mark) else apart_fault domain cut.after cut.mark

-- ---- gaps

-- what is written of a gap: `!=V`, or `!=R.*`
abbrev pub gap_construct : Domain → Cut Fields → Cut Fields → Construct
gap_construct domain lower upper =
    if is_one_version domain lower upper then NotEqual lower.version else NotWithin (series_before upper.version)

abbrev pub gap_constructs : Domain → Option (Cut Fields) → Option (Cut Fields) → List Construct
gap_constructs domain (Some lower) (Some upper) = gap_construct domain lower upper ∷ []
gap_constructs domain (Some lower) None = []
gap_constructs domain None upper = []

-- a hole that parts a public version from its locals; and any other gap
abbrev pub other_gap : Domain → Bool → ℕ → BackFault
other_gap All true mark = LocalsApart mark
other_gap All false mark = NotOneInterval mark
other_gap Releases hole mark = NotOneInterval mark

-- the refusal of a gap has the mark of the cut that begins the next span
abbrev pub gap_fault : Domain → Option (Cut Fields) → Option (Cut Fields) → Option BackFault
gap_fault domain (Some lower) (Some upper) =
    if is_one_version domain lower upper || is_series domain lower upper then None
    else Some (other_gap domain (is_point order_of lower upper) upper.mark)
gap_fault domain (Some lower) None = None
gap_fault domain None upper = None

-- ---- spans

-- the upper cut of the last span
abbrev pub last_upper : Span Fields → List (Span Fields) → Option (Cut Fields)
last_upper span [] = span.upper
last_upper span (next ∷ spans) = last_upper next spans

-- one construct for each gap
abbrev pub all_gaps : Domain → List (Span Fields) → List Construct
all_gaps domain [] = []
all_gaps domain (span ∷ []) = []
all_gaps domain (span ∷ next ∷ spans) = gap_constructs domain span.upper next.lower ++ all_gaps domain (next ∷ spans)

-- the lower bound, the upper bound, the gaps
abbrev pub constructs_of : Domain → List (Span Fields) → List Construct
constructs_of domain [] = []
constructs_of domain (span ∷ spans) =
    lower_constructs span.lower ++ (upper_constructs domain (last_upper span spans) ++ all_gaps domain (span ∷ spans))

abbrev pub or_else : Option BackFault → Option BackFault → Option BackFault
or_else None other = other
or_else (Some fault) other = Some fault

-- the first refusal of a gap
abbrev pub gaps_fault : Domain → List (Span Fields) → Option BackFault
gaps_fault domain [] = None
gaps_fault domain (span ∷ []) = None
gaps_fault domain (span ∷ next ∷ spans) = or_else (gap_fault domain span.upper next.lower) (gaps_fault domain (next ∷ spans))

-- the first refusal: that of the lower bound, or else of a gap, or else of the last upper bound
abbrev pub first_fault : Domain → List (Span Fields) → Option BackFault
first_fault domain [] = None
first_fault domain (span ∷ spans) =
    or_else (bound_fault domain span.lower) (or_else (gaps_fault domain (span ∷ spans)) (bound_fault domain (last_upper span spans)))

-- the text of the constructs, unless there is a refusal
abbrev pub text_unless : Option BackFault → List Construct → Result (List ℕ) BackFault
text_unless None constructs = Ok (range_text constructs)
text_unless (Some fault) constructs = Err fault

-- the version of a single span that holds what `==V` holds of
abbrev pub single_by : Domain → Option (Cut Fields) → Option (Cut Fields) → Option Fields
single_by domain (Some lower) (Some upper) = if is_one_version domain lower upper then Some lower.version else None
single_by domain (Some lower) None = None
single_by domain None upper = None

abbrev pub single_of : Domain → List (Span Fields) → Option Fields
single_of domain [] = None
single_of domain (span ∷ []) = single_by domain span.lower span.upper
single_of domain (span ∷ next ∷ spans) = None

abbrev pub back_by : Option Fields → Domain → List (Span Fields) → Result (List ℕ) BackFault
back_by (Some v) domain spans = Ok (range_text (Equal v ∷ []))
back_by None domain spans = text_unless (first_fault domain spans) (constructs_of domain spans)

-- `==V` of one single version; else the bounds of all spans together and one construct for each gap, unless a part has none
abbrev pub back : Domain → List (Span Fields) → Result (List ℕ) BackFault
back domain spans = back_by (single_of domain spans) domain spans
