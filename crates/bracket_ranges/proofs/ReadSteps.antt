-- What the readings of the parts of a bracket say of it.
use Rattle.std.proofs.Common.{◌≡◌, ◌≢◌, ◌++◌, ℕ, Bool, true, List, [], ◌∷◌, refl, sym, ap, ◌∙◌, subst, Option, Some, None}
use Rattle.std.specs.Option.{option_or}
use Rattle.vx_spec.specs.Runs.{trimmed}
use Rattle.vx_spec.specs.Marks.{Lacks, marked, IsCut}
use Rattle.vx_spec.proofs.MarkLaws.{one_cut}
use Rattle.vx_spec.proofs.EndLaws.{not_lacking}
use Rattle.vx_range.specs.declared.piece.PieceReading.{PieceReading}
use Rattle.vx_range.specs.declared.piece.PieceReading.TheVariants.{Construct, Past, NoConstruct}
use Rattle.vx_range.specs.Pieces.{Written}
use Rattle.vx_range.specs.Lists.{Plain, piece_of, piece_place}
use Rattle.vx_range.specs.Reading.{Answers, AnswersPiece}
use Rattle.bracket_ranges.specs.declared.cutting.Kind.{Kind}
use Rattle.bracket_ranges.specs.declared.cutting.Kind.TheVariants as kind_of
use Rattle.bracket_ranges.specs.declared.bracket.Bound.{Bound}
use Rattle.bracket_ranges.specs.declared.bracket.Bracket.{Bracket}
use Rattle.bracket_ranges.specs.declared.bracket.Bracket.TheVariants.{Exact, Between}
use Rattle.bracket_ranges.specs.Reading.{Parts, IsBracket, BackLacks, ReadsBound, ReadsInside, ReadsParts, ReadsAs, side_past, parts_past, IsPast}
use Rattle.bracket_ranges.specs.Laws.Reading.{one_end, one_parts}
use Rattle.bracket_ranges.specs.Steps.Inside.{both}

-- two commas are too many
pub two_commas : (opening closing : ℕ) (between front behind back more : List ℕ) → IsCut 44 between front (Some behind) → IsCut 44 behind back (Some more)
    → (parts : Parts) → IsBracket (opening ∷ (between ++ closing ∷ [])) parts → ⊥
two_commas opening closing between front behind back more first second parts is =
    let ends = one_end between (parts.front ++ marked 44 parts.back) closing parts.closing (cc (is.joined)) in
    let sides = one_cut 44 front parts.front (Some behind) parts.back first.first is.first (sym first.joined ∙ ends.0) in
    let lacks : Lacks 44 behind = subst BackLacks (sym sides.1) is.one in
    not_lacking 44 back more (subst (Lacks 44) second.joined lacks)

module _ {V : Type 0} (Spells : List ℕ → V → Type 0) where
  pub both_answer : (opening closing : Bool) (front back : List ℕ) (p q : Option ℕ) (lower upper : PieceReading (Option (Bound V)))
      → Answers (ReadsBound Spells opening front) p lower → Answers (ReadsBound Spells closing back) q upper
      → Answers (ReadsInside Spells opening closing front (Some back)) (option_or p q) (both lower upper)
  both_answer opening closing front back p q (Construct lower) (Construct upper) a b = ((a.0, b.0), rw (a.1, b.1) refl)
  both_answer opening closing front back p q (Construct lower) (Past at) a b = ((Between lower b.0.0, (a.0, b.0.1)), rw (a.1, b.1) refl)
  both_answer opening closing front back p q (Construct lower) NoConstruct a b = no_upper
    where
      no_upper : (bracket : Bracket V) → ReadsInside Spells opening closing front (Some back) bracket → ⊥
      no_upper (Exact version) reads = reads
      no_upper (Between l u) reads = b u reads.1
  both_answer opening closing front back p q (Past at) (Construct upper) a b = ((Between a.0.0 upper, (a.0.1, b.0)), rw a.1 refl)
  both_answer opening closing front back p q (Past at) (Past next) a b = ((Between a.0.0 b.0.0, (a.0.1, b.0.1)), rw a.1 refl)
  both_answer opening closing front back p q (Past at) NoConstruct a b = no_upper
    where
      no_upper : (bracket : Bracket V) → ReadsInside Spells opening closing front (Some back) bracket → ⊥
      no_upper (Exact version) reads = reads
      no_upper (Between l u) reads = b u reads.1
  both_answer opening closing front back p q NoConstruct upper a b = no_lower
    where
      no_lower : (bracket : Bracket V) → ReadsInside Spells opening closing front (Some back) bracket → ⊥
      no_lower (Exact version) reads = reads
      no_lower (Between l u) reads = a l reads.0

  pub exact_past : (text : List ℕ) (past : Option ℕ) (at : ℕ) → Answers (Spells text) past (Past at) → Answers (ReadsInside Spells true true text None) past (Past at)
  exact_past text past at a = ((Exact a.0.0, (refl, refl, a.0.1)), a.1)

  bound_by : (included : Bool) (side : List ℕ) (first_past : ℕ → List ℕ → Option ℕ) (at place : ℕ) (bytes : List ℕ) → piece_place at side bytes ≡ place → trimmed side ≡ bytes → bytes ≢ []
      → (p : ℕ) → Answers (Spells bytes) (first_past place bytes) (Past p) → Answers (ReadsBound Spells included side) (side_past first_past at side) (Past p)
  bound_by included side first_past at place [] here is some p a = absurd (some refl)
  bound_by included side first_past at place (b ∷ bytes) here is some p a =
      ((Some (record { version = a.0.0; included = included }), (subst (λ t. Spells t a.0.0) (sym is) a.0.1, refl)), rw (is, here) a.1)

  -- the side that is read without its blanks
  pub bound_past : (included : Bool) (side : List ℕ) (first_past : ℕ → List ℕ → Option ℕ) (at : ℕ) (piece : Plain) → piece ≡ piece_of at side → piece.bytes ≢ []
      → (p : ℕ) → Answers (Spells piece.bytes) (first_past piece.at piece.bytes) (Past p) → Answers (ReadsBound Spells included side) (side_past first_past at side) (Past p)
  bound_past included side first_past at piece is some p a =
      let bytes : trimmed side ≡ piece.bytes = sym (ap (λ (q : Plain). q.bytes) is) in
      let place : piece_place at side piece.bytes ≡ piece.at = ap (piece_place at side) (sym bytes) ∙ sym (ap (λ (q : Plain). q.at) is) in
      bound_by included side first_past at piece.at piece.bytes place bytes some p a

  -- a piece that is a bracket of these parts
  pub piece_answer : (alone : V → Bracket V) (first_past : ℕ → List ℕ → Option ℕ) (piece : Written Kind) (parts : Parts) → piece.kind ≡ kind_of.Bracket → IsBracket piece.bytes parts
      → (reading : PieceReading (Bracket V)) → Answers (ReadsParts Spells parts) (parts_past first_past piece.at parts) reading → AnswersPiece (ReadsAs Spells alone) (IsPast Spells first_past) piece reading
  piece_answer alone first_past piece parts kind is (Construct bracket) a = rw kind ((parts, is, a.0), none)
    where
      none : (place : ℕ) → IsPast Spells first_past (record { kind = kind_of.Bracket; at = piece.at; bytes = piece.bytes }) place → ⊥
      none place past =
          let e = sym a.1 ∙ ap (parts_past first_past piece.at) (one_parts piece.bytes parts past.1 is past.2) ∙ past.4 in
          cc e
  piece_answer alone first_past piece parts kind is (Past at) a = rw kind (a.0.0, parts, is, a.0.1, a.1)
  piece_answer alone first_past piece parts kind is NoConstruct a = rw kind none
    where
      none : ((bracket : Bracket V) × ReadsAs Spells alone (record { kind = kind_of.Bracket; at = piece.at; bytes = piece.bytes }) bracket) → ⊥
      none found = a found.0 (subst (λ p. ReadsParts Spells p found.0) (one_parts piece.bytes found.1.0 parts found.1.1 is) found.1.2)
