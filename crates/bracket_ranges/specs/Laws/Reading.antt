-- A text is cut in one way, and a piece is one bracket at most, whose first numeral past the limit begins at one place.
use Rattle.std.proofs.Common.{◌≡◌, ◌++◌, ℕ, Bool, List, [], ◌∷◌, refl, sym, ap, ◌∙◌, subst, Option, Some, None}
use Rattle.vx_spec.specs.Runs.{trimmed}
use Rattle.vx_spec.specs.Marks.{marked}
use Rattle.vx_spec.proofs.MarkLaws.{one_cut}
use Rattle.vx_range.specs.Lists.{piece_of}
use Rattle.vx_range.specs.Reading.{PieceLaws, CutLaws}
use Rattle.bracket_ranges.specs.declared.cutting.Kind.{Kind}
use Rattle.bracket_ranges.specs.declared.cutting.Kind.TheVariants as kind_of
use Rattle.bracket_ranges.specs.declared.bracket.Bound.{Bound}
use Rattle.bracket_ranges.specs.declared.bracket.Bracket.{Bracket}
use Rattle.bracket_ranges.specs.declared.bracket.Bracket.TheVariants.{Exact, Between}
use Rattle.bracket_ranges.specs.Words.{IsWord}
use Rattle.bracket_ranges.specs.Cutting.{pieces_of, IsCut}
use Rattle.bracket_ranges.specs.Reading.{Parts, IsBracket, ReadsBound, ReadsInside, ReadsParts, ReadsKind, ReadsAs, parts_past, IsKindPast, IsPast}

pub cut_laws : (lists : Bool) → CutLaws (IsCut lists)
cut_laws lists = record {
  cut_one = λ text a b p q. p ∙ sym q;
  cut_some = λ text none. none (pieces_of lists (piece_of 0 text) ∷ []) refl;
}

-- ---- the parts of a bracket

-- texts that end with a byte each are equal where the two are, with their bytes
pub one_end : (xs ys : List ℕ) (a b : ℕ) → xs ++ a ∷ [] ≡ ys ++ b ∷ [] → (xs ≡ ys) × (a ≡ b)
one_end [] [] a b e = (refl, cc e)
one_end [] (y ∷ []) a b e = cc e
one_end [] (y ∷ z ∷ ys) a b e = cc e
one_end (x ∷ []) [] a b e = cc e
one_end (x ∷ z ∷ xs) [] a b e = cc e
one_end (x ∷ xs) (y ∷ ys) a b e = let r = one_end xs ys a b (cc e) in (cc (e, r.0), r.1)

pub one_parts : (bytes : List ℕ) (p q : Parts) → IsBracket bytes p → IsBracket bytes q → p ≡ q
one_parts bytes p q a b =
    let e = sym a.joined ∙ b.joined in
    let opening : p.opening ≡ q.opening = cc e in
    let ends = one_end (p.front ++ marked 44 p.back) (q.front ++ marked 44 q.back) p.closing q.closing (cc e) in
    let sides = one_cut 44 p.front q.front p.back q.back a.first b.first ends.0 in
    λ i. record { opening = opening i; front = sides.0 i; back = sides.1 i; closing = ends.1 i }

-- ---- pieces

module _ {V : Type 0} (Spells : List ℕ → V → Type 0) (first_past : ℕ → List ℕ → Option ℕ) (alone : V → Bracket V)
    (spells_one : (text : List ℕ) (v w : V) → Spells text v → Spells text w → v ≡ w) (words : (text : List ℕ) (v : V) → Spells text v → IsWord text) where
  one_bound : (included : Bool) (side : List ℕ) (a b : Option (Bound V)) → ReadsBound Spells included side a → ReadsBound Spells included side b → a ≡ b
  one_bound included side None None p q = refl
  one_bound included side None (Some b) p q = absurd ((words (trimmed side) b.version q.0).some p)
  one_bound included side (Some a) None p q = absurd ((words (trimmed side) a.version p.0).some q)
  one_bound included side (Some a) (Some b) p q =
      let version = spells_one (trimmed side) a.version b.version p.0 q.0 in
      let same = p.1 ∙ sym q.1 in
      λ i. Some (record { version = version i; included = same i })

  one_inside : (opening closing : Bool) (front : List ℕ) (back : Option (List ℕ)) (a b : Bracket V)
      → ReadsInside Spells opening closing front back a → ReadsInside Spells opening closing front back b → a ≡ b
  one_inside opening closing front None (Exact a) (Exact b) p q = ap Exact (spells_one front a b p.2 q.2)
  one_inside opening closing front None (Exact a) (Between l u) p q = absurd q
  one_inside opening closing front None (Between l u) b p q = absurd p
  one_inside opening closing front (Some back) (Exact a) b p q = absurd p
  one_inside opening closing front (Some back) (Between l u) (Exact b) p q = absurd q
  one_inside opening closing front (Some back) (Between l u) (Between m w) p q =
      let lower = one_bound opening front l m p.0 q.0 in
      let upper = one_bound closing back u w p.1 q.1 in
      λ i. Between (lower i) (upper i)

  one_kind : (kind : Kind) (bytes : List ℕ) (a b : Bracket V) → ReadsKind Spells alone kind bytes a → ReadsKind Spells alone kind bytes b → a ≡ b
  one_kind kind_of.Alone bytes a b p q = p.2 ∙ ap alone (spells_one bytes p.0 q.0 p.1 q.1) ∙ sym q.2
  one_kind kind_of.Bracket bytes a b p q =
      let e = one_parts bytes p.0 q.0 p.1 q.1 in
      one_inside _ _ _ _ a b p.2 (subst (λ parts. ReadsParts Spells parts b) (sym e) q.2)
  one_kind kind_of.Other bytes a b p q = absurd p

  one_past : (kind : Kind) (at : ℕ) (bytes : List ℕ) (a b : ℕ) → IsKindPast Spells first_past kind at bytes a → IsKindPast Spells first_past kind at bytes b → a ≡ b
  one_past kind_of.Alone at bytes a b p q = let e = sym p.2 ∙ q.2 in cc e
  one_past kind_of.Bracket at bytes a b p q =
      let same = one_parts bytes p.1 q.1 p.2 q.2 in
      let e = sym p.4 ∙ ap (parts_past first_past at) same ∙ q.4 in
      cc e
  one_past kind_of.Other at bytes a b p q = absurd p

  past_reads : (kind : Kind) (at : ℕ) (bytes : List ℕ) (place : ℕ) → IsKindPast Spells first_past kind at bytes place → (bracket : Bracket V) × ReadsKind Spells alone kind bytes bracket
  past_reads kind_of.Alone at bytes place p = (alone p.0, (p.0, p.1, refl))
  past_reads kind_of.Bracket at bytes place p = (p.0, (p.1, p.2, p.3))
  past_reads kind_of.Other at bytes place p = absurd p

  pub piece_laws : PieceLaws (ReadsAs Spells alone) (IsPast Spells first_past)
  piece_laws = record {
    reads_one = λ piece. one_kind piece.kind piece.bytes;
    past_one = λ piece. one_past piece.kind piece.at piece.bytes;
    past_reads = λ piece. past_reads piece.kind piece.at piece.bytes;
  }
