-- A text is cut in one way, and a piece is one relation at most, whose first numeral past the limit begins at one place.
use Rattle.std.proofs.Common.{◌≡◌, ℕ, Bool, List, refl, sym, ◌∙◌, Option}
use Rattle.vx_range.specs.Lists.{Plain, groups_of}
use Rattle.vx_range.specs.Reading.{PieceLaws, CutLaws}
use Rattle.relation_ranges.specs.declared.relations.Relation.{Relation}
use Rattle.relation_ranges.specs.Reading.{IsCut, version_text, ReadsAs, IsPast}

pub cut_laws : (bar : Option ℕ) → CutLaws (IsCut bar)
cut_laws bar = record {
  cut_one = λ text a b p q. p ∙ sym q;
  cut_some = λ text none. none (groups_of bar text) refl;
}

module _ {O V : Type 0} (is_sign : ℕ → Bool) (HasSigns : O → List ℕ → Type 0) (Spells : List ℕ → V → Type 0) (first_past : ℕ → List ℕ → Option ℕ)
    (one_operator : (signs : List ℕ) (a b : O) → HasSigns a signs → HasSigns b signs → a ≡ b) (spells_one : (text : List ℕ) (v w : V) → Spells text v → Spells text w → v ≡ w) where
  reads_one : (piece : Plain) (a b : Relation O V) → ReadsAs is_sign HasSigns Spells piece a → ReadsAs is_sign HasSigns Spells piece b → a ≡ b
  reads_one piece a b p q =
      let operator = one_operator _ a.operator b.operator p.operator q.operator in
      let version = spells_one (version_text is_sign piece.bytes) a.version b.version p.version q.version in
      λ i. record { operator = operator i; version = version i }

  pub piece_laws : PieceLaws (ReadsAs is_sign HasSigns Spells) (IsPast is_sign HasSigns Spells first_past)
  piece_laws = record {
    reads_one = reads_one;
    past_one = λ piece a b p q. let e = sym p.first ∙ q.first in cc e;
    past_reads = λ piece at p. (p.relation, p.reads);
  }
