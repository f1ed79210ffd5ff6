-- What is found at a piece, by what it is read as.
use Rattle.std.proofs.Common.{◌≡◌, ℕ, List, refl, sym, ap, ◌∙◌, Option, Some, None}
use Rattle.std.specs.Option.{option_or}
use Rattle.vx_scheme.specs.declared.span.Span.{Span}
use Rattle.vx_range.specs.declared.findings.Findings.{Findings}
use Rattle.vx_range.specs.declared.making.Outcome.{Outcome}
use Rattle.vx_range.specs.declared.making.Outcome.TheVariants as made_of
use Rattle.vx_range.specs.Pieces.{Written}
use Rattle.vx_range.specs.Reading.{IsPastNumeral, PieceLaws}
use Rattle.vx_range.specs.Making.{Makes, IsEndless, IsTooHigh}
use Rattle.vx_range.specs.Steps.Found.{end_of, height_of, IsConstructFound, IsPieceFound, AppendsSpans}
use Rattle.vx_range.proofs.FoundLaws.{or_none}

some_or : {X : Type 0} (old : Option X) (x : X) → option_or old (Some x) ≡ None → ⊥
some_or None x e = cc e
some_or (Some y) x e = cc e

module _ {K C V : Type 0} (ReadsAs : Written K → C → Type 0) (IsPast : Written K → ℕ → Type 0) (laws : PieceLaws ReadsAs IsPast) (spans : ℕ → C → List (Span V)) (outcome : C → Outcome) where
  only : (piece : Written K) (c : C) (made : Outcome) → ReadsAs piece c → Makes ReadsAs outcome piece made → outcome c ≡ made
  only piece c made reads m = ap outcome (laws.reads_one piece c m.0 reads m.1) ∙ m.2

  ends : (piece : Written K) (c : C) (o : Outcome) → ReadsAs piece c → outcome c ≡ o → IsEndless ReadsAs outcome piece (end_of o piece.at)
  ends piece c made_of.Spans reads e = λ kind m. let h = sym e ∙ only piece c (made_of.NoEnd kind) reads m in cc h
  ends piece c (made_of.NoEnd kind) reads e = ((c, reads, e), refl)
  ends piece c made_of.TooHigh reads e = λ kind m. let h = sym e ∙ only piece c (made_of.NoEnd kind) reads m in cc h

  heights : (piece : Written K) (c : C) (o : Outcome) → ReadsAs piece c → outcome c ≡ o → IsTooHigh ReadsAs outcome piece (height_of o piece.at)
  heights piece c made_of.Spans reads e = λ m. let h = sym e ∙ only piece c made_of.TooHigh reads m in cc h
  heights piece c (made_of.NoEnd kind) reads e = λ m. let h = sym e ∙ only piece c made_of.TooHigh reads m in cc h
  heights piece c made_of.TooHigh reads e = ((c, reads, e), refl)

  -- a construct whose numerals are within the limit
  pub construct_found : (piece : Written K) (c : C) (old new : Findings) (before out : List (Span V)) → ReadsAs piece c → IsPastNumeral IsPast piece None
      → IsConstructFound spans outcome c piece.at old new before out → IsPieceFound ReadsAs IsPast outcome piece old new (AppendsSpans spans old.marks new.marks before out)
  construct_found piece c old new before out reads within f = record {
    syntax' = (c, reads);
    past = record { here = None; refused = within; noted = f.past ∙ sym (or_none old.past) };
    endless = λ none. record { here = end_of (outcome c) piece.at; refused = ends piece c (outcome c) reads refl; noted = f.endless };
    too_high = λ none. record { here = height_of (outcome c) piece.at; refused = heights piece c (outcome c) reads refl; noted = f.too_high };
    made = λ clear. (c, reads, f.made clear);
  }

  -- a construct with a numeral past the limit
  pub past_found : (piece : Written K) (at : ℕ) (old new : Findings) (before out : List (Span V)) → IsPast piece at → new.past ≡ option_or old.past (Some at)
      → IsPieceFound ReadsAs IsPast outcome piece old new (AppendsSpans spans old.marks new.marks before out)
  past_found piece at old new before out past e = record {
    syntax' = laws.past_reads piece at past;
    past = record { here = Some at; refused = past; noted = e };
    endless = λ none. absurd (some_or old.past at (sym e ∙ none));
    too_high = λ none. absurd (some_or old.past at (sym e ∙ none));
    made = λ clear. absurd (some_or old.past at (sym e ∙ clear.0));
  }
