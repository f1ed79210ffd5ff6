-- Bytes cut into lines: more bytes, and one line more.
use Rattle.std.proofs.Common.{◌≡◌, ◌<◌, ◌≤◌, ℕ, List, [], ◌∷◌, ◌++◌, Some, None, length, refl, sym, ap, ◌∙◌, arith, append_assoc, append-nil, length-append}
use Rattle.std.proofs.lemmas.Grind.{flat_map-append}
use Rattle.std.specs.List.{AllByRecursion}
use Rattle.vx_spec.specs.Marks.{Lacks, IsCut}
use Rattle.vx_spec.proofs.EachLaws.{each_append}
use Rattle.vx_lines.specs.Steps.Answers.{with_feeds, last_line, IsCutAtFeeds, IsLines}

-- one line more
pub feeds_more : (lines : List (List ℕ)) (line : List ℕ) → with_feeds (lines ++ line ∷ []) ≡ with_feeds lines ++ (line ++ 10 ∷ [])
feeds_more lines line =
    flat_map-append (λ l. l ++ 10 ∷ []) lines (line ∷ []) ∙ ap (λ l. with_feeds lines ++ l) (append-nil (line ++ 10 ∷ []))

-- a line that is not empty stands behind the last line feed
pub last_of : (line : List ℕ) → 0 < length line → last_line line ≡ line ∷ []
last_of [] h = absurd (omega (arith, h))
last_of (x ∷ xs) h = refl

pub no_last : (lines : List (List ℕ)) → lines ++ last_line [] ≡ lines
no_last lines = append-nil lines

-- the bytes taken are the lines given and what is held, or all of them were given and the end was seen
pub record IsOpen (taken : List ℕ) (lines : List (List ℕ)) (held : List ℕ) : Type 0 where
  pub joined : taken ≡ with_feeds lines ++ held
  pub each : AllByRecursion (Lacks 10) lines

-- a line with its line feed was given
pub open_more : (taken bytes : List ℕ) (lines : List (List ℕ)) (held line rest : List ℕ) → IsOpen taken lines held → IsCut 10 (held ++ bytes) line (Some rest) → IsOpen (taken ++ bytes) (lines ++ line ∷ []) rest
open_more taken bytes lines held line rest so cut = record {
  joined = ap (λ l. l ++ bytes) so.joined
      ∙ append_assoc (with_feeds lines) held bytes
      ∙ ap (λ l. with_feeds lines ++ l) (cut.joined ∙ sym (append_assoc line (10 ∷ []) rest))
      ∙ sym (append_assoc (with_feeds lines) (line ++ 10 ∷ []) rest)
      ∙ ap (λ l. l ++ rest) (sym (feeds_more lines line));
  each = each_append (Lacks 10) lines (line ∷ []) so.each (cut.first, tt);
}

-- the last line was given, which has none
pub open_last : (taken bytes : List ℕ) (lines : List (List ℕ)) (held line : List ℕ) → IsOpen taken lines held → IsCut 10 (held ++ bytes) line None → 0 < length line → IsLines (taken ++ bytes) (lines ++ line ∷ [])
open_last taken bytes lines held line so cut some = record {
  whole = lines;
  rest = line;
  cut = record {
    joined = ap (λ l. l ++ bytes) so.joined ∙ append_assoc (with_feeds lines) held bytes ∙ ap (λ l. with_feeds lines ++ l) (cut.joined ∙ append-nil line);
    each = so.each;
    none = cut.first;
  };
  are = ap (λ l. lines ++ l) (sym (last_of line some));
}

-- no line follows
pub open_end : (taken bytes : List ℕ) (lines : List (List ℕ)) (held : List ℕ) → IsOpen taken lines held → held ++ bytes ≡ [] → IsLines (taken ++ bytes) lines
open_end taken bytes lines held so none = record {
  whole = lines;
  rest = [];
  cut = record {
    joined = ap (λ l. l ++ bytes) so.joined ∙ append_assoc (with_feeds lines) held bytes ∙ ap (λ l. with_feeds lines ++ l) none;
    each = so.each;
    none = tt;
  };
  are = sym (no_last lines);
}

-- more bytes, in which no line feed stands
pub open_rest : (taken bytes : List ℕ) (lines : List (List ℕ)) (held : List ℕ) → IsOpen taken lines held → Lacks 10 (held ++ bytes) → IsCutAtFeeds (taken ++ bytes) lines (held ++ bytes)
open_rest taken bytes lines held so lacks = record {
  joined = ap (λ l. l ++ bytes) so.joined ∙ append_assoc (with_feeds lines) held bytes;
  each = so.each;
  none = lacks;
}

-- the lines with their line feeds are no shorter than the bytes
covered : (whole : List (List ℕ)) (rest : List ℕ) → length (with_feeds whole ++ rest) ≤ length (with_feeds (whole ++ last_line rest))
covered whole [] = omega (arith, ap (λ l. length (with_feeds l)) (append-nil whole), length-append (with_feeds whole) [])
covered whole (x ∷ xs) =
    omega (arith, ap length (feeds_more whole (x ∷ xs)), length-append (with_feeds whole) (x ∷ xs), length-append (with_feeds whole) ((x ∷ xs) ++ 10 ∷ []), length-append xs (10 ∷ []))

pub lines_cover : (bytes : List ℕ) (lines : List (List ℕ)) → IsLines bytes lines → length bytes ≤ length (with_feeds lines)
lines_cover bytes lines is = rw (is.cut.joined, is.are) (covered is.whole is.rest)
