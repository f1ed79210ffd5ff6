-- The checked parts of a text, put together, are what the text spells.
use Rattle.std.proofs.Common.{◌≡◌, ◌≢◌, ◌++◌, ◌+◌, ℕ, List, [], ◌∷◌, map, length, refl, sym, ap, ◌∙◌, subst, Option, Some, None, true, Err}
use Rattle.std.specs.List.{AllByRecursion, slice_split}
use Rattle.std.specs.Str.{IsUtf8}
use Rattle.std.specs.Char.{is_ascii_alphabetic}
use Rattle.std.proofs.Common.{eqb, ◌<◌, arith}
use Rattle.std.proofs.lemmas.Bool.{and_parts, false≢true}
use Rattle.std.proofs.lemmas.Bool.Decides.{nat_tests}
use Rattle.vx_spec.proofs.TextLaws.{each_by_test, utf8_by_each}
use Rattle.vx_text.specs.Escapes.{IsWhole, unescaped}
use Rattle.vx_text.specs.Folding.{lowered}
use Rattle.vx_text.specs.Pieces.{kept_parts}
use Rattle.purl_core.specs.Grammar.{HasSegment, Parts, IsPurlWritten, is_kind, is_kind_byte}
use Rattle.purl_core.specs.Value.{Ascending}
use Rattle.purl_core.specs.Spelling.{ArePieces, Distinct, IsDecodable, IsPiece, SameMap, SpellsPurl, not_empty, pieces, valued_pairs}
use Rattle.purl_core.specs.Places.{AllText, AllWhole, IsText, AreKeyed, components, keyed_pair, path_at, pieces_of, placed_parts, placed_whole, places, subpath_at, value_in, values, version_at, without_places}
use Rattle.purl_core.specs.Reading.{IsRefused}
use Rattle.purl_core.specs.Steps.Reads.{AreTexts, IsTextFault, bytes_of, without_dots}
use Rattle.purl_core.specs.declared.reading.Texts.{Texts}
use Rattle.purl_core.specs.Steps.Pairing.{IsPaired}
use Rattle.purl_core.specs.declared.fault.PurlFault.{PurlFault}
use Rattle.purl_core.specs.declared.fault.PurlFault.TheVariants.{Scheme, BadType, Name, Escape, NotText, Qualifier, DuplicateKey, NoMemory}
use Rattle.purl_core.proofs.SoFar.{first_value}

-- ---- lists of parts with their places

module _ (P : List ℕ → Type 0) where
  abbrev Each : List (ℕ × List ℕ) → Type 0
  Each parts = AllByRecursion (λ (part : ℕ × List ℕ). P part.1) parts

  each_front : (xs ys : List (ℕ × List ℕ)) → Each (xs ++ ys) → Each xs
  each_front [] ys all = tt
  each_front (x ∷ xs) ys all = (all.0, each_front xs ys all.1)

  each_behind : (xs ys : List (ℕ × List ℕ)) → Each (xs ++ ys) → Each ys
  each_behind [] ys all = all
  each_behind (x ∷ xs) ys all = each_behind xs ys all.1

  each_kept : (at : ℕ) (xs : List (List ℕ)) → Each (places at xs) → AllByRecursion P (kept_parts xs)
  each_kept at [] all = tt
  each_kept at ([] ∷ xs) all = each_kept (at + 1) xs all
  each_kept at ((b ∷ x) ∷ xs) all = (all.0, each_kept (at + length (b ∷ x) + 1) xs all.1)

  each_piece : (at mark : ℕ) (x : Option (List ℕ)) → Each (placed_parts at mark x) → AllByRecursion P (pieces mark x)
  each_piece at mark None all = tt
  each_piece at mark (Some text) all = each_kept at (slice_split (λ b. eqb b mark) text) all

  each_whole : (at : ℕ) (x : Option (List ℕ)) → Each (placed_whole at x) → AllByRecursion P (not_empty x)
  each_whole at None all = tt
  each_whole at (Some text) all = each_kept at (text ∷ []) all

  module _ (p : Parts) (all : Each (components p)) where
    pub each_path : AllByRecursion P (pieces 47 (Some p.path))
    each_path = each_piece (path_at p) 47 (Some p.path) (each_front (placed_parts (path_at p) 47 (Some p.path)) _ all)

    pub each_version : AllByRecursion P (not_empty p.version)
    each_version = each_whole (version_at p) p.version (each_front (placed_whole (version_at p) p.version) _ (each_behind (placed_parts (path_at p) 47 (Some p.path)) _ all))

    pub each_value : Each (values (pieces_of p))
    each_value = each_front (values (pieces_of p)) _ (each_behind (placed_whole (version_at p) p.version) _ (each_behind (placed_parts (path_at p) 47 (Some p.path)) _ all))

    pub each_segment : AllByRecursion P (pieces 47 p.subpath)
    each_segment =
        each_piece (subpath_at p) 47 p.subpath
        (each_behind (values (pieces_of p)) _ (each_behind (placed_whole (version_at p) p.version) _ (each_behind (placed_parts (path_at p) 47 (Some p.path)) _ all)))

  -- the value of a piece
  value_has : (piece : ℕ × List ℕ) (pair : List ℕ × List ℕ) → IsPiece piece.1 pair → Each (value_in piece.0 piece.1) → P pair.1
  value_has piece pair is all = (subst Each (first_value piece.1 piece.0 pair is) all).0

-- ---- good parts

both : (xs : List (List ℕ)) → AllByRecursion IsWhole xs → AllByRecursion IsText xs → AllByRecursion IsDecodable xs
both [] p q = tt
both (x ∷ xs) p q = (record { whole = p.0; utf8 = q.0 }, both xs p.1 q.1)

bytes_places : (at : ℕ) (xs : List (List ℕ)) → bytes_of (places at xs) ≡ kept_parts xs
bytes_places at [] = refl
bytes_places at ([] ∷ xs) = bytes_places (at + 1) xs
bytes_places at ((b ∷ x) ∷ xs) = ap (λ (l : List (List ℕ)). (b ∷ x) ∷ l) (bytes_places (at + length (b ∷ x) + 1) xs)

pub bytes_placed : (at mark : ℕ) (x : Option (List ℕ)) → bytes_of (placed_parts at mark x) ≡ pieces mark x
bytes_placed at mark None = refl
bytes_placed at mark (Some text) = bytes_places at (slice_split (λ b. eqb b mark) text)

pub bytes_whole : (at : ℕ) (x : Option (List ℕ)) → bytes_of (placed_whole at x) ≡ not_empty x
bytes_whole at None = refl
bytes_whole at (Some text) = bytes_places at (text ∷ [])

-- ---- qualifiers

record AreThePairs (parts : List (ℕ × List ℕ)) (keyed : List (ℕ × (List ℕ × List ℕ))) : Type 0 where
  pairs : List (List ℕ × List ℕ)
  are : ArePieces (bytes_of parts) pairs
  good : AllByRecursion (λ (pair : List ℕ × List ℕ). IsDecodable pair.1) pairs
  valued_are : valued_pairs pairs ≡ without_places keyed

pub valued_more : (at : ℕ) (pair : List ℕ × List ℕ) (pairs : List (List ℕ × List ℕ)) (rest : List (ℕ × (List ℕ × List ℕ))) → valued_pairs pairs ≡ without_places rest
    → valued_pairs (pair ∷ pairs) ≡ without_places (keyed_pair at pair ++ rest)
valued_more at (key, []) pairs rest e = e
valued_more at (key, b ∷ value) pairs rest e = ap (λ (l : List (List ℕ × List ℕ)). (lowered key, unescaped (b ∷ value)) ∷ l) e

the_pairs : (parts : List (ℕ × List ℕ)) (keyed : List (ℕ × (List ℕ × List ℕ))) → AreKeyed parts keyed → AllWhole (values parts) → AllText (values parts) → AreThePairs parts keyed
the_pairs [] keyed are whole text = record { pairs = []; are = tt; good = tt; valued_are = sym (ap without_places are) }
the_pairs (part ∷ parts) keyed (pair, rest, is, more, e) whole text =
    let r = the_pairs parts rest more (each_behind IsWhole (value_in part.0 part.1) (values parts) whole) (each_behind IsText (value_in part.0 part.1) (values parts) text) in
    record {
      pairs = pair ∷ r.pairs;
      are = (is, r.are);
      good = (
        record {
          whole = value_has IsWhole part pair is (each_front IsWhole (value_in part.0 part.1) (values parts) whole);
          utf8 = value_has IsText part pair is (each_front IsText (value_in part.0 part.1) (values parts) text);
        },
        r.good,
      );
      valued_are = valued_more part.0 pair r.pairs rest r.valued_are ∙ ap without_places (sym e);
    }

-- ---- the whole value

pub spelled : (text : List ℕ) (parts : Parts) (kind : List ℕ) (texts : Texts) (qualifiers : List (List ℕ × List ℕ))
    → IsPurlWritten text parts → AllWhole (components parts) → AllText (components parts) → AreTexts parts texts → kind ≡ lowered parts.kind
    → ((keyed : List (ℕ × (List ℕ × List ℕ))) × AreKeyed (pieces_of parts) keyed × Distinct (without_places keyed) × SameMap qualifiers (without_places keyed) × Ascending qualifiers)
    → SpellsPurl text (record { kind = kind; namespace = texts.namespace; name = texts.name; version = texts.version; qualifiers = qualifiers; subpath = texts.subpath })
spelled text parts kind texts qualifiers written whole text_all are kind_is (keyed, keyed_are, distinct, same, up) =
    let r = the_pairs (pieces_of parts) keyed keyed_are (each_value IsWhole parts whole) (each_value IsText parts text_all) in
    record {
      parts = parts;
      written = written;
      valued_as = record {
        kind = kind_is;
        path_good = both (pieces 47 (Some parts.path)) (each_path IsWhole parts whole) (each_path IsText parts text_all);
        path = are.path ∙ ap (map unescaped) (bytes_placed (path_at parts) 47 (Some parts.path));
        version_good = both (not_empty parts.version) (each_version IsWhole parts whole) (each_version IsText parts text_all);
        version = are.version ∙ ap (map unescaped) (bytes_whole (version_at parts) parts.version);
        pairs = r.pairs;
        pairs_are = subst (λ l. ArePieces l r.pairs) (bytes_placed _ 38 parts.qualifiers) r.are;
        values_good = r.good;
        distinct = subst Distinct (sym r.valued_are) distinct;
        ascending = up;
        qualifiers = subst (SameMap qualifiers) (sym r.valued_are) same;
        subpath_good = both (pieces 47 parts.subpath) (each_segment IsWhole parts whole) (each_segment IsText parts text_all);
        subpath = are.subpath ∙ ap (λ (l : List (List ℕ)). without_dots (map unescaped l)) (bytes_placed (subpath_at parts) 47 parts.subpath);
      };
    }

-- a path with a segment has a part
pub some_part : (parts : Parts) → HasSegment parts.path → placed_parts (path_at parts) 47 (Some parts.path) ≢ []
some_part parts some none = some (sym (bytes_placed (path_at parts) 47 (Some parts.path)) ∙ ap bytes_of none)

-- ---- refusals

pub refused_by_text : (text : List ℕ) (parts : Parts) (fault : PurlFault) → IsPurlWritten text parts → AllWhole (components parts) → IsTextFault (components parts) fault
    → IsRefused text fault
refused_by_text text parts Scheme written whole h = absurd h
refused_by_text text parts BadType written whole h = absurd h
refused_by_text text parts Name written whole h = absurd h
refused_by_text text parts (Escape at) written whole h = absurd h
refused_by_text text parts (NotText at) written whole h = (parts, written, whole, h)
refused_by_text text parts (Qualifier at) written whole h = absurd h
refused_by_text text parts (DuplicateKey at) written whole h = absurd h
refused_by_text text parts NoMemory written whole h = tt

pub refused_by_pairs : (text : List ℕ) (parts : Parts) (fault : PurlFault) → IsPurlWritten text parts → AllWhole (components parts) → AllText (components parts)
    → IsPaired (pieces_of parts) (Err fault) → IsRefused text fault
refused_by_pairs text parts Scheme written whole text_all h = absurd h
refused_by_pairs text parts BadType written whole text_all h = absurd h
refused_by_pairs text parts Name written whole text_all h = absurd h
refused_by_pairs text parts (Escape at) written whole text_all h = absurd h
refused_by_pairs text parts (NotText at) written whole text_all h = absurd h
refused_by_pairs text parts (Qualifier at) written whole text_all h = (parts, written, whole, text_all, h)
refused_by_pairs text parts (DuplicateKey at) written whole text_all h = (parts, written, whole, text_all, h)
refused_by_pairs text parts NoMemory written whole text_all h = tt

-- ---- a type is UTF-8

kind_small : (b : ℕ) → is_kind_byte b ≡ true → b < 128
kind_small b is = grind (arith, nat_tests)

letter_small : (b : ℕ) → is_ascii_alphabetic b ≡ true → b < 128
letter_small b is = grind (arith, nat_tests)

pub kind_text : (kind : List ℕ) → is_kind kind ≡ true → IsUtf8 kind
kind_text [] is = absurd (false≢true is)
kind_text (b ∷ kind) is =
    let a = and_parts _ _ is in
    utf8_by_each (b ∷ kind) (letter_small b a.0, each_by_test (λ c. c < 128) is_kind_byte kind kind_small a.1)
