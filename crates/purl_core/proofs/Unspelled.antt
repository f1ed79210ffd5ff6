-- A text that is refused spells nothing.
use Rattle.std.proofs.Common.{◌≡◌, ◌≢◌, ◌++◌, ◌+◌, ℕ, List, [], ◌∷◌, length, refl, sym, ap, ◌∙◌, subst, Option, Some, None, inl, inr, eqb}
use Rattle.std.specs.List.{AllByRecursion, slice_split}
use Rattle.std.proofs.lemmas.List.{map-append}
use Rattle.vx_text.specs.Escapes.{IsWhole}
use Rattle.vx_text.proofs.EscapeLaws.{not_whole}
use Rattle.vx_text.specs.Pieces.{kept_parts}
use Rattle.purl_core.specs.Grammar.{Parts, IsPurlWritten, WithScheme, WithType}
use Rattle.purl_core.specs.Value.{Package}
use Rattle.purl_core.specs.Spelling.{ArePieces, Distinct, IsDecodable, IsValued, SpellsPurl, not_empty, pieces, valued_pairs}
use Rattle.purl_core.specs.Places.{AllText, AllWhole, IsText, AreKeyed, HasKey, IsBadPieceAt, IsDuplicateAt, IsEscapeAt, IsNotTextAt, components, keyed_pair, path_at, pieces_of, placed_parts, placed_whole, places, qualifiers_at, subpath_at, value_in, values, version_at, without_places}
use Rattle.purl_core.specs.Reading.{IsRefused}
use Rattle.purl_core.specs.Steps.Reads.{bytes_of}
use Rattle.purl_core.specs.declared.fault.PurlFault.{PurlFault}
use Rattle.purl_core.specs.declared.fault.PurlFault.TheVariants.{Scheme, BadType, Name, Escape, NotText, Qualifier, DuplicateKey, NoMemory}
use Rattle.purl_core.proofs.PartLaws.{one_written}
use Rattle.purl_core.proofs.OneValue.{one_piece}
use Rattle.purl_core.proofs.SoFar.{first_value}
use Rattle.purl_core.proofs.Assembled.{bytes_placed, valued_more}

module _ (P : List ℕ → Type 0) where
  abbrev Each : List (ℕ × List ℕ) → Type 0
  Each parts = AllByRecursion (λ (part : ℕ × List ℕ). P part.1) parts

  each_append : (xs ys : List (ℕ × List ℕ)) → Each xs → Each ys → Each (xs ++ ys)
  each_append [] ys p q = q
  each_append (x ∷ xs) ys p q = (p.0, each_append xs ys p.1 q)

  kept_each : (at : ℕ) (xs : List (List ℕ)) → AllByRecursion P (kept_parts xs) → Each (places at xs)
  kept_each at [] all = tt
  kept_each at ([] ∷ xs) all = kept_each (at + 1) xs all
  kept_each at ((b ∷ x) ∷ xs) all = (all.0, kept_each (at + length (b ∷ x) + 1) xs all.1)

  piece_each : (at mark : ℕ) (x : Option (List ℕ)) → AllByRecursion P (pieces mark x) → Each (placed_parts at mark x)
  piece_each at mark None all = tt
  piece_each at mark (Some text) all = kept_each at (slice_split (λ b. eqb b mark) text) all

  whole_each : (at : ℕ) (x : Option (List ℕ)) → AllByRecursion P (not_empty x) → Each (placed_whole at x)
  whole_each at None all = tt
  whole_each at (Some text) all = kept_each at (text ∷ []) all

  values_each : (parts : List (ℕ × List ℕ)) (pairs : List (List ℕ × List ℕ)) → ArePieces (bytes_of parts) pairs → AllByRecursion (λ (pair : List ℕ × List ℕ). P pair.1) pairs
      → Each (values parts)
  values_each [] [] are good = tt
  values_each [] (pair ∷ pairs) are good = absurd are
  values_each (part ∷ parts) [] are good = absurd are
  values_each (part ∷ parts) (pair ∷ pairs) are good =
      each_append (value_in part.0 part.1) (values parts) (subst Each (sym (first_value part.1 part.0 pair are.0)) (good.0, tt)) (values_each parts pairs are.1 good.1)

  -- of each component, from the sections
  each_component : (p : Parts) (pairs : List (List ℕ × List ℕ)) → AllByRecursion P (pieces 47 (Some p.path)) → AllByRecursion P (not_empty p.version) → ArePieces (pieces 38 p.qualifiers) pairs
      → AllByRecursion (λ (pair : List ℕ × List ℕ). P pair.1) pairs → AllByRecursion P (pieces 47 p.subpath) → Each (components p)
  each_component p pairs path version are good subpath =
      each_append (placed_parts (path_at p) 47 (Some p.path)) _ (piece_each (path_at p) 47 (Some p.path) path)
      (each_append (placed_whole (version_at p) p.version) _ (whole_each (version_at p) p.version version)
      (each_append (values (pieces_of p)) _
      (values_each (pieces_of p) pairs (subst (λ l. ArePieces l pairs) (sym (bytes_placed (qualifiers_at p) 38 p.qualifiers)) are) good)
      (piece_each (subpath_at p) 47 p.subpath subpath)))

whole_parts : (xs : List (List ℕ)) → AllByRecursion IsDecodable xs → AllByRecursion IsWhole xs
whole_parts [] all = tt
whole_parts (x ∷ xs) all = (all.0.whole, whole_parts xs all.1)

text_parts : (xs : List (List ℕ)) → AllByRecursion IsDecodable xs → AllByRecursion IsText xs
text_parts [] all = tt
text_parts (x ∷ xs) all = (all.0.utf8, text_parts xs all.1)

whole_pairs : (xs : List (List ℕ × List ℕ)) → AllByRecursion (λ (pair : List ℕ × List ℕ). IsDecodable pair.1) xs → AllByRecursion (λ (pair : List ℕ × List ℕ). IsWhole pair.1) xs
whole_pairs [] all = tt
whole_pairs (x ∷ xs) all = (all.0.whole, whole_pairs xs all.1)

text_pairs : (xs : List (List ℕ × List ℕ)) → AllByRecursion (λ (pair : List ℕ × List ℕ). IsDecodable pair.1) xs → AllByRecursion (λ (pair : List ℕ × List ℕ). IsText pair.1) xs
text_pairs [] all = tt
text_pairs (x ∷ xs) all = (all.0.utf8, text_pairs xs all.1)

all_whole : (parts : Parts) (p : Package) → IsValued parts p → AllWhole (components parts)
all_whole parts p v =
    each_component IsWhole parts v.pairs (whole_parts _ v.path_good) (whole_parts _ v.version_good) v.pairs_are (whole_pairs v.pairs v.values_good) (whole_parts _ v.subpath_good)

all_text : (parts : Parts) (p : Package) → IsValued parts p → AllText (components parts)
all_text parts p v =
    each_component IsText parts v.pairs (text_parts _ v.path_good) (text_parts _ v.version_good) v.pairs_are (text_pairs v.pairs v.values_good) (text_parts _ v.subpath_good)

pub no_escape : (xs : List (ℕ × List ℕ)) (at : ℕ) → IsEscapeAt xs at → ¬ (AllWhole xs)
no_escape [] at h all = h
no_escape (x ∷ xs) at (inl h) all = not_whole x.1 h.0 h.1 all.0
no_escape (x ∷ xs) at (inr h) all = no_escape xs at h.1 all.1

pub no_other : (xs : List (ℕ × List ℕ)) (at : ℕ) → IsNotTextAt xs at → ¬ (AllText xs)
no_other [] at h all = h
no_other (x ∷ xs) at (inl h) all = h.0 all.0
no_other (x ∷ xs) at (inr h) all = no_other xs at h.1 all.1

no_bad : (parts : List (ℕ × List ℕ)) (pairs : List (List ℕ × List ℕ)) (at : ℕ) → IsBadPieceAt parts at → ¬ (ArePieces (bytes_of parts) pairs)
no_bad [] pairs at h are = h
no_bad (part ∷ parts) [] at h are = are
no_bad (part ∷ parts) (pair ∷ pairs) at (inl h) are = h.0 pair are.0
no_bad (part ∷ parts) (pair ∷ pairs) at (inr h) are = no_bad parts pairs at h.1 are.1

-- the pairs with their places are those without
valued_are : (parts : List (ℕ × List ℕ)) (keyed : List (ℕ × (List ℕ × List ℕ))) (pairs : List (List ℕ × List ℕ)) → AreKeyed parts keyed → ArePieces (bytes_of parts) pairs
    → valued_pairs pairs ≡ without_places keyed
valued_are [] keyed [] k are = sym (ap without_places k)
valued_are [] keyed (pair ∷ pairs) k are = absurd are
valued_are (part ∷ parts) keyed [] k are = absurd are
valued_are (part ∷ parts) keyed (pair ∷ pairs) (q, rest, is, more, e) are =
    let same : q ≡ pair = one_piece part.1 q pair is are.0 in
    valued_more part.0 pair pairs rest (valued_are parts rest pairs more are.1)
    ∙ ap (λ (x : List ℕ × List ℕ). without_places (keyed_pair part.0 x ++ rest)) (sym same) ∙ ap without_places (sym e)

all_middle : (P : List ℕ × List ℕ → Type 0) (xs : List (List ℕ × List ℕ)) (x : List ℕ × List ℕ) (ys : List (List ℕ × List ℕ)) → AllByRecursion P (xs ++ x ∷ ys) → P x
all_middle P [] x ys all = all.0
all_middle P (y ∷ xs) x ys all = all_middle P xs x ys all.1

pub not_twice : (xs : List (List ℕ × List ℕ)) (x : List ℕ × List ℕ) (ys : List (List ℕ × List ℕ)) → Distinct (xs ++ x ∷ ys) → ¬ (HasKey x.0 xs)
not_twice [] x ys all h = h
not_twice (y ∷ xs) x ys all (inl e) = all_middle (λ (z : List ℕ × List ℕ). y.0 ≢ z.0) xs x ys all.0 (sym e)
not_twice (y ∷ xs) x ys all (inr h) = not_twice xs x ys all.1 h

no_duplicate : (keyed : List (ℕ × (List ℕ × List ℕ))) (at : ℕ) → IsDuplicateAt keyed at → ¬ (Distinct (without_places keyed))
no_duplicate keyed at dup all =
    let split : without_places keyed ≡ without_places dup.before ++ dup.pair ∷ without_places dup.behind =
    ap without_places dup.split ∙ map-append (λ (entry : ℕ × (List ℕ × List ℕ)). entry.1) dup.before ((at, dup.pair) ∷ dup.behind) in
    not_twice (without_places dup.before) dup.pair (without_places dup.behind) (subst Distinct split all) dup.twice

pub with_scheme : (text : List ℕ) (p : Parts) → IsPurlWritten text p → WithScheme text
with_scheme text p w = record { body = w.body; qualifiers = p.qualifiers; subpath = p.subpath; scheme = p.scheme; rest = w.rest; ended = w.ended; scheme_is = w.scheme_is }

pub with_type : (text : List ℕ) (p : Parts) → IsPurlWritten text p → WithType text
with_type text p w = record {
  body = w.body;
  qualifiers = p.qualifiers;
  subpath = p.subpath;
  scheme = p.scheme;
  rest = w.rest;
  slashes = p.slashes;
  kind = p.kind;
  behind = Some w.behind;
  ended = w.ended;
  scheme_is = w.scheme_is;
  type_is = w.type_is;
}

-- what a piece of the qualifiers is, by the pairs of the value
the_pieces : (parts : Parts) (p : Package) → (v : IsValued parts p) → ArePieces (bytes_of (pieces_of parts)) v.pairs
the_pieces parts p v = subst (λ l. ArePieces l v.pairs) (sym (bytes_placed (qualifiers_at parts) 38 parts.qualifiers)) v.pairs_are

pub unspelled : (text : List ℕ) (fault : PurlFault) (p : Package) → IsRefused text fault → SpellsPurl text p → fault ≡ NoMemory
unspelled text Scheme p h s = absurd (h (with_scheme text s.parts s.written))
unspelled text BadType p h s = absurd (h.1 (with_type text s.parts s.written))
unspelled text Name p h s = absurd (h.1 s.parts s.written)
unspelled text (Escape at) p (parts, written, at_it) s =
    let same = one_written text parts s.parts written s.written in
    absurd (no_escape (components s.parts) at (subst (λ q. IsEscapeAt (components q) at) same at_it) (all_whole s.parts p s.valued_as))
unspelled text (NotText at) p (parts, written, whole, at_it) s =
    let same = one_written text parts s.parts written s.written in
    absurd (no_other (components s.parts) at (subst (λ q. IsNotTextAt (components q) at) same at_it) (all_text s.parts p s.valued_as))
unspelled text (Qualifier at) p (parts, written, whole, good, at_it) s =
    let same = one_written text parts s.parts written s.written in
    absurd (no_bad (pieces_of s.parts) s.valued_as.pairs at (subst (λ q. IsBadPieceAt (pieces_of q) at) same at_it) (the_pieces s.parts p s.valued_as))
unspelled text (DuplicateKey at) p (parts, written, whole, good, (keyed, are, dup)) s =
    let same = one_written text parts s.parts written s.written in
    let k = subst (λ q. AreKeyed (pieces_of q) keyed) same are in
    absurd (no_duplicate keyed at dup (subst Distinct (valued_are (pieces_of s.parts) keyed s.valued_as.pairs k (the_pieces s.parts p s.valued_as)) s.valued_as.distinct))
unspelled text NoMemory p h s = refl
