-- The qualifiers of pieces, put in order.
use Rattle.std.specs.Prelude.{◌≡◌, ℕ, Bool, true, false, if◌then◌else◌, List, [], ◌∷◌, map, Option, Some, None, Result, Ok, Err, String, string_bytes}
use Rattle.std.specs.Ordering.{nat_cmp, is_lt}
use Rattle.std.specs.Cmp.Lexicographic.{slice_cmp}
use Rattle.std.specs.declared.alloc.Global.{Global}
use Rattle.purl_core.specs.Value.{Ascending, pair_view}
use Rattle.purl_core.specs.Spelling.{Distinct, IsPiece, SameMap}
use Rattle.purl_core.specs.Places.{AreKeyed, HasKey, IsBadPieceAt, IsDuplicateAt, keyed_pair, without_places}
use Rattle.purl_core.specs.declared.value.Pair.{Pair}
use Rattle.purl_core.specs.declared.fault.PurlFault.{PurlFault}
use Rattle.purl_core.specs.declared.fault.PurlFault.TheVariants.{Scheme, BadType, Name, Escape, NotText, Qualifier, DuplicateKey, NoMemory}

-- the key and the value of an entry
abbrev pub entry_view : String Global × List ℕ → List ℕ × List ℕ
entry_view entry = (string_bytes entry.0, entry.1)

-- the first key stands before the second by bytes
abbrev pub is_before : List ℕ → List ℕ → Bool
is_before a b = is_lt (slice_cmp nat_cmp a b)

-- the pairs with one more, behind those whose keys stand before its own
abbrev pub put : List ℕ × List ℕ → List (List ℕ × List ℕ) → List (List ℕ × List ℕ)
put x [] = x ∷ []
put x (y ∷ ys) = if is_before y.0 x.0 then y ∷ put x ys else x ∷ y ∷ ys

-- the key stood there already, or it is new and the pair is put in order
abbrev pub PutsPair : List (List ℕ × List ℕ) → List (List ℕ × List ℕ) → List ℕ × List ℕ → Bool → Type 0
PutsPair old new pair true = HasKey pair.0 old
PutsPair old new pair false = (¬ (HasKey pair.0 old)) × (new ≡ put pair old)

-- the same of a pair that may have no value, and then changes nothing
abbrev pub PutsKeyed : List (List ℕ × List ℕ) → List (List ℕ × List ℕ) → List (ℕ × (List ℕ × List ℕ)) → Bool → Type 0
PutsKeyed old new [] true = ⊥
PutsKeyed old new [] false = new ≡ old
PutsKeyed old new (entry ∷ entries) twice = PutsPair old new entry.1 twice

-- the same of a piece
abbrev pub PutsPiece : List (List ℕ × List ℕ) → List (List ℕ × List ℕ) → ℕ × List ℕ → Bool → Type 0
PutsPiece old new piece twice = (pair : List ℕ × List ℕ) × IsPiece piece.1 pair × PutsKeyed old new (keyed_pair piece.0 pair) twice

-- the pieces' pairs with a value are these, in order; or a piece is no pair, or a key stands twice
abbrev pub IsPaired : List (ℕ × List ℕ) → Result (List Pair) PurlFault → Type 0
IsPaired pieces (Ok pairs) = (keyed : List (ℕ × (List ℕ × List ℕ))) × AreKeyed pieces keyed × Distinct (without_places keyed)
    × SameMap (map pair_view pairs) (without_places keyed) × Ascending (map pair_view pairs)
IsPaired pieces (Err Scheme) = ⊥
IsPaired pieces (Err BadType) = ⊥
IsPaired pieces (Err Name) = ⊥
IsPaired pieces (Err (Escape at)) = ⊥
IsPaired pieces (Err (NotText at)) = ⊥
IsPaired pieces (Err (Qualifier at)) = IsBadPieceAt pieces at
IsPaired pieces (Err (DuplicateKey at)) = (keyed : List (ℕ × (List ℕ × List ℕ))) × AreKeyed pieces keyed × IsDuplicateAt keyed at
IsPaired pieces (Err NoMemory) = Unit {0}

-- where there are pairs, they are those of the pieces
abbrev pub MayPair : List (ℕ × List ℕ) → Option (List Pair) → Type 0
MayPair pieces None = Unit {0}
MayPair pieces (Some pairs) = IsPaired pieces (Ok pairs)
