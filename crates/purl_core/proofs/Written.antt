-- Parts written one after another, and texts that grow.
use Rattle.std.proofs.Common.{◌≡◌, ◌≤◌, ◌++◌, ℕ, List, [], ◌∷◌, map, length, take, refl, sym, ap, ◌∙◌, append-nil, append_assoc, arith, length-append}
use Rattle.std.specs.Prelude.{option_map}
use Rattle.std.specs.List.{join_with_byte}
use Rattle.std.proofs.lemmas.List.{map-append}
use Rattle.vx_spec.specs.Marks.{marked}
use Rattle.vx_text.specs.Escapes.{escaped}
use Rattle.purl_core.specs.Value.{Package}
use Rattle.purl_core.specs.Printed.{joined_parts, pair_text, path_text, purl_text}
use Rattle.purl_core.specs.Steps.Written.{IsGrown, signed, signed_pairs, signed_segments}

-- ---- signs

-- the first part behind its sign, and the others joined to it
signed_more : (first : List ℕ) (mark : ℕ) (x : List ℕ) (xs : List (List ℕ)) → signed first mark (x ∷ xs) ≡ first ++ join_with_byte mark (x ∷ xs)
signed_more first mark x [] = append-nil (first ++ x)
signed_more first mark x (y ∷ ys) =
    ap (λ (t : List ℕ). (first ++ x) ++ t) (signed_more (mark ∷ []) mark y ys) ∙ append_assoc first x (mark ∷ join_with_byte mark (y ∷ ys))

pub signed_joined : (sign mark : ℕ) (xs : List (List ℕ)) → signed (sign ∷ []) mark xs ≡ marked sign (joined_parts mark xs)
signed_joined sign mark [] = refl
signed_joined sign mark (x ∷ xs) = signed_more (sign ∷ []) mark x xs

signed_append : (first : List ℕ) (mark : ℕ) (xs : List (List ℕ)) (x : List ℕ) → first ≡ mark ∷ [] → signed first mark xs ++ (mark ∷ x) ≡ signed first mark (xs ++ x ∷ [])
signed_append first mark [] x e = rw e (sym (append-nil (mark ∷ x)))
signed_append first mark (y ∷ ys) x e =
    append_assoc (first ++ y) (signed (mark ∷ []) mark ys) (mark ∷ x) ∙ ap (λ (t : List ℕ). (first ++ y) ++ t) (signed_append (mark ∷ []) mark ys x refl)

join_some : (xs : List (List ℕ)) (x : List ℕ) → signed (47 ∷ []) 47 (xs ++ x ∷ []) ≡ 47 ∷ join_with_byte 47 (xs ++ x ∷ [])
join_some [] x = signed_more (47 ∷ []) 47 x []
join_some (y ∷ ys) x = signed_more (47 ∷ []) 47 y (ys ++ x ∷ [])

-- the segments behind their signs, and then the name, are the path
path_is : (p : Package) → signed_segments (47 ∷ []) p.namespace ++ (47 ∷ escaped p.name) ≡ 47 ∷ path_text p
path_is p =
    signed_append (47 ∷ []) 47 (map escaped p.namespace) (escaped p.name) refl ∙ join_some (map escaped p.namespace) (escaped p.name)
    ∙ ap (λ (l : List (List ℕ)). 47 ∷ join_with_byte 47 l) (sym (map-append escaped p.namespace (p.name ∷ [])))

-- one part more
pub next_signed : (mark : ℕ) (o sign part : List ℕ) (parts : List (List ℕ)) (all : List ℕ) → o ++ signed sign mark (part ∷ parts) ≡ all
    → (o ++ (sign ++ part)) ++ signed (mark ∷ []) mark parts ≡ all
next_signed mark o sign part parts all e = append_assoc o (sign ++ part) (signed (mark ∷ []) mark parts) ∙ e

-- the parts of the text, one appended after another
pub whole_text : (o b q e : List ℕ) (p : Package)
    → b ≡ o ++ (112 ∷ 107 ∷ 103 ∷ 58 ∷ []) ++ p.kind ++ signed_segments (47 ∷ []) p.namespace ++ (47 ∷ escaped p.name) ++ marked 64 (option_map escaped p.version)
    → q ≡ b ++ signed_pairs (63 ∷ []) p.qualifiers → e ≡ q ++ signed_segments (35 ∷ []) p.subpath → e ≡ o ++ purl_text p
whole_text o b q e p eb eq ee =
    let k = p.kind in
    let v = marked 64 (option_map escaped p.version) in
    let path : ((o ++ (112 ∷ 107 ∷ 103 ∷ 58 ∷ [])) ++ k) ++ (signed_segments (47 ∷ []) p.namespace ++ (47 ∷ escaped p.name)) ≡ ((o ++ (112 ∷ 107 ∷ 103 ∷ 58 ∷ [])) ++ k) ++ (47 ∷ path_text p) =
    ap (λ (t : List ℕ). ((o ++ (112 ∷ 107 ∷ 103 ∷ 58 ∷ [])) ++ k) ++ t) (path_is p) in
    let body : b ≡ (((o ++ (112 ∷ 107 ∷ 103 ∷ 58 ∷ [])) ++ k) ++ (47 ∷ path_text p)) ++ v =
    eb ∙ ap (λ (t : List ℕ). t ++ v) (append_assoc ((o ++ (112 ∷ 107 ∷ 103 ∷ 58 ∷ [])) ++ k) (signed_segments (47 ∷ []) p.namespace) (47 ∷ escaped p.name) ∙ path) in
    rw (ee, eq, body, signed_joined 63 38 (map pair_text p.qualifiers), signed_joined 35 47 (map escaped p.subpath)) (simp append_assoc)

-- ---- growing

pub grown_by : {old new : List ℕ} (more : List ℕ) → new ≡ old ++ more → IsGrown old new
grown_by {old} {new} more e = record { more = more; joined = e }

pub grown_none : {old new : List ℕ} → new ≡ old → IsGrown old new
grown_none {old} {new} e = record { more = []; joined = e ∙ sym (append-nil old) }

pub grown_then : {old mid new : List ℕ} → IsGrown old mid → IsGrown mid new → IsGrown old new
grown_then {old} {mid} {new} a b = record {
  more = a.more ++ b.more;
  joined = b.joined ∙ ap (λ (t : List ℕ). t ++ b.more) a.joined ∙ append_assoc old a.more b.more;
}

-- five parts more
pub grown_five : (o a b c d e new : List ℕ) → new ≡ o ++ a ++ b ++ c ++ d ++ e → IsGrown o new
grown_five o a b c d e new is = record { more = a ++ (b ++ (c ++ (d ++ e))); joined = is ∙ simp append_assoc }

-- the text as it was stands in front
pub grown_front : (old new : List ℕ) → IsGrown old new → take (length old) new ≡ old
grown_front old new g = ap (take (length old)) g.joined ∙ front old g.more where
  front : (xs ys : List ℕ) → take (length xs) (xs ++ ys) ≡ xs
  front [] ys = refl
  front (x ∷ xs) ys = ap (λ (t : List ℕ). x ∷ t) (front xs ys)

pub grown_length : (old new : List ℕ) → IsGrown old new → length old ≤ length new
grown_length old new g = omega (arith, ap length g.joined, length-append old g.more)

-- escapes in the library's sense, one piece after another
pub next_piece : (o x rest all : List ℕ) {left : List ℕ} → left ≡ x ++ rest → o ++ left ≡ all → (o ++ x) ++ rest ≡ all
next_piece o x rest all {left} is e = append_assoc o x rest ∙ ap (λ (t : List ℕ). o ++ t) (sym is) ∙ e
