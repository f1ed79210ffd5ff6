-- A text stays UTF-8 where ASCII bytes become ASCII bytes and all others stay.
use Rattle.std.proofs.Common.{◌≡◌, ◌≤◌, ◌<◌, ℕ, suc, true, List, [], ◌∷◌, length, get_or, map, refl, sym, subst, inl, inr, append-nil, arith}
use Rattle.std.specs.Str.{IsUtf8}
use Rattle.std.proofs.lemmas.Bool.{and_from, and_parts, cases_lt}
use Rattle.std.proofs.lemmas.List.{map-append}
use Rattle.std.proofs.lemmas.Str.{IsUtf8-append, IsUtf8-nil, encode_ascii, inside_one}
use lib.Utf8.{encode, encodes, scalar, scalars}
use Rattle.vx_spec.proofs.TextLaws.{utf8_by_each}

module _ (f : ℕ → ℕ) (low : (b : ℕ) → b < 128 → f b < 128) (high : (b : ℕ) → 128 ≤ b → f b ≡ b) where
  stays : (bs : List ℕ) → ((k : ℕ) → k < length bs → 128 ≤ get_or bs k 0) → map f bs ≡ bs
  stays [] all = refl
  stays (b ∷ bs) all = cc (high b (all 0 (omega arith)), stays bs (λ k within. all (suc k) (omega arith)))

  -- the bytes of a character past ASCII are past ASCII
  wide : (c : ℕ) → 128 ≤ c → map f (encode c) ≡ encode c
  wide c past = stays (encode c) (λ k within. elim (cases_lt (get_or (encode c) k 0) 128) [
    | inl small ↦ absurd (omega (arith, past, small, inside_one c [] (encode c) k (sym (append-nil (encode c))) within small))
    | inr large ↦ large
  ])

  one : (c : ℕ) → scalar c ≡ true → IsUtf8 (map f (encode c))
  one c is = elim (cases_lt c 128) [
    | inl small ↦ subst (λ t. IsUtf8 (map f t)) (sym (encode_ascii c small)) (utf8_by_each (f c ∷ []) (low c small, tt))
    | inr large ↦ subst IsUtf8 (sym (wide c large)) (c ∷ [], (and_from _ _ is refl, append-nil (encode c)))
  ]

  each : (cs : List ℕ) → scalars cs ≡ true → IsUtf8 (map f (encodes cs))
  each [] all = IsUtf8-nil
  each (c ∷ cs) all =
      let a = and_parts _ _ all in
      subst IsUtf8 (sym (map-append f (encode c) (encodes cs))) (IsUtf8-append (map f (encode c)) (map f (encodes cs)) (one c a.0) (each cs a.1))

  pub utf8_mapped : (bs : List ℕ) → IsUtf8 bs → IsUtf8 (map f bs)
  utf8_mapped bs utf8 = subst (λ (t : List ℕ). IsUtf8 (map f t)) utf8.1.1 (each utf8.0 utf8.1.0)
