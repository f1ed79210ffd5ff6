-- Facts on each byte of a text that is put together of parts.
use Rattle.std.proofs.Common.{◌≡◌, ◌<◌, ℕ, List, [], ◌∷◌, ◌++◌, Bool, true, refl}
use Rattle.std.specs.List.{list_all, join_with_byte, AllByRecursion}
use Rattle.std.specs.Str.{IsUtf8}
use Rattle.std.proofs.lemmas.Str.{IsUtf8-from_ascii}
use Rattle.std.proofs.lemmas.Str.Ascii.{IsAscii-from_all}
use Rattle.std.proofs.lemmas.List.Elements.{All-from_recursion}
use Rattle.std.proofs.lemmas.Bool.{and_parts, and_from}

module _ (P : ℕ → Type 0) where
  -- each byte passes a test that gives the fact
  pub each_by_test : (test : ℕ → Bool) (text : List ℕ) → ((b : ℕ) → test b ≡ true → P b) → list_all test text ≡ true → AllByRecursion P text
  each_by_test test [] h all = tt
  each_by_test test (b ∷ text) h all = let a = and_parts (test b) (list_all test text) all in (h b a.0, each_by_test test text h a.1)

  pub each_append : (xs ys : List ℕ) → AllByRecursion P xs → AllByRecursion P ys → AllByRecursion P (xs ++ ys)
  each_append [] ys p q = q
  each_append (x ∷ xs) ys p q = (p.0, each_append xs ys p.1 q)

  pub each_joined : (byte : ℕ) → P byte → (parts : List (List ℕ)) → AllByRecursion (AllByRecursion P) parts → AllByRecursion P (join_with_byte byte parts)
  each_joined byte one [] p = tt
  each_joined byte one (x ∷ []) p = p.0
  each_joined byte one (x ∷ y ∷ parts) p = each_append x (byte ∷ join_with_byte byte (y ∷ parts)) p.0 (one, each_joined byte one (y ∷ parts) p.1)

  pub each_part : (test : List ℕ → Bool) (parts : List (List ℕ)) → ((x : List ℕ) → test x ≡ true → AllByRecursion P x) → list_all test parts ≡ true → AllByRecursion (AllByRecursion P) parts
  each_part test [] h all = tt
  each_part test (x ∷ parts) h all = let a = and_parts (test x) (list_all test parts) all in (h x a.0, each_part test parts h a.1)

-- each byte passes a test that the fact gives
pub test_by_each : (P : ℕ → Type 0) (test : ℕ → Bool) (text : List ℕ) → ((b : ℕ) → P b → test b ≡ true) → AllByRecursion P text → list_all test text ≡ true
test_by_each P test [] h all = refl
test_by_each P test (b ∷ text) h all = and_from (test b) (list_all test text) (h b all.0) (test_by_each P test text h all.1)

-- a text of ASCII bytes is UTF-8
pub utf8_by_each : (text : List ℕ) → AllByRecursion (λ b. b < 128) text → IsUtf8 text
utf8_by_each text all = IsUtf8-from_ascii text (IsAscii-from_all text (All-from_recursion (λ b. b < 128) text all))
