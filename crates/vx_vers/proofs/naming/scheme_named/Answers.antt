use Rattle.std.proofs.Common.{◌≡◌, ◌≢◌, ◌<◌, ◌≤◌, ℕ, List, get_or, length, subst, arith}
use Rattle.std.specs.List.{AllByRecursion}
use Rattle.std.proofs.lemmas.List.Elements.{All-from_get_or, recursion_from_All}
use Rattle.vx_scheme.specs.declared.name.SchemeName.{SchemeName}
use Rattle.vx_scheme.specs.declared.name.SchemeName.TheVariants.{Npm}
use Rattle.vx_scheme.specs.Names.{text_of}
use Rattle.vx_scheme.proofs.NameLaws.{by_list, schemes}
use Rattle.vx_vers.proofs.naming.scheme_named.Goals as goal

-- a text that is the name at no place is no name
none_of : (text : List ℕ) (names : List SchemeName) (n : ℕ) → names ≡ schemes → length names ≤ n
    → ((k : ℕ) → k < n → text ≢ text_of (get_or names k Npm)) → (name : SchemeName) → text ≢ text_of name
none_of text names n e all others =
    by_list (λ name. text ≢ text_of name)
    (subst (AllByRecursion (λ name. text ≢ text_of name)) e
    (recursion_from_All (λ name. text ≢ text_of name) names
    (All-from_get_or (λ name. text ≢ text_of name) names Npm (λ k lt. others k (omega arith)))))

pub returns : goal.returns
returns c = none_of _ _ c.loop-name.name-index c.loop-name.invariant.names c.loop-name-test.false c.loop-name.invariant.others
