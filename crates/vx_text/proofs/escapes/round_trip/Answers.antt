use Rattle.std.proofs.Common.{arith, ◌≡◌, ◌++◌, ◌∙◌, ap, subst, List, ℕ, Result, Ok, Err, IfOk, IfErr, All}
use Rattle.std.proofs.lemmas.List.Elements.{All-from_get_or}
use Rattle.percent_encoding.proofs.PercentLemmas.{IsByte}
use Rattle.vx_text.specs.Escapes.{IsUndone, IsUnescapedAs, escaped}
use Rattle.vx_text.specs.declared.escapes.EscapeFault.{EscapeFault}
use Rattle.vx_text.specs.declared.escapes.EscapeFault.TheVariants.{NoMemory}
use Rattle.vx_text.proofs.EscapeLaws.{undone, unescaped-escaped}
use Rattle.vx_text.proofs.escapes.round_trip.Goals as goal

is_text : (text : List ℕ) (answer : Result (List ℕ) EscapeFault) → All IsByte text → IsUnescapedAs (escaped text) answer → IfOk answer (λ back. back ≡ text)
is_text text (Ok back) small reads = reads.2 ∙ unescaped-escaped text small
is_text text (Err fault) small reads = tt

is_memory : (text : List ℕ) (answer : Result (List ℕ) EscapeFault) → IsUndone text → IsUnescapedAs (escaped text) answer → IfErr answer (λ fault. fault ≡ NoMemory)
is_memory text (Ok back) law reads = tt
is_memory text (Err fault) law reads = law.only_memory fault reads

pub returns-in-Ok-clause-ok : goal.returns-in-Ok-clause-ok
returns-in-Ok-clause-ok c =
    let small = All-from_get_or IsByte c.args.text.now 0 (λ i within. omega (arith, c.type_inv.text i)) in
    let is : c.as_str.result.now ≡ escaped c.args.text.now = c.as_str.ensures ∙ c.in-Ok.ensures.ok ∙ ap (λ l. l ++ escaped c.args.text.now) c.new-out.ensures in
    is_text c.args.text.now c.unescape.result small (subst (λ t. IsUnescapedAs t c.unescape.result) is c.unescape.ensures)

pub returns-in-Ok-clause-err : goal.returns-in-Ok-clause-err
returns-in-Ok-clause-err c =
    let small = All-from_get_or IsByte c.args.text.now 0 (λ i within. omega (arith, c.type_inv.text i)) in
    let is : c.as_str.result.now ≡ escaped c.args.text.now = c.as_str.ensures ∙ c.in-Ok.ensures.ok ∙ ap (λ l. l ++ escaped c.args.text.now) c.new-out.ensures in
    is_memory c.args.text.now c.unescape.result (undone c.args.text.now small c.utf8.text) (subst (λ t. IsUnescapedAs t c.unescape.result) is c.unescape.ensures)
