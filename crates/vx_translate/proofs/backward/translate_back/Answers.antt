use Rattle.std.proofs.Common.{◌≡◌, ◌≢◌, ◌∙◌, ap, sym, rules}
use Rattle.vx_scheme.specs.declared.back_fault.BackFault.TheVariants as fault_of
use Rattle.vx_scheme.specs.Cuts.{in_spans}
use Rattle.vx_vers.specs.Meaning.{kind}
use Rattle.vx_simplify.specs.Edges.{spans_of_list}
use Rattle.vx_simplify.specs.Simplified.{simplified}
use Rattle.vx_translate.specs.Backward.{RefusesBack}
use Rattle.vx_translate.specs.Refusals.{refusal_of_back}
use Rattle.vx_translate.proofs.BackwardLaws.{keeps_members, no_text}
use Rattle.vx_translate.proofs.backward.translate_back.Goals as goal

pub returns-in-Ok-clause-members : goal.returns-in-Ok-clause-members
returns-in-Ok-clause-members g c =
    let is : c.in_ok-spans.spans ≡ spans_of_list (simplified kind c.in_ok-list.list) = c.in_ok-spans.ensures.spans ∙ c.in_ok-set.ensures.spans ∙ ap spans_of_list c.into_simple-simple.ensures.ok in
    keeps_members g.N.Scheme g.N.Native g.met.N.Native.backs g.met.N.Scheme.texts.spelled_version c.args.domain c.args.text.now c.in-Ok.out c.in_ok-list.list c.in_ok-spans.spans c.in_ok-list.ensures.ok is
    (λ none. c.in_ok-set.ensures.some (sym c.in_ok-spans.ensures.spans ∙ none)) c.in_ok-spans.ensures.in_order
    (λ v. ap (λ spans. in_spans g.N.Scheme.order spans v) c.in_ok-spans.ensures.spans ∙ c.in_ok-set.ensures.members v ∙ c.into_simple-simple.ensures.members v) c.in-Ok.ensures.ok

pub returns-clause-err : goal.returns-clause-err
returns-clause-err g c = λ some.
    let offered : g.N.Native.Offers c.args.domain = c.offers.ensures.0 (search rules) in
    let is : c.in_ok-spans.spans ≡ spans_of_list (simplified kind c.in_ok-list.list) = c.in_ok-spans.ensures.spans ∙ c.in_ok-set.ensures.spans ∙ ap spans_of_list c.into_simple-simple.ensures.ok in
    let memory : c.in-Err.fault ≢ fault_of.NoMemory = λ e. some (c.from.ensures ∙ ap refusal_of_back e) in
    no_text g.N.Scheme g.N.Native c.args.domain c.args.text.now
    (λ refusal. RefusesBack g.N.Scheme g.N.Native c.args.domain c.args.text.now refusal)
    (λ k n none. (offered, none)) c.from.result some
    (record {
      list = c.in_ok-list.list;
      read = c.in_ok-list.ensures.ok;
      fault = c.in-Err.fault;
      refused = ap (g.N.Native.back c.args.domain) (sym is) ∙ c.in-Err.ensures.err memory;
      called = c.from.ensures;
    })
