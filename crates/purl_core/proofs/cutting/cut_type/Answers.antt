use Rattle.std.proofs.Common.{sym, ◌≡◌, true, take-append-drop, eqb}
use Rattle.std.specs.List.{prefix_len}
use Rattle.purl_core.specs.Grammar.{is_kind}
use Rattle.purl_core.proofs.PartLaws.{type_cut, prefix_slashes}
use Rattle.purl_core.proofs.cutting.cut_type.Goals as goal

pub returns-then-is_kind : goal.returns-then-is_kind
returns-then-is_kind c =
    let rest = c.args.rest.now in
    record {
      joined = rw (c.cut_run.ensures.run, ← c.cut_bytes.ensures.joined, c.cut_run.ensures.past) (sym (take-append-drop (prefix_len (λ b. eqb b 47) rest) rest));
      slashes_are = rw c.cut_run.ensures.run (prefix_slashes rest);
      form = cc;
    }

pub returns-else-is_kind : goal.returns-else-is_kind
returns-else-is_kind c = λ slashes kind behind h.
    let e = type_cut h (rw c.cut_run.ensures.past at c.cut_bytes.ensures) in
    let f : is_kind c.cut_bytes.result.0.now ≡ true = rw (← e.0) h.form in
    cc (f, c.is_kind.ensures, c.if-is_kind.false)
