use Rattle.std.proofs.Common.{◌++◌, ◌∙◌, ap}
use Rattle.std.proofs.lemmas.Result.{on_ok_weaker}
use Rattle.semver.specs.Parse.{Parts}
use Rattle.cargo_range.specs.Writing.{normal}
use Rattle.cargo_range.proofs.Written.{core_written}
use Rattle.cargo_range.proofs.writing.CargoVersionPushes.push.Goals as goal

pub returns-clause-ok : goal.returns-clause-ok
returns-clause-ok c =
    on_ok_weaker c.push_pre.result
    (λ e. core_written _ _ _ _ _ _ _ _ _ c.in_ok-push_dotted.ensures.ok c.in_ok-push_dotted-2.ensures.ok c.in_ok-push_number.ensures.ok e
    ∙ ap (λ (p : Parts). c.args.out.now ++ normal p) c.self.view_is)
    c.push_pre.ensures.ok
