use Rattle.std.proofs.Common.{refl, sym, subst}
use Rattle.gem_scheme.specs.Spelling.{AreVersionParts, version_of}
use Rattle.gem_scheme.specs.Steps.Written.{parts}
use Rattle.gem_scheme.proofs.Cutting.{cut_whole, same_parts}
use Rattle.gem_scheme.proofs.spelling.is_version.Goals as goal

pub returns : goal.returns
returns c =
    let text = c.args.text.now in
    let found = parts c.cut_apart.result in
    let apart = c.cut_apart.ensures in (
      λ yes. (version_of text, record { parts = found; joined = cut_whole apart; form = c.has_form.ensures.0 yes; values = refl }),
      λ spelled. c.has_form.ensures.1 (subst AreVersionParts (sym (same_parts spelled.1.parts apart spelled.1.joined spelled.1.form)) spelled.1.form),
    )
