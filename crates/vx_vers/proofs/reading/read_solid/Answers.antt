use Rattle.std.proofs.Common.{◌∙◌, rules, sym, subst, inl, refl}
use Rattle.vx_spec.specs.Runs.{is_solid}
use Rattle.vx_scheme.specs.contracts.name.SchemeName.{the_type}
use Rattle.vx_vers.specs.Heads.{HasHead, solid}
use Rattle.vx_vers.specs.Steps.Reading.{is_plain, written_in}
use Rattle.vx_vers.proofs.PartLaws.{split_parts}
use Rattle.vx_vers.proofs.SolidLaws.{no_head, other_head, read_whole, same_solid}
use Rattle.vx_vers.proofs.reading.read_solid.Goals as goal
use denote.Enum.Bare.{differs_false, differs_true}

pub returns-in_default : goal.returns-in_default
returns-in_default g c = λ cause. inl (refl, no_head c.args.text.now g.S.Scheme.name c.requires.solid c.in_default.ensures.head)

pub returns-then-ne : goal.returns-then-ne
returns-then-ne g c = λ cause.
    inl (refl, other_head c.args.text.now _ c.in-Some.name g.S.Scheme.name c.requires.solid c.in-Some.ensures.head (λ e. differs_true the_type c.in-Some.name c.scheme.result (sym c.ne.ensures ∙ c.if-ne.true) (e ∙ sym c.scheme.ensures)))

pub read_written-requires : goal.read_written-requires
read_written-requires g c = λ p. c.in-Some.ensures.behind is_plain (c.requires.plain p)

pub returns : goal.returns
returns g c =
    let text = c.args.text.now in
    let behind = c.in-Some.behind.now in
    let is = differs_false the_type (search rules) c.in-Some.name c.scheme.result (sym c.ne.ensures ∙ c.if-ne.false) ∙ c.scheme.ensures in
    let head : HasHead text g.S.Scheme.name behind =
    subst (λ t. HasHead t g.S.Scheme.name behind) (same_solid text c.requires.solid)
    (subst (λ name. HasHead (solid text) name behind) is
    (subst (HasHead (solid text) c.in-Some.name) (same_solid behind (c.in-Some.ensures.behind is_solid c.requires.solid)) c.in-Some.ensures.head)) in
    read_whole g.S.Scheme.name g.S.Scheme.order g.S.Scheme.Spells g.S.Scheme.IsWithin text behind (written_in behind) c.read_written.result head (split_parts behind (written_in behind) refl) c.read_written.ensures
