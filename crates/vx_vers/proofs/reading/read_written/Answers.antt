use Rattle.std.proofs.Common.{◌∙◌, arith, sym, subst, inl}
use Rattle.vx_vers.specs.Grammar.{EachWithin}
use Rattle.vx_vers.specs.Steps.Reading.{parts_of, written_in}
use Rattle.vx_vers.proofs.PartLaws.{counted_parts, plain_no_star, star_counts, starless, starred}
use Rattle.vx_vers.proofs.SolidLaws.{star_alone}
use Rattle.vx_vers.proofs.reading.read_written.Goals as goal

pub read_constraints-requires : goal.read_constraints-requires
read_constraints-requires g c = record { plain = λ _. c.requires c.if-plain.true; stars = plain_no_star c.args.text.now (c.requires c.if-plain.true) }

pub read_constraints-requires-then-not-has_star-clause-stars : goal.read_constraints-requires-then-not-has_star-clause-stars
read_constraints-requires-then-not-has_star-clause-stars g c = starless (parts_of c.args.text.now) (sym c.has_star.ensures ∙ c.if-not-has_star.true)

pub returns-then-count_parts-eq1 : goal.returns-then-count_parts-eq1
returns-then-count_parts-eq1 g c =
    let star = starred (parts_of c.args.text.now) (sym c.has_star.ensures ∙ c.if-not-has_star.false) in (
      inl (star_alone (written_in c.args.text.now) c.new.result star (sym (c.count_parts.ensures ∙ counted_parts (parts_of c.args.text.now)) ∙ c.if-count_parts-eq1.true) c.new.ensures),
      subst (EachWithin g.S.Scheme.IsWithin) (sym c.new.ensures) tt,
    )

pub returns-else-count_parts-eq1 : goal.returns-else-count_parts-eq1
returns-else-count_parts-eq1 g c = λ _.
    let star = starred (parts_of c.args.text.now) (sym c.has_star.ensures ∙ c.if-not-has_star.false) in
    (omega (arith, c.if-count_parts-eq1.false, c.count_parts.ensures, counted_parts (parts_of c.args.text.now), star_counts (written_in c.args.text.now) star), star)
