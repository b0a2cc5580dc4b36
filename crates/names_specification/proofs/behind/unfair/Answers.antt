use Rattle.std.proofs.Common.{◌∙◌, ap, refl}
use Rattle.std.specs.Prelude.{not}
use Rattle.std.specs.List.{filter}
use Rattle.names_program.proofs.Cuts.{part_end, part_on}
use Rattle.names_specification.specs.Behind.{deepest}
use Rattle.names_specification.specs.Fair.{is_fair}
use Rattle.names_specification.proofs.Left.{unfair_behind, unfair_in}
use Rattle.names_specification.proofs.behind.unfair.Goals as goal

pub loop-part-preserved : goal.loop-part-preserved
loop-part-preserved c =
    part_on (unfair_in c.args.named.program.now c.args.named.config.now) (unfair_behind c.args.named.program.now c.args.named.config.now) _ _ _ c.deref-part-items.result.now c.loop-part.part-index c.part-item.result c.loop-part-test.true
    c.part-item.is c.in_ok-add_unfair.ensures c.loop-part.invariant

pub returns : goal.returns
returns c =
    part_end (unfair_in c.args.named.program.now c.args.named.config.now) refl _ _ c.deref-part-items.result.now c.loop-part.part-index c.loop-part-test.false c.loop-part.invariant
    ∙ ap (unfair_in c.args.named.program.now c.args.named.config.now) c.deref-part-items.ensures.value
    ∙ ap (filter (λ e. not (is_fair deepest c.args.named.program.now c.args.named.config.now e))) c.in_ok-parts.ensures
