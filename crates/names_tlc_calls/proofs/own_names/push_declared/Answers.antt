use Rattle.std.proofs.Common.{refl, ◌∷◌, []}
use Rattle.reading_trees.specs.declared.module.Declared.{Declared}
use Rattle.names_program.specs.Names.{names_declared}
use Rattle.names_program.proofs.Cuts.{part_end}
use Rattle.names_tlc_calls.proofs.Adding.{added_on}
use Rattle.names_tlc_calls.proofs.own_names.push_declared.Goals as goal

pub loop-item-preserved : goal.loop-item-preserved
loop-item-preserved c =
    added_on (λ (d : Declared). d.name ∷ []) names_declared (λ x xs. refl) _ _ _ c.args.declared.now c.loop-item.item-index c.item-item.result c.loop-item-test.true c.item-item.is c.in_ok-push.ensures c.loop-item.invariant

pub returns : goal.returns
returns c =
    part_end names_declared refl _ _ c.args.declared.now c.loop-item.item-index c.loop-item-test.false c.loop-item.invariant
