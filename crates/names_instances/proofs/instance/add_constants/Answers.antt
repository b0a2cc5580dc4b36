use Rattle.std.proofs.Common.{refl, List, map}
use Rattle.std.specs.Borrow.{Bor}
use Rattle.reading_trees.specs.declared.module.Declared.{Declared}
use Rattle.names_program.proofs.Cuts.{part_end}
use Rattle.names_instances.specs.Instances.{constant_made, constants_made, substitute_for}
use Rattle.names_instances.proofs.Adding.{added_on}
use Rattle.names_instances.proofs.instance.add_constants.Goals as goal

pub loop-constant-preserved : goal.loop-constant-preserved
loop-constant-preserved c =
    added_on (λ (d : Bor Declared). constant_made c.args.instance.now d.now (substitute_for c.args.with.now d.now.name)) (λ (ds : List (Bor Declared)). constants_made c.args.instance.now c.args.with.now (map (λ (d : Bor Declared). d.now) ds)) (λ x xs. refl)
    _ _ _ c.args.constants.now c.loop-constant.constant-index c.constant-item.result c.loop-constant-test.true c.constant-item.is c.in_ok-add_if_given.ensures c.loop-constant.invariant

pub returns : goal.returns
returns c =
    part_end (λ (ds : List (Bor Declared)). constants_made c.args.instance.now c.args.with.now (map (λ (d : Bor Declared). d.now) ds)) refl _ _ c.args.constants.now c.loop-constant.constant-index c.loop-constant-test.false c.loop-constant.invariant
