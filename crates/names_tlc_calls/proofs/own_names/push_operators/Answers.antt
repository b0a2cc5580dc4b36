use Rattle.std.proofs.Common.{refl, ◌∷◌, []}
use Rattle.reading_trees.specs.declared.module.DeclaredOperator.{DeclaredOperator}
use Rattle.names_tlc_calls.specs.Programs.{operator_names}
use Rattle.names_program.proofs.Cuts.{part_end}
use Rattle.names_tlc_calls.proofs.Adding.{added_on}
use Rattle.names_tlc_calls.proofs.own_names.push_operators.Goals as goal

pub loop-operator-preserved : goal.loop-operator-preserved
loop-operator-preserved c =
    added_on (λ (r : DeclaredOperator). r.name ∷ []) operator_names (λ x xs. refl) _ _ _ c.args.operators.now c.loop-operator.operator-index c.operator-item.result c.loop-operator-test.true c.operator-item.is c.in_ok-push.ensures c.loop-operator.invariant

pub returns : goal.returns
returns c =
    part_end operator_names refl _ _ c.args.operators.now c.loop-operator.operator-index c.loop-operator-test.false c.loop-operator.invariant
