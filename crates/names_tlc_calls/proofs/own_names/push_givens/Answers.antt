use Rattle.std.proofs.Common.{refl, ◌∷◌, []}
use Rattle.reading_trees.specs.declared.config.GivenAt.{GivenAt}
use Rattle.names_tlc_calls.specs.Programs.{given_names}
use Rattle.names_program.proofs.Cuts.{part_end}
use Rattle.names_tlc_calls.proofs.Adding.{added_on}
use Rattle.names_tlc_calls.proofs.own_names.push_givens.Goals as goal

pub loop-given-preserved : goal.loop-given-preserved
loop-given-preserved c =
    added_on (λ (g : GivenAt). g.name ∷ []) given_names (λ x xs. refl) _ _ _ c.args.givens.now c.loop-given.given-index c.given-item.result c.loop-given-test.true c.given-item.is c.in_ok-push.ensures c.loop-given.invariant

pub returns : goal.returns
returns c =
    part_end given_names refl _ _ c.args.givens.now c.loop-given.given-index c.loop-given-test.false c.loop-given.invariant
