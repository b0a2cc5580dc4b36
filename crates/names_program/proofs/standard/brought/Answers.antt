use Rattle.std.proofs.Common.{◌≤◌, length, refl, arith}
use Rattle.names_program.specs.Standard.{brought_from, standard_names}
use Rattle.names_program.proofs.Cuts.{part_end}
use Rattle.names_program.proofs.StandardLemmas.{brought_on, standard_count}
use Rattle.names_program.proofs.standard.brought.Goals as goal

pub loop-index-preserved : goal.loop-index-preserved
loop-index-preserved c =
    brought_on c.args.extended.now standard_names c.loop-index.index _ _ _ c.in_ok-add.ensures c.loop-index.invariant

pub returns : goal.returns
returns c =
    let le : length standard_names ≤ c.loop-index.index = omega (arith, standard_count, c.loop-index-test.false) in
    part_end (brought_from c.args.extended.now) refl _ _ standard_names c.loop-index.index le c.loop-index.invariant
