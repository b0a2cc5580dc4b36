use Rattle.run_wide.specs.Parts.{NoneAsks}
use Rattle.run_wide.proofs.AskingLemmas.{some_asks}
use Rattle.run_wide.proofs.needing.needed_by.Goals as goal

pub unreachable-requires : goal.unreachable-requires
unreachable-requires c =
    let none : NoneAsks c.args.program.now c.args.config.now c.args.roots.now c.args.name.now = rw c.in-None.is at c.in_ok-found.ensures.exact in
    some_asks c.args.program.now c.args.config.now c.args.roots.now c.args.name.now c.requires.asked none
