use Rattle.logs_lines.proofs.WalkLemmas.{init_taken, step_taken}
use Rattle.logs_lines.proofs.file.walk_on.Goals as goal

pub returns-in_ok-next-in-Step-clause-says : goal.returns-in_ok-next-in-Step-clause-says
returns-in_ok-next-in-Step-clause-says g c =
    let says = rw c.in-Step.is at c.in_ok-outcome.ensures in
    step_taken (g.N.SpecNames.setting c.args.names.now) c.args.walk c.in_ok-next-in-Step.next c.args.piece.now c.in-Step.line c.in-Step.form says c.in_ok-next-in-Step.ensures.at c.in_ok-next-in-Step.ensures.found

pub returns-in-Init-clause-says : goal.returns-in-Init-clause-says
returns-in-Init-clause-says g c =
    let says = rw c.in-Init.is at c.in_ok-outcome.ensures in
    init_taken (g.N.SpecNames.setting c.args.names.now) c.args.walk c.with_init.result c.args.piece.now c.in-Init.sees says c.with_init.ensures.at c.with_init.ensures.found
