use Rattle.run_call.specs.Calls.{asked_by}
use Rattle.twice_calls.proofs.Accepting.{LinesKnown, accepted_lines, is_checked_valid, prints_valid}
use Rattle.twice_calls.proofs.printed.printed_is_valid.Goals as goal

pub returns-clause-valid : goal.returns-clause-valid
returns-clause-valid g c =
    let a = c.args.accepted.now in
    let known : LinesKnown = record { read = c.unchecked_law.ensures; passed = c.passing_laws.ensures.lines } in
    let lines = accepted_lines _ c.args.job.now a.program a.config a.spec a.lined known c.requires.read in
    prints_valid c.args.job.now a.program a.config a.spec a.lined (c.printed_valid_law.ensures (asked_by c.args.job.now.options)) lines c.held_so.ensures.texts c.held_so.ensures.places

pub returns-clause-checked : goal.returns-clause-checked
returns-clause-checked g c =
    let a = c.args.accepted.now in
    let known : LinesKnown = record { read = c.unchecked_law.ensures; passed = c.passing_laws.ensures.lines } in
    let lines = accepted_lines _ c.args.job.now a.program a.config a.spec a.lined known c.requires.read in
    let valid = prints_valid c.args.job.now a.program a.config a.spec a.lined (c.printed_valid_law.ensures (asked_by c.args.job.now.options)) lines c.held_so.ensures.texts c.held_so.ensures.places in
    is_checked_valid c.args.job.now a.program a.config a.spec a.lined valid
