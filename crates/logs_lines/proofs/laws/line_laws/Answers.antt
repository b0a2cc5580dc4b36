use Rattle.logs_lines.proofs.OneOutcome.{one_file, one_outcome}
use Rattle.logs_lines.proofs.StepsKept.{steps_keep}
use Rattle.logs_lines.proofs.laws.line_laws.Goals as goal

pub returns-clause-line : goal.returns-clause-line
returns-clause-line g c = one_outcome (g.N.SpecNames.setting c.args._names.now)

pub returns-clause-file : goal.returns-clause-file
returns-clause-file g c = one_file (g.N.SpecNames.setting c.args._names.now)

pub returns-clause-steps : goal.returns-clause-steps
returns-clause-steps g c = steps_keep (g.N.SpecNames.setting c.args._names.now)
