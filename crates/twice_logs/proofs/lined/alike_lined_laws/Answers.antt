use Rattle.twice_logs.proofs.AlikeLined.{answers_alike, lined_alike, verdicts_alike}
use Rattle.twice_logs.proofs.lined.alike_lined_laws.Goals as goal

pub returns-clause-lines : goal.returns-clause-lines
returns-clause-lines c ops all = lined_alike ops all c.alike_logs_laws.ensures.logs

pub returns-clause-answers : goal.returns-clause-answers
returns-clause-answers c = answers_alike c.alike_steps_laws.ensures.answers c.alike_tied_laws.ensures.answers

pub returns-clause-verdicts : goal.returns-clause-verdicts
returns-clause-verdicts c = verdicts_alike c.alike_steps_laws.ensures.verdicts c.alike_tied_laws.ensures.verdicts
