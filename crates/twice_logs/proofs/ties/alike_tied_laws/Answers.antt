use Rattle.twice_logs.proofs.Same.{answers_alike, verdicts_alike}
use Rattle.twice_logs.proofs.ties.alike_tied_laws.Goals as goal

pub returns-clause-answers : goal.returns-clause-answers
returns-clause-answers c = answers_alike c.alike_steps_laws.ensures.asks

pub returns-clause-verdicts : goal.returns-clause-verdicts
returns-clause-verdicts c = verdicts_alike c.alike_steps_laws.ensures.verdicts
