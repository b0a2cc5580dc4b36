use Rattle.states_layers.proofs.FirstLaws.{first_many}
use Rattle.states_layers.proofs.search.begin.Goals as goal

pub returns-in-Err-TooMany-clause-stopped : goal.returns-in-Err-TooMany-clause-stopped
returns-in-Err-TooMany-clause-stopped g c = first_many (g.S.Steps.system c.args.steps.now) _
    (rw (c.in-Err-TooMany.is, c.in-Err-TooMany.field-0-is, c.limit-limit.ensures) at c.initial.ensures)
