use Rattle.twice_calls.proofs.Deciding.{runs_decide}
use Rattle.twice_calls.proofs.run_laws.decided_law.Goals as goal

pub returns : goal.returns
returns c = runs_decide (record {
  command = c.one_command.ensures;
  reading = c.reading_laws.ensures.reading;
  answers = c.alike_lined_laws.ensures.answers;
  refused = c.not_refused_laws.ensures.read;
})
