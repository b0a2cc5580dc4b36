use Rattle.twice_calls.proofs.Held.{held_checks_after}
use Rattle.twice_calls.proofs.run_laws.check_law.Goals as goal

pub returns : goal.returns
returns c = held_checks_after (record {
  command = c.one_command.ensures;
  unseen = c.unseen_law.ensures.job;
  refused = c.not_refused_laws.ensures.read;
}) (record {
  stay = c.staying_laws.ensures.stay;
  keep = c.fault_law.ensures;
  runs = c.tied_laws.ensures.runs;
  reads = c.printed_law.ensures.explained;
  unchecked = c.unchecked_law.ensures;
  passed = c.passing_laws.ensures.lines;
  own = c.own_place_law.ensures;
  assumed = c.assumed_law.ensures;
  reading = c.reading_laws.ensures.reading;
  answers = c.alike_lined_laws.ensures.answers;
  verdicts = c.alike_lined_laws.ensures.verdicts;
  states = c.state_laws.ensures.file;
  given = c.not_refused_laws.ensures.given;
})
