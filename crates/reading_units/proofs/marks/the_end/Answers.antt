use Rattle.reading_units.proofs.Ends.{last_end}
use Rattle.reading_units.proofs.marks.the_end.Goals as goal

pub returns-in-End-clause-end : goal.returns-in-End-clause-end
returns-in-End-clause-end c = last_end c.args.laid.now c.args.from c.in-Some.token.now c.requires.ends c.in-Some.ensures.token c.in-End.is
