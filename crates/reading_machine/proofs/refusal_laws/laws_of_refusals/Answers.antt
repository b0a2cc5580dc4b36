use Rattle.reading_machine.proofs.FittingEnds as fitting
use Rattle.reading_machine.proofs.MeetsThere as meets
use Rattle.reading_machine.proofs.RefusalsBegun as begun
use Rattle.reading_machine.proofs.RefusalsClash as clash
use Rattle.reading_machine.proofs.RefusalsThere as there
use Rattle.reading_machine.proofs.refusal_laws.laws_of_refusals.Goals as goal

pub returns-clause-stopped : goal.returns-clause-stopped
returns-clause-stopped c = begun.stopped_begun

pub returns-clause-clashed : goal.returns-clause-clashed
returns-clause-clashed c = begun.clashed_begun

pub returns-clause-ends : goal.returns-clause-ends
returns-clause-ends c = begun.ends_begun

pub returns-clause-stopped_there : goal.returns-clause-stopped_there
returns-clause-stopped_there c = there.stopped_there

pub returns-clause-ends_there : goal.returns-clause-ends_there
returns-clause-ends_there c = there.ends_there

pub returns-clause-clashed_there : goal.returns-clause-clashed_there
returns-clause-clashed_there c = clash.clashed_there

pub returns-clause-ran : goal.returns-clause-ran
returns-clause-ran c = clash.ran_begun

pub returns-clause-ran_fits : goal.returns-clause-ran_fits
returns-clause-ran_fits c = fitting.ran_fits

pub returns-clause-meets : goal.returns-clause-meets
returns-clause-meets c = meets.clashed_meets
