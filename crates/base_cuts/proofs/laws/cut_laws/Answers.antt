use Rattle.base_cuts.proofs.Ends.{some_ready}
use Rattle.base_cuts.proofs.Lengths.{as_long, next_is}
use Rattle.base_cuts.proofs.Ready.{by_clocks, goes_on, some_allowed, taken_begins}
use Rattle.base_cuts.proofs.laws.cut_laws.Goals as goal

pub returns-clause-some : goal.returns-clause-some
returns-clause-some c = some_allowed

pub returns-clause-whole : goal.returns-clause-whole
returns-clause-whole c = as_long

pub returns-clause-goes_on : goal.returns-clause-goes_on
returns-clause-goes_on c = goes_on

pub returns-clause-taken : goal.returns-clause-taken
returns-clause-taken c = taken_begins

pub returns-clause-next : goal.returns-clause-next
returns-clause-next c = next_is

pub returns-clause-left : goal.returns-clause-left
returns-clause-left c = some_ready

pub returns-clause-by_clock : goal.returns-clause-by_clock
returns-clause-by_clock c = by_clocks
