use Rattle.states_files.proofs.OneReading.{one_file, one_outcome}
use Rattle.states_files.proofs.KeyOrder.{keys_ascend}
use Rattle.states_files.proofs.laws.state_laws.Goals as goal

pub returns-clause-line : goal.returns-clause-line
returns-clause-line c = one_outcome

pub returns-clause-file : goal.returns-clause-file
returns-clause-file c = one_file

pub returns-clause-keys : goal.returns-clause-keys
returns-clause-keys c = keys_ascend
