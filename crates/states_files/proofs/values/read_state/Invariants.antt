use Rattle.std.proofs.Common.{take}
use Rattle.serde_json.specs.View.{members_view}
use Rattle.states_files.specs.States.{StateReads}
use Rattle.states_files.proofs.values.read_state.Given as goal

abbrev pub invariant-loop-name : goal.invariant-loop-name
invariant-loop-name l = StateReads (members_view l.state.entries) (take l.name-index l.names) l.values.items
