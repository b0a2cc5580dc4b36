use Rattle.std.proofs.Common.{◌≡◌}
use Rattle.serde_json.specs.View.{members_view}
use Rattle.states_files.specs.States.{are_known}
use Rattle.states_files.proofs.values.are_known.Given as goal

abbrev pub invariant-loop-key : goal.invariant-loop-key
invariant-loop-key l = are_known l.names (members_view l.key-iterator) ≡ are_known l.names (members_view l.state.entries)
