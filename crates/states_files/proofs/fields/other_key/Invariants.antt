use Rattle.std.proofs.Common.{◌≡◌}
use Rattle.serde_json.specs.View.{members_view}
use Rattle.states_files.specs.Fields.{other_key}
use Rattle.states_files.proofs.fields.other_key.Given as goal

abbrev pub invariant-loop-key : goal.invariant-loop-key
invariant-loop-key l = other_key (members_view l.key-iterator) ≡ other_key (members_view l.members.entries)
