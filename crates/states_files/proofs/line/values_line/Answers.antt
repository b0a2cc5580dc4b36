use Rattle.serde_json.specs.View.{members_view}
use Rattle.states_files.proofs.LineLemmas.{values_read, values_unread}
use Rattle.states_files.proofs.line.values_line.Goals as goal

pub returns-in-Some : goal.returns-in-Some
returns-in-Some c =
    let read = rw c.in-Some.is at c.in_ok-state.ensures in
    values_read c.args.names.now c.args.mark (members_view c.args.state.now.entries) c.in-Some.state read

pub returns-in-None : goal.returns-in-None
returns-in-None c =
    let none = rw c.in-None.is at c.in_ok-state.ensures in
    values_unread c.args.names.now c.args.mark (members_view c.args.state.now.entries) none
