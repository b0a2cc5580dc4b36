use Rattle.std.proofs.Common.{sym}
use Rattle.serde_json.specs.View.{members_view}
use Rattle.states_files.proofs.LineLemmas.{state_missing, state_unknown, state_whole}
use Rattle.states_files.proofs.line.state_line.Goals as goal

pub returns-then-not-are_known : goal.returns-then-not-are_known
returns-then-not-are_known c = state_unknown c.args.names.now c.args.mark (members_view c.args.state.now.entries) (sym c.if-not-are_known.ensures)

pub returns-then-not-are_there : goal.returns-then-not-are_there
returns-then-not-are_there c =
    state_missing c.args.names.now c.args.mark (members_view c.args.state.now.entries) (sym c.if-not-are_known.ensures) (sym c.if-not-are_there.ensures)

pub returns : goal.returns
returns c =
    state_whole c.args.names.now c.args.mark (members_view c.args.state.now.entries) c.values_line.result (sym c.if-not-are_known.ensures) (sym c.if-not-are_there.ensures) c.values_line.ensures
