use Rattle.serde_json.specs.View.{members_view}
use Rattle.states_files.proofs.StateLemmas.{values_more, values_stop}
use Rattle.states_files.proofs.values.read_state.Goals as goal

pub returns-in-None : goal.returns-in-None
returns-in-None c =
    let none = rw (c.in-None.is, c.as_str.ensures) at c.in_ok-value.ensures in
    values_stop (members_view c.args.state.now.entries) c.args.names.now c.loop-name.name-index c.name-item.result c.loop-name-test.true c.name-item.is none

pub loop-name-preserved : goal.loop-name-preserved
loop-name-preserved c =
    let read = rw (c.in-Some.is, c.as_str.ensures) at c.in_ok-value.ensures in
    rw c.in_ok-push-in-Some.ensures.items
    (values_more (members_view c.args.state.now.entries) c.args.names.now c.loop-name.name-index c.name-item.result c.loop-name.values.items c.in-Some.value c.loop-name-test.true c.name-item.is c.loop-name.invariant read)
