use Rattle.std.proofs.Common.{refl, length}
use Rattle.std.proofs.lemmas.Option.{slice_get_read}
use Rattle.states_verdicts.proofs.Passing.{state_there}
use Rattle.states_verdicts.proofs.checking.shown_at.Goals as goal

pub returns-clause-state : goal.returns-clause-state
returns-clause-state g c = state_there (λ t. g.P.Pairs.is_state c.args._pairs.now t) c.args.states.now c.args.index c.index-states-index.result c.requires.states
    (slice_get_read c.args.states.now (length c.args.states.now) c.args.index c.index-states-index.result refl c.requires.inside c.index-states-index.is)
