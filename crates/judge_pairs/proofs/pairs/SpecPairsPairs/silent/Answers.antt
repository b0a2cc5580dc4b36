use Rattle.std.proofs.Common.{length}
use Rattle.std.proofs.lemmas.Result.{IfOk-weaker}
use Rattle.actions_meanings.specs.Reads.{in_none}
use Rattle.steps_lines_defs.specs.Says.{BothHold, IsState}
use Rattle.steps_lines_defs.specs.Steps.{silent_act}
use Rattle.judge_pairs.specs.Filling.{BothFailThere}
use Rattle.judge_pairs.proofs.Fixed.{silent_ready}
use Rattle.judge_pairs.proofs.Told.{with_state}
use Rattle.judge_pairs.proofs.pairs.SpecPairsPairs.silent.Goals as goal

pub tell_silent-requires-clause-ready : goal.tell_silent-requires-clause-ready
tell_silent-requires-clause-ready c = record { spec = c.requires.ready.spec; from = c.requires.from; to = c.requires.to; before = c.in_ok-before.ensures; after = c.in_ok-after.ensures }

pub tell_silent-requires-clause-call : goal.tell_silent-requires-clause-call
tell_silent-requires-clause-call c = λ a e. (in_none, silent_ready c.args.self.now.spec.now c.requires.ready.spec a e)

pub returns : goal.returns
returns c =
    let g = c.args.self.now.spec.now in
    IfOk-weaker c.tell_silent.result _ _
    (λ r h. with_state (IsState (length g.variables) c.args.to.now) (BothHold g (silent_act g.silent) c.args.from.now c.args.to.now) (BothFailThere g (silent_act g.silent) c.args.from.now c.args.to.now) r c.requires.to h)
    c.tell_silent.ensures
