use Rattle.std.proofs.lemmas.Result.{IfOk-weaker}
use Rattle.steps_lines_defs.specs.Asks.{act_of, updated}
use Rattle.steps_lines_defs.specs.Says.{BothHold}
use Rattle.steps_ready_defs.specs.Ready.{IsReadyLine}
use Rattle.judge_pairs.specs.Filling.{BothFailThere}
use Rattle.judge_pairs.proofs.Lines.{line_has, line_tells}
use Rattle.judge_pairs.proofs.pairs.SpecPairsPairs.acts.Goals as goal

pub tell_event-requires-clause-ready : goal.tell_event-requires-clause-ready
tell_event-requires-clause-ready c = record { spec = c.requires.ready.spec; from = c.requires.from; to = c.requires.to; before = c.in_ok-before.ensures; after = c.in_ok-after.ensures }

pub tell_event-requires-clause-call : goal.tell_event-requires-clause-call
tell_event-requires-clause-call c =
    let s = c.args.self.now in
    let l = c.line_of-line.result.now in
    let fits = line_has s.log.now.lines c.args.line l c.line_of-line.ensures (IsReadyLine s.spec.now) c.requires.ready.lines in
    λ a e. (updated l.updates, fits.event a e)

pub returns : goal.returns
returns c =
    let s = c.args.self.now in
    IfOk-weaker c.tell_event.result _ _
    (λ r h. line_tells s.log.now.lines c.args.line c.line_of-line.result.now c.line_of-line.ensures (λ l. BothHold s.spec.now (act_of l.event) c.args.from.now c.args.to.now)
    (λ l f. BothFailThere s.spec.now (act_of l.event) c.args.from.now c.args.to.now f) r h) c.tell_event.ensures
