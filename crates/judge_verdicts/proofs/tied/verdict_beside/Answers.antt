use Rattle.judge_verdicts.proofs.Placing.{few_named, ready_named}
use Rattle.judge_verdicts.proofs.tied.verdict_beside.Goals as goal

pub verdict_on-requires-clause-ready : goal.verdict_on-requires-clause-ready
verdict_on-requires-clause-ready c = ready_named c.args.pairs.now.logs.now c.args.states.now c.args.log.now c.requires.named c.args.pairs.now.spec.now c.requires.ready

pub invariant_of-beside : goal.invariant_of-beside
invariant_of-beside c = record {
  few_lines = few_named c.args.pairs.now.logs.now c.args.states.now c.args.log.now c.requires.named c.requires.tied c.requires.few;
  some_step = c.args.pairs.now.some_step;
  few_steps = c.args.pairs.now.few_steps;
}
