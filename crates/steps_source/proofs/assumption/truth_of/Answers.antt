use Rattle.steps_source.proofs.Assumed.{assumption_reads, truth_alone}
use Rattle.steps_source.proofs.assumption.truth_of.Goals as goal

pub eval_truth-requires : goal.eval_truth-requires
eval_truth-requires c = assumption_reads c.args.spec.now c.requires.ordered c.args.term.now c.requires.assumed c.evaluation_law.ensures c.args.depth c.in_ok-nothing.nothing c.in_ok-nothing.ensures

pub returns : goal.returns
returns c = truth_alone c.args.spec.now c.args.depth c.args.term.now c.in_ok-nothing.nothing c.eval_truth.result c.in_ok-nothing.ensures c.eval_truth.ensures
