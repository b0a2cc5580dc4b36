use Rattle.std.proofs.Common.{◌∙◌, ap, arith}
use Rattle.names_term_levels.specs.Shape.{rows}
use Rattle.names_term_levels.proofs.Conjuncts.{reverse_less, rows-push}
use Rattle.names_term_levels.proofs.gathering.push_reversed.Goals as goal

pub loop-left-preserved : goal.loop-left-preserved
loop-left-preserved c =
    let k = c.loop-left.invariant.0 in
    (omega arith, reverse_less c.args.terms.now c.loop-left.left c.index-terms-left.result (rows c.loop-left.stack.items) (rows c.push.new.self.items) (rows c.args.stack.now.items) c.loop-left-test.true c.loop-left.invariant.0 c.index-terms-left.is (ap rows c.in_ok-push.ensures.items ∙ rows-push c.loop-left.stack.items _) c.loop-left.invariant.1)
