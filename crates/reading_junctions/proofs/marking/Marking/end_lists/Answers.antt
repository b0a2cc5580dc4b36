use Rattle.std.proofs.Common.{length, refl, sym, ap, ◌∙◌, arith}
use Rattle.reading_junctions.proofs.Steps.{closed_more, shorter}
use Rattle.reading_junctions.proofs.marking.Marking.end_lists.Goals as goal

pub loop-self-smaller : goal.loop-self-smaller
loop-self-smaller c =
    omega (arith, ap length c.end_list.ensures, shorter c.loop-self.self.operand c.args.token.now c.loop-self.self.stack (sym c.ends_before.ensures ∙ c.loop-self-test.true))

pub loop-self-preserved : goal.loop-self-preserved
loop-self-preserved c =
    closed_more c.args.self.now c.args.token.now c.loop-self.self _ c.loop-self.invariant (sym c.ends_before.ensures ∙ c.loop-self-test.true) c.in_ok-push.ensures.items c.end_list.ensures refl
