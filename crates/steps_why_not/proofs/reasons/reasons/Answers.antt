use Rattle.std.proofs.Common.{◌++◌, ◌∷◌, [], List, subst, sym, take}
use Rattle.eval_parts.proofs.Loops.{cut_at}
use Rattle.steps_walk.proofs.Loops.{apart}
use Rattle.steps_why_branches.specs.declared.why.Ended.{Ended}
use Rattle.steps_why_branches.specs.declared.why.Why.{Why}
use Rattle.steps_why_not.specs.Whys.{AreReasons}
use Rattle.steps_why_not.proofs.Seeing.{reasons_more}
use Rattle.steps_why_not.proofs.reasons.reasons.Goals as goal

pub loop-end-preserved : goal.loop-end-preserved
loop-end-preserved c =
    let sees = c.args.sees.now in
    let ends = c.args.ends.now in
    let i = c.loop-end.end-index in
    let n = c.end-item.result in
    let cut = apart ends i n (cut_at ends i n c.loop-end-test.true c.end-item.is) in
    let more = reasons_more sees (take i ends) c.loop-end.whys.items n c.reason.result c.loop-end.invariant c.reason.ensures in
    subst (λ (ns : List Ended). AreReasons sees ns c.push.new.self.items) (sym cut.more) (subst (λ (ws : List Why). AreReasons sees (take i ends ++ n ∷ []) ws) (sym c.in_ok-push.ensures.items) more)
