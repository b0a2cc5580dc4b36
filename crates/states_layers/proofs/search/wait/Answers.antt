use Rattle.std.proofs.Common.{◌≡◌, ◌-◌, subst, arith, add-one, ℕ, length}
use Rattle.states_layers.specs.Kept.{Kept}
use Rattle.states_layers.proofs.Ranges.{wait_last, wait_whole}
use Rattle.states_layers.proofs.search.wait.Goals as goal

pub loop-silents-preserved : goal.loop-silents-preserved
loop-silents-preserved g c = let b = c.in_ok-widest.ensures.behind in
    let end : c.len-end.result ≡ length c.loop-silents.nodes.items = omega arith in record {
      kept = rw add-one c.in_ok-widest.ensures.kept;
      whole = wait_whole c.args.line _ c.args.start _ _ b.added b.is c.loop-silents.invariant.whole;
      last = wait_last _ c.args.line c.loop-silents.silents c.len-end.result _ _ b.added c.loop-silents.invariant.kept.list b.is end;
      below = omega arith;
      known = c.in_ok-widest.ensures.known;
    }

pub returns-clause-kept : goal.returns-clause-kept
returns-clause-kept g c =
    let below = c.loop-silents.invariant.below in
    let e : c.loop-silents.silents ≡ (g.S.Steps.system c.args.steps.now).within - 1 = omega (arith, c.within-within.ensures) in
    subst (λ (j : ℕ). Kept (g.S.Steps.system c.args.steps.now) c.args.line j c.loop-silents.nodes.items c.loop-silents.widest) e c.loop-silents.invariant.kept
