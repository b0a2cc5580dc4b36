use Rattle.std.proofs.Common.{◌≡◌, ◌<◌, ◌-◌, ◌+◌, ℕ, min, length, ap, sym, ◌∙◌, arith}
use Rattle.eval_meanings.specs.Unchanged.{behind}
use Rattle.eval_parts.specs.Scenes.{table}
use Rattle.eval_parts.proofs.FollowingLemmas.{behind_more, behind_stops}
use Rattle.eval_parts.proofs.unchanged.behind.Goals as goal

pub returns-in-None-clause-found : goal.returns-in-None-clause-found
returns-in-None-clause-found c =
    let ops = table c.args.scene in
    sym (behind_stops ops (length ops - c.loop.counter) c.loop.kept c.loop.found.now (sym c.in-None.ensures)) ∙ c.loop.invariant.found

pub loop-preserved : goal.loop-preserved
loop-preserved c =
    let ops = table c.args.scene in
    let i = c.loop.counter in
    let o = c.in-Some.operator.now in
    let below : i < length ops = omega (arith, c.loop-test.true, c.len-end.ensures) in
    let least : c.min-kept.result ≡ min c.loop.kept o.outer = omega (arith, c.min-kept.ensures) in
    record {
      found = ap (λ (k : ℕ). behind ops (length ops - (i + 1)) k o.body) least ∙ behind_more ops i c.loop.kept c.loop.found.now o below (sym c.in-Some.ensures) ∙ c.loop.invariant.found;
      kept = omega (arith, least, c.loop.invariant.kept);
    }
