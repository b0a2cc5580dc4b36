use Rattle.names_terms.specs.Terms.{Term}
use Rattle.eval_parts.proofs.RecursionLemmas.{set_pushed}
use Rattle.eval_parts.proofs.recursion.push_times.Goals as goal
use denote.Ref.{Bor}

abbrev seen : Bor Term → Term
seen x = x.now

pub loop-preserved : goal.loop-preserved
loop-preserved c = set_pushed seen c.args.sets.now.items c.loop.sets.items c.push.new.self.items c.args.set c.loop.counter c.in_ok-push.ensures.items c.loop.invariant
