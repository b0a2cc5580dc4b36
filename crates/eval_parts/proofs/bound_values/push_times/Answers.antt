use Rattle.std.proofs.Common.{List}
use Rattle.values_core.specs.Data.{Val}
use Rattle.eval_parts.proofs.Walking.{pushed_time}
use Rattle.eval_parts.proofs.bound_values.push_times.Goals as goal
use denote.Ref.{Bor}

abbrev items : Bor (List Val) → List Val
items x = x.now

pub loop-preserved : goal.loop-preserved
loop-preserved c = pushed_time items c.args.lists.now.items c.loop.lists.items c.push.new.self.items c.args.members c.loop.counter c.in_ok-push.ensures.items c.loop.invariant
