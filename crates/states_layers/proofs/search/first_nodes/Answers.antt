use Rattle.std.proofs.Common.{arith}
use Rattle.states_layers.proofs.FirstLaws.{first_limit, first_total, kept_first, starts_first}
use Rattle.states_layers.proofs.search.first_nodes.Goals as goal

pub returns-then-len-limit-clause-stopped : goal.returns-then-len-limit-clause-stopped
returns-then-len-limit-clause-stopped g c = first_limit (g.S.Steps.system c.args.steps.now) c.args.list.items _ c.requires.listed (omega arith)

pub returns-then-len-total-clause-stopped : goal.returns-then-len-total-clause-stopped
returns-then-len-total-clause-stopped g c = first_total (g.S.Steps.system c.args.steps.now) c.args.list.items c.requires.small.some c.requires.listed (omega arith)

pub returns-clause-first : goal.returns-clause-first
returns-clause-first g c = rw c.in_ok-first_items.ensures (kept_first (g.S.Steps.system c.args.steps.now) c.args.list.items c.requires.clear c.requires.listed (omega arith) (omega arith))

pub returns-clause-some : goal.returns-clause-some
returns-clause-some g c = rw c.in_ok-first_items.ensures (starts_first c.args.list.items (omega arith))
