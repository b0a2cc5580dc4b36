use Rattle.std.proofs.Common.{arith}
use Rattle.states_core.proofs.VariableSets.{none_above}
use Rattle.states_core.proofs.var_set.VarSet.has.Goals as goal

pub returns-then-v-ge64 : goal.returns-then-v-ge64
returns-then-v-ge64 c = rw (← c.self.view_is) (none_above c.self.inside.digits c.args.v.0 (omega arith) (omega (arith, c.if-v-ge64.true)))
