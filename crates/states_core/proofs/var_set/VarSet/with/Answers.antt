use Rattle.std.proofs.Common.{◌≡◌}
use Rattle.states_core.proofs.VariableSets.{one_more}
use Rattle.states_core.proofs.var_set.VarSet.with.Goals as goal

pub returns : goal.returns
returns c = rw (← c.self.view_is) (λ x below. one_more c.self.inside.digits c.args.v.0 c.requires.below x)
