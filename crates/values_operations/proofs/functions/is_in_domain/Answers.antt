use Rattle.std.proofs.Common.{◌∙◌}
use Rattle.values_operations.proofs.Pairs.{applies_among}
use Rattle.values_operations.proofs.functions.is_in_domain.Goals as goal

pub returns : goal.returns
returns c = c.is_some.ensures ∙ applies_among (λ v. v.now) c.apply.result c.args.f.now c.args.key.now c.apply.ensures
