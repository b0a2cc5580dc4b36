use Rattle.std.proofs.Common.{sym, ◌∙◌}
use Rattle.values_core.specs.Functions.{keys_in}
use Rattle.values_operations.proofs.OtherKeys.{no_more_outside, one_more_outside}
use Rattle.values_operations.proofs.functions.push_if_outside.Goals as goal

pub returns-then-is_in_domain : goal.returns-then-is_in_domain
returns-then-is_in_domain c = no_more_outside (keys_in c.args.f.now) c.args.pairs.now.items c.args.pair (sym c.is_in_domain.ensures ∙ c.if-is_in_domain.true)

pub returns : goal.returns
returns c = c.in_ok-push.ensures.items ∙ one_more_outside (keys_in c.args.f.now) c.args.pairs.now.items c.args.pair (sym c.is_in_domain.ensures ∙ c.if-is_in_domain.false)
