use Rattle.base_use_order.proofs.OrderLaws.{none_uses_itself, has_all}
use Rattle.base_use_order.proofs.laws.order_laws.Goals as goal

pub returns-clause-none_uses_itself : goal.returns-clause-none_uses_itself
returns-clause-none_uses_itself c = none_uses_itself

pub returns-clause-has_all : goal.returns-clause-has_all
returns-clause-has_all c = has_all
