use Rattle.base_clock_order.proofs.Merged.{allowed_by_clock}
use Rattle.base_clock_order.proofs.OneOrder.{only_order}
use Rattle.base_clock_order.proofs.Counting.{as_long}
use Rattle.base_clock_order.proofs.order.order_laws.Goals as goal

pub returns-clause-only : goal.returns-clause-only
returns-clause-only c = only_order

pub returns-clause-by_clock : goal.returns-clause-by_clock
returns-clause-by_clock c = allowed_by_clock

pub returns-clause-long : goal.returns-clause-long
returns-clause-long c = as_long
