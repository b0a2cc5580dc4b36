use Rattle.std.proofs.Common.{sym, subst}
use Rattle.std.specs.Prelude.{◌↔◌, IfOk, IsTrue}
use Rattle.names_terms.specs.declared.operator.Own.{Own}
use Rattle.names_term_parts.specs.Slots.{IsInOrder}
use Rattle.names_term_parts.proofs.ordered.is_in_order.Goals as goal

pub returns-in-Apart : goal.returns-in-Apart
returns-in-Apart c = subst (λ (own : Own). IfOk c.mentions_below.result (λ b. IsTrue b ↔ IsInOrder c.args.count c.args.number own c.args.operator.now.body)) (sym c.in-Apart.is) c.mentions_below.ensures

pub returns-in-Itself : goal.returns-in-Itself
returns-in-Itself c = subst (λ (own : Own). IfOk c.is_recursive.result (λ b. IsTrue b ↔ IsInOrder c.args.count c.args.number own c.args.operator.now.body)) (sym c.in-Itself.is) c.is_recursive.ensures

pub returns-in-Function : goal.returns-in-Function
returns-in-Function c = subst (λ (own : Own). IfOk c.is_recursive-in-Function.result (λ b. IsTrue b ↔ IsInOrder c.args.count c.args.number own c.args.operator.now.body)) (sym c.in-Function.is) c.is_recursive-in-Function.ensures
