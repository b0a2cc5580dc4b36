use Rattle.std.proofs.Common.{ℕ, List, sym, subst}
use Rattle.std.specs.Prelude.{Vec}
use Rattle.std.specs.declared.alloc.Global.{Global}
use Rattle.base_use_order.specs.Uses.{IsWithin, table_of}
use Rattle.base_use_order.specs.Apart.{AreApart}
use Rattle.base_use_order.proofs.LeftOut.{never_none, none_itself, order_is, some_is, within_apart}
use Rattle.base_use_order.proofs.apart.order_apart.Goals as goal

pub order-requires : goal.order-requires
order-requires c =
    let within : IsWithin (table_of c.in_ok-others.others.items) = within_apart c.args.marks.now (table_of c.args.uses.now) (table_of c.in_ok-others.others.items) c.in_ok-others.ensures c.requires.within in
    record { within = subst (λ (l : List (Vec ℕ Global)). IsWithin (table_of l)) (sym c.deref.ensures.value) within }

pub unreachable-requires : goal.unreachable-requires
unreachable-requires c =
    let apart = subst (λ (l : List (Vec ℕ Global)). AreApart c.args.marks.now (table_of c.args.uses.now) (table_of l)) (sym c.deref.ensures.value) c.in_ok-others.ensures in
    never_none c.in_ok-found.found _ _ (none_itself c.args.marks.now (table_of c.args.uses.now) (table_of c.deref.result.now) apart c.requires.marked) c.in_ok-found.ensures.ordered c.in-None.is

pub returns : goal.returns
returns c =
    let apart = subst (λ (l : List (Vec ℕ Global)). AreApart c.args.marks.now (table_of c.args.uses.now) (table_of l)) (sym c.deref.ensures.value) c.in_ok-others.ensures in
    order_is c.args.marks.now (table_of c.args.uses.now) (table_of c.deref.result.now) apart c.in-Some.order.items (some_is c.in_ok-found.found _ _ c.in-Some.order c.in_ok-found.ensures.ordered c.in-Some.is)
