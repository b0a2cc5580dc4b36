use Rattle.std.proofs.Common.{◌∙◌, sym, subst, List}
use Rattle.std.specs.Prelude.{Bool, IsTrue, false}
use Rattle.std.specs.List.{slice_index_or}
use Rattle.base_use_order.specs.Uses.{table_of}
use Rattle.names_tables.proofs.Marking.{order_with, recursive_with}
use Rattle.names_tables.proofs.Settling.{lasting, tabled}
use Rattle.names_tables.proofs.table.program_table.Goals as goal

pub order_apart-requires-clause-marked : goal.order_apart-requires-clause-marked
order_apart-requires-clause-marked c a u =
    subst (λ (l : List Bool). IsTrue (slice_index_or l a false)) (sym c.deref.ensures.value) ((c.in_ok-marks.ensures.exact a).1 u)

pub filled-requires-clause-recursive : goal.filled-requires-clause-recursive
filled-requires-clause-recursive c = recursive_with (table_of c.args.uses.now) c.in_ok-marks.marks.items c.deref-2.result.now c.deref-2.ensures.value c.in_ok-marks.ensures.exact

pub filled-requires-clause-ordered : goal.filled-requires-clause-ordered
filled-requires-clause-ordered c =
    order_with (table_of c.args.uses.now) c.deref.result.now c.deref-2.result.now c.in_ok-order.order.items c.deref-3.result.now (c.deref-2.ensures.value ∙ sym c.deref.ensures.value) c.deref-3.ensures.value c.in_ok-order.ensures

pub returns-clause-tabled : goal.returns-clause-tabled
returns-clause-tabled c =
    let is = order_with (table_of c.args.uses.now) c.deref.result.now c.deref-2.result.now c.in_ok-order.order.items c.deref-3.result.now (c.deref-2.ensures.value ∙ sym c.deref.ensures.value) c.deref-3.ensures.value c.in_ok-order.ensures in
    tabled c.args.program.now c.args.config.now c.args.names.now c.deref-2.result.now (table_of c.args.uses.now) c.deref-3.result.now c.filled.result c.requires.used is c.filled.ensures

pub returns-clause-lasting : goal.returns-clause-lasting
returns-clause-lasting c =
    let is = order_with (table_of c.args.uses.now) c.deref.result.now c.deref-2.result.now c.in_ok-order.order.items c.deref-3.result.now (c.deref-2.ensures.value ∙ sym c.deref.ensures.value) c.deref-3.ensures.value c.in_ok-order.ensures in
    lasting c.args.program.now c.args.config.now c.args.names.now c.deref-2.result.now (table_of c.args.uses.now) c.deref-3.result.now c.filled.result c.requires.used is c.filled.ensures
