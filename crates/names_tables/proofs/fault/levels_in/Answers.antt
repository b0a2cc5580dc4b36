use Rattle.std.proofs.Common.{sym, subst, List}
use Rattle.std.specs.Prelude.{Bool, IsTrue, false}
use Rattle.std.specs.List.{slice_index_or}
use Rattle.names_tables.proofs.fault.levels_in.Goals as goal

pub order_apart-requires-clause-marked : goal.order_apart-requires-clause-marked
order_apart-requires-clause-marked c a u =
    subst (λ (l : List Bool). IsTrue (slice_index_or l a false)) (sym c.deref.ensures.value) ((c.in_ok-itself.ensures.exact a).1 u)
