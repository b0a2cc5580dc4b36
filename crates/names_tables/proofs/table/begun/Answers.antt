use Rattle.names_tables.proofs.Filling.{is_begun}
use Rattle.names_tables.proofs.table.begun.Goals as goal

pub returns : goal.returns
returns c =
    is_begun _ _ _ c.deref.result.now c.deref.ensures.value c.new.ensures c.in_ok-numbers.ensures.count c.in_ok-numbers.ensures.none c.in_ok-names.ensures.are c.in_ok-names.ensures.within
