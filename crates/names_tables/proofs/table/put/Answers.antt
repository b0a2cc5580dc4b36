use Rattle.std.proofs.Common.{refl}
use Rattle.names_tables.proofs.Filling.{is_put}
use Rattle.names_tables.proofs.table.put.Goals as goal

pub returns : goal.returns
returns c =
    is_put c.args.by_definition.now c.args.index c.args.definition.now c.args.own c.args.body c.args.table.now _ c.in_ok-operator.operator c.len-number.result
    c.len-number.ensures c.in_ok-operator.ensures c.in_ok-push.ensures.pushed refl c.requires.within c.requires.known c.in_ok-add_numbered.ensures.are c.in_ok-add_numbered.ensures.within
