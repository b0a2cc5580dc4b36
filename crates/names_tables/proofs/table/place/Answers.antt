use Rattle.std.proofs.Common.{subst, sym}
use Rattle.std.specs.Prelude.{OnOk}
use Rattle.names_terms.specs.declared.operator.Own.{Own}
use Rattle.names_tables.specs.Filling.{IsPlaced}
use Rattle.names_tables.proofs.table.place.Goals as goal

pub add-requires-clause-fine : goal.add-requires-clause-fine
add-requires-clause-fine c = c.requires.fine c.in-Apart.is

pub returns-in-Apart : goal.returns-in-Apart
returns-in-Apart c =
    subst (λ (o : Own). OnOk c.add.result (IsPlaced c.args.by_definition.now o c.args.index c.args.definition.now c.args.table.now c.add.new.table)) (sym c.in-Apart.is) c.add.ensures

pub returns-in-Itself : goal.returns-in-Itself
returns-in-Itself c =
    subst (λ (o : Own). OnOk c.reserve.result (IsPlaced c.args.by_definition.now o c.args.index c.args.definition.now c.args.table.now c.reserve.new.table)) (sym c.in-Itself.is) c.reserve.ensures

pub returns-in-Function : goal.returns-in-Function
returns-in-Function c =
    subst (λ (o : Own). OnOk c.reserve-in-Function.result (IsPlaced c.args.by_definition.now o c.args.index c.args.definition.now c.args.table.now c.reserve-in-Function.new.table)) (sym c.in-Function.is) c.reserve-in-Function.ensures
