use Rattle.std.proofs.Common.{refl, subst, sym}
use Rattle.std.specs.Prelude.{Bool, OnOk}
use Rattle.names_tables.specs.Filling.{IsSettledIf}
use Rattle.names_tables.proofs.table.settle_if.Goals as goal

pub returns-then-itself : goal.returns-then-itself
returns-then-itself c =
    subst (λ (b : Bool). OnOk c.settle.result (IsSettledIf b c.args.index c.args.definition.now c.args.table.now c.settle.new.table)) (sym c.if-itself.true) c.settle.ensures

pub returns : goal.returns
returns c = subst (λ (b : Bool). IsSettledIf b c.args.index c.args.definition.now c.args.table.now c.args.table.now) (sym c.if-itself.false) refl
