use Rattle.std.proofs.Common.{◌∙◌, ap, map, refl}
use Rattle.std.specs.Borrow.{Bor}
use Rattle.reading_trees.specs.declared.expr.Definition.{Definition}
use Rattle.names_tables.specs.NameFaults.{declared_complaints}
use Rattle.names_tables.proofs.DeclaredFaults.{declared_end, declared_found, declared_on}
use Rattle.names_tables.proofs.declaring.declared_fault.Goals as goal

pub loop-operator-init : goal.loop-operator-init
loop-operator-init c = refl

pub loop-operator-preserved : goal.loop-operator-preserved
loop-operator-preserved c =
    declared_on (map (λ (d : Bor Definition). d.now) c.args.definitions.now) c.items-operator-items.result.now c.loop-operator.operator-index c.operator-item.result _ c.in_ok-found.found c.loop-operator-test.true c.operator-item.is c.loop-operator.invariant c.in_ok-found.ensures c.in-None.is

pub returns-in-Some : goal.returns-in-Some
returns-in-Some c =
    declared_found (map (λ (d : Bor Definition). d.now) c.args.definitions.now) c.items-operator-items.result.now c.loop-operator.operator-index c.operator-item.result _ c.in_ok-found.found c.in-Some.fault c.loop-operator-test.true c.operator-item.is c.loop-operator.invariant c.in_ok-found.ensures c.in-Some.is
    ∙ ap (declared_complaints (map (λ (d : Bor Definition). d.now) c.args.definitions.now)) c.items-operator-items.ensures

pub returns : goal.returns
returns c =
    declared_end (map (λ (d : Bor Definition). d.now) c.args.definitions.now) c.items-operator-items.result.now c.loop-operator.operator-index _ c.loop-operator-test.false c.loop-operator.invariant
    ∙ ap (declared_complaints (map (λ (d : Bor Definition). d.now) c.args.definitions.now)) c.items-operator-items.ensures
