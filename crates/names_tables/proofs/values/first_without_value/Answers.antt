use Rattle.std.proofs.Common.{◌∙◌, ap, map, arith}
use Rattle.std.specs.Borrow.{Bor}
use Rattle.reading_trees.specs.declared.module.Declared.{Declared}
use Rattle.names_program.specs.InUnits.{constants_in}
use Rattle.names_tables.proofs.Places.{read_at}
use Rattle.names_tables.proofs.Valued.{all_valued, first_without, valued_on}
use Rattle.names_tables.proofs.values.first_without_value.Goals as goal

pub loop-constant-init : goal.loop-constant-init
loop-constant-init c = λ k d lt. absurd (omega arith)

pub loop-constant-preserved : goal.loop-constant-preserved
loop-constant-preserved c =
    let at = read_at c.deref-constant-items.result.now (constants_in c.args.program.now.units) c.loop-constant.constant-index c.constant-item.result (ap (map (λ (d : Bor Declared). d.now)) c.deref-constant-items.ensures.value ∙ c.in_ok-declared.ensures) c.loop-constant-test.true c.constant-item.is in
    valued_on c.args.program.now c.args.config.now c.loop-constant.constant-index c.constant-item.result.now c.items-givens.result.now c.in-Some.field-0.now at c.items-givens.ensures c.in-Some.ensures c.loop-constant.invariant

pub returns-in-None : goal.returns-in-None
returns-in-None c =
    let at = read_at c.deref-constant-items.result.now (constants_in c.args.program.now.units) c.loop-constant.constant-index c.constant-item.result (ap (map (λ (d : Bor Declared). d.now)) c.deref-constant-items.ensures.value ∙ c.in_ok-declared.ensures) c.loop-constant-test.true c.constant-item.is in
    first_without c.args.program.now c.args.config.now c.loop-constant.constant-index c.constant-item.result.now c.items-givens.result.now at c.items-givens.ensures c.in-None.ensures c.loop-constant.invariant

pub returns : goal.returns
returns c =
    all_valued c.args.program.now c.args.config.now c.deref-constant-items.result.now c.loop-constant.constant-index (ap (map (λ (d : Bor Declared). d.now)) c.deref-constant-items.ensures.value ∙ c.in_ok-declared.ensures) c.loop-constant-test.false c.loop-constant.invariant
