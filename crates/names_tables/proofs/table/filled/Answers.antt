use Rattle.std.proofs.Common.{◌≡◌, ◌∙◌, sym, ap, subst, ℕ, length, ◌<◌, ◌≤◌, arith}
use Rattle.std.specs.Borrow.{Bor}
use Rattle.std.proofs.lemmas.List.{length-map}
use Rattle.reading_trees.specs.declared.expr.Definition.{Definition}
use Rattle.names_program.specs.InUnits.{definitions_in}
use Rattle.base_use_order.specs.Uses.{table_of}
use Rattle.names_tables.specs.Filling.{Filled}
use Rattle.names_tables.proofs.Marking.{marked_in}
use Rattle.names_tables.proofs.Places.{read_at}
use Rattle.names_tables.proofs.Settling.{filled_settled, fine_body, number_there}
use Rattle.names_tables.proofs.table.filled.Goals as goal

pub index-definition-requires : goal.index-definition-requires
index-definition-requires c = (let lt : c.loop-index.index < c.len-index-end.result = c.loop-index-test.true in omega (arith, lt, c.len-index-end.ensures))

pub settle_if-requires-clause-numbered : goal.settle_if-requires-clause-numbered
settle_if-requires-clause-numbered c =
    let lt : c.loop-index.index < length c.in_ok-definitions.definitions.items = omega (arith, c.loop-index-test.true, c.len-index-end.ensures, c.in_ok-definitions.definitions.ok.0) in
    let stands = read_at c.in_ok-definitions.definitions.items (definitions_in c.args.program.now.units) c.loop-index.index c.index-definition.result.now c.in_ok-definitions.ensures lt c.index-definition.ensures in
    let le : length c.args.order.now ≤ length c.args.order.now = omega arith in
    number_there c.args.program.now c.args.config.now c.requires.are.0 c.args.names.now c.requires.are.1 c.args.marks.now (table_of c.args.uses.now) c.args.order.now c.requires.ordered (length c.args.order.now) le c.requires.fine c.requires.used (marked_in c.args.program.now c.args.config.now (table_of c.args.uses.now) c.args.marks.now c.requires.used c.requires.recursive) c.loop-index.index c.index-definition.result.now.now stands c.loop-index.table c.loop-index.invariant

pub settle_if-requires-clause-fine : goal.settle_if-requires-clause-fine
settle_if-requires-clause-fine c =
    let lt : c.loop-index.index < length c.in_ok-definitions.definitions.items = omega (arith, c.loop-index-test.true, c.len-index-end.ensures, c.in_ok-definitions.definitions.ok.0) in
    let stands = read_at c.in_ok-definitions.definitions.items (definitions_in c.args.program.now.units) c.loop-index.index c.index-definition.result.now c.in_ok-definitions.ensures lt c.index-definition.ensures in
    let le : length c.args.order.now ≤ length c.args.order.now = omega arith in
    fine_body c.args.program.now c.args.config.now c.requires.are.0 c.args.names.now c.requires.are.1 c.args.marks.now (table_of c.args.uses.now) c.args.order.now c.requires.ordered (length c.args.order.now) le c.requires.fine c.requires.used (marked_in c.args.program.now c.args.config.now (table_of c.args.uses.now) c.args.marks.now c.requires.used c.requires.recursive) c.loop-index.index c.index-definition.result.now.now stands c.loop-index.table c.loop-index.invariant

pub loop-index-preserved : goal.loop-index-preserved
loop-index-preserved c =
    let lt : c.loop-index.index < length c.in_ok-definitions.definitions.items = omega (arith, c.loop-index-test.true, c.len-index-end.ensures, c.in_ok-definitions.definitions.ok.0) in
    let stands = read_at c.in_ok-definitions.definitions.items (definitions_in c.args.program.now.units) c.loop-index.index c.index-definition.result.now c.in_ok-definitions.ensures lt c.index-definition.ensures in
    let le : length c.args.order.now ≤ length c.args.order.now = omega arith in
    filled_settled c.args.program.now c.args.config.now c.requires.are.0 c.args.names.now c.requires.are.1 c.args.marks.now (table_of c.args.uses.now) c.args.order.now c.requires.ordered (length c.args.order.now) le c.requires.fine c.requires.used (marked_in c.args.program.now c.args.config.now (table_of c.args.uses.now) c.args.marks.now c.requires.used c.requires.recursive) c.loop-index.index c.index-definition.result.now.now stands c.loop-index.table c.loop-index.invariant c.is_marked-itself.result c.settle_if.new.table c.is_marked-itself.ensures c.in_ok-settle_if.ensures

pub returns : goal.returns
returns c =
    let many : c.len-index-end.result ≡ length (definitions_in c.args.program.now.units) = c.len-index-end.ensures ∙ c.in_ok-definitions.definitions.ok.0 ∙ sym (length-map c.in_ok-definitions.definitions.items (λ (d : Bor Definition). d.now)) ∙ ap length c.in_ok-definitions.ensures in
    let end : c.loop-index.index ≡ length (definitions_in c.args.program.now.units) = omega (arith, many, c.loop-index-test.false, c.loop-index.auto.index-end) in
    subst (λ (n : ℕ). Filled c.args.program.now c.args.config.now c.args.names.now c.args.marks.now c.args.order.now (length c.args.order.now) n c.loop-index.table) end c.loop-index.invariant
