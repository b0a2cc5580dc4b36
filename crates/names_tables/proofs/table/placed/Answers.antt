use Rattle.std.proofs.Common.{◌≡◌, ◌∙◌, sym, ap, subst, ℕ, List, length, arith, get_or}
use Rattle.std.specs.Borrow.{Bor}
use Rattle.std.specs.Prelude.{Bool, false}
use Rattle.std.specs.List.{slice_index_or}
use Rattle.std.proofs.lemmas.List.{length-map}
use Rattle.values_core.specs.Data.{Val}
use Rattle.reading_trees.specs.declared.expr.Definition.{Definition}
use Rattle.names_scopes.specs.declared.meant.Entry.{Entry}
use Rattle.names_program.specs.InUnits.{definitions_in}
use Rattle.names_program.specs.Names.{AreByDefinition, AreNames, by_index}
use Rattle.base_use_order.specs.Uses.{table_of}
use Rattle.names_tables.specs.Owns.{own_by}
use Rattle.names_tables.specs.Filling.{IsBegun}
use Rattle.names_tables.proofs.Filling.{begun_filled, filled_placed, fine_next, next_stands, next_within}
use Rattle.names_tables.proofs.Marking.{marked_in}
use Rattle.names_tables.proofs.OwnMarks.{unmarked}
use Rattle.names_tables.proofs.table.placed.Goals as goal

pub loop-next-init : goal.loop-next-init
loop-next-init c =
    let made = c.in_ok-definitions.definitions in
    let many : c.len-2.result ≡ length (definitions_in c.args.program.now.units) = c.len-2.ensures ∙ made.ok.0 ∙ sym (length-map made.items (λ (d : Bor Definition). d.now)) ∙ ap length c.in_ok-definitions.ensures in
    begun_filled c.args.program.now c.args.config.now c.args.names.now c.args.marks.now c.args.order.now c.in_ok-table.table (subst (λ (n : ℕ). IsBegun c.args.names.now n c.in_ok-table.table) many c.in_ok-table.ensures)

pub index-definition-requires : goal.index-definition-requires
index-definition-requires c =
    let made = c.in_ok-definitions.definitions in
    let many : length made.items ≡ length (definitions_in c.args.program.now.units) = sym (length-map made.items (λ (d : Bor Definition). d.now)) ∙ ap length c.in_ok-definitions.ensures in
    let within = next_within c.args.marks.now (table_of c.args.uses.now) c.args.order.now c.loop-next.next-index c.requires.ordered c.loop-next-test.true in
    omega (arith, within, many, made.ok.0, c.requires.used.as_many)

pub place-requires-clause-within : goal.place-requires-clause-within
place-requires-clause-within c =
    let within = next_within c.args.marks.now (table_of c.args.uses.now) c.args.order.now c.loop-next.next-index c.requires.ordered c.loop-next-test.true in
    omega (arith, within, c.requires.used.as_many, c.loop-next.invariant.as_many)

pub place-requires-clause-fine : goal.place-requires-clause-fine
place-requires-clause-fine c apart =
    let uses = table_of c.args.uses.now in
    let j = c.loop-next.next-index in
    let stands = next_stands c.args.marks.now uses c.args.order.now j c.requires.ordered c.loop-next-test.true c.in_ok-definitions.definitions.items (definitions_in c.args.program.now.units) c.index-definition.result.now c.requires.used.as_many c.in_ok-definitions.ensures c.index-definition.ensures in
    let own : c.own_of-own.result ≡ own_by c.args.names.now (slice_index_or c.args.marks.now (get_or c.args.order.now j 0) false) (get_or c.args.order.now j 0) c.index-definition.result.now.now = c.own_of-own.ensures ∙ ap (λ (b : Bool). own_by c.args.names.now b (get_or c.args.order.now j 0) c.index-definition.result.now.now) c.is_marked-itself.ensures in
    fine_next c.args.program.now c.args.config.now c.requires.are.0 c.args.names.now c.requires.are.1 c.args.marks.now uses c.args.order.now c.requires.ordered j c.loop-next-test.true c.index-definition.result.now.now stands c.loop-next.table c.loop-next.invariant c.requires.fine c.requires.used (unmarked c.args.names.now (slice_index_or c.args.marks.now (get_or c.args.order.now j 0) false) (get_or c.args.order.now j 0) c.index-definition.result.now.now (sym own ∙ apart))

pub loop-next-preserved : goal.loop-next-preserved
loop-next-preserved c =
    let uses = table_of c.args.uses.now in
    let j = c.loop-next.next-index in
    let stands = next_stands c.args.marks.now uses c.args.order.now j c.requires.ordered c.loop-next-test.true c.in_ok-definitions.definitions.items (definitions_in c.args.program.now.units) c.index-definition.result.now c.requires.used.as_many c.in_ok-definitions.ensures c.index-definition.ensures in
    let lists : (ws : List Val) → AreNames c.args.program.now c.args.config.now ws by_index c.args.names.now → AreByDefinition c.args.program.now c.args.config.now ws c.deref.result.now = λ ws a. subst (λ (l : List (List Entry)). AreByDefinition c.args.program.now c.args.config.now ws l) (sym c.deref.ensures.value) (c.in_ok-by_definition.ensures.are c.args.program.now c.args.config.now ws a) in
    let own : c.own_of-own.result ≡ own_by c.args.names.now (slice_index_or c.args.marks.now (get_or c.args.order.now j 0) false) (get_or c.args.order.now j 0) c.index-definition.result.now.now = c.own_of-own.ensures ∙ ap (λ (b : Bool). own_by c.args.names.now b (get_or c.args.order.now j 0) c.index-definition.result.now.now) c.is_marked-itself.ensures in
    filled_placed c.args.program.now c.args.config.now c.requires.are.0 c.args.names.now c.requires.are.1 c.args.marks.now uses c.args.order.now c.requires.ordered j c.loop-next-test.true c.index-definition.result.now.now stands c.loop-next.table c.loop-next.invariant c.requires.fine c.requires.used (marked_in c.args.program.now c.args.config.now uses c.args.marks.now c.requires.used c.requires.recursive) c.deref.result.now lists c.place.new.table c.own_of-own.result own c.in_ok-place.ensures
