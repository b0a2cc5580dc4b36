use Rattle.std.proofs.Common.{◌<◌, ◌∙◌, sym, length, arith}
use Rattle.reading_tokens.specs.Tables.{table_of}
use Rattle.reading_tokens.proofs.Tables.{few_entries, entry_within, entry_found, entry_passed, kind_in-past}
use Rattle.reading_tokens.proofs.spellings.kind_of.Goals as goal

pub returns-then-eq : goal.returns-then-eq
returns-then-eq c =
    entry_found (table_of c.args.table) c.loop-spelling.i _ c.args.bytes.now _ c.in-Some.ensures (sym c.eq.ensures ∙ c.if-eq.true) ∙ c.loop-spelling.invariant.1

pub overflow_add-i : goal.overflow_add-i
overflow_add-i c =
    let within : c.loop-spelling.i < length (table_of c.args.table) = entry_within (table_of c.args.table) c.loop-spelling.i _ c.args.bytes.now _ c.in-Some.ensures in
    omega (arith, few_entries c.args.table)

pub loop-spelling-smaller-else-eq : goal.loop-spelling-smaller-else-eq
loop-spelling-smaller-else-eq c =
    let within : c.loop-spelling.i < length (table_of c.args.table) = entry_within (table_of c.args.table) c.loop-spelling.i _ c.args.bytes.now _ c.in-Some.ensures in
    omega arith

pub loop-spelling-preserved-else-eq : goal.loop-spelling-preserved-else-eq
loop-spelling-preserved-else-eq c =
    let within : c.loop-spelling.i < length (table_of c.args.table) = entry_within (table_of c.args.table) c.loop-spelling.i _ c.args.bytes.now _ c.in-Some.ensures in
    (omega arith, entry_passed (table_of c.args.table) c.loop-spelling.i _ c.args.bytes.now _ c.in-Some.ensures (sym c.eq.ensures ∙ c.if-eq.false) ∙ c.loop-spelling.invariant.1)

pub loop-spelling-smaller-else-eq-2 : goal.loop-spelling-smaller-else-eq-2
loop-spelling-smaller-else-eq-2 c =
    let within : c.loop-spelling.i < length (table_of c.args.table) = entry_within (table_of c.args.table) c.loop-spelling.i _ c.args.bytes.now _ c.in-Some.ensures in
    omega arith

pub loop-spelling-preserved-else-eq-2 : goal.loop-spelling-preserved-else-eq-2
loop-spelling-preserved-else-eq-2 c =
    let within : c.loop-spelling.i < length (table_of c.args.table) = entry_within (table_of c.args.table) c.loop-spelling.i _ c.args.bytes.now _ c.in-Some.ensures in
    (omega arith, entry_passed (table_of c.args.table) c.loop-spelling.i _ c.args.bytes.now _ c.in-Some.ensures (sym c.eq.ensures ∙ c.if-eq.false) ∙ c.loop-spelling.invariant.1)

pub loop-spelling-smaller : goal.loop-spelling-smaller
loop-spelling-smaller c =
    let within : c.loop-spelling.i < length (table_of c.args.table) = entry_within (table_of c.args.table) c.loop-spelling.i _ c.args.bytes.now _ c.in-Some.ensures in
    omega arith

pub loop-spelling-preserved : goal.loop-spelling-preserved
loop-spelling-preserved c =
    let within : c.loop-spelling.i < length (table_of c.args.table) = entry_within (table_of c.args.table) c.loop-spelling.i _ c.args.bytes.now _ c.in-Some.ensures in
    (omega arith, entry_passed (table_of c.args.table) c.loop-spelling.i _ c.args.bytes.now _ c.in-Some.ensures (sym c.eq.ensures ∙ c.if-eq.false) ∙ c.loop-spelling.invariant.1)

pub returns : goal.returns
returns c =
    sym (kind_in-past (table_of c.args.table) c.loop-spelling.i c.args.bytes.now c.in_default.ensures) ∙ c.loop-spelling.invariant.1
