use Rattle.std.proofs.Common.{arith}
use Rattle.reading_open_rows.specs.Does.{frames_in}
use Rattle.reading_expressions.proofs.KeptRuns.{few_enough, too_many, read_more, read_too_deep, read_on, read_ends, read_defines, last_read, read_stops, read_clashes, read_short}
use Rattle.reading_expressions.proofs.reader.read.Goals as goal

pub returns-in-Ends-clause-read : goal.returns-in-Ends-clause-read
returns-in-Ends-clause-read c =
    read_ends c.args.laid.now c.args.from c.loop-i.i c.args.start c.loop-i.mode c.in-Ends.e c.index-laid-i.result (frames_in c.loop-i.stack) (frames_in c.step.new.stack) c.in_ok-behind.field-0
    c.loop-i.invariant.2 c.loop-i.invariant.0 c.loop-i-test.true c.index-laid-i.is c.in_ok-behind.ensures c.in-Ends.is

pub returns-in-EndsDefinition-clause-read : goal.returns-in-EndsDefinition-clause-read
returns-in-EndsDefinition-clause-read c =
    read_defines c.args.laid.now c.args.from c.loop-i.i c.args.start c.loop-i.mode c.in-EndsDefinition.definition c.index-laid-i.result (frames_in c.loop-i.stack) (frames_in c.step.new.stack) c.in_ok-behind.field-0
    c.loop-i.invariant.2 c.loop-i.invariant.0 c.loop-i-test.true c.index-laid-i.is c.in_ok-behind.ensures c.in-EndsDefinition.is

pub returns-in-Stops-clause-refused : goal.returns-in-Stops-clause-refused
returns-in-Stops-clause-refused c =
    read_stops c.args.laid.now c.args.from c.loop-i.i c.args.start c.loop-i.mode c.fault_at.result c.index-laid-i.result (frames_in c.loop-i.stack) (frames_in c.step.new.stack) c.in_ok-behind.field-0
    c.loop-i.invariant.2 c.loop-i.invariant.0 c.loop-i-test.true c.index-laid-i.is c.in_ok-behind.ensures c.in-Stops.is c.fault_at.ensures

pub returns-in-Clashes-clause-refused : goal.returns-in-Clashes-clause-refused
returns-in-Clashes-clause-refused c =
    read_clashes c.args.laid.now c.args.from c.loop-i.i c.args.start c.loop-i.mode c.in-Clashes.p c.in-Clashes.q c.index-laid-i.result (frames_in c.loop-i.stack) (frames_in c.step.new.stack) c.in_ok-behind.field-0
    c.loop-i.invariant.2 c.loop-i.invariant.0 c.loop-i-test.true c.index-laid-i.is c.in_ok-behind.ensures c.in-Clashes.is

pub loop-i-preserved : goal.loop-i-preserved
loop-i-preserved c = (
  read_on c.args.laid.now c.args.from c.loop-i.i c.args.start c.loop-i.mode c.in-Reads.behind c.index-laid-i.result (frames_in c.loop-i.stack) (frames_in c.step.new.stack) c.in_ok-behind.field-0
      c.loop-i.invariant.0 c.loop-i-test.true c.index-laid-i.is c.in_ok-behind.ensures c.in-Reads.is,
  last_read c.args.laid.now c.args.from c.loop-i.i c.index-laid-i.result c.place_of-last-in-loop-i.result c.loop-i-test.true c.index-laid-i.is c.place_of-last-in-loop-i.ensures,
  read_more c.args.laid.now c.args.from c.loop-i.i c.args.start c.loop-i.mode c.in-Reads.behind c.index-laid-i.result (frames_in c.loop-i.stack) (frames_in c.step.new.stack) c.in_ok-behind.field-0
      c.loop-i.invariant.2 c.loop-i-test.true c.index-laid-i.is c.in_ok-behind.ensures c.in-Reads.is (few_enough _ _ c.is_too_deep-deep.ensures c.if-deep.false),
)

pub returns-clause-refused : goal.returns-clause-refused
returns-clause-refused c =
    read_short c.args.laid.now c.args.from c.loop-i.i c.args.start c.loop-i.mode c.loop-i.last (frames_in c.loop-i.stack)
    c.loop-i.invariant.2 c.loop-i.invariant.0 c.loop-i.invariant.1 c.requires (omega (arith, c.loop-i-test.false))

pub returns-then-deep-clause-refused : goal.returns-then-deep-clause-refused
returns-then-deep-clause-refused c =
    read_too_deep c.args.laid.now c.args.from c.loop-i.i c.args.start c.loop-i.mode c.in-Reads.behind c.place_of-last-in-loop-i.result c.index-laid-i.result (frames_in c.loop-i.stack) (frames_in c.step.new.stack) c.in_ok-behind.field-0
    c.loop-i.invariant.2 c.loop-i-test.true c.index-laid-i.is c.in_ok-behind.ensures c.in-Reads.is (too_many _ _ c.is_too_deep-deep.ensures c.if-deep.true) c.place_of-last-in-loop-i.ensures
