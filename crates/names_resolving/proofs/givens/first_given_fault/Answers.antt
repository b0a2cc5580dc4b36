use Rattle.std.proofs.Common.{◌∙◌, sym, refl}
use Rattle.names_program.specs.Names.{numbers_of}
use Rattle.names_resolving.proofs.FirstGiven.{found, passed, ended}
use Rattle.names_resolving.proofs.givens.first_given_fault.Goals as goal

pub loop-given-init : goal.loop-given-init
loop-given-init c = refl

pub returns-then-is_some : goal.returns-then-is_some
returns-then-is_some c =
    found c.args.program.now (numbers_of c.args.table.now.numbers.items) c.args.table.now.operators c.args.givens.now c.loop-given.given-index c.given-item.result c.in_ok-fault.fault c.loop-given-test.true c.given-item.is c.loop-given.invariant c.in_ok-fault.ensures (sym c.is_some.ensures ∙ c.if-is_some.true)

pub loop-given-preserved : goal.loop-given-preserved
loop-given-preserved c =
    passed c.args.program.now (numbers_of c.args.table.now.numbers.items) c.args.table.now.operators c.args.givens.now c.loop-given.given-index c.given-item.result c.in_ok-fault.fault c.loop-given-test.true c.given-item.is c.loop-given.invariant c.in_ok-fault.ensures (sym c.is_some.ensures ∙ c.if-is_some.false)

pub returns : goal.returns
returns c =
    ended c.args.program.now (numbers_of c.args.table.now.numbers.items) c.args.table.now.operators c.args.givens.now c.loop-given.given-index c.loop-given-test.false c.loop-given.invariant
