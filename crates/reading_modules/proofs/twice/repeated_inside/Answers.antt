-- proofs/twice/repeated_inside/Answers.antt
use Rattle.std.proofs.Common.{◌+◌, [], drop}
use Rattle.reading_modules.specs.Twice.{AreNew, Repeats, declared_in}
use Rattle.reading_modules.proofs.TwiceInside.{said_some, said_none, instances_at, repeats_here, new_behind, repeats_behind}
use Rattle.reading_modules.proofs.twice.repeated_inside.Goals as goal

pub returns-in-Some : goal.returns-in-Some
returns-in-Some c =
    let is = c.args.instances.now in
    let k = c.loop-instance.instance-index in
    let i = c.instance-item.result in
    let declared = declared_in i.program.units in
    repeats_here is (drop k is) (drop (k + 1) is) i c.in-Some.why (instances_at is k i c.loop-instance-test.true c.instance-item.is) c.loop-instance.invariant.first
    (said_some (AreNew i.program.standard [] declared) (Repeats i.program.standard declared) c.in_ok-why.field-0 c.in-Some.why c.in-Some.is c.in_ok-why.ensures)

pub loop-instance-preserved : goal.loop-instance-preserved
loop-instance-preserved c =
    let is = c.args.instances.now in
    let k = c.loop-instance.instance-index in
    let i = c.instance-item.result in
    let declared = declared_in i.program.units in
    let cut = instances_at is k i c.loop-instance-test.true c.instance-item.is in
    let new = said_none (AreNew i.program.standard [] declared) (Repeats i.program.standard declared) c.in_ok-why.field-0 c.in_default.is c.in_ok-why.ensures in
    record {
      new = new_behind is (drop k is) (drop (k + 1) is) i cut c.loop-instance.invariant.new new;
      first = repeats_behind is (drop k is) (drop (k + 1) is) i cut c.loop-instance.invariant.first new;
    }
