-- proofs/twice/first_repeated/Answers.antt
use Rattle.std.proofs.Common.{[]}
use Rattle.reading_modules.specs.Twice.{AreNew, Repeats, declared_in, in_program}
use Rattle.reading_modules.proofs.TwiceInside.{said_some, said_none, behind_program}
use Rattle.reading_modules.proofs.twice.first_repeated.Goals as goal

pub returns-in-Some : goal.returns-in-Some
returns-in-Some c =
    let standard = c.args.standard.now in
    let declared = declared_in c.args.units.now in
    in_program c.in-Some.why (said_some (AreNew standard [] declared) (Repeats standard declared) c.in_ok-why.field-0 c.in-Some.why c.in-Some.is c.in_ok-why.ensures)

pub returns-in-None : goal.returns-in-None
returns-in-None c =
    let standard = c.args.standard.now in
    let declared = declared_in c.args.units.now in
    behind_program standard c.args.units.now c.args.instances.now c.items.result.now c.repeated_inside.result c.items.ensures
    (said_none (AreNew standard [] declared) (Repeats standard declared) c.in_ok-why.field-0 c.in-None.is c.in_ok-why.ensures) c.repeated_inside.ensures
