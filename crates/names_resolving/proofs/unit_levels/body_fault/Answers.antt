use Rattle.std.proofs.Common.{◌∙◌, sym}
use Rattle.names_program.specs.Names.{numbers_of}
use Rattle.names_resolving.proofs.Levels.{noted}
use Rattle.names_resolving.proofs.unit_levels.body_fault.Goals as goal

pub returns-in-Some : goal.returns-in-Some
returns-in-Some c =
    noted (numbers_of c.args.table.now.numbers.items) c.args.table.now.operators c.args.form c.args.index c.in-Some.number c.numbered_fault.result (sym c.number_at.ensures ∙ c.in-Some.is) c.numbered_fault.ensures
