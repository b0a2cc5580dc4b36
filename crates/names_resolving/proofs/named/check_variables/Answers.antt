use Rattle.std.proofs.Common.{ap}
use Rattle.std.specs.Prelude.{option_map}
use Rattle.std.specs.Borrow.{Bor}
use Rattle.reading_trees.specs.declared.module.Declared.{Declared}
use Rattle.names_resolving.proofs.Refusing.{refuses_variable}
use Rattle.names_resolving.proofs.named.check_variables.Goals as goal

pub returns-in-Some-clause-refused : goal.returns-in-Some-clause-refused
returns-in-Some-clause-refused c =
    refuses_variable c.args.program.now (option_map (λ (d : Bor Declared). d.now) c.in_ok-variable.field-0) c.in-Some.variable.now c.in_ok-variable.ensures (ap (option_map (λ (d : Bor Declared). d.now)) c.in-Some.is)
