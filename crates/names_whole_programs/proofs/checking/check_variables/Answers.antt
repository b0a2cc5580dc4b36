use Rattle.std.proofs.Common.{ap}
use Rattle.std.specs.Prelude.{option_map}
use Rattle.std.specs.Borrow.{Bor}
use Rattle.reading_trees.specs.declared.module.Declared.{Declared}
use Rattle.names_whole_programs.proofs.Expansions.{refuses_variable}
use Rattle.names_whole_programs.proofs.checking.check_variables.Goals as goal

pub returns-in-Some-clause-refused : goal.returns-in-Some-clause-refused
returns-in-Some-clause-refused c =
    refuses_variable c.args.whole.now (option_map (λ (d : Bor Declared). d.now) c.in_ok-variable.field-0) c.in-Some.variable.now c.in_ok-variable.ensures (ap (option_map (λ (d : Bor Declared). d.now)) c.in-Some.is)
