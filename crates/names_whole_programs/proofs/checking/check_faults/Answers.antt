use Rattle.std.proofs.Common.{◌∙◌, sym}
use Rattle.names_whole_programs.proofs.Expansions.{refuses_instance}
use Rattle.names_whole_programs.proofs.checking.check_faults.Goals as goal

pub returns-in-Some-clause-refused : goal.returns-in-Some-clause-refused
returns-in-Some-clause-refused c =
    refuses_instance c.args.whole.now c.in_ok-fault.field-0 c.in-Some.fault c.requires c.in_ok-fault.ensures c.in-Some.is

pub returns-in-None-clause-fine : goal.returns-in-None-clause-fine
returns-in-None-clause-fine c = record { few = c.requires; fine = sym c.in_ok-fault.ensures ∙ c.in-None.is }
