use Rattle.names_resolving.proofs.Refusing.{refuses_name}
use Rattle.names_resolving.proofs.named.check_names.Goals as goal

pub returns-in_ok-refusal-in-Some-clause-refused : goal.returns-in_ok-refusal-in-Some-clause-refused
returns-in_ok-refusal-in-Some-clause-refused c =
    refuses_name c.args.program.now c.args.config.now c.in-Some.fault c.in_ok-refusal-in-Some.refusal c.in_ok-fault.field-0 c.requires.few c.in_ok-fault.ensures c.in-Some.is c.in_ok-refusal-in-Some.ensures
