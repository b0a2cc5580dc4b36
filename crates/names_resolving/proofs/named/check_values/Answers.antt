use Rattle.names_resolving.proofs.Refusing.{refuses_value}
use Rattle.names_resolving.proofs.named.check_values.Goals as goal

pub returns-in_ok-copy-in-Some-clause-refused : goal.returns-in_ok-copy-in-Some-clause-refused
returns-in_ok-copy-in-Some-clause-refused c =
    refuses_value c.args.program.now c.args.config.now c.in_ok-constant.field-0 c.in-Some.constant c.in_ok-copy-in-Some.field-0 c.requires.few c.requires.fine c.in_ok-constant.ensures c.in-Some.is c.in_ok-copy-in-Some.ensures
