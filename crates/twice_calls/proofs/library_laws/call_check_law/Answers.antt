use Rattle.twice_calls.proofs.Checking.{call_checks_after}
use Rattle.twice_calls.proofs.library_laws.call_check_law.Goals as goal

pub returns : goal.returns
returns c = call_checks_after c.one_command.ensures c.check_law.ensures
