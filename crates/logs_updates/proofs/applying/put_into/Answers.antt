use Rattle.logs_updates.proofs.UpdateLemmas.{single_refused}
use Rattle.logs_updates.proofs.applying.put_into.Goals as goal

pub returns-in-Err-Refused : goal.returns-in-Err-Refused
returns-in-Err-Refused c = λ h. let why = rw c.in-Err-Refused.field-0-is at c.in-Err-Refused.ensures in single_refused c.args.function.now c.args.key.now c.args.new.now c.in-Err-Refused.field-0-0 c.in-Err-Refused.field-0-1 why
