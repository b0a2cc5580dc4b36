use Rattle.logs_updates.proofs.UpdateLemmas.{append_refused}
use Rattle.logs_updates.proofs.applying.appended.Goals as goal

pub returns-in-Err-Refused : goal.returns-in-Err-Refused
returns-in-Err-Refused c = let why = rw c.in-Err-Refused.field-0-is at c.in-Err-Refused.ensures in append_refused c.args.value.now c.args.new.now c.in-Err-Refused.field-0-0 c.in-Err-Refused.field-0-1 why
