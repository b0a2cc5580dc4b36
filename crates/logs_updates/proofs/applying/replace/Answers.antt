use Rattle.logs_updates.proofs.UpdateLemmas.{except_made, except_refused}
use Rattle.logs_updates.proofs.applying.replace.Goals as goal

pub returns-in-Ok : goal.returns-in-Ok
returns-in-Ok c = λ h. except_made c.args.function.now c.args.key.now c.args.new c.in-Ok.value h (rw c.value-place.ensures at c.in-Ok.ensures)

pub returns-in-Err-Refused : goal.returns-in-Err-Refused
returns-in-Err-Refused c = λ h. let refused = rw c.in-Err-Refused.field-0-is at c.in-Err-Refused.ensures in let why = rw c.value-place.ensures at refused in except_refused c.args.function.now c.args.key.now c.args.new c.in-Err-Refused.field-0-0 c.in-Err-Refused.field-0-1 h why
