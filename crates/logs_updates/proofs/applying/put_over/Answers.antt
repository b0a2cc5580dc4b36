use Rattle.logs_updates.proofs.UpdateLemmas.{put_made, put_refused}
use Rattle.logs_updates.proofs.applying.put_over.Goals as goal

pub returns-in-Ok : goal.returns-in-Ok
returns-in-Ok c = λ h m. put_made c.args.function.now c.args.key.now c.args.new.now c.args.one.now c.in-Ok.value h m c.in-Ok.ensures

pub returns-in-Err-Refused : goal.returns-in-Err-Refused
returns-in-Err-Refused c = λ h m. let why = rw c.in-Err-Refused.field-0-is at c.in-Err-Refused.ensures in put_refused c.args.function.now c.args.key.now c.args.new.now c.args.one.now c.in-Err-Refused.field-0-0 c.in-Err-Refused.field-0-1 h m why
