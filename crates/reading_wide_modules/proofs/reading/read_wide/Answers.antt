use Rattle.std.proofs.Common.{sym, subst}
use Rattle.reading_modules.specs.Refusals.{Misspells}
use Rattle.reading_wide_modules.specs.Wide.{SpelledWide, is_whole}
use Rattle.reading_wide_modules.proofs.Wholes.{answer_wide}
use Rattle.reading_wide_modules.proofs.reading.read_wide.Goals as goal

pub returns-in-Ok-clause-read : goal.returns-in-Ok-clause-read
returns-in-Ok-clause-read c =
    subst (λ v. SpelledWide c.args.number c.args.bytes.now c.in-Ok.module v) (sym c.new.ensures.items) (is_whole c.in-Ok.module c.in-Ok.ensures.spelled)

pub returns-in-Err-Refused-clause-read : goal.returns-in-Err-Refused-clause-read
returns-in-Err-Refused-clause-read c =
    let why : Misspells c.args.number c.args.bytes.now c.in-Err-Refused.why = rw c.in-Err-Refused.field-0-is at c.in-Err-Refused.ensures.refused in
    answer_wide (λ w. w.module) (λ w. w.notes.items) c.args.number c.args.bytes.now c.in-Err-Refused.why c.parted_or.result why c.parted_or.ensures.read
