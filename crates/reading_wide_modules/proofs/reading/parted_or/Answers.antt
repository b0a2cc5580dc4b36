use Rattle.std.proofs.Common.{true, sym, subst}
use Rattle.reading_trees.specs.Laid.{EndsOnce}
use Rattle.reading_wide_modules.specs.Parts.{HasNoPieces}
use Rattle.reading_wide_modules.proofs.Wholes.{no_parts, no_tokens}
use Rattle.reading_wide_modules.proofs.reading.parted_or.Goals as goal

pub read_parted-requires : goal.read_parted-requires
read_parted-requires c =
    subst (λ v. EndsOnce v) (sym c.deref.ensures.value) (c.tokens_end_once.ensures true c.args.number c.args.bytes.now c.in-Ok.tokens.items c.in-Ok.ensures)

pub returns-in-None-clause-refused : goal.returns-in-None-clause-refused
returns-in-None-clause-refused c =
    let none : HasNoPieces c.deref.result.now = rw c.in-None.is at c.in_ok-read-in-Ok.ensures in
    no_parts c.one_outcome.ensures.one c.args.number c.args.bytes.now c.in-Ok.tokens.items c.args.why c.requires.misspelled c.in-Ok.ensures
    (subst (λ v. HasNoPieces v) c.deref.ensures.value none)

pub returns-in-Err-Refused-clause-refused : goal.returns-in-Err-Refused-clause-refused
returns-in-Err-Refused-clause-refused c =
    no_tokens c.one_outcome.ensures.one c.args.number c.args.bytes.now c.in-Err-Refused.field-0-0 c.in-Err-Refused.field-0-1 c.args.why c.requires.misspelled
    (rw c.in-Err-Refused.field-0-is at c.in-Err-Refused.ensures)
