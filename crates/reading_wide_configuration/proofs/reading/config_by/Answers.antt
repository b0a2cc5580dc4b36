use Rattle.std.proofs.Common.{Bool, subst, sym}
use Rattle.reading_configuration.specs.Reads.{Answers}
use Rattle.reading_wide_configuration.specs.Wide.{ReadsBy}
use Rattle.reading_wide_configuration.proofs.reading.config_by.Goals as goal

pub returns-then-wide : goal.returns-then-wide
returns-then-wide c =
    subst (λ (w : Bool). Answers (ReadsBy w c.args.file c.args.name.now c.args.bytes.now) c.config_wide.result) (sym c.if-wide.true) c.config_wide.ensures

pub returns-else-wide : goal.returns-else-wide
returns-else-wide c =
    subst (λ (w : Bool). Answers (ReadsBy w c.args.file c.args.name.now c.args.bytes.now) c.config.result) (sym c.if-wide.false) c.config.ensures
