use Rattle.std.proofs.Common.{false, subst, sym}
use Rattle.reading_trees.specs.Laid.{EndsOnce}
use Rattle.reading_wide_configuration.proofs.Outcomes.{answered_wide}
use Rattle.reading_wide_configuration.proofs.reading.config_wide.Goals as goal

pub of_tokens_wide-requires : goal.of_tokens_wide-requires
of_tokens_wide-requires c =
    subst EndsOnce (sym c.deref.ensures.value) (c.tokens_end_once.ensures false c.args.file c.args.bytes.now c.in-Ok.tokens.items c.in-Ok.ensures)

pub returns-in-Ok : goal.returns-in-Ok
returns-in-Ok c =
    answered_wide c.args.file c.args.name.now c.args.bytes.now c.in-Ok.tokens.items c.deref.result.now c.of_tokens_wide.result c.deref.ensures.value c.in-Ok.ensures
    c.of_tokens_wide.ensures
