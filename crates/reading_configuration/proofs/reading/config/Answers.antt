use Rattle.std.proofs.Common.{false}
use Rattle.reading_configuration.proofs.Meets.{answered}
use Rattle.reading_configuration.proofs.reading.config.Goals as goal

pub returns-in-Ok : goal.returns-in-Ok
returns-in-Ok c =
    answered c.args.file c.args.name.now c.args.bytes.now c.in-Ok.tokens.items c.deref.result.now c.read.result c.deref.ensures.value c.in-Ok.ensures
    (c.tokens_end_once.ensures false c.args.file c.args.bytes.now c.in-Ok.tokens.items c.in-Ok.ensures) c.read.ensures
