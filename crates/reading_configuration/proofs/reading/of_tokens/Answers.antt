use Rattle.reading_configuration.proofs.Meets.{answered_tokens}
use Rattle.reading_configuration.proofs.reading.of_tokens.Goals as goal

pub returns : goal.returns
returns c = answered_tokens c.args.name.now c.args.tokens.now c.read.result c.requires c.read.ensures
