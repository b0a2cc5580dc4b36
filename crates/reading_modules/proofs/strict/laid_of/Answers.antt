-- proofs/strict/laid_of/Answers.antt
use Rattle.std.proofs.Common.{true}
use Rattle.reading_modules.proofs.strict.laid_of.Goals as goal

pub lay-requires : goal.lay-requires
lay-requires c = c.tokens_end_once.ensures true c.args.number c.args.bytes.now c.in-Ok.tokens.items c.in-Ok.ensures
