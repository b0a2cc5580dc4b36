-- proofs/standard/is_standard/Answers.antt
use Rattle.reading_modules.proofs.Tables.{standard_is}
use Rattle.reading_modules.proofs.standard.is_standard.Goals as goal

pub returns : goal.returns
returns c = let e = standard_is c.args.name.now in cc
