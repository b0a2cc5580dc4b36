use Rattle.run_words.proofs.NumberLaws.{no_number}
use Rattle.run_words.proofs.number.number.Goals as goal

pub returns-in-Err : goal.returns-in-Err
returns-in-Err c = λ n. no_number c.args.text.now c.args.least c.args.most n c.ranges.most.fits c.in-Err.ensures.value.0
