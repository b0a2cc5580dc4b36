use Rattle.base_cuts.specs.Cuts.{next}
use Rattle.logs_tied.proofs.Choosing.{none_at_all}
use Rattle.logs_tied.proofs.named.stands_at.Goals as goal

pub returns-in-None : goal.returns-in-None
returns-in-None c = none_at_all c.args.logs.now.files.items (next c.args.cut.now c.args.file) c.args.at c.in-None.ensures
