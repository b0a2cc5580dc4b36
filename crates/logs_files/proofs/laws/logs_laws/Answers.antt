use Rattle.logs_files.proofs.OneLog.{one_outcome}
use Rattle.logs_files.proofs.laws.logs_laws.Goals as goal

pub returns : goal.returns
returns g c = one_outcome (g.N.SpecNames.setting c.args.names.now) c.line_laws.ensures.file c.order_laws.ensures.only
