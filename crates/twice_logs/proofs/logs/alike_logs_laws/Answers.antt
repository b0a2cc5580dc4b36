use Rattle.twice_logs.proofs.AlikeMerges.{logs_alike}
use Rattle.twice_logs.proofs.AlikeTexts.{files_alike}
use Rattle.twice_logs.proofs.ToldAlike.{names_tell_alike}
use Rattle.twice_logs.proofs.logs.alike_logs_laws.Goals as goal

pub returns-clause-names : goal.returns-clause-names
returns-clause-names c = names_tell_alike c.name_laws.ensures.operators c.alike_action_laws.ensures.fixes

pub returns-clause-files : goal.returns-clause-files
returns-clause-files c s t first second alike =
    files_alike s.operators t.operators _ _ (names_tell_alike c.name_laws.ensures.operators c.alike_action_laws.ensures.fixes s t first second alike)

pub returns-clause-logs : goal.returns-clause-logs
returns-clause-logs c ops all files others log other = logs_alike ops all c.order_laws.ensures.only files others log other
