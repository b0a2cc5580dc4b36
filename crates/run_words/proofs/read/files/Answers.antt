use Rattle.std.proofs.Common.{◌∙◌, sym, eqb-true}
use Rattle.run_words.proofs.ReadLaws.{many_logs, no_logs, no_words}
use Rattle.run_words.proofs.read.files.Goals as goal

pub returns-in_default : goal.returns-in_default
returns-in_default c = λ path logs. no_words c.args.words.now path logs c.in_default.len_below

pub returns-then-is_empty : goal.returns-then-is_empty
returns-then-is_empty c = λ path logs. no_logs c.args.words.now path logs (eqb-true _ _ (sym c.is_empty.ensures ∙ c.if-is_empty.true))

pub returns-then-logs-gt64 : goal.returns-then-logs-gt64
returns-then-logs-gt64 c = λ path logs. many_logs c.args.words.now path logs c.if-logs-gt64.true
