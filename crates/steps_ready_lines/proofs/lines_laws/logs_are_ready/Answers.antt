use Rattle.steps_ready_lines.proofs.LogLemmas.{files_are_ready, lined_are_ready, lines_are_ready, logs_ready, sees_are_ready, together_are_ready}
use Rattle.steps_ready_lines.proofs.lines_laws.logs_are_ready.Goals as goal

pub returns-clause-lines : goal.returns-clause-lines
returns-clause-lines c = lines_are_ready (record { some = c.form_laws.ensures.some; one = c.form_laws.ensures.one; sound = c.operator_law.ensures })

pub returns-clause-sees : goal.returns-clause-sees
returns-clause-sees c = sees_are_ready (record { some = c.form_laws.ensures.some; one = c.form_laws.ensures.one; sound = c.operator_law.ensures })

pub returns-clause-logs : goal.returns-clause-logs
returns-clause-logs c = logs_ready (record { some = c.form_laws.ensures.some; one = c.form_laws.ensures.one; sound = c.operator_law.ensures })

pub returns-clause-files : goal.returns-clause-files
returns-clause-files c = files_are_ready (record { some = c.form_laws.ensures.some; one = c.form_laws.ensures.one; sound = c.operator_law.ensures })

pub returns-clause-together : goal.returns-clause-together
returns-clause-together c = together_are_ready (record { some = c.form_laws.ensures.some; one = c.form_laws.ensures.one; sound = c.operator_law.ensures })

pub returns-clause-lined : goal.returns-clause-lined
returns-clause-lined c = lined_are_ready (record { some = c.form_laws.ensures.some; one = c.form_laws.ensures.one; sound = c.operator_law.ensures })
