use Rattle.steps_names.proofs.FormLemmas.{Gathers}
use Rattle.steps_names.proofs.forms.updated.Given as goal

abbrev pub invariant-loop-update : goal.invariant-loop-update
invariant-loop-update l = Gathers l.variables l.all l.update-index l.set
