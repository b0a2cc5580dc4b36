-- What is handed out beside an answer.
use Rattle.std.specs.Prelude.{◌≡◌, List, []}
use Rattle.states_core.specs.System.{System}
use Rattle.states_core.specs.Sets.{IsList}
use Rattle.states_layers.specs.Gives.{IsReached}
use Rattle.states_layers.specs.declared.answer.Answer.{Answer}
use Rattle.states_layers.specs.declared.answer.Answer.TheVariants.{NotExplained}

-- Where n of the lines are explained and no more, all that is reached by n lines and then some silent steps, each once; and
-- beside any other answer nothing.
abbrev pub AreLast : {A : Type 0} → System A → Answer → List A → Type 0
AreLast y (NotExplained n of after w) last = IsList (IsReached y n) last
AreLast y answer last = last ≡ []
