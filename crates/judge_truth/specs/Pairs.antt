-- What a pair of Rust stands for.
use Rattle.eval_meanings.specs.Contexts.{Context}
use Rattle.actions_meanings.specs.Forms.{Setting}
use Rattle.eval_parts.specs.Scenes.{context, table}
use Rattle.judge_truth.specs.declared.pair.Pair.{Pair}

abbrev pub setting : Pair → Setting
setting p = record { which = p.which; variables = p.variables; table = table p.scene }

-- the slots and the two states
abbrev pub at : Pair → Context
at p = context p.scene
