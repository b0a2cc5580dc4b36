-- For the prover: where a log is explained no further.
use Rattle.std.specs.Prelude.{◌≡◌, ℕ, ◌<◌, suc, List, length}
use Rattle.states_core.specs.Runs.{IsBehaviour}
use Rattle.states_core.specs.Sets.{IsList}
use Rattle.states_core.specs.States.{Values}
use Rattle.states_core.specs.declared.state.Shown.{Shown}
use Rattle.names_terms.specs.declared.spec.Spec.{Spec}
use Rattle.logs_updates.specs.declared.line.Log.{Log}
use Rattle.steps_lines_defs.specs.Logs.{Asked, system}
use Rattle.states_layers.specs.Gives.{IsReached}
use Rattle.states_layers.specs.declared.answer.Answer.{Answer}
use Rattle.states_layers.specs.declared.answer.Answer.TheVariants.{NotExplained}

-- n lines and no more have a behaviour, and these are all that n lines and then some silent steps reach
pub record EndsAt (g : Spec) (log : Log) (a : Asked) (n : ℕ) (last : List Values) : Type 0 where
  pub left : n < length log.lines
  pub none : (v : List Shown) → IsBehaviour (system g log a) (suc n) v → ⊥
  pub all : IsList (IsReached (system g log a) n) last

-- some lines and then some silent steps reach it
pub record IsReachedBySome (g : Spec) (log : Log) (a : Asked) (s : Values) : Type 0 where
  pub lines : ℕ
  pub reached : IsReached (system g log a) lines s

-- the answer is that so many lines are explained and no more; or it is another one
abbrev pub IsPrefix : Answer → ℕ → Type 0
IsPrefix (NotExplained n of after w) prefix = prefix ≡ n
IsPrefix answer prefix = ⊥

abbrev pub IsPlain : Answer → Type 0
IsPlain (NotExplained n of after w) = ⊥
IsPlain answer = Unit {0}
