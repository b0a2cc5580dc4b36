-- For the prover: what a pass over the states keeps.
use Rattle.std.specs.Prelude.{◌≡◌, ℕ, suc, ◌+◌, ◌*◌, ◌<◌, ◌≤◌, List, Option, None, Some}
use Rattle.states_core.specs.States.{Values}
use Rattle.states_core.specs.declared.state.Shown.{Shown}
use Rattle.states_verdicts.specs.Asks.{PairAsks}
use Rattle.states_verdicts.specs.Cleans.{AreClean, reached_at}
use Rattle.states_verdicts.specs.Verdicts.{IsVerdict}
use Rattle.states_verdicts.specs.declared.checking.Stop.{Stop}
use Rattle.states_verdicts.specs.declared.checking.Stop.TheVariants.{Answered, NoMemory}

-- how many states there are at most, where at most eight of them are clean for each line
abbrev pub most : Option Values → ℕ → ℕ → ℕ
most None n j = 0
most (Some s) n j = suc (8 * n + j)

-- The first i states are clean, and reach n lines and j silent states.
pub record HasCome (a : PairAsks) (w : List Shown) (i n j : ℕ) : Type 0 where
  pub clean : AreClean a w i
  pub line : (reached_at w i).line ≡ n
  pub silents : (reached_at w i).silents ≡ j
  pub lines : n ≤ a.system.count
  pub few : j < a.system.within
  pub index : i ≤ most (reached_at w i).last n j

abbrev pub IsStop : PairAsks → List Shown → Stop → Type 0
IsStop a w (Answered v) = IsVerdict a w v
IsStop a w NoMemory = Unit {0}
