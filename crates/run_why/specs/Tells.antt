-- Which entries are told of, which of their branches, and how many; and which near lines.
use Rattle.std.specs.Prelude.{◌≡◌, ℕ, suc, ◌+◌, true, false, List, [], ◌∷◌, ◌++◌, length, Some, slice_get}
use Rattle.std.specs.List.Sorted.{IsPermutation, IsSorted}
use Rattle.states_core.specs.States.{Values}
use Rattle.states_core.specs.StateOrder.{state_cmp}
use Rattle.states_core.specs.Sets.{IsList}
use Rattle.names_terms.specs.declared.spec.Spec.{Spec}
use Rattle.logs_updates.specs.declared.line.Line.{Line}
use Rattle.logs_updates.specs.declared.line.Log.{Log}
use Rattle.steps_lines_defs.specs.Asks.{asks}
use Rattle.steps_lines_defs.specs.Logs.{Asked, system}
use Rattle.steps_lines_defs.specs.Says.{IsState}
use Rattle.steps_lines_defs.specs.Steps.{Step}
use Rattle.states_layers.specs.Gives.{IsReached}
use Rattle.run_texts.specs.Answers.{Named}
use Rattle.steps_why_branches.specs.declared.why.Why.{Why}
use Rattle.steps_why_not.specs.Whys.{AreWhys}
use Rattle.run_near_lines.specs.Tells.{TellsNear}
use Rattle.run_why.specs.Lines.{entry_text, why_more, whys_text}

-- the line of an entry, and those of its branches
abbrev pub entry_lines : Named → Line → Values → List Why → List ℕ
entry_lines l line s ws = entry_text l s ++ whys_text l line.at ws

-- The lines of these entries, where so many branches may be told of at most. Each entry has a branch: so where no more may be told of and an entry is
-- left, there are more.
pub data Tells (g : Spec) (line : Line) (l : Named) : ℕ → List Values → List ℕ → Type 0 where
  no_entry_left : (most : ℕ) → Tells g line l most [] []
  no_room_left : (s : Values) (ss : List Values) → Tells g line l 0 (s ∷ ss) why_more
  is_cut : (most : ℕ) (s : Values) (ss : List Values) (ws : List Why) → AreWhys g line s (suc most) ws true
      → Tells g line l (suc most) (s ∷ ss) (entry_lines l line s ws ++ why_more)
  is_whole : (most left : ℕ) (s : Values) (ss : List Values) (ws : List Why) (text : List ℕ) → AreWhys g line s (suc most) ws false → suc most ≡ length ws + left
      → Tells g line l left ss text → Tells g line l (suc most) (s ∷ ss) (entry_lines l line s ws ++ text)

-- the members of the set, all of them, each once and in ascending order
pub record AreInOrder (P : Values → Type 0) (ss : List Values) : Type 0 where
  pub listed : List Values
  pub all : IsList P listed
  pub same : IsPermutation listed ss
  pub ascend : IsSorted state_cmp ss

-- Why line n leads on from nothing that n lines and then some silent steps reach: these entries are told of, all of them, in ascending order.
pub record TellsWhy (g : Spec) (log : Log) (a : Asked) (l : Named) (n most : ℕ) (text : List ℕ) : Type 0 where
  pub line : Line
  pub is_line : slice_get log.lines n ≡ Some line
  pub entries : List Values
  pub are : AreInOrder (IsReached (system g log a) n) entries
  pub told : Tells g line l most entries text

-- The near lines of line n, over all that n lines and then some silent steps reach.
pub record TellsNears (g : Spec) (log : Log) (a : Asked) (l : Named) (n most : ℕ) (text : List ℕ) : Type 0 where
  pub line : Line
  pub is_line : slice_get log.lines n ≡ Some line
  pub entries : List Values
  pub are : AreInOrder (IsReached (system g log a) n) entries
  pub told : TellsNear g line l most entries text

-- the line leads nowhere from the state, which it may not leave as it is
pub record LeadsNowhere (g : Spec) (line : Line) (s : Values) : Type 0 where
  pub state : IsState (length g.variables) s
  pub none : (t : Values) → ¬ Step (asks g false line) s t
