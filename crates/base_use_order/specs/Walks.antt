-- For the prover: the walk through the definitions while their order is built.
use Rattle.std.specs.Prelude.{◌≡◌, ◌≢◌, ◌⊎◌, ℕ, ◌+◌, ◌-◌, ◌<◌, Bool, true, false, List, [], ◌∷◌, ◌++◌, length, map, AllPairs, Contains}
use Rattle.std.specs.List.{slice_index_or, range_with_len}
use Rattle.base_use_order.specs.declared.walk.Mark.{Mark}
use Rattle.base_use_order.specs.declared.walk.Mark.TheVariants.{New, Open, Done}
use Rattle.base_use_order.specs.declared.walk.Task.{Task}
use Rattle.base_use_order.specs.declared.walk.Task.TheVariants.{Enter, Leave}
use Rattle.base_use_order.specs.Uses.{Table, Uses, Leads, numbers_below}
use Rattle.base_use_order.specs.Weights.{weight}

abbrev pub number_of : Task → ℕ
number_of (Enter a) = a
number_of (Leave a) = a

-- those that were entered and not left, of the tasks with the next one first
abbrev pub open_in : List Task → List ℕ
open_in [] = []
open_in (Enter a ∷ tasks) = open_in tasks
open_in (Leave a ∷ tasks) = a ∷ open_in tasks

-- the mark says whether the definition is in order, open, or neither
abbrev pub Tells : List ℕ → List ℕ → ℕ → Mark → Type 0
Tells order path a New = (¬ Contains order a) × (¬ Contains path a)
Tells order path a Open = (¬ Contains order a) × Contains path a
Tells order path a Done = Contains order a × (¬ Contains path a)

abbrev pub AreOnce : List ℕ → Type 0
AreOnce [] = Unit {0}
AreOnce (a ∷ path) = (¬ Contains path a) × AreOnce path

-- what each of them uses passes or stands before it
abbrev pub Closed : Table → (ℕ → Type 0) → List ℕ → Type 0
Closed uses Passes [] = Unit {0}
Closed uses Passes (a ∷ order) = ((b : ℕ) → Uses uses a b → Passes b) × Closed uses (λ b. Passes b ⊎ (a ≡ b)) order

-- what each definition that is to be left uses passes or has a task before
abbrev pub Waits : Table → (ℕ → Type 0) → List Task → Type 0
Waits uses Passes [] = Unit {0}
Waits uses Passes (Enter a ∷ tasks) = Waits uses (λ b. Passes b ⊎ (a ≡ b)) tasks
Waits uses Passes (Leave a ∷ tasks) = ((b : ℕ) → Uses uses a b → Passes b) × Waits uses (λ b. Passes b ⊎ (a ≡ b)) tasks

-- each open definition leads to those of the tasks before its own
abbrev pub Led : Table → List Task → Type 0
Led uses [] = Unit {0}
Led uses (task ∷ tasks) = ((a : ℕ) → Contains (open_in tasks) a → Leads uses a (number_of task)) × Led uses tasks

-- The walk with these marks, this order so far, and these tasks, the next one first.
pub record Stands (uses : Table) (marks : List Mark) (order : List ℕ) (tasks : List Task) : Type 0 where
  pub sizes : length marks ≡ length uses
  pub told : (a : ℕ) → Tells order (open_in tasks) a (slice_index_or marks a New)
  pub path : AreOnce (open_in tasks)
  pub once : AllPairs (λ a b. a ≢ b) order
  pub closed : Closed uses (λ _. ⊥) order
  pub waits : Waits uses (Contains order) tasks
  pub led : Led uses tasks
  pub tasks_within : (a : ℕ) → Contains (map number_of tasks) a → a < length uses
  pub order_within : (a : ℕ) → Contains order a → a < length uses
  pub all : (a : ℕ) → a < length uses → Contains order a ⊎ Contains (map number_of tasks) a

abbrev pub is_new : Mark → Bool
is_new New = true
is_new Open = false
is_new Done = false

-- how many tasks are still to be taken, at most
abbrev pub left_to_take : Table → List Mark → List Task → ℕ
left_to_take uses marks tasks = length tasks + weight is_new marks uses

-- the definitions from the k-th of n on are to be entered
abbrev pub tasks_from : ℕ → ℕ → List Task
tasks_from n k = map Enter (range_with_len k (n - k))

-- The walk through n definitions that stand in order already: those below the k-th are done, and it is to be entered, or it
-- is open and some of those below are to be entered.
abbrev pub InTurn : ℕ → List ℕ → List Task → Type 0
InTurn n order tasks = (k : ℕ) × (order ≡ numbers_below k)
    × ((tasks ≡ tasks_from n k) ⊎ ((xs : List ℕ) × ((b : ℕ) → Contains xs b → b < k) × (tasks ≡ map Enter xs ++ Leave k ∷ tasks_from n (k + 1))))
