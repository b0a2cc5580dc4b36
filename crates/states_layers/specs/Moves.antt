-- One way from the members of a layer to those of a later one: a silent step, or the step of a line.
use Rattle.std.specs.Prelude.{◌≡◌, ◌↔◌, ℕ, suc, ◌+◌, ◌-◌, ◌<◌, ◌≤◌, List, length, map, Some, slice_get, Contains}
use Rattle.states_core.specs.System.{System}
use Rattle.states_core.specs.Runs.{Layer, Entry}
use Rattle.states_core.specs.Sets.{IsList}
use Rattle.states_layers.specs.Found.{Found, members_of, IsDistinct}
use Rattle.states_layers.specs.declared.node.Node.{Node}
use Rattle.states_layers.specs.declared.node.Move.{Move}
use Rattle.states_layers.specs.declared.node.Move.TheVariants.{Wait, Go}
use Rattle.states_core.specs.declared.fault.Fault.{Fault}

-- The move starts at layer (m, k).
abbrev pub IsSource : Move → ℕ → ℕ → Type 0
IsSource (Wait n j) m k = (m ≡ n) × (k ≡ j)
IsSource (Go n) m k = m ≡ n

-- The last layer that is whole before the move, as its numbers of lines and silent steps.
abbrev pub line_of : Move → ℕ
line_of (Wait n j) = n
line_of (Go n) = n

-- Its silent steps: before the step of a line, as many as are allowed.
abbrev pub silents_of : {A : Type 0} → System A → Move → ℕ
silents_of y (Wait n j) = j
silents_of y (Go n) = y.within - 1

-- The layer that the move leads to, as its numbers.
abbrev pub line_after : Move → ℕ
line_after (Wait n j) = n
line_after (Go n) = suc n

-- Its silent steps: one more, or none after the step of a line.
abbrev pub silents_after : Move → ℕ
silents_after (Wait n j) = suc j
silents_after (Go n) = 0

-- The move is allowed: there is such a line, and no more silent steps are taken than are allowed.
abbrev pub IsOpen : {A : Type 0} → System A → Move → Type 0
IsOpen y (Wait n j) = (n < y.count) × (suc j < y.within)
IsOpen y (Go n) = n < y.count

-- The move leads from the first to the second.
abbrev pub Moves : {A : Type 0} → System A → Move → A → A → Type 0
Moves y (Wait n j) s t = y.Silent s t
Moves y (Go n) s t = y.Step n s t

-- The move from the first to the second faults so.
abbrev pub MoveFaults : {A : Type 0} → System A → Move → A → A → Fault → Type 0
MoveFaults y (Wait n j) s t f = y.FaultSilent s t f
MoveFaults y (Go n) s t f = y.FaultStep n s t f

-- What the line shows, if it is the step of a line, agrees with the second.
abbrev pub MoveSeen : {A : Type 0} → System A → Move → A → A → Type 0
MoveSeen y (Wait n j) s t = Unit {0}
MoveSeen y (Go n) s t = y.Seen n s t

-- Nothing that the move starts from faults, on a second that agrees with what a line shows.
abbrev pub IsClear : {A : Type 0} → System A → Move → Type 0
IsClear {A} y move = (m k : ℕ) (s t : A) (f : Fault) → IsSource move m k → Layer y m k s → MoveFaults y move s t f → MoveSeen y move s t → ⊥

-- The entry of a layer that a node is.
abbrev pub entry_of : {A : Type 0} → Node A → Entry A
entry_of x = record { line = x.line; silents = x.silents; member = x.entry }

-- The entries that the nodes are.
abbrev pub entries : {A : Type 0} → List (Node A) → List (Entry A)
entries xs = map entry_of xs

-- This as a member of layer (n, j).
abbrev pub entry : {A : Type 0} → ℕ → ℕ → A → Entry A
entry n j s = record { line = n; silents = j; member = s }

-- These as members of layer (n, j).
abbrev pub at_layer : {A : Type 0} → ℕ → ℕ → List A → List (Entry A)
at_layer n j xs = map (entry n j) xs

-- The nodes from an index on are those that the move starts from.
abbrev pub IsRange : {A : Type 0} → Move → List (Node A) → ℕ → Type 0
IsRange {A} move nodes from = (i : ℕ) (x : Node A) → slice_get nodes i ≡ Some x → (from ≤ i ↔ IsSource move x.line x.silents)

-- The node of that index is one that the move starts from.
abbrev pub IsSourceAt : {A : Type 0} → Move → List (Node A) → ℕ → Type 0
IsSourceAt {A} move nodes i = (x : Node A) → slice_get nodes i ≡ Some x → IsSource move x.line x.silents

-- What was found is one step from the node that it names.
pub record Comes {A : Type 0} (y : System A) (move : Move) (nodes : List (Node A)) (f : Found A) : Type 0 where
  pub node : Node A
  pub at : slice_get nodes f.1 ≡ Some node
  pub source : IsSource move node.line node.silents
  pub step : Moves y move node.entry f.0

-- Members of the layer that the move leads to, each once.
pub record Part {A : Type 0} (y : System A) (move : Move) (nodes : List (Node A)) (layer : List (Found A)) : Type 0 where
  pub distinct : IsDistinct (members_of layer)
  pub comes : (f : Found A) → Contains layer f → Comes y move nodes f

-- The steps of the nodes from one index to another are in the layer, and none of them faults.
pub record Growing {A : Type 0} (y : System A) (move : Move) (nodes : List (Node A)) (from i : ℕ) (layer : List (Found A)) : Type 0 where
  pub part : Part y move nodes layer
  pub all : (k : ℕ) (x : Node A) (t : A) → slice_get nodes k ≡ Some x → from ≤ k → k < i → Moves y move x.entry t → Contains (members_of layer) t
  pub clear : (k : ℕ) (x : Node A) (t : A) (f : Fault) → slice_get nodes k ≡ Some x → from ≤ k → k < i → MoveFaults y move x.entry t f → MoveSeen y move x.entry t → ⊥
  pub limit : length layer ≤ y.limit
  pub total : length nodes + length layer ≤ y.total

-- The layer that the move leads to, whole.
pub record Grown {A : Type 0} (y : System A) (move : Move) (nodes : List (Node A)) (layer : List (Found A)) : Type 0 where
  pub list : IsList (Layer y (line_after move) (silents_after move)) (members_of layer)
  pub comes : (f : Found A) → Contains layer f → Comes y move nodes f
  pub clear : IsClear y move
  pub limit : length layer ≤ y.limit
  pub total : length nodes + length layer ≤ y.total
