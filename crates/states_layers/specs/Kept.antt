-- The layers that are whole, one behind another.
use Rattle.std.specs.Prelude.{◌≡◌, ◌⊎◌, ℕ, suc, ◌-◌, ◌<◌, ◌≤◌, List, ◌++◌, length, map, take, reverse, Some, slice_get, Contains}
use Rattle.states_core.specs.System.{System}
use Rattle.states_core.specs.Sets.{IsList, HasAtMost, HasSome}
use Rattle.states_core.specs.Runs.{Run, Layer, Upto, IsUpto}
use Rattle.states_layers.specs.Found.{Found, members_of, IsDistinct}
use Rattle.states_core.specs.declared.fault.Fault.{Fault}
use Rattle.states_layers.specs.Moves.{IsSource, IsOpen, Moves, IsClear, IsRange, Grown, line_after, silents_after, entries}
use Rattle.states_layers.specs.declared.node.Node.{Node}
use Rattle.states_layers.specs.declared.node.Move.{Move}
use Rattle.states_layers.specs.declared.node.Move.TheVariants.{Wait, Go}
use Rattle.states_core.specs.declared.state.Mark.{Mark}
use Rattle.states_core.specs.declared.state.Mark.TheVariants.{Init, Silent, Line}
use Rattle.states_core.specs.declared.state.Shown.{Shown}

-- A member of layer (n, j), reached from the k-th node.
abbrev pub node : {A : Type 0} → ℕ → ℕ → A → ℕ → Node A
node n j s k = record { line = n; silents = j; entry = s; from = k }

-- What was found, as nodes of layer (n, j).
abbrev pub nodes_of : {A : Type 0} → ℕ → ℕ → List (Found A) → List (Node A)
nodes_of n j layer = map (λ f. node n j f.0 f.1) layer

-- The first members, as nodes. They come from none.
abbrev pub first_of : {A : Type 0} → List A → List (Node A)
first_of listed = map (λ s. node 0 0 s 0) listed

-- Nothing that the log does not rule out as the first faults.
abbrev pub IsInitClear : {A : Type 0} → System A → Type 0
IsInitClear {A} y = (t : A) (f : Fault) → y.FaultInit t f → y.InitSeen t → ⊥

-- A node is a first one, or one step from the node that it names.
pub data Linked {A : Type 0} (y : System A) (nodes : List (Node A)) : Node A → Type 0 where
  begins : (s : A) (k : ℕ) → y.Init s → y.InitSeen s → Linked y nodes (node 0 0 s k)
  moves : (x : Node A) (move : Move) (s : A) (k : ℕ) → slice_get nodes k ≡ Some x → IsSource move x.line x.silents → IsOpen y move
      → Moves y move x.entry s → Linked y nodes (node (line_after move) (silents_after move) s k)

-- Each node is so linked to one that stands before it.
abbrev pub AllLinked : {A : Type 0} → System A → List (Node A) → Type 0
AllLinked {A} y nodes = (i : ℕ) (x : Node A) → slice_get nodes i ≡ Some x → Linked y (take i nodes) x

-- How a node was reached, where `nodes` are those before it: as a first one, by a silent step, or by the step of the line that
-- leads to it from the node that it names.
pub record IsMark {A : Type 0} (y : System A) (nodes : List (Node A)) (x : Node A) (mark : Mark) : Type 0 where
  pub first : x.line ≡ 0 → x.silents ≡ 0 → mark ≡ Init
  pub silent : 0 < x.silents → mark ≡ Silent
  pub line : (n : ℕ) (z : Node A) → x.line ≡ suc n → x.silents ≡ 0 → slice_get nodes x.from ≡ Some z → mark ≡ Line (y.at n z.entry x.entry)

-- Each node is in its layer.
abbrev pub AllReached : {A : Type 0} → System A → List (Node A) → Type 0
AllReached {A} y nodes = (x : Node A) → Contains nodes x → Layer y x.line x.silents x.entry

-- The states are a run that ends in the last of the nodes.
abbrev pub EndsBehind : {A : Type 0} → System A → List (Node A) → List Shown → Type 0
EndsBehind {A} y nodes w = (x : Node A) → slice_get nodes (length nodes - 1) ≡ Some x → Run y x.line x.silents x.entry w

-- The move was made from all that it starts from, where the layers up to (n, j) are whole.
abbrev pub IsDone : {A : Type 0} → System A → ℕ → ℕ → Move → Type 0
IsDone y n j (Wait m k) = ((m < n) × (suc k < y.within)) ⊎ ((m ≡ n) × (k < j))
IsDone y n j (Go m) = m < n

-- The nodes are the entries of all layers up to (n, j), each once and linked; no move made on the way faults, no limit
-- is passed, and the largest of these layers has this many members.
pub record Kept {A : Type 0} (y : System A) (n j : ℕ) (nodes : List (Node A)) (widest : ℕ) : Type 0 where
  pub list : IsList (Upto y n j) (entries nodes)
  pub links : AllLinked y nodes
  pub init : IsInitClear y
  pub clear : (move : Move) → IsDone y n j move → IsClear y move
  pub sizes : (m k : ℕ) → IsUpto n j m k → HasAtMost (Layer y m k) widest
  pub reached : (m k : ℕ) × HasSome (Layer y m k) widest
  pub limit : widest ≤ y.limit
  pub total : length nodes ≤ y.total

-- The nodes from an index on are those after line n, at least one, the first of which no silent step leads to.
pub record Continues {A : Type 0} (n : ℕ) (nodes : List (Node A)) (start : ℕ) : Type 0 where
  pub line : IsRange (Go n) nodes start
  pub some : start < length nodes
  pub front : (x : Node A) → slice_get nodes start ≡ Some x → x.silents ≡ 0

-- The nodes from an index on are those after line n, and no silent step leads to any of them.
pub record Starts {A : Type 0} (n : ℕ) (nodes : List (Node A)) (start : ℕ) : Type 0 where
  pub whole : Continues n nodes start
  pub layer : IsRange (Wait n 0) nodes start

-- The new nodes stand behind the old, and are the layer that the move leads to.
pub record IsBehind {A : Type 0} (y : System A) (move : Move) (old now : List (Node A)) : Type 0 where
  pub added : List (Found A)
  pub is : now ≡ old ++ nodes_of (line_after move) (silents_after move) added
  pub list : IsList (Layer y (line_after move) (silents_after move)) (members_of added)

-- The layer that the move leads to, whole, is put behind the nodes.
pub record AddsLayer {A : Type 0} (y : System A) (move : Move) (old now : List (Node A)) : Type 0 where
  pub layer : List (Found A)
  pub is : now ≡ old ++ nodes_of (line_after move) (silents_after move) layer
  pub grown : Grown y move old layer

-- Put behind any run that ends in the i-th node, the states, which stand last first, make a run that ends in the last node.
abbrev pub IsBack : {A : Type 0} → System A → List (Node A) → ℕ → ℕ → List Shown → Type 0
IsBack {A} y nodes last i states = (x z : Node A) (w : List Shown) → slice_get nodes last ≡ Some x → slice_get nodes i ≡ Some z
    → Run y z.line z.silents z.entry w → Run y x.line x.silents x.entry (w ++ reverse states)

-- All layers of n lines are whole and nothing in them faults, and the step of line n leads nowhere. The nodes of n lines stand
-- from an index on.
pub record IsStuck {A : Type 0} (y : System A) (n : ℕ) (nodes : List (Node A)) (start : ℕ) : Type 0 where
  pub widest : ℕ
  pub kept : Kept y n (y.within - 1) nodes widest
  pub whole : Continues n nodes start
  pub clear : IsClear y (Go n)
  pub none : (s : A) → Layer y (suc n) 0 s → ⊥

-- The members that the nodes hold, each once.
pub record Gathers {A : Type 0} (nodes : List (Node A)) (members : List A) : Type 0 where
  pub distinct : IsDistinct members
  pub from_nodes : (s : A) → Contains members s → (x : Node A) × Contains nodes x × (x.entry ≡ s)
  pub all : (x : Node A) → Contains nodes x → Contains members x.entry
