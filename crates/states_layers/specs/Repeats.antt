-- Entries that come more than once in the layers of a line, and what is kept of them.
use Rattle.std.specs.Prelude.{◌≡◌, ◌⊎◌, ℕ, ◌<◌, ◌≤◌, Bool, List, Vec, Some, true, map, slice_get, Contains}
use Rattle.std.specs.Borrow.{Bor}
use Rattle.std.specs.Map.{lookup}
use Rattle.std.specs.Option.{IfSome}
use Rattle.std.specs.declared.alloc.Global.{Global}
use Rattle.states_core.specs.Sets.{IsList}
use Rattle.states_core.specs.System.{System}
use Rattle.states_core.specs.declared.fault.Fault.{Fault}
use Rattle.states_layers.specs.declared.node.Node.{Node}

-- What references lend.
abbrev pub lent : {A : Type 0} → List (Bor A) → List A
lent rs = map (λ r. r.now) rs

-- What is called repeated was there, and nothing but s was added.
pub record Notes {A : Type 0} (old : List A) (s : A) (repeated : Bool) (now : List A) : Type 0 where
  pub there : repeated ≡ true → Contains old s
  pub new : (t : A) → Contains now t → Contains old t ⊎ (t ≡ s)

-- Each of these is the entry of a node from one index to another.
pub record AreGone {A : Type 0} (nodes : List (Node A)) (from i : ℕ) (gone : List A) : Type 0 where
  pub at : (s : A) → Contains gone s → (k : ℕ) × (x : Node A) × (slice_get nodes k ≡ Some x) × (from ≤ k) × (k < i) × (x.entry ≡ s)

-- These are all that a silent step leads to from s, each once, and none of these steps faults.
pub record AreSilent {A : Type 0} (y : System A) (s : A) (listed : List A) : Type 0 where
  pub list : IsList (y.Silent s) listed
  pub clear : (t : A) (f : Fault) → y.FaultSilent s t f → ⊥

-- What is kept of an entry is all that a silent step leads to from it.
pub record AllKnown {A : Type 0} (y : System A) (same : A → A → Bool) (known : List (A × Vec A Global)) : Type 0 where
  pub at : (s : A) → IfSome (lookup (same s) known) (λ list. AreSilent y s list.items)

-- These are kept of s.
abbrev pub IsKept : {A : Type 0} → (A → A → Bool) → List (A × Vec A Global) → A → List A → Type 0
IsKept {A} same known s listed = (list : Vec A Global) × (lookup (same s) known ≡ Some list) × (listed ≡ list.items)

-- What is kept of an entry was kept of it before, or it is s, of which these are kept now.
pub record Keeps {A : Type 0} (same : A → A → Bool) (old : List (A × Vec A Global)) (s : A) (listed : List A) (now : List (A × Vec A Global)) : Type 0 where
  pub at : (t : A) → (lookup (same t) now ≡ lookup (same t) old) ⊎ ((t ≡ s) × IsKept same now t listed)
