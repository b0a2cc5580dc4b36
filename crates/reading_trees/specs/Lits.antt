-- A value of a configuration as a tree: a number, a string, a truth value, a model value, or a set with
-- the list of its members as they are written.
use Rattle.std.specs.Prelude.{ℕ, suc, max, ℤ, List, [], ◌∷◌, Bool}

mutual
  pub data Lit : Type 0 where
    number : ℤ → Lit
    str : List ℕ → Lit
    truth : Bool → Lit
    model : List ℕ → Lit
    set : Lits → Lit

  pub data Lits : Type 0 where
    no_lits : Lits
    more_lits : Lit → Lits → Lits

-- the members of a set, as a list
abbrev pub list_of : Lits → List Lit
list_of no_lits = []
list_of (more_lits l ls) = l ∷ list_of ls

-- the members that are such a list
abbrev pub lits_of : List Lit → Lits
lits_of [] = no_lits
lits_of (l ∷ ls) = more_lits l (lits_of ls)

-- how deep sets stand inside each other
abbrev mutual
  pub depth : Lit → ℕ
  depth (number z) = 0
  depth (str s) = 0
  depth (truth b) = 0
  depth (model s) = 0
  depth (set ls) = suc (depth_of ls)

  pub depth_of : Lits → ℕ
  depth_of no_lits = 0
  depth_of (more_lits l ls) = max (depth l) (depth_of ls)
