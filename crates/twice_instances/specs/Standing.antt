-- What the names of a module mean, and what those that stand for them mean in a program with an instance of it.
use Rattle.std.specs.Prelude.{◌≡◌, ℕ, List, Option, Some, None}
use Rattle.values_core.specs.Data.{Val}
use Rattle.reading_trees.specs.Grammar.{qualified}
use Rattle.states_core.specs.declared.var_id.VarId.{VarId}
use Rattle.names_terms.specs.declared.ids.DefId.{DefId}
use Rattle.names_terms.specs.declared.standard.NamedSet.{NamedSet}
use Rattle.names_terms.specs.declared.standard.StandardOperator.{StandardOperator}
use Rattle.names_scopes.specs.declared.meant.Entry.{Entry}
use Rattle.names_scopes.specs.declared.meant.Meant.{Meant}
use Rattle.names_scopes.specs.declared.meant.Meant.TheVariants as meant
use Rattle.names_scopes.specs.declared.meant.Named.{Named}
use Rattle.names_scopes.specs.Scopes.{among, at_sign}
use Rattle.names_instances.specs.Made.{StandIns}

-- a name, or the one that stands for it
abbrev pub stand_in : List ℕ → Option (List ℕ) → List ℕ
stand_in n None = n
stand_in n (Some q) = q

-- what two names mean stands for each other: variables and definitions by relations that are told from outside, and all else where it is the same
pub data StandsFor (Stands Row : ℕ → ℕ → Type 0) : Meant → Meant → Type 0 where
  slot_stands : (i : ℕ) → StandsFor Stands Row (meant.Slot i) (meant.Slot i)
  variable_stands : (x y : VarId) → Stands x.0 y.0 → StandsFor Stands Row (meant.Variable x) (meant.Variable y)
  known_stands : (v : Val) → StandsFor Stands Row (meant.Known v) (meant.Known v)
  set_stands : (s : NamedSet) → StandsFor Stands Row (meant.Set s) (meant.Set s)
  standard_stands : (o : StandardOperator) → StandsFor Stands Row (meant.Standard o) (meant.Standard o)
  definition_stands : (k j : DefId) → Row k.0 j.0 → StandsFor Stands Row (meant.Definition k) (meant.Definition j)

-- The names of a module, and of a program with an instance of it, in which other names stand for those of the module.
pub record NamesStand (Stands Row : ℕ → ℕ → Type 0) (by : StandIns) (own others : List Entry) : Type 0 where
  -- what a name means in the module, and what the name that stands for it means in the program
  pub names : (n : List ℕ) (v w : Named) → among own n ≡ Some v → among others (stand_in n (by n)) ≡ Some w → StandsFor Stands Row v.meant w.meant
  -- what stands for a name is a name of an instance
  pub qualified : (n q : List ℕ) → by n ≡ Some q → (i m : List ℕ) × (q ≡ qualified i m)
  -- nothing of the module is named `@`
  pub no_at_sign : among own at_sign ≡ None
