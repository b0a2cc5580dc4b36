-- Which value a configuration spells (this project's profile): a number, a string, a truth value or a name of a model value is that value, and
-- members in braces are the set of their values.
use Rattle.std.specs.Prelude.{◌≡◌, List, [], ◌∷◌, Option, Some, None}
use Rattle.values_core.specs.Data.{Val}
use Rattle.values_core.specs.Data as val
use Rattle.values_core.specs.Sets.{IsSetOf}
use Rattle.reading_trees.specs.Lits.{Lit, Lits, number, str, truth, model, set, no_lits, more_lits}

abbrev mutual
  pub IsValueOf : Lit → Val → Type 0
  IsValueOf (number z) v = v ≡ val.integer z
  IsValueOf (str s) v = v ≡ val.string s
  IsValueOf (truth b) v = v ≡ val.truth b
  IsValueOf (model n) v = v ≡ val.model n
  IsValueOf (set ls) v = (vs : List Val) × AreValuesOf ls vs × IsSetOf vs v

  pub AreValuesOf : Lits → List Val → Type 0
  AreValuesOf no_lits [] = Unit {0}
  AreValuesOf (more_lits l ls) (v ∷ vs) = IsValueOf l v × AreValuesOf ls vs
  AreValuesOf _ _ = ⊥

-- what is found where something that meets P is sought: it, and none where there is none
abbrev pub Finds : {A : Type 0} → (A → Type 0) → Option A → Type 0
Finds P None = (v : _) → ¬ P v
Finds P (Some v) = P v

-- a literal spells one value at most
abbrev pub SpellsOneValue : Type 0
SpellsOneValue = (l : Lit) (v w : Val) → IsValueOf l v → IsValueOf l w → v ≡ w
