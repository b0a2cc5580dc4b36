-- The values of constants: what the configuration spells for each.
use Rattle.std.specs.Prelude.{◌≡◌, ◌<◌, ℕ, List, length, Option, Some, None, slice_get}
use Rattle.values_core.specs.Data.{Val}
use Rattle.reading_trees.specs.Literals.{lit_of}
use Rattle.reading_trees.specs.declared.config.Config.{Config}
use Rattle.reading_trees.specs.declared.config.Given.{Given}
use Rattle.reading_trees.specs.declared.config.Given.TheVariants.{Constant}
use Rattle.reading_trees.specs.declared.config.GivenAt.{GivenAt}
use Rattle.reading_trees.specs.declared.module.Declared.{Declared}
use Rattle.reading_trees.specs.declared.module.Program.{Program}
use Rattle.names_literals.specs.Spells.{IsValueOf}
use Rattle.names_program.specs.InUnits.{constants_in}
use Rattle.names_program.specs.Names.{given_for}

-- the value is that of the literal, where one is given
abbrev pub IsGiven : Option Given → Val → Type 0
IsGiven (Some (Constant l)) v = IsValueOf (lit_of l) v
IsGiven o v = Unit {0}

-- the values are those of the constants, in the order of their declaration; what a constant without one has for a value says nothing
pub record AreValues (p : Program) (c : Config) (values : List Val) : Type 0 where
  pub as_many : length values ≡ length (constants_in p.units)
  pub given : (k : ℕ) (d : Declared) (v : Val) → slice_get (constants_in p.units) k ≡ Some d → slice_get values k ≡ Some v → IsGiven (given_for c.givens d.name) v

-- the configuration gives nothing for that constant
pub record HasNoValue (p : Program) (c : Config) (k : ℕ) (d : Declared) : Type 0 where
  pub stands : slice_get (constants_in p.units) k ≡ Some d
  pub nothing : given_for c.givens d.name ≡ None

-- the first constant for which it gives nothing
pub record IsFirstWithoutValue (p : Program) (c : Config) (d : Declared) : Type 0 where
  pub index : ℕ
  pub is : HasNoValue p c index d
  pub none_before : (j : ℕ) (e : Declared) → j < index → ¬ HasNoValue p c j e

abbrev pub HasAllValues : Program → Config → Type 0
HasAllValues p c = (k : ℕ) (d : Declared) → ¬ HasNoValue p c k d

-- what is given is a value within the limits of values, if it is one
abbrev pub IsSpelled : Option Given → Type 0
IsSpelled (Some (Constant l)) = (v : Val) × IsValueOf (lit_of l) v
IsSpelled o = Unit {0}

-- each value that the configuration writes is one within the limits of values
abbrev pub AreSpelled : List GivenAt → Type 0
AreSpelled gs = (k : ℕ) (g : GivenAt) → slice_get gs k ≡ Some g → IsSpelled (Some g.given)
