-- What a configuration writes is within the limits of values: texts are UTF-8, numbers have 64 bits, sets stand at most 32 inside each other, and each is
-- written with at most 100,000 members. (So it is since a text has at most 200,000 tokens, and each member takes a further one.)
use Rattle.std.specs.Prelude.{◌≡◌, ◌≤◌, ℕ, List, length, Some, Ok, IsUtf8, FitsSigned, slice_get}
use Rattle.std.specs.Int.{w64}
use Rattle.reading_trees.specs.declared.config.Config.{Config}
use Rattle.reading_trees.specs.declared.config.Given.{Given}
use Rattle.reading_trees.specs.declared.config.Given.TheVariants.{Constant, Replaced}
use Rattle.reading_trees.specs.declared.config.GivenAt.{GivenAt}
use Rattle.reading_trees.specs.Lits.{Lit, Lits, number, str, truth, model, set, no_lits, more_lits, list_of, depth}
use Rattle.reading_trees.specs.Literals.{lit_of}
use Rattle.reading_configuration.specs.Reads.{Reads}

abbrev mutual
  pub IsWithin : Lit → Type 0
  IsWithin (number z) = FitsSigned w64 z
  IsWithin (str s) = IsUtf8 s
  IsWithin (truth b) = Unit {0}
  IsWithin (model n) = IsUtf8 n
  IsWithin (set ls) = (length (list_of ls) ≤ 100000) × AreWithin ls

  pub AreWithin : Lits → Type 0
  AreWithin no_lits = Unit {0}
  AreWithin (more_lits l ls) = IsWithin l × AreWithin ls

abbrev pub IsWithinLimits : Given → Type 0
IsWithinLimits (Constant l) = IsWithin (lit_of l) × (depth (lit_of l) ≤ 32)
IsWithinLimits (Replaced name at) = Unit {0}

-- what an accepted text gives
abbrev pub GivensAreWithinLimits : Type 0
GivensAreWithinLimits =
    (file : ℕ) (name text : List ℕ) (c : Config) → Reads file name text (Ok c) → (k : ℕ) (g : GivenAt) → slice_get c.givens k ≡ Some g → IsWithinLimits g.given
