-- How the text of a module is read: a module that it spells, with notes that tell of it beside its units, or why it spells none. `number` is
-- the number of its file, which each place in it carries. Where a text spells nothing, that is not because a file was not read. And whether a module
-- that is read for an instance is refused where it has an instance itself: else that is passed over.
use Rattle.std.specs.Prelude.{ℕ, Bool, List}
use Rattle.base_core.specs.declared.reading.ReadFault.{ReadFault}
use Rattle.reading_trees.specs.declared.module.Module.{Module}
use Rattle.reading_modules.specs.declared.fault.LoadWhy.{LoadWhy}
use Rattle.reading_modules.specs.declared.fault.LoadWhy.TheVariants.{Read}

pub record Reading (N : Type 0) : Type 1 where
  pub Spells : ℕ → List ℕ → Module → List N → Type 0
  pub Misspells : ℕ → List ℕ → LoadWhy → Type 0
  pub of_text : (number : ℕ) (bytes file : List ℕ) (fault : ReadFault) → Misspells number bytes (Read file fault) → ⊥
  pub refuses_nested : Bool
