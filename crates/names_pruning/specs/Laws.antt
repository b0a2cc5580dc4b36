-- The laws of passing over: what is needed is the same before and after, body for body, and there is one program that is left.
use Rattle.std.specs.Prelude.{◌≡◌, ◌⊎◌, ℕ, true, false, List, [], Option, Some, Contains, slice_get}
use Rattle.reading_trees.specs.declared.config.Config.{Config}
use Rattle.reading_trees.specs.declared.expr.Definition.{Definition}
use Rattle.reading_trees.specs.declared.module.DeclaredOperator.{DeclaredOperator}
use Rattle.reading_trees.specs.declared.module.Program.{Program}
use Rattle.reading_trees.specs.declared.module.Unit.{Unit as ModuleUnit}
use Rattle.reading_trees.specs.declared.module.Unit.TheVariants.{Recursive}
use Rattle.reading_trees.specs.Trees.{Tree}
use Rattle.names_scopes.specs.Mentions.{is_one_of, mentions}
use Rattle.names_program.specs.InUnits.{assumptions_in, constants_in, definitions_in, variables_in}
use Rattle.names_pruning.specs.Needed.{needed_names}
use Rattle.names_pruning.specs.Pruning.{Alone, IsAskedFor, IsLacking, IsLost, IsNeeded, NeedsBad, Pruned}
use Rattle.names_pruning.specs.Senses.{definition_named, sense}

-- the program that is left, in one of the two ways of passing over
abbrev pub IsLeft : Program → Config → List (List ℕ) → List (List ℕ) → Program → List ModuleUnit → Type 0
IsLeft p c unread roots q over = Pruned p c unread roots q over ⊎ Alone p c unread roots q over

-- ---- what is needed

-- a needed definition is left as it is
abbrev pub NeededStays : Type 0
NeededStays = (p : Program) (c : Config) (unread roots : List (List ℕ)) (q : Program) (over : List ModuleUnit) → IsLeft p c unread roots q over
    → (i : ℕ) (d : Definition) → IsNeeded p c roots i → slice_get (definitions_in p.units) i ≡ Some d → Contains (definitions_in q.units) d

-- Each name that is free in a needed definition means what it meant. Needed is here what the configuration and the steps without a line name.
abbrev pub MeaningsStay : Type 0
MeaningsStay = (p : Program) (c : Config) (silent : Option (List ℕ)) (unread : List (List ℕ)) (q : Program) (over : List ModuleUnit)
    → IsLeft p c unread (needed_names c silent) q over → (i : ℕ) (d : Definition) (n : List ℕ) → IsNeeded p c (needed_names c silent) i
    → slice_get (definitions_in p.units) i ≡ Some d → mentions n d.body ≡ true → is_one_of n d.params ≡ false → sense q c n ≡ sense p c n

-- and each of those names has the definition that it had
abbrev pub RootsStay : Type 0
RootsStay = (p : Program) (c : Config) (silent : Option (List ℕ)) (unread : List (List ℕ)) (q : Program) (over : List ModuleUnit)
    → IsLeft p c unread (needed_names c silent) q over → (n : List ℕ) → Contains (needed_names c silent) n → definition_named q n ≡ definition_named p n

-- variables and constants stay as they are
abbrev pub DeclaredStays : Type 0
DeclaredStays = (p : Program) (c : Config) (unread roots : List (List ℕ)) (q : Program) (over : List ModuleUnit) → IsLeft p c unread roots q over
    → (variables_in q.units ≡ variables_in p.units) × (constants_in q.units ≡ constants_in p.units)

-- ---- what is left, and what goes

-- each unit that is left was there
abbrev pub NothingIsMade : Type 0
NothingIsMade = (p : Program) (c : Config) (unread roots : List (List ℕ)) (q : Program) (over : List ModuleUnit) → IsLeft p c unread roots q over
    → (u : ModuleUnit) → Contains q.units u → Contains p.units u

-- a definition that is passed over was there, and is not needed
abbrev pub OverIsNotNeeded : Type 0
OverIsNotNeeded = (p : Program) (c : Config) (unread roots : List (List ℕ)) (q : Program) (over : List ModuleUnit) → IsLeft p c unread roots q over
    → (d : Definition) → Contains (definitions_in over) d → (i : ℕ) × (slice_get (definitions_in p.units) i ≡ Some d) × ¬ IsNeeded p c roots i

-- each way leaves one program, and passes over one list of units
abbrev pub OnePruned : Type 0
OnePruned = (p : Program) (c : Config) (unread roots : List (List ℕ)) (q r : Program) (over others : List ModuleUnit)
    → Pruned p c unread roots q over → Pruned p c unread roots r others → (q ≡ r) × (over ≡ others)

abbrev pub OneAlone : Type 0
OneAlone = (p : Program) (c : Config) (unread roots : List (List ℕ)) (q r : Program) (over others : List ModuleUnit)
    → Alone p c unread roots q over → Alone p c unread roots r others → (q ≡ r) × (over ≡ others)

-- no definition lacks something, and no lost name is free in what is assumed, or declared by RECURSIVE
abbrev pub NothingIsLost : Program → Config → List (List ℕ) → Type 0
NothingIsLost p c unread =
    ((i : ℕ) (d : Definition) → slice_get (definitions_in p.units) i ≡ Some d → ¬ IsLacking p c unread d)
    × ((e : Tree) (n : List ℕ) → Contains (assumptions_in p.units) e → mentions n e ≡ true → ¬ IsLost p c unread n)
    × ((rs : List DeclaredOperator) (r : DeclaredOperator) → Contains p.units (Recursive rs) → Contains rs r → ¬ IsLost p c unread r.name)

-- where nothing is lost the program stays as it is
abbrev pub FineStays : Type 0
FineStays = (p : Program) (c : Config) (unread roots : List (List ℕ)) (q : Program) (over : List ModuleUnit) → NothingIsLost p c unread
    → Pruned p c unread roots q over → (q ≡ p) × (over ≡ [])

-- where a name that was not read is asked for, something needed is bad
abbrev pub AskedIsBad : Type 0
AskedIsBad = (p : Program) (c : Config) (unread roots : List (List ℕ)) (n : List ℕ) → is_one_of n unread ≡ true → IsAskedFor p c roots n → NeedsBad p c unread roots
