-- What of a program is passed over because no step needs it.
--
-- 1. A name is lost where it means nothing, and where a piece that was not read declares it.
-- 2. A definition is bad where it has a lost name or is named by one that was not read, and where it uses a bad one.
-- 3. Needed is what some names define, and what that uses, directly or through others. They are looked up as those behind INIT and NEXT are: without what
--    the configuration puts in their place.
-- 4. Definitions go, and with them the assumptions that have a lost name or use one that goes, and each RECURSIVE behind which such a name stands
--    (`Without`).
-- 5. Where one of those names was not read, or something needed is bad, nothing can be pruned. Else the bad definitions go (`Pruned`). Or all go that are
--    not needed (`Alone`).
use Rattle.std.specs.Prelude.{◌≡◌, ◌⊎◌, ℕ, ◌+◌, ◌<◌, true, false, List, [], ◌∷◌, length, None, Some, Contains, slice_get}
use Rattle.reading_trees.specs.declared.config.Config.{Config}
use Rattle.reading_trees.specs.declared.expr.Definition.{Definition}
use Rattle.reading_trees.specs.declared.module.DeclaredOperator.{DeclaredOperator}
use Rattle.reading_trees.specs.declared.module.Program.{Program}
use Rattle.reading_trees.specs.declared.module.Unit.{Unit as ModuleUnit}
use Rattle.reading_trees.specs.declared.module.Unit.TheVariants.{Variables, Constants, Recursive, Define, Instance, Assume, Passed}
use Rattle.reading_trees.specs.Trees.{Tree}
use Rattle.names_scopes.specs.Mentions.{is_one_of, mentions}
use Rattle.names_program.specs.InUnits.{definitions_in}
use Rattle.names_program.specs.Names.{by_index, definition_index, program_meaning}
use Rattle.names_program.specs.Uses.{MeansDefinition, UsesDefinition}

-- ---- which definitions are bad, and which are needed

-- the name is among those that pieces declare which were not read, or it means nothing
abbrev pub IsLost : Program → Config → List (List ℕ) → List ℕ → Type 0
IsLost p c unread n = (is_one_of n unread ≡ true) ⊎ (program_meaning p c [] by_index n ≡ None)

-- a lost name is free in the text of a definition, and none of its parameters
pub record HasLost (p : Program) (c : Config) (unread : List (List ℕ)) (d : Definition) : Type 0 where
  pub name : List ℕ
  pub mentioned : mentions name d.body ≡ true
  pub no_parameter : is_one_of name d.params ≡ false
  pub lost : IsLost p c unread name

-- the definition has a lost name in its text, or its own is one of those that were not read
abbrev pub IsLacking : Program → Config → List (List ℕ) → Definition → Type 0
IsLacking p c unread d = (is_one_of d.name unread ≡ true) ⊎ HasLost p c unread d

pub data IsBad (p : Program) (c : Config) (unread : List (List ℕ)) : ℕ → Type 0 where
  lacks : (i : ℕ) (d : Definition) → slice_get (definitions_in p.units) i ≡ Some d → IsLacking p c unread d → IsBad p c unread i
  uses_bad : (i j : ℕ) → UsesDefinition p c i j → IsBad p c unread j → IsBad p c unread i

pub data IsNeeded (p : Program) (c : Config) (roots : List (List ℕ)) : ℕ → Type 0 where
  is_root : (n : List ℕ) (i : ℕ) → Contains roots n → definition_index p n ≡ Some i → IsNeeded p c roots i
  is_used : (i j : ℕ) → IsNeeded p c roots i → UsesDefinition p c i j → IsNeeded p c roots j

-- a name that is asked for was not read, or something that is needed is bad
abbrev pub NeedsBad : Program → Config → List (List ℕ) → List (List ℕ) → Type 0
NeedsBad p c unread roots = ((n : List ℕ) × Contains roots n × (is_one_of n unread ≡ true)) ⊎ ((i : ℕ) × IsNeeded p c roots i × IsBad p c unread i)

-- ---- a program without some definitions

-- what is assumed has a lost name, or uses a definition that goes
pub data LeansOn (p : Program) (c : Config) (unread : List (List ℕ)) (Goes : ℕ → Type 0) (e : Tree) : Type 0 where
  has_lost : (n : List ℕ) → mentions n e ≡ true → IsLost p c unread n → LeansOn p c unread Goes e
  has_gone : (n : List ℕ) (i : ℕ) → mentions n e ≡ true → MeansDefinition p c n i → Goes i → LeansOn p c unread Goes e

-- one of the declared operators has a lost name, or its definition goes
pub data DeclaresGone (p : Program) (c : Config) (unread : List (List ℕ)) (Goes : ℕ → Type 0) (rs : List DeclaredOperator) : Type 0 where
  declares_lost : (r : DeclaredOperator) → Contains rs r → IsLost p c unread r.name → DeclaresGone p c unread Goes rs
  declares_gone : (r : DeclaredOperator) (i : ℕ) → Contains rs r → MeansDefinition p c r.name i → Goes i → DeclaresGone p c unread Goes rs

-- the unit goes with those definitions, where one would have this index
abbrev pub GoesWith : Program → Config → List (List ℕ) → (ℕ → Type 0) → ℕ → ModuleUnit → Type 0
GoesWith p c unread Goes i (Variables ds) = ⊥
GoesWith p c unread Goes i (Constants ds) = ⊥
GoesWith p c unread Goes i (Define d) = Goes i
GoesWith p c unread Goes i (Assume e) = LeansOn p c unread Goes e
GoesWith p c unread Goes i (Recursive rs) = DeclaresGone p c unread Goes rs
GoesWith p c unread Goes i (Instance m) = ⊥
GoesWith p c unread Goes i Passed = ⊥

-- the index of a definition behind the unit
abbrev pub behind : ℕ → ModuleUnit → ℕ
behind i (Variables ds) = i
behind i (Constants ds) = i
behind i (Define d) = i + 1
behind i (Assume e) = i
behind i (Recursive rs) = i
behind i (Instance m) = i
behind i Passed = i

-- of these units, before which there are so many definitions, those that are left and those that go, in their order
pub data Parted (Goes : ℕ → ModuleUnit → Type 0) : ℕ → List ModuleUnit → List ModuleUnit → List ModuleUnit → Type 0 where
  all_parted : (i : ℕ) → Parted Goes i [] [] []
  is_left : (i : ℕ) (u : ModuleUnit) (units left gone : List ModuleUnit) → ¬ Goes i u → Parted Goes (behind i u) units left gone → Parted Goes i (u ∷ units) (u ∷ left) gone
  is_gone : (i : ℕ) (u : ModuleUnit) (units left gone : List ModuleUnit) → Goes i u → Parted Goes (behind i u) units left gone → Parted Goes i (u ∷ units) left (u ∷ gone)

-- the program that is left without those definitions, and the units that are passed over
pub record Without (p : Program) (c : Config) (unread : List (List ℕ)) (Goes : ℕ → Type 0) (q : Program) (over : List ModuleUnit) : Type 0 where
  pub files : q.files ≡ p.files
  pub parted : Parted (GoesWith p c unread Goes) 0 p.units q.units over
  pub standard : q.standard ≡ p.standard

-- ---- what is passed over

-- nothing needed is bad, and the bad definitions go
pub record Pruned (p : Program) (c : Config) (unread roots : List (List ℕ)) (q : Program) (over : List ModuleUnit) : Type 0 where
  pub good : ¬ NeedsBad p c unread roots
  pub without : Without p c unread (IsBad p c unread) q over

-- a definition of the program that is not needed
abbrev pub IsOther : Program → Config → List (List ℕ) → ℕ → Type 0
IsOther p c roots i = (i < length (definitions_in p.units)) × ¬ IsNeeded p c roots i

-- what is needed is left alone
abbrev pub Alone : Program → Config → List (List ℕ) → List (List ℕ) → Program → List ModuleUnit → Type 0
Alone p c unread roots q over = Without p c unread (IsOther p c roots) q over

-- ---- which of the names that were not read are needed

-- the name is one of those that are asked for, or free in a definition that is needed
pub data IsAskedFor (p : Program) (c : Config) (roots : List (List ℕ)) (n : List ℕ) : Type 0 where
  by_the_run : Contains roots n → IsAskedFor p c roots n
  by_a_definition : (i : ℕ) (d : Definition) → IsNeeded p c roots i → slice_get (definitions_in p.units) i ≡ Some d → mentions n d.body ≡ true → is_one_of n d.params ≡ false
      → IsAskedFor p c roots n

-- the name of that index is the first of the unread ones that is asked for
pub record IsFirstAsked (p : Program) (c : Config) (unread roots : List (List ℕ)) (k : ℕ) : Type 0 where
  pub name : List ℕ
  pub stands : slice_get unread k ≡ Some name
  pub asked : IsAskedFor p c roots name
  pub none_before : (j : ℕ) (n : List ℕ) → j < k → slice_get unread j ≡ Some n → ¬ IsAskedFor p c roots n

-- none of the unread names is asked for
abbrev pub NoneIsAsked : Program → Config → List (List ℕ) → List (List ℕ) → Type 0
NoneIsAsked p c unread roots = (j : ℕ) (n : List ℕ) → slice_get unread j ≡ Some n → ¬ IsAskedFor p c roots n
