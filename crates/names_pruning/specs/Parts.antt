-- For the prover: what private calls say, by the list of what names mean.
use Rattle.std.specs.Prelude.{◌≡◌, ◌⊎◌, ◌↔◌, ◌<◌, ℕ, Bool, true, false, ◌&&◌, ◌||◌, not, if◌then◌else◌, is_none, List, [], ◌∷◌, Contains, Option, None, Some, slice_get}
use Rattle.std.specs.List.{slice_index_or}
use Rattle.reading_trees.specs.declared.expr.Definition.{Definition}
use Rattle.reading_trees.specs.declared.module.DeclaredOperator.{DeclaredOperator}
use Rattle.reading_trees.specs.declared.module.Program.{Program}
use Rattle.reading_trees.specs.declared.module.Unit.{Unit as ModuleUnit}
use Rattle.reading_trees.specs.declared.module.Unit.TheVariants.{Variables, Constants, Recursive, Define, Instance, Assume, Passed}
use Rattle.reading_trees.specs.Trees.{Tree}
use Rattle.names_scopes.specs.declared.meant.Entry.{Entry}
use Rattle.names_scopes.specs.Mentions.{is_one_of, mentions}
use Rattle.names_scopes.specs.Scopes.{among}
use Rattle.names_program.specs.Names.{index_among, names_defined}
use Rattle.names_uses.specs.UsedNames.{number_in}
use Rattle.names_pruning.specs.Pruning.{behind}

abbrev pub is_lost : List Entry → List (List ℕ) → List ℕ → Bool
is_lost names unread n = is_one_of n unread || is_none (among names n)

-- a lost name that is no parameter
abbrev pub is_lost_in : List Entry → List (List ℕ) → List (List ℕ) → List ℕ → Bool
is_lost_in names unread params n = not (is_one_of n params) && is_lost names unread n

-- one is free in the tree
pub record LosesName (names : List Entry) (unread params : List (List ℕ)) (e : Tree) : Type 0 where
  pub name : List ℕ
  pub mentioned : mentions name e ≡ true
  pub lost : is_lost_in names unread params name ≡ true

abbrev pub Lacks : List Entry → List (List ℕ) → Definition → Type 0
Lacks names unread d = (is_one_of d.name unread ≡ true) ⊎ LosesName names unread d.params d.body

-- the definition of that index lacks something
pub record LacksAt (names : List Entry) (unread : List (List ℕ)) (definitions : List Definition) (i : ℕ) : Type 0 where
  pub definition : Definition
  pub stands : slice_get definitions i ≡ Some definition
  pub lacks : Lacks names unread definition

-- the definition of that index has one of these names
pub record IsNamedAt (definitions : List Definition) (roots : List (List ℕ)) (i : ℕ) : Type 0 where
  pub name : List ℕ
  pub asked : Contains roots name
  pub defines : index_among (names_defined definitions) name ≡ Some i

-- whether there is an index, and true stands there
abbrev pub is_set_at : List Bool → Option ℕ → Bool
is_set_at flags None = false
is_set_at flags (Some i) = slice_index_or flags i false

-- a lost name, or one of a definition that is bad
abbrev pub is_bad_name : List Entry → List (List ℕ) → List Bool → List ℕ → Bool
is_bad_name names unread bad n = is_lost names unread n || is_set_at bad (number_in (among names n))

-- one is free in the tree
pub record HasBadName (names : List Entry) (unread : List (List ℕ)) (bad : List Bool) (e : Tree) : Type 0 where
  pub name : List ℕ
  pub mentioned : mentions name e ≡ true
  pub is_bad : is_bad_name names unread bad name ≡ true

-- the name of a declared operator is one
abbrev pub is_bad_operator : List Entry → List (List ℕ) → List Bool → DeclaredOperator → Bool
is_bad_operator names unread bad r = is_bad_name names unread bad r.name

-- and one of these operators has such a name
pub record DeclaresBad (names : List Entry) (unread : List (List ℕ)) (bad : List Bool) (rs : List DeclaredOperator) : Type 0 where
  pub operator : DeclaredOperator
  pub declared : Contains rs operator
  pub is_bad : is_bad_operator names unread bad operator ≡ true

-- the unit is to be passed over, where a definition would have this index
abbrev pub IsOver : List Entry → List (List ℕ) → List Bool → ℕ → ModuleUnit → Type 0
IsOver names unread bad i (Variables ds) = ⊥
IsOver names unread bad i (Constants ds) = ⊥
IsOver names unread bad i (Define d) = is_set_at bad (Some i) ≡ true
IsOver names unread bad i (Assume e) = HasBadName names unread bad e
IsOver names unread bad i (Recursive rs) = DeclaresBad names unread bad rs
IsOver names unread bad i (Instance m) = ⊥
IsOver names unread bad i Passed = ⊥

-- for each of these units, before which there are so many definitions, whether it goes
abbrev pub AreGone : (ℕ → ModuleUnit → Type 0) → ℕ → List ModuleUnit → List Bool → Type 0
AreGone Goes i [] [] = Unit {0}
AreGone Goes i [] (b ∷ flags) = ⊥
AreGone Goes i (u ∷ units) [] = ⊥
AreGone Goes i (u ∷ units) (b ∷ flags) = ((b ≡ true) ↔ Goes i u) × AreGone Goes (behind i u) units flags

-- the units that are left
abbrev pub left_of : List Bool → List ModuleUnit → List ModuleUnit
left_of flags [] = []
left_of [] (u ∷ units) = u ∷ left_of [] units
left_of (b ∷ flags) (u ∷ units) = if b then left_of flags units else u ∷ left_of flags units

-- and those that are not
abbrev pub gone_of : List Bool → List ModuleUnit → List ModuleUnit
gone_of flags [] = []
gone_of [] (u ∷ units) = gone_of [] units
gone_of (b ∷ flags) (u ∷ units) = if b then u ∷ gone_of flags units else gone_of flags units

-- the program without the definitions for which true stands there
pub record IsWithout (names : List Entry) (unread : List (List ℕ)) (flags : List Bool) (p q : Program) (gone : List ModuleUnit) : Type 0 where
  pub over : List Bool
  pub are : AreGone (IsOver names unread flags) 0 p.units over
  pub files : q.files ≡ p.files
  pub left : q.units ≡ left_of over p.units
  pub passed : gone ≡ gone_of over p.units
  pub standard : q.standard ≡ p.standard

-- the name is free in the definition, and none of its parameters
abbrev pub asks_for : Definition → List ℕ → Bool
asks_for d n = not (is_one_of n d.params) && mentions n d.body

-- and the definition of that index is needed
abbrev pub asks_at : List Bool → ℕ → Definition → List ℕ → Bool
asks_at needed i d n = is_set_at needed (Some i) && asks_for d n

-- a definition that is needed asks for the name
pub record AsksSome (definitions : List Definition) (needed : List Bool) (n : List ℕ) : Type 0 where
  pub index : ℕ
  pub definition : Definition
  pub stands : slice_get definitions index ≡ Some definition
  pub asks : asks_at needed index definition n ≡ true

abbrev pub IsAskedBy : List Definition → List Bool → List (List ℕ) → List ℕ → Type 0
IsAskedBy definitions needed roots n = (is_one_of n roots ≡ true) ⊎ AsksSome definitions needed n

-- the name of that index is the first of these that is asked for
pub record IsFirstBy (definitions : List Definition) (needed : List Bool) (roots unread : List (List ℕ)) (k : ℕ) : Type 0 where
  pub name : List ℕ
  pub stands : slice_get unread k ≡ Some name
  pub asked : IsAskedBy definitions needed roots name
  pub none_before : (j : ℕ) (n : List ℕ) → j < k → slice_get unread j ≡ Some n → ¬ IsAskedBy definitions needed roots n

abbrev pub NoneIsBy : List Definition → List Bool → List (List ℕ) → List (List ℕ) → Type 0
NoneIsBy definitions needed roots unread = (j : ℕ) (n : List ℕ) → slice_get unread j ≡ Some n → ¬ IsAskedBy definitions needed roots n
