-- Names that are declared twice. A program declares its variables, its constants, its definitions and its instances, in the order of its units. Each
-- name is to be new where it stands: no standard module of the program brings it, and it was not declared before. So it is in the program itself,
-- and then in the program of each instance.
use Rattle.std.specs.Prelude.{◌≡◌, ℕ, if◌then◌else◌, List, [], ◌∷◌, ◌++◌, Option, Some, None, option_map}
use Rattle.std.specs.Str.{bytes_eq}
use Rattle.base_core.specs.declared.place.Place.{Place}
use Rattle.reading_trees.specs.declared.module.Declared.{Declared}
use Rattle.reading_trees.specs.declared.module.Instance.{Instance as ModuleInstance}
use Rattle.reading_trees.specs.declared.module.Unit.{Unit as ModuleUnit}
use Rattle.reading_trees.specs.declared.module.Unit.TheVariants.{Variables, Constants, Recursive, Define, Instance, Assume, Passed}
use Rattle.reading_modules.specs.declared.fault.LoadWhy.{LoadWhy}
use Rattle.reading_modules.specs.declared.fault.LoadWhy.TheVariants.{Read, Lex, Lay, Parse, Cycle, TooMany, Twice, WrongName, Nested}
use Rattle.reading_modules.specs.Standard.{is_brought}

abbrev pub declared_as : List ℕ → Place → Declared
declared_as name at = record { name = name; at = at }

-- the names that a unit declares, with their places
abbrev pub declared_by : ModuleUnit → List Declared
declared_by (Variables ds) = ds
declared_by (Constants ds) = ds
declared_by (Define d) = declared_as d.name d.at ∷ []
declared_by (Assume e) = []
declared_by (Recursive rs) = []
declared_by (Instance m) = declared_as m.name m.at ∷ []
declared_by Passed = []

abbrev pub declared_in : List ModuleUnit → List Declared
declared_in [] = []
declared_in (u ∷ us) = declared_by u ++ declared_in us

abbrev pub place_among : List ℕ → List Declared → Option Place
place_among name [] = None
place_among name (d ∷ ds) = if bytes_eq name d.name then Some d.at else place_among name ds

-- where a name stands before: Some None where a standard module brings it, else the place of its declaration, if there is one
abbrev pub stands : List (List ℕ) → List Declared → List ℕ → Option (Option Place)
stands standard before name =
    if is_brought standard name then Some None else option_map (λ at. Some at) (place_among name before)

-- each name is new, behind those that were declared before
abbrev pub AreNew : List (List ℕ) → List Declared → List Declared → Type 0
AreNew standard before [] = Unit {0}
AreNew standard before (d ∷ ds) = (stands standard before d.name ≡ None) × AreNew standard (before ++ d ∷ []) ds

-- the first name that is not new, its place, and where it stands before
pub record IsTwice (standard : List (List ℕ)) (declared : List Declared) (name : List ℕ) (later : Place) (earlier : Option Place) : Type 0 where
  pub before : List Declared
  pub rest : List Declared
  pub whole : declared ≡ before ++ declared_as name later ∷ rest
  pub new_before : AreNew standard [] before
  pub twice : stands standard before name ≡ Some earlier

-- this refusal is that of a name that is declared twice
abbrev pub Repeats : List (List ℕ) → List Declared → LoadWhy → Type 0
Repeats standard declared (Twice name later earlier) = IsTwice standard declared name later earlier
Repeats standard declared (Read file fault) = ⊥
Repeats standard declared (Lex why at) = ⊥
Repeats standard declared (Lay at) = ⊥
Repeats standard declared (Parse fault) = ⊥
Repeats standard declared (Cycle names) = ⊥
Repeats standard declared (TooMany name) = ⊥
Repeats standard declared (WrongName name at) = ⊥
Repeats standard declared (Nested name at) = ⊥

-- in the program of that instance each name is new
abbrev pub IsNewInside : ModuleInstance → Type 0
IsNewInside i = AreNew i.program.standard [] (declared_in i.program.units)

-- in the program of each of these instances each name is new
abbrev pub AreNewInside : List ModuleInstance → Type 0
AreNewInside [] = Unit {0}
AreNewInside (i ∷ is) = IsNewInside i × AreNewInside is

-- in the program of one of these instances a name is declared twice, and in those before it none
pub data RepeatsInside : List ModuleInstance → LoadWhy → Type 0 where
  in_this : (i : ModuleInstance) (is : List ModuleInstance) (why : LoadWhy) → Repeats i.program.standard (declared_in i.program.units) why → RepeatsInside (i ∷ is) why
  behind_it : (i : ModuleInstance) (is : List ModuleInstance) (why : LoadWhy) → IsNewInside i → RepeatsInside is why → RepeatsInside (i ∷ is) why

-- each name is new, in a program and in that of each of its instances
pub record AllAreNew (standard : List (List ℕ)) (units : List ModuleUnit) (instances : List ModuleInstance) : Type 0 where
  pub here : AreNew standard [] (declared_in units)
  pub inside : AreNewInside instances

-- the first name that is declared twice, in a program, or else in that of the first instance that has one
pub data OneRepeats (standard : List (List ℕ)) (units : List ModuleUnit) (instances : List ModuleInstance) : LoadWhy → Type 0 where
  in_program : (why : LoadWhy) → Repeats standard (declared_in units) why → OneRepeats standard units instances why
  in_instance : (why : LoadWhy) → AreNew standard [] (declared_in units) → RepeatsInside instances why → OneRepeats standard units instances why
