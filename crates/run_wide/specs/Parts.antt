-- For the prover: what private calls say of their parts.
use Rattle.std.specs.Prelude.{◌≡◌, ℕ, ◌+◌, ◌<◌, Bool, List, [], ◌∷◌, ◌++◌, length, take, Option, Some, Ok, Err, Contains, slice_get}
use Rattle.reading_trees.specs.declared.config.Config.{Config}
use Rattle.reading_trees.specs.declared.module.Program.{Program}
use Rattle.reading_trees.specs.declared.module.Unit.{Unit as ModuleUnit}
use Rattle.names_resolving.specs.declared.fault.ResolveFault.{ResolveFault}
use Rattle.reading_modules.specs.declared.notes.Noted.{Noted}
use Rattle.names_terms.specs.declared.spec.Spec.{Spec}
use Rattle.names_specification.specs.Resolving.{ResolvedBy, ResolvedWide}
use Rattle.reading_wide_configuration.specs.Wide.{also_told}
use Rattle.reading_wide_modules.specs.declared.unread.Unread.{Unread}
use Rattle.names_pruning.specs.declared.program.PrunedProgram.{PrunedProgram}
use Rattle.names_pruning.specs.Pruning.{Alone, IsAskedFor, NeedsBad, Pruned}
use Rattle.run_wide.specs.declared.needing.Asked.{Asked}
use Rattle.run_wide.specs.declared.resolution.Resolution.{Resolution}
use Rattle.run_wide.specs.declared.resolution.ResolutionFault.{ResolutionFault}
use Rattle.run_wide.specs.declared.resolution.ResolutionFault.TheVariants.{Names, Piece, NoMemory}
use Rattle.run_wide.specs.Lines.{passed_lines}
use Rattle.run_wide.specs.Needing.{names_unread}

-- ---- what asks, by names in hand

-- the name of that place among the names of all pieces is one of the piece of that index
pub record StandsAt (unread : List (Noted Unread)) (place index : ℕ) (name : List ℕ) : Type 0 where
  pub piece : Noted Unread
  pub among : ℕ
  pub stands : slice_get unread index ≡ Some piece
  pub named : slice_get piece.note.names among ≡ Some name
  pub before : place ≡ length (names_unread (take index unread)) + among

-- the piece of that index is the first that declares a name which is asked for, and this is the first of its names
pub record IsFirstUnread (p : Program) (c : Config) (roots : List (List ℕ)) (unread : List (Noted Unread)) (index : ℕ) (name : List ℕ) : Type 0 where
  pub piece : Noted Unread
  pub earlier : List (Noted Unread)
  pub later : List (Noted Unread)
  pub stands : slice_get unread index ≡ Some piece
  pub among : unread ≡ earlier ++ piece ∷ later
  pub before : List (List ℕ)
  pub behind : List (List ℕ)
  pub declares : piece.note.names ≡ before ++ name ∷ behind
  pub is_asked : IsAskedFor p c roots name
  pub first : (n : List ℕ) → Contains (names_unread earlier ++ before) n → ¬ IsAskedFor p c roots n

-- none of the names asks for that one alone
abbrev pub NoneAsks : Program → Config → List (List ℕ) → List ℕ → Type 0
NoneAsks p c roots name = (j : ℕ) (root : List ℕ) → slice_get roots j ≡ Some root → ¬ IsAskedFor p c (root ∷ []) name

-- the first of the names that does
pub record IsFirstAsking (p : Program) (c : Config) (roots : List (List ℕ)) (name root : List ℕ) : Type 0 where
  pub index : ℕ
  pub stands : slice_get roots index ≡ Some root
  pub asks : IsAskedFor p c (root ∷ []) name
  pub first : (j : ℕ) (other : List ℕ) → j < index → slice_get roots j ≡ Some other → ¬ IsAskedFor p c (other ∷ []) name

-- ---- what is resolved as it stands

-- the specification of these as they stand
pub record IsAsItStands (wide : Bool) (p : Program) (c : Config) (silent : Option (List ℕ)) (r : Resolution) : Type 0 where
  pub same_program : r.program ≡ p
  pub same_config : r.config ≡ c
  pub resolved : ResolvedBy wide r.program r.config silent (Ok r.spec)

-- or their refusal
abbrev pub IsRefusedSo : Bool → Program → Config → Option (List ℕ) → ResolutionFault → Type 0
IsRefusedSo wide p c silent (Names q d fault) = (q ≡ p) × (d ≡ c) × ResolvedBy wide q d silent (Err fault)
IsRefusedSo wide p c silent (Piece index root) = ⊥
IsRefusedSo wide p c silent NoMemory = Unit {0}

-- ---- what is left, resolved with what is told of the units that go

pub record ResolvesLeft (IsLeft : Program → List ModuleUnit → Type 0) (files : List (List ℕ)) (c : Config) (silent : Option (List ℕ)) (unread : List (Noted Unread))
    (r : Resolution) : Type 0 where
  pub over : List ModuleUnit
  pub left : IsLeft r.program over
  pub told : r.config ≡ also_told (passed_lines files unread over) c
  pub resolved : ResolvedWide r.program r.config silent (Ok r.spec)

pub record NamesLeft (IsLeft : Program → List ModuleUnit → Type 0) (files : List (List ℕ)) (c : Config) (silent : Option (List ℕ)) (unread : List (Noted Unread))
    (q : Program) (d : Config) (fault : ResolveFault) : Type 0 where
  pub over : List ModuleUnit
  pub left : IsLeft q over
  pub told : d ≡ also_told (passed_lines files unread over) c
  pub refused : ResolvedWide q d silent (Err fault)

abbrev pub RefusesLeft : (Program → List ModuleUnit → Type 0) → List (List ℕ) → Config → Option (List ℕ) → List (Noted Unread) → ResolutionFault → Type 0
RefusesLeft IsLeft files c silent unread (Names q d fault) = NamesLeft IsLeft files c silent unread q d fault
RefusesLeft IsLeft files c silent unread (Piece index root) = ⊥
RefusesLeft IsLeft files c silent unread NoMemory = Unit {0}

-- what is needed, left alone; the units that go with it stand behind those that went before
pub record IsAloneOf (p : Program) (gone : List ModuleUnit) (c : Config) (asked : Asked) (q : Program) (over : List ModuleUnit) : Type 0 where
  pub rest : List ModuleUnit
  pub alone : Alone p c asked.unread asked.roots q rest
  pub all : over ≡ gone ++ rest

-- what is left without what is bad, or what of it is needed, where it is refused
pub data IsGoodPart (l : PrunedProgram) (c : Config) (asked : Asked) (silent : Option (List ℕ)) (unread : List (Noted Unread)) : Program → List ModuleUnit → Type 0 where
  resolves : (s : Spec) → ResolvedWide l.program (also_told (passed_lines l.program.files unread l.passed_over) c) silent (Ok s)
      → IsGoodPart l c asked silent unread l.program l.passed_over
  is_refused : (q : Program) (over : List ModuleUnit) (fault : ResolveFault)
      → ResolvedWide l.program (also_told (passed_lines l.program.files unread l.passed_over) c) silent (Err fault)
      → IsAloneOf l.program l.passed_over c asked q over → IsGoodPart l c asked silent unread q over

-- what is left of a program by these names
pub data LeavesBy (p : Program) (c : Config) (asked : Asked) (silent : Option (List ℕ)) (unread : List (Noted Unread)) : Program → List ModuleUnit → Type 0 where
  good : (l : PrunedProgram) (q : Program) (over : List ModuleUnit) → Pruned p c asked.unread asked.roots l.program l.passed_over
      → IsGoodPart l c asked silent unread q over → LeavesBy p c asked silent unread q over
  needed : (q : Program) (over : List ModuleUnit) → NeedsBad p c asked.unread asked.roots → IsAloneOf p [] c asked q over → LeavesBy p c asked silent unread q over
