-- For the prover: what private calls say of their parts.
use Rattle.std.specs.Prelude.{◌≡◌, ◌⊎◌, ℕ, Bool, true, false, List, [], ◌∷◌, ◌++◌, Some, None}
use Rattle.reading_tokens.specs.declared.token.Kind.{Kind}
use Rattle.reading_tokens.specs.declared.token.Kind.TheVariants as kinds
use Rattle.base_core.specs.declared.place.Place.{Place}
use Rattle.reading_tokens.specs.declared.token.Token.{Token}
use Rattle.reading_trees.specs.declared.module.Module.{Module}
use Rattle.reading_trees.specs.declared.module.Unit.{Unit as ModuleUnit}
use Rattle.reading_modules.specs.declared.fault.LoadWhy.{LoadWhy}
use Rattle.reading_pieces.specs.Pieces.{ArePieces, joined}
use Rattle.reading_wide_modules.specs.declared.unread.Unread.{Unread}
use Rattle.reading_wide_modules.specs.Alone.{ReadAs, RefusedFor, alone}
use Rattle.reading_wide_modules.specs.Forms.{brought, readable}
use Rattle.reading_wide_modules.specs.Pieces.{EachRead, InPieces, Parted, unread_as, with_pieces}

-- the tokens behind a heading are these pieces, and these modules, units and pieces that are unread come of them
pub record ReadBody (heading : List Token) (last : Place) (body : List Token) (names : List (List ℕ)) (units : List ModuleUnit) (unread : List Unread) : Type 0 where
  pub pieces : List (List Token)
  pub whole : body ≡ joined pieces
  pub parted : ArePieces pieces
  pub each : EachRead heading last pieces names units unread

-- what is read behind here goes on with what was read before
abbrev pub GoesBefore : List Token → Place → List Token → List Token → List (List ℕ) → List ModuleUnit → List Unread → Type 0
GoesBefore heading last body rest names units unread =
    (others : List (List ℕ)) (more : List ModuleUnit) (later : List Unread) → ReadBody heading last rest others more later
    → ReadBody heading last body (names ++ others) (units ++ more) (unread ++ later)

-- a piece brings a module
pub record AddsName (piece : List Token) (names : List (List ℕ)) (units : List ModuleUnit) (unread : List Unread) (new_names : List (List ℕ)) (new_units : List ModuleUnit) (new_unread : List Unread) : Type 0 where
  pub name : List ℕ
  pub is_brought : brought piece ≡ Some name
  pub added : new_names ≡ names ++ name ∷ []
  pub units_same : new_units ≡ units
  pub unread_same : new_unread ≡ unread

-- a piece was read, and its units were added
pub record AddsUnits (heading piece : List Token) (behind : Place) (names : List (List ℕ)) (units : List ModuleUnit) (unread : List Unread) (new_names : List (List ℕ)) (new_units : List ModuleUnit) (new_unread : List Unread) : Type 0 where
  pub brings_none : brought piece ≡ None
  pub read : Module
  pub is_read : ReadAs (alone heading (readable piece) behind) read
  pub added : new_units ≡ units ++ read.units
  pub names_same : new_names ≡ names
  pub unread_same : new_unread ≡ unread

-- a piece was not read, and was added to those that are unread
pub record AddsUnread (heading piece : List Token) (behind : Place) (names : List (List ℕ)) (units : List ModuleUnit) (unread : List Unread) (new_names : List (List ℕ)) (new_units : List ModuleUnit) (new_unread : List Unread) : Type 0 where
  pub brings_none : brought piece ≡ None
  pub why : LoadWhy
  pub is_refused : RefusedFor (alone heading (readable piece) behind) why
  pub added : new_unread ≡ unread ++ unread_as piece why ∷ []
  pub names_same : new_names ≡ names
  pub units_same : new_units ≡ units

-- one of both
abbrev pub AddsRead : List Token → List Token → Place → List (List ℕ) → List ModuleUnit → List Unread → List (List ℕ) → List ModuleUnit → List Unread → Type 0
AddsRead heading piece behind names units unread new_names new_units new_unread =
    AddsUnits heading piece behind names units unread new_names new_units new_unread
    ⊎ AddsUnread heading piece behind names units unread new_names new_units new_unread

abbrev pub Adds : List Token → List Token → Place → List (List ℕ) → List ModuleUnit → List Unread → List (List ℕ) → List ModuleUnit → List Unread → Type 0
Adds heading piece behind names units unread new_names new_units new_unread =
    AddsName piece names units unread new_names new_units new_unread ⊎ AddsRead heading piece behind names units unread new_names new_units new_unread

-- the module of a heading, with what the pieces behind it bring and their units
pub record IsBehind (heading rest : List Token) (equals : Place) (title m : Module) (unread : List Unread) : Type 0 where
  pub names : List (List ℕ)
  pub units : List ModuleUnit
  pub read : ReadBody heading equals rest names units unread
  pub same : m ≡ with_pieces title names units

-- no module is read of these tokens before equals signs
abbrev pub IsUnparted : List Token → Place → Type 0
IsUnparted body equals = (m : Module) (unread : List Unread) → ¬ (Parted body equals m unread)

-- nor of all tokens
abbrev pub HasNoPieces : List Token → Type 0
HasNoPieces tokens = (m : Module) (unread : List Unread) → ¬ (InPieces tokens m unread)

abbrev pub are_ending : Kind → Kind → Bool
are_ending kinds.Equals kinds.End = true
are_ending _ _ = false
