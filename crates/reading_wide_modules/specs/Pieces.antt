-- A module in pieces: each brings a module, is read alone, or is unread.
use Rattle.std.specs.Prelude.{◌≡◌, ℕ, false, List, [], ◌∷◌, ◌++◌, Some, None}
use Rattle.base_core.specs.declared.place.Place.{Place}
use Rattle.reading_tokens.specs.declared.token.Token.{Token}
use Rattle.reading_trees.specs.declared.module.Module.{Module}
use Rattle.reading_trees.specs.declared.module.Unit.{Unit as ModuleUnit}
use Rattle.reading_pieces.specs.Names.{names_of}
use Rattle.reading_pieces.specs.Pieces.{ArePieces, IsHeading, has_module, joined}
use Rattle.reading_modules.specs.declared.fault.LoadWhy.{LoadWhy}
use Rattle.reading_wide_modules.specs.declared.unread.Unread.{Unread}
use Rattle.reading_wide_modules.specs.Alone.{ReadAs, RefusedFor, alone, ending, first_place}
use Rattle.reading_wide_modules.specs.Forms.{brought, first_mark, readable}

-- where it begins; a piece has a token
abbrev pub begins_at : List Token → Place
begins_at [] = record { file = 0; line = 0; col = 0 }
begins_at (t ∷ ts) = t.place

-- a piece that is unread: what it begins with and where, the names that it declares, and why
abbrev pub unread_as : List Token → LoadWhy → Unread
unread_as piece why = record { begins = first_mark piece; at = begins_at piece; names = names_of piece; why = why }

-- of the pieces of a module, whose equals signs stand at `last`: the modules that they bring, the units of those that are read, and those that
-- are unread
pub data EachRead (heading : List Token) (last : Place) : List (List Token) → List (List ℕ) → List ModuleUnit → List Unread → Type 0 where
  none_left : EachRead heading last [] [] [] []
  is_brought : (piece : List Token) (pieces : List (List Token)) (name : List ℕ) (names : List (List ℕ)) (units : List ModuleUnit) (unread : List Unread)
      → brought piece ≡ Some name → EachRead heading last pieces names units unread
      → EachRead heading last (piece ∷ pieces) (name ∷ names) units unread
  is_read : (piece : List Token) (pieces : List (List Token)) (m : Module) (names : List (List ℕ)) (units : List ModuleUnit) (unread : List Unread)
      → brought piece ≡ None → ReadAs (alone heading (readable piece) (first_place (joined pieces) last)) m
      → EachRead heading last pieces names units unread
      → EachRead heading last (piece ∷ pieces) names (m.units ++ units) unread
  is_unread : (piece : List Token) (pieces : List (List Token)) (why : LoadWhy) (names : List (List ℕ)) (units : List ModuleUnit) (unread : List Unread)
      → brought piece ≡ None → RefusedFor (alone heading (readable piece) (first_place (joined pieces) last)) why
      → EachRead heading last pieces names units unread
      → EachRead heading last (piece ∷ pieces) names units (unread_as piece why ∷ unread)

-- a module that extends these too, behind its own, and has units behind its own
abbrev pub with_pieces : Module → List (List ℕ) → List ModuleUnit → Module
with_pieces m names units = record { name = m.name; at = m.at; extends = m.extends ++ names; units = m.units ++ units }

-- The tokens of a module before its equals signs, which stand at this place, are a heading, which is read alone, and pieces. The module has
-- the heading's name, extends what the heading says and then what the pieces bring, and has the units of the pieces that are read.
pub record Parted (body : List Token) (equals : Place) (m : Module) (unread : List Unread) : Type 0 where
  pub heading : List Token
  pub pieces : List (List Token)
  pub whole : body ≡ heading ++ joined pieces
  pub begins : IsHeading heading (joined pieces)
  pub parted : ArePieces pieces
  pub title : Module
  pub titled : ReadAs (alone heading [] (first_place (joined pieces) equals)) title
  pub names : List (List ℕ)
  pub units : List ModuleUnit
  pub each : EachRead heading equals pieces names units unread
  pub same : m ≡ with_pieces title names units

-- The tokens of a module are such, and equals signs with the End behind them. No module stands inside it: the text of the outer one would end
-- with the inner one's equals signs.
pub record InPieces (tokens : List Token) (m : Module) (unread : List Unread) : Type 0 where
  pub body : List Token
  pub equals : Place
  pub end : Place
  pub whole : tokens ≡ body ++ ending equals end
  pub single : has_module tokens ≡ false
  pub parted : Parted body equals m unread
