-- What tokens are read as, and how a piece of a module is read: alone, between the heading of its module and equals signs. These and the
-- End stand at the place of the token behind the piece, so that its junction lists end where they do in the module, and what is refused
-- is refused at a place of the text.
use Rattle.std.specs.Prelude.{List, [], ◌∷◌, ◌++◌}
use Rattle.base_core.specs.declared.place.Place.{Place}
use Rattle.reading_tokens.specs.declared.token.Kind.TheVariants as kinds
use Rattle.reading_tokens.specs.declared.token.Token.{Token}
use Rattle.reading_tokens.specs.Tokens.{token_at}
use Rattle.reading_trees.specs.declared.laid.Laid.{Laid}
use Rattle.reading_trees.specs.declared.module.Module.{Module}
use Rattle.reading_trees.specs.Laid.{IsLaid, IsLeftOfList}
use Rattle.reading_trees.specs.Modules.{SpellsModule}
use Rattle.reading_units.specs.Refusals.{ShallowWholeModule}
use Rattle.reading_modules.specs.declared.fault.LoadWhy.{LoadWhy}
use Rattle.reading_modules.specs.declared.fault.LoadWhy.TheVariants.{Read, Lex, Lay, Parse, Cycle, TooMany, Twice, WrongName, Nested}
use Rattle.reading_modules.specs.Refusals.{IsUnparsed}

-- the tokens, with their junction lists marked, spell this module, and none of them stands too deep
pub record ReadAs (tokens : List Token) (m : Module) : Type 0 where
  pub laid : List Laid
  pub marked : IsLaid tokens laid
  pub spells : SpellsModule m laid
  pub shallow : ShallowWholeModule laid

-- the tokens have no junction lists, or these are refused as a module
abbrev pub RefusedFor : List Token → LoadWhy → Type 0
RefusedFor tokens (Lay at) = IsLeftOfList tokens at
RefusedFor tokens (Parse fault) = (laid : List Laid) × IsLaid tokens laid × IsUnparsed laid fault
RefusedFor tokens (Lex why at) = ⊥
RefusedFor tokens (Read file fault) = ⊥
RefusedFor tokens (Cycle names) = ⊥
RefusedFor tokens (TooMany name) = ⊥
RefusedFor tokens (Twice name later earlier) = ⊥
RefusedFor tokens (WrongName name at) = ⊥
RefusedFor tokens (Nested name at) = ⊥

-- equals signs at a place, and the End at another
abbrev pub ending : Place → Place → List Token
ending equals end = token_at kinds.Equals equals ∷ token_at kinds.End end ∷ []

abbrev pub alone : List Token → List Token → Place → List Token
alone heading piece at = heading ++ piece ++ ending at at

-- the place of the first of these tokens, or the one behind them
abbrev pub first_place : List Token → Place → Place
first_place [] at = at
first_place (t ∷ ts) at = t.place
