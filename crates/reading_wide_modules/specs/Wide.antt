-- What the bytes of a module's file are read as where units that can not be read are passed over. Strict first: a text that spells a module is
-- that module, and nothing of it is unread. Only where it spells none it is read in pieces. Where it has no pieces either, it is refused as
-- it is without them.
use Rattle.std.specs.Prelude.{◌≡◌, ℕ, Bool, true, false, List, [], Ok}
use Rattle.reading_tokens.specs.declared.token.Token.{Token}
use Rattle.reading_tokens.specs.Tokens.{Tokens}
use Rattle.reading_trees.specs.declared.module.Module.{Module}
use Rattle.reading_modules.specs.declared.fault.LoadWhy.{LoadWhy}
use Rattle.reading_modules.specs.Readings.{Reading}
use Rattle.reading_modules.specs.Refusals.{Misspells, SpelledBy}
use Rattle.reading_wide_modules.specs.declared.unread.Unread.{Unread}
use Rattle.reading_wide_modules.specs.Pieces.{InPieces}

-- the tokens of the bytes are read in pieces
pub record PartsOf (number : ℕ) (bytes : List ℕ) (m : Module) (unread : List Unread) : Type 0 where
  pub tokens : List Token
  pub lexed : Tokens true number bytes (Ok tokens)
  pub parts : InPieces tokens m unread

pub data SpelledWide (number : ℕ) (bytes : List ℕ) : Module → List Unread → Type 0 where
  is_whole : (m : Module) → SpelledBy number bytes m → SpelledWide number bytes m []
  is_parted : (m : Module) (unread : List Unread) (why : LoadWhy) → Misspells number bytes why → PartsOf number bytes m unread
      → SpelledWide number bytes m unread

-- the bytes spell no module, for this cause, and are not read in pieces
pub record MisspelledWide (number : ℕ) (bytes : List ℕ) (why : LoadWhy) : Type 0 where
  pub misspelled : Misspells number bytes why
  pub unparted : (m : Module) (unread : List Unread) → ¬ (PartsOf number bytes m unread)

-- ---- modules, with the word `--wide` and without it

-- with it: what is unread is noted
abbrev pub wide : Reading Unread
wide = record { Spells = SpelledWide; Misspells = MisspelledWide; of_text = λ number bytes file fault h. h.misspelled; refuses_nested = false }

-- without it: a text is read as a whole, and nothing is unread
abbrev pub plain : Reading Unread
plain = record {
  Spells = λ number bytes m unread. SpelledBy number bytes m × (unread ≡ []);
  Misspells = Misspells;
  of_text = λ number bytes file fault h. h;
  refuses_nested = true;
}

abbrev pub reading_by : Bool → Reading Unread
reading_by true = wide
reading_by false = plain
