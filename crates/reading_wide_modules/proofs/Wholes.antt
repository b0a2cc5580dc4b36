-- What bytes are read as, and what they are refused for.
use Rattle.std.specs.Prelude.{IfOk}
use Rattle.std.proofs.Common.{ℕ, true, List, Result, Ok, Err, refl, subst}
use Rattle.base_core.specs.declared.place.Place.{Place}
use Rattle.reading_tokens.specs.declared.piece.LexKind.{LexKind}
use Rattle.reading_tokens.specs.declared.token.Token.{Token}
use Rattle.reading_tokens.specs.Tokens.{OneOutcome, Tokens}
use Rattle.reading_trees.specs.declared.module.Module.{Module}
use Rattle.reading_modules.specs.declared.fault.LoadWhy.{LoadWhy}
use Rattle.reading_modules.specs.declared.fault.LoadWhy.TheVariants.{Read, Lex, Lay, Parse, Cycle, TooMany, Twice, WrongName, Nested}
use Rattle.reading_modules.specs.Refusals.{Misspells, SpelledBy}
use Rattle.reading_laws.proofs.Refused.{IsOk}
use Rattle.reading_laws.proofs.Spelling.{ok_same}
use Rattle.reading_wide_modules.specs.declared.unread.Unread.{Unread}
use Rattle.reading_wide_modules.specs.Alone.{ReadAs, RefusedFor}
use Rattle.reading_wide_modules.specs.Parts.{HasNoPieces}
use Rattle.reading_wide_modules.specs.Pieces.{InPieces}
use Rattle.reading_wide_modules.specs.Wide.{MisspelledWide, PartsOf, SpelledWide, is_parted}

pub spelled_by : (number : ℕ) (bytes : List ℕ) (tokens : List Token) (m : Module) → Tokens true number bytes (Ok tokens) → ReadAs tokens m → SpelledBy number bytes m
spelled_by number bytes tokens m t r = record { laid = r.laid; laid_as = record { tokens = tokens; lexed = t; marked = r.marked }; spells = r.spells; shallow = r.shallow }

pub misspelled_by : (number : ℕ) (bytes : List ℕ) (tokens : List Token) (why : LoadWhy) → Tokens true number bytes (Ok tokens) → RefusedFor tokens why → Misspells number bytes why
misspelled_by number bytes tokens (Lay at) t r = (tokens, t, r)
misspelled_by number bytes tokens (Parse fault) t r = (r.0, record { tokens = tokens; lexed = t; marked = r.1 }, r.2)
misspelled_by number bytes tokens (Lex why at) t r = absurd r
misspelled_by number bytes tokens (Read file fault) t r = absurd r
misspelled_by number bytes tokens (Cycle names) t r = absurd r
misspelled_by number bytes tokens (TooMany name) t r = absurd r
misspelled_by number bytes tokens (Twice name later earlier) t r = absurd r
misspelled_by number bytes tokens (WrongName name at) t r = absurd r
misspelled_by number bytes tokens (Nested name at) t r = absurd r

pub no_parts : OneOutcome → (number : ℕ) (bytes : List ℕ) (tokens : List Token) (why : LoadWhy) → Misspells number bytes why → Tokens true number bytes (Ok tokens) → HasNoPieces tokens
    → MisspelledWide number bytes why
no_parts one number bytes tokens why m t none = record {
  misspelled = m;
  unparted = λ other unread p.
      none other unread (subst (λ v. InPieces v other unread) (ok_same p.tokens tokens (Ok p.tokens) refl (one true number bytes (Ok p.tokens) (Ok tokens) p.lexed t)) p.parts);
}

pub no_tokens : OneOutcome → (number : ℕ) (bytes : List ℕ) (kind : LexKind) (at : Place) (why : LoadWhy) → Misspells number bytes why → Tokens true number bytes (Err (kind, at))
    → MisspelledWide number bytes why
no_tokens one number bytes kind at why m t = record {
  misspelled = m;
  unparted = λ other unread p. subst IsOk (one true number bytes (Ok p.tokens) (Err (kind, at)) p.lexed t) tt;
}

-- what was answered of the pieces, where the bytes spell no module
pub answer_wide : {A E : Type 0} (module_of : A → Module) (unread_of : A → List Unread) (number : ℕ) (bytes : List ℕ) (why : LoadWhy) (r : Result A E) → Misspells number bytes why
    → IfOk r (λ w. PartsOf number bytes (module_of w) (unread_of w)) → IfOk r (λ w. SpelledWide number bytes (module_of w) (unread_of w))
answer_wide module_of unread_of number bytes why (Ok w) m h = is_parted (module_of w) (unread_of w) why m h
answer_wide module_of unread_of number bytes why (Err e) m h = tt
