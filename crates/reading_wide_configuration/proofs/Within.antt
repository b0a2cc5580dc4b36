-- What an accepted configuration writes is within the limits of values.
use Rattle.std.proofs.Common.{◌≡◌, ◌≤◌, true, false, List, [], ◌∷◌, length, Some, None, Ok, Err, ℕ, arith, subst, sym}
use Rattle.std.specs.Prelude.{slice_get}
use Rattle.reading_tokens.specs.declared.token.Token.{Token}
use Rattle.reading_tokens.specs.Tokens.{Tokens}
use Rattle.reading_tokens.specs.Tokens as lexer
use Rattle.reading_trees.specs.declared.config.Config.{Config}
use Rattle.reading_trees.specs.declared.config.GivenAt.{GivenAt}
use Rattle.reading_configuration.specs.Limits as strict
use Rattle.reading_configuration.specs.Limits.{IsWithinLimits}
use Rattle.reading_configuration.specs.Reads.{OfTokens, Outcome}
use Rattle.reading_configuration.proofs.GivenWithin.{gives_within}
use Rattle.reading_configuration.proofs.TokensHeld.{AllHold, Holds, tokens_hold}
use Rattle.reading_wide_configuration.specs.Laws.{GivensAreWithinLimits}
use Rattle.reading_wide_configuration.specs.Passed.{remaining, told}
use Rattle.reading_wide_configuration.specs.Wide.{OfLexedWide, OfRemaining, OfTokensWide, as_they_remain, as_they_stand, with_told}
use Rattle.reading_wide_configuration.proofs.Remaining as left
use Rattle.reading_wide_configuration.proofs.Remaining.{remaining_few, remaining_hold}

abbrev AreWithin : Outcome → Type 0
AreWithin (Ok c) = (k : ℕ) (g : GivenAt) → slice_get c.givens k ≡ Some g → IsWithinLimits g.given
AreWithin (Err f) = Unit {0}

tokens_within : (name : List ℕ) (ts : List Token) (o : Outcome) (lines : List (List ℕ)) → AllHold ts → length ts ≤ 200001 → OfTokens name ts o → AreWithin (with_told lines o)
tokens_within name ts (Ok c) lines h l g = gives_within name ts c h l g
tokens_within name ts (Err f) lines h l g = tt

-- ---- what tokens hold, as it is asked there and here

held_here : (ts : List Token) → AllHold ts → left.AllHold Holds ts
held_here [] h = tt
held_here (t ∷ ts) h = (h.0, held_here ts h.1)

held_there : (ts : List Token) → left.AllHold Holds ts → AllHold ts
held_there [] h = tt
held_there (t ∷ ts) h = (h.0, held_there ts h.1)

remaining_within : (name : List ℕ) (ts : List Token) (o : Outcome) → AllHold ts → length ts ≤ 200001 → OfRemaining name ts o → AreWithin o
remaining_within name ts o h l r =
    let held = held_there (remaining ts) (remaining_hold Holds None ts (held_here ts h)) in
    subst AreWithin (sym r.with_others) (tokens_within name (remaining ts) r.rest (told ts) held (omega (arith, l, remaining_few None ts)) r.reads)

wide_within : (name : List ℕ) (ts : List Token) (o : Outcome) → AllHold ts → length ts ≤ 200001 → OfTokensWide name ts o → AreWithin o
wide_within name ts _ h l (as_they_stand c g) = gives_within name ts c h l g
wide_within name ts o h l (as_they_remain f _ g r) = remaining_within name ts o h l r

lexed_within : (file : ℕ) (name text : List ℕ) (c : Config) (o : lexer.Outcome) → Tokens false file text o → OfLexedWide name o (Ok c) → AreWithin (Ok c)
lexed_within file name text c (Ok ts) t g = let h = tokens_hold false file text ts t in wide_within name ts (Ok c) h.0 h.1 g
lexed_within file name text c (Err e) t g = absurd cc

pub are_within : strict.GivensAreWithinLimits → GivensAreWithinLimits
are_within law true file name text c r = lexed_within file name text c r.lexed r.tokens r.of_lexed
are_within law false file name text c r = law file name text c r
