-- What holds of configurations, with the word and without it, and of what is passed over.
use Rattle.std.specs.Prelude.{◌≡◌, ℕ, Bool, false, List, [], ◌∷◌, ◌++◌, map, Option, Some, None, Ok, slice_get}
use Rattle.reading_tokens.specs.declared.token.Kind.TheVariants as kinds
use Rattle.reading_tokens.specs.declared.token.Token.{Token}
use Rattle.reading_trees.specs.declared.config.Config.{Config}
use Rattle.reading_trees.specs.declared.config.GivenAt.{GivenAt}
use Rattle.reading_configuration.specs.Limits.{IsWithinLimits}
use Rattle.reading_configuration.specs.Reads.{Outcome, Reads}
use Rattle.reading_configuration.specs.Statements.{Named}
use Rattle.reading_wide_configuration.specs.declared.bounds.Bound.{Bound}
use Rattle.reading_wide_configuration.specs.Bounds.{begins_any, bound_of, line_of}
use Rattle.reading_wide_configuration.specs.Passed.{begins_sign, bound_in, is_listed, remaining, remaining_in, told, told_in}
use Rattle.reading_wide_configuration.specs.Wide.{ReadsBy, ReadsWide}

-- ---- configurations

-- one text has one outcome
abbrev pub OneConfiguration : Type 0
OneConfiguration = (wide : Bool) (file : ℕ) (name text : List ℕ) (a b : Outcome) → ReadsBy wide file name text a → ReadsBy wide file name text b → a ≡ b

-- and it has one
abbrev pub SomeConfiguration : Type 0
SomeConfiguration = (wide : Bool) (file : ℕ) (name text : List ℕ) → (a : Outcome) × ReadsBy wide file name text a

-- what is accepted without the word is the same with it
abbrev pub StrictIsWide : Type 0
StrictIsWide = (file : ℕ) (name text : List ℕ) (c : Config) → Reads file name text (Ok c) → ReadsWide file name text (Ok c)

-- what an accepted text gives is within the limits of values
abbrev pub GivensAreWithinLimits : Type 0
GivensAreWithinLimits =
    (wide : Bool) (file : ℕ) (name text : List ℕ) (c : Config) → ReadsBy wide file name text (Ok c) → (k : ℕ) (g : GivenAt) → slice_get c.givens k ≡ Some g
    → IsWithinLimits g.given

-- ---- what is passed over

-- none of the tokens is a word that says something of a search
abbrev pub HasNoBound : List Token → Type 0
HasNoBound [] = Unit {0}
HasNoBound (t ∷ ts) = (bound_in t.kind ≡ None) × HasNoBound ts

-- where no such word stands nothing is passed over
abbrev pub NothingIsPassed : Type 0
NothingIsPassed = (tokens : List Token) → HasNoBound tokens → (remaining tokens ≡ tokens) × (told tokens ≡ [])

-- tokens that are names
abbrev pub named : List Named → List Token
named names = map (λ n. record { kind = kinds.Name n.text; place = n.at }) names

abbrev pub AreListed : List Named → Type 0
AreListed [] = Unit {0}
AreListed (n ∷ ns) = (begins_any n.text ≡ false) × AreListed ns

-- no further name of a list is next
abbrev pub EndsList : List Token → Type 0
EndsList [] = Unit {0}
EndsList (t ∷ ts) = is_listed t.kind ≡ false

-- A word that says something of a search and names that begin no statement, with no sign behind the first, are passed over as a whole, whatever stands before
-- them, and each name is told behind the word. What stands behind them is read as if they were not there.
abbrev pub StatementsArePassed : Type 0
StatementsArePassed =
    (inside : Option Bound) (word first : Named) (names : List Named) (behind : List Token) (b : Bound) → bound_of word.text ≡ Some b → AreListed (first ∷ names)
    → begins_sign (named names ++ behind) ≡ false → EndsList behind
    → (remaining_in inside (named (word ∷ first ∷ names) ++ behind) ≡ remaining behind)
    × (told_in inside (named (word ∷ first ∷ names) ++ behind) ≡ map (λ n. line_of b n.text) (first ∷ names) ++ told behind)
