-- Where what a configuration gives stands. Places tell files by number: behind those of the modules the configuration is the last. Each name for which it
-- gives something stands in its text, at the place that is kept, and so does each name that it puts in place of another.
use Rattle.std.specs.Prelude.{◌≡◌, ◌∷◌, ◌++◌, [], ℕ, Bool, false, All, Contains, List, Some, Ok, length, slice_get}
use Rattle.base_core.specs.declared.place.Place.{Place}
use Rattle.reading_tokens.specs.declared.token.Kind.TheVariants as kinds
use Rattle.reading_tokens.specs.declared.token.Token.{Token}
use Rattle.reading_tokens.specs.Tokens.{Tokens, token_at}
use Rattle.reading_trees.specs.declared.config.Config.{Config}
use Rattle.reading_trees.specs.declared.config.Given.{Given}
use Rattle.reading_trees.specs.declared.config.Given.TheVariants.{Constant, Replaced}
use Rattle.reading_trees.specs.declared.config.GivenAt.{GivenAt}
use Rattle.reading_wide_configuration.specs.Wide.{ReadsBy}

-- Behind these files of modules stands a file with this name and text. The place is in it, and the word is its token there.
pub record StandsBehind (modules : List (List ℕ)) (name text word : List ℕ) (at : Place) : Type 0 where
  pub behind : at.file ≡ length modules
  pub named : slice_get (modules ++ name ∷ []) at.file ≡ Some name
  pub tokens : List Token
  pub are : Tokens false (length modules) text (Ok tokens)
  pub has : Contains tokens (token_at (kinds.Name word) at)

-- so does the name that is put in place of another
abbrev pub PutBehind : List (List ℕ) → List ℕ → List ℕ → Given → Type 0
PutBehind modules name text (Constant l) = Unit {0}
PutBehind modules name text (Replaced word at) = StandsBehind modules name text word at

-- and the other
pub record IsGivenBehind (modules : List (List ℕ)) (name text : List ℕ) (g : GivenAt) : Type 0 where
  pub stands : StandsBehind modules name text g.name g.at
  pub put : PutBehind modules name text g.given

-- of each configuration that is read behind these files of modules, with `--wide` or without it
abbrev pub GivensStandBehind : Type 0
GivensStandBehind =
    (wide : Bool) (modules : List (List ℕ)) (name text : List ℕ) (c : Config) → ReadsBy wide (length modules) name text (Ok c)
    → (c.file ≡ name) × All (IsGivenBehind modules name text) c.givens
