-- What a configuration leaves unchecked.
use Rattle.std.specs.Prelude.{◌≢◌, ℕ, Bool, List, All, Ok}
use Rattle.reading_trees.specs.declared.config.Config.{Config}
use Rattle.reading_wide_configuration.specs.Wide.{ReadsBy}

-- no line feed stands in a text
abbrev pub HasNoFeed : List ℕ → Type 0
HasNoFeed text = All (λ b. b ≢ 10) text

-- of each thing that an accepted configuration leaves unchecked, with `--wide` or without it, the report has one line
abbrev pub UncheckedAreLines : Type 0
UncheckedAreLines = (wide : Bool) (file : ℕ) (name text : List ℕ) (c : Config) → ReadsBy wide file name text (Ok c) → All HasNoFeed c.unchecked
