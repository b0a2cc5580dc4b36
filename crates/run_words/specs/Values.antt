-- For the prover: the values of single options. `IsJob` in Job.antt says what they mean.
use Rattle.std.specs.Prelude.{◌≡◌, ℕ, List, Option, Some, None, IfSome, option_map, option_to_list}
use Rattle.std.specs.Borrow.{Bor}
use Rattle.run_words.specs.declared.command.Setting.{Setting}
use Rattle.run_words.specs.declared.command.Setting.TheVariants.{Silent}
use Rattle.run_words.specs.Line.{Text}
use Rattle.run_words.specs.Names.{IsName}
use Rattle.run_words.specs.Job.{IsNumber, values_of}

abbrev pub IsValue : List Text → Option (Bor Text) → Type 0
IsValue values found = values ≡ option_to_list (option_map (λ t. t.now) found)

pub record IsOperator (options : List (Setting × Text)) (name : Option Text) : Type 0 where
  pub value : values_of Silent options ≡ option_to_list name
  pub named : IfSome name IsName

abbrev pub NumberFrom : ℕ → Option Text → ℕ → ℕ → ℕ → Type 0
NumberFrom default None least most n = n ≡ default
NumberFrom default (Some text) least most n = IsNumber text least most n

abbrev pub NumberIn : Option Text → ℕ → ℕ → Option ℕ → Type 0
NumberIn None least most found = found ≡ None
NumberIn (Some text) least most found = (n : ℕ) × (found ≡ Some n) × IsNumber text least most n
