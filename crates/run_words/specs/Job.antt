-- What the words give a command to do.
use Rattle.std.specs.Prelude.{◌≡◌, ℕ, ◌+◌, ◌≤◌, Bool, true, false, List, [], ◌∷◌, length, Option, Some, None, IfSome, if◌then◌else◌, option_to_list}
use Rattle.std.specs.List.{list_all}
use Rattle.std.specs.Str.Parse.{digits_value}
use Rattle.reading_tokens.specs.Shapes.{is_digit}
use Rattle.run_words.specs.Line.{Text, Given}
use Rattle.run_words.specs.Names.{IsName, IsModule}
use Rattle.run_words.specs.declared.command.Flag.{Flag}
use Rattle.run_words.specs.declared.command.Flag.TheVariants.{Stutter, Ties, Wide}
use Rattle.run_words.specs.declared.command.Setting.{Setting}
use Rattle.run_words.specs.declared.command.Setting.TheVariants.{Config, Within, Silent, Limit, Witness, Why, Near}
use Rattle.run_words.specs.declared.job.Job.{Job}
use Rattle.run_words.specs.declared.job.Options.{Options}

abbrev pub is_same : Setting → Setting → Bool
is_same Config Config = true
is_same Within Within = true
is_same Silent Silent = true
is_same Limit Limit = true
is_same Witness Witness = true
is_same Why Why = true
is_same Near Near = true
is_same a b = false

-- the values of an option, in their order
abbrev pub values_of : Setting → List (Setting × Text) → List Text
values_of setting [] = []
values_of setting (o ∷ os) = if is_same setting o.0 then o.1 ∷ values_of setting os else values_of setting os

abbrev pub is_flag : Flag → Flag → Bool
is_flag Stutter Stutter = true
is_flag Wide Wide = true
is_flag Ties Ties = true
is_flag a b = false

-- how often a flag stands
abbrev pub times : Flag → List Flag → ℕ
times flag [] = 0
times flag (f ∷ fs) = if is_flag flag f then 1 + times flag fs else times flag fs

-- a flag that stands so often is set or not: it may stand once
abbrev pub IsSet : ℕ → Bool → Type 0
IsSet count set = count ≡ (if set then 1 else 0)

-- 1 to 10 decimal digits, which spell a number of the range
pub record IsNumber (text : Text) (least most n : ℕ) : Type 0 where
  pub digits : list_all is_digit text ≡ true
  pub some : 1 ≤ length text
  pub few : length text ≤ 10
  pub value : n ≡ digits_value 10 text
  pub above : least ≤ n
  pub below : n ≤ most

-- the number that the values of an option give: of no value what holds without the option, of one value its number, and of more
-- values none
abbrev pub IsNumberOr : ℕ → List Text → ℕ → ℕ → ℕ → Type 0
IsNumberOr default [] least most n = n ≡ default
IsNumberOr default (text ∷ []) least most n = IsNumber text least most n
IsNumberOr default (text ∷ more ∷ texts) least most n = ⊥

-- the number of the range that the values of an option give, or none where it does not stand; of more values none
abbrev pub IsNumberIn : List Text → ℕ → ℕ → Option ℕ → Type 0
IsNumberIn [] least most found = found ≡ None
IsNumberIn (text ∷ []) least most found = (n : ℕ) × (found ≡ Some n) × IsNumber text least most n
IsNumberIn (text ∷ more ∷ texts) least most found = ⊥

-- the options that a line gives
pub record SetsOptions (given : Given) (options : Options) : Type 0 where
  pub within : IsNumberOr 1 (values_of Within given.options) 1 8 options.within
  pub limit : IsNumberOr 10000 (values_of Limit given.options) 1 100000 options.limit
  pub stutter : IsSet (times Stutter given.flags) options.stutter

-- positional words that are a module's path and 1 to 64 logs
pub record AreFiles (words : List Text) (path : Text) (logs : List Text) : Type 0 where
  pub all : words ≡ path ∷ logs
  pub module_path : IsModule path
  pub some : 1 ≤ length logs
  pub few : length logs ≤ 64

-- where the flag stands, neither of these does
abbrev pub StandsAlone : Bool → List Text → List Text → Type 0
StandsAlone false whys nears = Unit {0}
StandsAlone true whys nears = (whys ≡ []) × (nears ≡ [])

-- The flag `--ties` stands or not, and it does not stand beside `--why` or `--near`: what these tell is of logs in one order.
pub record IsTied (given : Given) (ties : Bool) : Type 0 where
  pub set : IsSet (times Ties given.flags) ties
  pub alone : StandsAlone ties (values_of Why given.options) (values_of Near given.options)

-- the job that a line gives
pub record IsJob (given : Given) (job : Job) : Type 0 where
  pub files : AreFiles given.positional job.module job.logs
  pub config : values_of Config given.options ≡ option_to_list job.config
  pub silent : values_of Silent given.options ≡ option_to_list job.silent
  pub operator : IfSome job.silent IsName
  pub options : SetsOptions given job.options
  pub why : IsNumberIn (values_of Why given.options) 1 1000 job.why
  pub near : IsNumberIn (values_of Near given.options) 1 1000 job.near
  pub wide : IsSet (times Wide given.flags) job.wide
  pub ties : IsTied given job.ties
