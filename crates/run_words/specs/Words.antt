-- The words of the program, without its own name, and the command that they give.
use Rattle.std.specs.Prelude.{◌≡◌, ℕ, ◌≤◌, Bool, List, [], ◌∷◌, true, false, length, Option, Some, None, IfSome, Result, Ok, Err, codes}
use Rattle.std.specs.declared.alloc.AllocError.{AllocError}
use Rattle.std.specs.List.{list_all}
use Rattle.run_words.specs.Line.{Text, Given, Gives, is_given}
use Rattle.run_words.specs.Names.{IsName, IsModule}
use Rattle.run_words.specs.Job.{IsJob, IsNumber, values_of}
use Rattle.run_words.specs.declared.command.Command.{Command}
use Rattle.run_words.specs.declared.command.Command.TheVariants as command
use Rattle.run_words.specs.declared.command.Setting.TheVariants.{Witness}
use Rattle.run_words.specs.declared.job.Job.{Job}
use Rattle.run_words.specs.declared.job.Options.{Options}
use Rattle.run_words.specs.declared.job.Words.{Words}
use Rattle.run_words.specs.declared.job.Words.TheVariants.{Validate, Check, SelfRun}

-- the words behind the command word give this job
pub record Asks (command : Command) (rest : List Text) (job : Job) : Type 0 where
  pub given : Given
  pub line : Gives command rest given
  pub job_is : IsJob given job

-- a job, with the path of a file of states in its `--witness`
pub record IsWitnessed (given : Given) (job : Job) (witness : Text) : Type 0 where
  pub job_is : IsJob given job
  pub witness_is : values_of Witness given.options ≡ witness ∷ []

-- the words behind `check` give this job and the path of a file of states
pub record AsksCheck (rest : List Text) (job : Job) (witness : Text) : Type 0 where
  pub given : Given
  pub line : Gives command.Check rest given
  pub witnessed : IsWitnessed given job witness

-- a single positional word, which is this number
pub record IsOnlyNumber (words : List Text) (n : ℕ) : Type 0 where
  pub text : Text
  pub only : words ≡ text ∷ []
  pub number : IsNumber text 1 20000 n

-- the word behind `selfrun` is this number
pub record AsksNumber (rest : List Text) (n : ℕ) : Type 0 where
  pub given : Given
  pub line : Gives command.SelfRun rest given
  pub number : IsOnlyNumber given.positional n

-- the words are this command: `validate [options] MODULE LOG..`, `check [options] --witness FILE MODULE LOG..` or `selfrun N`
abbrev pub AreWords : List Text → Words → Type 0
AreWords words (Validate job) = (rest : List Text) × (words ≡ codes "validate" ∷ rest) × Asks command.Validate rest job
AreWords words (Check job witness) = (rest : List Text) × (words ≡ codes "check" ∷ rest) × AsksCheck rest job witness
AreWords words (SelfRun n) = (rest : List Text) × (words ≡ codes "selfrun" ∷ rest) × AsksNumber rest n

-- this command was read of the words, or none since they are no command; or memory was wanting
abbrev pub Reads : List Text → Result (Option Words) AllocError → Type 0
Reads words (Err e) = Unit {0}
Reads words (Ok None) = (w : Words) → ¬ AreWords words w
Reads words (Ok (Some w)) = AreWords words w

-- each list of words is at most one command
abbrev pub OneCommand : Type 0
OneCommand = (words : List Text) (a b : Words) → AreWords words a → AreWords words b → a ≡ b

-- the numbers of the options are in their ranges
pub record OptionsMeet (options : Options) : Type 0 where
  pub within_least : 1 ≤ options.within
  pub within_most : options.within ≤ 8
  pub limit_least : 1 ≤ options.limit
  pub limit_most : options.limit ≤ 100000

-- how many lines may be told at most
abbrev pub IsFew : ℕ → Type 0
IsFew most = (1 ≤ most) × (most ≤ 1000)

-- nothing is told behind the report where lines may stand in several orders
abbrev pub TellsNothing : Bool → Option ℕ → Option ℕ → Type 0
TellsNothing false why near = Unit {0}
TellsNothing true why near = (why ≡ None) × (near ≡ None)

-- the names, numbers and counts of a job are such as the words may give
pub record JobMeets (job : Job) : Type 0 where
  pub module_path : IsModule job.module
  pub some : 1 ≤ length job.logs
  pub few : length job.logs ≤ 64
  pub logs : list_all is_given job.logs ≡ true
  pub config : IfSome job.config (λ name. is_given name ≡ true)
  pub silent : IfSome job.silent IsName
  pub options : OptionsMeet job.options
  pub why : IfSome job.why IsFew
  pub near : IfSome job.near IsFew
  pub ties : TellsNothing job.ties job.why job.near

abbrev pub MeetsRules : Words → Type 0
MeetsRules (Validate job) = JobMeets job
MeetsRules (Check job witness) = JobMeets job × (is_given witness ≡ true)
MeetsRules (SelfRun n) = (1 ≤ n) × (n ≤ 20000)
