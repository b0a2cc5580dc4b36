-- For the prover: the commands as `clap` reads them, and what its matches give.
use Rattle.std.specs.Prelude.{◌≡◌, ◌++◌, ◌&&◌, Bool, codes, true, List, [], ◌∷◌, Some, map, unwrap_or}
use Rattle.std.specs.List.{list_all}
use Rattle.std.specs.Borrow.{Bor}
use Rattle.clap.specs.Walk.{Row, Rule, all_of, rows_of}
use Rattle.clap.specs.Matches.{found_of}
use Rattle.clap.specs.declared.parser.matches.ArgMatches.{ArgMatches}
use Rattle.clap.specs.Simple.{App, Shape, new_app, new_rule, with_rule, on_top, built}
use Rattle.clap.specs.declared.builder.action.ArgAction.TheVariants.{Append}
use Rattle.run_words.specs.declared.command.Command.{Command}
use Rattle.run_words.specs.declared.command.Command.TheVariants.{Validate, Check, SelfRun}
use Rattle.run_words.specs.declared.command.Flag.{Flag}
use Rattle.run_words.specs.declared.command.Flag.TheVariants.{Stutter, Ties, Wide}
use Rattle.run_words.specs.declared.command.Setting.{Setting}
use Rattle.run_words.specs.declared.command.Setting.TheVariants.{Config, Within, Silent, Limit, Witness, Why, Near}
use Rattle.run_words.specs.Job.{times, values_of}
use Rattle.run_words.specs.Line.{Text, Given, Gives, is_given}

abbrev pub id_of : Setting → Text
id_of Config = codes "config"
id_of Within = codes "within"
id_of Silent = codes "silent"
id_of Limit = codes "limit"
id_of Witness = codes "witness"
id_of Why = codes "why"
id_of Near = codes "near"

abbrev pub flag_id : Flag → Text
flag_id Stutter = codes "stutter"
flag_id Wide = codes "wide"
flag_id Ties = codes "ties"

abbrev pub setting_rule : Setting → Rule
setting_rule s = record (new_rule (id_of s)) { long = Some (id_of s); action = Some Append }

abbrev pub flag_rule : Flag → Rule
flag_rule f = record (new_rule (flag_id f)) {
  long = Some (flag_id f);
  action = Some Append;
  range = Some (record { start_inclusive = 0; end_inclusive = 0 });
  missing = codes "" ∷ [];
}

abbrev pub words_rule : Rule
words_rule = record (new_rule (codes "words")) { action = Some Append }

abbrev pub bare_app : Text → App
bare_app name = on_top (λ s. record s { no_binary_name = true; disable_help_flag = true; disable_version_flag = true }) (new_app name)

-- the options of a command that takes a module and logs, with one option more
abbrev pub files_app : Text → Setting → App
files_app name last =
    with_rule (with_rule (with_rule (with_rule (with_rule (with_rule (with_rule (bare_app name) (setting_rule Config)) (setting_rule Within)) (setting_rule Silent)) (flag_rule Stutter)) (flag_rule Wide)) (flag_rule Ties))
    (setting_rule last)

abbrev pub app_for : Command → App
app_for Validate = with_rule (with_rule (with_rule (files_app (codes "validate") Limit) (setting_rule Why)) (setting_rule Near)) words_rule
app_for Check = with_rule (files_app (codes "check") Witness) words_rule
app_for SelfRun = with_rule (bare_app (codes "selfrun")) words_rule

abbrev pub shape_for : Command → Shape
shape_for c = (built (app_for c)).top

abbrev pub rules_for : Command → List Rule
rules_for c = (shape_for c).rules

-- the values of an argument
abbrev pub vals : Text → List Row → List Text
vals id rows = unwrap_or (all_of id rows) []

abbrev pub options_in : List Row → Setting → List (Setting × Text)
options_in rows s = map (λ v. (s, v)) (vals (id_of s) rows)

abbrev pub flags_in : List Row → Flag → List Flag
flags_in rows f = map (λ _. f) (vals (flag_id f) rows)

-- what the matches give, the options and the flags ordered by their names
abbrev pub given_in : List Row → Given
given_in rows = record {
  options = options_in rows Config ++ (options_in rows Within ++ (options_in rows Silent ++ (options_in rows Limit ++ (options_in rows Witness ++ (options_in rows Why ++ options_in rows Near)))));
  flags = flags_in rows Stutter ++ (flags_in rows Wide ++ flags_in rows Ties);
  positional = vals (codes "words") rows;
}

-- the values and the positional words that the matches hold are neither empty nor `-`
abbrev pub has_given_alone : List Row → Text → Bool
has_given_alone rows id = list_all is_given (vals id rows)

abbrev pub are_given : List Row → Bool
are_given rows =
    has_given_alone rows (codes "config") && has_given_alone rows (codes "within") && has_given_alone rows (codes "silent") && has_given_alone rows (codes "limit")
    && has_given_alone rows (codes "witness") && has_given_alone rows (codes "why") && has_given_alone rows (codes "near") && has_given_alone rows (codes "words")

-- what two lines give that differ only in the order of different options and flags
pub record Agree (g h : Given) : Type 0 where
  pub settings : (s : Setting) → values_of s g.options ≡ values_of s h.options
  pub flags : (f : Flag) → times f g.flags ≡ times f h.flags
  pub positional : g.positional ≡ h.positional

-- the words are a line of the command, which gives this but for the order of different options and flags
pub record Holds (command : Command) (words : List Text) (held : Given) : Type 0 where
  pub given : Given
  pub line : Gives command words given
  pub agree : Agree given held

-- ---- the program's values

abbrev pub texts_of : List (Bor Text) → List Text
texts_of = map (λ t. t.now)

abbrev pub given_by : ArgMatches → Given
given_by matches = given_in (rows_of (found_of matches))
