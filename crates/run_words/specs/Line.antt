-- The words behind the command word: options with their values, flags and positional words in any order, and behind a word `--`
-- positional words alone.
use Rattle.std.specs.Prelude.{◌≡◌, ℕ, Bool, true, false, ◌&&◌, not, nat_eq, List, [], ◌∷◌, ◌++◌, Option, Some, None, codes, map, String, string_bytes}
use Rattle.std.specs.List.{list_all}
use Rattle.std.specs.Str.{bytes_eq}
use Rattle.std.specs.declared.alloc.Global.{Global}
use Rattle.run_words.specs.declared.command.Command.{Command}
use Rattle.run_words.specs.declared.command.Command.TheVariants.{Validate, Check, SelfRun}
use Rattle.run_words.specs.declared.command.Flag.{Flag}
use Rattle.run_words.specs.declared.command.Flag.TheVariants.{Stutter, Ties, Wide}
use Rattle.run_words.specs.declared.command.Setting.{Setting}
use Rattle.run_words.specs.declared.command.Setting.TheVariants.{Config, Within, Silent, Limit, Witness, Why, Near}

abbrev pub Text : Type 0
Text = List ℕ

abbrev pub words_of : List (String Global) → List Text
words_of ws = map string_bytes ws

-- how the options that take a value are spelled
abbrev pub name_of : Setting → Text
name_of Config = codes "--config"
name_of Within = codes "--within"
name_of Silent = codes "--silent"
name_of Limit = codes "--limit"
name_of Witness = codes "--witness"
name_of Why = codes "--why"
name_of Near = codes "--near"

-- how the flags are spelled
abbrev pub flag_name : Flag → Text
flag_name Stutter = codes "--stutter"
flag_name Wide = codes "--wide"
flag_name Ties = codes "--ties"

-- the command has this option
abbrev pub has_setting : Command → Setting → Bool
has_setting Validate Config = true
has_setting Validate Within = true
has_setting Validate Silent = true
has_setting Validate Limit = true
has_setting Validate Witness = false
has_setting Validate Why = true
has_setting Validate Near = true
has_setting Check Config = true
has_setting Check Within = true
has_setting Check Silent = true
has_setting Check Limit = false
has_setting Check Witness = true
has_setting Check Why = false
has_setting Check Near = false
has_setting SelfRun setting = false

-- the command has this flag
abbrev pub has_flag : Command → Flag → Bool
has_flag Validate f = true
has_flag Check f = true
has_flag SelfRun f = false

-- neither empty nor `-`
abbrev pub is_given : Text → Bool
is_given word = not (bytes_eq word []) && not (bytes_eq word (codes "-"))

-- the first byte is `-`
abbrev pub begins_with_dash : Text → Bool
begins_with_dash [] = false
begins_with_dash (b ∷ bs) = nat_eq b 45

-- a part of the line: an option whose value is the next word, an option whose value stands behind `=`, a flag, or a positional
-- word
pub data Part : Type 0 where
  apart : Setting → Text → Part
  joined : Setting → Text → Part
  flag : Flag → Part
  positional : Text → Part

abbrev pub is_part : Command → Part → Bool
is_part command (apart setting value) = has_setting command setting && (is_given value && not (begins_with_dash value))
is_part command (joined setting value) = has_setting command setting && is_given value
is_part command (flag f) = has_flag command f
is_part command (positional word) = is_given word && not (begins_with_dash word)

abbrev pub written_part : Part → List Text
written_part (apart setting value) = name_of setting ∷ value ∷ []
written_part (joined setting value) = (name_of setting ++ 61 ∷ value) ∷ []
written_part (flag f) = flag_name f ∷ []
written_part (positional word) = word ∷ []

pub record Line : Type 0 where
  pub parts : List Part
  -- the words behind `--`, where it stands
  pub behind : Option (List Text)

abbrev pub behind_given : Option (List Text) → Bool
behind_given None = true
behind_given (Some words) = list_all is_given words

abbrev pub is_line : Command → Line → Bool
is_line command line = list_all (is_part command) line.parts && behind_given line.behind

abbrev pub written_parts : List Part → List Text
written_parts [] = []
written_parts (p ∷ ps) = written_part p ++ written_parts ps

abbrev pub written_behind : Option (List Text) → List Text
written_behind None = []
written_behind (Some words) = codes "--" ∷ words

-- the words that spell the line
abbrev pub written : Line → List Text
written line = written_parts line.parts ++ written_behind line.behind

-- what a line gives: the options with their values, the flags, and the positional words, each in their order
pub record Given : Type 0 where
  pub options : List (Setting × Text)
  pub flags : List Flag
  pub positional : List Text

abbrev pub with_part : Part → Given → Given
with_part (apart setting value) g = record { options = (setting, value) ∷ g.options; flags = g.flags; positional = g.positional }
with_part (joined setting value) g = record { options = (setting, value) ∷ g.options; flags = g.flags; positional = g.positional }
with_part (flag f) g = record { options = g.options; flags = f ∷ g.flags; positional = g.positional }
with_part (positional word) g = record { options = g.options; flags = g.flags; positional = word ∷ g.positional }

abbrev pub given_behind : Option (List Text) → Given
given_behind None = record { options = []; flags = []; positional = [] }
given_behind (Some words) = record { options = []; flags = []; positional = words }

abbrev pub given_parts : List Part → Given → Given
given_parts [] g = g
given_parts (p ∷ ps) g = with_part p (given_parts ps g)

abbrev pub given_of : Line → Given
given_of line = given_parts line.parts (given_behind line.behind)

-- the words are a line of the command, and this is what it gives
pub record Gives (command : Command) (words : List Text) (given : Given) : Type 0 where
  pub line : Line
  pub spelled : words ≡ written line
  pub allowed : is_line command line ≡ true
  pub is : given ≡ given_of line
