-- The lines on modules that are refused.
use Rattle.std.specs.Prelude.{ℕ, List, [], ◌∷◌, ◌++◌, Option, Some, None, codes}
use Rattle.base_core.specs.declared.place.Place.{Place}
use Rattle.base_core.specs.declared.reading.ReadFault.{ReadFault}
use Rattle.base_core.specs.declared.reading.ReadFault.TheVariants as read
use Rattle.reading_expressions.specs.declared.fault.ParseFault.{ParseFault}
use Rattle.reading_expressions.specs.declared.fault.ParseFault.TheVariants as parse
use Rattle.reading_expressions.specs.FaultCodes.{parse_code}
use Rattle.reading_modules.specs.declared.fault.LoadWhy.{LoadWhy}
use Rattle.reading_modules.specs.declared.fault.LoadWhy.TheVariants as load
use Rattle.reading_modules.specs.FaultCodes.{load_code}
use Rattle.run_texts.specs.Places.{place_text, at_place, detail, refused}
use Rattle.run_texts.specs.Spelled.{foreign_text}
use Rattle.run_texts.specs.Files.{missing_text, too_long_text, device_text}

-- the file of that name is not read; nothing is written where memory is wanting
abbrev pub read_refusal : List ℕ → ReadFault → List ℕ
read_refusal name read.Missing = missing_text name
read_refusal name read.TooLong = too_long_text name
read_refusal name read.Failed = device_text name
read_refusal name read.NoMemory = []

-- the tokens are no module
abbrev pub parse_refusal : List (List ℕ) → ParseFault → List ℕ
parse_refusal files (parse.Expected at) = refused (parse_code (parse.Expected at)) (at_place files at)
parse_refusal files (parse.Conflict first second) =
    refused (parse_code (parse.Conflict first second)) (at_place files first ++ codes " and " ++ place_text files second)
parse_refusal files (parse.TooNested at) = refused (parse_code (parse.TooNested at)) (at_place files at)
parse_refusal files (parse.OutOfProfile token at) =
    refused (parse_code (parse.OutOfProfile token at)) (detail (foreign_text token) ++ at_place files at)
parse_refusal files parse.NoMemory = []

-- each name behind a blank
abbrev pub names_text : List (List ℕ) → List ℕ
names_text [] = []
names_text (name ∷ names) = detail name ++ names_text names

-- the place where the name stands before, or that a standard module has it
abbrev pub earlier_text : List (List ℕ) → Option Place → List ℕ
earlier_text files (Some at) = codes " and " ++ place_text files at
earlier_text files None = codes " and standard"

-- a module is refused, with the files so far
abbrev pub module_refusal : List (List ℕ) → LoadWhy → List ℕ
module_refusal files (load.Read name fault) = read_refusal name fault
module_refusal files (load.Lex kind at) = refused (load_code (load.Lex kind at)) (at_place files at)
module_refusal files (load.Lay at) = refused (load_code (load.Lay at)) (at_place files at)
module_refusal files (load.Parse fault) = parse_refusal files fault
module_refusal files (load.Cycle names) = refused (load_code (load.Cycle names)) (names_text names)
module_refusal files (load.TooMany name) = refused (load_code (load.TooMany name)) (detail name)
module_refusal files (load.Twice name at earlier) =
    refused (load_code (load.Twice name at earlier)) (detail name ++ at_place files at ++ earlier_text files earlier)
module_refusal files (load.WrongName name at) =
    refused (load_code (load.WrongName name at)) (detail name ++ at_place files at)
module_refusal files (load.Nested name at) =
    refused (load_code (load.Nested name at)) (detail name ++ at_place files at)

-- a piece of a module is refused that is needed, and by which name
abbrev pub piece_refusal : List (List ℕ) → LoadWhy → List ℕ → List ℕ
piece_refusal files why root = module_refusal files why ++ codes "NEEDED BY " ++ root ++ codes "\n"
