-- The code and the name of why a program is refused. A file that is not read has none.
use Rattle.std.specs.Prelude.{ℕ, List, [], codes}
use Rattle.reading_tokens.specs.FaultCodes.{lex_code}
use Rattle.reading_expressions.specs.FaultCodes.{parse_code}
use Rattle.reading_modules.specs.declared.fault.LoadWhy.{LoadWhy}
use Rattle.reading_modules.specs.declared.fault.LoadWhy.TheVariants as load

abbrev pub load_code : LoadWhy → List ℕ
load_code (load.Read name fault) = []
load_code (load.Lex kind at) = lex_code kind
load_code (load.Lay at) = codes "J1 LeftOfList"
load_code (load.Parse fault) = parse_code fault
load_code (load.Cycle names) = codes "M5 Cycle"
load_code (load.TooMany name) = codes "M6 TooManyModules"
load_code (load.Twice name at earlier) = codes "M7 Twice"
load_code (load.WrongName name at) = codes "M8 WrongName"
load_code (load.Nested name at) = codes "M9 Nested"
