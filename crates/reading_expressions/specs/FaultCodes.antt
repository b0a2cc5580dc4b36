-- The code and the name of why tokens are no text of the grammar. Want of memory has none.
use Rattle.std.specs.Prelude.{ℕ, List, [], codes}
use Rattle.reading_expressions.specs.declared.fault.ParseFault.{ParseFault}
use Rattle.reading_expressions.specs.declared.fault.ParseFault.TheVariants as parse

abbrev pub parse_code : ParseFault → List ℕ
parse_code (parse.Expected at) = codes "P1 Expected"
parse_code (parse.Conflict first second) = codes "P2 Conflict"
parse_code (parse.TooNested at) = codes "P3 TooNested"
parse_code (parse.OutOfProfile token at) = codes "P4 OutOfProfile"
parse_code parse.NoMemory = []
