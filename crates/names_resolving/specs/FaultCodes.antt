-- The code and the name of why a program is no specification. Want of memory has none.
use Rattle.std.specs.Prelude.{ℕ, List, [], codes}
use Rattle.names_resolving.specs.declared.fault.ResolveFault.{ResolveFault}
use Rattle.names_resolving.specs.declared.fault.ResolveFault.TheVariants as resolve

abbrev pub resolve_code : ResolveFault → List ℕ
resolve_code (resolve.UnknownName name at) = codes "V1 UnknownName"
resolve_code (resolve.WrongArity name found needed at) = codes "V2 WrongArity"
resolve_code (resolve.LevelTooHigh found allowed at) = codes "V3 LevelTooHigh"
resolve_code (resolve.PrimedArgument at) = codes "V4 PrimedArgument"
resolve_code (resolve.NoValue name at) = codes "V5 NoValue"
resolve_code (resolve.NotTheShape at) = codes "V6 NotTheShape"
resolve_code (resolve.Recursion name at) = codes "V7 Recursion"
resolve_code (resolve.TooManyVariables at) = codes "V8 TooManyVariables"
resolve_code (resolve.NoOperator name) = codes "V9 NoOperator"
resolve_code (resolve.NotAVariable name at) = codes "V10 NotAVariable"
resolve_code (resolve.NoSubstitute name at) = codes "V11 NoSubstitute"
resolve_code resolve.NoMemory = []
