-- The lines on programs that are no specification.
use Rattle.std.specs.Prelude.{ℕ, List, [], ◌++◌, codes, decimal}
use Rattle.names_terms.specs.declared.level.Level.{Level}
use Rattle.names_terms.specs.declared.level.Level.TheVariants as level
use Rattle.names_resolving.specs.declared.fault.ResolveFault.{ResolveFault}
use Rattle.names_resolving.specs.declared.fault.ResolveFault.TheVariants as resolve
use Rattle.names_resolving.specs.FaultCodes.{resolve_code}
use Rattle.run_texts.specs.Places.{at_place, detail, found_needed, refused}

-- levels as numbers
abbrev pub level_number : Level → ℕ
level_number level.Constant = 0
level_number level.State = 1
level_number level.Action = 2
level_number level.Temporal = 3

abbrev pub found_allowed : Level → Level → List ℕ
found_allowed found allowed =
    codes " found=" ++ decimal (level_number found) ++ codes " allowed=" ++ decimal (level_number allowed)

-- a program is refused; nothing is written where memory is wanting
abbrev pub names_refusal : List (List ℕ) → ResolveFault → List ℕ
names_refusal files (resolve.UnknownName name at) =
    refused (resolve_code (resolve.UnknownName name at)) (detail name ++ at_place files at)
names_refusal files (resolve.WrongArity name found needed at) =
    refused (resolve_code (resolve.WrongArity name found needed at)) (detail name ++ found_needed found needed ++ at_place files at)
names_refusal files (resolve.LevelTooHigh found allowed at) =
    refused (resolve_code (resolve.LevelTooHigh found allowed at)) (found_allowed found allowed ++ at_place files at)
names_refusal files (resolve.PrimedArgument at) = refused (resolve_code (resolve.PrimedArgument at)) (at_place files at)
names_refusal files (resolve.NoValue name at) =
    refused (resolve_code (resolve.NoValue name at)) (detail name ++ at_place files at)
names_refusal files (resolve.NotTheShape at) = refused (resolve_code (resolve.NotTheShape at)) (at_place files at)
names_refusal files (resolve.Recursion name at) =
    refused (resolve_code (resolve.Recursion name at)) (detail name ++ at_place files at)
names_refusal files (resolve.TooManyVariables at) =
    refused (resolve_code (resolve.TooManyVariables at)) (at_place files at)
names_refusal files (resolve.NoOperator name) = refused (resolve_code (resolve.NoOperator name)) (detail name)
names_refusal files (resolve.NotAVariable name at) =
    refused (resolve_code (resolve.NotAVariable name at)) (detail name ++ at_place files at)
names_refusal files (resolve.NoSubstitute name at) =
    refused (resolve_code (resolve.NoSubstitute name at)) (detail name ++ at_place files at)
names_refusal files resolve.NoMemory = []
