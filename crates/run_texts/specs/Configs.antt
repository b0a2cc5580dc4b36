-- The lines on configurations that are refused.
use Rattle.std.specs.Prelude.{ℕ, List, ◌++◌}
use Rattle.base_core.specs.declared.place.Place.{Place}
use Rattle.reading_configuration.specs.declared.fault.ConfigKind.{ConfigKind}
use Rattle.reading_configuration.specs.declared.fault.ConfigKind.TheVariants as config
use Rattle.reading_configuration.specs.FaultCodes.{config_code}
use Rattle.run_texts.specs.Places.{at_place, detail, refused}

-- the configuration's file stands in the list behind the program's
abbrev pub config_refusal : List (List ℕ) → ConfigKind → Place → List ℕ
config_refusal files config.Syntax at = refused (config_code config.Syntax) (at_place files at)
config_refusal files (config.Unsupported keyword) at =
    refused (config_code (config.Unsupported keyword)) (detail keyword ++ at_place files at)
config_refusal files (config.Twice word) at =
    refused (config_code (config.Twice word)) (detail word ++ at_place files at)
config_refusal files config.NoBehaviour at = refused (config_code config.NoBehaviour) (at_place files at)
