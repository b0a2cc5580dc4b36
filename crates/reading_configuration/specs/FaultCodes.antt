-- The code and the name of what a text that is no configuration has.
use Rattle.std.specs.Prelude.{ℕ, List, codes}
use Rattle.reading_configuration.specs.declared.fault.ConfigKind.{ConfigKind}
use Rattle.reading_configuration.specs.declared.fault.ConfigKind.TheVariants as config

abbrev pub config_code : ConfigKind → List ℕ
config_code config.Syntax = codes "G1 Syntax"
config_code (config.Unsupported keyword) = codes "G2 Unsupported"
config_code (config.Twice word) = codes "G3 Twice"
config_code config.NoBehaviour = codes "G4 NoBehaviour"
