-- For the prover: a program beside its definitions.
use Rattle.std.specs.Prelude.{◌≡◌, map}
use Rattle.names_program.specs.InUnits.{definitions_in}
use Rattle.names_specification.specs.declared.named.Named.{Named}

abbrev pub AreDefinitions : Named → Type 0
AreDefinitions n = map (λ d. d.now) n.definitions.now ≡ definitions_in n.program.now.units
