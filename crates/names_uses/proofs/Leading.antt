-- Uses that lead from one definition to another are the same among numbers and in the program.
use Rattle.std.specs.Prelude.{◌↔◌, ℕ, List}
use Rattle.reading_trees.specs.declared.config.Config.{Config}
use Rattle.reading_trees.specs.declared.module.Program.{Program}
use Rattle.names_program.specs.Uses as program
use Rattle.names_program.specs.Uses.{LeadsTo, UsesDefinition}
use Rattle.base_use_order.specs.Uses as order
use Rattle.base_use_order.specs.Uses.{Leads, Uses}

module _ (p : Program) (c : Config) (uses : List (List ℕ)) (exact : (i j : ℕ) → Uses uses i j ↔ UsesDefinition p c i j) where
  leads_to : (i j : ℕ) → Leads uses i j → LeadsTo p c i j
  leads_to _ _ (order.direct i j u) = program.at_once i j ((exact i j).0 u)
  leads_to _ _ (order.through i j k u rest) = program.through i j k ((exact i j).0 u) (leads_to j k rest)

  led_to : (i j : ℕ) → LeadsTo p c i j → Leads uses i j
  led_to _ _ (program.at_once i j u) = order.direct i j ((exact i j).1 u)
  led_to _ _ (program.through i j k u rest) = order.through i j k ((exact i j).1 u) (led_to j k rest)

  pub leads_exact : (i j : ℕ) → Leads uses i j ↔ LeadsTo p c i j
  leads_exact i j = (leads_to i j, led_to i j)
