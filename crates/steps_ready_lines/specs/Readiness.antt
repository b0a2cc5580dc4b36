-- What is ready for the search: a specification that resolving gave, with the values that stand in it, whose actions have their forms.
use Rattle.std.specs.Prelude.{◌≡◌, ℕ, List, Option, Ok, length}
use Rattle.reading_trees.specs.declared.config.Config.{Config}
use Rattle.reading_trees.specs.declared.module.Program.{Program}
use Rattle.names_terms.specs.declared.spec.Spec.{Spec}
use Rattle.names_terms.specs.Lists.{terms_list}
use Rattle.names_program.specs.InUnits.{assumptions_in}
use Rattle.names_resolving.specs.Resolved.{Resolved}
use Rattle.names_specification_laws.specs.IsSpec.{IsSpec}
use Rattle.names_resolved_laws.specs.InOrder.{IsWellFormed}
use Rattle.eval_known.specs.Known.{KnowsSpecification}
use Rattle.steps_forms.specs.Forms.{AreWhole}
use Rattle.steps_ready_defs.specs.Ready.{IsReadySpec}

abbrev pub WholeAreReady : Type 0
WholeAreReady = (s : Spec) → IsSpec s → KnowsSpecification s → AreWhole s → IsReadySpec s

-- what resolving gives for a program of the reader
abbrev pub ResolvedAreReady : Type 0
ResolvedAreReady = (p : Program) (c : Config) (silent : Option (List ℕ)) (s : Spec) → IsWellFormed p → Resolved p c silent (Ok s) → KnowsSpecification s → AreWhole s → IsReadySpec s

-- a specification has as many assumptions as its program
abbrev pub AssumptionsAreCounted : Type 0
AssumptionsAreCounted = (p : Program) (c : Config) (silent : Option (List ℕ)) (s : Spec) → Resolved p c silent (Ok s) → length (terms_list s.assumes) ≡ length (assumptions_in p.units)
