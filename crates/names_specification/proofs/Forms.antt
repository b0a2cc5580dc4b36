-- A configuration that is looked through has the form that it had.
use Rattle.std.proofs.Common.{ap, inl, inr}
use Rattle.std.specs.Prelude.{option_map}
use Rattle.reading_trees.specs.declared.config.Config.{Config}
use Rattle.reading_trees.specs.declared.module.Program.{Program}
use Rattle.names_resolving.specs.Resolved.{IsOneForm}
use Rattle.names_specification.specs.Behind.{looked_through, specification_of}

pub same_form : (p : Program) (c : Config) → IsOneForm c → IsOneForm (looked_through p c)
same_form p c (inl h) = inl (specification_of p c h.0, ap (option_map (specification_of p c)) h.1, h.2, h.3)
same_form p c (inr h) = inr (h.0, h.1, ap (option_map (specification_of p c)) h.2, h.3, h.4)
