use Rattle.std.proofs.Common.{◌∙◌, ap, List, map}
use Rattle.std.specs.Borrow.{Bor}
use Rattle.reading_trees.specs.declared.expr.Definition.{Definition}
use Rattle.reading_trees.specs.declared.module.Declared.{Declared}
use Rattle.names_program.specs.InUnits.{definitions_in}
use Rattle.names_program.proofs.NameLemmas.{names_made}
use Rattle.names_program.proofs.WithinLemmas.{names_within}
use Rattle.names_program.proofs.names.program_names.Goals as goal

pub returns-clause-are : goal.returns-clause-are
returns-clause-are c =
    let declared : List (Bor Declared) → List Declared = map (λ (d : Bor Declared). d.now) in
    let defined : List (Bor Definition) → List Definition = map (λ (d : Bor Definition). d.now) in
    names_made c.args.program.now c.args.config.now c.args.values.now _ _ _ _ _ _ _ _ _ _ _ _ c.items-givens.ensures (ap declared c.deref.ensures.value ∙ c.in_ok-variables.ensures) (ap declared c.deref-3.ensures.value ∙ c.in_ok-constants.ensures) (ap defined c.deref-2.ensures.value ∙ c.in_ok-definitions.ensures) (ap defined c.deref-4.ensures.value ∙ c.in_ok-definitions.ensures) (ap defined c.deref-5.ensures.value ∙ c.in_ok-definitions.ensures) c.in_ok-brought.ensures c.new-names.ensures c.in_ok-push_variables.ensures c.in_ok-push_constants.ensures c.in_ok-push_definitions.ensures c.in_ok-push_standard.ensures

pub returns-clause-within : goal.returns-clause-within
returns-clause-within c =
    let defined : List (Bor Definition) → List Definition = map (λ (d : Bor Definition). d.now) in
    names_within (definitions_in c.args.program.now.units) c.args.program.now.standard c.args.values.now _ _ _ _ _ _ _ _ _ _ _ _ (ap defined c.deref-2.ensures.value ∙ c.in_ok-definitions.ensures) (ap defined c.deref-4.ensures.value ∙ c.in_ok-definitions.ensures) (ap defined c.deref-5.ensures.value ∙ c.in_ok-definitions.ensures) c.in_ok-brought.ensures c.new-names.ensures c.in_ok-push_variables.ensures c.in_ok-push_constants.ensures c.in_ok-push_definitions.ensures c.in_ok-push_standard.ensures
