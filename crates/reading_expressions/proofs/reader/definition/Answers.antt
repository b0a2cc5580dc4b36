use Rattle.std.specs.Prelude.{IfErr}
use Rattle.std.proofs.Common.{rules}
use Rattle.reading_machine.specs.Beginnings.{BegunDefinition, FittingBegunDefinition}
use Rattle.reading_expressions.specs.Nesting.{ShallowDefinition}
use Rattle.reading_expressions.specs.Refused.{Refuses}
use Rattle.reading_machine.specs.declared.frame.Mode.TheVariants as mode
use Rattle.reading_machine.specs.declared.frame.Scope.TheVariants as scopes
use Rattle.reading_machine.proofs.FittingEnds.{definition_ran_fits}
use Rattle.reading_machine.proofs.MeetsThere.{definition_clash_meets}
use Rattle.reading_expressions.proofs.ReadLaws.{definition_fits, definition_on, definition_only, definition_spelled}
use Rattle.reading_expressions.proofs.RefusedSo.{TextsFrom, texts_of_definitions, definition_goes, refused_result}
use Rattle.reading_expressions.proofs.UnendedTexts.{unended_definition}
use Rattle.reading_expressions.proofs.reader.definition.Goals as goal

texts : TextsFrom (mode.DefinitionName scopes.Unit) BegunDefinition FittingBegunDefinition ShallowDefinition
texts = texts_of_definitions definition_ran_fits definition_clash_meets

pub returns-in-Definition-clause-spelled : goal.returns-in-Definition-clause-spelled
returns-in-Definition-clause-spelled c =
    definition_spelled c.args.laid.now c.args.from c.in-Definition.behind c.in-Definition.definition c.in_ok-definition.field-0 c.in_ok-definition.ensures.read c.in-Definition.is

pub returns-in-Definition-clause-fits : goal.returns-in-Definition-clause-fits
returns-in-Definition-clause-fits c =
    definition_fits c.args.laid.now c.args.from c.in-Definition.behind c.in-Definition.definition c.in_ok-definition.field-0 c.in_ok-definition.ensures.read c.in-Definition.is

pub returns-in-Definition-clause-ahead : goal.returns-in-Definition-clause-ahead
returns-in-Definition-clause-ahead c =
    definition_on c.args.laid.now c.args.from c.in-Definition.behind c.in-Definition.definition c.in_ok-definition.field-0 c.requires c.in_ok-definition.ensures.read c.in-Definition.is

pub returns-in-Definition-clause-far : goal.returns-in-Definition-clause-far
returns-in-Definition-clause-far c =
    definition_goes (mode.DefinitionName scopes.Unit) BegunDefinition FittingBegunDefinition ShallowDefinition texts
    c.args.laid.now c.args.from c.in-Definition.behind c.in-Definition.definition c.in_ok-definition.field-0 c.in_ok-definition.ensures.read c.in-Definition.is

pub returns-in_err-definition-clause-refused : goal.returns-in_err-definition-clause-refused
returns-in_err-definition-clause-refused c =
    let q : IfErr c.from_residual.result (λ e. Refuses c.args.laid.now c.args.from (mode.DefinitionName scopes.Unit) e) = search rules in
    refused_result (mode.DefinitionName scopes.Unit) BegunDefinition FittingBegunDefinition ShallowDefinition texts c.args.laid.now c.args.from c.from_residual.result c.requires q

pub returns-clause-refused : goal.returns-clause-refused
returns-clause-refused c = absurd (definition_only _ _ _ _ _ c.in_ok-definition.ensures.read c.in-Expression.is)

pub returns-in_err-definition-clause-unended : goal.returns-in_err-definition-clause-unended
returns-in_err-definition-clause-unended c =
    let q : IfErr c.from_residual.result (λ e. Refuses c.args.laid.now c.args.from (mode.DefinitionName scopes.Unit) e) = search rules in
    unended_definition c.args.laid.now c.args.from c.from_residual.result q

pub returns-clause-unended : goal.returns-clause-unended
returns-clause-unended c = absurd (definition_only _ _ _ _ _ c.in_ok-definition.ensures.read c.in-Expression.is)
