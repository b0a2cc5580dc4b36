use Rattle.std.specs.Prelude.{IfErr}
use Rattle.std.proofs.Common.{rules}
use Rattle.reading_trees.specs.Begun.{Begun}
use Rattle.reading_machine.specs.Beginnings.{FittingBegun}
use Rattle.reading_expressions.specs.Nesting.{Shallow}
use Rattle.reading_expressions.specs.Refused.{Refuses}
use Rattle.reading_machine.specs.declared.frame.Mode.TheVariants as mode
use Rattle.reading_machine.proofs.FittingEnds.{ran_fits}
use Rattle.reading_machine.proofs.MeetsThere.{clashed_meets}
use Rattle.reading_expressions.proofs.ReadLaws.{expression_on, expression_only, expression_spelled}
use Rattle.reading_expressions.proofs.RefusedSo.{TextsFrom, texts_of_expressions, expression_goes, refused_result}
use Rattle.reading_expressions.proofs.UnendedTexts.{unended_result}
use Rattle.reading_expressions.proofs.reader.expression.Goals as goal

texts : TextsFrom mode.Want Begun FittingBegun Shallow
texts = texts_of_expressions ran_fits clashed_meets

pub returns-in-Expression-clause-spelled : goal.returns-in-Expression-clause-spelled
returns-in-Expression-clause-spelled c =
    expression_spelled c.args.laid.now c.args.from c.in-Expression.behind c.in-Expression.e c.in_ok-e.field-0 c.in_ok-e.ensures.read c.in-Expression.is

pub returns-in-Expression-clause-ahead : goal.returns-in-Expression-clause-ahead
returns-in-Expression-clause-ahead c =
    expression_on c.args.laid.now c.args.from c.in-Expression.behind c.in-Expression.e c.in_ok-e.field-0 c.requires c.in_ok-e.ensures.read c.in-Expression.is

pub returns-clause-refused : goal.returns-clause-refused
returns-clause-refused c = absurd (expression_only _ _ _ _ _ c.in_ok-e.ensures.read c.in-Definition.is)

pub returns-in-Expression-clause-far : goal.returns-in-Expression-clause-far
returns-in-Expression-clause-far c =
    expression_goes mode.Want Begun FittingBegun Shallow texts c.args.laid.now c.args.from c.in-Expression.behind c.in-Expression.e c.in_ok-e.field-0 c.in_ok-e.ensures.read c.in-Expression.is

pub returns-in_err-e-clause-refused : goal.returns-in_err-e-clause-refused
returns-in_err-e-clause-refused c =
    let q : IfErr c.from_residual.result (λ e. Refuses c.args.laid.now c.args.from mode.Want e) = search rules in
    refused_result mode.Want Begun FittingBegun Shallow texts c.args.laid.now c.args.from c.from_residual.result c.requires q

pub returns-in_err-e-clause-unended : goal.returns-in_err-e-clause-unended
returns-in_err-e-clause-unended c =
    let q : IfErr c.from_residual.result (λ e. Refuses c.args.laid.now c.args.from mode.Want e) = search rules in
    unended_result c.args.laid.now c.args.from c.from_residual.result q

pub returns-clause-unended : goal.returns-clause-unended
returns-clause-unended c = absurd (expression_only _ _ _ _ _ c.in_ok-e.ensures.read c.in-Definition.is)
