use Rattle.std.proofs.Common.{◌∙◌, sym}
use Rattle.names_meanings.specs.Around.{takes}
use Rattle.names_meanings.proofs.OwnCalls.{may_no_operator, may_not_bare, may_by_level}
use Rattle.names_meanings.proofs.own.may_use_itself.Goals as goal

pub returns-in-Operator : goal.returns-in-Operator
returns-in-Operator c = may_no_operator (takes c.args.walk.now) c.args.definition.now c.in-Operator.is

pub returns-then-not-applies : goal.returns-then-not-applies
returns-then-not-applies c = may_not_bare (takes c.args.walk.now) c.args.definition.now c.in-Function.is (sym c.applies.ensures ∙ c.if-not-applies.true)

pub returns-in_ok-rises-in-Function : goal.returns-in_ok-rises-in-Function
returns-in_ok-rises-in-Function c =
    may_by_level (takes c.args.walk.now) c.args.definition.now c.in_ok-rises-in-Function.rises c.in-Function.is (sym c.applies.ensures ∙ c.if-not-applies.false) c.in_ok-rises-in-Function.ensures
