use Rattle.std.proofs.Common.{◌∙◌, ap, sym}
use Rattle.names_scopes.specs.Mentions.{is_one_of}
use Rattle.names_meanings.proofs.OwnCalls.{own_operator, own_hidden, own_function}
use Rattle.names_meanings.proofs.own.is_own_function.Goals as goal

pub returns-in-Operator : goal.returns-in-Operator
returns-in-Operator c = own_operator c.args.definition.now c.in-Operator.is

pub returns-then-is_one_of : goal.returns-then-is_one_of
returns-then-is_one_of c =
    own_hidden c.args.definition.now c.in-Function.is (ap (λ ns. is_one_of c.args.definition.now.name ns) (sym c.items.ensures) ∙ sym c.is_one_of.ensures ∙ c.if-is_one_of.true)

pub returns-else-is_one_of : goal.returns-else-is_one_of
returns-else-is_one_of c =
    own_function c.args.definition.now c.mentions.result c.in-Function.is (ap (λ ns. is_one_of c.args.definition.now.name ns) (sym c.items.ensures) ∙ sym c.is_one_of.ensures ∙ c.if-is_one_of.false) c.mentions.ensures
