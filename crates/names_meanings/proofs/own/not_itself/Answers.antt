use Rattle.std.proofs.Common.{◌∙◌, ap, sym}
use Rattle.names_scopes.specs.Mentions.{is_one_of}
use Rattle.names_meanings.specs.Around.{takes}
use Rattle.names_meanings.proofs.OwnCalls.{hidden_fine, apart_fine}
use Rattle.names_meanings.proofs.own.not_itself.Goals as goal

pub returns-then-is_one_of-clause-fine : goal.returns-then-is_one_of-clause-fine
returns-then-is_one_of-clause-fine c =
    hidden_fine (takes c.args.walk.now) c.args.definition.now.form c.args.definition.now.name c.args.definition.now.at c.args.definition.now.params c.args.definition.now.body (ap (λ ns. is_one_of c.args.definition.now.name ns) (sym c.items.ensures) ∙ sym c.is_one_of.ensures ∙ c.if-is_one_of.true)

pub returns-then-not-mentions-clause-fine : goal.returns-then-not-mentions-clause-fine
returns-then-not-mentions-clause-fine c =
    apart_fine (takes c.args.walk.now) c.args.definition.now.form c.args.definition.now.name c.args.definition.now.at c.args.definition.now.params c.args.definition.now.body (ap (λ ns. is_one_of c.args.definition.now.name ns) (sym c.items.ensures) ∙ sym c.is_one_of.ensures ∙ c.if-is_one_of.false) (sym c.mentions.ensures ∙ c.if-not-mentions.true)
