use Rattle.std.proofs.Common.{rules}
use Rattle.names_terms.specs.Terms.{Prefix, Quantified}
use Rattle.actions_forms.specs.Kinds.{IsKind}
use Rattle.actions_forms.proofs.kinds.kind_of.Goals as goal

pub returns-in-Quantified : goal.returns-in-Quantified
returns-in-Quantified c =
    let kind : IsKind c.args.which (Quantified c.in-Quantified.quantifier c.in-Quantified.bounds c.in-Quantified.body) c.quantified_kind.result = c.quantified_kind.ensures c.args.which in
    search rules

pub returns-in-Prefix : goal.returns-in-Prefix
returns-in-Prefix c =
    let kind : IsKind c.args.which (Prefix c.in-Prefix.operator c.in-Prefix.term) c.prefix_kind.result = c.prefix_kind.ensures c.args.which in
    search rules
