use Rattle.std.proofs.Common.{◌∙◌, sym}
use Rattle.names_whole_programs.proofs.Expansions.{if_expanded, plain_to}
use Rattle.names_whole_programs.proofs.expanding.expand.Goals as goal

pub returns-then-has_instances : goal.returns-then-has_instances
returns-then-has_instances c = if_expanded c.args.wide c.args.whole c.expanded.result c.requires c.expanded.ensures

pub returns : goal.returns
returns c = plain_to c.args.wide c.args.whole c.requires (sym c.has_instances.ensures ∙ c.if-has_instances.false)
