use Rattle.std.proofs.Common.{◌<◌, refl, arith}
use Rattle.names_terms.specs.declared.level.Level.TheVariants as levels
use Rattle.names_terms.specs.Terms as term
use Rattle.eval_parts.specs.Following.{variable_at}
use Rattle.eval_parts.specs.Scenes.{context, table}
use Rattle.eval_terms.proofs.Levels.{evaluates_node, reads_node}
use Rattle.actions_rows.proofs.values.kept_value.Goals as goal

pub variable-requires : goal.variable-requires
variable-requires c =
    let some : 0 < c.args.depth = omega (arith, c.if-depth-eq0.false) in
    reads_node (table c.args.scene) c.args.depth (context c.args.scene) c.args.at levels.State (term.Variable c.args.number.0) (variable_at c.args.at c.args.number.0) refl some c.requires

pub returns : goal.returns
returns c =
    let some : 0 < c.args.depth = omega (arith, c.if-depth-eq0.false) in
    evaluates_node (table c.args.scene) c.args.depth (context c.args.scene) c.args.at levels.State (term.Variable c.args.number.0) (variable_at c.args.at c.args.number.0) c.variable.result refl some c.variable.ensures
