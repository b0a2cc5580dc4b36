use Rattle.std.proofs.Common.{◌<◌, ◌-◌, refl, arith}
use Rattle.reading_trees.specs.declared.operators.PrefixOperator.TheVariants as prefix
use Rattle.names_terms.specs.declared.level.Level.TheVariants as levels
use Rattle.names_terms.specs.Terms as term
use Rattle.eval_meanings.specs.Evaluates.{Evaluates}
use Rattle.eval_meanings.specs.Unchanged.{unchanged_of}
use Rattle.eval_meanings.specs.Reads.{Reads}
use Rattle.eval_parts.specs.Scenes.{context, table}
use Rattle.eval_parts.proofs.FollowingLemmas.{unchanged_above}
use Rattle.eval_terms.proofs.Levels.{reads_node}
use Rattle.actions_rows.proofs.TestLemmas.{tested_reads, tested_same}
use Rattle.actions_rows.proofs.differing.unchanged_truth.Goals as goal

pub stays_same-requires : goal.stays_same-requires
stays_same-requires c =
    let some : 0 < c.args.depth = omega (arith, c.if-depth-eq0.false) in
    let e = c.args.term.now in
    let read = reads_node (table c.args.scene) c.args.depth (context c.args.scene) c.args.at levels.Action (term.Prefix prefix.Unchanged e) (unchanged_of c.args.at e) refl some c.requires.read in
    tested_reads (table c.args.scene) (Reads (table c.args.scene) (c.args.depth - 1)) (context c.args.scene) c.args.at e c.requires.tested read

pub returns : goal.returns
returns c =
    let some : 0 < c.args.depth = omega (arith, c.if-depth-eq0.false) in
    let e = c.args.term.now in
    let r = c.stays_same.result in
    unchanged_above (table c.args.scene) c.args.depth (context c.args.scene) c.args.at e r some
    (tested_same (table c.args.scene) (Evaluates (table c.args.scene) (c.args.depth - 1)) (context c.args.scene) c.args.at e r c.requires.tested c.stays_same.ensures)
