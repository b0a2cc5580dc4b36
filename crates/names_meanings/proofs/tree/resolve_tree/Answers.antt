use Rattle.std.proofs.Common.{◌∙◌}
use Rattle.names_meanings.proofs.Whole.{all_grown, all_unnamed, all_means, all_fine, all_refused, whole_below, whole_smaller}
use Rattle.names_meanings.proofs.tree.resolve_tree.Goals as goal

pub returns-clause-grown : goal.returns-clause-grown
returns-clause-grown c =
    all_grown c.new-walk.result c.resolve_in-outcome.new.walk c.args.table.now c.into_table.result c.args.params.now c.args.tree.now c.resolve_in-outcome.result (c.new-walk.ensures.table ∙ c.replace-before.ensures.value) c.into_table.ensures.table c.resolve_in-outcome.ensures.fine

pub returns-clause-means : goal.returns-clause-means
returns-clause-means c =
    all_means c.new-walk.result c.resolve_in-outcome.new.walk c.args.names.now c.args.table.now c.into_table.result c.args.params.now c.args.tree.now c.resolve_in-outcome.result c.new-walk.ensures.names c.new-walk.ensures.scope (c.new-walk.ensures.table ∙ c.replace-before.ensures.value) c.into_table.ensures.table c.resolve_in-outcome.ensures.fine

pub returns-clause-fine : goal.returns-clause-fine
returns-clause-fine c =
    all_fine c.new-walk.result c.resolve_in-outcome.new.walk c.args.names.now c.args.table.now c.args.params.now c.args.tree.now c.resolve_in-outcome.result c.new-walk.ensures.names c.new-walk.ensures.scope (c.new-walk.ensures.table ∙ c.replace-before.ensures.value) c.resolve_in-outcome.ensures.fine

pub returns-clause-refused : goal.returns-clause-refused
returns-clause-refused c =
    all_refused c.new-walk.result c.args.names.now c.args.table.now c.args.params.now c.args.tree.now c.resolve_in-outcome.result c.new-walk.ensures.names c.new-walk.ensures.scope (c.new-walk.ensures.table ∙ c.replace-before.ensures.value) c.resolve_in-outcome.ensures.refused

pub returns-clause-below : goal.returns-clause-below
returns-clause-below c =
    whole_below c.new-walk.result c.resolve_in-outcome.new.walk c.args.names.now c.into_table.result c.args.params.now c.args.tree.now c.resolve_in-outcome.result c.new-walk.ensures.names c.new-walk.ensures.scope c.into_table.ensures.table
    c.into_table.ensures.known c.resolve_in-outcome.ensures.fine

pub returns-clause-smaller : goal.returns-clause-smaller
returns-clause-smaller c =
    whole_smaller c.new-walk.result c.resolve_in-outcome.new.walk c.args.table.now c.into_table.result c.args.params.now c.args.tree.now c.resolve_in-outcome.result (c.new-walk.ensures.table ∙ c.replace-before.ensures.value) c.into_table.ensures.table c.resolve_in-outcome.ensures.fine

pub returns-clause-unnamed : goal.returns-clause-unnamed
returns-clause-unnamed c =
    all_unnamed c.new-walk.result c.resolve_in-outcome.new.walk c.args.table.now c.into_table.result c.args.params.now c.args.tree.now c.resolve_in-outcome.result (c.new-walk.ensures.table ∙ c.replace-before.ensures.value) c.into_table.ensures.table c.resolve_in-outcome.ensures.fine
