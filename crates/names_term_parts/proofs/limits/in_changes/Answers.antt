use Rattle.std.proofs.Common.{◌∙◌, ap, sym, [], ◌∷◌, ◌++◌, take}
use Rattle.std.proofs.lemmas.List.Sums.{fold-append}
use Rattle.names_terms.specs.TermViews.{changes_of}
use Rattle.names_terms.specs.Terms.{level_of}
use Rattle.names_term_parts.specs.Limits.{change_limits, no_temporal, path_limits}
use Rattle.names_term_parts.specs.FaultOrder.{held_all, held}
use Rattle.names_term_parts.proofs.Lists.{held_on, held_part, changes_held}
use Rattle.names_term_parts.proofs.limits.in_changes.Goals as goal

pub loop-change-preserved : goal.loop-change-preserved
loop-change-preserved c =
    let items = c.items-items.result.now in
    let x = c.change-item.result in
    let now = c.loop-change.found in
    let at = c.args.at in
    held_part c.in_path.result c.held-found.result at _ x.value c.held-found.ensures (ap (λ y. level_of y.value) c.change.view_is)
    ∙ ap (λ f. held_all f (no_temporal at x.value ∷ [])) (c.in_path.ensures ∙ ap (λ y. held_all now (path_limits at y.path)) c.change.view_is)
    ∙ sym (fold-append held now (path_limits at x.path) (no_temporal at x.value ∷ []))
    ∙ held_on now c.args.found (change_limits at (changes_of (take c.loop-change.change-index items))) (path_limits at x.path ++ no_temporal at x.value ∷ []) _ c.loop-change.invariant (changes_held at items c.loop-change.change-index x c.loop-change-test.true c.change-item.is)
