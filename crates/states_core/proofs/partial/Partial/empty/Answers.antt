use Rattle.std.proofs.Common.{None, ap, sym, ◌∙◌, ◌++◌, ◌∷◌, []}
use Rattle.std.proofs.lemmas.List.{replicate_more}
use Rattle.states_core.proofs.partial.Partial.empty.Goals as goal

pub loop-preserved : goal.loop-preserved
loop-preserved c = c.in_ok-push.ensures.items ∙ ap (λ ps. ps ++ None ∷ []) c.loop.invariant ∙ replicate_more c.loop.counter None
