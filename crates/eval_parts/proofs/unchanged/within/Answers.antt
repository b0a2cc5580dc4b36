use Rattle.std.proofs.Common.{List, ap, sym, ◌∙◌}
use Rattle.std.specs.List.{take-map}
use Rattle.values_core.specs.Data.{Val}
use Rattle.eval_parts.specs.Scenes.{context, with_slots}
use Rattle.eval_parts.proofs.unchanged.within.Goals as goal

pub returns-clause-context : goal.returns-clause-context
returns-clause-context c =
    c.with_slots.ensures.context ∙ ap (λ (vs : List Val). with_slots (context c.args.scene) vs) (sym (take-map (λ v. v.now) c.args.kept c.args.scene.slots.now))
