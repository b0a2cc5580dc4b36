use Rattle.std.proofs.Common.{◌∙◌, ap, sym}
use Rattle.actions_meanings.specs.declared.which.Which.TheVariants as which
use Rattle.actions_meanings.specs.Forms.{target}
use Rattle.names_terms.specs.declared.term.Step.{Step}
use Rattle.names_terms.specs.Terms.{Placed, Postfix}
use Rattle.names_terms.specs.TermViews.{node_view, step_view}
use Rattle.actions_forms.proofs.Choosing.{alone}
use Rattle.actions_forms.proofs.kinds.primed_alone.Goals as goal

pub returns-then-is_empty : goal.returns-then-is_empty
returns-then-is_empty c at l =
    alone at l c.args.base.now c.base.inside.at c.base.inside.level (node_view c.deref.result.now) c.args.steps.now c.variable_in.result (ap (λ n. Placed c.base.inside.at c.base.inside.level (node_view n)) c.deref.ensures ∙ c.base.view_is) (sym c.is_empty.ensures ∙ c.if-is_empty.true) c.variable_in.ensures
    ∙ ap (λ (s : Step). target which.Action (Placed at l (Postfix c.args.base.now c.args.steps.now (step_view s)))) (sym c.in-Prime.is)
