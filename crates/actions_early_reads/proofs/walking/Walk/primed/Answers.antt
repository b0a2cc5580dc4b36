use Rattle.std.proofs.Common.{◌∙◌, ap, sym}
use Rattle.actions_meanings.specs.Outcomes.{too_early}
use Rattle.eval_meanings.specs.Functions.{steps_place}
use Rattle.names_terms.specs.Terms.{place_of}
use Rattle.names_terms.specs.TermViews.{steps_of}
use Rattle.actions_early_reads.proofs.walking.Walk.primed.Goals as goal

pub returns : goal.returns
returns c bound k walked fits =
    ap (too_early (steps_place (place_of c.args.base.now) (steps_of c.args.steps.now))) (c.in_ok-variable.ensures bound k walked fits) ∙ ap (λ p. too_early p c.in_ok-variable.variable) (sym c.place_behind.ensures) ∙ sym c.too_early.ensures
