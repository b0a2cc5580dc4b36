use Rattle.std.proofs.Common.{ap, subst}
use Rattle.base_core.specs.declared.place.Place.{Place}
use Rattle.eval_meanings.specs.Answers.{Tells}
use Rattle.eval_meanings.specs.Sets.{IntervalDescribed}
use Rattle.names_terms.specs.Terms.{place_of}
use Rattle.eval_parts.proofs.answered.interval_of.Goals as goal

pub returns-clause-fine : goal.returns-clause-fine
returns-clause-fine c = λ at.
    subst (λ (p : Place). Tells c.interval.result (IntervalDescribed at p (place_of c.args.last.now) c.args.left.now c.args.right.now)) (ap place_of c.first.view_is)
    (subst (λ (q : Place). Tells c.interval.result (IntervalDescribed at c.first.inside.at q c.args.left.now c.args.right.now)) (ap place_of c.last.view_is) (c.interval.ensures.fine at))
