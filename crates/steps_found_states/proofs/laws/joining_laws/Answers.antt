use Rattle.actions_meanings.specs.Outcomes.{Fixes}
use Rattle.steps_found_states.specs.Walks.{FailsOf, HoldsOf}
use Rattle.steps_found_states.proofs.Finding.{each_none, each_more, each_refused}
use Rattle.steps_found_states.proofs.Several.{way_begins, way_goes_on, way_refused}
use Rattle.steps_found_states.proofs.Choice.{any_begins, any_goes_on, any_refused}
use Rattle.steps_found_states.proofs.laws.joining_laws.Goals as goal

pub returns-clause-choices : goal.returns-clause-choices
returns-clause-choices c = λ g d sees B p a l. (
  any_begins g d sees B p a,
  λ es e qs rs x h w. any_goes_on g d sees B p a es e qs rs l x h w,
  any_refused g d sees B p a,
)

pub returns-clause-conjunctions : goal.returns-clause-conjunctions
returns-clause-conjunctions c = λ g d sees B p. (
  λ es C h x. way_begins g d sees B p es h C x,
  way_goes_on g d sees B p,
  way_refused g d sees B p,
)

pub returns-clause-places : goal.returns-clause-places
returns-clause-places c = λ g d sees B c a. (
  each_none sees (Fixes g a B) (HoldsOf g d c a) (FailsOf g d B c a),
  λ ps q rs ss h w. each_more sees ps q (Fixes g a B) (HoldsOf g d c a) (FailsOf g d B c a) rs ss h w,
  λ ps q f m w. each_refused sees ps q (Fixes g a B) (HoldsOf g d c a) (FailsOf g d B c a) f m w,
)
