use Rattle.std.proofs.Common.{◌≡◌, refl, subst}
use Rattle.values_core.specs.Data.{Val}
use Rattle.values_sets.specs.Membership.{Belongs}
use Rattle.steps_found_states.specs.Filling.{AgreesAt}
use Rattle.steps_found_states.proofs.Filling.{gets_same, gets_other, gets_new, gets_unseen, gets_none, gets_more, gets_seen, gets_unseen_whole}
use Rattle.steps_found_states.proofs.Simple.{gets_listed}
use Rattle.steps_found_states.proofs.laws.value_laws.Goals as goal

pub returns-clause-values : goal.returns-clause-values
returns-clause-values c = λ sees B p x v f a. (
  λ e. gets_same sees B p x (λ w. w ≡ v) v f a e refl,
  λ u e n. gets_other sees B p x (λ w. w ≡ v) u e n,
  λ l e h k. gets_new sees B p x (λ w. w ≡ v) v f a l e h k refl (λ w i. i),
  λ n. gets_unseen sees B p x (λ w. w ≡ v) (λ w i h. n (subst (λ (u : Val). AgreesAt sees x u) i h)),
)

pub returns-clause-members : goal.returns-clause-members
returns-clause-members c = λ sees B p x S v f a e. (gets_same sees B p x (Belongs S) v f a e, gets_other sees B p x (Belongs S) v e)

pub returns-clause-listed : goal.returns-clause-listed
returns-clause-listed c = λ sees B p x. (gets_none sees B p x, gets_more sees B p x, gets_listed sees B p x)

pub returns-clause-seen : goal.returns-clause-seen
returns-clause-seen c = λ sees B p x S see m i e. (λ qs h w. gets_seen sees B p x (Belongs S) see qs m i e h w, gets_unseen_whole sees B p x (Belongs S) see m i e)
