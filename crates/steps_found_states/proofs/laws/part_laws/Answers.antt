use Rattle.steps_found_states.proofs.Opened.{walked_refused, walked_one_of, walked_all_so}
use Rattle.steps_found_states.proofs.Inner.{part_grounds, part_leads, all_grounds, all_fix}
use Rattle.steps_found_states.proofs.Changes.{changing_grounds, walked_changing, walked_changing_refused}
use Rattle.steps_found_states.proofs.laws.part_laws.Goals as goal

pub returns-clause-openings : goal.returns-clause-openings
returns-clause-openings c = λ g d sees B p c a gr. (
  walked_refused g d sees B p c a gr,
  λ es r h w. walked_one_of g d sees B p c a gr es h r w,
  λ es r h w. walked_all_so g d sees B p c a gr es h (all_fix g d sees B p c a gr es h) r w,
)

pub returns-clause-grounds : goal.returns-clause-grounds
returns-clause-grounds c = λ g d sees B p c a gr. (
  λ es e h m. (part_grounds g d sees B p c a gr es h e m, part_leads g d sees B p c a gr es h e m),
  λ es h. (all_grounds g d sees B p c a gr es h, all_fix g d sees B p c a gr es h),
)

pub returns-clause-changes : goal.returns-clause-changes
returns-clause-changes c = λ g d sees B p c a gr e v i. (
  changing_grounds g d sees B p c a gr e v i,
  walked_changing_refused g d sees B p c a gr e v i,
  λ qs r w b. walked_changing g d sees B p c a gr e v i qs w r b,
)
