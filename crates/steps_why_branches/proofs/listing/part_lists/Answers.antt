use Rattle.steps_why_branches.proofs.FoundParts.{after_ended, after_passed, arms_full, arms_more, arms_none, gone_full, gone_on, members_full, members_more, members_none, none_gone, turns_begin, turns_go_on}
use Rattle.steps_why_branches.proofs.FoundTests.{after_ended_test, after_passed_test, tests_full, tests_more, tests_none}
use Rattle.steps_why_branches.proofs.listing.part_lists.Goals as goal

pub returns-clause-members : goal.returns-clause-members
returns-clause-members c = λ k p n. (members_none k p n, λ vs v xs s h. members_more k p n vs v xs s h, λ vs v xs l s h. members_full k p n vs v xs l s h)

pub returns-clause-arms : goal.returns-clause-arms
returns-clause-arms c = λ g sp d k p. (arms_none g sp d k p, λ es e xs zs s a b. arms_more g sp d k p es e xs zs s a b, λ es e xs l s a. arms_full g sp d k p es e xs l s a)

pub returns-clause-parts : goal.returns-clause-parts
returns-clause-parts c = λ g sp d k e. (
  none_gone g sp d k e,
  λ ps y ys zs h s a b. gone_on g sp d k e ps y ys zs h s a b,
  λ ps y ys h s a. gone_full g sp d k e ps y ys h s a,
  λ y q zs i b. after_passed g sp d k e y q zs i b,
  λ y q s w i l. after_ended g sp d k e y q s w i l,
)

pub returns-clause-conjunctions : goal.returns-clause-conjunctions
returns-clause-conjunctions c = λ g sp d k p l. (turns_begin g sp d k p l, λ es e xs ys a b. turns_go_on g sp d k p es e xs ys l a b)

pub returns-clause-tests : goal.returns-clause-tests
returns-clause-tests c = λ g d k e. (
  tests_none g d k e,
  λ ps y ys zs h s a b. tests_more g d k e ps y ys zs h s a b,
  λ ps y ys h s a. tests_full g d k e ps y ys h s a,
  λ y q s w i l. after_ended_test g d k e y q s w l i,
  λ i y q r z j l known now h m. after_passed_test g d k e i q known now l y j r h z m,
)
