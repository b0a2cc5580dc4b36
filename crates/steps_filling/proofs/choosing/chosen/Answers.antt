use Rattle.std.proofs.Common.{inl}
use Rattle.values_sets.specs.Membership.{Belongs}
use Rattle.steps_filling.proofs.FillingLemmas.{one_by_test}
use Rattle.steps_filling.proofs.choosing.chosen.Goals as goal

pub returns-in_ok-one_if-in-Some-clause-found : goal.returns-in_ok-one_if-in-Some-clause-found
returns-in_ok-one_if-in-Some-clause-found c =
    let known = c.in-Some.known.now in
    inl (known, c.in-Some.ensures, one_by_test (Belongs c.args.set known) c.args.places c.in_ok-one_if-in-Some.field-0.items c.member.result c.member.ensures c.in_ok-one_if-in-Some.ensures)
