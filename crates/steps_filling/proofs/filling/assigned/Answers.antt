use Rattle.std.proofs.Common.{◌≡◌, Bool, inl, subst, sym}
use Rattle.std.specs.Prelude.{◌↔◌, IsTrue}
use Rattle.steps_filling.proofs.FillingLemmas.{ok_then, one_by_test, same_by_test}
use Rattle.steps_filling.proofs.filling.assigned.Goals as goal

pub returns-in-Some : goal.returns-in-Some
returns-in-Some c =
    let known = c.in-Some.known.now in
    let same : IsTrue c.eq.result ↔ (known ≡ c.args.value) = subst (λ (b : Bool). IsTrue b ↔ (known ≡ c.args.value)) (sym c.eq.ensures) (same_by_test known c.args.value) in
    ok_then c.one_if.result _ _ (λ x h. inl (known, c.in-Some.ensures, one_by_test (known ≡ c.args.value) c.args.places x.items c.eq.result same h)) c.one_if.ensures
