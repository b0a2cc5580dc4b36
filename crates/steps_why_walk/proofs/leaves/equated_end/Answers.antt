use Rattle.std.proofs.Common.{◌≡◌, Bool, Some, inl, inr, map, subst, sym}
use Rattle.values_core.specs.Data.{Val}
use Rattle.actions_rows.specs.Rows.{part_term}
use Rattle.steps_why_walk.specs.Ends.{fail_end}
use denote.Ref.{Bor}
use Rattle.std.specs.Prelude.{◌↔◌, IsTrue}
use Rattle.steps_filling.proofs.FillingLemmas.{same_by_test}
use Rattle.steps_why_branches.specs.declared.why.WhyKind.TheVariants as why
use Rattle.steps_why_walk.proofs.Keeping.{ok_then}
use Rattle.steps_why_walk.proofs.LeafRows.{end_by_test}
use Rattle.steps_why_walk.proofs.leaves.equated_end.Goals as goal

abbrev value : Bor Val → Val
value x = x.now

pub returns-in-Some : goal.returns-in-Some
returns-in-Some c =
    let known = c.in-Some.known.now in
    let vs = map value c.args.slots.now in
    let failing = fail_end c.args.sparing c.args.places vs (part_term c.args.part) (why.Differs c.args.number) (Some c.args.value) in
    let same : IsTrue c.eq-same.result ↔ (known ≡ c.args.value) = subst (λ (b : Bool). IsTrue b ↔ (known ≡ c.args.value)) (sym c.eq-same.ensures) (same_by_test known c.args.value) in
    ok_then c.held_end.result _ _ (λ x h. inl (known, c.in-Some.ensures, end_by_test (known ≡ c.args.value) c.args.places failing x c.eq-same.result same h)) c.held_end.ensures

pub returns-in-None : goal.returns-in-None
returns-in-None c = ok_then c.filled_end.result _ _ (λ x h. inr (c.in-None.ensures, c.is_value.ensures, h)) c.filled_end.ensures
