use Rattle.std.proofs.Common.{◌≡◌, ◌∙◌, refl, sym, ap, subst, [], map}
use Rattle.std.proofs.lemmas.Option.{slice_get_within}
use Rattle.values_core.specs.Data.{Val}
use Rattle.names_terms.specs.Terms.{Term}
use Rattle.actions_meanings.specs.declared.which.Which.TheVariants as which
use Rattle.steps_lines_defs.specs.Says.{setting}
use Rattle.steps_lines_defs.specs.Asks.{act_of}
use Rattle.steps_why_walk.specs.Walking.{EndsGrounded, IsOnward}
use Rattle.steps_why_walk.proofs.Keeping.{ok_then}
use Rattle.steps_why_not.specs.Lines.{standing}
use Rattle.steps_why_not.proofs.Passing.{act_ground, both_ends, next_ends, next_ground, stage_ground, stage_onward, then_ground}
use Rattle.steps_why_not.proofs.through.line_ends.Goals as goal
use denote.Ref.{Bor}

abbrev value : Bor Val → Val
value x = x.now

pub body_of-body-requires : goal.body_of-body-requires
body_of-body-requires c =
    let r = c.requires.fits.event (record { operator = c.in-Some.event.operator; arguments = c.in-Some.event.args }) (ap act_of c.in-Some.is) in
    slice_get_within c.args.spec.now.operators c.in-Some.event.operator r.0 r.1

pub walk_further-requires-clause-grounds : goal.walk_further-requires-clause-grounds
walk_further-requires-clause-grounds c =
    let g = c.args.spec.now in
    let s = c.args.from.now in
    let t = c.stage_of-stage in
    stage_ground t.result g s t.ensures.setting (t.ensures.state ∙ c.in_ok-whole.ensures) [] [] refl 400 g.next c.in_ok-start.start.items
    (next_ground c.orderly_law.ensures c.whole_law.ensures g c.requires.ready c.args.line.now c.requires.fits s c.requires.state c.args.places c.requires.updated c.args.sparing c.args.room c.requires.room c.in_ok-start.start.items c.in_ok-start.ensures (ap act_of c.in-None.is))

pub returns-in-None : goal.returns-in-None
returns-in-None c =
    let g = c.args.spec.now in
    let s = c.args.from.now in
    let t = c.stage_of-stage in
    ok_then c.walk_further.result _ _ (λ ends w. next_ends c.orderly_law.ensures c.whole_law.ensures g c.requires.ready c.args.line.now c.requires.fits s c.requires.state c.args.places c.requires.updated c.args.sparing c.args.room c.requires.room
    c.in_ok-start.start.items c.in_ok-start.ensures (ap act_of c.in-None.is) ends.items (stage_onward t.result g s t.ensures.setting (t.ensures.state ∙ c.in_ok-whole.ensures) [] [] refl 400 g.next c.args.sparing c.args.room c.in_ok-start.start.items ends.items w)) c.walk_further.ensures

pub walk_further-requires-in-Some-clause-grounds : goal.walk_further-requires-in-Some-clause-grounds
walk_further-requires-in-Some-clause-grounds c =
    let g = c.args.spec.now in
    let s = c.args.from.now in
    let t = c.stage_of-stage in
    let j = c.in-Some.event.operator in
    let vs = c.in-Some.event.args in
    let start = c.in_ok-start.start.items in
    let b = c.body_of-body.ensures in
    let same : map value c.deref.result.now ≡ vs = ap (map value) c.deref.ensures.value ∙ c.in_ok-slots-in-Some.ensures ∙ c.items-values.ensures in
    stage_ground t.result g s t.ensures.setting (t.ensures.state ∙ c.in_ok-whole.ensures) (map value c.deref.result.now) vs same 400 c.body_of-body.result.now start
    (subst (λ (e : Term). EndsGrounded (setting which.Action g) 400 (standing vs s, e) start) (sym b.2)
    (act_ground c.orderly_law.ensures c.whole_law.ensures g c.requires.ready c.args.line.now c.requires.fits s c.requires.state c.args.places c.requires.updated c.args.sparing c.args.room c.requires.room start c.in_ok-start.ensures j vs (ap act_of c.in-Some.is) b.0 b.1))

pub walk_further-requires-in-Some-2-clause-grounds : goal.walk_further-requires-in-Some-2-clause-grounds
walk_further-requires-in-Some-2-clause-grounds c =
    let g = c.args.spec.now in
    let s = c.args.from.now in
    let t = c.stage_of-stage in
    let j = c.in-Some.event.operator in
    let vs = c.in-Some.event.args in
    let start = c.in_ok-start.start.items in
    let found = c.in_ok-found-in-Some.found.items in
    let b = c.body_of-body.ensures in
    let same : map value c.deref.result.now ≡ vs = ap (map value) c.deref.ensures.value ∙ c.in_ok-slots-in-Some.ensures ∙ c.items-values.ensures in
    let state = t.ensures.state ∙ c.in_ok-whole.ensures in
    let w = subst (λ (e : Term). IsOnward (setting which.Action g) c.args.sparing c.args.room 400 (standing vs s, e) start found) b.2
    (stage_onward t.result g s t.ensures.setting state (map value c.deref.result.now) vs same 400 c.body_of-body.result.now c.args.sparing c.args.room start found c.in_ok-found-in-Some.ensures) in
    stage_ground t.result g s t.ensures.setting state [] [] refl 400 g.next found
    (then_ground c.orderly_law.ensures c.whole_law.ensures g c.requires.ready c.args.line.now c.requires.fits s c.requires.state c.args.places c.requires.updated c.args.sparing c.args.room c.requires.room start c.in_ok-start.ensures j vs (ap act_of c.in-Some.is) b.0 b.1 found w)

pub returns : goal.returns
returns c =
    let g = c.args.spec.now in
    let s = c.args.from.now in
    let t = c.stage_of-stage in
    let j = c.in-Some.event.operator in
    let vs = c.in-Some.event.args in
    let start = c.in_ok-start.start.items in
    let found = c.in_ok-found-in-Some.found.items in
    let b = c.body_of-body.ensures in
    let same : map value c.deref.result.now ≡ vs = ap (map value) c.deref.ensures.value ∙ c.in_ok-slots-in-Some.ensures ∙ c.items-values.ensures in
    let state = t.ensures.state ∙ c.in_ok-whole.ensures in
    let w = subst (λ (e : Term). IsOnward (setting which.Action g) c.args.sparing c.args.room 400 (standing vs s, e) start found) b.2
    (stage_onward t.result g s t.ensures.setting state (map value c.deref.result.now) vs same 400 c.body_of-body.result.now c.args.sparing c.args.room start found c.in_ok-found-in-Some.ensures) in
    ok_then c.walk_further-in-Some-2.result _ _ (λ ends v. both_ends c.orderly_law.ensures c.whole_law.ensures g c.requires.ready c.args.line.now c.requires.fits s c.requires.state c.args.places c.requires.updated c.args.sparing c.args.room c.requires.room start c.in_ok-start.ensures
    j vs (ap act_of c.in-Some.is) b.0 b.1 found w ends.items (stage_onward t.result g s t.ensures.setting state [] [] refl 400 g.next c.args.sparing c.args.room found ends.items v)) c.walk_further-in-Some-2.ensures
