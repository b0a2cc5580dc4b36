use Rattle.std.proofs.Common.{◌∙◌, sym, subst, refl, arith}
use Rattle.std.specs.List.{Contains}
use Rattle.std.proofs.lemmas.Bool.{false≢true}
use Rattle.std.proofs.lemmas.List.Elements.{All-get_or}
use Rattle.steps_ready_defs.specs.Beside.{asked}
use Rattle.run_why.specs.Ends.{IsReachedBySome}
use Rattle.run_why.specs.Within.{LeadsBeyond}
use Rattle.run_why.proofs.Reaching.{none_at_all, none_more, some_here}
use Rattle.run_why.proofs.within.any_leads_beyond.Goals as goal

pub leads_beyond-requires-clause-reached : goal.leads_beyond-requires-clause-reached
leads_beyond-requires-clause-reached c =
    let s = c.args.steps.now in
    let R = IsReachedBySome s.spec.now s.log.now (asked s.stutter s.within s.limit) in
    subst R (sym c.from-item.is) (All-get_or R c.args.entries.now c.loop-from.from-index c.from-item.result c.loop-from-test.true c.requires.reached)

pub returns-then-branch : goal.returns-then-branch
returns-then-branch c =
    let P = LeadsBeyond c.args.steps.now.spec.now c.args.steps.now.limit (Contains c.args.entries.now) in (
      λ h. some_here P c.args.entries.now c.loop-from.from-index c.from-item.result c.loop-from-test.true c.from-item.is (c.in_ok-leads_beyond.ensures.0 c.if-branch.true),
      λ some. refl,
    )

pub loop-from-preserved : goal.loop-from-preserved
loop-from-preserved c =
    let P = LeadsBeyond c.args.steps.now.spec.now c.args.steps.now.limit (Contains c.args.entries.now) in
    none_more P c.args.entries.now c.loop-from.from-index c.from-item.result c.loop-from-test.true c.from-item.is c.loop-from.invariant
    (λ leads. false≢true (sym c.if-branch.false ∙ c.in_ok-leads_beyond.ensures.1 leads))

pub returns : goal.returns
returns c =
    let P = LeadsBeyond c.args.steps.now.spec.now c.args.steps.now.limit (Contains c.args.entries.now) in (
      λ h. absurd (false≢true h),
      λ some. absurd (none_at_all P c.args.entries.now c.loop-from.from-index (omega (arith, c.loop-from-test.false, c.loop-from.auto)) c.loop-from.invariant some),
    )
