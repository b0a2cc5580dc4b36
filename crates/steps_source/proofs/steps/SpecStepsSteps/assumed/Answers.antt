use Rattle.names_terms.specs.Lists.{terms_list}
use Rattle.steps_ready_defs.specs.Beside.{asked}
use Rattle.steps_source.proofs.Assumed.{assumption_in, judged_so, none_past}
use Rattle.steps_source.proofs.steps.SpecStepsSteps.assumed.Goals as goal

pub judged-requires-clause-ordered : goal.judged-requires-clause-ordered
judged-requires-clause-ordered c = c.requires.ready.spec.ordered

pub judged-requires-clause-assumed : goal.judged-requires-clause-assumed
judged-requires-clause-assumed c = assumption_in (terms_list c.args.self.now.spec.now.assumes) c.args.index c.in-Some.term.now (rw c.in-Some.is at c.get.ensures)

pub returns-in-Some : goal.returns-in-Some
returns-in-Some c =
    let s = c.args.self.now in
    λ below. judged_so s.spec.now s.log.now (asked s.stutter s.within s.limit) c.args.index c.in-Some.term.now c.judged.result (rw c.in-Some.is at c.get.ensures) c.judged.ensures

pub returns-in-None : goal.returns-in-None
returns-in-None c = λ below. absurd (none_past (terms_list c.args.self.now.spec.now.assumes) c.args.index (rw c.in-None.is at c.get.ensures) below)
