use Rattle.steps_ready_defs.specs.Beside.{asked}
use Rattle.judge_verdicts.proofs.Explaining.{behaves_over, explained_valid}
use Rattle.judge_verdicts.proofs.explained.explained_law.Goals as goal

pub returns-clause-valid : goal.returns-clause-valid
returns-clause-valid c =
    let p = c.args.pairs.now in
    explained_valid p.spec.now p.log.now (asked p.stutter p.within p.limit) c.monotone_law.ensures c.found_law.ensures

pub returns-clause-states : goal.returns-clause-states
returns-clause-states c = let p = c.args.pairs.now in behaves_over p.spec.now p.log.now (asked p.stutter p.within p.limit)
