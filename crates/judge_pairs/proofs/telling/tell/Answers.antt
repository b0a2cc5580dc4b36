use Rattle.std.proofs.Common.{subst, sym}
use Rattle.judge_truth.specs.Pairs.{at, setting}
use Rattle.states_verdicts.specs.declared.pairs.Told.{Told}
use Rattle.judge_pairs.specs.Telling.{IsDecided}
use Rattle.judge_pairs.proofs.Told.{decided_told}
use Rattle.judge_pairs.proofs.telling.tell.Goals as goal

pub decide-requires-clause-states : goal.decide-requires-clause-states
decide-requires-clause-states c = c.requires.states

pub decide-requires-clause-whole : goal.decide-requires-clause-whole
decide-requires-clause-whole c = c.requires.whole

pub decide-requires-clause-grounds : goal.decide-requires-clause-grounds
decide-requires-clause-grounds c = c.requires.grounds

pub returns : goal.returns
returns c =
    let p = c.args.pair in
    subst (λ (r : Told). IsDecided (setting p) (at p) c.args.term.now r) (sym c.as_told.ensures) (decided_told (setting p) (at p) c.args.term.now c.in_ok-decided.decided c.in_ok-decided.ensures)
