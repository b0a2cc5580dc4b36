use Rattle.states_verdicts.proofs.Passing.{come_more}
use Rattle.states_verdicts.proofs.checking.go_on.Goals as goal

pub returns-in-Clean-clause-more : goal.returns-in-Clean-clause-more
returns-in-Clean-clause-more g c = come_more (g.P.Pairs.asks c.args.pairs.now) c.args.states.now c.args.index c.args.came.line c.args.came.silents
    c.after.result.line c.after.result.silents c.shown_at.result.now c.requires.small c.requires.come c.shown_at.ensures.there
    (rw c.in-Clean.is at c.in_ok-find.ensures) c.after.ensures.line c.after.ensures.silents
