use Rattle.std.proofs.Common.{arith, Some}
use Rattle.std.specs.List.{slice_get}
use Rattle.states_verdicts.specs.Cleans.{reached_at}
use Rattle.states_verdicts.specs.Founds.{IsFound, behind}
use Rattle.states_verdicts.proofs.Passing.{find_later, if_ok_more}
use Rattle.states_verdicts.proofs.checking.find.Goals as goal

pub returns : goal.returns
returns g c = if_ok_more
    (λ found. IsFound (g.P.Pairs.asks c.args.pairs.now) (behind c.args.came.line c.args.came.silents c.shown_at-before.result.now.state) (Some c.shown_at-here.result.now) found)
    (λ found. IsFound (g.P.Pairs.asks c.args.pairs.now) (reached_at c.args.states.now c.args.index) (slice_get c.args.states.now c.args.index) found)
    c.judge_next.result
    (λ found h. find_later (g.P.Pairs.asks c.args.pairs.now) c.args.states.now c.args.index c.args.came.line c.args.came.silents c.shown_at-before.result.now c.shown_at-here.result.now found
    c.requires.come (let e = c.if-index-eq0.false in omega (arith, e)) c.shown_at-before.ensures.there c.shown_at-here.ensures.there h)
    c.judge_next.ensures
