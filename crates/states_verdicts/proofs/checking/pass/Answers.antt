use Rattle.std.proofs.Common.{arith, ◌≡◌, ℕ, length, subst, refl}
use Rattle.states_verdicts.specs.Passes.{HasCome}
use Rattle.states_verdicts.proofs.Passing.{lines_left, all_valid}
use Rattle.states_verdicts.proofs.checking.pass.Goals as goal

pub returns-then-came-count-clause-whole : goal.returns-then-came-count-clause-whole
returns-then-came-count-clause-whole g c =
    let y = g.P.Pairs.asks c.args.pairs.now in
    let test = c.loop-index-test.false in
    let end = c.loop-index.auto.index-end in
    let is : c.loop-index.index ≡ length c.args.states.now = omega (arith, test, end) in
    let some = c.if-states-eq0.false in
    lines_left y c.args.states.now (length c.args.states.now) c.loop-index.came.line c.loop-index.came.silents refl (omega (arith, some))
    (subst (λ (k : ℕ). HasCome y c.args.states.now k c.loop-index.came.line c.loop-index.came.silents) is c.loop-index.invariant)
    (let lt = c.if-came-count.true in let e = c.count.ensures in omega (arith, lt, e))

pub returns-clause-whole : goal.returns-clause-whole
returns-clause-whole g c =
    let y = g.P.Pairs.asks c.args.pairs.now in
    let test = c.loop-index-test.false in
    let end = c.loop-index.auto.index-end in
    let is : c.loop-index.index ≡ length c.args.states.now = omega (arith, test, end) in
    let some = c.if-states-eq0.false in
    all_valid y c.args.states.now c.loop-index.index c.loop-index.came.line c.loop-index.came.silents (g.met.P.Pairs.agrees c.args.pairs.now) is (omega (arith, some, is)) c.loop-index.invariant
    (let lt = c.if-came-count.false in let e = c.count.ensures in omega (arith, lt, e))
