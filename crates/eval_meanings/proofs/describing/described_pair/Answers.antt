use Rattle.eval_meanings.specs.Outcomes.{Gives, Then}
use Rattle.eval_meanings.specs.Sets.{paired, set_at}
use Rattle.eval_meanings.proofs.Telling.{tells_then, tells_stop, tells_passed}
use Rattle.eval_meanings.proofs.describing.described_pair.Goals as goal

pub returns-in_err-right-clause-fine : goal.returns-in_err-right-clause-fine
returns-in_err-right-clause-fine c =
    let o = c.args.operator in
    let r = c.from_residual-in_err-right.result in
    let f = c.in_err-right.field-0.0 in
    let e = c.from_residual-in_err-right.ensures in
    let P = set_at c.args.q c.args.right in
    tells_then (set_at c.args.p c.args.left) (λ x. Then (set_at c.args.q c.args.right) (λ y. Gives (paired o x y))) c.in_ok-left.left r c.in_ok-left.ensures.fine
    (tells_passed (Then P (λ y. Gives (paired o c.in_ok-left.left y))) r f e.0 e.1 (tells_stop P (λ y. Gives (paired o c.in_ok-left.left y)) f c.in_err-right.ensures.fine))
