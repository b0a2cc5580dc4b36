use Rattle.std.proofs.Common.{◌∙◌, ◌+◌, ◌≤◌, ap, arith, length, subst, sym}
use Rattle.std.specs.Prelude.{◌||◌, Bool}
use Rattle.names_term_levels.proofs.Passing.{IsPass, pass_ends, pass_goes}
use Rattle.names_term_levels.proofs.telling.read_all.Goals as goal
use Rattle.names_term_levels.proofs.telling.read_all.Goals.{then-again, else-again}

pub loop-number-preserved : goal.loop-number-preserved
loop-number-preserved c =
    let ops = c.args.table.now in
    let start = c.args.notes.now.items in
    let number = c.loop-number.number in
    let more = c.loop-number.more in
    let again = c.in_ok-again.again in
    let new = c.read_again.new.notes.items in
    let e = c.in_ok-again.ensures in
    let goes : IsPass ops start (number + 1) (again || more) new = pass_goes ops start c.loop-number.notes.items new number more again c.loop-number.invariant e.all e.sound e.less e.closed in
    elim c.if-again.branch [
      | then-again w ↦ subst (λ (b : Bool). IsPass ops start (number + 1) b new) (ap (λ b. b || more) w.if-again.true ∙ sym w.if-again.true ∙ sym w.more-is) goes
      | else-again w ↦ subst (λ (b : Bool). IsPass ops start (number + 1) b new) (ap (λ b. b || more) w.if-again.false ∙ sym w.more-is) goes
    ]

pub returns-clause-closed : goal.returns-clause-closed
returns-clause-closed c =
    let past : length c.args.table.now ≤ c.loop-number.number = omega (arith, c.loop-number-test.false) in
    λ f. pass_ends c.args.table.now c.args.notes.now.items c.loop-number.notes.items c.loop-number.number c.loop-number.more past c.loop-number.invariant f
