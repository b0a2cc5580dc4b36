use Rattle.std.proofs.Common.{◌+◌, ◌≤◌, length, map, subst, sym, arith}
use Rattle.std.proofs.lemmas.List.{length-map}
use Rattle.std.specs.Borrow.{Bor}
use Rattle.reading_trees.specs.declared.expr.Definition.{Definition}
use Rattle.names_pruning.proofs.Loops.{LackingSoFar, all_lacking, lent_at, none_lacking, one_lacking, true_or_false}
use Rattle.names_pruning.proofs.lost.lacking.Goals as goal
use Rattle.names_pruning.proofs.lost.lacking.Goals.{then-branch+in_ok-push, else-branch}

pub loop-index-preserved : goal.loop-index-preserved
loop-index-preserved c =
    let definitions = map (λ (d : Bor Definition). d.now) c.args.definitions.now in
    let names = c.args.names.now in
    let unread = c.args.unread.now in
    let index = c.loop-index.index in
    let definition = c.index-definitions-index.result in
    let stands = lent_at (λ (d : Bor Definition). d.now) c.args.definitions.now index definition c.loop-index-test.true c.index-definitions-index.is in
    elim c.if-branch.branch [
      | then-branch+in_ok-push w ↦
          subst (λ v. LackingSoFar names unread definitions (index + 1) v.items) (sym w.found-is)
          (one_lacking names unread definitions index definition.now c.loop-index.found.items w.push.new.self.items stands (c.in_ok-lacks.ensures.0 w.if-branch.true) w.in_ok-push.ensures.items
          c.loop-index.invariant)
      | else-branch w ↦
          subst (λ v. LackingSoFar names unread definitions (index + 1) v.items) (sym w.found-is)
          (none_lacking names unread definitions index definition.now c.loop-index.found.items stands (λ l. true_or_false c.in_ok-lacks.field-0 (c.in_ok-lacks.ensures.1 l) w.if-branch.false)
          c.loop-index.invariant)
    ]

pub returns-clause-exact : goal.returns-clause-exact
returns-clause-exact c =
    let definitions = map (λ (d : Bor Definition). d.now) c.args.definitions.now in
    let past : length definitions ≤ c.loop-index.index = omega (arith, c.loop-index-test.false, length-map c.args.definitions.now (λ (d : Bor Definition). d.now)) in
    all_lacking c.args.names.now c.args.unread.now definitions c.loop-index.index c.loop-index.found.items past c.loop-index.invariant
