use Rattle.std.proofs.Common.{◌≡◌, ◌∷◌, Bool, List, length, reverse, ap, sym, ◌∙◌, subst, arith}
use Rattle.std.proofs.lemmas.List.{length-map}
use Rattle.std.specs.Bool.{MatchBool}
use Rattle.base_use_order.specs.declared.walk.Task.{Task}
use Rattle.base_use_order.specs.Uses.{IsOrder, SomeUsesItself, table_of}
use Rattle.base_use_order.specs.Walks.{InTurn, Stands}
use Rattle.base_use_order.proofs.Lists.{reverse-push}
use Rattle.base_use_order.proofs.OrderLaws.{none_uses_itself}
use Rattle.base_use_order.proofs.Walking.{ended}
use Rattle.base_use_order.proofs.Turning.{none_in_order, turned_all}
use Rattle.base_use_order.proofs.walk.order.Goals as goal

pub returns-clause-ordered : goal.returns-clause-ordered
returns-clause-ordered c =
    let walk = c.loop-task.walk in
    let none : length walk.tasks.items ≡ 0 = omega (arith, c.in_default.ensures.cases.0, walk.tasks.ok.0) in
    ended _ _ _ walk.tasks.items none c.loop-task.invariant.stands

pub returns-clause-exact : goal.returns-clause-exact
returns-clause-exact c =
    let walk = c.loop-task.walk in
    let uses = table_of c.args.uses.now in
    let none : length walk.tasks.items ≡ 0 = omega (arith, c.in_default.ensures.cases.0, walk.tasks.ok.0) in
    let is : IsOrder uses walk.order.items = ended _ _ _ walk.tasks.items none c.loop-task.invariant.stands in
    (λ e. cc, λ h. absurd (none_uses_itself uses walk.order.items is h.0 h.1))

pub returns-clause-kept : goal.returns-clause-kept
returns-clause-kept c =
    let walk = c.loop-task.walk in
    let uses = table_of c.args.uses.now in
    let none : length walk.tasks.items ≡ 0 = omega (arith, c.in_default.ensures.cases.0, walk.tasks.ok.0) in
    let is : IsOrder uses walk.order.items = ended _ _ _ walk.tasks.items none c.loop-task.invariant.stands in
    λ up. turned_all uses (length c.args.uses.now) walk.order.items walk.tasks.items (sym (length-map c.args.uses.now (λ v. v.items))) none is (c.loop-task.invariant.in_turn up)

pub returns-then-branch-clause-kept : goal.returns-then-branch-clause-kept
returns-then-branch-clause-kept c =
    let uses = table_of c.args.uses.now in
    let walk = c.step.new.walk in
    let back : SomeUsesItself uses =
    subst (λ (b : Bool). MatchBool b (SomeUsesItself uses) (Stands uses walk.marks.items walk.order.items (reverse walk.tasks.items))) c.if-branch.true c.in_ok-step.ensures.stands in
    λ up. none_in_order uses up back

pub loop-task-preserved : goal.loop-task-preserved
loop-task-preserved c =
    let uses = table_of c.args.uses.now in
    let walk = c.step.new.walk in
    let popped : reverse c.loop-task.walk.tasks.items ≡ c.in-Some.task ∷ reverse c.pop.new.self.items = ap reverse c.in-Some.ensures.items ∙ reverse-push c.pop.new.self.items c.in-Some.task in
    record {
      stands = subst (λ (b : Bool). MatchBool b (SomeUsesItself uses) (Stands uses walk.marks.items walk.order.items (reverse walk.tasks.items))) c.if-branch.false c.in_ok-step.ensures.stands;
      in_turn = λ up. c.in_ok-step.ensures.in_turn up (subst (λ (w : List Task). InTurn (length c.args.uses.now) c.loop-task.walk.order.items w) popped (c.loop-task.invariant.in_turn up));
    }
