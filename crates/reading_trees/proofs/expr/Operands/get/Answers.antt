use Rattle.std.proofs.Common.{◌≡◌, ap, ◌∙◌, ◌-◌, suc, arith, Option}
use Rattle.std.specs.Prelude.{slice_get, Some, None}
use Rattle.reading_trees.specs.Trees.{Tree}
use Rattle.reading_trees.specs.TreeLists.{operands_list}
use Rattle.reading_trees.specs.TreeViews.{operands_of}
use Rattle.reading_trees.specs.declared.expr.Operand.{Operand}
use Rattle.reading_trees.proofs.Listed.{item_of, within_at, first_operand, later_operand}
use Rattle.reading_trees.proofs.expr.Operands.get.Goals as goal

pub returns-then-i-eq0-clause-item : goal.returns-then-i-eq0-clause-item
returns-then-i-eq0-clause-item c =
    let first = c.self.inside.first.value in
    let e = c.deref.ensures in
    let same : c.deref.result.now ≡ first = cc in
    let zeroth : c.args.i ≡ 0 = omega (arith, c.if-i-eq0.true) in
    rw (← c.self.view_is) (ap (λ (t : Tree). Some t) same ∙ first_operand first c.self.inside.others.items c.args.i zeroth)

pub returns-then-i-eq0-clause-within : goal.returns-then-i-eq0-clause-within
returns-then-i-eq0-clause-within c =
    let first = c.self.inside.first.value in
    let others = c.self.inside.others.items in
    let zeroth : c.args.i ≡ 0 = omega (arith, c.if-i-eq0.true) in
    rw (← c.self.view_is) (within_at (operands_list (operands_of first others)) c.args.i (Some first) (first_operand first others c.args.i zeroth))

pub returns-in-Some-clause-item : goal.returns-in-Some-clause-item
returns-in-Some-clause-item c =
    let others = c.self.inside.others.items in
    let found : Some c.in-Some.other.now ≡ slice_get others (c.args.i - 1) = rw (← c.deref-2.ensures.value) (item_of _ _ (Some c.in-Some.other) c.in-Some.ensures.lookup) in
    let behind : c.args.i ≡ suc (c.args.i - 1) = omega (arith, c.if-i-eq0.false) in
    rw (← c.self.view_is) (later_operand c.self.inside.first.value others c.args.i (c.args.i - 1) (Some c.in-Some.other.now) behind found)

pub returns-in-Some-clause-within : goal.returns-in-Some-clause-within
returns-in-Some-clause-within c =
    let first = c.self.inside.first.value in
    let others = c.self.inside.others.items in
    let found : Some c.in-Some.other.now ≡ slice_get others (c.args.i - 1) = rw (← c.deref-2.ensures.value) (item_of _ _ (Some c.in-Some.other) c.in-Some.ensures.lookup) in
    let behind : c.args.i ≡ suc (c.args.i - 1) = omega (arith, c.if-i-eq0.false) in
    rw (← c.self.view_is) (within_at (operands_list (operands_of first others)) c.args.i (Some c.in-Some.other.now.value) (later_operand first others c.args.i (c.args.i - 1) (Some c.in-Some.other.now) behind found))

pub returns-in-None-clause-item : goal.returns-in-None-clause-item
returns-in-None-clause-item c =
    let others = c.self.inside.others.items in
    let none : Option Operand = None in
    let found : none ≡ slice_get others (c.args.i - 1) = rw (← c.deref-2.ensures.value) (item_of _ _ None c.in-None.ensures.lookup) in
    let behind : c.args.i ≡ suc (c.args.i - 1) = omega (arith, c.if-i-eq0.false) in
    rw (← c.self.view_is) (later_operand c.self.inside.first.value others c.args.i (c.args.i - 1) none behind found)

pub returns-in-None-clause-within : goal.returns-in-None-clause-within
returns-in-None-clause-within c =
    let first = c.self.inside.first.value in
    let others = c.self.inside.others.items in
    let none : Option Operand = None in
    let found : none ≡ slice_get others (c.args.i - 1) = rw (← c.deref-2.ensures.value) (item_of _ _ None c.in-None.ensures.lookup) in
    let behind : c.args.i ≡ suc (c.args.i - 1) = omega (arith, c.if-i-eq0.false) in
    rw (← c.self.view_is) (within_at (operands_list (operands_of first others)) c.args.i None (later_operand first others c.args.i (c.args.i - 1) none behind found))
