use Rattle.std.proofs.Common.{◌≤◌, List, ℕ, inl, length, subst, sym}
use Rattle.std.specs.Prelude.{option_map}
use Rattle.std.specs.Borrow.{Bor}
use Rattle.base_core.specs.declared.text.Text.{Text}
use Rattle.reading_trees.specs.declared.module.Declared.{Declared}
use Rattle.names_pruning.specs.declared.program.Pruning.TheVariants.{Left, Refused}
use Rattle.names_pruning.specs.Answers.{IsPruning}
use Rattle.run_wide.proofs.AnswerLemmas.{needed_accepted, needed_refused, pruned_accepted, pruned_refused}
use Rattle.run_wide.proofs.leaving.left_part.Goals as goal

pub good_part-requires-clause-few : goal.good_part-requires-clause-few
good_part-requires-clause-few c =
    let program = c.args.program in
    let config = c.args.config in
    let left = c.in-Left.left in
    let pruned : IsPruning program config c.items.result.now c.items-2.result.now (Left left) = rw c.in-Left.is at c.in_ok-pruning.ensures.exact in
    subst (λ (ds : List Declared). length ds ≤ 64)
    (sym (c.needed_laws.ensures.declared program config c.items.result.now c.items-2.result.now left.program left.passed_over (inl pruned)).0) c.requires.few

pub returns-in-Refused-clause-accepted : goal.returns-in-Refused-clause-accepted
returns-in-Refused-clause-accepted c =
    let program = c.args.program in
    let config = c.args.config in
    let asked = c.args.asked.now in
    let q = c.in-Refused.program in
    let at_pruning : IsPruning program config c.items.result.now c.items-2.result.now (Refused q) = rw c.in-Refused.is at c.in_ok-pruning.ensures.exact in
    let at_unread = subst (λ (ns : List (List ℕ)). IsPruning program config ns c.items-2.result.now (Refused q)) c.items.ensures at_pruning in
    let bad = subst (λ (ns : List (List ℕ)). IsPruning program config asked.unread ns (Refused q)) c.items-2.ensures at_unread in
    needed_accepted program config asked (option_map (λ (n : Bor Text). n.now) c.args.silent) c.args.unread.now c.needed_part.result q c.new.result bad.0 c.new.ensures bad.1
    c.needed_part.ensures.accepted

pub returns-in-Refused-clause-refused : goal.returns-in-Refused-clause-refused
returns-in-Refused-clause-refused c =
    let program = c.args.program in
    let config = c.args.config in
    let asked = c.args.asked.now in
    let q = c.in-Refused.program in
    let at_pruning : IsPruning program config c.items.result.now c.items-2.result.now (Refused q) = rw c.in-Refused.is at c.in_ok-pruning.ensures.exact in
    let at_unread = subst (λ (ns : List (List ℕ)). IsPruning program config ns c.items-2.result.now (Refused q)) c.items.ensures at_pruning in
    let bad = subst (λ (ns : List (List ℕ)). IsPruning program config asked.unread ns (Refused q)) c.items-2.ensures at_unread in
    needed_refused program config asked (option_map (λ (n : Bor Text). n.now) c.args.silent) c.args.unread.now c.needed_part.result q c.new.result bad.0 c.new.ensures bad.1
    c.needed_part.ensures.refused

pub returns-in-Left-clause-accepted : goal.returns-in-Left-clause-accepted
returns-in-Left-clause-accepted c =
    let program = c.args.program in
    let config = c.args.config in
    let asked = c.args.asked.now in
    let left = c.in-Left.left in
    let at_pruning : IsPruning program config c.items.result.now c.items-2.result.now (Left left) = rw c.in-Left.is at c.in_ok-pruning.ensures.exact in
    let at_unread = subst (λ (ns : List (List ℕ)). IsPruning program config ns c.items-2.result.now (Left left)) c.items.ensures at_pruning in
    let pruned = subst (λ (ns : List (List ℕ)). IsPruning program config asked.unread ns (Left left)) c.items-2.ensures at_unread in
    pruned_accepted program config asked (option_map (λ (n : Bor Text). n.now) c.args.silent) c.args.unread.now c.good_part.result left pruned c.good_part.ensures.accepted

pub returns-in-Left-clause-refused : goal.returns-in-Left-clause-refused
returns-in-Left-clause-refused c =
    let program = c.args.program in
    let config = c.args.config in
    let asked = c.args.asked.now in
    let left = c.in-Left.left in
    let at_pruning : IsPruning program config c.items.result.now c.items-2.result.now (Left left) = rw c.in-Left.is at c.in_ok-pruning.ensures.exact in
    let at_unread = subst (λ (ns : List (List ℕ)). IsPruning program config ns c.items-2.result.now (Left left)) c.items.ensures at_pruning in
    let pruned = subst (λ (ns : List (List ℕ)). IsPruning program config asked.unread ns (Left left)) c.items-2.ensures at_unread in
    pruned_refused program config asked (option_map (λ (n : Bor Text). n.now) c.args.silent) c.args.unread.now c.good_part.result left pruned c.good_part.ensures.refused
