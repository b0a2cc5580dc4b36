use Rattle.std.proofs.Common.{◌↔◌, ℕ, subst, sym}
use Rattle.base_use_order.specs.Reach.{IsReached}
use Rattle.names_pruning.specs.Pruning.{IsBad}
use Rattle.names_pruning.proofs.Loops.{true_or_false}
use Rattle.names_pruning.proofs.Meanings.{without_by}
use Rattle.names_pruning.proofs.program.pruned.Goals as goal

pub returns : goal.returns
returns c =
    let program = c.args.program in
    let config = c.args.config.now in
    let unread = c.args.unread.now in
    let flags = c.deref-2.result.now in
    let exact : (i : ℕ) → IsReached flags i ↔ IsBad program config unread i =
    subst (λ v. (i : ℕ) → IsReached v i ↔ IsBad program config unread i) (sym c.deref-2.ensures.value) c.in_ok-bad.ensures.exact
    in
    record {
      exact = record {
        good = λ n. true_or_false c.in_ok-needs_bad.field-0 (c.in_ok-needs_bad.ensures.1 n) c.if-branch.false;
        without = without_by program config unread c.in_ok-names.ensures.0 c.in_ok-names.names c.in_ok-names.ensures.1 flags (IsBad program config unread) exact c.in_ok-left.left.program
            c.in_ok-left.left.passed_over c.in_ok-left.ensures;
      };
    }
