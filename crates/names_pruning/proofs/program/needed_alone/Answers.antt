use Rattle.std.proofs.Common.{◌≡◌, ◌∙◌, ◌↔◌, ℕ, ap, length, subst, sym}
use Rattle.names_program.specs.InUnits.{definitions_in}
use Rattle.base_use_order.specs.Reach.{IsReached}
use Rattle.names_pruning.specs.Parts.{IsWithout}
use Rattle.names_pruning.specs.Pruning.{Alone, IsNeeded, IsOther}
use Rattle.names_pruning.proofs.Asking.{others_exactly}
use Rattle.names_pruning.proofs.Loops.{if_ok_so}
use Rattle.names_pruning.proofs.Meanings.{without_by}
use Rattle.names_pruning.proofs.program.needed_alone.Goals as goal

pub returns : goal.returns
returns c =
    let program = c.args.program in
    let config = c.args.config.now in
    let roots = c.args.roots.now in
    let unread = c.args.unread.now in
    let needed = c.deref.result.now in
    let flags = c.deref-2.result.now in
    let names = c.in_ok-names.names in
    let sizes : length needed ≡ length (definitions_in program.units) = ap length c.deref.ensures.value ∙ c.in_ok-needed.ensures.sizes in
    let are : (i : ℕ) → IsReached needed i ↔ IsNeeded program config roots i =
    subst (λ v. (i : ℕ) → IsReached v i ↔ IsNeeded program config roots i) (sym c.deref.ensures.value) c.in_ok-needed.ensures.exact
    in
    let exact : (i : ℕ) → IsReached flags i ↔ IsOther program config roots i =
    subst (λ v. (i : ℕ) → IsReached v i ↔ IsOther program config roots i) (sym (c.deref-2.ensures.value ∙ c.in_ok-others.ensures)) (others_exactly program config roots needed sizes are)
    in
    record {
      exact = if_ok_so (λ q. IsWithout names unread flags program q.program q.passed_over) (λ q. Alone program config unread roots q.program q.passed_over) c.without.result
          (λ q h. without_by program config unread c.in_ok-names.ensures.0 names c.in_ok-names.ensures.1 flags (IsOther program config roots) exact q.program q.passed_over h) c.without.ensures;
    }
