use Rattle.std.proofs.Common.{◌≡◌, ◌∙◌, ◌↔◌, ℕ, List, ap, map, subst, sym}
use Rattle.std.specs.Borrow.{Bor}
use Rattle.std.specs.Prelude.{MatchOption}
use Rattle.reading_trees.specs.declared.expr.Definition.{Definition}
use Rattle.names_program.specs.InUnits.{definitions_in}
use Rattle.base_use_order.specs.Reach.{IsReached}
use Rattle.names_pruning.specs.Parts.{IsFirstBy, NoneIsBy}
use Rattle.names_pruning.specs.Pruning.{IsNeeded}
use Rattle.names_pruning.proofs.Asking.{first_is_asked}
use Rattle.names_pruning.proofs.asked.first_asked.Goals as goal

pub returns : goal.returns
returns c =
    let program = c.args.program.now in
    let config = c.args.config.now in
    let roots = c.args.roots.now in
    let unread = c.args.unread.now in
    let needed = c.deref-2.result.now in
    let all : map (λ (d : Bor Definition). d.now) c.deref.result.now ≡ definitions_in program.units = ap (map (λ (d : Bor Definition). d.now)) c.deref.ensures.value ∙ c.in_ok-definitions.ensures in
    let exact : (i : ℕ) → IsReached needed i ↔ IsNeeded program config roots i =
    subst (λ v. (i : ℕ) → IsReached v i ↔ IsNeeded program config roots i) (sym c.deref-2.ensures.value) c.in_ok-needed.ensures.exact
    in
    record {
      exact = first_is_asked program config roots needed exact unread c.first_of.result
          (subst (λ (ds : List Definition). MatchOption c.first_of.result (NoneIsBy ds needed roots unread) (λ k. IsFirstBy ds needed roots unread k)) all c.first_of.ensures);
    }
