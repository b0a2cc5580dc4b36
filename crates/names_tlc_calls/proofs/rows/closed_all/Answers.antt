use Rattle.std.proofs.Common.{◌∙◌, sym, ap}
use Rattle.names_tlc_calls.specs.Rows.{closed_all}
use Rattle.names_tlc_calls.proofs.Rewriting.{closed_behind}
use Rattle.names_tlc_calls.proofs.rows.closed_all.Goals as goal

pub loop-row-preserved : goal.loop-row-preserved
loop-row-preserved c =
    ap (λ e. closed_all c.pop.new.self.items e) c.in_ok-tree.ensures ∙ sym (closed_behind c.pop.new.self.items c.in-Some.row c.loop-row.tree) ∙ ap (λ rs. closed_all rs c.loop-row.tree) (sym c.in-Some.ensures.items) ∙ c.loop-row.invariant
