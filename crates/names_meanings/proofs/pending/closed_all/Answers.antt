use Rattle.std.proofs.Common.{◌∙◌, sym, ap}
use Rattle.names_meanings.specs.Pendings.{closed_all}
use Rattle.names_meanings.proofs.Closing.{closed_behind}
use Rattle.names_meanings.proofs.pending.closed_all.Goals as goal

pub loop-row-preserved : goal.loop-row-preserved
loop-row-preserved c =
    ap (λ e. closed_all c.pop.new.self.items e) c.in_ok-term.ensures ∙ sym (closed_behind c.pop.new.self.items c.in-Some.row c.loop-row.term) ∙ ap (λ rs. closed_all rs c.loop-row.term) (sym c.in-Some.ensures.items) ∙ c.loop-row.invariant
