use Rattle.std.proofs.Common.{List, All, subst, sym}
use Rattle.std.specs.List.{AllZip}
use Rattle.base_clock_order.specs.Orders.{IsLine}
use Rattle.base_clock_order.specs.declared.order.LineRef.{LineRef}
use Rattle.logs_files.specs.Logs.{StandsAt, numbers_in}
use Rattle.logs_files.proofs.PlaceLemmas.{each_line}
use Rattle.logs_files.proofs.placing.merged_log.Goals as goal

pub placed_lines-requires : goal.placed_lines-requires
placed_lines-requires c =
    subst (λ (order : List LineRef). All (IsLine (numbers_in c.args.files.now)) order) (sym c.as_slice.ensures.value) (each_line c.args.files.now c.in_ok-order.order.items c.in_ok-order.ensures)

pub returns : goal.returns
returns c = record {
  init = c.in_ok-init.ensures;
  order = c.in_ok-order.order.items;
  merged = c.in_ok-order.ensures;
  lines = subst (λ (order : List LineRef). AllZip (StandsAt c.args.files.now) order c.in_ok-lines.lines) c.as_slice.ensures.value c.in_ok-lines.ensures;
}
