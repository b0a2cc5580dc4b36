use Rattle.std.proofs.Common.{◌≡◌, List, map, Result, Ok, Err, IfOk, Vec, Global, subst}
use Rattle.std.specs.declared.alloc.AllocError.{AllocError}
use Rattle.std.specs.List.Sorted.{IsPermutation, IsSorted}
use Rattle.base_clock_order.specs.declared.order.LineRef.{LineRef}
use Rattle.base_clock_order.specs.Orders.{Clocks, IsMerged, NoneFalls, clocks_of}
use Rattle.base_clock_order.specs.Stamps.{Stamp, line_of, stamp_cmp, stamps_from}
use Rattle.base_clock_order.proofs.Merged.{merged}
use Rattle.base_clock_order.proofs.order.merge.Goals as goal

lines_merged : (clocks : Clocks) (stamps : List Stamp) (r : Result (Vec LineRef Global) AllocError) → NoneFalls clocks → IsPermutation (stamps_from 0 clocks) stamps → IsSorted stamp_cmp stamps
    → IfOk r (λ lines. lines.items ≡ map line_of stamps) → IfOk r (λ order. IsMerged clocks order.items)
lines_merged clocks stamps (Ok lines) rising perm up is = merged clocks stamps rising perm up lines.items is
lines_merged clocks stamps (Err e) rising perm up is = tt

pub returns : goal.returns
returns c =
    let perm = subst (λ (ss : List Stamp). IsPermutation ss c.sorted-stamps.result.items) c.in_ok-stamps.ensures c.sorted-stamps.ensures.same in
    lines_merged (clocks_of c.args.clocks.now) c.sorted-stamps.result.items c.lines_of.result c.requires.none_falls perm c.sorted-stamps.ensures.sorted
    (subst (λ (ss : List Stamp). IfOk c.lines_of.result (λ lines. lines.items ≡ map line_of ss)) c.as_slice.ensures.value c.lines_of.ensures)
