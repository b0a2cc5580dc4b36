use Rattle.std.proofs.Common.{◌≡◌, ◌≤◌, ℤ, subst, ◌+◌, ◌++◌, List, drop, length, Some, append_assoc, ap, sym, ◌∙◌, refl, option_map}
use Rattle.std.specs.List.{slice_get}
use Rattle.std.proofs.lemmas.Option.{slice_get_read, slice_get-map}
use Rattle.base_clock_order.specs.Orders.{clocks_of}
use Rattle.base_clock_order.specs.Stamps.{Stamp, stamps_in, stamps_from}
use Rattle.base_clock_order.proofs.Merged.{rest_of_logs}
use Rattle.base_clock_order.proofs.Rising.{at_each}
use Rattle.base_clock_order.proofs.order.stamps_of.Goals as goal

pub loop-file-preserved : goal.loop-file-preserved
loop-file-preserved c =
    let f = c.loop-file.file in
    let all = c.args.clocks.now in
    let logs = clocks_of all in
    let v = c.index-clocks-file.result in
    let old = c.loop-file.stamps.items in
    let rest = stamps_from (f + 1) (drop (f + 1) logs) in
    let read = slice_get_read all (length all) f v refl c.loop-file-test.true c.index-clocks-file.is in
    let here : slice_get logs f ≡ Some v.items = slice_get-map (λ log. log.items) all f ∙ ap (option_map (λ log. log.items)) read in
    let pushed : c.push_log.new.stamps.items ≡ old ++ stamps_in f 0 v.items = c.in_ok-push_log.ensures ∙ ap (λ log. old ++ stamps_in f 0 log) c.as_slice.ensures.value in
    ap (λ (ss : List Stamp). ss ++ rest) pushed ∙ append_assoc old (stamps_in f 0 v.items) rest ∙ ap (λ (ss : List Stamp). old ++ ss) (sym (rest_of_logs f logs v.items here)) ∙ c.loop-file.invariant

pub push_log-requires : goal.push_log-requires
push_log-requires c =
    let f = c.loop-file.file in
    let all = c.args.clocks.now in
    let v = c.index-clocks-file.result in
    let read = slice_get_read all (length all) f v refl c.loop-file-test.true c.index-clocks-file.is in
    let here : slice_get (clocks_of all) f ≡ Some v.items = slice_get-map (λ log. log.items) all f ∙ ap (option_map (λ log. log.items)) read in
    subst (λ (log : List ℤ). length log ≤ 4294967296) (sym c.as_slice.ensures.value) (at_each (λ (log : List ℤ). length log ≤ 4294967296) (clocks_of all) f v.items c.requires.few_lines here)
