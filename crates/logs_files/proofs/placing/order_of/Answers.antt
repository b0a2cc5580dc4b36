use Rattle.std.proofs.Common.{◌≡◌, length, map, IfOk, ap, subst, sym, ◌∙◌, arith}
use Rattle.std.proofs.lemmas.List.{length-map}
use Rattle.base_clock_order.specs.Orders.{AreFew, Clocks, IsMerged, NoneFalls, clocks_of}
use Rattle.logs_updates.specs.Clocks.{number_in}
use Rattle.logs_files.specs.Logs.{numbers_in}
use Rattle.logs_files.proofs.ClockKinds.{few_numbers, no_number_falls}
use Rattle.logs_files.proofs.placing.order_of.Goals as goal

pub merge-requires-clause-none_falls : goal.merge-requires-clause-none_falls
merge-requires-clause-none_falls c = subst NoneFalls (sym (ap clocks_of c.as_slice.ensures.value ∙ c.in_ok-clocks.ensures)) (no_number_falls c.args.files.now c.requires.none_falls)

pub merge-requires-clause-few_lines : goal.merge-requires-clause-few_lines
merge-requires-clause-few_lines c = subst AreFew (sym (ap clocks_of c.as_slice.ensures.value ∙ c.in_ok-clocks.ensures)) (few_numbers c.args.files.now c.requires.few_lines)

pub merge-requires-clause-few_logs : goal.merge-requires-clause-few_logs
merge-requires-clause-few_logs c =
    let same : length (clocks_of c.as_slice.result.now) ≡ length (numbers_in c.args.files.now) = ap length (ap clocks_of c.as_slice.ensures.value ∙ c.in_ok-clocks.ensures) in
    omega (arith, same, c.requires.few_files, length-map c.as_slice.result.now (λ log. log.items), length-map c.args.files.now (λ f. map (λ l. number_in l.clock) f.steps))

pub returns : goal.returns
returns c = subst (λ (clocks : Clocks). IfOk c.merge.result (λ order. IsMerged clocks order.items)) (ap clocks_of c.as_slice.ensures.value ∙ c.in_ok-clocks.ensures) c.merge.ensures
