use Rattle.std.proofs.Common.{All, List, subst, sym, string_bytes}
use Rattle.std.specs.List.{Contains}
use Rattle.std.specs.List.Sorted.{IsSorted}
use Rattle.states_core.specs.StateOrder.{state_cmp}
use Rattle.states_core.specs.States.{Values}
use Rattle.run_texts.specs.Answers.{answer_text, named}
use Rattle.steps_ready_defs.specs.Beside.{asked}
use Rattle.steps_ready_defs.specs.Ready.{IsReadyLine}
use Rattle.run_near_lines.specs.Tells.{TellsNear}
use Rattle.run_why.specs.Ends.{IsReachedBySome}
use Rattle.run_why.specs.Telling.{GoesOn}
use Rattle.run_why.specs.Tells.{LeadsNowhere, Tells}
use Rattle.run_why.specs.Within.{TellsWithin}
use Rattle.run_why.proofs.Going.{all_nowhere, line_has}
use Rattle.run_why.proofs.ToldBehind.{all_behind, all_reached}
use Rattle.run_why.proofs.report.told_behind.Goals as goal

pub line_at-requires : goal.line_at-requires
line_at-requires c = c.requires.ends.left

pub push_why-requires-clause-fits : goal.push_why-requires-clause-fits
push_why-requires-clause-fits c =
    let s = c.args.steps.now in
    line_has s.log.now.lines c.args.number c.line_at.result.now (IsReadyLine s.spec.now) c.line_at.ensures c.requires.ready.lines

pub push_why-requires-clause-nowhere : goal.push_why-requires-clause-nowhere
push_why-requires-clause-nowhere c =
    let s = c.args.steps.now in
    let sorted = c.sort_unstable.new.self.items in
    subst (λ (ss : List Values). All (LeadsNowhere s.spec.now c.line_at.result.now) ss) (sym c.deref.ensures.value)
    (all_nowhere s.spec.now s.log.now (asked s.stutter s.within s.limit) c.args.number c.args.searched.last.items sorted c.line_at.result.now c.requires.ends c.line_at.ensures
    c.sort_unstable.ensures.permutation)

pub push_near-requires-clause-fits : goal.push_near-requires-clause-fits
push_near-requires-clause-fits c =
    let s = c.args.steps.now in
    line_has s.log.now.lines c.args.number c.line_at.result.now (IsReadyLine s.spec.now) c.line_at.ensures c.requires.ready.lines

pub push_near-requires-clause-nowhere : goal.push_near-requires-clause-nowhere
push_near-requires-clause-nowhere c =
    let s = c.args.steps.now in
    let sorted = c.sort_unstable.new.self.items in
    subst (λ (ss : List Values). All (LeadsNowhere s.spec.now c.line_at.result.now) ss) (sym c.deref-2.ensures.value)
    (all_nowhere s.spec.now s.log.now (asked s.stutter s.within s.limit) c.args.number c.args.searched.last.items sorted c.line_at.result.now c.requires.ends c.line_at.ensures
    c.sort_unstable.ensures.permutation)

pub push_within-requires-clause-reached : goal.push_within-requires-clause-reached
push_within-requires-clause-reached c =
    let s = c.args.steps.now in
    let sorted = c.sort_unstable.new.self.items in
    let a = asked s.stutter s.within s.limit in
    subst (λ (ss : List Values). All (IsReachedBySome s.spec.now s.log.now a) ss) (sym c.deref-3.ensures.value)
    (all_reached s.spec.now s.log.now a (named c.args.labels.now) c.args.number c.line_at.result.now c.line_at.ensures c.args.searched.last.items sorted c.requires.ends
    c.sort_unstable.ensures.permutation c.sort_unstable.ensures.sorted)

pub push_within-requires-clause-ascend : goal.push_within-requires-clause-ascend
push_within-requires-clause-ascend c = subst (λ (ss : List Values). IsSorted state_cmp ss) (sym c.deref-3.ensures.value) c.sort_unstable.ensures.sorted

pub returns : goal.returns
returns c =
    let s = c.args.steps.now in
    let sorted = c.sort_unstable.new.self.items in
    let a = asked s.stutter s.within s.limit in
    let l = named c.args.labels.now in
    let line = c.line_at.result.now in
    let wanted = c.args.wanted in
    let t0 = string_bytes c.in_ok-whole.whole in
    let t1 = string_bytes c.push_why.new.text in
    let t2 = string_bytes c.push_near.new.text in
    let t3 = string_bytes c.push_within.new.text in
    all_behind s.spec.now s.log.now a l c.args.number line c.line_at.ensures c.args.searched.last.items sorted c.requires.ends c.sort_unstable.ensures.permutation
    c.sort_unstable.ensures.sorted wanted.why wanted.near (answer_text l c.args.searched.answer) t0 t1 t2 t3 c.in_ok-whole.ensures
    (subst (λ (ss : List Values). GoesOn wanted.why (λ most. Tells s.spec.now line l most ss) t0 t1) c.deref.ensures.value c.in_ok-push_why.ensures)
    (subst (λ (ss : List Values). GoesOn wanted.near (λ most. TellsNear s.spec.now line l most ss) t1 t2) c.deref-2.ensures.value c.in_ok-push_near.ensures)
    (subst (λ (ss : List Values). GoesOn wanted.near (λ most. TellsWithin s.spec.now a (Contains ss)) t2 t3) c.deref-3.ensures.value c.in_ok-push_within.ensures)
