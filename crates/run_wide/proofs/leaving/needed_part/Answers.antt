use Rattle.std.proofs.Common.{List, ℕ, subst}
use Rattle.std.specs.Prelude.{option_map}
use Rattle.std.specs.Borrow.{Bor}
use Rattle.base_core.specs.declared.text.Text.{Text}
use Rattle.names_pruning.specs.Pruning.{Alone}
use Rattle.run_wide.specs.Parts.{IsAloneOf}
use Rattle.run_wide.proofs.AnswerLemmas.{left_refused, left_resolved}
use Rattle.run_wide.proofs.leaving.needed_part.Goals as goal

pub returns-clause-accepted : goal.returns-clause-accepted
returns-clause-accepted c =
    let program = c.args.program in
    let config = c.args.config in
    let asked = c.args.asked.now in
    let left = c.in_ok-left.left in
    let at_unread = subst (λ (ns : List (List ℕ)). Alone program config ns c.items-2.result.now left.program left.passed_over) c.items.ensures c.in_ok-left.ensures.exact in
    let alone = subst (λ (ns : List (List ℕ)). Alone program config asked.unread ns left.program left.passed_over) c.items-2.ensures at_unread in
    left_resolved (IsAloneOf program c.args.gone config asked) program.files config (option_map (λ (n : Bor Text). n.now) c.args.silent) c.args.unread.now left.program c.append.new.self
    (record { rest = left.passed_over; alone = alone; all = c.in_ok-append.ensures.appended }) alone.files c.resolve_left.result c.resolve_left.ensures.accepted

pub returns-clause-refused : goal.returns-clause-refused
returns-clause-refused c =
    let program = c.args.program in
    let config = c.args.config in
    let asked = c.args.asked.now in
    let left = c.in_ok-left.left in
    let at_unread = subst (λ (ns : List (List ℕ)). Alone program config ns c.items-2.result.now left.program left.passed_over) c.items.ensures c.in_ok-left.ensures.exact in
    let alone = subst (λ (ns : List (List ℕ)). Alone program config asked.unread ns left.program left.passed_over) c.items-2.ensures at_unread in
    left_refused (IsAloneOf program c.args.gone config asked) program.files config (option_map (λ (n : Bor Text). n.now) c.args.silent) c.args.unread.now left.program c.append.new.self
    (record { rest = left.passed_over; alone = alone; all = c.in_ok-append.ensures.appended }) alone.files c.resolve_left.result c.resolve_left.ensures.refused
