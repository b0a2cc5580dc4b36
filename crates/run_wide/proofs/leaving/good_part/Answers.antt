use Rattle.std.proofs.Common.{subst, sym}
use Rattle.std.specs.Prelude.{option_map, true}
use Rattle.std.specs.Borrow.{Bor}
use Rattle.base_core.specs.declared.text.Text.{Text}
use Rattle.reading_trees.specs.declared.config.Config.{Config}
use Rattle.names_tables.specs.Values.{AreSpelled}
use Rattle.run_wide.specs.declared.resolution.ResolutionFault.TheVariants.{Names}
use Rattle.run_wide.specs.Lines.{passed_lines}
use Rattle.run_wide.specs.Parts.{IsRefusedSo}
use Rattle.run_wide.proofs.AnswerLemmas.{good_needed, good_refused, good_resolved, restored}
use Rattle.run_wide.proofs.leaving.good_part.Goals as goal

pub as_it_stands-requires-clause-spelled : goal.as_it_stands-requires-clause-spelled
as_it_stands-requires-clause-spelled c = subst (λ (k : Config). AreSpelled k.givens) (sym c.in_ok-told.ensures.config) c.requires.spelled

pub needed_part-requires-clause-spelled : goal.needed_part-requires-clause-spelled
needed_part-requires-clause-spelled c =
    let left = c.args.left in
    let config = c.args.config in
    let silent = option_map (λ (n : Bor Text). n.now) c.args.silent in
    let told = c.in_ok-told.told.0 in
    let again = c.with_unchecked-config.result.0 in
    let so : IsRefusedSo true left.program told silent (Names c.in-Names.program c.in-Names.config c.in-Names.refusal) = rw c.in-Names.is at c.in-Err.ensures.refused in
    let same = restored config told c.in-Names.config again (passed_lines left.program.files c.args.unread.now left.passed_over) c.in_ok-told.told.1 c.in_ok-told.ensures.config
    c.in_ok-told.ensures.lines so.1 c.with_unchecked-config.ensures.config
    in
    subst (λ (k : Config). AreSpelled k.givens) (sym same) c.requires.spelled

pub returns-in-Ok-clause-accepted : goal.returns-in-Ok-clause-accepted
returns-in-Ok-clause-accepted c =
    good_resolved c.args.left c.args.config c.args.asked.now (option_map (λ (n : Bor Text). n.now) c.args.silent) c.args.unread.now c.in_ok-told.told.0 c.in_ok-told.ensures.config c.in-Ok.resolution
    c.in-Ok.ensures.accepted

pub returns-in-Names-clause-accepted : goal.returns-in-Names-clause-accepted
returns-in-Names-clause-accepted c =
    let left = c.args.left in
    let config = c.args.config in
    let silent = option_map (λ (n : Bor Text). n.now) c.args.silent in
    let unread = c.args.unread.now in
    let told = c.in_ok-told.told.0 in
    let again = c.with_unchecked-config.result.0 in
    let so : IsRefusedSo true left.program told silent (Names c.in-Names.program c.in-Names.config c.in-Names.refusal) = rw c.in-Names.is at c.in-Err.ensures.refused in
    let same = restored config told c.in-Names.config again (passed_lines left.program.files unread left.passed_over) c.in_ok-told.told.1 c.in_ok-told.ensures.config c.in_ok-told.ensures.lines so.1
    c.with_unchecked-config.ensures.config
    in
    good_needed left config c.args.asked.now silent unread told c.in_ok-told.ensures.config c.in-Names.program c.in-Names.config c.in-Names.refusal so again same c.needed_part.result
    c.needed_part.ensures.accepted

pub returns-in-Names-clause-refused : goal.returns-in-Names-clause-refused
returns-in-Names-clause-refused c =
    let left = c.args.left in
    let config = c.args.config in
    let silent = option_map (λ (n : Bor Text). n.now) c.args.silent in
    let unread = c.args.unread.now in
    let told = c.in_ok-told.told.0 in
    let again = c.with_unchecked-config.result.0 in
    let so : IsRefusedSo true left.program told silent (Names c.in-Names.program c.in-Names.config c.in-Names.refusal) = rw c.in-Names.is at c.in-Err.ensures.refused in
    let same = restored config told c.in-Names.config again (passed_lines left.program.files unread left.passed_over) c.in_ok-told.told.1 c.in_ok-told.ensures.config c.in_ok-told.ensures.lines so.1
    c.with_unchecked-config.ensures.config
    in
    good_refused left config c.args.asked.now silent unread told c.in_ok-told.ensures.config c.in-Names.program c.in-Names.config c.in-Names.refusal so again same c.needed_part.result
    c.needed_part.ensures.refused
