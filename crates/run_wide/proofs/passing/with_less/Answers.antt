use Rattle.std.proofs.Common.{List, ℕ, length, refl, subst, sym}
use Rattle.std.specs.Prelude.{option_map, true}
use Rattle.std.specs.Borrow.{Bor}
use Rattle.base_core.specs.declared.text.Text.{Text}
use Rattle.names_program.specs.InUnits.{variables_in}
use Rattle.names_pruning.specs.Pruning.{IsAskedFor, NoneIsAsked}
use Rattle.run_wide.specs.Needing.{names_unread}
use Rattle.run_wide.specs.Parts.{IsFirstAsking, IsFirstUnread}
use Rattle.run_wide.specs.Passing.{has_many}
use Rattle.run_wide.proofs.AnswerLemmas.{accepted_by, accepted_left, few_spelled, is_spelled_by, many, piece_needed, refused_by, refused_left}
use Rattle.run_wide.proofs.passing.with_less.Goals as goal

pub returns-then-not-few-clause-accepted : goal.returns-then-not-few-clause-accepted
returns-then-not-few-clause-accepted c =
    let program = c.args.program in
    let config = c.args.config in
    accepted_by true program program config config (option_map (λ (n : Bor Text). n.now) c.args.silent) c.args.unread.now
    (has_many (many c.in_ok-few.few (length (variables_in program.units)) c.in_ok-few.ensures c.if-not-few.true)) c.as_it_stands.result c.as_it_stands.ensures.accepted

pub returns-then-not-few-clause-refused : goal.returns-then-not-few-clause-refused
returns-then-not-few-clause-refused c =
    let program = c.args.program in
    let config = c.args.config in
    refused_by true program program config config (option_map (λ (n : Bor Text). n.now) c.args.silent) c.args.unread.now
    (has_many (many c.in_ok-few.few (length (variables_in program.units)) c.in_ok-few.ensures c.if-not-few.true)) c.as_it_stands.result c.as_it_stands.ensures.refused

pub first_needed-requires-clause-few : goal.first_needed-requires-clause-few
first_needed-requires-clause-few c =
    few_spelled c.args.program c.in_ok-spelled.spelled c.in_ok-spelled.ensures.variables (c.in_ok-few.ensures.0 c.if-not-few.false)

pub needed_by-requires-clause-few : goal.needed_by-requires-clause-few
needed_by-requires-clause-few c =
    few_spelled c.args.program c.in_ok-spelled.spelled c.in_ok-spelled.ensures.variables (c.in_ok-few.ensures.0 c.if-not-few.false)

pub left_part-requires-clause-few : goal.left_part-requires-clause-few
left_part-requires-clause-few c =
    few_spelled c.args.program c.in_ok-spelled.spelled c.in_ok-spelled.ensures.variables (c.in_ok-few.ensures.0 c.if-not-few.false)

pub first_needed-requires-clause-names : goal.first_needed-requires-clause-names
first_needed-requires-clause-names c = c.in_ok-asked.ensures.unread

pub needed_by-requires-clause-asked : goal.needed_by-requires-clause-asked
needed_by-requires-clause-asked c =
    let program = c.in_ok-spelled.spelled in
    let config = c.args.config in
    let name = c.in-Some.name.now in
    let first : IsFirstUnread program config c.in_ok-asked.asked.roots c.args.unread.now c.in-Some.index name = rw c.in-Some.is at c.in_ok-needed.ensures.exact in
    subst (λ (rs : List (List ℕ)). IsAskedFor program config rs name) (sym c.items.ensures) first.is_asked

pub returns-in_ok-root-in-Some-clause-refused : goal.returns-in_ok-root-in-Some-clause-refused
returns-in_ok-root-in-Some-clause-refused c =
    let program = c.in_ok-spelled.spelled in
    let config = c.args.config in
    let unread = c.args.unread.now in
    let asked = c.in_ok-asked.asked in
    let index = c.in-Some.index in
    let name = c.in-Some.name.now in
    let root = c.in_ok-root-in-Some.root in
    let first : IsFirstUnread program config asked.roots unread index name = rw c.in-Some.is at c.in_ok-needed.ensures.exact in (
      refl,
      piece_needed c.args.program config (option_map (λ (n : Bor Text). n.now) c.args.silent) unread program (is_spelled_by c.args.program config program asked unread c.in_ok-spelled.ensures.spelled c.in_ok-asked.ensures.unread) asked.roots
          c.in_ok-asked.ensures.roots (record { few = c.in_ok-few.ensures.0 c.if-not-few.false; lacks = c.requires.lacks }) index name root first
          (subst (λ (rs : List (List ℕ)). IsFirstAsking program config rs name root) c.items.ensures c.in_ok-root-in-Some.ensures),
    )

pub returns-in-None-clause-accepted : goal.returns-in-None-clause-accepted
returns-in-None-clause-accepted c =
    let program = c.in_ok-spelled.spelled in
    let config = c.args.config in
    let unread = c.args.unread.now in
    let asked = c.in_ok-asked.asked in
    let none : NoneIsAsked program config (names_unread unread) asked.roots = rw c.in-None.is at c.in_ok-needed.ensures.exact in
    accepted_left program config asked (option_map (λ (n : Bor Text). n.now) c.args.silent) unread c.in_ok-asked.ensures.roots c.in_ok-asked.ensures.unread
    c.args.program (is_spelled_by c.args.program config program asked c.args.unread.now c.in_ok-spelled.ensures.spelled c.in_ok-asked.ensures.unread) (record { few = c.in_ok-few.ensures.0 c.if-not-few.false; lacks = c.requires.lacks }) none c.left_part.result c.left_part.ensures.accepted

pub returns-in-None-clause-refused : goal.returns-in-None-clause-refused
returns-in-None-clause-refused c =
    let program = c.in_ok-spelled.spelled in
    let config = c.args.config in
    let unread = c.args.unread.now in
    let asked = c.in_ok-asked.asked in
    let none : NoneIsAsked program config (names_unread unread) asked.roots = rw c.in-None.is at c.in_ok-needed.ensures.exact in
    refused_left program config asked (option_map (λ (n : Bor Text). n.now) c.args.silent) unread c.in_ok-asked.ensures.roots c.in_ok-asked.ensures.unread
    c.args.program (is_spelled_by c.args.program config program asked c.args.unread.now c.in_ok-spelled.ensures.spelled c.in_ok-asked.ensures.unread) (record { few = c.in_ok-few.ensures.0 c.if-not-few.false; lacks = c.requires.lacks }) none c.left_part.result c.left_part.ensures.refused
