use Rattle.std.proofs.lemmas.Option.{slice_get_within}
use Rattle.names_pruning.specs.Pruning.{IsFirstAsked, NoneIsAsked}
use Rattle.run_wide.specs.Needing.{names_unread}
use Rattle.run_wide.proofs.AskingLemmas.{first_in_hand, first_unread, none_in_hand}
use Rattle.run_wide.proofs.needing.first_needed.Goals as goal

pub piece_at-requires : goal.piece_at-requires
piece_at-requires c =
    let program = c.args.program.now in
    let config = c.args.config.now in
    let unread = c.args.unread.now in
    let asked = c.args.asked.now in
    let place = c.in-Some.place in
    let here : IsFirstAsked program config c.items.result.now c.items-2.result.now place = rw c.in-Some.is at c.in_ok-found.ensures.exact in
    let first = first_in_hand program config unread asked.unread c.items.result.now asked.roots c.items-2.result.now c.items.ensures c.requires.names c.items-2.ensures place here in
    record { within = slice_get_within (names_unread unread) place first.name first.stands }

pub returns-in-Some : goal.returns-in-Some
returns-in-Some c =
    let program = c.args.program.now in
    let config = c.args.config.now in
    let unread = c.args.unread.now in
    let asked = c.args.asked.now in
    let place = c.in-Some.place in
    let here : IsFirstAsked program config c.items.result.now c.items-2.result.now place = rw c.in-Some.is at c.in_ok-found.ensures.exact in
    let first = first_in_hand program config unread asked.unread c.items.result.now asked.roots c.items-2.result.now c.items.ensures c.requires.names c.items-2.ensures place here in
    record { exact = first_unread program config asked.roots unread place c.piece_at.result.0 c.piece_at.result.1.now c.piece_at.ensures first }

pub returns-in-None : goal.returns-in-None
returns-in-None c =
    let program = c.args.program.now in
    let config = c.args.config.now in
    let asked = c.args.asked.now in
    let none : NoneIsAsked program config c.items.result.now c.items-2.result.now = rw c.in-None.is at c.in_ok-found.ensures.exact in
    record {
      exact = none_in_hand program config c.args.unread.now asked.unread c.items.result.now asked.roots c.items-2.result.now c.items.ensures c.requires.names c.items-2.ensures none;
    }
