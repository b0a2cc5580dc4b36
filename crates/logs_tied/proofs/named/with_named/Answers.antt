use Rattle.std.proofs.Common.{List, ap, ◌∙◌}
use Rattle.std.specs.Prelude.{slice_get}
use Rattle.base_core.specs.declared.place.LineAt.{LineAt}
use Rattle.logs_tied.proofs.Going.{naming_cut, naming_left, one_named}
use Rattle.logs_tied.proofs.Small.{countable}
use Rattle.logs_tied.proofs.Taking.{ready_stands}
use Rattle.logs_tied.proofs.named.with_named.Goals as goal

pub chosen_file-file-requires-clause-cut : goal.chosen_file-file-requires-clause-cut
chosen_file-file-requires-clause-cut c = naming_cut c.args.logs.now c.requires.tied c.args._states.now c.args.so_far.cut c.args.so_far.lines c.args.number c.requires.naming

pub chosen_file-file-requires-clause-left : goal.chosen_file-file-requires-clause-left
chosen_file-file-requires-clause-left c =
    naming_left c.args.logs.now c.requires.tied c.args._states.now c.args.so_far.cut c.args.so_far.lines c.args.number c.requires.naming c.requires.left

pub take-requires-clause-made : goal.take-requires-clause-made
take-requires-clause-made c = c.requires.tied.made

pub take-requires-clause-countable : goal.take-requires-clause-countable
take-requires-clause-countable c = countable c.args.logs.now.order c.requires.few

pub take-requires-clause-ready : goal.take-requires-clause-ready
take-requires-clause-ready c = c.chosen_file-file.ensures.0

pub unreachable-requires : goal.unreachable-requires
unreachable-requires c =
    let s = ready_stands c.args.logs.now c.requires.tied c.args.so_far.cut c.chosen_file-file.result c.chosen_file-file.ensures.0 in
    c.in-None.ensures s.0 s.1

pub returns : goal.returns
returns c =
    one_named c.args.logs.now c.requires.tied c.args._states.now c.args.so_far.cut c.args.so_far.lines c.args.number c.requires.naming c.place_at-place.result c.chosen_file-file.result
    (c.place_at-place.ensures ∙ ap (λ (ps : List LineAt). slice_get ps c.args.number) c.requires.places) c.chosen_file-file.ensures c.in-Some.next.now c.in-Some.ensures c.in_ok-more-in-Some.more
    c.in_ok-longer-in-Some.longer c.in_ok-more-in-Some.ensures c.in_ok-longer-in-Some.ensures
