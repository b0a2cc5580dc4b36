use Rattle.std.proofs.Common.{sym, refl, [], length}
use Rattle.std.proofs.lemmas.List.{append-nil, get_or_past}
use Rattle.std.proofs.lemmas.Option.{get_or_from_slice_get, slice_get_read}
use Rattle.std.proofs.lemmas.Result.{on_ok_weaker}
use Rattle.names_program.proofs.NumberLemmas.{grown_are, grown_within}
use Rattle.names_program.proofs.numbered.add_numbered.Goals as goal

pub returns-in-Some-clause-are : goal.returns-in-Some-clause-are
returns-in-Some-clause-are c =
    let here = slice_get_read c.args.by_definition.now (length c.args.by_definition.now) c.args.index c.in-Some.list.now refl c.in-Some.ensures.lookup.3.0 c.in-Some.ensures.lookup.1 in
    let at = sym (get_or_from_slice_get c.args.by_definition.now c.args.index c.in-Some.list.now [] here) in
    on_ok_weaker c.add_for.result (λ e. grown_are c.args.names.now c.add_for.new.names c.in-Some.list.now c.args.by_definition.now c.args.index c.args.number e at) c.add_for.ensures

pub returns-in-Some-clause-within : goal.returns-in-Some-clause-within
returns-in-Some-clause-within c =
    on_ok_weaker c.add_for.result (λ e. grown_within c.args.names.now c.add_for.new.names c.in-Some.list.now c.args.number e) c.add_for.ensures

pub returns-in-None-clause-are : goal.returns-in-None-clause-are
returns-in-None-clause-are c =
    grown_are c.args.names.now c.args.names.now [] c.args.by_definition.now c.args.index c.args.number (sym (append-nil c.args.names.now)) (sym (get_or_past c.args.by_definition.now c.args.index [] c.in-None.ensures.lookup.3))
