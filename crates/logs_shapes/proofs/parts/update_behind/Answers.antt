use Rattle.std.proofs.Common.{sym, ◌∙◌}
use Rattle.logs_shapes.specs.Seen.{path_seen}
use Rattle.logs_shapes.proofs.PartLemmas.{update_of_other_length, update_read}
use Rattle.logs_shapes.proofs.parts.update_behind.Goals as goal

pub returns-then-contents : goal.returns-then-contents
returns-then-contents c =
    let path = sym c.in_ok-path.ensures in
    sym (update_of_other_length c.args.word c.args.items.now c.in_ok-first.contents.now c.in_ok-first.first.now (path_seen c.in_ok-path.path) c.in_ok-first.ensures.cases.0 path (λ e. c.if-contents.true (e ∙ sym c.contents.ensures)))

pub returns : goal.returns
returns c =
    let path = sym c.in_ok-path.ensures in
    sym (update_read c.args.word c.args.items.now c.in_ok-first.contents.now c.in_ok-first.first.now (path_seen c.in_ok-path.path) c.in_ok-first.ensures.cases.0 path (c.if-contents.false ∙ c.contents.ensures))
