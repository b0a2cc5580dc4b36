use Rattle.std.proofs.Common.{sym}
use Rattle.serde_json.specs.View.{members_view}
use Rattle.logs_shapes.proofs.KeyLemmas.{agree_by_keys}
use Rattle.logs_shapes.proofs.reading.contents_of.Goals as goal

pub returns : goal.returns
returns c =
    agree_by_keys _ _ _ _ _ _ (members_view c.args.members.now.entries) (sym c.content.ensures) (sym c.content-2.ensures) (sym c.content-3.ensures)
    (sym c.content-4.ensures) (sym c.content-5.ensures) (sym c.content-6.ensures)
