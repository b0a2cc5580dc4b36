use Rattle.serde_json.specs.View.{items_view}
use Rattle.logs_lines.proofs.ValueLemmas.{put_reads}
use Rattle.logs_lines.proofs.values.read_op.Goals as goal

pub returns-in-Put : goal.returns-in-Put
returns-in-Put c = put_reads c.args.word (items_view c.args.contents.now) c.read_put.result c.in-Put.is c.read_put.ensures
