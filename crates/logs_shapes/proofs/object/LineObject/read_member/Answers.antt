use Rattle.serde_json.specs.View.{view}
use Rattle.logs_shapes.specs.Objects.{members_in}
use Rattle.logs_shapes.proofs.KeyLemmas.{put-other}
use Rattle.logs_shapes.proofs.object.LineObject.read_member.Goals as goal

pub returns-in-Some-clause-read : goal.returns-in-Some-clause-read
returns-in-Some-clause-read c = rw c.in-Some.ensures c.read_at.ensures.read

pub returns-in_ok-json-in-None-clause-read : goal.returns-in_ok-json-in-None-clause-read
returns-in_ok-json-in-None-clause-read c =
    let json = c.in_ok-json-in-None in
    (view json.json, json.ensures.read, put-other c.args.name.now (view json.json) (members_in c.args.self.now) c.in-None.ensures)
