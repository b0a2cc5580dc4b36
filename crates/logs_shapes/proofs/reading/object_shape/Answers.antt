use Rattle.std.proofs.Common.{◌≡◌, Ok, Err, IfOk, IfErr, subst}
use Rattle.serde_json.specs.Data.{Members}
use Rattle.logs_shapes.specs.Seen.{shape_seen}
use Rattle.logs_shapes.specs.Shapes.{shape_of}
use Rattle.logs_shapes.proofs.reading.object_shape.Goals as goal

pub returns-clause-shape : goal.returns-clause-shape
returns-clause-shape c = subst (λ (ms : Members). IfOk c.shape_in.result (λ s. shape_of ms ≡ Ok (shape_seen s))) c.kept_in.ensures c.shape_in.ensures.shape

pub returns-clause-key : goal.returns-clause-key
returns-clause-key c = subst (λ (ms : Members). IfErr c.shape_in.result (λ key. shape_of ms ≡ Err key)) c.kept_in.ensures c.shape_in.ensures.key
