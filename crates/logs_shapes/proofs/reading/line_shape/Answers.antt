use Rattle.std.proofs.Common.{◌≡◌, Ok, Err, IfOk, IfErr, Result, subst, sym}
use Rattle.serde_json.specs.View.{members_view}
use Rattle.logs_shapes.specs.Objects.{contents_in}
use Rattle.logs_shapes.specs.Seen.{shape_seen}
use Rattle.logs_shapes.specs.Shapes.{LineShape}
use Rattle.logs_shapes.specs.declared.key.Key.{Key}
use Rattle.logs_shapes.proofs.KeyLemmas.{one_shape}
use Rattle.logs_shapes.proofs.reading.line_shape.Goals as goal

pub returns-clause-shape : goal.returns-clause-shape
returns-clause-shape c =
    let same = one_shape (members_view c.args.members.now.entries) (contents_in c.contents_of.result) c.contents_of.ensures in
    subst (λ (r : Result LineShape Key). IfOk c.shape_in.result (λ s. r ≡ Ok (shape_seen s))) (sym same) c.shape_in.ensures.shape

pub returns-clause-key : goal.returns-clause-key
returns-clause-key c =
    let same = one_shape (members_view c.args.members.now.entries) (contents_in c.contents_of.result) c.contents_of.ensures in
    subst (λ (r : Result LineShape Key). IfErr c.shape_in.result (λ key. r ≡ Err key)) (sym same) c.shape_in.ensures.key
