use Rattle.std.proofs.Common.{refl}
use Rattle.logs_shapes.specs.Objects.{keyed, with_some}
use Rattle.logs_shapes.proofs.object.LineObject.empty.Goals as goal

pub returns : goal.returns
unfolding keyed with_some
returns c = rw (c.empty.ensures, c.empty-2.ensures, c.empty-3.ensures, c.empty-4.ensures, c.empty-5.ensures, c.empty-6.ensures) refl
