use Rattle.std.proofs.Common.{refl}
use Rattle.logs_shapes.specs.Objects.{keyed, with_some}
use Rattle.logs_shapes.proofs.object.LineObject.clear.Goals as goal

pub returns : goal.returns
unfolding keyed with_some
returns c = rw (c.clear.ensures, c.clear-2.ensures, c.clear-3.ensures, c.clear-4.ensures, c.clear-5.ensures, c.clear-6.ensures) refl
