use Rattle.std.proofs.Common.{refl}
use Rattle.logs_shapes.proofs.reading.kept_in.Goals as goal

pub returns : goal.returns
returns c =
    rw (
      c.content.ensures,
      c.content-2.ensures,
      c.content-3.ensures,
      c.content-4.ensures,
      c.content-5.ensures,
      c.content-6.ensures,
    ) refl
