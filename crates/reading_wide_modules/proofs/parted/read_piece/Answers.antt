use Rattle.std.proofs.Common.{sym, subst}
use Rattle.reading_trees.specs.Laid.{NoEnd}
use Rattle.reading_wide_modules.proofs.Ends.{no_end_readable}
use Rattle.reading_wide_modules.proofs.parted.read_piece.Goals as goal

pub read_alone-requires-clause-piece : goal.read_alone-requires-clause-piece
read_alone-requires-clause-piece c = subst (λ v. NoEnd v) (sym c.readable.ensures) (no_end_readable c.args.piece.now c.requires.piece)
