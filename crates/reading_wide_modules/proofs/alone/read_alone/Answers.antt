use Rattle.std.proofs.Common.{sym, subst}
use Rattle.reading_trees.specs.Laid.{EndsOnce}
use Rattle.reading_wide_modules.proofs.Ends.{alone_ends}
use Rattle.reading_wide_modules.proofs.alone.read_alone.Goals as goal

pub module_of-requires : goal.module_of-requires
module_of-requires c =
    subst (λ v. EndsOnce v) (sym c.in_ok-tokens.ensures) (alone_ends c.args.heading.now c.args.piece.now c.args.behind c.requires.heading c.requires.piece)
