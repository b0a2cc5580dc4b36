use Rattle.std.proofs.Common.{sym, subst}
use Rattle.reading_trees.specs.Laid.{NoEnd}
use Rattle.reading_wide_modules.proofs.Bodies.{all_behind, before_more}
use Rattle.reading_wide_modules.proofs.Ends.{no_end_drop, no_end_take}
use Rattle.reading_wide_modules.proofs.parted.read_pieces.Goals as goal

pub add_piece-requires-clause-piece : goal.add_piece-requires-clause-piece
add_piece-requires-clause-piece c =
    subst (λ v. NoEnd v) (sym c.split_at.ensures.front) (no_end_take c.in-Some.size c.loop-size.rest.now c.loop-size.invariant.ends)

pub loop-size-preserved : goal.loop-size-preserved
loop-size-preserved c = record {
  before = before_more c.args.heading.now c.args.last c.args.tokens.now c.loop-size.rest.now c.split_at.result.0.now c.split_at.result.1.now
      c.first_place-place.result c.in-Some.size c.loop-size.body.extends c.add_piece.new.body.extends c.loop-size.body.units c.add_piece.new.body.units
      c.loop-size.body.unread.items c.add_piece.new.body.unread.items c.loop-size.invariant.before c.split_at.ensures.front c.split_at.ensures.back
      c.first_place-place.ensures c.in-Some.ensures.piece c.in_ok-add_piece.ensures;
  ends = subst (λ v. NoEnd v) (sym c.split_at.ensures.back) (no_end_drop c.in-Some.size c.loop-size.rest.now c.loop-size.invariant.ends);
}

pub returns : goal.returns
returns c =
    all_behind c.args.heading.now c.args.last c.args.tokens.now c.loop-size.rest.now c.loop-size.body.extends c.loop-size.body.units c.loop-size.body.unread.items
    c.in_default.ensures.none c.loop-size.invariant.before
