use Rattle.std.proofs.Common.{arith}
use Rattle.reading_lexer.proofs.SignFronts.{above_start, sign_piece, no_sign_piece}
use Rattle.reading_lexer.proofs.piece.sign.Goals as goal

pub loop-size-init : goal.loop-size-init
loop-size-init c = record {
  some = omega (arith, c.min-size.ensures);
  within = omega (arith, c.min-size.ensures);
  above = above_start c.args.text.now c.min-size.result (λ more k w. omega (arith, c.min-size.ensures));
}

pub returns-in-Some : goal.returns-in-Some
returns-in-Some c =
    sign_piece c.args.text.now c.loop-size.size _ c.requires.some c.requires.first c.requires.plain c.loop-size.invariant.some c.loop-size.invariant.within c.loop-size.invariant.above c.in-Some.ensures

pub returns-in-Some-kind_of : goal.returns-in-Some-kind_of
returns-in-Some-kind_of c =
    sign_piece c.args.text.now 1 _ c.requires.some c.requires.first c.requires.plain (omega arith) (omega arith) (λ more k w. c.loop-size.invariant.above more (omega arith) w) c.in-Some-kind_of.ensures

pub returns-in-None : goal.returns-in-None
returns-in-None c =
    no_sign_piece c.args.text.now c.requires.some c.requires.first c.requires.plain (λ more k w. c.loop-size.invariant.above more (omega arith) w) c.in-None.ensures
