use Rattle.std.proofs.Common.{arith, refl}
use Rattle.values_core.specs.IsValue.{IsValue}
use Rattle.values_core.specs.Functions.{sequence_of}
use Rattle.values_core.proofs.SequenceLemmas.{depth-numbered, valid_sequence}
use Rattle.values_core.proofs.value.Value.sequence.Goals as goal

pub returns-then-deepest-ge-MAX_VALUE_DEPTH : goal.returns-then-deepest-ge-MAX_VALUE_DEPTH
returns-then-deepest-ge-MAX_VALUE_DEPTH c = (omega arith, omega (arith, depth-numbered 1 c.args.items.items))

pub invariant_of-result : goal.invariant_of-result
invariant_of-result c =
    let valid : IsValue (sequence_of c.args.items.items) = valid_sequence c.args.items.items (omega arith) c.deepest-deepest.ensures.canonical (omega arith) in
    record {
      valid = rw c.in_ok-body.ensures.items valid;
      levels_is = rw (c.in_ok-body.ensures.items, c.in_ok-body.ensures.levels) (omega (arith, depth-numbered 1 c.args.items.items));
      hash_is = rw c.in_ok-body.ensures.items c.in_ok-body.ensures.hash;
      one_form = tt;
    }

pub returns : goal.returns
returns c =
    let valid : IsValue (sequence_of c.args.items.items) = valid_sequence c.args.items.items (omega arith) c.deepest-deepest.ensures.canonical (omega arith) in
    rw c.in_ok-body.ensures.items (refl, valid)
