use Rattle.std.proofs.Common.{arith, ap, sym, subst}
use Rattle.std.proofs.lemmas.List.Sorted.{length_permutation}
use Rattle.values_core.specs.Data.{Val, function, pairs_of, depth}
use Rattle.values_core.specs.IsValue.{IsValue}
use Rattle.values_core.specs.Functions.{IsFunctionOf}
use Rattle.values_core.proofs.FunctionLemmas.{no_key_twice, depth_permutation, valid_function, function_of}
use Rattle.values_core.proofs.value.Value.make_function.Goals as goal

pub returns-then-len-gt-MAX_MEMBERS : goal.returns-then-len-gt-MAX_MEMBERS
returns-then-len-gt-MAX_MEMBERS c = (
  no_key_twice c.args.pairs.items c.in-Ok.pairs.items (rw c.in-Ok.is at c.by_key.ensures.same) (rw c.in-Ok.is at c.by_key.ensures.ascending),
  omega (arith, length_permutation c.args.pairs.items c.in-Ok.pairs.items (rw c.in-Ok.is at c.by_key.ensures.same)),
)

pub returns-then-deepest-ge-MAX_VALUE_DEPTH : goal.returns-then-deepest-ge-MAX_VALUE_DEPTH
returns-then-deepest-ge-MAX_VALUE_DEPTH c = (
  no_key_twice c.args.pairs.items c.in-Ok.pairs.items (rw c.in-Ok.is at c.by_key.ensures.same) (rw c.in-Ok.is at c.by_key.ensures.ascending),
  omega (arith, length_permutation c.args.pairs.items c.in-Ok.pairs.items (rw c.in-Ok.is at c.by_key.ensures.same)),
  omega (arith, depth_permutation c.args.pairs.items c.in-Ok.pairs.items (rw c.in-Ok.is at c.by_key.ensures.same)),
)

pub invariant_of-result : goal.invariant_of-result
invariant_of-result c =
    let sorted = c.in-Ok.pairs.items in
    let valid : IsValue (function (pairs_of sorted)) = valid_function sorted (rw c.in-Ok.is at c.by_key.ensures.ascending) (omega arith) c.deepest_pair-deepest.ensures.canonical (omega arith) in
    record {
      valid = subst IsValue (sym c.in_ok-node.ensures.view) valid;
      levels_is = omega (arith, c.in_ok-node.ensures.levels, ap depth c.in_ok-node.ensures.view);
      hash_is = c.in_ok-node.ensures.hash;
      one_form = c.in_ok-node.ensures.form;
    }

pub returns : goal.returns
returns c =
    let sorted = c.in-Ok.pairs.items in
    let valid : IsValue (function (pairs_of sorted)) = valid_function sorted (rw c.in-Ok.is at c.by_key.ensures.ascending) (omega arith) c.deepest_pair-deepest.ensures.canonical (omega arith) in (
      no_key_twice c.args.pairs.items sorted (rw c.in-Ok.is at c.by_key.ensures.same) (rw c.in-Ok.is at c.by_key.ensures.ascending),
      subst (λ (f : Val). IsFunctionOf c.args.pairs.items f) (sym c.in_ok-node.ensures.view) (function_of c.args.pairs.items sorted (rw c.in-Ok.is at c.by_key.ensures.same) valid),
    )
