use Rattle.std.proofs.Common.{arith}
use Rattle.values_core.proofs.SetLemmas.{set_of, valid_set}
use Rattle.values_core.proofs.value.Value.make_set.Goals as goal

pub returns-then-len-gt-MAX_MEMBERS : goal.returns-then-len-gt-MAX_MEMBERS
returns-then-len-gt-MAX_MEMBERS c = record {
  keys = c.distinct-members.result.items;
  lists = c.distinct-members.ensures;
  large = omega arith;
}

pub returns-then-deepest-ge-MAX_VALUE_DEPTH : goal.returns-then-deepest-ge-MAX_VALUE_DEPTH
returns-then-deepest-ge-MAX_VALUE_DEPTH c = record {
  keys = c.distinct-members.result.items;
  lists = c.distinct-members.ensures;
  few = omega arith;
  deep = omega arith;
}

pub invariant_of-result : goal.invariant_of-result
invariant_of-result c = record {
  valid = rw c.in_ok-body.ensures.items (valid_set c.args.members.items c.distinct-members.result.items c.distinct-members.ensures (omega arith) c.deepest-deepest.ensures.canonical (omega arith));
  levels_is = rw (c.in_ok-body.ensures.items, c.in_ok-body.ensures.levels) (omega arith);
  hash_is = rw c.in_ok-body.ensures.items c.in_ok-body.ensures.hash;
  one_form = tt;
}

pub returns : goal.returns
returns c =
    let lists = c.distinct-members.ensures in
    rw c.in_ok-body.ensures.items (set_of c.args.members.items c.distinct-members.result.items lists (valid_set c.args.members.items c.distinct-members.result.items lists (omega arith) c.deepest-deepest.ensures.canonical (omega arith)))
