use Rattle.std.proofs.Common.{◌≡◌, ◌+◌, sym, subst, arith, ◌<◌, length}
use Rattle.std.specs.List.{Contains}
use Rattle.values_core.specs.Data.{Val, entries, pairs_of}
use Rattle.values_core.specs.Functions.{numbered_from}
use Rattle.values_core.proofs.Forms.{place_in, no_place}
use Rattle.values_core.proofs.value.forms.apply_items.Goals as goal

pub returns-in-Some : goal.returns-in-Some
returns-in-Some c =
    let below : c.in-Some.at < length c.args.items.now.items = omega (arith, c.in-Some.ensures.0) in
    subst (λ (k : Val). Contains (entries (pairs_of (numbered_from 1 c.args.items.now.items))) (k, c.index.result.now)) (sym c.in-Some.ensures.1)
    (place_in 1 c.args.items.now.items c.in-Some.at (c.in-Some.at + 1) c.index.result.now (omega arith) below c.index.ensures)

pub returns-in-None : goal.returns-in-None
returns-in-None c = no_place 1 c.args.items.now.items c.args.key.now (λ i m is l e. c.in-None.ensures i (omega arith) (rw (let z : i + 1 ≡ m = omega arith in z) e))
