use Rattle.std.proofs.Common.{◌≡◌, length, arith, [], ap, sym, subst, List, ℕ}
use Rattle.std.proofs.lemmas.Result.{IfOk-weaker}
use Rattle.states_layers.specs.Found.{Merged, members_of}
use Rattle.states_layers.specs.Kept.{Gathers}
use Rattle.states_layers.proofs.LastLaws.{gathered}
use Rattle.states_layers.proofs.last.gather.Goals as goal

pub returns : goal.returns
returns g c =
    let list = c.in_ok-entries.entries.items in
    let now = c.merge.new.layer.entries in
    let size : c.len-most.result ≡ length list = omega arith in
    let m : Merged [] list 0 (length list) now = rw (c.new-layer.ensures.empty, size) at c.in_ok-merge.ensures in
    IfOk-weaker c.into_entries.result _ _ (λ v e. rw e (gathered c.args.nodes.items list now c.in_ok-entries.ensures m)) c.into_entries.ensures
