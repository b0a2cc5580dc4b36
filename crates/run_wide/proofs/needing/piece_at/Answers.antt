use Rattle.std.proofs.Common.{◌≡◌, ◌+◌, ◌-◌, ◌≤◌, List, ℕ, length, subst, sym, take}
use Rattle.run_wide.specs.Needing.{names_unread}
use Rattle.run_wide.proofs.AskingLemmas.{place_on}
use Rattle.run_wide.proofs.needing.piece_at.Goals as goal

pub loop-index-preserved : goal.loop-index-preserved
loop-index-preserved c =
    let unread = c.args.unread.now in
    let index = c.loop-index.index in
    let rest = c.loop-index.rest in
    let le = subst (λ (ns : List (List ℕ)). length ns ≤ rest) c.items-names.ensures c.if-rest-names.false in
    subst (λ (ns : List (List ℕ)). c.args.place ≡ length (names_unread (take (index + 1) unread)) + (rest - length ns)) (sym c.items-names.ensures)
    (place_on unread index c.index-unread-index.result c.args.place rest c.loop-index-test.true c.index-unread-index.is le c.loop-index.invariant)
