use Rattle.std.proofs.Common.{◌≡◌, ◌↔◌, [], ◌∷◌, List, ℕ, subst, sym}
use Rattle.std.specs.Prelude.{Bool, true, MatchOption}
use Rattle.names_pruning.specs.Pruning.{IsAskedFor, IsFirstAsked, NoneIsAsked}
use Rattle.run_wide.proofs.AskingLemmas.{asks_exactly}
use Rattle.run_wide.proofs.needing.asks_alone.Goals as goal

pub returns : goal.returns
returns c =
    let program = c.args.program.now in
    let config = c.args.config.now in
    let name = c.args.name.now in
    let root = c.args.root.now in
    let found = c.in_ok-found.found in
    let roots = c.from_ref-2.result.now in
    let at_name = subst (λ (ns : List (List ℕ)). MatchOption found (NoneIsAsked program config ns roots) (λ k. IsFirstAsked program config ns roots k)) c.from_ref.ensures.value c.in_ok-found.ensures.exact in
    let at_root = subst (λ (rs : List (List ℕ)). MatchOption found (NoneIsAsked program config (name ∷ []) rs) (λ k. IsFirstAsked program config (name ∷ []) rs k)) c.from_ref-2.ensures.value at_name in
    subst (λ (b : Bool). (b ≡ true) ↔ IsAskedFor program config (root ∷ []) name) (sym c.is_some.ensures) (asks_exactly program config name root found at_root)
