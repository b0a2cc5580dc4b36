use Rattle.std.proofs.Common.{◌≡◌, ◌∙◌, ◌↔◌, ℕ, List, ap, map, subst, sym}
use Rattle.std.specs.Borrow.{Bor}
use Rattle.std.specs.Prelude.{Contains}
use Rattle.reading_trees.specs.declared.expr.Definition.{Definition}
use Rattle.names_program.specs.InUnits.{definitions_in}
use Rattle.names_program.specs.Uses.{UsesDefinition}
use Rattle.base_use_order.specs.Uses.{IsWithin, Uses, table_of}
use Rattle.base_use_order.specs.Reach.{IsLedTo}
use Rattle.names_pruning.specs.Parts.{IsNamedAt}
use Rattle.names_pruning.specs.Pruning.{IsNeeded}
use Rattle.names_pruning.proofs.Loops.{if_reached}
use Rattle.names_pruning.proofs.Meanings.{needed_exactly}
use Rattle.names_pruning.proofs.reach.needed_definitions.Goals as goal

pub reached-requires-clause-within : goal.reached-requires-clause-within
reached-requires-clause-within c = subst (λ v. IsWithin (table_of v)) (sym c.deref-2.ensures.value) c.in_ok-uses.ensures.within

pub returns-clause-exact : goal.returns-clause-exact
returns-clause-exact c =
    let program = c.args.program.now in
    let config = c.args.config.now in
    let uses = table_of c.deref-2.result.now in
    let found = c.deref-3.result.now in
    let all : map (λ (d : Bor Definition). d.now) c.deref.result.now ≡ definitions_in program.units = ap (map (λ (d : Bor Definition). d.now)) c.deref.ensures.value ∙ c.in_ok-definitions.ensures in
    let exact : (i j : ℕ) → Uses uses i j ↔ UsesDefinition program config i j =
    subst (λ v. (i j : ℕ) → Uses (table_of v) i j ↔ UsesDefinition program config i j) (sym c.deref-2.ensures.value) c.in_ok-uses.ensures.exact
    in
    let those : (i : ℕ) → Contains found i ↔ IsNamedAt (definitions_in program.units) c.args.roots.now i =
    subst (λ (ds : List Definition). (i : ℕ) → Contains found i ↔ IsNamedAt ds c.args.roots.now i) all
    (subst (λ v. (i : ℕ) → Contains v i ↔ IsNamedAt (map (λ (d : Bor Definition). d.now) c.deref.result.now) c.args.roots.now i) (sym c.deref-3.ensures.value) c.in_ok-roots.ensures.exact)
    in
    if_reached (IsLedTo uses found) (IsNeeded program config c.args.roots.now) c.reached.result
    (needed_exactly program config c.requires.are.0 c.args.names.now c.requires.are.1 c.args.roots.now uses exact found those) c.reached.ensures.exact
