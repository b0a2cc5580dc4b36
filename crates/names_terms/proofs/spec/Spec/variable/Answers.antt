use Rattle.std.proofs.Common.{rules, ◌≡◌, refl}
use Rattle.std.proofs.lemmas.Option.{slice_get_read}
use Rattle.names_terms.specs.Named.{IsVariable}
use Rattle.names_terms.proofs.Naming.{none_before, none_at_all, within_variables, other_variable}
use Rattle.names_terms.proofs.spec.Spec.variable.Goals as goal

pub returns-then-eq : goal.returns-then-eq
returns-then-eq c =
    let same : c.index-variables-index.result ≡ c.args.name.now = search rules in
    rw (← c.items-variables.ensures, ← same) (slice_get_read _ _ _ c.index-variables-index.result refl c.loop-index-test.true c.index-variables-index.is)

pub loop-index-preserved : goal.loop-index-preserved
loop-index-preserved c =
    let other : c.index-variables-index.result ≡ c.args.name.now → ⊥ = search rules in
    none_before (IsVariable c.items-variables.result.now c.args.name.now) c.loop-index.index c.loop-index.invariant
    (other_variable c.items-variables.result.now c.args.name.now c.loop-index.index c.index-variables-index.result (slice_get_read _ _ _ c.index-variables-index.result refl c.loop-index-test.true c.index-variables-index.is) other)

pub returns : goal.returns
returns c = rw (← c.items-variables.ensures) (none_at_all c.items-variables.result.now (IsVariable c.items-variables.result.now c.args.name.now) c.loop-index.index (within_variables c.items-variables.result.now c.args.name.now) c.loop-index-test.false c.loop-index.invariant)
