use Rattle.std.proofs.Common.{rules, ◌≡◌, refl}
use Rattle.std.proofs.lemmas.Option.{slice_get_read}
use Rattle.names_terms.specs.Named.{IsNamed}
use Rattle.names_terms.proofs.Naming.{none_before, none_at_all, within_named, other_name}
use Rattle.names_terms.proofs.spec.Spec.operator.Goals as goal

pub returns-then-eq : goal.returns-then-eq
returns-then-eq c = record {
  some = search rules;
  operator = c.index-operators-index.result;
  is = rw (← c.items-operators.ensures) (slice_get_read _ _ _ c.index-operators-index.result refl c.loop-index-test.true c.index-operators-index.is);
  named = search rules;
}

pub loop-index-preserved : goal.loop-index-preserved
loop-index-preserved c =
    let other : c.index-operators-index.result.name ≡ c.args.name.now → ⊥ = search rules in
    none_before (IsNamed c.items-operators.result.now c.args.name.now) c.loop-index.index c.loop-index.invariant
    (other_name c.items-operators.result.now c.args.name.now c.loop-index.index c.index-operators-index.result (slice_get_read _ _ _ c.index-operators-index.result refl c.loop-index-test.true c.index-operators-index.is) other)

pub returns : goal.returns
returns c = rw (← c.items-operators.ensures) (none_at_all c.items-operators.result.now (IsNamed c.items-operators.result.now c.args.name.now) c.loop-index.index (within_named c.items-operators.result.now c.args.name.now) c.loop-index-test.false c.loop-index.invariant)
