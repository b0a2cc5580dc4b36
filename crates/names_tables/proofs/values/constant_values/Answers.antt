use Rattle.std.proofs.Common.{◌∙◌, ap, length, map}
use Rattle.std.specs.Borrow.{Bor}
use Rattle.reading_trees.specs.declared.module.Declared.{Declared}
use Rattle.names_program.specs.InUnits.{constants_in}
use Rattle.names_tables.proofs.Places.{counted_on, read_at}
use Rattle.names_tables.proofs.Valued.{all_given, given_none, given_on, spelled_there}
use Rattle.names_tables.proofs.values.constant_values.Goals as goal

pub value_of-requires : goal.value_of-requires
value_of-requires c =
    spelled_there c.args.config.now.givens c.items-givens.result.now c.constant-item.result.now.name _ c.requires c.items-givens.ensures c.given_for-given.ensures

pub loop-constant-init : goal.loop-constant-init
loop-constant-init c = record {
  count = ap length c.new-values.ensures.items;
  given = given_none c.args.config.now.givens (constants_in c.args.program.now.units) c.new-values.result.items c.new-values.ensures.items;
}

pub loop-constant-preserved : goal.loop-constant-preserved
loop-constant-preserved c =
    let at = read_at c.deref-constant-items.result.now (constants_in c.args.program.now.units) c.loop-constant.constant-index c.constant-item.result (ap (map (λ (d : Bor Declared). d.now)) c.deref-constant-items.ensures.value ∙ c.in_ok-declared.ensures) c.loop-constant-test.true c.constant-item.is in
    record {
      count = counted_on c.loop-constant.values.items c.push.new.self.items c.in_ok-value.value c.loop-constant.constant-index c.in_ok-push.ensures.items c.loop-constant.invariant.count;
      given = given_on c.args.config.now.givens c.items-givens.result.now (constants_in c.args.program.now.units) c.loop-constant.values.items c.push.new.self.items c.loop-constant.constant-index c.constant-item.result.now c.in_ok-value.value _ c.items-givens.ensures at c.loop-constant.invariant.count c.in_ok-push.ensures.items c.given_for-given.ensures c.in_ok-value.ensures c.loop-constant.invariant.given;
    }

pub returns : goal.returns
returns c =
    all_given c.args.program.now c.args.config.now c.deref-constant-items.result.now c.loop-constant.values.items c.loop-constant.constant-index (ap (map (λ (d : Bor Declared). d.now)) c.deref-constant-items.ensures.value ∙ c.in_ok-declared.ensures) c.loop-constant.auto.constant-index-end c.loop-constant-test.false c.loop-constant.invariant.count c.loop-constant.invariant.given
