use Rattle.std.proofs.Common.{length, refl}
use Rattle.std.proofs.lemmas.Option.{slice_get_read}
use Rattle.run_wide.proofs.AskingLemmas.{none_at_all, none_before_next, true_or_false}
use Rattle.run_wide.proofs.needing.first_asking.Goals as goal

pub returns-then-asks : goal.returns-then-asks
returns-then-asks c =
    let roots = c.args.roots.now in
    record {
      exact = record {
        index = c.loop-root.root-index;
        stands = slice_get_read roots (length roots) c.loop-root.root-index c.root-item.result refl c.loop-root-test.true c.root-item.is;
        asks = c.in_ok-asks.ensures.0 c.if-asks.true;
        first = c.loop-root.invariant;
      };
    }

pub loop-root-preserved : goal.loop-root-preserved
loop-root-preserved c =
    none_before_next c.args.program.now c.args.config.now c.args.name.now c.args.roots.now c.loop-root.root-index c.root-item.result c.loop-root-test.true c.root-item.is
    (λ a. true_or_false c.in_ok-asks.asks (c.in_ok-asks.ensures.1 a) c.if-asks.false) c.loop-root.invariant

pub returns : goal.returns
returns c = record { exact = none_at_all c.args.program.now c.args.config.now c.args.name.now c.args.roots.now c.loop-root.root-index c.loop-root-test.false c.loop-root.invariant }
