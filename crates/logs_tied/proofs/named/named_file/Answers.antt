use Rattle.std.proofs.Common.{Option, sym, subst}
use Rattle.std.specs.Prelude.{MatchOption}
use Rattle.base_core.specs.declared.place.LineAt.{LineAt}
use Rattle.base_clock_order.specs.declared.order.LineRef.{LineRef}
use Rattle.base_cuts.specs.Cuts.{next}
use Rattle.base_cuts.specs.Orders.{IsReadyAt}
use Rattle.logs_tied.specs.Named.{IsNamed}
use Rattle.logs_tied.proofs.Choosing.{none_is_named}
use Rattle.logs_tied.proofs.named.named_file.Goals as goal

pub returns-in-Some : goal.returns-in-Some
returns-in-Some c =
    let logs = c.args.logs.now in
    let cut = c.args.cut.now in
    subst (λ (p : Option LineAt). MatchOption c.file_at.result ((l : LineRef) → IsReadyAt logs.order cut l → IsNamed logs.files.items p l → ⊥)
    (λ file. IsReadyAt logs.order cut (next cut file) × IsNamed logs.files.items p (next cut file))) (sym c.in-Some.is) c.file_at.ensures

pub returns-in-None : goal.returns-in-None
returns-in-None c = λ l ready named. none_is_named c.args.logs.now.files.items c.args.place c.in-None.is l named
