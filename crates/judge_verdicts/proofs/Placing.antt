-- What the log is like that marks name.
use Rattle.std.proofs.Common.{◌≡◌, ℕ, zero, suc, ◌≤◌, List, [], ◌∷◌, length, ap, sym, ◌∙◌, subst, arith}
use Rattle.std.specs.Prelude.{All, slice_get, Some}
use Rattle.std.specs.List.{AllZip}
use Rattle.std.proofs.lemmas.List.Elements.{All-cons, All-get_or, All-nil}
use Rattle.std.proofs.lemmas.Option.{get_or_from_slice_get, slice_get_within}
use Rattle.states_core.specs.declared.state.Shown.{Shown}
use Rattle.names_terms.specs.declared.spec.Spec.{Spec}
use Rattle.base_clock_order.specs.declared.order.LineRef.{LineRef}
use Rattle.logs_updates.specs.declared.line.Line.{Line}
use Rattle.logs_updates.specs.declared.line.Log.{Log}
use Rattle.logs_updates.specs.declared.update.See.{See}
use Rattle.base_cuts.specs.Cuts.{total}
use Rattle.base_cuts.specs.Orders.{sizes}
use Rattle.base_cuts.proofs.Lengths.{as_long}
use Rattle.steps_ready_defs.specs.Beside.{IsReady}
use Rattle.steps_ready_defs.specs.Ready.{AreOfVariables, IsReadyLine}
use Rattle.logs_tied.specs.Lines.{AreTied, StandsIn}
use Rattle.logs_tied.specs.Named.{IsNamedLog}
use Rattle.logs_tied.specs.declared.logs.Logs.{Logs}
use Rattle.logs_tied.proofs.Zips.{zip_long}
use Rattle.steps_tied.specs.Beside.{IsReadyBeside}

has_all : {X : Type 0} (P : X → Type 0) (xs : List X) (i : ℕ) (x : X) → slice_get xs i ≡ Some x → All P xs → P x
has_all P xs i x at all = subst P (get_or_from_slice_get xs i x x at) (All-get_or P xs i x (slice_get_within xs i x at) all)

-- what holds of each line of each log holds of those that stand there
all_stand : (P : Line → Type 0) (files : List (List Line)) → All (λ file. All P file) files → (order : List LineRef) (lines : List Line) → AllZip (StandsIn files) order lines → All P lines
all_stand P files all [] [] z = All-nil P
all_stand P files all [] (y ∷ ys) z = absurd z
all_stand P files all (x ∷ xs) [] z = absurd z
all_stand P files all (x ∷ xs) (y ∷ ys) z =
    All-cons P y ys (has_all P z.0.0 x.index y z.0.2 (has_all (λ file. All P file) files x.file z.0.0 z.0.1 all)) (all_stand P files all xs ys z.1)

module _ (logs : Logs) (w : List Shown) (log : Log) (named : IsNamedLog logs w log) where
  pub ready_named : (g : Spec) → IsReadyBeside g logs → IsReady g log
  ready_named g ready = record {
    spec = ready.spec;
    first = subst (λ (sees : List See). AreOfVariables g sees) (sym named.init) ready.first;
    lines = all_stand (IsReadyLine g) logs.files.items ready.lines named.order log.lines named.lined.stand;
  }

  pub few_named : AreTied logs → total (sizes logs.order) ≤ 200000 → length log.lines ≤ 200000
  few_named tied few =
      let long = zip_long (StandsIn logs.files.items) named.order log.lines named.lined.stand in
      let all = as_long logs.order tied.made named.order named.lined.allowed in
      omega (arith, long, all, few)
