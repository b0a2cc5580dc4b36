-- Steps over cuts, log by log, as the code lists them.
use Rattle.std.proofs.Common.{◌≡◌, ℕ, suc, ◌+◌, ◌<◌, List, [], ◌++◌, length, length-append, map, Some, Result, Ok, Err, Vec, sym, subst, arith}
use Rattle.std.specs.Prelude.{All, IfErr, IfOk, slice_get}
use Rattle.std.specs.declared.alloc.Global.{Global}
use Rattle.std.proofs.lemmas.List.{length-map}
use Rattle.std.proofs.lemmas.List.Elements.{All-get_or}
use Rattle.std.proofs.lemmas.Option.{get_or_from_slice_get, slice_get_within}
use Rattle.states_core.specs.Sets.{HasMoreThan}
use Rattle.states_core.specs.States.{Values}
use Rattle.names_terms.specs.declared.spec.Spec.{Spec}
use Rattle.base_clock_order.specs.declared.order.LineRef.{LineRef}
use Rattle.logs_updates.specs.declared.line.Line.{Line}
use Rattle.base_cuts.specs.Cuts.{next, with_one}
use Rattle.base_cuts.specs.Orders.{IsMade, IsReadyAt, Order}
use Rattle.steps_ready_defs.specs.Ready.{IsReadyLine}
use Rattle.states_layers.specs.Gives.{Gives}
use Rattle.states_layers.specs.declared.steps.StepFault.{StepFault}
use Rattle.states_layers.specs.declared.steps.StepFault.TheVariants.{Eval, TooMany, NoMemory}
use Rattle.logs_tied.specs.Lines.{StandsIn}
use Rattle.steps_tied.specs.Languages.{Language}
use Rattle.steps_tied.specs.Tied.{CutState, by_cuts}
use Rattle.steps_cut_source.specs.Listing.{GivesBelow, Stops, at_cut}
use Rattle.steps_cut_source.specs.Spoken.{AreListed, IsStopped, spoken, system_of}
use Rattle.steps_cut_source.specs.declared.steps.CutSteps.{CutSteps}
use Rattle.steps_cut_source.proofs.Below.{adds, all_given, none_made, skips, takes_it, too_many}

one_more : (n : ℕ) → suc n ≡ n + 1
one_more n = omega arith

has_all : {X : Type 0} (P : X → Type 0) (xs : List X) (i : ℕ) (x : X) → slice_get xs i ≡ Some x → All P xs → P x
has_all P xs i x at all = subst P (get_or_from_slice_get xs i x x at) (All-get_or P xs i x (slice_get_within xs i x at) all)

-- what holds of each line of each log holds of the one that stands there
pub line_ready : (g : Spec) (files : List (List Line)) (l : LineRef) (line : Line) → StandsIn files l line → All (λ file. All (IsReadyLine g) file) files → IsReadyLine g line
line_ready g files l line s all = has_all (IsReadyLine g) s.0 l.index line s.2 (has_all (λ file. All (IsReadyLine g) file) files l.file s.0 s.1 all)

module _ (k : Language) (files : List (List Line)) (o : Order) (made : IsMade o) (e : CutState) where
  pub none_listed : GivesBelow k files o e 0 []
  none_listed = none_made k files o made e

  module _ (i : ℕ) where
    pub not_ready : (xs : List CutState) → (IsReadyAt o e.cut (next e.cut i) → ⊥) → GivesBelow k files o e i xs → GivesBelow k files o e (i + 1) xs
    not_ready xs none g = subst (λ (n : ℕ). GivesBelow k files o e n xs) (one_more i) (skips k files o made e i xs none g)

    module _ (line : Line) (ready : IsReadyAt o e.cut (next e.cut i)) (stands : StandsIn files (next e.cut i) line) (inside : i < length e.cut) (bound : ℕ) where
      pub added : (xs now : List CutState) (states : Vec Values Global) → GivesBelow k files o e i xs → Gives (k.Step line e.state) (k.FaultStep line e.state) (k.Seen line) bound (Ok states)
          → now ≡ xs ++ map (at_cut (with_one e.cut i)) states.items → GivesBelow k files o e (i + 1) now
      added xs now states g h is =
          subst (GivesBelow k files o e (i + 1)) (sym is)
          (subst (λ (n : ℕ). GivesBelow k files o e n (xs ++ map (at_cut (with_one e.cut i)) states.items)) (one_more i) (adds k files o made e i line ready stands inside xs states.items g h.0 h.1))

      -- more than the bound by the logs up to this one
      pub passes : (xs : List CutState) (states : Vec Values Global) → GivesBelow k files o e i xs → Gives (k.Step line e.state) (k.FaultStep line e.state) (k.Seen line) bound (Ok states)
          → bound < length xs + length states.items → HasMoreThan ((by_cuts k files o).Step 0 e) bound
      passes xs states g h more =
          let all = adds k files o made e i line ready stands inside xs states.items g h.0 h.1 in
          let both = length-append xs (map (at_cut (with_one e.cut i)) states.items) in
          let long = length-map states.items (at_cut (with_one e.cut i)) in (
            xs ++ map (at_cut (with_one e.cut i)) states.items,
            record { distinct = all.list.are.distinct; members = λ x m. (all.list.are.members x m).0 },
            omega (arith, both, long, more),
          )

      pub stops : (stop : StepFault) → Gives (k.Step line e.state) (k.FaultStep line e.state) (k.Seen line) bound (Err stop) → Stops (by_cuts k files o) e bound stop
      stops (Eval f) h = (at_cut (with_one e.cut i) h.0, takes_it k files o made e i line ready stands inside (λ l. k.FaultStep l e.state h.0 f) h.1)
      stops TooMany h = too_many k files o made e i line ready stands inside bound h
      stops NoMemory h = tt

-- all steps are listed, or it is told why not
pub listed : (s : CutSteps) → IsMade s.logs.now.order → (e : CutState) (bound : ℕ) (r : Result (Vec CutState Global) StepFault)
    → IfOk r (λ now. AreListed s e (length s.logs.now.files.items) now.items) → IfErr r (IsStopped s e bound)
    → Gives ((system_of s).Step 0 e) ((system_of s).FaultStep 0 e) ((system_of s).Seen 0 e) bound r
listed s made e bound (Ok now) g h =
    all_given (spoken s) s.logs.now.files.items s.logs.now.order made e now.items
    (subst (λ (n : ℕ). GivesBelow (spoken s) s.logs.now.files.items s.logs.now.order e n now.items) (sym (length-map s.logs.now.files.items length)) g.gives)
listed s made e bound (Err (Eval f)) g h = h.stops
listed s made e bound (Err TooMany) g h = h.stops
listed s made e bound (Err NoMemory) g h = tt
