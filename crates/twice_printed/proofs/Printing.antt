-- Behaviours are printed: each of their states has its values, and a mark of 32 bits.
use Rattle.std.proofs.Common.{◌≡◌, ◌∙◌, ℕ, List, [], ◌∷◌, Some, Ok, ap, sym, subst}
use Rattle.std.specs.Prelude.{All, Option, slice_get, unwrap_or}
use Rattle.std.specs.List.{AllZip, AllByRecursion as Each}
use Rattle.std.proofs.lemmas.List.Elements.{All-from_recursion, All-nil, All-push}
use Rattle.std.proofs.lemmas.Option.{slice_get_within, unwrap_or-slice_get}
use Rattle.states_core.specs.States.{Values, shown}
use Rattle.states_core.specs.Runs.{Run, start, wait, go}
use Rattle.states_core.specs.declared.state.Mark.TheVariants.{Init, Silent, Line}
use Rattle.states_core.specs.declared.state.Shown.{Shown}
use Rattle.names_terms.specs.declared.spec.Spec.{Spec}
use Rattle.logs_updates.specs.declared.line.Line.{Line as LogLine}
use Rattle.logs_updates.specs.declared.line.Log.{Log}
use Rattle.steps_lines_defs.specs.Logs.{Asked, place_of_line, system}
use Rattle.names_specification_laws.specs.IsSpec.{IsSpec}
use Rattle.base_clock_order.specs.declared.order.LineRef.{LineRef}
use Rattle.logs_tied.specs.Lines.{StandsIn}
use Rattle.logs_tied.specs.declared.logs.Lined.{Lined}
use Rattle.logs_tied.specs.declared.logs.Lined.TheVariants.{Sequence, Tied}
use Rattle.steps_tied.specs.Laws.{RunsOverOrders}
use Rattle.steps_tied.specs.Tied.{tied_system}
use Rattle.steps_ready_defs.specs.Ready.{IsReadySpec}
use Rattle.steps_lined.specs.Answers.{IsTrueOf}
use Rattle.steps_lined.specs.Beside.{IsReadyOver}
use Rattle.states_files.specs.Files.{StateFileSays}
use Rattle.states_layers.specs.declared.answer.Answer.TheVariants.{Explained}
use Rattle.run_texts.specs.Answers.{answer_text}
use Rattle.twice_printed.specs.StateFiles.{AreNames, ExplainedReadsBack, IsMark, IsShown}
use Rattle.judge_verdicts.specs.LinedLaws.{ExplainedAreStates, ExplainedIsJudgedValid}
use Rattle.steps_lined.specs.Held.{ArePlaced, IsPlaced}
use Rattle.twice_printed.specs.PrintedStates.{PrintedIsValid}

all_at : {X : Type 0} (P : X → Type 0) (xs : List X) (n : ℕ) (x : X) → All P xs → slice_get xs n ≡ Some x → P x
all_at P xs n x all e = subst P (sym (unwrap_or-slice_get xs n x) ∙ ap (λ o. unwrap_or o x) e) (all n x (slice_get_within xs n x e))

abbrev Marked : Shown → Type 0
Marked x = IsMark x.mark

abbrev AtLine : Option LogLine → Type 0
AtLine o = IsMark (Line (place_of_line o))

run_marks : (g : Spec) (log : Log) (asked : Asked) → All IsPlaced log.lines → (n j : ℕ) (s : Values) (w : List Shown) → Run (system g log asked) n j s w → All Marked w
run_marks g log asked p n j s w (start u i e) = All-push Marked [] (shown Init u) (All-nil Marked) tt
run_marks g log asked p n j s w (wait m k u t v r lt le h) = All-push Marked v (shown Silent t) (run_marks g log asked p m k u v r) tt
run_marks g log asked p n j s w (go m k u t v r lt h) =
    All-push Marked v (shown (Line (place_of_line (slice_get log.lines m))) t) (run_marks g log asked p m k u v r)
    (subst AtLine (sym h.1) (all_at IsPlaced log.lines m h.0 p h.1))

-- a line that stands in a file is placed as its lines are
placed_there : (files : List (List LogLine)) (place : LineRef) (line : LogLine) → All (λ file. All IsPlaced file) files → StandsIn files place line → IsPlaced line
placed_there files place line all stands = all_at IsPlaced stands.0 place.index line (all_at (λ (file : List LogLine). All IsPlaced file) files place.file stands.0 all stands.1) stands.2

each_placed : (files : List (List LogLine)) (order : List LineRef) (lines : List LogLine) → All (λ file. All IsPlaced file) files → AllZip (StandsIn files) order lines → Each IsPlaced lines
each_placed files [] [] all h = tt
each_placed files [] (line ∷ lines) all h = absurd h
each_placed files (place ∷ order) [] all h = absurd h
each_placed files (place ∷ order) (line ∷ lines) all h = (placed_there files place line all h.0, each_placed files order lines all h.1)

-- the marks of a behaviour that explains the lines name places of theirs
marks_of : (g : Spec) (lined : Lined) (asked : Asked) → RunsOverOrders → IsReadyOver g lined → ArePlaced lined → (w : List Shown) (widest : ℕ) → IsTrueOf g asked lined (Explained w widest)
    → All Marked w
marks_of g (Sequence log) asked runs ready p w widest a = run_marks g log asked p (system g log asked).count 0 a.1.behaves.0 w a.1.behaves.1
marks_of g (Tied logs) asked runs ready p w widest a =
    let over = (runs g logs asked ready.1 (tied_system g logs asked).count 0 a.1.behaves.0 w).0 a.1.behaves.1 in
    let log : Log = record { init = logs.init; lines = over.lines } in
    let places : All IsPlaced over.lines = All-from_recursion IsPlaced over.lines (each_placed logs.files.items over.order over.lines p over.lined.stand) in
    run_marks g log asked places (tied_system g logs asked).count 0 a.1.behaves.0.state w over.run

pub spec_of : (g : Spec) (lined : Lined) → IsReadyOver g lined → IsReadySpec g
spec_of g (Sequence log) ready = ready.spec
spec_of g (Tied logs) ready = ready.0.spec

pub printed_valid : (g : Spec) (lined : Lined) (asked : Asked) → IsSpec g → ExplainedReadsBack → ExplainedIsJudgedValid g lined asked → ExplainedAreStates g lined asked → RunsOverOrders
    → IsReadyOver g lined → PrintedIsValid g lined asked
printed_valid g lined asked ordered reads valid states runs ready l w widest p a =
    let names : AreNames g.variables = record { differ = ordered.variables_differ; texts = p.texts } in
    let whole = states w widest a in
    let marks = marks_of g lined asked runs ready p.places w widest a in
    let are_shown : All (IsShown g.variables) w = λ k d lt. record { whole = (whole k d lt).long; values = (whole k d lt).values; mark = marks k d lt } in
    let named : AreNames l.variables = subst AreNames (sym p.variables) names in
    let those : All (IsShown l.variables) w = subst (λ (ns : List (List ℕ)). All (IsShown ns) w) (sym p.variables) are_shown in
    (subst (λ (ns : List (List ℕ)). StateFileSays ns (answer_text l (Explained w widest)) (Ok w)) p.variables (reads l w widest named those p.unchecked), valid w widest a)
