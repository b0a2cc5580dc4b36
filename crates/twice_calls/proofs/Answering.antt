-- What `check` of the printed states answers is VALID.
use Rattle.std.proofs.Common.{◌≡◌, ℕ, List, [], Option, length, Some, Result, Ok, inl, inr, refl, ap, sym, ◌∙◌, subst}
use Rattle.base_core.specs.Device.{File, IsWhole}
use Rattle.reading_trees.specs.declared.config.Config.{Config}
use Rattle.reading_trees.specs.declared.module.Program.{Program}
use Rattle.states_core.specs.declared.state.Shown.{Shown}
use Rattle.names_terms.specs.declared.spec.Spec.{Spec}
use Rattle.eval_known.specs.Known.{KnowsSpecification}
use Rattle.steps_lines_defs.specs.Logs.{Asked, system}
use Rattle.logs_tied.specs.declared.logs.Lined.{Lined}
use Rattle.logs_tied.specs.declared.logs.Lined.TheVariants.{Sequence, Tied}
use Rattle.logs_tied.specs.declared.logs.Logs.{Logs}
use Rattle.steps_tied.specs.Tied.{tied_system}
use Rattle.steps_ready_defs.specs.Ready.{IsReadySpec}
use Rattle.steps_lined.specs.Answers.{IsTrueOf, IsUnassumedOf}
use Rattle.steps_lined.specs.Beside.{IsReadyOver}
use Rattle.judge_verdicts.specs.LinedLaws.{HaveOneOf}
use Rattle.judge_verdicts.specs.Lined.{IsJudgedOf}
use Rattle.states_files.specs.Files.{StateFileSays}
use Rattle.states_files.specs.Laws.{StateFileSaysOne}
use Rattle.states_files.specs.declared.refusal.StateRefusal.{StateRefusal}
use Rattle.states_layers.specs.Says.{IsUnassumed}
use Rattle.states_layers.specs.declared.answer.Answer.{Answer}
use Rattle.states_layers.specs.declared.answer.Answer.TheVariants.{Explained, NotExplained, NoInitial, InitFault, Fault as StateFault, AssumeFault, AssumeFalse, LayerLimit, TotalLimit}
use Rattle.states_verdicts.specs.Laws.{AreOne}
use Rattle.states_verdicts.specs.declared.verdict.Verdict.{Verdict}
use Rattle.states_verdicts.specs.declared.verdict.Verdict.TheVariants as verdict
use Rattle.run_words.specs.declared.job.Job.{Job}
use Rattle.run_texts.specs.Answers.{answer_text}
use Rattle.run_texts.specs.Verdicts.{verdict_text}
use Rattle.run_reading_defs.specs.Given.{AllGiven, IsGivenRefusal}
use Rattle.run_reading_defs.specs.Reaches.{AllRead}
use Rattle.run_reading_defs.specs.Refusals.{all_files}
use Rattle.run_call.specs.Calls.{AnswersGiven, CallsGiven, asked_by, is_answered_given, is_judged, is_refused_given, is_unassumed, named_in, status_of_verdict}
use Rattle.run_call.specs.declared.call.Status.{Status}
use Rattle.run_call.specs.declared.call.Status.TheVariants.{Done}
use Rattle.twice_calls.specs.Printed.{PrintsValid, searching}
use Rattle.twice_calls.proofs.Searching.{all_read_so, judged_so}
use Rattle.twice_readings.specs.Readings.{AreSame, ReadingIsOne}
use Rattle.twice_logs.specs.LinedBeside.{AreBesideLined}
use Rattle.twice_logs.specs.Lined.{LinedAnswersAlike, LinedVerdictsAlike}
use Rattle.twice_calls.specs.OwnPlace.{ReadAreTellable}
use Rattle.twice_calls.specs.Assumption.{AssumedAreNotUnassumed}
use Rattle.twice_readings.specs.NotRefused.{GivenNotRefused}
use Rattle.twice_calls.specs.Answered.{CheckAnswersValid, CheckIsValid, IsValidOrRefused}

some_is : {A : Type 0} (a b : A) → Some a ≡ Some b → a ≡ b
some_is a b e = cc

ok_is : (w v : List Shown) (r q : Result (List Shown) StateRefusal) → r ≡ Ok w → q ≡ Ok v → r ≡ q → w ≡ v
ok_is w v r q a b e = cc

-- a verdict beside VALID is VALID
only_valid : (v : Verdict) → AreOne verdict.Valid v → v ≡ verdict.Valid
only_valid verdict.Valid h = refl
only_valid (verdict.Invalid index reason) h = absurd h
only_valid (verdict.Fault index kind at) h = absurd h

-- What is known of the parts of the law.
pub record Known (job : Job) (p : Program) (c : Config) (s : Spec) (lined : Lined) : Type 0 where
  pub prints : PrintsValid job p c s lined
  pub one : (asked : Asked) → HaveOneOf s lined asked
  pub own : ReadAreTellable
  pub values : KnowsSpecification s
  pub assumed : AssumedAreNotUnassumed
  pub reading : ReadingIsOne
  pub answers : LinedAnswersAlike
  pub verdicts : LinedVerdictsAlike
  pub states : StateFileSaysOne

-- what is said of an assumption reads no line
unassumed_alone : (s : Spec) (logs : Logs) (asked : Asked) (answer : Answer) → IsUnassumed (tied_system s logs asked) answer
    → IsUnassumed (system s (record { init = logs.init; lines = [] }) asked) answer
unassumed_alone s logs asked (AssumeFault kind at) h = record { index = h.index; below = h.below; earlier = h.earlier; faults = h.faults }
unassumed_alone s logs asked (AssumeFalse at) h = record { index = h.index; below = h.below; earlier = h.earlier; is_false = h.is_false }
unassumed_alone s logs asked (Explained w widest) h = h
unassumed_alone s logs asked (NotExplained n of after w) h = h
unassumed_alone s logs asked NoInitial h = h
unassumed_alone s logs asked (InitFault kind at) h = h
unassumed_alone s logs asked (StateFault n j state kind at) h = h
unassumed_alone s logs asked (LayerLimit n j) h = h
unassumed_alone s logs asked (TotalLimit n j) h = h

-- where the lines are explained no assumption faults or is FALSE, whatever is asked for beside
not_unassumed : AssumedAreNotUnassumed → (s : Spec) (lined : Lined) (searched asked : Asked) → KnowsSpecification s → (w : List Shown) (widest : ℕ)
    → IsTrueOf s searched lined (Explained w widest) → (answer : Answer) → IsUnassumedOf s asked lined answer → ⊥
not_unassumed law s (Sequence log) searched asked values w widest explained answer h = law s log asked values.bodies values.assumes explained.0 answer h
not_unassumed law s (Tied logs) searched asked values w widest explained answer h =
    law s (record { init = logs.init; lines = [] }) asked values.bodies values.assumes explained.0 answer (unassumed_alone s logs asked answer h)

pub spec_of : (s : Spec) (lined : Lined) → IsReadyOver s lined → IsReadySpec s
spec_of s (Sequence log) ready = ready.spec
spec_of s (Tied logs) ready = ready.0.spec

beside : (p q : Program) (c d : Config) (s t : Spec) (lined other : Lined) → AreSame p q c d s t lined other → AreBesideLined s t lined other
beside p q c d s t lined other same = record { specs = same.specs; smaller = same.ordered.smaller; smaller_other = same.other_ordered.smaller; lines = same.lines }

module _ (job : Job) (p : Program) (c : Config) (s : Spec) (lined : Lined) (known : Known job p c s lined) (w : List Shown) (widest : ℕ)
    (true_answer : IsTrueOf s (asked_by job.options) lined (Explained w widest)) (limit : ℕ) (why near : Option ℕ) (files : List File) (witness : List ℕ)
    (all : AllRead (Some files) job p c s lined) (whole : IsWhole witness (Some files) (answer_text (named_in job p c s lined) (Explained w widest))) where
  -- the job of `check`, and what it asks for
  abbrev check : Job
  check = searching limit why near job

  abbrev asked : Asked
  asked = asked_by check.options

  -- the file gives the states that were printed
  same_states : (q : Program) (d : Config) (t : Spec) (other : Lined) (v : List Shown) → AreSame p q c d s t lined other → AllGiven (Some files) check witness q d t other v → w ≡ v
  same_states q d t other v same given =
      let printed : List ℕ = answer_text (named_in job p c s lined) (Explained w widest) in
      let texts : given.text ≡ printed = some_is given.text printed (sym given.has_text.whole ∙ whole) in
      let names : StateFileSays s.variables given.text (Ok v) = subst (λ (x : List (List ℕ)). StateFileSays x given.text (Ok v)) (sym same.specs.variables) given.says in
      let there : StateFileSays s.variables printed (Ok v) = subst (λ (x : List ℕ). StateFileSays s.variables x (Ok v)) texts names in
      ok_is w v (Ok w) (Ok v) refl refl (known.states s.variables printed (Ok w) (Ok v) (known.prints w widest true_answer).0 there)

  -- the verdict on them is VALID beside any specification that is alike
  same_verdict : (q : Program) (d : Config) (t : Spec) (other : Lined) (v : List Shown) (u : Verdict) → AreSame q p d c t s other lined → w ≡ v
      → IsJudgedOf t asked other v u → u ≡ verdict.Valid
  same_verdict q d t other v u back states is =
      let here : IsJudgedOf s asked lined v u = known.verdicts t s other lined asked (beside q p d c t s other lined back) v u is in
      let there : IsJudgedOf s asked lined w u = subst (λ (x : List Shown). IsJudgedOf s asked lined x u) (sym states) here in
      only_valid u (known.one asked (known.own (Some files) job p c s lined all) w verdict.Valid u (judged_so s lined (asked_by job.options) limit w (known.prints w widest true_answer).1) there)

  answered : (q : Program) (d : Config) (t : Spec) (other : Lined) (v : List Shown) (before now : ℕ) (status : Status) (report : List ℕ) → AreSame p q c d s t lined other
      → AreSame q p d c t s other lined → w ≡ v → AnswersGiven check q d t other v status report → IsValidOrRefused (Some files) before now check p c witness w status report
  answered q d t other v before now _ _ same back states (is_unassumed answer un status_is report_is) =
      let here = (known.answers t s other lined asked (beside q p d c t s other lined back)).unassumed answer un in
      absurd (not_unassumed known.assumed s lined (asked_by job.options) asked known.values w widest true_answer answer here)
  answered q d t other v before now _ _ same back states (is_judged u assumed is status_is report_is) =
      let valid : u ≡ verdict.Valid = same_verdict q d t other v u back states is in
      let text : verdict_text (all_files q d) (length v) u ≡ verdict_text (all_files p c) (length w) verdict.Valid =
      λ i. verdict_text (all_files (sym same.programs i) (sym same.configurations i)) (length (sym states i)) (valid i) in
      inr (status_is ∙ ap status_of_verdict valid, report_is ∙ text)

  called : (before now : ℕ) (status : Status) (report : List ℕ) → CallsGiven (Some files) before now check witness status report
      → IsValidOrRefused (Some files) before now check p c witness w status report
  called before now _ _ (is_refused_given report refusal) = inl (refl, refusal)
  called before now _ _ (is_answered_given q d t other v status report given answers) =
      let read = all_read_so limit why near (Some files) job p c s lined all in
      let same = known.reading files check p q c d s t lined other read given.all_read in
      let back = known.reading files check q p d c t s other lined given.all_read read in
      answered q d t other v before now status report same back (same_states q d t other v same given) answers

pub check_answers_valid : (job : Job) (p : Program) (c : Config) (s : Spec) (lined : Lined) → Known job p c s lined → CheckAnswersValid job p c s lined
check_answers_valid job p c s lined known w widest true_answer limit why near files witness all whole =
    called job p c s lined known w widest true_answer limit why near files witness all whole

-- what is not refused is VALID
not_refused : (files : List File) (before now : ℕ) (job : Job) (p : Program) (c : Config) (witness : List ℕ) (w : List Shown) (status : Status) (report : List ℕ)
    → (IsGivenRefusal (Some files) before now job witness report → ⊥) → IsValidOrRefused (Some files) before now job p c witness w status report
    → (status ≡ Done) × (report ≡ verdict_text (all_files p c) (length w) verdict.Valid)
not_refused files before now job p c witness w status report never (inl refused) = absurd (never refused.1)
not_refused files before now job p c witness w status report never (inr valid) = valid

pub check_is_valid : (job : Job) (p : Program) (c : Config) (s : Spec) (lined : Lined) → Known job p c s lined → GivenNotRefused → CheckIsValid job p c s lined
check_is_valid job p c s lined known never w widest true_answer limit why near files witness all has before now status report calls =
    let check : Job = searching limit why near job in
    let read = all_read_so limit why near (Some files) job p c s lined all in
    let given : AllGiven (Some files) check witness p c s lined w =
    record { all_read = read; text = answer_text (named_in job p c s lined) (Explained w widest); has_text = has; says = (known.prints w widest true_answer).0 } in
    not_refused files before now check p c witness w status report (never files before now check witness p c s lined w report given)
    (check_answers_valid job p c s lined known w widest true_answer limit why near files witness all has.whole before now status report calls)
