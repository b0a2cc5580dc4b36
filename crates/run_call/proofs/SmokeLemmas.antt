-- From what is true of the module Ring beside its log to what the smoke test calls for.
use Rattle.std.proofs.Common.{arith, ◌≡◌, ◌≤◌, ◌<◌, ◌+◌, ◌∙◌, ℕ, List, [], ◌∷◌, length, length-append, Option, Some, None, Result, Ok, Err, IfOk, refl, string_bytes, subst, sym}
use Rattle.std.specs.Prelude.{◌≢◌, Bool, false}
use Rattle.base_core.specs.Device.{File}
use Rattle.base_core.specs.declared.place.Place.{Place}
use Rattle.values_core.specs.declared.fault.EvalKind.{EvalKind}
use Rattle.reading_trees.specs.declared.config.Config.{Config}
use Rattle.reading_trees.specs.declared.module.Program.{Program}
use Rattle.names_terms.specs.declared.spec.Spec.{Spec}
use Rattle.states_core.specs.declared.state.Shown.{Shown}
use Rattle.steps_lines_defs.specs.Logs.{Asked}
use Rattle.logs_lines.specs.declared.file.FileLines.{FileLines}
use Rattle.logs_files.specs.Lined.{IsLinedOf}
use Rattle.logs_tied.specs.declared.logs.Lined.{Lined}
use Rattle.logs_tied.specs.declared.logs.Lined.TheVariants.{Sequence, Tied}
use Rattle.steps_lined.specs.Answers.{IsTrueOf}
use Rattle.steps_lined.specs.Beside.{AreTellable}
use Rattle.states_layers.specs.declared.answer.Answer.{Answer}
use Rattle.states_layers.specs.declared.answer.Answer.TheVariants.{Explained}
use Rattle.states_verdicts.specs.Laws.{AreOne}
use Rattle.states_verdicts.specs.declared.verdict.Reason.{Reason}
use Rattle.states_verdicts.specs.declared.verdict.Verdict.{Verdict}
use Rattle.states_verdicts.specs.declared.verdict.Verdict.TheVariants.{Valid, Invalid, Fault}
use Rattle.judge_verdicts.specs.LinedLaws.{ExplainedIsJudgedValid, HaveOneOf}
use Rattle.judge_verdicts.specs.Lined.{IsJudgedOf}
use Rattle.steps_lined.specs.Held.{IsHeldSo}
use Rattle.run_ring.specs.Ring.{ring_files, ring_job}
use Rattle.run_words.specs.declared.job.Job.{Job}
use Rattle.run_reading_defs.specs.Reaches.{AllRead, Reaches, has_forms, logged, reads_log}
use Rattle.run_reading_defs.specs.Texts.{LogsRead}
use Rattle.run_stages.specs.declared.stop.Stop.{Stop}
use Rattle.run_stages.specs.declared.stop.Stop.TheVariants as stop
use Rattle.run_stages.specs.Stops.{StopsBy}
use Rattle.run_texts.specs.Answers.{answer_text}
use Rattle.run_texts.specs.Smoke.{smoke_text}
use Rattle.run_call.specs.declared.judge.Judged.{Judged}
use Rattle.run_call.specs.declared.call.Status.{Status}
use Rattle.run_call.specs.declared.call.Status.TheVariants as status
use Rattle.run_call.specs.Calls.{asked_by, is_answered, is_refused, named_in, status_of}
use Rattle.run_call.proofs.CallLemmas.{answer_alone}
use Rattle.run_call.specs.Smoke.{IsSmokeStop, SmokeTests, is_not_explained, is_sure}
use Rattle.run_call.specs.Tested.{IsTested, tested_other, tested_sure}

-- the states that explain the log, with the report of the smoke test
pub tested_surely : (n : ℕ) (job : Job) (p : Program) (c : Config) (s : Spec) (lined : Lined) (w : List Shown) (widest : ℕ) (r : Result Judged Stop)
    → IsTrueOf s (asked_by job.options) lined (Explained w widest) → IsJudgedOf s (asked_by job.options) lined w Valid
    → IfOk r (λ j. j.status ≡ status.Done) → IfOk r (λ j. string_bytes j.report ≡ smoke_text n widest s.variables w)
    → IfOk r (λ j. IsTested n job p c s lined j.status (string_bytes j.report))
tested_surely n job p c s lined w widest (Ok j) is valid at told =
    subst (λ (x : Status). IsTested n job p c s lined x (string_bytes j.report)) (sym at)
    (subst (λ (x : List ℕ). IsTested n job p c s lined status.Done x) (sym told) (tested_sure w widest is valid))
tested_surely n job p c s lined w widest (Err x) is valid at told = tt

-- another answer with its status and its report
pub tested_otherwise : (n : ℕ) (job : Job) (p : Program) (c : Config) (s : Spec) (lined : Lined) (a : Answer) (r : Result Judged Stop) → job.why ≡ None → job.near ≡ None
    → IsTrueOf s (asked_by job.options) lined a → status_of a ≢ status.Done → IfOk r (λ j. j.status ≡ status_of a)
    → IfOk r (λ j. string_bytes j.report ≡ answer_text (named_in job p c s lined) a)
    → IfOk r (λ j. IsTested n job p c s lined j.status (string_bytes j.report))
tested_otherwise n job p c s lined a (Ok j) unasked no_near is other at told =
    tested_other j.status (string_bytes j.report) (answer_alone job p c s lined a j.status (string_bytes j.report) unasked no_near is at told) (λ e. other (sym at ∙ e))
tested_otherwise n job p c s lined a (Err x) unasked no_near is other at told = tt

-- the answer is that the log is explained
pub is_explained : (s : Spec) (lined : Lined) (job : Job) (a : Answer) (w : List Shown) (widest : ℕ) → a ≡ Explained w widest
    → IsTrueOf s (asked_by job.options) lined a → IsTrueOf s (asked_by job.options) lined (Explained w widest)
is_explained s lined job a w widest e is = subst (λ (x : Answer). IsTrueOf s (asked_by job.options) lined x) e is

valid_alone : (v : Verdict) → AreOne Valid v → v ≡ Valid
valid_alone Valid e = refl
valid_alone (Invalid i r) e = absurd e
valid_alone (Fault i kind at) e = absurd e

-- they have no other verdict than that they are valid
pub is_valid : (s : Spec) (lined : Lined) (asked : Asked) (w : List Shown) (widest : ℕ) (v : Verdict) → ExplainedIsJudgedValid s lined asked → HaveOneOf s lined asked → AreTellable lined
    → IsTrueOf s asked lined (Explained w widest) → IsJudgedOf s asked lined w v → v ≡ Valid
is_valid s lined asked w widest v valid one tellable is judged = valid_alone v (one tellable w Valid v (valid w widest is) judged)

pub not_invalid : (v : Verdict) (i : ℕ) (r : Reason) → v ≡ Valid → v ≡ Invalid i r → ⊥
not_invalid v i r valid is = cc

pub not_fault : (v : Verdict) (i : ℕ) (kind : EvalKind) (at : Place) → v ≡ Valid → v ≡ Fault i kind at → ⊥
not_fault v i kind at valid is = cc

tests_of : (n : ℕ) (p : Program) (c : Config) (s : Spec) (lined : Lined) (x : Status) (report : List ℕ) → AllRead (Some (ring_files n)) ring_job p c s lined
    → IsHeldSo s lined → IsTested n ring_job p c s lined x report → SmokeTests n x report
tests_of n p c s lined x report read held (tested_sure w widest is valid) = is_sure p c s lined w widest read is valid
tests_of n p c s lined x report read held (tested_other _ _ answers other) = is_not_explained x report (is_answered p c s lined x report read held answers) other

-- what the smoke test calls for, the module and its log being read
pub smoke_tested : (n : ℕ) (files : List File) (job : Job) (p : Program) (c : Config) (s : Spec) (lined : Lined) (r : Result Judged Stop) → files ≡ ring_files n
    → job ≡ ring_job → AllRead (Some files) job p c s lined → IsHeldSo s lined → IfOk r (λ j. IsTested n job p c s lined j.status (string_bytes j.report))
    → IfOk r (λ j. SmokeTests n j.status (string_bytes j.report))
smoke_tested n files job p c s lined (Ok j) there is read held tested =
    let own = subst (λ (x : List File). AllRead (Some x) ring_job p c s lined) there (subst (λ (x : Job). AllRead (Some files) x p c s lined) is read) in
    tests_of n p c s lined j.status (string_bytes j.report) own held (subst (λ (x : Job). IsTested n x p c s lined j.status (string_bytes j.report)) is tested)
smoke_tested n files job p c s lined (Err x) there is read held tested = tt

stop_of_ring : (n : ℕ) (x : Stop) → StopsBy (Some (ring_files n)) 0 0 ring_job x → IsSmokeStop n x
stop_of_ring n (stop.Refused report) by = is_not_explained status.Reading (string_bytes report) (is_refused (string_bytes report) by) (λ e. cc)
stop_of_ring n (stop.Device name) by = omega (arith, by.0)
stop_of_ring n stop.NoMemory by = tt

-- why the reading of the module and its log stops
pub smoke_stop : (n : ℕ) (files : List File) (job : Job) (x : Stop) → files ≡ ring_files n → job ≡ ring_job → StopsBy (Some files) 0 0 job x
    → IsSmokeStop n x
smoke_stop n files job x held is by =
    stop_of_ring n x (subst (λ (fs : List File). StopsBy (Some fs) 0 0 ring_job x) held (subst (λ (k : Job). StopsBy (Some files) 0 0 k x) is by))

-- as many logs are read as were named
counted : (holds : Option (List File)) (job : Job) (p : Program) (c : Config) (s : Spec) (read : LogsRead) (names : List (List ℕ)) → Reaches holds job (logged p c s read names)
    → length read.found + length names ≡ length job.logs
counted holds job p c s _ _ (has_forms _ _ _ reaches whole) = omega arith
counted holds job p c s _ names (reads_log _ _ _ read name _ text f reaches log says) =
    let before = counted holds job p c s read (name ∷ names) reaches in
    omega (arith, before, length-append read.found (f ∷ []))

-- the lines of one log stand in one order
one_order : (ties : Bool) (files : List FileLines) (lined : Lined) → length files ≡ 1 → IsLinedOf ties files lined → AreTellable lined
one_order ties files (Sequence log) one is = tt
one_order ties files (Tied logs) one is = absurd (omega (arith, one, is.1))

pub ring_in_order : (n : ℕ) (files : List File) (job : Job) (p : Program) (c : Config) (s : Spec) (lined : Lined) → job ≡ ring_job → AllRead (Some files) job p c s lined → AreTellable lined
ring_in_order n files job p c s lined is read =
    let own = subst (λ (x : Job). AllRead (Some files) x p c s lined) is read in
    let count : length own.read.found + 0 ≡ 1 = counted (Some files) ring_job p c s own.read [] own.reaches in
    one_order false own.read.found lined (omega (arith, count)) own.lines
