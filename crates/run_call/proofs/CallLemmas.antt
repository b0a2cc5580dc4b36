-- From what each stage ensures to what the words and the files call for, and to what the sink then holds.
use Rattle.std.proofs.Common.{ap, refl, ◌≡◌, ℕ, List, length, Option, Some, None, Result, Ok, Err, IfOk, IfErr, string_bytes, sym, ◌∙◌, subst, inl, inr}
use Rattle.std.specs.Prelude.{◌⊎◌, OnOk, OnErr, String}
use Rattle.std.specs.declared.alloc.Global.{Global}
use Rattle.std.proofs.Math.Seq.{take-length}
use Rattle.base_core.specs.Device.{File, Rose, Appended, AppendedPart}
use Rattle.base_core.specs.Failures.{Failures, one_more}
use Rattle.base_core.specs.declared.device.Failed.{Failed}
use Rattle.reading_trees.specs.declared.config.Config.{Config}
use Rattle.reading_trees.specs.declared.module.Program.{Program}
use Rattle.names_terms.specs.declared.spec.Spec.{Spec}
use Rattle.logs_updates.specs.declared.line.Log.{Log}
use Rattle.logs_tied.specs.declared.logs.Lined.{Lined}
use Rattle.logs_tied.specs.declared.logs.Lined.TheVariants.{Sequence, Tied}
use Rattle.logs_tied.specs.declared.logs.Logs.{Logs}
use Rattle.states_core.specs.declared.state.Shown.{Shown}
use Rattle.steps_lines_defs.specs.Logs.{Asked, system}
use Rattle.states_layers.specs.Answers.{IsAnswer}
use Rattle.steps_lined.specs.Answers.{AreAssumedOf, IsTrueOf, IsUnassumedOf}
use Rattle.steps_lined.specs.Beside.{lines_of}
use Rattle.states_layers.specs.declared.answer.Answer.{Answer}
use Rattle.states_layers.specs.declared.answer.Answer.TheVariants.{Explained, NotExplained, NoInitial, InitFault, Fault, AssumeFault, AssumeFalse, LayerLimit, TotalLimit}
use Rattle.states_verdicts.specs.declared.verdict.Verdict.{Verdict}
use Rattle.states_verdicts.specs.declared.verdict.Verdict.TheVariants as verdict
use Rattle.judge_verdicts.specs.Lined.{IsJudgedOf}
use Rattle.steps_lined.specs.Held.{IsHeldSo}
use Rattle.run_ring.specs.Ring.{ring_files, ring_job}
use Rattle.run_words.specs.declared.job.Job.{Job}
use Rattle.run_words.specs.declared.job.Words.TheVariants.{Validate, Check, SelfRun}
use Rattle.run_words.specs.declared.job.Words.{Words}
use Rattle.run_words.specs.Words.{AreWords, Reads}
use Rattle.run_reading_defs.specs.Reaches.{AllRead}
use Rattle.run_reading_defs.specs.Given.{AllGiven}
use Rattle.run_stages.specs.declared.stop.Stop.{Stop}
use Rattle.run_stages.specs.declared.stop.Stop.TheVariants as stop
use Rattle.run_stages.specs.Stops.{IsToldBy, StopsBy}
use Rattle.run_stages.specs.GivenStops.{GivenStopsBy}
use Rattle.run_call.specs.declared.judge.Judged.{Judged}
use Rattle.run_call.specs.declared.call.Status.{Status}
use Rattle.run_call.specs.declared.call.Status.TheVariants as status
use Rattle.run_call.specs.Calls.{Answers, AnswersGiven, Calls, CallsGiven, IsReportOf, asked_by, is_answered, is_answered_given, is_judged, is_refused, is_refused_given, is_unassumed, named_beside, named_in, status_of, status_of_verdict}
use Rattle.run_reading_defs.specs.Refusals.{all_files}
use Rattle.run_texts.specs.Answers.{Named, answer_text}
use Rattle.run_texts.specs.Verdicts.{verdict_text}
use Rattle.run_texts.specs.Files.{device_text}
use Rattle.run_why.specs.Reports.{IsReport}
use Rattle.run_why.proofs.Reporting.{unasked_report}
use Rattle.run_call.specs.Smoke.{IsSmokeStop, SmokeTests, is_not_explained, is_sure}
use Rattle.run_call.specs.Run.{HasFailed, HoldsPart, IsStop, IsWanted, NamesFailure, Runs, checks, in_no_form, tests_itself, validates, of_report, of_device}

-- what is behind the labels of a report
abbrev pub labelled : Job → Spec → List (List ℕ) → ℕ → Named
labelled job s files lines = record { files = files; logs = job.logs; variables = s.variables; unchecked = s.unchecked; lines = lines; limit = job.options.limit }

-- what a job calls for, the words being that job
pub runs_job : (words : List (List ℕ)) (holds : Option (List File)) (b n : ℕ) (job : Job) (r : Result Judged Stop) → AreWords words (Validate job)
    → IfOk r (λ j. Calls holds b n job j.status (string_bytes j.report))
    → IfOk r (λ j. Runs words holds b n j.status (string_bytes j.report))
runs_job words holds b n job (Ok j) form calls = validates job j.status (string_bytes j.report) form calls
runs_job words holds b n job (Err x) form calls = tt

-- words that are refused
pub runs_as : (words : List (List ℕ)) (holds : Option (List File)) (b n : ℕ) (r : Result Judged Stop) (s : Status) (report : List ℕ)
    → IfOk r (λ j. j.status ≡ s) → IfOk r (λ j. string_bytes j.report ≡ report) → Runs words holds b n s report
    → IfOk r (λ j. Runs words holds b n j.status (string_bytes j.report))
runs_as words holds b n (Ok j) s report is told runs = rw (is, told) runs
runs_as words holds b n (Err x) s report is told runs = tt

-- why the reading of a job stops, the words being that job
stop_of : (words : List (List ℕ)) (holds : Option (List File)) (b n : ℕ) (job : Job) (x : Stop) → AreWords words (Validate job)
    → StopsBy holds b n job x → IsStop words holds b n x
stop_of words holds b n job (stop.Refused report) form by =
    validates job status.Reading (string_bytes report) form (is_refused (string_bytes report) by)
stop_of words holds b n job (stop.Device name) form by = (by.0, record { command = Validate job; form = form; wants = by.1 })
stop_of words holds b n job stop.NoMemory form by = tt

pub stops_job : (words : List (List ℕ)) (holds : Option (List File)) (b n : ℕ) (job : Job) (r : Result Judged Stop) → AreWords words (Validate job)
    → IfErr r (StopsBy holds b n job) → IfErr r (IsStop words holds b n)
stops_job words holds b n job (Ok j) form by = tt
stops_job words holds b n job (Err x) form by = stop_of words holds b n job x form by

-- what a job of `check` calls for, the words being that job
pub runs_given : (words : List (List ℕ)) (holds : Option (List File)) (b n : ℕ) (job : Job) (witness : List ℕ) (r : Result Judged Stop) → AreWords words (Check job witness)
    → IfOk r (λ j. CallsGiven holds b n job witness j.status (string_bytes j.report))
    → IfOk r (λ j. Runs words holds b n j.status (string_bytes j.report))
runs_given words holds b n job witness (Ok j) form calls = checks job witness j.status (string_bytes j.report) form calls
runs_given words holds b n job witness (Err x) form calls = tt

given_stop_of : (words : List (List ℕ)) (holds : Option (List File)) (b n : ℕ) (job : Job) (witness : List ℕ) (x : Stop) → AreWords words (Check job witness)
    → GivenStopsBy holds b n job witness x → IsStop words holds b n x
given_stop_of words holds b n job witness (stop.Refused report) form by =
    checks job witness status.Reading (string_bytes report) form (is_refused_given (string_bytes report) by)
given_stop_of words holds b n job witness (stop.Device name) form by = (by.0, record { command = Check job witness; form = form; wants = by.1 })
given_stop_of words holds b n job witness stop.NoMemory form by = tt

pub stops_given : (words : List (List ℕ)) (holds : Option (List File)) (b n : ℕ) (job : Job) (witness : List ℕ) (r : Result Judged Stop) → AreWords words (Check job witness)
    → IfErr r (GivenStopsBy holds b n job witness) → IfErr r (IsStop words holds b n)
stops_given words holds b n job witness (Ok j) form by = tt
stops_given words holds b n job witness (Err x) form by = given_stop_of words holds b n job witness x form by

-- what the smoke test calls for, the words being that command
pub runs_smoke : (words : List (List ℕ)) (holds : Option (List File)) (b n count : ℕ) (r : Result Judged Stop) → AreWords words (SelfRun count)
    → IfOk r (λ j. SmokeTests count j.status (string_bytes j.report))
    → IfOk r (λ j. Runs words holds b n j.status (string_bytes j.report))
runs_smoke words holds b n count (Ok j) form tests = tests_itself count j.status (string_bytes j.report) form tests
runs_smoke words holds b n count (Err x) form tests = tt

smoke_stop_of : (words : List (List ℕ)) (holds : Option (List File)) (b n count : ℕ) (x : Stop) → AreWords words (SelfRun count) → IsSmokeStop count x
    → IsStop words holds b n x
smoke_stop_of words holds b n count (stop.Refused report) form by = tests_itself count status.Reading (string_bytes report) form by
smoke_stop_of words holds b n count (stop.Device name) form by = absurd by
smoke_stop_of words holds b n count stop.NoMemory form by = tt

pub stops_smoke : (words : List (List ℕ)) (holds : Option (List File)) (b n count : ℕ) (r : Result Judged Stop) → AreWords words (SelfRun count)
    → IfErr r (IsSmokeStop count) → IfErr r (IsStop words holds b n)
stops_smoke words holds b n count (Ok j) form by = tt
stops_smoke words holds b n count (Err x) form by = smoke_stop_of words holds b n count x form by

-- no report goes with a failed call on the files or on the sink
status_no_device : (a : Answer) → status_of a ≡ status.Device → ⊥
status_no_device (Explained w widest) e = cc
status_no_device (NotExplained prefix all after w) e = cc
status_no_device NoInitial e = cc
status_no_device (InitFault kind at) e = cc
status_no_device (Fault after silent s kind at) e = cc
status_no_device (AssumeFault kind at) e = cc
status_no_device (AssumeFalse at) e = cc
status_no_device (LayerLimit after silent) e = cc
status_no_device (TotalLimit after silent) e = cc

calls_no_device : (holds : Option (List File)) (b n : ℕ) (job : Job) (s : Status) (report : List ℕ) → Calls holds b n job s report → s ≡ status.Device → ⊥
calls_no_device holds b n job s report (is_refused _ refusal) e = cc
calls_no_device holds b n job s report (is_answered p c g lined _ _ read held answers) e = status_no_device answers.answer (sym answers.status_is ∙ e)

verdict_no_device : (v : Verdict) → status_of_verdict v ≡ status.Device → ⊥
verdict_no_device verdict.Valid e = cc
verdict_no_device (verdict.Invalid index reason) e = cc
verdict_no_device (verdict.Fault index kind at) e = cc

answers_no_device : (job : Job) (p : Program) (c : Config) (g : Spec) (lined : Lined) (w : List Shown) (s : Status) (report : List ℕ)
    → AnswersGiven job p c g lined w s report → s ≡ status.Device → ⊥
answers_no_device job p c g lined w s report (is_unassumed answer is at told) e = status_no_device answer (sym at ∙ e)
answers_no_device job p c g lined w s report (is_judged v all is at told) e = verdict_no_device v (sym at ∙ e)

given_no_device : (holds : Option (List File)) (b n : ℕ) (job : Job) (witness : List ℕ) (s : Status) (report : List ℕ) → CallsGiven holds b n job witness s report
    → s ≡ status.Device → ⊥
given_no_device holds b n job witness s report (is_refused_given _ refusal) e = cc
given_no_device holds b n job witness s report (is_answered_given p c g lined w _ _ read answers) e = answers_no_device job p c g lined w s report answers e

smoke_no_device : (count : ℕ) (s : Status) (report : List ℕ) → SmokeTests count s report → s ≡ status.Device → ⊥
smoke_no_device count s report (is_sure p c g lined w widest read is valid) e = cc
smoke_no_device count s report (is_not_explained _ _ calls other) e = calls_no_device (Some (ring_files count)) 0 0 ring_job s report calls e

pub runs_no_device : (words : List (List ℕ)) (holds : Option (List File)) (b n : ℕ) (s : Status) (report : List ℕ) → Runs words holds b n s report
    → s ≡ status.Device → ⊥
runs_no_device words holds b n s report (in_no_form none) e = cc
runs_no_device words holds b n s report (validates job _ _ form calls) e = calls_no_device holds b n job s report calls e
runs_no_device words holds b n s report (checks job witness _ _ form calls) e = given_no_device holds b n job witness s report calls e
runs_no_device words holds b n s report (tests_itself count _ _ form tests) e = smoke_no_device count s report tests e

-- a whole piece is a first part of itself
pub whole_part : (old new : Option (List ℕ)) (piece : List ℕ) → Appended old piece new → AppendedPart old piece new
whole_part old new piece is = (length piece, subst (λ (p : List ℕ). Appended old p new) (sym (take-length piece)) is)

-- what a call of `put` leaves, whole or in part
pub put_part : (r : Result (Unit {0}) Failed) (old new : Option (List ℕ)) (piece : List ℕ) → OnOk r (Appended old piece new) → OnErr r (AppendedPart old piece new)
    → AppendedPart old piece new
put_part (Ok u) old new piece whole part = whole_part old new piece whole
put_part (Err x) old new piece whole part = part

-- a read failed, and the line of its file was written or the write of it failed too
pub put_device : (r : Result (Unit {0}) Failed) (words : List (List ℕ)) (holds : Option (List File)) (b n out_b out_n : ℕ) (old new : Option (List ℕ)) (name piece : List ℕ)
    → Rose b n → IsWanted words holds name → piece ≡ device_text name → OnOk r (Appended old piece new) → OnErr r (Rose out_b out_n)
    → HasFailed words holds b n out_b out_n old new
put_device (Ok u) words holds b n out_b out_n old new name piece rose wanted is whole failed =
    inr (rose, (name, wanted, subst (λ (p : List ℕ). Appended old p new) is whole))
put_device (Err x) words holds b n out_b out_n old new name piece rose wanted is whole failed = inl failed

pub put_named : (r : Result (Unit {0}) Failed) (words : List (List ℕ)) (holds : Option (List File)) (before now : Failures) (out_b out_n : ℕ) (old new : Option (List ℕ)) (name piece : List ℕ)
    → now ≡ one_more (Some name) before → IsWanted words holds name → piece ≡ device_text name → OnOk r (Appended old piece new) → OnErr r (Rose out_b out_n)
    → Rose out_b out_n ⊎ NamesFailure words holds before now old new
put_named (Ok u) words holds before now out_b out_n old new name piece told wanted is whole failed =
    inr (record { name = name; wanted = wanted; failed = told; line = subst (λ (p : List ℕ). Appended old p new) is whole })
put_named (Err x) words holds before now out_b out_n old new name piece told wanted is whole failed = inl failed

-- which calls on files failed, where a call stops so
pub device_told : (before now : Failures) (x : Stop) (name : List ℕ) → x ≡ stop.Device name → IsToldBy before now x → now ≡ one_more (Some name) before
device_told before now x name is told = subst (λ (y : Stop). IsToldBy before now y) is told

pub refused_quiet : (before now : Failures) (x : Stop) (report : String Global) → x ≡ stop.Refused report → IsToldBy before now x → now ≡ before
refused_quiet before now x report is told = subst (λ (y : Stop). IsToldBy before now y) is told

-- the smoke test reads no file of these
pub smoke_quiet : {A : Type 0} (n : ℕ) (f : Failures) (r : Result A Stop) → IfErr r (IsSmokeStop n) → IfErr r (IsToldBy f f)
smoke_quiet n f (Ok j) by = tt
smoke_quiet n f (Err (stop.Refused report)) by = refl
smoke_quiet n f (Err (stop.Device name)) by = absurd by
smoke_quiet n f (Err stop.NoMemory) by = tt

-- the line of a file whose read failed stands in the sink, whole or in part
pub device_part : (r : Result (Unit {0}) Failed) (words : List (List ℕ)) (holds : Option (List File)) (b n : ℕ) (old new : Option (List ℕ)) (name piece : List ℕ)
    → IsWanted words holds name → piece ≡ device_text name → OnOk r (Appended old piece new) → OnErr r (AppendedPart old piece new)
    → HoldsPart words holds b n old new
device_part r words holds b n old new name piece wanted is whole part =
    of_device name wanted (subst (λ (p : List ℕ). AppendedPart old p new) is (put_part r old new piece whole part))

-- what a job calls for, all texts being read
pub calls_answered : (holds : Option (List File)) (b n : ℕ) (job : Job) (p : Program) (c : Config) (s : Spec) (lined : Lined) (r : Result Judged Stop)
    → AllRead holds job p c s lined → IsHeldSo s lined → IfOk r (λ j. Answers job p c s lined j.status (string_bytes j.report))
    → IfOk r (λ j. Calls holds b n job j.status (string_bytes j.report))
calls_answered holds b n job p c s lined (Ok j) read held answers = is_answered p c s lined j.status (string_bytes j.report) read held answers
calls_answered holds b n job p c s lined (Err x) read held answers = tt

-- what a job of `check` calls for, all texts being read
pub given_answered : (holds : Option (List File)) (b n : ℕ) (job : Job) (witness : List ℕ) (p : Program) (c : Config) (s : Spec) (lined : Lined) (w : List Shown) (r : Result Judged Stop)
    → AllGiven holds job witness p c s lined w → IfOk r (λ j. AnswersGiven job p c s lined w j.status (string_bytes j.report))
    → IfOk r (λ j. CallsGiven holds b n job witness j.status (string_bytes j.report))
given_answered holds b n job witness p c s lined w (Ok j) read answers = is_answered_given p c s lined w j.status (string_bytes j.report) read answers
given_answered holds b n job witness p c s lined w (Err x) read answers = tt

-- the report of an answer, where nothing is asked for behind it
alone_of : (s : Spec) (lined : Lined) (asked : Asked) (named : Named) (a : Answer) (report : List ℕ) → report ≡ answer_text named a → IsReportOf s lined asked named None None a report
alone_of s (Sequence log) asked named a report told = unasked_report s log asked named a report told
alone_of s (Tied logs) asked named a report told = told

-- an answer with its status and its report, where nothing is asked for behind it
pub answer_alone : (job : Job) (p : Program) (c : Config) (s : Spec) (lined : Lined) (a : Answer) (x : Status) (report : List ℕ) → job.why ≡ None → job.near ≡ None
    → IsTrueOf s (asked_by job.options) lined a → x ≡ status_of a → report ≡ answer_text (named_in job p c s lined) a → Answers job p c s lined x report
answer_alone job p c s lined a x report unasked no_near is at told =
    let asked = asked_by job.options in
    let named = named_in job p c s lined in
    record {
      answer = a;
      is_true = is;
      status_is = at;
      report_is = subst (λ (why : Option ℕ). IsReportOf s lined asked named why job.near a report) (sym unasked)
          (subst (λ (near : Option ℕ). IsReportOf s lined asked named None near a report) (sym no_near) (alone_of s lined asked named a report told));
    }

-- an answer of logs whose lines may stand in several orders, with its status and its report
answer_of_ties : (job : Job) (p : Program) (c : Config) (s : Spec) (lined : Lined) (logs : Logs) (a : Answer) (x : Status) (report : List ℕ) → lined ≡ Tied logs
    → IsTrueOf s (asked_by job.options) lined a → x ≡ status_of a → report ≡ answer_text (named_in job p c s lined) a → Answers job p c s lined x report
answer_of_ties job p c s lined logs a x report ties is at told = record {
  answer = a;
  is_true = is;
  status_is = at;
  report_is = subst (λ (l : Lined). IsReportOf s l (asked_by job.options) (named_in job p c s lined) job.why job.near a report) (sym ties) told;
}

pub told_ties : (job : Job) (p : Program) (c : Config) (s : Spec) (lined : Lined) (logs : Logs) (a : Answer) (r : Result Judged Stop) → lined ≡ Tied logs
    → IsTrueOf s (asked_by job.options) lined a → IfOk r (λ j. j.status ≡ status_of a) → IfOk r (λ j. string_bytes j.report ≡ answer_text (named_in job p c s lined) a)
    → IfOk r (λ j. Answers job p c s lined j.status (string_bytes j.report))
told_ties job p c s lined logs a (Ok j) ties is at told = answer_of_ties job p c s lined logs a j.status (string_bytes j.report) ties is at told
told_ties job p c s lined logs a (Err x) ties is at told = tt

-- an answer beside one log with its status, and with the whole report, by what the labels are
pub answered_whole : (job : Job) (p : Program) (c : Config) (s : Spec) (lined : Lined) (log : Log) (lines : ℕ) (files : List (List ℕ)) (a : Answer) (x : Status) (report : List ℕ)
    → lined ≡ Sequence log → files ≡ all_files p c → lines ≡ length log.lines → IsAnswer (system s log (asked_by job.options)) a → x ≡ status_of a
    → IsReport s log (asked_by job.options) (labelled job s files lines) job.why job.near a report → Answers job p c s lined x report
answered_whole job p c s lined log lines files a x report one are count is at told =
    let options = asked_by job.options in
    let of_files = subst (λ (fs : List (List ℕ)). IsReport s log options (labelled job s fs lines) job.why job.near a report) are told in
    let of_lines = subst (λ (n : ℕ). IsReport s log options (named_beside job p c s n) job.why job.near a report) count of_files in
    let there : Answers job p c s (Sequence log) x report =
    record {
      answer = a;
      is_true = is;
      status_is = at;
      report_is = of_lines;
    } in
    subst (λ (l : Lined). Answers job p c s l x report) (sym one) there

-- an answer with its status and its report
pub answered : (job : Job) (p : Program) (c : Config) (s : Spec) (lined : Lined) (a : Answer) (r : Result Judged Stop) → job.why ≡ None → job.near ≡ None
    → IsTrueOf s (asked_by job.options) lined a → IfOk r (λ j. j.status ≡ status_of a)
    → IfOk r (λ j. string_bytes j.report ≡ answer_text (named_in job p c s lined) a) → IfOk r (λ j. Answers job p c s lined j.status (string_bytes j.report))
answered job p c s lined a (Ok j) unasked no_near is at told = answer_alone job p c s lined a j.status (string_bytes j.report) unasked no_near is at told
answered job p c s lined a (Err x) unasked no_near is at told = tt

-- the same where the lines are counted apart
pub answered_beside : (job : Job) (p : Program) (c : Config) (s : Spec) (lined : Lined) (lines : ℕ) (a : Answer) (r : Result Judged Stop) → lines ≡ lines_of lined
    → job.why ≡ None → job.near ≡ None → IsTrueOf s (asked_by job.options) lined a → IfOk r (λ j. j.status ≡ status_of a)
    → IfOk r (λ j. string_bytes j.report ≡ answer_text (named_beside job p c s lines) a) → IfOk r (λ j. Answers job p c s lined j.status (string_bytes j.report))
answered_beside job p c s lined lines a r count unasked no_near is at told =
    answered job p c s lined a r unasked no_near is at (subst (λ (n : ℕ). IfOk r (λ j. string_bytes j.report ≡ answer_text (named_beside job p c s n) a)) count told)

-- the report of an answer, where the lines are counted apart
pub counted_told : (job : Job) (p : Program) (c : Config) (s : Spec) (lined : Lined) (lines : ℕ) (a : Answer) (r : Result Judged Stop) → lines ≡ lines_of lined
    → IfOk r (λ j. string_bytes j.report ≡ answer_text (named_beside job p c s lines) a) → IfOk r (λ j. string_bytes j.report ≡ answer_text (named_in job p c s lined) a)
counted_told job p c s lined lines a r count told = subst (λ (n : ℕ). IfOk r (λ j. string_bytes j.report ≡ answer_text (named_beside job p c s n) a)) count told

-- an assumption that is not TRUE, beside given states
pub unassumed_told : (job : Job) (p : Program) (c : Config) (s : Spec) (lined : Lined) (w : List Shown) (a : Answer) (r : Result Judged Stop)
    → IsUnassumedOf s (asked_by job.options) lined a → IfOk r (λ j. j.status ≡ status_of a)
    → IfOk r (λ j. string_bytes j.report ≡ answer_text (named_in job p c s lined) a) → IfOk r (λ j. AnswersGiven job p c s lined w j.status (string_bytes j.report))
unassumed_told job p c s lined w a (Ok j) is at told = is_unassumed a is at told
unassumed_told job p c s lined w a (Err x) is at told = tt

-- a verdict with its status and its report
pub judged_told : (job : Job) (p : Program) (c : Config) (s : Spec) (lined : Lined) (w : List Shown) (v : Verdict) (r : Result Judged Stop)
    → AreAssumedOf s (asked_by job.options) lined → IsJudgedOf s (asked_by job.options) lined w v → IfOk r (λ j. j.status ≡ status_of_verdict v)
    → IfOk r (λ j. string_bytes j.report ≡ verdict_text (all_files p c) (length w) v) → IfOk r (λ j. AnswersGiven job p c s lined w j.status (string_bytes j.report))
judged_told job p c s lined w v (Ok j) all is at told = is_judged v all is at told
judged_told job p c s lined w v (Err x) all is at told = tt

-- the report of a verdict, by the files and the number of states
pub verdict_told : (p : Program) (c : Config) (w : List Shown) (v : Verdict) (files : List (List ℕ)) (count : ℕ) (report : List ℕ) → files ≡ all_files p c → count ≡ length w
    → report ≡ verdict_text files count v → report ≡ verdict_text (all_files p c) (length w) v
verdict_told p c w v files count report are is told =
    told ∙ ap (λ (fs : List (List ℕ)). verdict_text fs count v) are ∙ ap (λ (n : ℕ). verdict_text (all_files p c) n v) is

-- the report of a call stands in the sink, whole or in part
pub report_part : (r : Result (Unit {0}) Failed) (words : List (List ℕ)) (holds : Option (List File)) (b n : ℕ) (s : Status) (old new : Option (List ℕ)) (report piece : List ℕ)
    → Runs words holds b n s report → piece ≡ report → OnOk r (Appended old piece new) → OnErr r (AppendedPart old piece new)
    → HoldsPart words holds b n old new
report_part r words holds b n s old new report piece runs is whole part =
    of_report s report runs (subst (λ (p : List ℕ). AppendedPart old p new) is (put_part r old new piece whole part))

pub refused_stop : (words : List (List ℕ)) (holds : Option (List File)) (b n : ℕ) (x : Stop) (report : String Global) → x ≡ stop.Refused report
    → IsStop words holds b n x → Runs words holds b n status.Reading (string_bytes report)
refused_stop words holds b n x report is by = subst (λ (y : Stop). IsStop words holds b n y) is by

pub device_stop : (words : List (List ℕ)) (holds : Option (List File)) (b n : ℕ) (x : Stop) (name : List ℕ) → x ≡ stop.Device name
    → IsStop words holds b n x → Rose b n × IsWanted words holds name
device_stop words holds b n x name is by = subst (λ (y : Stop). IsStop words holds b n y) is by

-- no command was read
pub no_form : (words : List (List ℕ)) (read : Option Words) → Reads words (Ok read) → read ≡ None → (w : Words) → AreWords words w → ⊥
no_form words read reads is = subst (λ (r : Option Words). Reads words (Ok r)) is reads

-- the report of an answer, by what the labels are
pub report_told : (job : Job) (p : Program) (c : Config) (s : Spec) (lines : ℕ) (answer : Answer) (files : List (List ℕ)) (report : List ℕ) → files ≡ all_files p c
    → report ≡ answer_text (labelled job s files lines) answer
    → report ≡ answer_text (named_beside job p c s lines) answer
report_told job p c s lines answer files report are told =
    told ∙ ap (λ (fs : List (List ℕ)). answer_text (labelled job s fs lines) answer) are
