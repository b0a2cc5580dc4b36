-- After `validate` that ended with status 0 each `check` of its report ends with VALID.
use Rattle.std.proofs.Common.{◌≡◌, ◌∙◌, ℕ, List, [], length, Option, Some, inl, inr, refl, subst, sym}
use Rattle.std.specs.Prelude.{◌⊎◌}
use Rattle.base_core.specs.Device.{Appended, File, Rose}
use Rattle.reading_trees.specs.declared.config.Config.{Config}
use Rattle.reading_trees.specs.declared.module.Program.{Program}
use Rattle.states_core.specs.declared.state.Shown.{Shown}
use Rattle.names_terms.specs.declared.spec.Spec.{Spec}
use Rattle.logs_tied.specs.declared.logs.Lined.{Lined}
use Rattle.logs_tied.specs.declared.logs.Lined.TheVariants.{Sequence, Tied}
use Rattle.steps_lines_defs.specs.Logs.{Asked}
use Rattle.steps_lined.specs.Answers.{IsTrueOf}
use Rattle.states_layers.specs.declared.answer.Answer.{Answer}
use Rattle.states_layers.specs.declared.answer.Answer.TheVariants.{AssumeFalse, AssumeFault, Explained, Fault, InitFault, LayerLimit, NoInitial, NotExplained, TotalLimit}
use Rattle.states_verdicts.specs.declared.verdict.Verdict.TheVariants as verdict
use Rattle.run_words.specs.declared.job.Job.{Job}
use Rattle.run_words.specs.declared.job.Words.TheVariants.{Check, SelfRun, Validate}
use Rattle.run_words.specs.Words.{AreWords, OneCommand}
use Rattle.run_texts.specs.Answers.{Named, answer_text}
use Rattle.run_texts.specs.Verdicts.{verdict_text}
use Rattle.run_reading_defs.specs.Given.{states_limit}
use Rattle.run_reading_defs.specs.Reaches.{AllRead}
use Rattle.run_reading_defs.specs.Refusals.{is_missing}
use Rattle.run_reading_defs.specs.Texts.{HasText}
use Rattle.steps_lined.specs.Held.{IsHeldSo}
use Rattle.run_call.specs.Calls.{Answers, Calls, CallsGiven, IsReportOf, asked_by, is_answered, is_refused, named_in, status_of}
use Rattle.run_call.specs.Run.{AsksFor, HasFailed, HoldsReport, Runs, checks, in_no_form, tests_itself, validates}
use Rattle.run_call.specs.declared.call.Status.{Status}
use Rattle.run_call.specs.declared.call.Status.TheVariants as status
use Rattle.twice_calls.specs.Printed.{searching}
use Rattle.twice_calls.specs.Answered.{CheckIsValid}
use Rattle.twice_readings.specs.NotRefused.{ReadNotRefused}
use Rattle.twice_calls.specs.Unseen.{ReadUnseen}
use Rattle.twice_calls.specs.Ends.{Ends}
use Rattle.twice_calls.specs.AfterExplained.{AreWith, ChecksAfter, ChecksValid, EndsValid, IsFree, TellsExplained, has_failed, is_valid, wants_memory}

-- What is known of words and of reading.
pub record Known : Type 0 where
  pub command : OneCommand
  pub unseen : ReadUnseen
  pub refused : ReadNotRefused

-- ---- words

pub job_is : (a b : Job) → Validate a ≡ Validate b → a ≡ b
job_is a b e = cc

check_is : (a b : Job) (v w : List ℕ) → Check a v ≡ Check b w → (a ≡ b) × (v ≡ w)
check_is a b v w e = (cc, cc)

pub no_check : (a b : Job) (v : List ℕ) → Validate a ≡ Check b v → ⊥
no_check a b v e = cc

pub no_test : (a : Job) (n : ℕ) → Validate a ≡ SelfRun n → ⊥
no_test a n e = cc

no_check_test : (a : Job) (v : List ℕ) (n : ℕ) → Check a v ≡ SelfRun n → ⊥
no_check_test a v n e = cc

-- ---- what a call of `validate` that ended with status 0 called for

explains : (a : Answer) → status.Done ≡ status_of a → (w : List Shown) × (widest : ℕ) × (a ≡ Explained w widest)
explains (Explained w widest) e = (w, widest, refl)
explains (NotExplained n all after w) e = let no : ⊥ = cc in absurd no
explains NoInitial e = let no : ⊥ = cc in absurd no
explains (InitFault kind at) e = let no : ⊥ = cc in absurd no
explains (Fault after silent s kind at) e = let no : ⊥ = cc in absurd no
explains (AssumeFault kind at) e = let no : ⊥ = cc in absurd no
explains (AssumeFalse at) e = let no : ⊥ = cc in absurd no
explains (LayerLimit after silent) e = let no : ⊥ = cc in absurd no
explains (TotalLimit after silent) e = let no : ⊥ = cc in absurd no

-- the report of EXPLAINED is the same in one order and in several
report_is : (s : Spec) (lined : Lined) (asked : Asked) (l : Named) (why near : Option ℕ) (w : List Shown) (widest : ℕ) (report : List ℕ)
    → IsReportOf s lined asked l why near (Explained w widest) report → report ≡ answer_text l (Explained w widest)
report_is s (Sequence log) asked l why near w widest report h = h
report_is s (Tied logs) asked l why near w widest report h = h

-- such a reading, with what is true of it
record IsExplained (files : List File) (job : Job) (report : List ℕ) : Type 0 where
  program : Program
  config : Config
  spec : Spec
  lined : Lined
  states : List Shown
  widest : ℕ
  all_read : AllRead (Some files) job program config spec lined
  held : IsHeldSo spec lined
  is_true : IsTrueOf spec (asked_by job.options) lined (Explained states widest)
  text_is : report ≡ answer_text (named_in job program config spec lined) (Explained states widest)

answered_so : (files : List File) (job : Job) (p : Program) (c : Config) (s : Spec) (lined : Lined) (end : Status) (report : List ℕ) → AllRead (Some files) job p c s lined
    → IsHeldSo s lined → Answers job p c s lined end report → end ≡ status.Done → IsExplained files job report
answered_so files job p c s lined end report all held h e =
    let x = explains h.answer (sym e ∙ h.status_is) in
    let is_true : IsTrueOf s (asked_by job.options) lined (Explained x.0 x.1) = subst (λ (a : Answer). IsTrueOf s (asked_by job.options) lined a) x.2 h.is_true in
    let told : IsReportOf s lined (asked_by job.options) (named_in job p c s lined) job.why job.near (Explained x.0 x.1) report =
    subst (λ (a : Answer). IsReportOf s lined (asked_by job.options) (named_in job p c s lined) job.why job.near a report) x.2 h.report_is in
    record {
      program = p;
      config = c;
      spec = s;
      lined = lined;
      states = x.0;
      widest = x.1;
      all_read = all;
      held = held;
      is_true = is_true;
      text_is = report_is s lined (asked_by job.options) (named_in job p c s lined) job.why job.near x.0 x.1 report told;
    }

called_so : (files : List File) (before now : ℕ) (job : Job) (end : Status) (report : List ℕ) → Calls (Some files) before now job end report → end ≡ status.Done → IsExplained files job report
called_so files before now job _ _ (is_refused report refusal) e = let no : ⊥ = cc in absurd no
called_so files before now job _ _ (is_answered p c s lined end report all held answers) e = answered_so files job p c s lined end report all held answers e

module _ (known : Known) where
  ran_so : (words : List (List ℕ)) (files : List File) (before now : ℕ) (job : Job) (end : Status) (report : List ℕ) → AreWords words (Validate job)
      → Runs words (Some files) before now end report → end ≡ status.Done → IsExplained files job report
  ran_so words files before now job _ _ form (in_no_form never) e = let no : ⊥ = cc in absurd no
  ran_so words files before now job _ _ form (validates other end report others calls) e =
      let same : other ≡ job = job_is other job (known.command words (Validate other) (Validate job) others form) in
      called_so files before now job end report (subst (λ (j : Job). Calls (Some files) before now j end report) same calls) e
  ran_so words files before now job _ _ form (checks other witness end report others calls) e =
      absurd (no_check job other witness (known.command words (Validate job) (Check other witness) form others))
  ran_so words files before now job _ _ form (tests_itself n end report others tests) e =
      absurd (no_test job n (known.command words (Validate job) (SelfRun n) form others))

  -- ---- what a call of `check` called for

  given_so : (again : List (List ℕ)) (others : List File) (before now : ℕ) (job : Job) (witness : List ℕ) (end : Status) (report : List ℕ) → AreWords again (Check job witness)
      → Runs again (Some others) before now end report → CallsGiven (Some others) before now job witness end report
  given_so again others before now job witness _ _ form (in_no_form never) = absurd (never (Check job witness) form)
  given_so again others before now job witness _ _ form (validates other end report its calls) =
      absurd (no_check other job witness (known.command again (Validate other) (Check job witness) its form))
  given_so again others before now job witness _ _ form (checks other file end report its calls) =
      let same = check_is other job file witness (known.command again (Check other file) (Check job witness) its form) in
      subst (λ (j : Job). CallsGiven (Some others) before now j witness end report) same.0
      (subst (λ (f : List ℕ). CallsGiven (Some others) before now other f end report) same.1 calls)
  given_so again others before now job witness _ _ form (tests_itself n end report its tests) =
      absurd (no_check_test job witness n (known.command again (Check job witness) (SelfRun n) form its))

-- ---- how `check` ends

ends_valid : (states before now out_before out_now : ℕ) (old new : Option (List ℕ)) (end : Status) → end ≡ status.Done → Appended old (verdict_text [] states verdict.Valid) new
    → EndsValid states before now out_before out_now old new end
ends_valid states before now out_before out_now old new end e wrote =
    subst (λ (x : Status). EndsValid states before now out_before out_now old new x) (sym e) (is_valid wrote)

device_failed : (words : List (List ℕ)) (holds : Option (List File)) (before now out_before out_now : ℕ) (old new : Option (List ℕ))
    → HasFailed words holds before now out_before out_now old new → Rose out_before out_now ⊎ Rose before now
device_failed words holds before now out_before out_now old new (inl rose) = inl rose
device_failed words holds before now out_before out_now old new (inr failed) = inr failed.0

module _ (states before now out_before out_now : ℕ) (old new : Option (List ℕ)) (again : List (List ℕ)) (others : List File)
    (valid : (end : Status) (report : List ℕ) → Runs again (Some others) before now end report → (end ≡ status.Done) × (report ≡ verdict_text [] states verdict.Valid)) where
  told : (end : Status) → HoldsReport again (Some others) before now end old new → EndsValid states before now out_before out_now old new end
  told end h =
      let is = valid end h.0 h.1 in
      ends_valid states before now out_before out_now old new end is.0 (subst (λ (r : List ℕ). Appended old r new) is.1 h.2)

  ended : (end : Status) → Ends again (Some others) before now out_before out_now old new end → EndsValid states before now out_before out_now old new end
  ended status.Device h = has_failed (device_failed again (Some others) before now out_before out_now old new (h.device refl))
  ended status.Memory h = wants_memory
  ended status.Done h = told status.Done (h.report (λ e. cc) (λ e. cc))
  ended status.Not h = told status.Not (h.report (λ e. cc) (λ e. cc))
  ended status.Words h = told status.Words (h.report (λ e. cc) (λ e. cc))
  ended status.Reading h = told status.Reading (h.report (λ e. cc) (λ e. cc))
  ended status.Evaluation h = told status.Evaluation (h.report (λ e. cc) (λ e. cc))
  ended status.Limit h = told status.Limit (h.report (λ e. cc) (λ e. cc))

-- ---- the law

some_is : (a b : List ℕ) → Some a ≡ Some b → a ≡ b
some_is a b e = cc

module _ (known : Known) (words : List (List ℕ)) (files : List File) (job : Job) (form : AreWords words (Validate job)) where
  module _ (report : List ℕ) (x : IsExplained files job report) (valid : CheckIsValid job x.program x.config x.spec x.lined) where
    -- a free name is none that the job asks for
    unasked : (name : List ℕ) → IsFree words files name → AsksFor (Some files) name (Validate job) → ⊥
    unasked name (inl none) asks = known.refused files 0 0 job x.program x.config x.spec x.lined _ x.all_read (is_missing name asks.0 asks.1 none)
    unasked name (inr never) asks = never (record { command = Validate job; form = form; wants = asks })

    read_beside : (others : List File) (witness : List ℕ) → AreWith files others witness report → IsFree words files witness → AllRead (Some others) job x.program x.config x.spec x.lined
    read_beside others witness with free =
        known.unseen job files others (λ name asks. with.rest name (λ e. unasked witness free (subst (λ (n : List ℕ). AsksFor (Some files) n (Validate job)) e asks)))
        x.program x.config x.spec x.lined x.all_read

    checks_valid : ChecksValid words files job report (length x.states)
    checks_valid others witness with free short again limit why near its before now out_before out_now old new end ends =
        let text : List ℕ = answer_text (named_in job x.program x.config x.spec x.lined) (Explained x.states x.widest) in
        let has : HasText (Some others) witness states_limit text =
        subst (λ (r : List ℕ). HasText (Some others) witness states_limit r) x.text_is (record { whole = with.text_is; short = short }) in
        let answers : (e : Status) (r : List ℕ) → Runs again (Some others) before now e r → (e ≡ status.Done) × (r ≡ verdict_text [] (length x.states) verdict.Valid) =
        λ e r runs. valid x.states x.widest x.is_true limit why near others witness (read_beside others witness with free) has before now e r
        (given_so known again others before now (searching limit why near job) witness e r its runs) in
        ended (length x.states) before now out_before out_now old new again others answers end ends

    explained : (w : List Shown) × TellsExplained report w × ChecksValid words files job report (length w)
    explained = (x.states, record { named = named_in job x.program x.config x.spec x.lined; widest = x.widest; text_is = x.text_is }, checks_valid)

  first_call : (before now out_before out_now : ℕ) (report : List ℕ) → Ends words (Some files) before now out_before out_now (Some []) (Some report) status.Done → IsExplained files job report
  first_call before now out_before out_now report ends =
      let wrote = ends.report (λ e. cc) (λ e. cc) in
      let same : wrote.0 ≡ report = sym (some_is report wrote.0 wrote.2) in
      subst (λ (r : List ℕ). IsExplained files job r) same (ran_so known words files before now job status.Done wrote.0 form wrote.1 refl)

-- where `check` of what is read and held is valid
pub checks_after : Known → ((files : List File) (job : Job) (p : Program) (c : Config) (s : Spec) (lined : Lined) → AllRead (Some files) job p c s lined → IsHeldSo s lined
    → CheckIsValid job p c s lined) → ChecksAfter
checks_after known valid words files job before now out_before out_now report form ends =
    let x = first_call known words files job form before now out_before out_now report ends in
    explained known words files job form report x (valid files job x.program x.config x.spec x.lined x.all_read x.held)
