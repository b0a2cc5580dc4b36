-- A call of `validate` that explained, and calls of `check` on its report.
use Rattle.std.proofs.Common.{◌≡◌, ℕ, List, [], Option, Some, length, refl, subst}
use Rattle.base_core.specs.Device.{File}
use Rattle.base_core.specs.Failures.{Failures}
use Rattle.states_core.specs.declared.state.Shown.{Shown}
use Rattle.run_words.specs.declared.job.Job.{Job}
use Rattle.run_words.specs.declared.job.Words.TheVariants.{Check, Validate}
use Rattle.run_words.specs.Words.{AreWords, OneCommand}
use Rattle.run_call.specs.declared.call.Status.{Status}
use Rattle.run_call.specs.declared.call.Status.TheVariants.{Done}
use Rattle.twice_calls.specs.Printed.{searching}
use Rattle.twice_calls.specs.AfterExplained as after
use Rattle.twice_calls.specs.AfterExplained.{AreWith, ChecksAfter, ChecksValid, EndsValid, TellsExplained}
use Rattle.twice_calls.specs.Ends.{Ends}
use Rattle.run_library.specs.Behind.{files_behind}
use Rattle.run_library.specs.Calls.{CallEnds, LibraryAt, RunEnds, has_run, wants_memory}
use Rattle.run_library.proofs.Serving.{stays}
use Rattle.twice_calls.specs.Checks.{CallChecksAfter, CallsValid}
use Rattle.twice_calls.proofs.Asking.{same_behind}
use Rattle.twice_calls.proofs.Places.{command_folder, job_folder, one_folder}

ends_of : (words : List (List ℕ)) (holds : Option (List File)) (before now out_before out_now : ℕ) (first last : Failures) (old new : Option (List ℕ)) (end : Status)
    → RunEnds words holds before now out_before out_now first last old new end → Ends words holds before now out_before out_now old new end
ends_of words holds before now out_before out_now first last old new end h = record { report = h.report; part = h.part; device = h.device }

with_behind : (folder : Option (List ℕ)) (files others : List File) (name text : List ℕ) → AreWith files others name text → AreWith (files_behind folder files) (files_behind folder others) name text
with_behind folder files others name text h = record {
  text_is = stays name text folder others h.text_is;
  rest = λ other differs. same_behind folder other files others (h.rest other differs);
}

module _ (one : OneCommand) (words : List (List ℕ)) (folder : Option (List ℕ)) (files : List File) (job : Job) (are : AreWords words (Validate job)) (at : LibraryAt words folder) where
  -- the library stands in the same folder for the other call
  there : (again : List (List ℕ)) (witness : List ℕ) (limit : ℕ) (why near : Option ℕ) (other : Option (List ℕ)) → AreWords again (Check (searching limit why near job) witness)
      → LibraryAt again other → other ≡ folder
  there again witness limit why near other more stands =
      job_folder job other folder (command_folder one again (Check (searching limit why near job) witness) other more stands) (command_folder one words (Validate job) folder are at)

  valid_over : (report : List ℕ) (states : ℕ) → ChecksValid words (files_behind folder files) job report states → CallsValid words folder files job report states
  valid_over report states valid others witness kept free short again limit why near more before now out_before out_now first last old new _ (has_run other end stands h) =
      let same : other ≡ folder = there again witness limit why near other more stands in
      let over = subst (λ (f : Option (List ℕ)). RunEnds again (Some (files_behind f others)) before now out_before out_now first last old new end) same h in
      valid (files_behind folder others) witness (with_behind folder files others witness report kept) free short again limit why near more before now out_before out_now old new end
      (ends_of again (Some (files_behind folder others)) before now out_before out_now first last old new end over)
  valid_over report states valid others witness kept free short again limit why near more before now out_before out_now first last old new _ (wants_memory reads writes none same) = after.wants_memory

checks_by : OneCommand → ChecksAfter → (words : List (List ℕ)) (folder : Option (List ℕ)) (files : List File) (job : Job) (before now out_before out_now : ℕ) (first last : Failures)
    (report : List ℕ) (end : Status) → AreWords words (Validate job) → LibraryAt words folder → end ≡ Done → CallEnds words (Some files) before now out_before out_now first last (Some []) (Some report) end
    → (w : List Shown) × TellsExplained report w × CallsValid words folder files job report (length w)
checks_by one checks words folder files job before now out_before out_now first last report _ are at done (has_run other end stands h) =
    let same : other ≡ folder = one_folder one words other folder stands at in
    let over : Ends words (Some (files_behind folder files)) before now out_before out_now (Some []) (Some report) end =
    ends_of words (Some (files_behind folder files)) before now out_before out_now first last (Some []) (Some report) end
    (subst (λ (f : Option (List ℕ)). RunEnds words (Some (files_behind f files)) before now out_before out_now first last (Some []) (Some report) end) same h) in
    let told : Ends words (Some (files_behind folder files)) before now out_before out_now (Some []) (Some report) Done =
    subst (λ (e : Status). Ends words (Some (files_behind folder files)) before now out_before out_now (Some []) (Some report) e) done over in
    let after_it = checks words (files_behind folder files) job before now out_before out_now report are told in
    (after_it.0, after_it.1, valid_over one words folder files job are at report (length after_it.0) after_it.2)
checks_by one checks words folder files job before now out_before out_now first last report _ are at done (wants_memory reads writes none same) = let no : ⊥ = cc in absurd no

pub call_checks_after : OneCommand → ChecksAfter → CallChecksAfter
call_checks_after one checks words folder files job before now out_before out_now first last report are at ends =
    checks_by one checks words folder files job before now out_before out_now first last report Done are at refl ends
