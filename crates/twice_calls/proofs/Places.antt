-- The folder of the library is one.
use Rattle.std.proofs.Common.{◌≡◌, ◌∙◌, ℕ, List, Option, Some, None, false, true≢false, refl, sym, ap, subst}
use Rattle.reading_modules.proofs.PathLaws.{path_same}
use Rattle.run_words.specs.declared.job.Job.{Job}
use Rattle.run_words.specs.declared.job.Words.{Words}
use Rattle.run_words.specs.declared.job.Words.TheVariants.{Check, SelfRun, Validate}
use Rattle.run_words.specs.Words.{AreWords, OneCommand}
use Rattle.run_library.specs.Calls.{IsFolderOf, IsFolderOfJob, LibraryAt, in_no_form, of_command}
use Rattle.twice_calls.specs.Library.{OneFolder}

pub job_folder : (job : Job) (folder other : Option (List ℕ)) → IsFolderOfJob job folder → IsFolderOfJob job other → folder ≡ other
job_folder job None None a b = refl
job_folder job None (Some g) a b = absurd (true≢false (sym b.0 ∙ a))
job_folder job (Some f) None a b = absurd (true≢false (sym a.0 ∙ b))
job_folder job (Some f) (Some g) a b = ap (λ x. Some x) (path_same job.module f g a.1.0 b.1.0 a.1.1 b.1.1).0

same_folder : (command : Words) (folder other : Option (List ℕ)) → IsFolderOf command folder → IsFolderOf command other → folder ≡ other
same_folder (Validate job) folder other a b = job_folder job folder other a b
same_folder (Check job witness) folder other a b = job_folder job folder other a b
same_folder (SelfRun n) folder other a b = a ∙ sym b

-- the folder is that of the command
pub command_folder : OneCommand → (words : List (List ℕ)) (command : Words) (folder : Option (List ℕ)) → AreWords words command → LibraryAt words folder → IsFolderOf command folder
command_folder one words command _ are (of_command other folder same is) = subst (λ (w : Words). IsFolderOf w folder) (one words other command same are) is
command_folder one words command _ are (in_no_form never) = absurd (never command are)

one_by : OneCommand → (words : List (List ℕ)) (folder other : Option (List ℕ)) → LibraryAt words folder → LibraryAt words other → folder ≡ other
one_by one words _ other (of_command command folder are is) h = same_folder command folder other is (command_folder one words command other are h)
one_by one words _ _ (in_no_form never) (in_no_form no_more) = refl
one_by one words _ _ (in_no_form never) (of_command command folder are is) = absurd (never command are)

pub one_folder : OneCommand → OneFolder
one_folder one words folder other a b = one_by one words folder other a b

-- a job without the word has none
pub none_without : (job : Job) (folder : Option (List ℕ)) → job.wide ≡ false → IsFolderOfJob job folder → folder ≡ None
none_without job None plain is = refl
none_without job (Some f) plain is = absurd (true≢false (sym is.0 ∙ plain))
