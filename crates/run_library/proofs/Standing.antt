-- Where the library stands by the command that was read.
use Rattle.std.proofs.Common.{◌≡◌, ℕ, List, Option, Some, None, Result, Ok, Err, subst}
use Rattle.std.specs.Prelude.{IfOk}
use Rattle.std.specs.declared.alloc.AllocError.{AllocError}
use Rattle.run_words.specs.declared.job.Words.{Words}
use Rattle.run_words.specs.Words.{AreWords, Reads}
use Rattle.run_library.specs.Calls.{IsFolderOf, LibraryAt, in_no_form, of_command}

pub stands_by : (words : List (List ℕ)) (read : Option Words) (command : Words) (folder : Result (Option (List ℕ)) AllocError) → read ≡ Some command → Reads words (Ok read)
    → IfOk folder (IsFolderOf command) → IfOk folder (LibraryAt words)
stands_by words read command (Ok folder) is reads h = of_command command folder (subst (λ (r : Option Words). Reads words (Ok r)) is reads) h
stands_by words read command (Err e) is reads h = tt

pub stands_nowhere : (words : List (List ℕ)) (read : Option Words) → read ≡ None → Reads words (Ok read) → LibraryAt words None
stands_nowhere words read is reads = in_no_form (subst (λ (r : Option Words). Reads words (Ok r)) is reads)
