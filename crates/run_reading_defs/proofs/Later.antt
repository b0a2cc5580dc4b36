-- What the count of faults says later.
use Rattle.std.proofs.Common.{◌≡◌, ◌≤◌, ℕ, List, arith}
use Rattle.std.specs.Prelude.{Option, Some, None}
use Rattle.base_core.specs.Device.{File, Rose, Lacks}
use Rattle.run_words.specs.declared.job.Job.{Job}
use Rattle.run_reading_defs.specs.Refusals.{IsRefusal, is_missing, is_too_long, is_refused}

pub later_rose : (a b n : ℕ) → a ≤ b → Rose b n → Rose a n
later_rose a b n le rose = omega arith

pub later_lacks : (name : List ℕ) (holds : Option (List File)) (a b n : ℕ) → a ≤ b → Lacks name holds b n → Lacks name holds a n
later_lacks name None a b n le lacks = later_rose a b n le lacks
later_lacks name (Some files) a b n le lacks = lacks

pub later_refusal : (holds : Option (List File)) (a b n : ℕ) (job : Job) (report : List ℕ) → a ≤ b → IsRefusal holds b n job report → IsRefusal holds a n job report
later_refusal holds a b n job report le (is_missing name limit wants lacks) = is_missing name limit wants (later_lacks name holds a b n le lacks)
later_refusal holds a b n job report le (is_too_long name limit wants longer) = is_too_long name limit wants longer
later_refusal holds a b n job report le (is_refused stage _ reaches rejects) = is_refused stage report reaches rejects
