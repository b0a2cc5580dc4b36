-- Why reading stops, and what each stage owes.
use Rattle.std.specs.Prelude.{◌≡◌, ◌++◌, ◌∷◌, [], ℕ, List, Option, Some, string_bytes}
use Rattle.base_core.specs.Device.{File, Rose}
use Rattle.base_core.specs.Failures.{Failures, one_more}
use Rattle.base_core.specs.declared.place.Place.{Place}
use Rattle.base_core.specs.declared.reading.ReadFault.{ReadFault}
use Rattle.base_core.specs.declared.reading.ReadFault.TheVariants as fault
use Rattle.reading_trees.specs.declared.config.Config.{Config}
use Rattle.reading_trees.specs.declared.module.Program.{Program}
use Rattle.reading_modules.specs.declared.fault.LoadWhy.{LoadWhy}
use Rattle.reading_modules.specs.declared.fault.LoadWhy.TheVariants.{Read, Lex, Lay, Parse, Cycle, TooMany, Twice, WrongName, Nested}
use Rattle.run_words.specs.declared.job.Job.{Job}
use Rattle.run_texts.specs.Files.{missing_text, too_long_text}
use Rattle.run_texts.specs.Modules.{module_refusal}
use Rattle.run_reading_defs.specs.Reaches.{Wants}
use Rattle.run_reading_defs.specs.Refusals.{IsRefusal}
use Rattle.run_stages.specs.declared.stop.Stop.{Stop}
use Rattle.run_stages.specs.declared.stop.Stop.TheVariants.{Refused, Device, NoMemory}

-- The first refusal, with its report; or a read of a file failed that is read next, nothing before it being refused; or memory is wanting.
abbrev pub StopsBy : Option (List File) → ℕ → ℕ → Job → Stop → Type 0
StopsBy holds before now job (Refused report) = IsRefusal holds before now job (string_bytes report)
StopsBy holds before now job (Device name) = Rose before now × ((limit : ℕ) × Wants holds job name limit)
StopsBy holds before now job NoMemory = Unit {0}

-- Which calls on files failed, before a reading that stops so and after it: one more where a read failed, of the file that was asked for; and none more where a text is
-- refused.
abbrev pub IsToldBy : Failures → Failures → Stop → Type 0
IsToldBy before now (Refused report) = now ≡ before
IsToldBy before now (Device name) = now ≡ one_more (Some name) before
IsToldBy before now NoMemory = Unit {0}

-- a refusal with such a report, or memory is wanting
abbrev pub RefusedWith : (List ℕ → Type 0) → Stop → Type 0
RefusedWith P (Refused report) = P (string_bytes report)
RefusedWith P (Device name) = ⊥
RefusedWith P NoMemory = Unit {0}

-- a read of the file of that name failed, or memory is wanting
abbrev pub FailsAt : List ℕ → Stop → Type 0
FailsAt name (Refused report) = ⊥
FailsAt name (Device file) = file ≡ name
FailsAt name NoMemory = Unit {0}

-- the file of that name is not read
abbrev pub IsUnreadBy : ReadFault → List ℕ → Stop → Type 0
IsUnreadBy fault.Missing name = RefusedWith (λ report. report ≡ missing_text name)
IsUnreadBy fault.TooLong name = RefusedWith (λ report. report ≡ too_long_text name)
IsUnreadBy fault.Failed name = FailsAt name
IsUnreadBy fault.NoMemory name = RefusedWith (λ report. ⊥)

-- the modules, of these files, are refused
abbrev pub IsModuleStop : List (List ℕ) → LoadWhy → Stop → Type 0
IsModuleStop files (Read name fault) = IsUnreadBy fault name
IsModuleStop files (Lex why at) = RefusedWith (λ report. report ≡ module_refusal files (Lex why at))
IsModuleStop files (Lay at) = RefusedWith (λ report. report ≡ module_refusal files (Lay at))
IsModuleStop files (Parse fault) = RefusedWith (λ report. report ≡ module_refusal files (Parse fault))
IsModuleStop files (Cycle names) = RefusedWith (λ report. report ≡ module_refusal files (Cycle names))
IsModuleStop files (TooMany name) = RefusedWith (λ report. report ≡ module_refusal files (TooMany name))
IsModuleStop files (Twice name later earlier) = RefusedWith (λ report. report ≡ module_refusal files (Twice name later earlier))
IsModuleStop files (WrongName name at) = RefusedWith (λ report. report ≡ module_refusal files (WrongName name at))
IsModuleStop files (Nested name at) = RefusedWith (λ report. report ≡ module_refusal files (Nested name at))
