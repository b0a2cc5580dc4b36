-- Which calls on files failed where reading stops, from what each stage tells.
use Rattle.std.proofs.Common.{◌≡◌, ◌∙◌, ap, sym, subst, ℕ, List, Option, Some, Result, Ok, Err, IfErr}
use Rattle.std.specs.Prelude.{OnOk}
use Rattle.base_core.specs.Failures.{Failures, after_fault, one_more}
use Rattle.base_core.specs.declared.reading.ReadFault.{ReadFault}
use Rattle.base_core.specs.declared.reading.ReadFault.TheVariants as fault
use Rattle.reading_modules.specs.declared.fault.LoadWhy.{LoadWhy}
use Rattle.reading_modules.specs.declared.fault.LoadWhy.TheVariants.{Read, Lex, Lay, Parse, Cycle, TooMany, Twice, WrongName, Nested}
use Rattle.reading_modules.specs.Refusals.{told_by}
use Rattle.run_texts.specs.Files.{missing_text, too_long_text}
use Rattle.run_texts.specs.Modules.{module_refusal}
use Rattle.run_stages.specs.declared.stop.Stop.{Stop}
use Rattle.run_stages.specs.declared.stop.Stop.TheVariants.{Refused, Device, NoMemory}
use Rattle.run_stages.specs.Stops.{FailsAt, IsModuleStop, IsToldBy, IsUnreadBy, RefusedWith}

-- no call fails where a text is refused
pub refused_told : (before now : Failures) (P : List ℕ → Type 0) (stop : Stop) → now ≡ before → RefusedWith P stop → IsToldBy before now stop
refused_told before now P (Refused report) quiet h = quiet
refused_told before now P (Device name) quiet h = absurd h
refused_told before now P NoMemory quiet h = tt

pub refused_are_told : {X : Type 0} (before now : Failures) (P : List ℕ → Type 0) (r : Result X Stop) → now ≡ before → IfErr r (RefusedWith P) → IfErr r (IsToldBy before now)
refused_are_told before now P (Ok x) quiet h = tt
refused_are_told before now P (Err stop) quiet h = refused_told before now P stop quiet h

failed_told : (before now : Failures) (name : List ℕ) (stop : Stop) → now ≡ one_more (Some name) before → FailsAt name stop → IsToldBy before now stop
failed_told before now name (Refused report) is h = absurd h
failed_told before now name (Device file) is h = is ∙ ap (λ (n : List ℕ). one_more (Some n) before) (sym h)
failed_told before now name NoMemory is h = tt

-- a file that is not read
pub unread_told : (before now : Failures) (name : List ℕ) (f : ReadFault) (stop : Stop) → now ≡ after_fault name f before → IsUnreadBy f name stop → IsToldBy before now stop
unread_told before now name fault.Missing stop is h = refused_told before now (λ r. r ≡ missing_text name) stop is h
unread_told before now name fault.TooLong stop is h = refused_told before now (λ r. r ≡ too_long_text name) stop is h
unread_told before now name fault.Failed stop is h = failed_told before now name stop is h
unread_told before now name fault.NoMemory stop is h = refused_told before now (λ r. ⊥) stop is h

-- modules that are refused
pub module_told : (before now : Failures) (files : List (List ℕ)) (why : LoadWhy) (stop : Stop) → now ≡ told_by why before → IsModuleStop files why stop → IsToldBy before now stop
module_told before now files (Read name f) stop is h = unread_told before now name f stop is h
module_told before now files (Lex why at) stop is h = refused_told before now (λ r. r ≡ module_refusal files (Lex why at)) stop is h
module_told before now files (Lay at) stop is h = refused_told before now (λ r. r ≡ module_refusal files (Lay at)) stop is h
module_told before now files (Parse f) stop is h = refused_told before now (λ r. r ≡ module_refusal files (Parse f)) stop is h
module_told before now files (Cycle names) stop is h = refused_told before now (λ r. r ≡ module_refusal files (Cycle names)) stop is h
module_told before now files (TooMany name) stop is h = refused_told before now (λ r. r ≡ module_refusal files (TooMany name)) stop is h
module_told before now files (Twice name later earlier) stop is h = refused_told before now (λ r. r ≡ module_refusal files (Twice name later earlier)) stop is h
module_told before now files (WrongName name at) stop is h = refused_told before now (λ r. r ≡ module_refusal files (WrongName name at)) stop is h
module_told before now files (Nested name at) stop is h = refused_told before now (λ r. r ≡ module_refusal files (Nested name at)) stop is h

-- where no call failed before
pub told_from : (first before now : Failures) (stop : Stop) → before ≡ first → IsToldBy before now stop → IsToldBy first now stop
told_from first before now stop e h = subst (λ (f : Failures). IsToldBy f now stop) e h

pub are_told_from : {X : Type 0} (first before now : Failures) (r : Result X Stop) → before ≡ first → IfErr r (IsToldBy before now) → IfErr r (IsToldBy first now)
are_told_from first before now (Ok x) e h = tt
are_told_from first before now (Err stop) e h = told_from first before now stop e h

-- want of memory alone
pub wanting_told : {X : Type 0} (before now : Failures) (r : Result X Stop) → IfErr r (λ stop. stop ≡ NoMemory) → IfErr r (IsToldBy before now)
wanting_told before now (Ok x) h = tt
wanting_told before now (Err stop) h = subst (λ (s : Stop). IsToldBy before now s) (sym h) tt

-- what is so of whatever comes
pub on_ok : {X E P : Type 0} (r : Result X E) → P → OnOk r P
on_ok (Ok x) h = h
on_ok (Err e) h = tt
