-- A file that gives a module is refused only where a read failed.
use Rattle.std.proofs.Common.{◌≡◌, ◌∙◌, ◌<◌, ℕ, true, List, Option, Some, None, Result, Ok, Err, arith, length, refl, sym, ap, subst}
use Rattle.base_core.specs.Device.{File}
use Rattle.base_core.specs.declared.reading.ReadFault.{ReadFault}
use Rattle.base_core.specs.declared.reading.ReadFault.TheVariants.{Missing, Failed, TooLong, NoMemory}
use Rattle.reading_trees.specs.declared.module.Module.{Module}
use Rattle.reading_trees.specs.Laid.{IsLaid, NeverBoth, OneLaid}
use Rattle.reading_trees.specs.Modules.{SpellsModule}
use Rattle.reading_tokens.specs.Tokens.{OneOutcome}
use Rattle.reading_modules.specs.declared.fault.LoadWhy.{LoadWhy}
use Rattle.reading_modules.specs.declared.fault.LoadWhy.TheVariants.{Read, Lex, Lay, Parse, Cycle, TooMany, Twice, WrongName, Nested}
use Rattle.reading_modules.specs.Paths.{file_of}
use Rattle.reading_modules.specs.Readings.{Reading}
use Rattle.reading_modules.specs.Refusals.{IsModule, IsText, IsUnread, LaidAs, Misspells, Refuses, RefusesBytes, SpelledBy, misnamed, misspelled, module_limit, not_good, not_read, strict}
use Rattle.reading_units.specs.LawsOfModules.{OneModule, ShallowNotRefused}
use Rattle.reading_units.specs.Refusals.{ShallowWholeModule}
use Rattle.reading_laws.specs.OneReading.{MayStop}
use Rattle.reading_laws.specs.Readings.{IsReading}
use Rattle.reading_laws.proofs.Spelling.{laid_same, ok_same, strict_one, text_same}
use Rattle.reading_laws.proofs.Texts.{refused_never}

abbrev pub IsFound : {A : Type 0} → Option A → Type 0
IsFound (Some a) = Unit {0}
IsFound None = ⊥

abbrev pub IsOk : {A E : Type 0} → Result A E → Type 0
IsOk (Ok a) = Unit {0}
IsOk (Err e) = ⊥

read_stop : (files : List File) (file bytes : List ℕ) (fault : ReadFault) → IsText (Some files) file bytes → IsUnread (Some files) file fault → fault ≡ Failed
read_stop files file bytes Missing t u = absurd (subst IsFound (sym t.whole ∙ u) tt)
read_stop files file bytes Failed t u = refl
read_stop files file bytes TooLong t u =
    let same : bytes ≡ u.0 = text_same files file bytes u.0 t.whole u.1 in
    let long : module_limit < length bytes = subst (λ v. module_limit < length v) (sym same) u.2 in
    absurd (omega (arith, long, t.short))
read_stop files file bytes NoMemory t u = absurd u

-- ---- the strict reading

module _ (outcome : OneOutcome) (laid : OneLaid) (never : NeverBoth) (deep : ShallowNotRefused) where
  pub spelled_never : (number : ℕ) (bytes : List ℕ) (m : Module) (why : LoadWhy) → SpelledBy number bytes m → Misspells number bytes why → ⊥
  spelled_never number bytes m (Lex why at) s w = subst IsOk (outcome true number bytes (Ok s.laid_as.tokens) (Err (why, at)) s.laid_as.lexed w) tt
  spelled_never number bytes m (Lay at) s w =
      let a : LaidAs number bytes s.laid = s.laid_as in
      let same : a.tokens ≡ w.0 = ok_same a.tokens w.0 (Ok a.tokens) refl (outcome true number bytes (Ok a.tokens) (Ok w.0) a.lexed w.1) in
      never w.0 s.laid at (subst (λ v. IsLaid v s.laid) same a.marked) w.2
  spelled_never number bytes m (Parse fault) s w =
      let same : s.laid ≡ w.0 = laid_same outcome laid number bytes s.laid w.0 s.laid_as w.1 in
      refused_never deep m w.0 fault (subst (SpellsModule m) same s.spells) (subst (λ v. ShallowWholeModule v) same s.shallow) w.2.0 w.2.1
  spelled_never number bytes m (Read file fault) s w = w
  spelled_never number bytes m (Cycle names) s w = w
  spelled_never number bytes m (TooMany name) s w = w
  spelled_never number bytes m (Twice name later earlier) s w = w
  spelled_never number bytes m (WrongName name at) s w = w
  spelled_never number bytes m (Nested name at) s w = w

pub strict_is_reading : OneOutcome → OneLaid → NeverBoth → OneModule → ShallowNotRefused → IsReading strict
strict_is_reading outcome laid never one deep = record {
  one = strict_one outcome laid one;
  never = λ number bytes m notes why s w. spelled_never outcome laid never deep number bytes m why s.0 w;
}

-- ---- any reading

module _ {N : Type 0} (reading : Reading N) (is : IsReading reading) where
  bytes_stop : (number : ℕ) (bytes name : List ℕ) (m : Module) (notes : List N) (why : LoadWhy) → reading.Spells number bytes m notes → m.name ≡ name
      → RefusesBytes reading number bytes name why → MayStop why
  bytes_stop number bytes name m notes _ s e (misspelled why w) = absurd (is.never number bytes m notes why s w)
  bytes_stop number bytes name m notes _ s e (misnamed n others t other) =
      let same = is.one number bytes n m others notes t s in
      absurd (other (ap (λ (v : Module). v.name) same.0 ∙ e))

  pub module_stop : (files : List File) (folder : List ℕ) (number : ℕ) (name : List ℕ) (m : Module) (notes : List N) (why : LoadWhy)
      → IsModule reading (Some files) folder number name m notes → Refuses reading (Some files) folder number name why → MayStop why
  module_stop files folder number name m notes _ i (not_read fault u) = read_stop files (file_of folder name) i.bytes fault i.text u
  module_stop files folder number name m notes _ i (not_good bytes why t r) =
      let same : i.bytes ≡ bytes = text_same files (file_of folder name) i.bytes bytes i.text.whole t.whole in
      bytes_stop number bytes name m notes why (subst (λ v. reading.Spells number v m notes) same i.spelled) i.named r
