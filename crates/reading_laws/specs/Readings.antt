-- What is asked of a reading, so that files that tell give one program; and a reading whose notes are seen through a function.
use Rattle.std.specs.Prelude.{◌≡◌, ℕ, List, map}
use Rattle.reading_trees.specs.declared.module.Module.{Module}
use Rattle.reading_modules.specs.declared.fault.LoadWhy.{LoadWhy}
use Rattle.reading_modules.specs.declared.notes.Noted.{Noted}
use Rattle.reading_modules.specs.Readings.{Reading}

-- a text spells one module, with the same notes
abbrev pub IsOne : {N : Type 0} → Reading N → Type 0
IsOne {N} reading =
    (number : ℕ) (bytes : List ℕ) (m n : Module) (notes others : List N) → reading.Spells number bytes m notes → reading.Spells number bytes n others
    → (m ≡ n) × (notes ≡ others)

-- a text that spells a module is not refused
abbrev pub IsNotRefused : {N : Type 0} → Reading N → Type 0
IsNotRefused {N} reading =
    (number : ℕ) (bytes : List ℕ) (m : Module) (notes : List N) (why : LoadWhy) → reading.Spells number bytes m notes
    → reading.Misspells number bytes why → ⊥

pub record IsReading {N : Type 0} (reading : Reading N) : Type 0 where
  pub one : IsOne reading
  pub never : IsNotRefused reading

-- the same modules, where of each note is told what the function gives
abbrev pub seen_by : {N A : Type 0} → (N → A) → Reading N → Reading A
seen_by {N} f reading = record {
  Spells = λ number bytes m notes. (all : List N) × reading.Spells number bytes m all × (notes ≡ map f all);
  Misspells = reading.Misspells;
  of_text = reading.of_text;
  refuses_nested = reading.refuses_nested;
}

abbrev pub noted_by : {N A : Type 0} → (N → A) → Noted N → Noted A
noted_by f n = record { file = n.file; note = f n.note }
