-- What all logs of a run say together.
use Rattle.std.specs.Prelude.{◌≡◌, ◌+◌, ◌-◌, ◌≤◌, ℕ, List, [], ◌∷◌, ◌++◌, length, map, slice_get, nat_lt, Bool, Option, None, Some, Result, Ok, Err, Vec}
use Rattle.std.specs.List.{AllByRecursion, AllZip, list_any}
use Rattle.std.specs.declared.alloc.Global.{Global}
use Rattle.logs_updates.specs.Clocks.{MayFollow, is_vector, number_in, vector_in}
use Rattle.logs_updates.specs.declared.clock.Clock.{Clock}
use Rattle.logs_updates.specs.declared.line.Line.{Line}
use Rattle.logs_updates.specs.declared.line.Log.{Log}
use Rattle.logs_updates.specs.declared.update.See.{See}
use Rattle.base_clock_order.specs.declared.order.LineRef.{LineRef}
use Rattle.base_clock_order.specs.Orders.{Clocks, IsMerged}
use Rattle.base_cuts.specs.Orders.{NoneFallsBy}
use Rattle.base_clocks.specs.declared.stamp.Stamp.{Stamp}
use Rattle.logs_lines.specs.Setting.{Setting}
use Rattle.logs_lines.specs.Files.{FileSays, first_line}
use Rattle.logs_lines.specs.declared.clocks.ClockForm.{ClockForm}
use Rattle.logs_lines.specs.declared.clocks.ClockForm.TheVariants.{Free}
use Rattle.logs_lines.specs.declared.file.FileLines.{FileLines}
use Rattle.logs_lines.specs.declared.file.Refusal.{Refusal}
use Rattle.logs_files.specs.declared.logs.LogRefusal.{LogRefusal}

-- the bytes of each file
abbrev pub texts_of : List (Vec ℕ Global) → List (List ℕ)
texts_of = map (λ text. text.items)

-- the steps that all files may have together
abbrev pub max_steps : ℕ
max_steps = 200000

abbrev pub are_several : List (List ℕ) → Bool
are_several texts = nat_lt 1 (length texts)

-- what follows one file: a refusal ends the reading, and else the files behind go on
abbrev pub GoesOn : (FileLines → Type 0) → ℕ → Result (List FileLines) LogRefusal → Result FileLines Refusal → Type 0
GoesOn Behind file r (Ok found) = Behind found
GoesOn Behind file r (Err refusal) = r ≡ Err (record { file = file; refusal = refusal })

-- What the files of these texts say behind those that were found, the first of them with this number. Each has the room
-- that those before it left, and the form of clocks that they began.
abbrev pub FilesSay : Setting → Bool → ℕ → ℕ → ClockForm → List FileLines → List (List ℕ) → Result (List FileLines) LogRefusal → Type 0
FilesSay g many file room form found [] r = r ≡ Ok found
FilesSay g many file room form found (text ∷ texts) r =
    (s : Result FileLines Refusal) × FileSays g (first_line file many room form) text s
    × GoesOn (λ f. FilesSay g many (file + 1) (room - length f.steps) f.form (found ++ f ∷ []) texts r) file r s

abbrev pub sees_of : Option (List See) → List See
sees_of None = []
sees_of (Some sees) = sees

-- what is seen at first: what the init lines say, file by file
abbrev pub first_sees : List FileLines → List See
first_sees [] = []
first_sees (f ∷ fs) = sees_of f.init ++ first_sees fs

-- the clocks of each file, step by step
abbrev pub clocks_in : List FileLines → List (List Clock)
clocks_in = map (λ f. map (λ l. l.clock) f.steps)

-- in no file does a clock fall, a number or a vector
abbrev pub NoneFalls : List (List Clock) → Type 0
NoneFalls = NoneFallsBy MayFollow

-- no file has more steps than 32 bits number
abbrev pub AreFew : List (List Clock) → Type 0
AreFew clocks = AllByRecursion (λ log. length log ≤ 4294967296) clocks

-- the numbers that are these clocks
abbrev pub numbers_in : List FileLines → Clocks
numbers_in = map (λ f. map (λ l. number_in l.clock) f.steps)

-- and what they say of nodes
abbrev pub vectors_in : List FileLines → List (List (List Stamp))
vectors_in = map (λ f. map (λ l. vector_in l.clock) f.steps)

-- some step has a clock of nodes
abbrev pub are_vectors : List FileLines → Bool
are_vectors = list_any (λ f. list_any (λ l. is_vector l.clock) f.steps)

-- the file of that number has this step there
abbrev pub StandsAt : List FileLines → LineRef → Line → Type 0
StandsAt files place line = (f : FileLines) × (slice_get files place.file ≡ Some f) × (slice_get f.steps place.index ≡ Some line)

-- the log of these files: its lines are their steps in the order by clock, then file, then line
pub record IsLogOf (files : List FileLines) (log : Log) : Type 0 where
  pub init : log.init ≡ first_sees files
  pub order : List LineRef
  pub merged : IsMerged (numbers_in files) order
  pub lines : AllZip (StandsAt files) order log.lines

-- the log of the files, or their refusal
abbrev pub Together : Result (List FileLines) LogRefusal → Result Log LogRefusal → Type 0
Together (Ok files) r = (log : Log) × IsLogOf files log × (r ≡ Ok log)
Together (Err refusal) r = r ≡ Err refusal

-- what the files say that may have so many steps together
abbrev pub LogsSayWithin : ℕ → Setting → List (List ℕ) → Result Log LogRefusal → Type 0
LogsSayWithin room g texts r = (s : Result (List FileLines) LogRefusal) × FilesSay g (are_several texts) 1 room Free [] texts s × Together s r

abbrev pub LogsSay : Setting → List (List ℕ) → Result Log LogRefusal → Type 0
LogsSay = LogsSayWithin max_steps

-- the logs have one outcome
abbrev pub LogsSayOne : Setting → Type 0
LogsSayOne g = (room : ℕ) (texts : List (List ℕ)) (r s : Result Log LogRefusal) → LogsSayWithin room g texts r → LogsSayWithin room g texts s → r ≡ s
