-- The laws of reading wide.
use Rattle.std.specs.Prelude.{◌≡◌, ℕ, Bool, List, [], map}
use Rattle.base_core.specs.declared.place.Place.{Place}
use Rattle.reading_trees.specs.declared.module.Module.{Module}
use Rattle.reading_pieces.specs.declared.mark.Mark.{Mark}
use Rattle.reading_modules.specs.declared.fault.LoadWhy.{LoadWhy}
use Rattle.reading_modules.specs.Refusals.{SpelledBy}
use Rattle.reading_wide_modules.specs.declared.unread.Unread.{Unread}
use Rattle.reading_laws.specs.AnyReading.{FlatteningMayStopBy, LoadingMayStopBy, NothingRepeatsBy, OneLoadingSeenBy, OneProgramSeenBy}
use Rattle.reading_laws.specs.Readings.{IsReading, seen_by}
use Rattle.reading_wide_modules.specs.Wide.{MisspelledWide, SpelledWide, reading_by}

-- what is read without pieces is read so, and nothing of it is unread
abbrev pub StrictIsWide : Type 0
StrictIsWide = (number : ℕ) (bytes : List ℕ) (m n : Module) (unread : List Unread) → SpelledBy number bytes m → SpelledWide number bytes n unread → (n ≡ m) × (unread ≡ [])

-- bytes that are read are not refused
abbrev pub WideIsNotRefused : Type 0
WideIsNotRefused = (number : ℕ) (bytes : List ℕ) (m : Module) (unread : List Unread) (why : LoadWhy) → SpelledWide number bytes m unread → MisspelledWide number bytes why → ⊥

-- the names of those that are unread
abbrev pub unread_names : List Unread → List (List (List ℕ))
unread_names unread = map (λ u. u.names) unread

abbrev pub unread_begins : List Unread → List Mark
unread_begins unread = map (λ u. u.begins) unread

abbrev pub unread_places : List Unread → List Place
unread_places unread = map (λ u. u.at) unread

-- bytes are read as one module, with the same pieces unread
abbrev pub OneWide : Type 0
OneWide = (number : ℕ) (bytes : List ℕ) (m n : Module) (unread others : List Unread) → SpelledWide number bytes m unread → SpelledWide number bytes n others
    → (m ≡ n) × (unread_begins unread ≡ unread_begins others) × (unread_places unread ≡ unread_places others) × (unread_names unread ≡ unread_names others)

-- what is told of a piece that is unread, whatever its cause
abbrev pub told : Unread → Mark × Place × List (List ℕ)
told u = (u.begins, u.at, u.names)

-- where of each piece that is unread this alone is told, a text is read in one way, and what is read is not refused
abbrev pub WideIsReading : Type 0
WideIsReading = (word : Bool) → IsReading (seen_by told (reading_by word))

-- So files that tell give one program with the same pieces unread.
abbrev pub OneWideProgram : Type 0
OneWideProgram = (word : Bool) → OneProgramSeenBy told (reading_by word)

abbrev pub OneWideLoading : Type 0
OneWideLoading = (word : Bool) → OneLoadingSeenBy told (reading_by word)

-- and where they give one, it is refused only where a read failed
abbrev pub WideFlatteningMayStop : Type 0
WideFlatteningMayStop = (word : Bool) → FlatteningMayStopBy (reading_by word)

abbrev pub NothingRepeatsWide : Type 0
NothingRepeatsWide = (word : Bool) → NothingRepeatsBy (reading_by word)

abbrev pub WideLoadingMayStop : Type 0
WideLoadingMayStop = (word : Bool) → LoadingMayStopBy (reading_by word)
