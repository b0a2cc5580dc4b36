-- What a module's file gives, from what its bytes give.
use Rattle.std.proofs.Common.{◌≡◌, ◌≢◌, ◌∙◌, refl, sym, subst, ℕ, true, List}
use Rattle.std.specs.Prelude.{Option, Result, Ok, Err, IfErr, OnErr}
use Rattle.base_core.specs.Device.{File}
use Rattle.base_core.specs.Failures.{Failures}
use Rattle.reading_trees.specs.declared.laid.Laid.{Laid}
use Rattle.reading_trees.specs.declared.module.Module.{Module}
use Rattle.reading_trees.specs.LexedEnds.{TokensEndOnce}
use Rattle.reading_trees.specs.Modules.{LaidEndsOnce}
use Rattle.reading_units.specs.LaidEnds.{MarkedEndsOnce}
use Rattle.reading_modules.specs.declared.fault.LoadWhy.{LoadWhy}
use Rattle.reading_modules.specs.declared.fault.LoadWhy.TheVariants.{Read, Lex, Lay, Parse, Cycle, TooMany, Twice, WrongName, Nested}
use Rattle.reading_modules.specs.declared.fault.Stop.{Stop}
use Rattle.reading_modules.specs.declared.fault.Stop.TheVariants as stops
use Rattle.reading_modules.specs.Paths.{file_of}
use Rattle.reading_modules.specs.Readings.{Reading}
use Rattle.reading_modules.specs.Refusals.{IsText, LaidAs, IsUnreadFile, IsCaused, RefusesBytes, misspelled, misnamed, Refuses, not_read, not_good, StopsBy, told_by}
use Rattle.reading_modules.proofs.Walks.{stops_map}

-- laid tokens of a text end once
pub laid_as_ends : (number : ℕ) (bytes : List ℕ) (laid : List Laid) → TokensEndOnce → MarkedEndsOnce → LaidAs number bytes laid → LaidEndsOnce laid
laid_as_ends number bytes laid ends marked l = marked l.tokens laid (ends true number bytes l.tokens l.lexed) l.marked

unread_is : {N : Type 0} (reading : Reading N) (h : Option (List File)) (folder : List ℕ) (number : ℕ) (name : List ℕ) (why : LoadWhy)
    → IsUnreadFile h (file_of folder name) why → Refuses reading h folder number name why
unread_is reading h folder number name (Read file fault) u =
    subst (λ (f : List ℕ). Refuses reading h folder number name (Read f fault)) (sym u.0) (not_read fault u.1)
unread_is reading h folder number name (Lex why at) u = absurd u
unread_is reading h folder number name (Lay at) u = absurd u
unread_is reading h folder number name (Parse fault) u = absurd u
unread_is reading h folder number name (Cycle names) u = absurd u
unread_is reading h folder number name (TooMany other) u = absurd u
unread_is reading h folder number name (Twice other later earlier) u = absurd u
unread_is reading h folder number name (WrongName other at) u = absurd u
unread_is reading h folder number name (Nested other at) u = absurd u

pub refuses_unread : {N : Type 0} (reading : Reading N) (h : Option (List File)) (folder : List ℕ) (number : ℕ) (name file : List ℕ) (s : Stop) → file ≡ file_of folder name
    → StopsBy (IsUnreadFile h file) s → StopsBy (Refuses reading h folder number name) s
refuses_unread reading h folder number name file s e u =
    stops_map (IsUnreadFile h file) (Refuses reading h folder number name) s
    (λ why p. unread_is reading h folder number name why (subst (λ (f : List ℕ). IsUnreadFile h f why) e p)) u

pub refuses_bytes : {N : Type 0} (reading : Reading N) (h : Option (List File)) (folder : List ℕ) (number : ℕ) (name file bytes : List ℕ) (s : Stop)
    → file ≡ file_of folder name → IsText h file bytes → StopsBy (RefusesBytes reading number bytes name) s → StopsBy (Refuses reading h folder number name) s
refuses_bytes reading h folder number name file bytes s e text m =
    stops_map (RefusesBytes reading number bytes name) (Refuses reading h folder number name) s
    (λ why p. not_good bytes why (subst (λ (f : List ℕ). IsText h f bytes) e text) p) m

-- bytes that spell no module
pub bytes_misspelled : {N : Type 0} (reading : Reading N) (number : ℕ) (bytes name : List ℕ) (s : Stop) → StopsBy (reading.Misspells number bytes) s
    → StopsBy (RefusesBytes reading number bytes name) s
bytes_misspelled reading number bytes name s m = stops_map (reading.Misspells number bytes) (RefusesBytes reading number bytes name) s (λ why p. misspelled why p) m

-- bytes that spell a module of another name
pub bytes_misnamed : {N : Type 0} (reading : Reading N) (number : ℕ) (bytes name : List ℕ) (m : Module) (notes : List N) (s : Stop) → reading.Spells number bytes m notes → m.name ≢ name
    → s ≡ stops.Refused (WrongName m.name m.at) → StopsBy (RefusesBytes reading number bytes name) s
bytes_misnamed reading number bytes name m notes s spelled other e =
    subst (λ (x : Stop). StopsBy (RefusesBytes reading number bytes name) x) (sym e) (misnamed m notes spelled other)

pub bytes_named : {N A : Type 0} (reading : Reading N) (number : ℕ) (bytes name : List ℕ) (m : Module) (notes : List N) (r : Result A Stop) → reading.Spells number bytes m notes
    → IfErr r (λ s. s ≡ stops.Refused (WrongName m.name m.at)) → OnErr r (m.name ≢ name) → IfErr r (StopsBy (RefusesBytes reading number bytes name))
bytes_named reading number bytes name m notes (Ok x) spelled e other = tt
bytes_named reading number bytes name m notes (Err s) spelled e other = bytes_misnamed reading number bytes name m notes s spelled other e

pub file_bytes : {N A : Type 0} (reading : Reading N) (h : Option (List File)) (folder : List ℕ) (number : ℕ) (name file bytes : List ℕ) (r : Result A Stop)
    → file ≡ file_of folder name → IsText h file bytes → IfErr r (StopsBy (RefusesBytes reading number bytes name))
    → IfErr r (StopsBy (Refuses reading h folder number name))
file_bytes reading h folder number name file bytes (Ok x) e text m = tt
file_bytes reading h folder number name file bytes (Err s) e text m = refuses_bytes reading h folder number name file bytes s e text m

-- a refusal of bytes has no cause in a count of faults
caused_not : {N : Type 0} (reading : Reading N) (h : Option (List File)) (before now number : ℕ) (bytes : List ℕ) (why : LoadWhy)
    → reading.Misspells number bytes why → IsCaused h before now why
caused_not reading h before now number bytes (Read file fault) m = absurd (reading.of_text number bytes file fault m)
caused_not reading h before now number bytes (Lex kind at) m = tt
caused_not reading h before now number bytes (Lay at) m = tt
caused_not reading h before now number bytes (Parse fault) m = tt
caused_not reading h before now number bytes (Cycle names) m = tt
caused_not reading h before now number bytes (TooMany name) m = tt
caused_not reading h before now number bytes (Twice name later earlier) m = tt
caused_not reading h before now number bytes (WrongName name at) m = tt
caused_not reading h before now number bytes (Nested name at) m = tt

bytes_cause : {N : Type 0} (reading : Reading N) (h : Option (List File)) (before now number : ℕ) (bytes name : List ℕ) (why : LoadWhy)
    → RefusesBytes reading number bytes name why → IsCaused h before now why
bytes_cause reading h before now number bytes name _ (misspelled why m) = caused_not reading h before now number bytes why m
bytes_cause reading h before now number bytes name _ (misnamed m notes spelled other) = tt

-- no call fails where bytes are refused
bytes_told : {N : Type 0} (reading : Reading N) (f : Failures) (number : ℕ) (bytes name : List ℕ) (why : LoadWhy) → RefusesBytes reading number bytes name why → f ≡ told_by why f
bytes_told reading f number bytes name _ (misspelled (Read file fault) m) = absurd (reading.of_text number bytes file fault m)
bytes_told reading f number bytes name _ (misspelled (Lex why at) m) = refl
bytes_told reading f number bytes name _ (misspelled (Lay at) m) = refl
bytes_told reading f number bytes name _ (misspelled (Parse fault) m) = refl
bytes_told reading f number bytes name _ (misspelled (Cycle names) m) = refl
bytes_told reading f number bytes name _ (misspelled (TooMany other) m) = refl
bytes_told reading f number bytes name _ (misspelled (Twice other later earlier) m) = refl
bytes_told reading f number bytes name _ (misspelled (WrongName other at) m) = refl
bytes_told reading f number bytes name _ (misspelled (Nested other at) m) = refl
bytes_told reading f number bytes name _ (misnamed m notes spelled other) = refl

pub bytes_are_told : {N A : Type 0} (reading : Reading N) (before now : Failures) (number : ℕ) (bytes name : List ℕ) (r : Result A Stop) → now ≡ before
    → IfErr r (StopsBy (RefusesBytes reading number bytes name)) → IfErr r (StopsBy (λ why. now ≡ told_by why before))
bytes_are_told reading before now number bytes name (Ok x) quiet m = tt
bytes_are_told reading before now number bytes name (Err s) quiet m =
    stops_map (RefusesBytes reading number bytes name) (λ why. now ≡ told_by why before) s (λ why p. quiet ∙ bytes_told reading before number bytes name why p) m

pub bytes_caused : {N A : Type 0} (reading : Reading N) (h : Option (List File)) (before now number : ℕ) (bytes name : List ℕ) (r : Result A Stop)
    → IfErr r (StopsBy (RefusesBytes reading number bytes name)) → IfErr r (StopsBy (IsCaused h before now))
bytes_caused reading h before now number bytes name (Ok x) m = tt
bytes_caused reading h before now number bytes name (Err s) m =
    stops_map (RefusesBytes reading number bytes name) (IsCaused h before now) s (λ why p. bytes_cause reading h before now number bytes name why p) m
