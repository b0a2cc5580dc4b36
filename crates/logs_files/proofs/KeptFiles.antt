-- In no file does a clock fall, no file has too many steps, and each text gave a file.
use Rattle.std.proofs.Common.{◌≡◌, ◌≤◌, ◌<◌, ◌+◌, ◌-◌, ℕ, List, [], ◌∷◌, ◌++◌, length, length-append, map, get_or, All, AllPairs, Bool, Some, Result, Ok, Err, subst, sym, ◌∙◌, refl, arith}
use Rattle.std.specs.List.{slice_get}
use Rattle.std.proofs.lemmas.List.{length-map}
use Rattle.std.proofs.lemmas.Option.{slice_get_within, get_or_from_slice_get}
use Rattle.std.proofs.lemmas.List.Elements.{All-get_or, All-map, All-nil, All-push, All-weaker, recursion_from_All}
use Rattle.logs_updates.specs.declared.line.Line.{Line}
use Rattle.logs_lines.specs.Setting.{Setting}
use Rattle.logs_lines.specs.Files.{FileSays, first_line}
use Rattle.logs_lines.specs.Laws.{Precedes, StepsKeep}
use Rattle.logs_lines.specs.declared.clocks.ClockForm.{ClockForm}
use Rattle.logs_lines.specs.declared.clocks.ClockForm.TheVariants.{Free}
use Rattle.logs_lines.specs.declared.file.FileLines.{FileLines}
use Rattle.logs_lines.specs.declared.file.Refusal.{Refusal}
use Rattle.logs_updates.specs.Clocks.{MayFollow}
use Rattle.logs_updates.specs.declared.clock.Clock.{Clock}
use Rattle.logs_files.specs.Logs.{AreFew, FilesSay, GoesOn, NoneFalls, clocks_in}
use Rattle.logs_files.specs.declared.logs.LogRefusal.{LogRefusal}
use Rattle.logs_files.proofs.PlaceLemmas.{mapped, some_is}

abbrev pub IsKept : FileLines → Type 0
IsKept f = AllPairs Precedes f.steps × (length f.steps ≤ 4294967296)

pub record AreKept (n : ℕ) (fs : List FileLines) : Type 0 where
  pub each : All IsKept fs
  pub count : length fs ≡ n

kept : (g : Setting) → StepsKeep g → (file : ℕ) (many : Bool) (room : ℕ) (form : ClockForm) (text : List ℕ) (f : FileLines) → room ≤ 4294967296 → FileSays g (first_line file many room form) text (Ok f) → IsKept f
kept g keep file many room form text f l says =
    let holds = keep file many room form text f says in
    let few : length f.steps ≤ room = holds.1 in
    (holds.0, omega (arith, few, l))

kept_on : (g : Setting) → StepsKeep g → (many : Bool) (file room n : ℕ) (form : ClockForm) (found fs : List FileLines) (text : List ℕ) (texts : List (List ℕ)) → room ≤ 4294967296
    → ((f : FileLines) → IsKept f → FilesSay g many (file + 1) (room - length f.steps) f.form (found ++ f ∷ []) texts (Ok fs) → AreKept n fs) → (s : Result FileLines Refusal)
    → FileSays g (first_line file many room form) text s → GoesOn (λ f. FilesSay g many (file + 1) (room - length f.steps) f.form (found ++ f ∷ []) texts (Ok fs)) file (Ok fs) s → AreKept n fs
kept_on g keep many file room n form found fs text texts l next (Ok f) says h = next f (kept g keep file many room form text f l says) h
kept_on g keep many file room n form found fs text texts l next (Err refusal) says h = absurd cc

ok_is : (a b : List FileLines) (r : Result (List FileLines) LogRefusal) → r ≡ Ok a → r ≡ Ok b → a ≡ b
ok_is a b r x y = cc

kept_all : (g : Setting) → StepsKeep g → (many : Bool) (texts : List (List ℕ)) (file room n : ℕ) (form : ClockForm) (found fs : List FileLines) → room ≤ 4294967296 → All IsKept found
    → n ≡ length found + length texts → FilesSay g many file room form found texts (Ok fs) → AreKept n fs
kept_all g keep many [] file room n form found fs l k c h =
    let same : fs ≡ found = ok_is fs found (Ok fs) refl h in
    subst (λ (x : List FileLines). AreKept n x) (sym same) (record { each = k; count = omega (arith, c) })
kept_all g keep many (text ∷ texts) file room n form found fs l k c h =
    kept_on g keep many file room n form found fs text texts l
    (λ f holds more. kept_all g keep many texts (file + 1) (room - length f.steps) n f.form (found ++ f ∷ []) fs (omega (arith, l)) (All-push IsKept found f k holds)
    (omega (arith, c, length-append found (f ∷ []))) more) h.0 h.1 h.2

pub files_kept : (g : Setting) → StepsKeep g → (many : Bool) (texts : List (List ℕ)) (room : ℕ) (fs : List FileLines) → room ≤ 4294967296 → FilesSay g many 1 room Free [] texts (Ok fs)
    → AreKept (length texts) fs
files_kept g keep many texts room fs l h = kept_all g keep many texts 1 room (length texts) Free [] fs l (All-nil IsKept) (omega arith) h

kept_at : (fs : List FileLines) (i : ℕ) (f : FileLines) → All IsKept fs → slice_get fs i ≡ Some f → IsKept f
kept_at fs i f h e = subst IsKept (get_or_from_slice_get fs i f f e) (All-get_or IsKept fs i f (slice_get_within fs i f e) h)

rises : (steps : List Line) (i j : ℕ) (c d : Clock) → AllPairs Precedes steps → i < j → slice_get (map (λ l. l.clock) steps) i ≡ Some c → slice_get (map (λ l. l.clock) steps) j ≡ Some d
    → MayFollow c d
rises steps i j c d pairs less p q =
    let a = mapped (λ (l : Line). l.clock) steps i c p in
    let b = mapped (λ (l : Line). l.clock) steps j d q in
    let holds = pairs i j a.0 less (slice_get_within steps j b.0 b.1) in
    let first : get_or steps i a.0 ≡ a.0 = get_or_from_slice_get steps i a.0 a.0 a.1 in
    let second : get_or steps j a.0 ≡ b.0 = get_or_from_slice_get steps j b.0 a.0 b.1 in
    let near : Precedes a.0 b.0 = subst (λ (x : Line). Precedes a.0 x) second (subst (λ (x : Line). Precedes x (get_or steps j a.0)) first holds) in
    subst (λ (x : Clock). MayFollow c x) b.2 (subst (λ (x : Clock). MayFollow x b.0.clock) a.2 near.1)

pub none_falls : (n : ℕ) (fs : List FileLines) → AreKept n fs → NoneFalls (clocks_in fs)
none_falls n fs k l i c d less p q =
    let f = mapped (λ (f : FileLines). map (λ l. l.clock) f.steps) fs l.file p.0 p.1 in
    let same : q.0 ≡ p.0 = some_is q.0 p.0 (sym q.1 ∙ p.1) in
    rises f.0.steps l.index i c d (kept_at fs l.file f.0 k.each f.1).0 less (subst (λ (log : List Clock). slice_get log l.index ≡ Some c) (sym f.2) p.2)
    (subst (λ (log : List Clock). slice_get log i ≡ Some d) (same ∙ sym f.2) q.2)

pub are_few : (n : ℕ) (fs : List FileLines) → AreKept n fs → AreFew (clocks_in fs)
are_few n fs k =
    recursion_from_All (λ (log : List Clock). length log ≤ 4294967296) (clocks_in fs) (All-map (λ (log : List Clock). length log ≤ 4294967296) (λ (f : FileLines). map (λ l. l.clock) f.steps) fs
    (All-weaker IsKept (λ f. length (map (λ l. l.clock) f.steps) ≤ 4294967296) (λ f h. let few : length f.steps ≤ 4294967296 = h.1 in omega (arith, few, length-map f.steps (λ l. l.clock))) fs k.each))
