-- Reading the files one after the other.
use Rattle.std.proofs.Common.{◌≡◌, ◌≤◌, ◌<◌, ◌+◌, ◌-◌, ℕ, zero, suc, List, [], ◌∷◌, ◌++◌, length, drop, get_or, All, Bool, Some, Result, Ok, Err, IfOk, Vec, Global, option_map, ap, subst, sym, ◌∙◌, refl, arith, add-one}
use Rattle.std.specs.List.{slice_get}
use Rattle.std.proofs.Math.Seq.{drop-cons}
use Rattle.std.proofs.lemmas.Option.{slice_get_read, slice_get-map, slice_get_within, get_or_from_slice_get}
use Rattle.std.proofs.lemmas.List.Elements.{All-get_or}
use Rattle.std.specs.declared.alloc.AllocError.{AllocError}
use Rattle.logs_lines.specs.Setting.{Setting}
use Rattle.logs_lines.specs.Files.{FileSays, first_line}
use Rattle.logs_lines.specs.Laws.{StepsKeep}
use Rattle.logs_lines.specs.declared.clocks.ClockForm.{ClockForm}
use Rattle.logs_lines.specs.declared.clocks.ClockForm.TheVariants.{Free}
use Rattle.logs_lines.specs.declared.file.FileLines.{FileLines}
use Rattle.logs_lines.specs.declared.file.Refusal.{Refusal}
use Rattle.logs_files.specs.Logs.{FilesSay, texts_of}
use Rattle.logs_files.specs.Reads.{Behind, ReadsOn}
use Rattle.logs_files.specs.declared.files.Reading.{Reading}
use Rattle.logs_files.specs.declared.logs.LogRefusal.{LogRefusal}

-- what the rest says behind the reading, all files say
pub record IsRead (g : Setting) (many : Bool) (room : ℕ) (all : List (List ℕ)) (i : ℕ) (reading : Reading) : Type 0 where
  pub said : (r : Result (List FileLines) LogRefusal) → Behind g many reading (drop i all) r → FilesSay g many 1 room Free [] all r
  pub file : reading.file ≡ i + 1

pub begun : (g : Setting) (many : Bool) (room : ℕ) (all : List (List ℕ)) (reading : Reading) → reading.file ≡ 1 → reading.left ≡ room → reading.form ≡ Free → reading.found.items ≡ []
    → IsRead g many room all 0 reading
begun g many room all reading f l k e = record {
  said = λ r h. subst (λ (n : ℕ). FilesSay g many n room Free [] all r) f (subst (λ (n : ℕ). FilesSay g many reading.file n Free [] all r) l
      (subst (λ (form : ClockForm). FilesSay g many reading.file reading.left form [] all r) k
      (subst (λ (fs : List FileLines). FilesSay g many reading.file reading.left reading.form fs all r) e h)));
  file = f;
}

pub text_at : (texts : List (Vec ℕ Global)) (i : ℕ) (v : Vec ℕ Global) → i < length texts → v ≡ get_or texts i v → slice_get (texts_of texts) i ≡ Some v.items
text_at texts i v h e = slice_get-map (λ text. text.items) texts i ∙ ap (option_map (λ text. text.items)) (slice_get_read texts (length texts) i v refl h e)

pub short_text : (n : ℕ) (texts : List (Vec ℕ Global)) (i : ℕ) (v : Vec ℕ Global) → i < length texts → v ≡ get_or texts i v → All (λ text. length text.items < n) texts → length v.items < n
short_text n texts i v h e short = subst (λ (x : Vec ℕ Global). length x.items < n) (sym e) (All-get_or (λ (text : Vec ℕ Global). length text.items < n) texts i v h short)

rest_is : (all : List (List ℕ)) (i : ℕ) (text : List ℕ) → slice_get all i ≡ Some text → drop i all ≡ text ∷ drop (i + 1) all
rest_is all i text e = rw (add-one i) (drop-cons all i text (slice_get_within all i text e) ∙ ap (λ (t : List ℕ). t ∷ drop (suc i) all) (get_or_from_slice_get all i text text e))

pub read_next : (g : Setting) (many : Bool) (room : ℕ) (all : List (List ℕ)) (i : ℕ) (reading next : Reading) (text : List ℕ) → IsRead g many room all i reading
    → slice_get all i ≡ Some text → ReadsOn g many reading text (Ok next) → next.file ≡ reading.file + 1 → IsRead g many room all (i + 1) next
read_next g many room all i reading next text w e on f = record {
  said = λ r h. w.said r (subst (λ (ts : List (List ℕ)). Behind g many reading ts r) (sym (rest_is all i text e)) (on (drop (i + 1) all) r h));
  file = f ∙ ap (λ (n : ℕ). n + 1) w.file;
}

pub stopped : (g : Setting) (many : Bool) (room : ℕ) (all : List (List ℕ)) (i : ℕ) (reading : Reading) (text : List ℕ) (refusal : LogRefusal) → IsRead g many room all i reading
    → slice_get all i ≡ Some text → ReadsOn g many reading text (Err refusal) → FilesSay g many 1 room Free [] all (Err refusal)
stopped g many room all i reading text refusal w e on =
    w.said (Err refusal) (subst (λ (ts : List (List ℕ)). Behind g many reading ts (Err refusal)) (sym (rest_is all i text e)) (on (drop (i + 1) all)))

none_left : {X : Type 0} (xs : List X) (i : ℕ) → length xs ≤ i → drop i xs ≡ []
none_left [] zero h = refl
none_left [] (suc i) h = refl
none_left (x ∷ xs) zero h = absurd (omega (arith, h))
none_left (x ∷ xs) (suc i) h = none_left xs i (omega (arith, h))

pub ended : (g : Setting) (many : Bool) (room : ℕ) (all : List (List ℕ)) (i : ℕ) (reading : Reading) → IsRead g many room all i reading → length all ≤ i
    → FilesSay g many 1 room Free [] all (Ok reading.found.items)
ended g many room all i reading w h =
    w.said (Ok reading.found.items) (subst (λ (ts : List (List ℕ)). Behind g many reading ts (Ok reading.found.items)) (sym (none_left all i h)) refl)

-- one more file
pub file_taken : (g : Setting) (many : Bool) (reading next : Reading) (text : List ℕ) (found : FileLines) → FileSays g (first_line reading.file many reading.left reading.form) text (Ok found)
    → next.file ≡ reading.file + 1 → next.left ≡ reading.left - length found.steps → next.form ≡ found.form → next.found.items ≡ reading.found.items ++ found ∷ [] → ReadsOn g many reading text (Ok next)
file_taken g many reading next text found says f l k e = λ rest r h. (
  Ok found,
  says,
  subst (λ (n : ℕ). FilesSay g many n (reading.left - length found.steps) found.form (reading.found.items ++ found ∷ []) rest r) f
      (subst (λ (n : ℕ). FilesSay g many next.file n found.form (reading.found.items ++ found ∷ []) rest r) l
      (subst (λ (form : ClockForm). FilesSay g many next.file next.left form (reading.found.items ++ found ∷ []) rest r) k
      (subst (λ (fs : List FileLines). FilesSay g many next.file next.left next.form fs rest r) e h))),
)

pub file_refused : (g : Setting) (many : Bool) (reading : Reading) (text : List ℕ) (refusal : Refusal) → FileSays g (first_line reading.file many reading.left reading.form) text (Err refusal)
    → ReadsOn g many reading text (Err (record { file = reading.file; refusal = refusal }))
file_refused g many reading text refusal says = λ rest. (Err refusal, says, refl)

pub has_room : (g : Setting) (keep : StepsKeep g) (file : ℕ) (many : Bool) (room : ℕ) (form : ClockForm) (text : List ℕ) (r : Result (Result FileLines Refusal) AllocError)
    → IfOk r (FileSays g (first_line file many room form) text) → IfOk r (λ s. IfOk s (λ f. length f.steps ≤ room))
has_room g keep file many room form text (Ok (Ok f)) h = (keep file many room form text f h).1
has_room g keep file many room form text (Ok (Err refusal)) h = tt
has_room g keep file many room form text (Err e) h = tt
