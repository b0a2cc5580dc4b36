-- The files of logs have the numbers from 1 on, and in each the numbers of the lines rise: no two lines have one place.
use Rattle.std.proofs.Common.{◌≡◌, ◌<◌, ◌+◌, ◌++◌, ℕ, zero, suc, List, [], ◌∷◌, length, get_or, map, Option, Some, All, AllPairs, inl, inr, ap, sym, ◌∙◌, subst, arith}
use Rattle.std.specs.Prelude.{Bool, slice_get}
use Rattle.std.proofs.lemmas.Bool.{cases_lt}
use Rattle.std.proofs.lemmas.Option.{get_or_from_slice_get, slice_get_within}
use Rattle.std.proofs.lemmas.List.Elements.{All-get_or}
use Rattle.base_core.specs.Device.{File}
use Rattle.base_core.specs.declared.place.LineAt.{LineAt}
use Rattle.reading_trees.specs.declared.config.Config.{Config}
use Rattle.reading_trees.specs.declared.module.Program.{Program}
use Rattle.names_terms.specs.declared.spec.Spec.{Spec}
use Rattle.logs_updates.specs.declared.line.Line.{Line}
use Rattle.base_clock_order.specs.declared.order.LineRef.{LineRef}
use Rattle.logs_lines.specs.Laws.{Precedes}
use Rattle.logs_lines.specs.declared.file.FileLines.{FileLines}
use Rattle.logs_lines.proofs.StepsKept.{steps_keep}
use Rattle.logs_files.specs.Lined.{IsLinedOf}
use Rattle.logs_files.proofs.PlaceLemmas.{mapped, some_is}
use Rattle.logs_tied.specs.Lines.{HaveOwnPlaces, StandsIn}
use Rattle.logs_tied.specs.declared.logs.Lined.{Lined}
use Rattle.logs_tied.specs.declared.logs.Lined.TheVariants.{Sequence, Tied}
use Rattle.steps_lined.specs.Beside.{AreTellable}
use Rattle.steps_names.specs.Names.{names_of}
use Rattle.run_words.specs.declared.job.Job.{Job}
use Rattle.run_reading_defs.specs.Texts.{LogsRead, are_several, steps_left}
use Rattle.run_reading_defs.specs.Reaches.{Reaches, has_forms, logged, reads_log}
use Rattle.twice_calls.specs.OwnPlace.{ReadAreTellable}
use Rattle.twice_calls.proofs.Placed.{StandsInFile, file_stands}

-- the steps of a file stand in the file of that number, in the order of their lines
record IsNumbered (number : ℕ) (f : FileLines) : Type 0 where
  stand : All (StandsInFile number) f.steps
  rise : AllPairs Precedes f.steps

abbrev FromOn : ℕ → List FileLines → Type 0
FromOn n [] = Unit {0}
FromOn n (f ∷ fs) = IsNumbered n f × FromOn (suc n) fs

renumbered : (m n : ℕ) (f : FileLines) → m ≡ n → IsNumbered m f → IsNumbered n f
renumbered m n f e h = subst (λ (k : ℕ). IsNumbered k f) e h

one_more : (n : ℕ) (fs : List FileLines) (g : FileLines) → FromOn n fs → IsNumbered (n + length fs) g → FromOn n (fs ++ g ∷ [])
one_more n [] g h last = (renumbered (n + 0) n g (omega arith) last, tt)
one_more n (f ∷ fs) g h last = (h.0, one_more (suc n) fs g h.1 (renumbered (n + suc (length fs)) (suc n + length fs) g (omega arith) last))

numbered_at : (n : ℕ) (fs : List FileLines) (i : ℕ) (f : FileLines) → FromOn n fs → slice_get fs i ≡ Some f → IsNumbered (n + i) f
numbered_at n [] i f h e = absurd cc
numbered_at n (g ∷ fs) zero f h e = renumbered n (n + 0) f (omega arith) (subst (IsNumbered n) (some_is g f e) h.0)
numbered_at n (g ∷ fs) (suc i) f h e = renumbered (suc n + i) (n + suc i) f (omega arith) (numbered_at (suc n) fs i f h.1 e)

all_numbered : (holds : Option (List File)) (job : Job) (p : Program) (c : Config) (s : Spec) (read : LogsRead) (names : List (List ℕ)) → Reaches holds job (logged p c s read names)
    → FromOn 1 read.found
all_numbered holds job p c s _ _ (has_forms _ _ _ reaches whole) = tt
all_numbered holds job p c s _ names (reads_log _ _ _ read name _ text f reaches log says) =
    one_more 1 read.found f (all_numbered holds job p c s read (name ∷ names) reaches) (record {
      stand = file_stands (names_of s) (1 + length read.found) (are_several job.logs) (steps_left read) read.form text f says;
      rise = (steps_keep (names_of s) (1 + length read.found) (are_several job.logs) (steps_left read) read.form text f says).0;
    })

stands_there : (n : ℕ) (steps : List Line) (i : ℕ) (a : Line) → All (StandsInFile n) steps → slice_get steps i ≡ Some a → a.at.file ≡ n
stands_there n steps i a all e = subst (StandsInFile n) (get_or_from_slice_get steps i a a e) (All-get_or (StandsInFile n) steps i a (slice_get_within steps i a e) all)

-- a line before another has a smaller number
rises_to : (steps : List Line) (i j : ℕ) (a b : Line) → AllPairs Precedes steps → slice_get steps i ≡ Some a → slice_get steps j ≡ Some b → i < j → a.at.line < b.at.line
rises_to steps i j a b pairs p q less =
    let first : get_or steps i a ≡ a = get_or_from_slice_get steps i a a p in
    let second : get_or steps j a ≡ b = get_or_from_slice_get steps j b a q in
    let holds = pairs i j a less (slice_get_within steps j b q) in
    let near : Precedes a b = subst (λ (x : Line). Precedes a x) second (subst (λ (x : Line). Precedes x (get_or steps j a)) first holds) in
    near.0

same_index : (steps : List Line) (i j : ℕ) (a b : Line) → AllPairs Precedes steps → slice_get steps i ≡ Some a → slice_get steps j ≡ Some b → a.at.line ≡ b.at.line → i ≡ j
same_index steps i j a b pairs p q e = elim (cases_lt i j) [
  | inl less ↦ absurd (omega (arith, rises_to steps i j a b pairs p q less, e))
  | inr past ↦ elim (cases_lt j i) [
    | inl less ↦ absurd (omega (arith, rises_to steps j i b a pairs q p less, e))
    | inr other ↦ omega (arith, past, other)
  ]
]

module _ (files : List FileLines) (numbered : FromOn 1 files) where
  -- a line that stands in the logs, with its file
  record StandsThere (l : LineRef) (a : Line) : Type 0 where
    file : FileLines
    is : slice_get files l.file ≡ Some file
    line : slice_get file.steps l.index ≡ Some a

  there : (l : LineRef) (a : Line) → StandsIn (map (λ f. f.steps) files) l a → StandsThere l a
  there l a h =
      let m = mapped (λ (f : FileLines). f.steps) files l.file h.0 h.1 in
      record { file = m.0; is = m.1; line = subst (λ (log : List Line). slice_get log l.index ≡ Some a) (sym m.2) h.2 }

  file_number : (l : LineRef) (a : Line) → StandsThere l a → a.at.file ≡ 1 + l.file
  file_number l a h = stands_there (1 + l.file) h.file.steps l.index a (numbered_at 1 files l.file h.file numbered h.is).stand h.line

  own_places : HaveOwnPlaces (map (λ f. f.steps) files)
  own_places l m a b h k same =
      let x : StandsThere l a = there l a h in
      let y : StandsThere m b = there m b k in
      let numbers : a.at.file ≡ b.at.file = ap (λ (at : LineAt). at.file) same in
      let file : l.file ≡ m.file = omega (arith, file_number l a x, file_number m b y, numbers) in
      let one : y.file ≡ x.file = some_is y.file x.file (sym y.is ∙ (ap (λ (i : ℕ). slice_get files i) (sym file) ∙ x.is)) in
      let line : slice_get x.file.steps m.index ≡ Some b = subst (λ (f : FileLines). slice_get f.steps m.index ≡ Some b) one y.line in
      let index : l.index ≡ m.index =
      same_index x.file.steps l.index m.index a b (numbered_at 1 files l.file x.file numbered x.is).rise x.line line (ap (λ (at : LineAt). at.line) same) in
      λ i. record { file = file i; index = index i }

are_tellable : (ties : Bool) (files : List FileLines) (lined : Lined) → FromOn 1 files → IsLinedOf ties files lined → AreTellable lined
are_tellable ties files (Sequence log) numbered is = tt
are_tellable ties files (Tied logs) numbered is = subst HaveOwnPlaces (sym is.2.lines) (own_places files numbered)

pub read_are_tellable : ReadAreTellable
read_are_tellable holds job p c s lined a = are_tellable job.ties a.read.found lined (all_numbered holds job p c s a.read [] a.reaches) a.lines
