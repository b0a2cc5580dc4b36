-- A program has few files.
use Rattle.std.proofs.Common.{◌≡◌, ◌<◌, ◌≤◌, ◌⊎◌, inl, inr, Bool, true, false, List, [], ◌∷◌, ◌++◌, length, ℕ, suc, Option, Ok, Err, cond, refl, ap, ◌∙◌, arith, length-append}
use Rattle.base_core.specs.Device.{File}
use Rattle.reading_modules.specs.Flattened.{OutcomeOf, Meets, Follows, Visits, Makes, MakesAll, closes_cycle, is_listed, was_read, one_too_many, is_visited, all_met, stopped, went_on, is_refused, is_nested, stopped_below, stopped_in_instance, is_whole, all_made, makes_none, not_made, is_made, passed_over, stopped_inside, has_program, HasRoom, with_name, nothing_read}
use Rattle.reading_modules.specs.Loads.{IsProgramBy, files_of}
use Rattle.reading_modules.specs.declared.notes.Noted.{Noted}
use Rattle.reading_modules.specs.Readings.{Reading}
use Rattle.reading_modules.specs.Refusals.{strict}
use Rattle.reading_modules.specs.Standard.{is_among}
use Rattle.reading_trees.specs.declared.module.Made.{Made}
use Rattle.reading_trees.specs.declared.module.Unit.{Unit as ModuleUnit}
use Rattle.reading_trees.specs.declared.module.WholeProgram.{WholeProgram}
use Rattle.names_load_laws.specs.AnyReading.{LoadedHaveFewFilesBy}
use Rattle.names_load_laws.specs.Loaded.{LoadedHaveFewFiles}

abbrev AreFew : List (List ℕ) → Type 0
AreFew ns = length ns ≤ 32

abbrev HasFew : {N : Type 0} → OutcomeOf N → Type 0
HasFew (Ok so) = AreFew so.modules
HasFew (Err e) = Unit {0}

one_more : (ns : List (List ℕ)) (n : List ℕ) → length ns < 32 → AreFew (ns ++ n ∷ [])
one_more ns n h = omega (arith, h, length-append ns (n ∷ []))

room_case : (b : Bool) (ns : List (List ℕ)) (n : List ℕ) → AreFew ns → (b ≡ true) ⊎ (length ns < 32) → AreFew (cond b ns (ns ++ n ∷ []))
room_case true ns n f r = f
room_case false ns n f (inl e) = absurd (cc)
room_case false ns n f (inr l) = one_more ns n l

module _ {N : Type 0} (reading : Reading N) (holds : Option (List File)) (folder : List ℕ) where
  mutual
    meets : (path : List (List ℕ)) (so : _) (name : List ℕ) (o : OutcomeOf N) → Meets reading holds folder path so name o → AreFew so.modules → HasFew o
    meets _ _ _ _ (closes_cycle path so name names c) q = tt
    meets _ _ _ _ (is_listed path so name a s) q = q
    meets _ _ _ _ (was_read path so name a s r) q = q
    meets _ _ _ _ (one_too_many path so name a s r l) q = tt
    meets _ _ _ _ (is_visited path so name o a s r l v) q = visits path so name o v q l

    follows : (path : List (List ℕ)) (so : _) (names : List (List ℕ)) (o : OutcomeOf N) → Follows reading holds folder path so names o → AreFew so.modules → HasFew o
    follows _ _ _ _ (all_met path so) q = q
    follows _ _ _ _ (stopped path so name names e m) q = tt
    follows _ _ _ _ (went_on path so next name names o m f) q = follows path next names o f (meets path so name (Ok next) m q)

    visits : (path : List (List ℕ)) (so : _) (name : List ℕ) (o : OutcomeOf N) → Visits reading holds folder path so name o → AreFew so.modules → HasRoom so name → HasFew o
    visits _ _ _ _ (is_refused path so name why r) q l = tt
    visits _ _ _ _ (is_nested path so name m notes made i r t f) q l = tt
    visits _ _ _ _ (stopped_below path so name m notes e i a f) q l = tt
    visits _ _ _ _ (stopped_in_instance path so below name m notes e i a f g) q l = tt
    visits _ _ _ _ (is_whole path so below all name m notes i a f g) q l =
        makes_all _ _ _ _ g (follows _ _ _ _ f (room_case (is_among name so.modules) so.modules name q l.1))

    makes_all : (path : List (List ℕ)) (so : _) (units : List ModuleUnit) (o : OutcomeOf N) → MakesAll reading holds folder path so units o → AreFew so.modules → HasFew o
    makes_all _ _ _ _ (all_made path so) q = q
    makes_all _ _ _ _ (makes_none path so u us o n g) q = makes_all path so us o g q
    makes_all _ _ _ _ (not_made path so u us made e n m) q = tt
    makes_all _ _ _ _ (is_made path so next u us made o n m g) q = makes_all path next us o g (makes path so made (Ok next) m q)

    makes : (path : List (List ℕ)) (so : _) (made : Made) (o : OutcomeOf N) → Makes reading holds folder path so made o → AreFew so.modules → HasFew o
    makes _ _ _ _ (passed_over path so made t) q = q
    makes _ _ _ _ (stopped_inside path so made e t m) q = tt
    makes _ _ _ _ (has_program path so inner made t m) q = meets path _ made.module_name (Ok inner) m q

length-files_of : (folder : List ℕ) (ns : List (List ℕ)) → length (files_of folder ns) ≡ length ns
length-files_of folder [] = refl
length-files_of folder (n ∷ ns) = ap suc (length-files_of folder ns)

few : {N : Type 0} (reading : Reading N) (holds : Option (List File)) (folder name : List ℕ) (p : WholeProgram) (notes : List (Noted N))
    → IsProgramBy reading holds folder name p notes → length p.program.files ≤ 32
few reading holds folder name p notes i =
    let h : AreFew i.all.modules = visits reading holds folder [] nothing_read name (Ok i.all) i.flattened (omega arith) (omega arith, inr (omega arith)) in
    let e : length p.program.files ≡ length i.all.modules = ap length i.program.files ∙ length-files_of folder i.all.modules in
    omega (arith, h, e)

pub have_few_files_by : {N : Type 0} (reading : Reading N) → LoadedHaveFewFilesBy reading
have_few_files_by reading holds before now path l h = few reading holds h.0 h.1 l.program l.notes h.3

pub have_few_files : LoadedHaveFewFiles
have_few_files holds before now path p h = few strict holds h.0 h.1 p [] h.3
