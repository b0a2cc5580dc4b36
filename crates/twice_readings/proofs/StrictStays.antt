-- What is read without the word `--wide` is read so with it.
use Rattle.std.proofs.Common.{◌≡◌, ℕ, List, [], ◌∷◌, ◌++◌, length, Option, Some, Ok, refl, ap, sym, ◌∙◌, subst}
use Rattle.std.specs.Prelude.{Bool, true, false}
use Rattle.base_core.specs.Device.{File}
use Rattle.reading_trees.specs.declared.config.Config.{Config}
use Rattle.reading_trees.specs.declared.module.Made.{Made}
use Rattle.reading_trees.specs.declared.module.Module.{Module}
use Rattle.reading_trees.specs.declared.module.Program.{Program}
use Rattle.reading_trees.specs.declared.module.Unit.{Unit as ModuleUnit}
use Rattle.reading_trees.specs.declared.module.WholeProgram.{WholeProgram}
use Rattle.reading_modules.specs.declared.notes.Noted.{Noted}
use Rattle.reading_modules.specs.declared.so_far.Gathered.{Gathered}
use Rattle.reading_modules.specs.Flattened as flattening
use Rattle.reading_modules.specs.Flattened.{Follows, Makes, MakesAll, Meets, Visits, all_made, all_met, begun_of_instance, has_program, is_listed, is_made, is_visited, makes_none, noted, nothing_read, number_of, passed_over, was_read, went_on, with_module}
use Rattle.reading_modules.specs.Loads.{IsProgramBy}
use Rattle.reading_modules.specs.Refusals.{IsModule}
use Rattle.reading_wide_configuration.specs.Laws.{StrictIsWide}
use Rattle.reading_wide_configuration.specs.Wide.{ReadsBy}
use Rattle.reading_wide_modules.specs.declared.unread.Unread.{Unread}
use Rattle.reading_wide_modules.specs.Wide as spelling
use Rattle.reading_wide_modules.specs.Wide.{SpelledWide, plain, reading_by, wide}
use Rattle.names_terms.specs.declared.spec.Spec.{Spec}
use Rattle.names_specification.specs.Resolving.{ResolvedBy, ResolvedWide, as_it_stands}
use Rattle.names_whole_programs.specs.Expansion.{ExpansionBy}
use Rattle.names_whole_programs.specs.Laws.{StrictIsWide as ExpandedStrictly}
use Rattle.run_wide.specs.Passing as passing
use Rattle.run_wide.specs.Passing.{Passes, without_word}
use Rattle.logs_tied.specs.declared.logs.Lined.{Lined}
use Rattle.run_words.specs.declared.job.Job.{Job}
use Rattle.run_reading_defs.specs.Texts.{LogsRead}
use Rattle.run_reading_defs.specs.Reaches.{AllRead, Reaches, given, has_forms, loaded, loads, logged, needs_no_configuration, passes, reads_configuration, reads_log, resolved, resolves}
use Rattle.twice_readings.specs.Readings.{GivenStaysWide, ReadingIsOne, StrictStaysWide, WideIsStrict, widened}
use Rattle.twice_readings.proofs.Stages.{ConfiguredBy, configured_by, given_by, resolved_by}

-- ---- modules

no_more : (number : ℕ) (before : List (Noted Unread)) (notes : List Unread) → before ≡ [] → notes ≡ [] → before ++ noted number notes ≡ []
no_more number before notes e h = ap (λ (ns : List (Noted Unread)). ns ++ noted number notes) e ∙ ap (λ (ns : List Unread). noted number ns) h

module _ (holds : Option (List File)) (folder : List ℕ) where
  whole_module : (number : ℕ) (name : List ℕ) (m : Module) (notes : List Unread) → IsModule plain holds folder number name m notes → IsModule wide holds folder number name m notes
  whole_module number name m notes is = record {
    bytes = is.bytes;
    text = is.text;
    spelled = subst (λ (ns : List Unread). SpelledWide number is.bytes m ns) (sym is.spelled.1) (spelling.is_whole m is.spelled.0);
    named = is.named;
  }

  mutual
    meets_wide : (path : List (List ℕ)) (so all : Gathered Unread) (name : List ℕ) → Meets plain holds folder path so name (Ok all) → Meets wide holds folder path so name (Ok all)
    meets_wide path so _ name (is_listed _ _ _ a s) = is_listed path so name a s
    meets_wide path so _ name (was_read _ _ _ a s r) = was_read path so name a s r
    meets_wide path so all name (is_visited _ _ _ _ a s r l v) = is_visited path so name (Ok all) a s r l (visits_wide path so all name v)

    follows_wide : (path : List (List ℕ)) (so all : Gathered Unread) (names : List (List ℕ)) → Follows plain holds folder path so names (Ok all)
        → Follows wide holds folder path so names (Ok all)
    follows_wide path so _ _ (all_met _ _) = all_met path so
    follows_wide path so all _ (went_on _ _ next first others _ m f) =
        went_on path so next first others (Ok all) (meets_wide path so next first m) (follows_wide path next all others f)

    visits_wide : (path : List (List ℕ)) (so all : Gathered Unread) (name : List ℕ) → Visits plain holds folder path so name (Ok all) → Visits wide holds folder path so name (Ok all)
    visits_wide path so _ name (flattening.is_whole _ _ below made _ m notes is allowed f g) =
        flattening.is_whole path so below made name m notes (whole_module (number_of name so.modules) name m notes is) (λ asked. allowed refl)
        (follows_wide (path ++ name ∷ []) (with_module so name) below m.extends f) (all_wide (path ++ name ∷ []) below made m.units g)

    all_wide : (path : List (List ℕ)) (so all : Gathered Unread) (units : List ModuleUnit) → MakesAll plain holds folder path so units (Ok all)
        → MakesAll wide holds folder path so units (Ok all)
    all_wide path so _ _ (all_made _ _) = all_made path so
    all_wide path so all _ (makes_none _ _ u us _ none g) = makes_none path so u us (Ok all) none (all_wide path so all us g)
    all_wide path so all _ (is_made _ _ next u us made _ is m g) = is_made path so next u us made (Ok all) is (makes_wide path so next made m) (all_wide path next all us g)

    makes_wide : (path : List (List ℕ)) (so all : Gathered Unread) (made : Made) → Makes plain holds folder path so made (Ok all) → Makes wide holds folder path so made (Ok all)
    makes_wide path so _ made (passed_over _ _ _ t) = passed_over path so made t
    makes_wide path so _ made (has_program _ _ inner _ t m) = has_program path so inner made t (meets_wide path (begun_of_instance so.modules) inner made.module_name m)

  -- and nothing of them is unread
  mutual
    meets_nothing : (path : List (List ℕ)) (so all : Gathered Unread) (name : List ℕ) → Meets plain holds folder path so name (Ok all) → so.notes ≡ [] → all.notes ≡ []
    meets_nothing path so _ name (is_listed _ _ _ a s) e = e
    meets_nothing path so _ name (was_read _ _ _ a s r) e = e
    meets_nothing path so all name (is_visited _ _ _ _ a s r l v) e = visits_nothing path so all name v e

    follows_nothing : (path : List (List ℕ)) (so all : Gathered Unread) (names : List (List ℕ)) → Follows plain holds folder path so names (Ok all) → so.notes ≡ [] → all.notes ≡ []
    follows_nothing path so _ _ (all_met _ _) e = e
    follows_nothing path so all _ (went_on _ _ next first others _ m f) e = follows_nothing path next all others f (meets_nothing path so next first m e)

    visits_nothing : (path : List (List ℕ)) (so all : Gathered Unread) (name : List ℕ) → Visits plain holds folder path so name (Ok all) → so.notes ≡ [] → all.notes ≡ []
    visits_nothing path so _ name (flattening.is_whole _ _ below made _ m notes is allowed f g) e =
        no_more (number_of name so.modules) made.notes notes
        (all_nothing (path ++ name ∷ []) below made m.units g (follows_nothing (path ++ name ∷ []) (with_module so name) below m.extends f e)) is.spelled.1

    all_nothing : (path : List (List ℕ)) (so all : Gathered Unread) (units : List ModuleUnit) → MakesAll plain holds folder path so units (Ok all) → so.notes ≡ [] → all.notes ≡ []
    all_nothing path so _ _ (all_made _ _) e = e
    all_nothing path so all _ (makes_none _ _ u us _ none g) e = all_nothing path so all us g e
    all_nothing path so all _ (is_made _ _ next u us made _ is m g) e = all_nothing path next all us g (makes_nothing path so next made m e)

    makes_nothing : (path : List (List ℕ)) (so all : Gathered Unread) (made : Made) → Makes plain holds folder path so made (Ok all) → so.notes ≡ [] → all.notes ≡ []
    makes_nothing path so _ made (passed_over _ _ _ t) e = e
    makes_nothing path so _ made (has_program _ _ inner _ t m) e = e

  program_wide : (name : List ℕ) (p : WholeProgram) (unread : List (Noted Unread)) → IsProgramBy plain holds folder name p unread → IsProgramBy wide holds folder name p unread
  program_wide name p unread is =
      record { all = is.all; flattened = visits_wide [] nothing_read is.all name is.flattened; program = is.program; noted = is.noted; names = is.names }

  nothing_unread : (name : List ℕ) (p : WholeProgram) (unread : List (Noted Unread)) → IsProgramBy plain holds folder name p unread → unread ≡ []
  nothing_unread name p unread is = is.noted ∙ visits_nothing [] nothing_read is.all name is.flattened refl

-- ---- stages

-- without the word nothing is passed over, and with it a program stays that resolves as it stands
passed_wide : (p q : Program) (unread : List (Noted Unread)) (c d : Config) (silent : Option (List ℕ)) (s : Spec) → Passes p c silent unread false q d → unread ≡ []
    → ResolvedWide q d silent (Ok s) → Passes p c silent unread true q d
passed_wide p _ unread c _ silent s without_word none is = passing.is_whole s none is

module _ (configurations : StrictIsWide) (expansions : ExpandedStrictly) (holds : Option (List File)) (job : Job) (strictly : job.wide ≡ false) where
  plain_program : (folder name : List ℕ) (p : WholeProgram) (unread : List (Noted Unread)) → IsProgramBy (reading_by job.wide) holds folder name p unread
      → IsProgramBy plain holds folder name p unread
  plain_program folder name p unread is = subst (λ (w : Bool). IsProgramBy (reading_by w) holds folder name p unread) strictly is

  loaded_wide : (p : WholeProgram) (unread : List (Noted Unread)) → Reaches holds job (loaded p unread) → Reaches holds (widened job) (loaded p unread)
  loaded_wide _ _ (loads folder name p unread path is) = loads folder name p unread path (program_wide holds folder name p unread (plain_program folder name p unread is))

  loaded_whole : (p : WholeProgram) (unread : List (Noted Unread)) → Reaches holds job (loaded p unread) → unread ≡ []
  loaded_whole _ _ (loads folder name p unread path is) = nothing_unread holds folder name p unread (plain_program folder name p unread is)

  given_wide : (p : WholeProgram) (unread : List (Noted Unread)) (c : Config) → Reaches holds job (given p unread c) → Reaches holds (widened job) (given p unread c)
  given_wide _ _ _ (needs_no_configuration p unread reaches none) = needs_no_configuration p unread (loaded_wide p unread reaches) none
  given_wide _ _ _ (reads_configuration p unread name text c reaches some has reads) =
      reads_configuration p unread name text c (loaded_wide p unread reaches) some has
      (configurations (length p.program.files) name text c (subst (λ (w : Bool). ReadsBy w (length p.program.files) name text (Ok c)) strictly reads))

  resolved_wide : (q : Program) (d : Config) (s : Spec) → Reaches holds job (resolved q d s) → Reaches holds (widened job) (resolved q d s)
  resolved_wide q d s reaches =
      let r = resolved_by holds job q d s reaches in
      let by : ConfiguredBy holds job q d = configured_by holds job q d r.0 in
      let is : ResolvedWide q d job.silent (Ok s) = as_it_stands s (subst (λ (w : Bool). ResolvedBy w q d job.silent (Ok s)) strictly r.1) in
      let none : by.unread ≡ [] = loaded_whole by.whole by.unread (given_by holds job by.whole by.unread by.config by.reaches).0 in
      let passed : Passes by.program by.config job.silent by.unread false q d =
      subst (λ (w : Bool). Passes by.program by.config job.silent by.unread w q d) strictly by.passed in
      resolves q d s
      (passes by.whole by.program q by.unread by.config d (given_wide by.whole by.unread by.config by.reaches) (expansions by.whole by.program (subst (λ (w : Bool). ExpansionBy w by.whole (Ok by.program)) strictly by.expands))
      (passed_wide by.program q by.unread by.config d job.silent s passed none is)) is

  logged_wide : (p : Program) (c : Config) (s : Spec) (read : LogsRead) (names : List (List ℕ)) → Reaches holds job (logged p c s read names)
      → Reaches holds (widened job) (logged p c s read names)
  logged_wide _ _ _ _ _ (has_forms p c s reaches whole) = has_forms p c s (resolved_wide p c s reaches) whole
  logged_wide _ _ _ _ _ (reads_log p c s read name names text f reaches log says) =
      reads_log p c s read name names text f (logged_wide p c s read (name ∷ names) reaches) log says

  read_wide : (p : Program) (c : Config) (s : Spec) (lined : Lined) → AllRead holds job p c s lined → AllRead holds (widened job) p c s lined
  read_wide p c s lined a = record { read = a.read; reaches = logged_wide p c s a.read [] a.reaches; lines = a.lines }

pub strict_stays_wide : StrictIsWide → ExpandedStrictly → StrictStaysWide
strict_stays_wide configurations expansions holds job p c s lined strictly a = read_wide configurations expansions holds job strictly p c s lined a

pub given_stays_wide : StrictIsWide → ExpandedStrictly → GivenStaysWide
given_stays_wide configurations expansions holds job witness p c s lined w strictly a =
    record { all_read = read_wide configurations expansions holds job strictly p c s lined a.all_read; text = a.text; has_text = a.has_text; says = a.says }

pub wide_is_strict : StrictIsWide → ExpandedStrictly → ReadingIsOne → WideIsStrict
wide_is_strict configurations expansions one files job p q c d s t lined other strictly a b =
    one files (widened job) p q c d s t lined other (read_wide configurations expansions (Some files) job strictly p c s lined a) b
