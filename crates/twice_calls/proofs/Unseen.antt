-- A file that is not asked for is not seen. Reading beside the files A is one beside the files B, where these tell the same of each file that is asked for beside W, which is one of both.
use Rattle.std.proofs.Common.{◌≡◌, ◌∙◌, ℕ, List, [], ◌∷◌, ◌++◌, length, Some, Ok, Err, sym}
use Rattle.base_core.specs.Device.{File, IsLonger, IsWhole, Lacks, found}
use Rattle.base_core.specs.declared.reading.ReadFault.{ReadFault}
use Rattle.base_core.specs.declared.reading.ReadFault.TheVariants.{Failed, Missing, NoMemory, TooLong}
use Rattle.reading_trees.specs.declared.config.Config.{Config}
use Rattle.reading_trees.specs.declared.module.Made.{Made}
use Rattle.reading_trees.specs.declared.module.Module.{Module}
use Rattle.reading_trees.specs.declared.module.Program.{Program}
use Rattle.reading_trees.specs.declared.module.Unit.{Unit as ModuleUnit}
use Rattle.reading_trees.specs.declared.module.WholeProgram.{WholeProgram}
use Rattle.states_core.specs.declared.state.Shown.{Shown}
use Rattle.reading_modules.specs.declared.fault.LoadWhy.{LoadWhy}
use Rattle.reading_modules.specs.declared.fault.LoadWhy.TheVariants.{Read}
use Rattle.reading_modules.specs.declared.notes.Noted.{Noted}
use Rattle.reading_modules.specs.declared.so_far.Gathered.{Gathered}
use Rattle.reading_modules.specs.Flattened.{Follows, FlattenedBy, Makes, MakesAll, Meets, OutcomeOf, Visits, all_made, all_met, begun_of_instance, closes_cycle, has_program, is_listed, is_made, is_nested, is_refused, is_visited, is_whole, makes_none, not_made, nothing_read, number_of, one_too_many, passed_over, stopped, stopped_below, stopped_in_instance, stopped_inside, was_read, went_on, with_module, with_name}
use Rattle.reading_modules.specs.Loads.{IsProgramBy}
use Rattle.reading_modules.specs.Paths.{IsPath, file_of}
use Rattle.reading_modules.specs.Readings.{Reading}
use Rattle.reading_modules.specs.Refusals.{IsModule, IsText, IsUnread, Refuses, module_limit, not_good, not_read}
use Rattle.reading_wide_modules.specs.Wide.{reading_by}
use Rattle.names_terms.specs.declared.spec.Spec.{Spec}
use Rattle.logs_tied.specs.declared.logs.Lined.{Lined}
use Rattle.run_words.specs.declared.job.Job.{Job}
use Rattle.run_words.specs.declared.job.Words.{Words}
use Rattle.run_words.specs.declared.job.Words.TheVariants.{Check, SelfRun, Validate}
use Rattle.run_reading_defs.specs.Texts.{HasText, bytes_left, config_limit}
use Rattle.run_reading_defs.specs.Reaches.{AllRead, IsNext, Reaches, Stage, Wants, begins, begun, config_next, has_forms, loaded, loads, log_next, logged, module_next, needs_no_configuration, passes, reads_configuration, reads_log, resolves}
use Rattle.run_reading_defs.specs.Refusals as refusal
use Rattle.run_reading_defs.specs.Refusals.{IsRefusal, Rejects}
use Rattle.run_reading_defs.specs.Given as given
use Rattle.run_reading_defs.specs.Given.{AllGiven, GivenWants, IsGivenRefusal, states_limit}
use Rattle.run_call.specs.Calls as calls
use Rattle.run_call.specs.Calls.{Calls, CallsGiven}
use Rattle.run_call.specs.Run.{AsksFor, IsWanted, Runs, checks, in_no_form, tests_itself, validates}
use Rattle.run_call.specs.declared.call.Status.{Status}
use Rattle.twice_calls.specs.Unseen.{ReadUnseen, UnaskedAreUnseen}

module _ (A B W : List File) (pick : (X : List File → Type 0) → X A → X B → X W) where
  -- both tell the same of the file
  abbrev Same : List ℕ → Type 0
  Same name = found name B ≡ found name A

  whole_so : (name text : List ℕ) → Same name → IsWhole name (Some A) text → IsWhole name (Some B) text
  whole_so name text same h = same ∙ h

  has_so : (name : List ℕ) (limit : ℕ) (text : List ℕ) → Same name → HasText (Some A) name limit text → HasText (Some B) name limit text
  has_so name limit text same h = record { whole = same ∙ h.whole; short = h.short }

  longer_so : (name : List ℕ) (limit : ℕ) → Same name → IsLonger name (Some A) limit → IsLonger name (Some B) limit
  longer_so name limit same h = (h.0, same ∙ h.1, h.2)

  lacks_so : (name : List ℕ) (before now : ℕ) → Same name → Lacks name (Some A) before now → Lacks name (Some B) before now
  lacks_so name before now same h = same ∙ h

  -- ---- modules

  module _ {N : Type 0} (reading : Reading N) (folder main : List ℕ) where
    abbrev Error : Type 0
    Error = List (List ℕ) × LoadWhy

    -- what comes of the main module beside W is this refusal
    abbrev Ends : Error → Type 0
    Ends e = FlattenedBy reading (Some W) folder main (Err e)

    -- a module's file is asked for where a failure of its read would be the refusal
    abbrev SameSought : Type 0
    SameSought = (file : List ℕ) (modules : List (List ℕ)) → Ends (modules, Read file Failed) → Same file

    text_so : (file bytes : List ℕ) → Same file → IsText (Some A) file bytes → IsText (Some B) file bytes
    text_so file bytes same h = record { whole = same ∙ h.whole; short = h.short }

    module_so : (number : ℕ) (name : List ℕ) (m : Module) (notes : List N) → Same (file_of folder name) → IsModule reading (Some A) folder number name m notes
        → IsModule reading (Some B) folder number name m notes
    module_so number name m notes same h = record { bytes = h.bytes; text = text_so (file_of folder name) h.bytes same h.text; spelled = h.spelled; named = h.named }

    unread_so : (file : List ℕ) (fault : ReadFault) → Same file → IsUnread (Some A) file fault → IsUnread (Some B) file fault
    unread_so file Missing same h = same ∙ h
    unread_so file Failed same h = h
    unread_so file TooLong same h = longer_so file module_limit same h
    unread_so file NoMemory same h = h

    refuses_so : (number : ℕ) (name : List ℕ) (why : LoadWhy) → Same (file_of folder name) → Refuses reading (Some A) folder number name why → Refuses reading (Some B) folder number name why
    refuses_so number name _ same (not_read fault h) = not_read fault (unread_so (file_of folder name) fault same h)
    refuses_so number name _ same (not_good bytes why text bad) = not_good bytes why (text_so (file_of folder name) bytes same text) bad

    module _ (same : SameSought) where
      -- the file of a module that is visited is asked for
      visited : (path : List (List ℕ)) (so : Gathered N) (name : List ℕ) → ((e : Error) → Visits reading (Some W) folder path so name (Err e) → Ends e) → Same (file_of folder name)
      visited path so name up =
          same (file_of folder name) (with_name so.modules name) (up (with_name so.modules name, Read (file_of folder name) Failed) (is_refused path so name (Read (file_of folder name) Failed) (not_read Failed tt)))

      mutual
        meets_so : (path : List (List ℕ)) (so : Gathered N) (name : List ℕ) (o : OutcomeOf N) → ((e : Error) → Meets reading (Some W) folder path so name (Err e) → Ends e)
            → Meets reading (Some A) folder path so name o → Meets reading (Some B) folder path so name o
        meets_so _ _ _ _ up (closes_cycle path so name names is) = closes_cycle path so name names is
        meets_so _ _ _ _ up (is_listed path so name off standard) = is_listed path so name off standard
        meets_so _ _ _ _ up (was_read path so name off plain before) = was_read path so name off plain before
        meets_so _ _ _ _ up (one_too_many path so name off plain fresh many) = one_too_many path so name off plain fresh many
        meets_so _ _ _ _ up (is_visited path so name o off plain fresh few v) =
            is_visited path so name o off plain fresh few (visits_so path so name o (λ e w. up e (is_visited path so name (Err e) off plain fresh few w)) v)

        follows_so : (path : List (List ℕ)) (so : Gathered N) (names : List (List ℕ)) (o : OutcomeOf N) → ((e : Error) → Follows reading (Some W) folder path so names (Err e) → Ends e)
            → Follows reading (Some A) folder path so names o → Follows reading (Some B) folder path so names o
        follows_so _ _ _ _ up (all_met path so) = all_met path so
        follows_so _ _ _ _ up (stopped path so name names d m) = stopped path so name names d (meets_so path so name (Err d) (λ e w. up e (stopped path so name names e w)) m)
        follows_so _ _ _ _ up (went_on path so next name names o m f) =
            let there : Meets reading (Some B) folder path so name (Ok next) = meets_so path so name (Ok next) (λ e w. up e (stopped path so name names e w)) m in
            let beside : Meets reading (Some W) folder path so name (Ok next) = pick (λ h. Meets reading (Some h) folder path so name (Ok next)) m there in
            went_on path so next name names o there (follows_so path next names o (λ e w. up e (went_on path so next name names (Err e) beside w)) f)

        visits_so : (path : List (List ℕ)) (so : Gathered N) (name : List ℕ) (o : OutcomeOf N) → ((e : Error) → Visits reading (Some W) folder path so name (Err e) → Ends e)
            → Visits reading (Some A) folder path so name o → Visits reading (Some B) folder path so name o
        visits_so _ _ _ _ up (is_refused path so name why r) = is_refused path so name why (refuses_so (number_of name so.modules) name why (visited path so name up) r)
        visits_so _ _ _ _ up (is_nested path so name m notes made is asked inside first) =
            is_nested path so name m notes made (module_so (number_of name so.modules) name m notes (visited path so name up) is) asked inside first
        visits_so _ _ _ _ up (stopped_below path so name m notes d is allowed f) =
            let n : ℕ = number_of name so.modules in
            let there : IsModule reading (Some B) folder n name m notes = module_so n name m notes (visited path so name up) is in
            let beside : IsModule reading (Some W) folder n name m notes = pick (λ h. IsModule reading (Some h) folder n name m notes) is there in
            stopped_below path so name m notes d there allowed
            (follows_so (path ++ name ∷ []) (with_module so name) m.extends (Err d) (λ e w. up e (stopped_below path so name m notes e beside allowed w)) f)
        visits_so _ _ _ _ up (stopped_in_instance path so below name m notes d is allowed f g) =
            let n : ℕ = number_of name so.modules in
            let inner : List (List ℕ) = path ++ name ∷ [] in
            let there : IsModule reading (Some B) folder n name m notes = module_so n name m notes (visited path so name up) is in
            let beside : IsModule reading (Some W) folder n name m notes = pick (λ h. IsModule reading (Some h) folder n name m notes) is there in
            let under : Follows reading (Some B) folder inner (with_module so name) m.extends (Ok below) =
            follows_so inner (with_module so name) m.extends (Ok below) (λ e w. up e (stopped_below path so name m notes e beside allowed w)) f in
            let under_both : Follows reading (Some W) folder inner (with_module so name) m.extends (Ok below) =
            pick (λ h. Follows reading (Some h) folder inner (with_module so name) m.extends (Ok below)) f under in
            stopped_in_instance path so below name m notes d there allowed under
            (all_so inner below m.units (Err d) (λ e w. up e (stopped_in_instance path so below name m notes e beside allowed under_both w)) g)
        visits_so _ _ _ _ up (is_whole path so below all name m notes is allowed f g) =
            let n : ℕ = number_of name so.modules in
            let inner : List (List ℕ) = path ++ name ∷ [] in
            let there : IsModule reading (Some B) folder n name m notes = module_so n name m notes (visited path so name up) is in
            let beside : IsModule reading (Some W) folder n name m notes = pick (λ h. IsModule reading (Some h) folder n name m notes) is there in
            let under : Follows reading (Some B) folder inner (with_module so name) m.extends (Ok below) =
            follows_so inner (with_module so name) m.extends (Ok below) (λ e w. up e (stopped_below path so name m notes e beside allowed w)) f in
            let under_both : Follows reading (Some W) folder inner (with_module so name) m.extends (Ok below) =
            pick (λ h. Follows reading (Some h) folder inner (with_module so name) m.extends (Ok below)) f under in
            is_whole path so below all name m notes there allowed under
            (all_so inner below m.units (Ok all) (λ e w. up e (stopped_in_instance path so below name m notes e beside allowed under_both w)) g)

        all_so : (path : List (List ℕ)) (so : Gathered N) (units : List ModuleUnit) (o : OutcomeOf N) → ((e : Error) → MakesAll reading (Some W) folder path so units (Err e) → Ends e)
            → MakesAll reading (Some A) folder path so units o → MakesAll reading (Some B) folder path so units o
        all_so _ _ _ _ up (all_made path so) = all_made path so
        all_so _ _ _ _ up (makes_none path so u us o none g) = makes_none path so u us o none (all_so path so us o (λ e w. up e (makes_none path so u us (Err e) none w)) g)
        all_so _ _ _ _ up (not_made path so u us made d is m) = not_made path so u us made d is (makes_so path so made (Err d) (λ e w. up e (not_made path so u us made e is w)) m)
        all_so _ _ _ _ up (is_made path so next u us made o is m g) =
            let there : Makes reading (Some B) folder path so made (Ok next) = makes_so path so made (Ok next) (λ e w. up e (not_made path so u us made e is w)) m in
            let beside : Makes reading (Some W) folder path so made (Ok next) = pick (λ h. Makes reading (Some h) folder path so made (Ok next)) m there in
            is_made path so next u us made o is there (all_so path next us o (λ e w. up e (is_made path so next u us made (Err e) is beside w)) g)

        makes_so : (path : List (List ℕ)) (so : Gathered N) (made : Made) (o : OutcomeOf N) → ((e : Error) → Makes reading (Some W) folder path so made (Err e) → Ends e)
            → Makes reading (Some A) folder path so made o → Makes reading (Some B) folder path so made o
        makes_so _ _ _ _ up (passed_over path so made t) = passed_over path so made t
        makes_so _ _ _ _ up (stopped_inside path so made d t m) =
            stopped_inside path so made d t (meets_so path (begun_of_instance so.modules) made.module_name (Err d) (λ e w. up e (stopped_inside path so made e t w)) m)
        makes_so _ _ _ _ up (has_program path so inner made t m) =
            has_program path so inner made t (meets_so path (begun_of_instance so.modules) made.module_name (Ok inner) (λ e w. up e (stopped_inside path so made e t w)) m)

      flattened_so : (o : OutcomeOf N) → FlattenedBy reading (Some A) folder main o → FlattenedBy reading (Some B) folder main o
      flattened_so o h = visits_so [] nothing_read main o (λ e w. w) h

      program_so : (p : WholeProgram) (notes : List (Noted N)) → IsProgramBy reading (Some A) folder main p notes → IsProgramBy reading (Some B) folder main p notes
      program_so p notes h = record { all = h.all; flattened = flattened_so (Ok h.all) h.flattened; program = h.program; noted = h.noted; names = h.names }

  -- ---- all that a job reads

  module _ (job : Job) (same : (name : List ℕ) (limit : ℕ) → Wants (Some W) job name limit → Same name) where
    sought : (folder main : List ℕ) → IsPath job.module folder main → SameSought (reading_by job.wide) folder main
    sought folder main path file modules fails =
        same file module_limit (record { stage = begun; reaches = begins; is_next = module_next folder main modules file path fails })

    -- the file that is next where both readings come to is asked for
    next_same : (stage : Stage) (name : List ℕ) (limit : ℕ) → Reaches (Some A) job stage → Reaches (Some B) job stage → IsNext (Some W) job stage name limit → Same name
    next_same stage name limit here there next = same name limit (record { stage = stage; reaches = pick (λ h. Reaches (Some h) job stage) here there; is_next = next })

    reaches_so : (stage : Stage) → Reaches (Some A) job stage → Reaches (Some B) job stage
    reaches_so _ begins = begins
    reaches_so _ (loads folder name p unread path is) = loads folder name p unread path (program_so (reading_by job.wide) folder name (sought folder name path) p unread is)
    reaches_so _ (needs_no_configuration p unread before none) = needs_no_configuration p unread (reaches_so (loaded p unread) before) none
    reaches_so _ (reads_configuration p unread name text c before some has reads) =
        let there : Reaches (Some B) job (loaded p unread) = reaches_so (loaded p unread) before in
        reads_configuration p unread name text c there some (has_so name config_limit text (next_same (loaded p unread) name config_limit before there (config_next p unread name some)) has) reads
    reaches_so _ (passes w p q unread c d before expands is) = passes w p q unread c d (reaches_so _ before) expands is
    reaches_so _ (resolves p c s before is) = resolves p c s (reaches_so _ before) is
    reaches_so _ (has_forms p c s before whole) = has_forms p c s (reaches_so _ before) whole
    reaches_so _ (reads_log p c s read name names text f before log says) =
        let there : Reaches (Some B) job (logged p c s read (name ∷ names)) = reaches_so (logged p c s read (name ∷ names)) before in
        let sees : Same name = next_same (logged p c s read (name ∷ names)) name (bytes_left read) before there (log_next p c s read name names) in
        reads_log p c s read name names text f there (has_so name (bytes_left read) text sees log) says

    next_so : (stage : Stage) (name : List ℕ) (limit : ℕ) → IsNext (Some A) job stage name limit → IsNext (Some B) job stage name limit
    next_so _ _ _ (module_next folder name modules file path fails) =
        module_next folder name modules file path (flattened_so (reading_by job.wide) folder name (sought folder name path) (Err (modules, Read file Failed)) fails)
    next_so _ _ _ (config_next p unread name some) = config_next p unread name some
    next_so _ _ _ (log_next p c s read name names) = log_next p c s read name names

    wants_so : (name : List ℕ) (limit : ℕ) → Wants (Some A) job name limit → Wants (Some B) job name limit
    wants_so name limit h = record { stage = h.stage; reaches = reaches_so h.stage h.reaches; is_next = next_so h.stage name limit h.is_next }

    wanted_same : (name : List ℕ) (limit : ℕ) → Wants (Some A) job name limit → Same name
    wanted_same name limit h = same name limit (pick (λ x. Wants (Some x) job name limit) h (wants_so name limit h))

    rejects_so : (stage : Stage) (report : List ℕ) → Reaches (Some A) job stage → Rejects (Some A) job stage report → Rejects (Some B) job stage report
    rejects_so _ _ reaches (refusal.in_a_module folder name modules why path is of_text) =
        refusal.in_a_module folder name modules why path (flattened_so (reading_by job.wide) folder name (sought folder name path) (Err (modules, why)) is) of_text
    rejects_so _ _ reaches (refusal.in_all_modules folder name all why path is twice) =
        refusal.in_all_modules folder name all why path (flattened_so (reading_by job.wide) folder name (sought folder name path) (Ok all) is) twice
    rejects_so _ _ reaches (refusal.in_the_configuration p unread name text kind at some has reads) =
        let sees : Same name = next_same (loaded p unread) name config_limit reaches (reaches_so (loaded p unread) reaches) (config_next p unread name some) in
        refusal.in_the_configuration p unread name text kind at some (has_so name config_limit text sees has) reads
    rejects_so _ _ reaches (refusal.in_an_instance w unread c fault is) = refusal.in_an_instance w unread c fault is
    rejects_so _ _ reaches (refusal.in_a_piece w p unread c index root expands wide needs) = refusal.in_a_piece w p unread c index root expands wide needs
    rejects_so _ _ reaches (refusal.in_names p c fault is) = refusal.in_names p c fault is
    rejects_so _ _ reaches (refusal.in_forms p c s fault is) = refusal.in_forms p c s fault is
    rejects_so _ _ reaches (refusal.in_a_log p c s read name names text why log says) =
        let stage : Stage = logged p c s read (name ∷ names) in
        let sees : Same name = next_same stage name (bytes_left read) reaches (reaches_so stage reaches) (log_next p c s read name names) in
        refusal.in_a_log p c s read name names text why (has_so name (bytes_left read) text sees log) says

    refusal_so : (before now : ℕ) (report : List ℕ) → IsRefusal (Some A) before now job report → IsRefusal (Some B) before now job report
    refusal_so before now _ (refusal.is_missing name limit wants lacks) =
        refusal.is_missing name limit (wants_so name limit wants) (lacks_so name before now (wanted_same name limit wants) lacks)
    refusal_so before now _ (refusal.is_too_long name limit wants long) =
        refusal.is_too_long name limit (wants_so name limit wants) (longer_so name limit (wanted_same name limit wants) long)
    refusal_so before now _ (refusal.is_refused stage report reaches rejects) = refusal.is_refused stage report (reaches_so stage reaches) (rejects_so stage report reaches rejects)

    all_read_so : (p : Program) (c : Config) (s : Spec) (lined : Lined) → AllRead (Some A) job p c s lined → AllRead (Some B) job p c s lined
    all_read_so p c s lined h = record { read = h.read; reaches = reaches_so (logged p c s h.read []) h.reaches; lines = h.lines }

    calls_so : (before now : ℕ) (end : Status) (report : List ℕ) → Calls (Some A) before now job end report → Calls (Some B) before now job end report
    calls_so before now _ _ (calls.is_refused report refused) = calls.is_refused report (refusal_so before now report refused)
    calls_so before now _ _ (calls.is_answered p c s lined end report all held answers) = calls.is_answered p c s lined end report (all_read_so p c s lined all) held answers

  -- ---- all that a job of `check` reads

  module _ (job : Job) (witness : List ℕ) (same : (name : List ℕ) (limit : ℕ) → GivenWants (Some W) job witness name limit → Same name) where
    same_before : (name : List ℕ) (limit : ℕ) → Wants (Some W) job name limit → Same name
    same_before name limit wants = same name limit (given.wants_before name limit wants)

    given_wants_so : (name : List ℕ) (limit : ℕ) → GivenWants (Some A) job witness name limit → GivenWants (Some B) job witness name limit
    given_wants_so _ _ (given.wants_before name limit wants) = given.wants_before name limit (wants_so job same_before name limit wants)
    given_wants_so _ _ (given.wants_states p c s read reaches) = given.wants_states p c s read (reaches_so job same_before (logged p c s read []) reaches)

    given_same : (name : List ℕ) (limit : ℕ) → GivenWants (Some A) job witness name limit → Same name
    given_same name limit h = same name limit (pick (λ x. GivenWants (Some x) job witness name limit) h (given_wants_so name limit h))

    given_refusal_so : (before now : ℕ) (report : List ℕ) → IsGivenRefusal (Some A) before now job witness report → IsGivenRefusal (Some B) before now job witness report
    given_refusal_so before now _ (given.is_missing name limit wants lacks) =
        given.is_missing name limit (given_wants_so name limit wants) (lacks_so name before now (given_same name limit wants) lacks)
    given_refusal_so before now _ (given.is_too_long name limit wants long) =
        given.is_too_long name limit (given_wants_so name limit wants) (longer_so name limit (given_same name limit wants) long)
    given_refusal_so before now _ (given.is_refused stage report reaches rejects) =
        given.is_refused stage report (reaches_so job same_before stage reaches) (rejects_so job same_before stage report reaches rejects)
    given_refusal_so before now _ (given.are_refused p c s read text why reaches has says) =
        let sees : Same witness = given_same witness states_limit (given.wants_states p c s read reaches) in
        given.are_refused p c s read text why (reaches_so job same_before (logged p c s read []) reaches) (has_so witness states_limit text sees has) says

    all_given_so : (p : Program) (c : Config) (s : Spec) (lined : Lined) (w : List Shown) → AllGiven (Some A) job witness p c s lined w → AllGiven (Some B) job witness p c s lined w
    all_given_so p c s lined w h =
        let sees : Same witness = given_same witness states_limit (given.wants_states p c s h.all_read.read h.all_read.reaches) in
        record { all_read = all_read_so job same_before p c s lined h.all_read; text = h.text; has_text = has_so witness states_limit h.text sees h.has_text; says = h.says }

    calls_given_so : (before now : ℕ) (end : Status) (report : List ℕ) → CallsGiven (Some A) before now job witness end report → CallsGiven (Some B) before now job witness end report
    calls_given_so before now _ _ (calls.is_refused_given report refused) = calls.is_refused_given report (given_refusal_so before now report refused)
    calls_given_so before now _ _ (calls.is_answered_given p c s lined w end report all answers) = calls.is_answered_given p c s lined w end report (all_given_so p c s lined w all) answers

  -- ---- all that words call for

  module _ (words : List (List ℕ)) (same : (name : List ℕ) → IsWanted words (Some W) name → Same name) where
    runs_so : (before now : ℕ) (end : Status) (report : List ℕ) → Runs words (Some A) before now end report → Runs words (Some B) before now end report
    runs_so before now _ _ (in_no_form never) = in_no_form never
    runs_so before now _ _ (validates job end report form is) =
        validates job end report form (calls_so job (λ name limit wants. same name (record { command = Validate job; form = form; wants = (limit, wants) })) before now end report is)
    runs_so before now _ _ (checks job witness end report form is) =
        checks job witness end report form
        (calls_given_so job witness (λ name limit wants. same name (record { command = Check job witness; form = form; wants = (limit, wants) })) before now end report is)
    runs_so before now _ _ (tests_itself n end report form is) = tests_itself n end report form is

    asks_so : (command : Words) (name : List ℕ) → ((other : List ℕ) → AsksFor (Some W) other command → Same other) → AsksFor (Some A) name command → AsksFor (Some B) name command
    asks_so (Validate job) name tells h = (h.0, wants_so job (λ other limit wants. tells other (limit, wants)) name h.0 h.1)
    asks_so (Check job witness) name tells h = (h.0, given_wants_so job witness (λ other limit wants. tells other (limit, wants)) name h.0 h.1)
    asks_so (SelfRun n) name tells h = h

    wanted_so : (name : List ℕ) → IsWanted words (Some A) name → IsWanted words (Some B) name
    wanted_so name h = record {
      command = h.command;
      form = h.form;
      wants = asks_so h.command name (λ other asks. same other (record { command = h.command; form = h.form; wants = asks })) h.wants;
    }

-- W is the first, or the second
first_of : (A B : List File) (X : List File → Type 0) → X A → X B → X A
first_of A B X a b = a

second_of : (A B : List File) (X : List File → Type 0) → X A → X B → X B
second_of A B X a b = b

pub unasked_are_unseen : UnaskedAreUnseen
unasked_are_unseen words files others same = (
  record { calls = runs_so files others files (first_of files others) words same; asks = wanted_so files others files (first_of files others) words same },
  record {
    calls = runs_so others files files (second_of others files) words (λ name wants. sym (same name wants));
    asks = wanted_so others files files (second_of others files) words (λ name wants. sym (same name wants));
  },
)

pub read_unseen : ReadUnseen
read_unseen job files others same p c s lined all =
    all_read_so files others files (first_of files others) job (λ name limit wants. same name (limit, wants)) p c s lined all
