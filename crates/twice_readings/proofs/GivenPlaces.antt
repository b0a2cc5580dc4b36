-- What a configuration gives stands in it, also where something is passed over: the files stay, and so does what is given.
use Rattle.std.proofs.Common.{◌≡◌, ◌∙◌, sym, ap, refl, subst, ℕ, List, [], Option, Some, Ok, inl, inr}
use Rattle.std.specs.Prelude.{All, Bool, true, false}
use Rattle.base_core.specs.Device.{File}
use Rattle.reading_trees.specs.declared.config.Config.{Config}
use Rattle.reading_trees.specs.declared.config.GivenAt.{GivenAt}
use Rattle.reading_trees.specs.declared.module.Program.{Program}
use Rattle.reading_trees.specs.declared.module.Unit.{Unit as ModuleUnit}
use Rattle.reading_trees.specs.declared.module.WholeProgram.{WholeProgram}
use Rattle.reading_laws.specs.GivenPlaces.{GivensStandBehind, IsGivenBehind}
use Rattle.reading_modules.specs.declared.notes.Noted.{Noted}
use Rattle.reading_wide_modules.specs.declared.unread.Unread.{Unread}
use Rattle.names_whole_programs.specs.Expansion.{ExpansionBy, expands, expands_with_it}
use Rattle.run_wide.specs.Passing.{Leaves, Passes, goes_on, has_many, is_whole, needed_alone, needed_alone_of_it, without_bad, without_word}
use Rattle.run_words.specs.declared.job.Job.{Job}
use Rattle.run_reading_defs.specs.Reaches.{Reaches, configured}
use Rattle.run_reading_defs.specs.Texts.{HasText, config_limit}
use Rattle.twice_readings.specs.GivenPlaces.{AcceptedGivensStand, ConfiguredGivensStand, GivensStand, all_stand, nothing_is_given}
use Rattle.twice_readings.proofs.Stages.{ConfiguredBy, WithText, WithoutText, configured_by, given_by, logged_from, resolved_by}

-- ---- what stays

expanded_files : (wide : Bool) (w : WholeProgram) (p : Program) → ExpansionBy wide w (Ok p) → p.files ≡ w.program.files
expanded_files false w _ (expands few fine) = refl
expanded_files true w _ (expands_with_it few) = refl

left_files : (p q : Program) (c : Config) (silent : Option (List ℕ)) (unread : List (Noted Unread)) (over : List ModuleUnit) → Leaves p c silent unread q over → q.files ≡ p.files
left_files p q c silent unread _ (without_bad _ over s pruned is) = pruned.without.files
left_files p q c silent unread _ (needed_alone _ over bad alone) = alone.files
left_files p q c silent unread _ (needed_alone_of_it r _ gone over fault pruned refused alone) = alone.files ∙ pruned.without.files

pub record Stays (p q : Program) (c d : Config) : Type 0 where
  pub files : q.files ≡ p.files
  pub named : d.file ≡ c.file
  pub givens : d.givens ≡ c.givens

pub passed_stays : (p q : Program) (c d : Config) (silent : Option (List ℕ)) (unread : List (Noted Unread)) (wide : Bool) → Passes p c silent unread wide q d → Stays p q c d
passed_stays p _ c _ silent unread _ without_word = record { files = refl; named = refl; givens = refl }
passed_stays p _ c _ silent unread _ (is_whole s none is) = record { files = refl; named = refl; givens = refl }
passed_stays p _ c _ silent unread _ (has_many many) = record { files = refl; named = refl; givens = refl }
passed_stays p q c _ silent unread _ (goes_on _ over lacks asked leaves) = record { files = left_files _ q c silent unread over leaves; named = refl; givens = refl }

-- ---- what is given

moved : (files others : List (List ℕ)) (name file text : List ℕ) (gs hs : List GivenAt) → others ≡ files → file ≡ name → hs ≡ gs → All (IsGivenBehind files name text) gs
    → All (IsGivenBehind others file text) hs
moved files others name file text gs hs e n g h =
    let there : All (IsGivenBehind files name text) hs = subst (All (IsGivenBehind files name text)) (sym g) h in
    let so : All (IsGivenBehind files file text) hs = subst (λ (x : List ℕ). All (IsGivenBehind files x text) hs) (sym n) there in
    subst (λ (x : List (List ℕ)). All (IsGivenBehind x file text) hs) (sym e) so

module _ (law : GivensStandBehind) (holds : Option (List File)) (job : Job) where
  with_text : (w : WholeProgram) (q : Program) (c d : Config) → q.files ≡ w.program.files → d.file ≡ c.file → d.givens ≡ c.givens → WithText holds job w c → GivensStand holds job q d
  with_text w q c d files named givens (name, text, some, has, reads) =
      let stand : (c.file ≡ name) × All (IsGivenBehind w.program.files name text) c.givens = law job.wide w.program.files name text c reads in
      let file : d.file ≡ name = named ∙ stand.0 in
      all_stand text (some ∙ ap (λ (x : List ℕ). Some x) (sym file)) (subst (λ (x : List ℕ). HasText holds x config_limit text) (sym file) has)
      (moved w.program.files q.files name d.file text c.givens d.givens files file givens stand.1)

  without_text : (q : Program) (c d : Config) → d.givens ≡ c.givens → WithoutText holds job c → GivensStand holds job q d
  without_text q c d givens (none, plain) = nothing_is_given none (givens ∙ ap (λ (x : Config). x.givens) plain)

  configured_stand : (q : Program) (d : Config) → Reaches holds job (configured q d) → GivensStand holds job q d
  configured_stand q d reaches =
      let by : ConfiguredBy holds job q d = configured_by holds job q d reaches in
      let stays : Stays by.program q by.config d = passed_stays by.program q by.config d job.silent by.unread job.wide by.passed in
      let files : q.files ≡ by.whole.program.files = stays.files ∙ expanded_files job.wide by.whole by.program by.expands in
      elim (given_by holds job by.whole by.unread by.config by.reaches).1 [
        | inl none ↦ without_text q by.config d stays.givens none
        | inr some ↦ with_text by.whole q by.config d files stays.named stays.givens some
      ]

pub configured_givens_stand : GivensStandBehind → ConfiguredGivensStand
configured_givens_stand law holds job p c reaches = configured_stand law holds job p c reaches

pub accepted_givens_stand : GivensStandBehind → AcceptedGivensStand
accepted_givens_stand law holds job p c s lined a = configured_stand law holds job p c (resolved_by holds job p c s (logged_from holds job p c s a.read [] a.reaches)).0
