-- What is read of files is read of them with the library behind them.
use Rattle.std.proofs.Common.{◌≡◌, ◌∙◌, ℕ, List, Option, Some, None, refl, sym, subst}
use Rattle.base_core.specs.Device.{File, found}
use Rattle.reading_trees.specs.declared.config.Config.{Config}
use Rattle.reading_trees.specs.declared.module.Program.{Program}
use Rattle.states_core.specs.declared.state.Shown.{Shown}
use Rattle.names_terms.specs.declared.spec.Spec.{Spec}
use Rattle.logs_tied.specs.declared.logs.Lined.{Lined}
use Rattle.run_words.specs.declared.job.Job.{Job}
use Rattle.run_words.specs.declared.job.Words.TheVariants.{Check, Validate}
use Rattle.run_words.specs.Words.{OneCommand}
use Rattle.run_texts.specs.Files.{missing_text}
use Rattle.run_reading_defs.specs.Given.{AllGiven}
use Rattle.run_reading_defs.specs.Reaches.{AllRead}
use Rattle.run_reading_defs.specs.Refusals.{is_missing}
use Rattle.run_call.specs.Run.{AsksFor}
use Rattle.twice_readings.specs.NotRefused.{ReadNotRefused}
use Rattle.twice_readings.specs.Readings.{GivenStaysWide, StrictStaysWide}
use Rattle.twice_calls.specs.Unseen.{ReadUnseen}
use Rattle.run_library.specs.Behind.{files_behind}
use Rattle.run_library.proofs.Serving.{stays}
use Rattle.twice_calls.specs.Library.{AcceptedStays, GivenStays, LibraryIsUnseen}
use Rattle.twice_calls.proofs.Places.{command_folder, none_without}

-- What is known of reading.
pub record Known : Type 0 where
  pub command : OneCommand
  pub unseen : ReadUnseen
  pub refused : ReadNotRefused
  pub stays_wide : StrictStaysWide
  pub given_wide : GivenStaysWide

module _ (known : Known) where
  -- a file that a job asks for is there, where all is read; so it is told the same with the library behind
  asked_same : (folder : Option (List ℕ)) (files : List File) (job : Job) (p : Program) (c : Config) (s : Spec) (lined : Lined) → AllRead (Some files) job p c s lined
      → (name : List ℕ) → AsksFor (Some files) name (Validate job) → (o : Option (List ℕ)) → found name files ≡ o → found name (files_behind folder files) ≡ found name files
  asked_same folder files job p c s lined all name asks (Some bytes) is = stays name bytes folder files is ∙ sym is
  asked_same folder files job p c s lined all name asks None is =
      absurd (known.refused files 0 0 job p c s lined (missing_text name) all (is_missing name asks.0 asks.1 is))

  pub library_unseen : LibraryIsUnseen
  library_unseen folder files job p c s lined all =
      known.unseen job files (files_behind folder files) (λ name asks. asked_same folder files job p c s lined all name asks (found name files) refl) p c s lined all

  given_unseen : (folder : Option (List ℕ)) (files : List File) (job : Job) (witness : List ℕ) (p : Program) (c : Config) (s : Spec) (lined : Lined) (w : List Shown)
      → AllGiven (Some files) job witness p c s lined w → AllGiven (Some (files_behind folder files)) job witness p c s lined w
  given_unseen folder files job witness p c s lined w h = record {
    all_read = library_unseen folder files job p c s lined h.all_read;
    text = h.text;
    has_text = record { whole = stays witness h.text folder files h.has_text.whole; short = h.has_text.short };
    says = h.says;
  }

  pub accepted_stays : AcceptedStays
  accepted_stays words again job files folder other are more plain at_first at_second p c s lined all =
      let none : folder ≡ None = none_without job folder plain (command_folder known.command words (Validate job) folder are at_first) in
      let own : AllRead (Some files) job p c s lined = subst (λ (f : Option (List ℕ)). AllRead (Some (files_behind f files)) job p c s lined) none all in
      known.stays_wide (Some (files_behind other files)) job p c s lined plain (library_unseen other files job p c s lined own)

  pub given_stays : GivenStays
  given_stays words again job witness files folder other are more plain at_first at_second p c s lined w all =
      let none : folder ≡ None = none_without job folder plain (command_folder known.command words (Check job witness) folder are at_first) in
      let own : AllGiven (Some files) job witness p c s lined w = subst (λ (f : Option (List ℕ)). AllGiven (Some (files_behind f files)) job witness p c s lined w) none all in
      known.given_wide (Some (files_behind other files)) job witness p c s lined w plain (given_unseen other files job witness p c s lined w own)
