-- What is accepted is not refused.
use Rattle.std.proofs.Common.{◌≡◌, ℕ, List, [], Some, Result, Ok, Err, refl, sym, ◌∙◌, subst}
use Rattle.base_core.specs.Device.{File}
use Rattle.reading_trees.specs.declared.config.Config.{Config}
use Rattle.reading_trees.specs.declared.module.Program.{Program}
use Rattle.states_core.specs.declared.state.Shown.{Shown}
use Rattle.names_terms.specs.declared.spec.Spec.{Spec}
use Rattle.twice_tables.specs.Outcome.{AreAlike}
use Rattle.logs_tied.specs.declared.logs.Lined.{Lined}
use Rattle.states_files.specs.Files.{StateFileSays}
use Rattle.states_files.specs.declared.refusal.StateRefusal.{StateRefusal}
use Rattle.run_words.specs.declared.job.Job.{Job}
use Rattle.run_reading_defs.specs.Texts.{HasText, LogsRead}
use Rattle.run_reading_defs.specs.Reaches.{Reaches, logged}
use Rattle.run_reading_defs.specs.Given.{AllGiven, GivenWants, IsGivenRefusal, are_refused, is_missing, is_refused, is_too_long, states_limit, wants_before, wants_states}
use Rattle.twice_readings.proofs.SameLogs.{one_text}
use Rattle.twice_readings.proofs.Stages.{logged_from}
use Rattle.twice_readings.specs.NotRefused.{GivenNotRefused, ReadNotRefused}
use Rattle.twice_readings.proofs.Refused.{IsThere, Known, alike_to, refused_never, sought_there, text_not_refused, there_of}

pub read_not_refused : Known → ReadNotRefused
read_not_refused known files before now job p c s lined report a refusal = refused_never known files job p c s a.read a.reaches before now report refusal

ok_no_err : {A E : Type 0} (a : A) (e : E) (r q : Result A E) → r ≡ Ok a → q ≡ Err e → r ≡ q → ⊥
ok_no_err a e r q h k same = let there : Ok a ≡ Err e = sym h ∙ same ∙ k in cc

module _ (known : Known) (files : List File) (job : Job) (witness : List ℕ) (p : Program) (c : Config) (s : Spec) (lined : Lined) (w : List Shown) (a : AllGiven (Some files) job witness p c s lined w) where
  states_there : (name : List ℕ) (limit : ℕ) → GivenWants (Some files) job witness name limit → IsThere files name limit
  states_there _ _ (wants_before name limit wants) =
      sought_there known files job p c s a.all_read.read a.all_read.reaches wants.stage name limit wants.reaches wants.is_next
  states_there _ _ (wants_states q d t read reaches) = there_of files witness states_limit a.text a.has_text

  states_accepted : (q : Program) (d : Config) (t : Spec) (read : LogsRead) (text : List ℕ) (refusal : StateRefusal) → Reaches (Some files) job (logged q d t read [])
      → HasText (Some files) witness states_limit text → StateFileSays t.variables text (Err refusal) → ⊥
  states_accepted q d t read text refusal reaches has says =
      let alike : AreAlike s t = alike_to known files job p c s a.all_read.read a.all_read.reaches q d t (logged_from (Some files) job q d t read [] reaches) in
      let texts : text ≡ a.text = one_text files witness witness states_limit states_limit text a.text refl has a.has_text in
      let names : StateFileSays s.variables text (Err refusal) = subst (λ (x : List (List ℕ)). StateFileSays x text (Err refusal)) (sym alike.variables) says in
      let there : StateFileSays s.variables a.text (Err refusal) = subst (λ (x : List ℕ). StateFileSays s.variables x (Err refusal)) texts names in
      ok_no_err w refusal (Ok w) (Err refusal) refl refl (known.parts.states s.variables a.text (Ok w) (Err refusal) a.says there)

  given_never : (before now : ℕ) (report : List ℕ) → IsGivenRefusal (Some files) before now job witness report → ⊥
  given_never before now _ (is_missing name limit wants lacks) = (states_there name limit wants).found_there lacks
  given_never before now _ (is_too_long name limit wants long) = (states_there name limit wants).short long
  given_never before now _ (is_refused stage report reaches rejects) = text_not_refused known files job p c s a.all_read.read a.all_read.reaches stage report reaches rejects
  given_never before now _ (are_refused q d t read text refusal reaches has says) = states_accepted q d t read text refusal reaches has says

pub given_not_refused : Known → GivenNotRefused
given_not_refused known files before now job witness p c s lined w report a refusal = given_never known files job witness p c s lined w a before now report refusal
