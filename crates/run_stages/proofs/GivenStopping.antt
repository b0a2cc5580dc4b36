-- From what each stage of `check` ensures to the first refusal of its reading.
use Rattle.std.proofs.Common.{◌≡◌, ◌≤◌, refl, sym, subst, ℕ, List, [], length, string_bytes, All, Option, Result, Ok, Err, IfOk, IfErr}
use Rattle.base_core.specs.Device.{File, Rose, Lacks, IsLonger}
use Rattle.base_core.specs.declared.reading.ReadFault.{ReadFault}
use Rattle.base_core.specs.declared.reading.ReadFault.TheVariants as fault
use Rattle.reading_trees.specs.declared.config.Config.{Config}
use Rattle.reading_trees.specs.declared.module.Program.{Program}
use Rattle.names_terms.specs.declared.spec.Spec.{Spec}
use Rattle.values_core.specs.IsValue.{IsValue}
use Rattle.states_core.specs.declared.state.Shown.{Shown}
use Rattle.steps_lines_defs.specs.Says.{IsState}
use Rattle.states_files.specs.Files.{StateFileSays}
use Rattle.states_files.specs.declared.refusal.StateRefusal.{StateRefusal}
use Rattle.run_words.specs.declared.job.Job.{Job}
use Rattle.run_texts.specs.Files.{missing_text, too_long_text}
use Rattle.run_texts.specs.GivenStates.{states_refusal}
use Rattle.run_reading_defs.specs.Texts.{HasText, LogsRead}
use Rattle.run_reading_defs.specs.Reaches.{Reaches, logged}
use Rattle.run_reading_defs.specs.Refusals as rejects
use Rattle.run_reading_defs.specs.Refusals.{IsRefusal}
use Rattle.run_reading_defs.specs.Given.{GivenWants, IsGivenRefusal, are_refused, is_missing, is_refused, is_too_long, states_limit, wants_before}
use Rattle.run_reading_defs.proofs.Later.{later_lacks, later_rose}
use Rattle.run_stages.specs.declared.stop.Stop.{Stop}
use Rattle.run_stages.specs.declared.stop.Stop.TheVariants.{Refused, Device, NoMemory}
use Rattle.run_stages.specs.Stops.{IsUnreadBy, RefusedWith, StopsBy}
use Rattle.run_stages.specs.GivenStops.{GivenStopsBy}

-- what is refused before the file of states is read
refusal_before : (holds : Option (List File)) (before now : ℕ) (job : Job) (witness report : List ℕ) → IsRefusal holds before now job report
    → IsGivenRefusal holds before now job witness report
refusal_before holds before now job witness report (rejects.is_missing name limit wants lacks) = is_missing name limit (wants_before name limit wants) lacks
refusal_before holds before now job witness report (rejects.is_too_long name limit wants longer) = is_too_long name limit (wants_before name limit wants) longer
refusal_before holds before now job witness report (rejects.is_refused stage _ reaches refused) = is_refused stage report reaches refused

pub stop_before : (holds : Option (List File)) (before now : ℕ) (job : Job) (witness : List ℕ) (stop : Stop) → StopsBy holds before now job stop
    → GivenStopsBy holds before now job witness stop
stop_before holds before now job witness (Refused report) h = refusal_before holds before now job witness (string_bytes report) h
stop_before holds before now job witness (Device name) h = (h.0, (h.1.0, wants_before name h.1.0 h.1.1))
stop_before holds before now job witness NoMemory h = tt

-- what is said at a count is said at an earlier one
later_given : (holds : Option (List File)) (a b n : ℕ) (job : Job) (witness report : List ℕ) → a ≤ b → IsGivenRefusal holds b n job witness report
    → IsGivenRefusal holds a n job witness report
later_given holds a b n job witness report le (is_missing name limit wants lacks) = is_missing name limit wants (later_lacks name holds a b n le lacks)
later_given holds a b n job witness report le (is_too_long name limit wants longer) = is_too_long name limit wants longer
later_given holds a b n job witness report le (is_refused stage _ reaches refused) = is_refused stage report reaches refused
later_given holds a b n job witness report le (are_refused p c s read text refusal reaches has says) = are_refused p c s read text refusal reaches has says

later_given_stop : (holds : Option (List File)) (a b n : ℕ) (job : Job) (witness : List ℕ) (stop : Stop) → a ≤ b → GivenStopsBy holds b n job witness stop
    → GivenStopsBy holds a n job witness stop
later_given_stop holds a b n job witness (Refused report) le h = later_given holds a b n job witness (string_bytes report) le h
later_given_stop holds a b n job witness (Device name) le h = (later_rose a b n le h.0, h.1)
later_given_stop holds a b n job witness NoMemory le h = tt

pub err_given_later : {X : Type 0} (holds other : Option (List File)) (a b n : ℕ) (job : Job) (witness : List ℕ) (r : Result X Stop) → other ≡ holds → a ≤ b
    → IfErr r (GivenStopsBy other b n job witness) → IfErr r (GivenStopsBy holds a n job witness)
err_given_later holds other a b n job witness (Ok x) e le h = tt
err_given_later holds other a b n job witness (Err stop) e le h =
    later_given_stop holds a b n job witness stop le (subst (λ (k : Option (List File)). GivenStopsBy k b n job witness stop) e h)

module _ (holds : Option (List File)) (before now : ℕ) (job : Job) (witness : List ℕ) where
  as_report : (report other : List ℕ) → report ≡ other → IsGivenRefusal holds before now job witness other → IsGivenRefusal holds before now job witness report
  as_report report other e h = subst (λ (r : List ℕ). IsGivenRefusal holds before now job witness r) (sym e) h

  -- the file that is read next is not read
  pub given_unread : (name : List ℕ) (limit : ℕ) (f : ReadFault) (stop : Stop) → GivenWants holds job witness name limit → (f ≡ fault.Missing → Lacks name holds before now)
      → (f ≡ fault.TooLong → IsLonger name holds limit) → (f ≡ fault.Failed → Rose before now) → IsUnreadBy f name stop → GivenStopsBy holds before now job witness stop
  given_unread name limit fault.Missing (Refused report) wants lacks longer rose h = as_report (string_bytes report) (missing_text name) h (is_missing name limit wants (lacks refl))
  given_unread name limit fault.Missing (Device file) wants lacks longer rose h = absurd h
  given_unread name limit fault.Missing NoMemory wants lacks longer rose h = tt
  given_unread name limit fault.TooLong (Refused report) wants lacks longer rose h = as_report (string_bytes report) (too_long_text name) h (is_too_long name limit wants (longer refl))
  given_unread name limit fault.TooLong (Device file) wants lacks longer rose h = absurd h
  given_unread name limit fault.TooLong NoMemory wants lacks longer rose h = tt
  given_unread name limit fault.Failed (Refused report) wants lacks longer rose h = absurd h
  given_unread name limit fault.Failed (Device file) wants lacks longer rose h =
      (rose refl, (limit, subst (λ (n : List ℕ). GivenWants holds job witness n limit) (sym h) wants))
  given_unread name limit fault.Failed NoMemory wants lacks longer rose h = tt
  given_unread name limit fault.NoMemory (Refused report) wants lacks longer rose h = absurd h
  given_unread name limit fault.NoMemory (Device file) wants lacks longer rose h = absurd h
  given_unread name limit fault.NoMemory NoMemory wants lacks longer rose h = tt

  -- the text of the file of states is refused
  pub states_stop : (p : Program) (c : Config) (s : Spec) (read : LogsRead) (text : List ℕ) (stop : Stop) → Reaches holds job (logged p c s read [])
      → HasText holds witness states_limit text
      → RefusedWith (λ report. (refusal : StateRefusal) × StateFileSays s.variables text (Err refusal) × (report ≡ states_refusal witness refusal)) stop
      → GivenStopsBy holds before now job witness stop
  states_stop p c s read text (Refused report) reaches has h =
      as_report (string_bytes report) (states_refusal witness h.0) h.2 (are_refused p c s read text h.0 reaches has h.1)
  states_stop p c s read text (Device file) reaches has h = absurd h
  states_stop p c s read text NoMemory reaches has h = tt

-- as many values as variables
pub are_states : (n : ℕ) (r : Result (List Shown) StateRefusal) → IfOk r (λ w. All (λ x. length x.state ≡ n) w) → IfOk r (λ w. All (λ x. All IsValue x.state) w)
    → IfOk r (λ w. All (λ x. IsState n x.state) w)
are_states n (Ok w) long values = λ k d l. record { long = long k d l; values = values k d l }
are_states n (Err refusal) long values = tt
