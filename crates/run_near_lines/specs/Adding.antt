-- For the prover: what the functions below the report give.
use Rattle.std.specs.Prelude.{◌≡◌, ◌↔◌, ℕ, List, [], ◌∷◌, All, Any, Contains, take, Option, Some, None}
use Rattle.std.specs.Ordering.{nat_cmp}
use Rattle.std.specs.Cmp.Lexicographic.{slice_cmp}
use Rattle.std.specs.BTreeSet.{insert_key}
use Rattle.values_core.specs.Data.{Val}
use Rattle.states_core.specs.States.{Values}
use Rattle.names_terms.specs.declared.spec.Spec.{Spec}
use Rattle.eval_meanings.specs.Contexts.{Places}
use Rattle.logs_updates.specs.Changes.{Finds}
use Rattle.logs_updates.specs.declared.line.Line.{Line}
use Rattle.logs_updates.specs.declared.update.See.{See}
use Rattle.actions_meanings.specs.Filled.{Completes}
use Rattle.run_texts.specs.Answers.{Named}
use Rattle.steps_why_branches.specs.Traces.{Trace}
use Rattle.steps_why_branches.specs.declared.sparing.Passing.TheVariants.{OnePlace}
use Rattle.steps_why_branches.specs.declared.sparing.Spared.{Spared}
use Rattle.steps_why_branches.specs.declared.sparing.Sparing.{Sparing}
use Rattle.steps_why_branches.specs.declared.why.Ended.{Ended}
use Rattle.steps_why_branches.specs.declared.why.Ended.TheVariants.{Ends, Passed}
use Rattle.steps_why_walk.specs.Ends.{end_of}
use Rattle.steps_why_not.specs.Lines.{GoesThroughBut, StandsIn}
use Rattle.run_near_lines.specs.Near.{LacksAlone, StandsAt}
use Rattle.run_near_lines.specs.Texts.{spared_text, unseen_text}

-- x is so, and nothing else is
pub record IsOnly {A : Type 0} (P : A → Type 0) (x : A) : Type 0 where
  pub is : P x
  pub alone : (y : A) → P y → y ≡ x

-- a text more, at its place in the order
abbrev pub with_text : List (List ℕ) → List ℕ → List (List ℕ)
with_text ts t = insert_key (slice_cmp nat_cmp) ts t

abbrev pub with_texts : List (List ℕ) → List (List ℕ) → List (List ℕ)
with_texts ts [] = ts
with_texts ts (u ∷ us) = with_texts (with_text ts u) us

-- of the texts that stood there and those that are so the first k are left
pub record Adds (k : ℕ) (P : List ℕ → Type 0) (old new : List (List ℕ)) : Type 0 where
  pub texts : List (List ℕ)
  pub are : (t : List ℕ) → Contains texts t ↔ P t
  pub left : new ≡ take k (with_texts old texts)

-- with the parts at one place passed over, whichever that is
abbrev pub sparing_one : Sparing
sparing_one = record { at = OnePlace; call = None }

-- these are the ends of all branches of the line from the state
abbrev pub AreAllEnds : Sparing → Spec → Line → Values → List Ended → Type 0
AreAllEnds sp g line s ends = (n : Ended) → Contains ends n ↔ ((x : Trace) × GoesThroughBut sp g line s x × (end_of x ≡ n))

-- some state extends what is filled at each end that was gone through
abbrev pub EndsReached : List Ended → Type 0
EndsReached ends = (q : Places) (o : Option Spared) → Contains ends (Passed q o) → (t : Values) × Completes q t

-- the text tells of what was passed over, where nothing that is seen is lacking
abbrev pub FailedSays : Spec → Line → Named → Places → Spared → List ℕ → Type 0
FailedSays g line l q w t = All (StandsIn q) line.sees × (t ≡ spared_text g l line.at w q)

-- the text tells of what is seen and alone is lacking in the places
pub record LackingSays (line : Line) (l : Named) (q : Places) (t : List ℕ) : Type 0 where
  pub see : See
  pub alone : LacksAlone line.sees q see
  pub stands : Option Val
  pub found : Finds (StandsAt q see.path) stands
  pub is : t ≡ unseen_text l line.at see stands

-- where a branch was gone through: of what was passed over in it first, or where nothing was, of what is seen and alone is lacking
abbrev pub PassedSays : Spec → Line → Named → Places → Option Spared → List ℕ → Type 0
PassedSays g line l q (Some w) t = FailedSays g line l q w t
PassedSays g line l q None t = LackingSays line l q t

abbrev pub NearSays : Spec → Line → Named → Ended → List ℕ → Type 0
NearSays g line l (Passed q o) t = PassedSays g line l q o t
NearSays g line l (Ends w) t = ⊥

-- the text is told of one of these
abbrev pub OneSays : {A : Type 0} → (A → List ℕ → Type 0) → List A → List ℕ → Type 0
OneSays P xs t = Any (λ x. P x t) xs
