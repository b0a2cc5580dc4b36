-- What is told of the near lines of a line: which they are, in which order, and how many.
use Rattle.std.specs.Prelude.{◌≡◌, ◌↔◌, ◌⊎◌, ℕ, List, Any, Contains, Option, Some}
use Rattle.std.specs.List.Sorted.{IsStrictlySortedBy}
use Rattle.std.specs.Ordering.{nat_cmp}
use Rattle.std.specs.Cmp.Lexicographic.{slice_cmp}
use Rattle.base_core.specs.declared.place.Place.{Place}
use Rattle.values_core.specs.Data.{Val}
use Rattle.states_core.specs.States.{Values}
use Rattle.names_terms.specs.declared.spec.Spec.{Spec}
use Rattle.eval_meanings.specs.Contexts.{Places}
use Rattle.logs_updates.specs.Changes.{Finds}
use Rattle.logs_updates.specs.declared.line.Line.{Line}
use Rattle.logs_updates.specs.declared.update.See.{See}
use Rattle.run_texts.specs.Answers.{Named}
use Rattle.steps_why_branches.specs.declared.sparing.Spared.{Spared}
use Rattle.run_near_lines.specs.Near.{FailsAt, LacksSee, StandsAt}
use Rattle.run_near_lines.specs.Texts.{near_told, spared_text, unseen_text}

-- the text tells of the parts at the place, which alone fail
pub record TellsFailed (g : Spec) (line : Line) (l : Named) (s : Values) (at : Place) (text : List ℕ) : Type 0 where
  pub part : Spared
  pub filled : Places
  pub fails : FailsAt g line s at part filled
  pub is : text ≡ spared_text g l line.at part filled

-- the text tells of what is seen and alone does not stand there, with what stands at its path, if anything does
pub record TellsUnseen (g : Spec) (line : Line) (l : Named) (s : Values) (text : List ℕ) : Type 0 where
  pub see : See
  pub filled : Places
  pub lacks : LacksSee g line s see filled
  pub stands : Option Val
  pub found : Finds (StandsAt filled see.path) stands
  pub is : text ≡ unseen_text l line.at see stands

-- THE NEAR LINES of a line from a state
abbrev pub IsNearLine : Spec → Line → Named → Values → List ℕ → Type 0
IsNearLine g line l s text = ((at : Place) × TellsFailed g line l s at text) ⊎ TellsUnseen g line l s text

-- What is told of a line that should lead on from these entries: the near lines from all of them, each once and in ascending order of their bytes; the
-- first so many, and that there are more.
pub record TellsNear (g : Spec) (line : Line) (l : Named) (most : ℕ) (entries : List Values) (text : List ℕ) : Type 0 where
  pub lines : List (List ℕ)
  pub ascend : IsStrictlySortedBy (slice_cmp nat_cmp) lines
  pub are : (t : List ℕ) → Contains lines t ↔ Any (λ s. IsNearLine g line l s t) entries
  pub told : text ≡ near_told most lines
