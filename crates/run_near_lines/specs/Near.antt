-- Which branches of a line are near: those in which the parts at one place alone fail, or one thing that is seen alone does not stand there.
use Rattle.std.specs.Prelude.{◌≡◌, List, ◌∷◌, ◌++◌, All, Option, None, Some, slice_get}
use Rattle.base_core.specs.declared.place.Place.{Place}
use Rattle.values_core.specs.Data.{Val}
use Rattle.states_core.specs.States.{Values}
use Rattle.names_terms.specs.declared.spec.Spec.{Spec}
use Rattle.eval_meanings.specs.Contexts.{Places}
use Rattle.logs_updates.specs.Changes.{LeadsTo}
use Rattle.logs_updates.specs.declared.line.Line.{Line}
use Rattle.logs_updates.specs.Paths.{KeyPath}
use Rattle.logs_updates.specs.declared.update.See.{See}
use Rattle.steps_why_branches.specs.Traces.{Trace, passed}
use Rattle.steps_why_branches.specs.declared.sparing.Passing.TheVariants.{At}
use Rattle.steps_why_branches.specs.declared.sparing.Spared.{Spared}
use Rattle.steps_why_branches.specs.declared.sparing.Sparing.{Sparing}
use Rattle.steps_why_walk.specs.Ends.{first_spared}
use Rattle.steps_why_not.specs.Lines.{GoesThrough, GoesThroughBut, StandsIn}

-- with the parts at the place passed over where they fail
abbrev pub sparing_at : Place → Sparing
sparing_at at = record { at = At at; call = None }

-- All of the line is gone through from the state, but the parts at the place, which fail, and all that is seen stands in what is filled then, the places
-- q; w is what is kept of the first part that fails.
pub record FailsAt (g : Spec) (line : Line) (s : Values) (at : Place) (w : Spared) (q : Places) : Type 0 where
  pub branch : Trace
  pub goes : GoesThroughBut (sparing_at at) g line s branch
  pub through : branch.end ≡ passed q
  pub first : first_spared branch.spared ≡ Some w
  pub seen : All (StandsIn q) line.sees

-- of what is seen this alone does not stand in the places
pub record LacksAlone (sees : List See) (q : Places) (see : See) : Type 0 where
  pub before : List See
  pub behind : List See
  pub all : sees ≡ before ++ see ∷ behind
  pub earlier : All (StandsIn q) before
  pub lacks : ¬ StandsIn q see
  pub later : All (StandsIn q) behind

-- All of the line is gone through from the state, and of what is seen this alone does not stand in what is filled then.
pub record LacksSee (g : Spec) (line : Line) (s : Values) (see : See) (q : Places) : Type 0 where
  pub branch : Trace
  pub goes : GoesThrough g line s branch
  pub through : branch.end ≡ passed q
  pub alone : LacksAlone line.sees q see

-- the value stands at the path in the places
abbrev pub StandsAt : Places → KeyPath → Val → Type 0
StandsAt q path w = (v : Val) × (slice_get q path.variable.0 ≡ Some (Some v)) × LeadsTo path.keys v w
