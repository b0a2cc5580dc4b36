-- What is answered of the branches of a line: the first of them, what they show, and what is told of each.
use Rattle.std.specs.Prelude.{◌≡◌, ◌↔◌, ℕ, Bool, false, IsTrue, List, [], ◌∷◌, length, All, Contains}
use Rattle.std.specs.List.{AllZip}
use Rattle.states_core.specs.States.{Values}
use Rattle.names_terms.specs.declared.spec.Spec.{Spec}
use Rattle.eval_meanings.specs.Contexts.{Places}
use Rattle.actions_meanings.specs.declared.which.Which.TheVariants as which
use Rattle.logs_updates.specs.declared.line.Line.{Line}
use Rattle.logs_updates.specs.declared.update.See.{See}
use Rattle.steps_lines_defs.specs.Says.{BothHold, IsState, setting}
use Rattle.steps_lines_defs.specs.Asks.{Moves, act_of}
use Rattle.actions_meanings.specs.Filled.{Completes}
use Rattle.steps_found_states.specs.Walks.{HoldsOf}
use Rattle.steps_why_branches.specs.Choices.{Choices}
use Rattle.steps_why_branches.specs.Traces.{Earlier, End, Stood, Trace, ended, passed}
use Rattle.steps_why_branches.specs.Firsts.{Firsts, IsFault}
use Rattle.steps_why_branches.specs.Told.{filled_at}
use Rattle.steps_why_branches.specs.declared.why.Ended.{Ended}
use Rattle.steps_why_branches.specs.declared.why.Why.{Why}
use Rattle.steps_why_walk.specs.Ends.{kept}
use Rattle.steps_why_not.specs.Results.{HaveResults, IsStuck}
use Rattle.steps_why_not.specs.Lines.{EndsFor, GoesThrough, IsBranch, no_update, not_seen}

-- why each of them ends, in their order
abbrev pub AreReasons : List See → List Ended → List Why → Type 0
AreReasons sees ends ws = AllZip (EndsFor sees) ends ws

-- a branch later than all of these
abbrev pub HasLater : Spec → Line → Values → List Trace → Type 0
HasLater g line s xs = (x : Trace) × GoesThrough g line s x × ((y : Trace) → Contains xs y → Earlier y x)

-- THE ANSWER: why the first branches end, in their order and at most so many, and whether there are more. Where an update has no result that is the one
-- reason.
pub data AreWhys (g : Spec) (line : Line) (s : Values) (most : ℕ) : List Why → Bool → Type 0 where
  are_stuck : (x : ℕ) → IsStuck line.updates s x → AreWhys g line s most (no_update x ∷ []) false
  are_ended : (xs : List Trace) (ws : List Why) (more : Bool) → HaveResults line.updates s → Firsts most (GoesThrough g line s) xs → AreReasons line.sees (kept xs) ws
      → (IsTrue more ↔ HasLater g line s xs) → AreWhys g line s most ws more

abbrev pub NoFault : Why → Type 0
NoFault w = ¬ IsFault w.reason

-- A list that is not cut and has no fault shows by itself that there is no step: each state that the updates, the event and Next allow extends what
-- some branch has filled that was gone through and lacks what is seen.
abbrev pub Shows : Spec → Line → Values → List Why → Bool → Type 0
Shows g line s ws more = more ≡ false → All NoFault ws → (t : Values) → IsState (length g.variables) t → Moves line.updates s t → BothHold g (act_of line.event) s t
    → (b : Choices) × ((u : Places) × Completes u t × ((x : ℕ) × IsBranch g line s b u (not_seen x)))

-- of a state that extends what is filled at the end: both hold of it, or the named part does not, unless it faults
abbrev pub EndTold : Spec → Line → Values → End → Values → Type 0
EndTold g line s (passed q) t = BothHold g (act_of line.event) s t
EndTold g line s (ended q part w) t = ¬ IsFault w.reason → ¬ HoldsOf (setting which.Action g) part.depth part.at part.term t

-- Of each state that extends what is filled where the branch ends: the updates lead to it, and each part before the named one holds of it.
pub record IsTold (g : Spec) (line : Line) (s : Values) (x : Trace) : Type 0 where
  pub moves : (t : Values) → Completes (filled_at x.end) t → IsState (length g.variables) t × Moves line.updates s t
  pub before : (part : Stood) → Contains x.before part → (t : Values) → Completes (filled_at x.end) t → HoldsOf (setting which.Action g) part.depth part.at part.term t
  pub end : (t : Values) → Completes (filled_at x.end) t → EndTold g line s x.end t

-- so of each branch
abbrev pub AreTold : Spec → Line → Values → Type 0
AreTold g line s = (x : Trace) → GoesThrough g line s x → IsTold g line s x
