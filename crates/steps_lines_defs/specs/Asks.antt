-- What a line of a log asks of two states.
use Rattle.std.specs.Prelude.{◌≡◌, ℕ, Bool, true, ◌==◌, List, [], ◌∷◌, All, filter, Option, Some, None, slice_get, length}
use Rattle.values_core.specs.Data.{Val}
use Rattle.states_core.specs.States.{Values}
use Rattle.states_core.specs.declared.fault.Fault.{Fault}
use Rattle.names_terms.specs.declared.spec.Spec.{Spec}
use Rattle.actions_meanings.specs.Reads.{VariableSet, in_none, united}
use Rattle.logs_updates.specs.Changes.{ApplyAll, LeadsTo}
use Rattle.logs_updates.specs.declared.line.Event.{Event}
use Rattle.logs_updates.specs.declared.line.Line.{Line}
use Rattle.logs_updates.specs.declared.update.See.{See}
use Rattle.logs_updates.specs.declared.update.Update.{Update}
use Rattle.steps_lines_defs.specs.Says.{Act, BothHold, BothFail, IsState}

abbrev pub is_of : ℕ → Update → Bool
is_of x u = u.path.variable.0 == x

-- the updates of one variable, in their order
abbrev pub updates_of : ℕ → List Update → List Update
updates_of x us = filter (is_of x) us

-- the variables that updates change
abbrev pub updated : List Update → VariableSet
updated [] = in_none
updated (u ∷ us) = united (λ x. is_of x u) (updated us)

-- the variable's next value is what its updates make of its value, one after the other
abbrev pub MovesAt : List Update → Values → Values → ℕ → Type 0
MovesAt us s t x = (v w : Val) × (slice_get s x ≡ Some v) × (slice_get t x ≡ Some w) × ApplyAll (updates_of x us) v w

abbrev pub Moves : List Update → Values → Values → Type 0
Moves us s t = (x : ℕ) → updated us x ≡ true → MovesAt us s t x

-- what is seen stands at its path
abbrev pub IsSeen : Values → See → Type 0
IsSeen t see = (v : Val) × (slice_get t see.path.variable.0 ≡ Some v) × LeadsTo see.path.keys v see.value

abbrev pub AreSeen : List See → Values → Type 0
AreSeen sees t = All (IsSeen t) sees

abbrev pub act_of : Option Event → Option Act
act_of None = None
act_of (Some e) = Some (record { operator = e.operator; arguments = e.args })

abbrev pub HasNoEvent : Option Event → Type 0
HasNoEvent None = Unit {0}
HasNoEvent (Some e) = ⊥

pub record LineAsks : Type 1 where
  -- what the states are that its step may lead to
  pub States : Values → Type 0
  -- its updates lead from the one state to the other
  pub Moves : Values → Values → Type 0
  -- its event's operator holds, where it has one, and Next
  pub Acts : Values → Values → Type 0
  -- what it sees holds after the step
  pub Shows : Values → Type 0
  -- the state may stay as it is in its step
  pub Stutters : Type 0
  -- what its updates fix
  pub fixed : VariableSet
  -- the faults of its operator and of Next, where these variables were fixed before
  pub Fails : VariableSet → Values → Values → Fault → Type 0

-- what a line asks under a specification, where a line without an event may stutter or may not
abbrev pub asks : Spec → Bool → Line → LineAsks
asks g stutter line = record {
  States = IsState (length g.variables);
  Moves = Moves line.updates;
  Acts = BothHold g (act_of line.event);
  Shows = AreSeen line.sees;
  Stutters = (stutter ≡ true) × HasNoEvent line.event;
  fixed = updated line.updates;
  Fails = BothFail g (act_of line.event);
}
