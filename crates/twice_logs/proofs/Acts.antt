-- Operators and Next hold and fail over the one specification as over the other.
use Rattle.std.proofs.Common.{◌≡◌, ap, inl, inr, refl, subst, List, [], length}
use Rattle.std.specs.Prelude.{ℕ, Option, Some, None, slice_get}
use Rattle.values_core.specs.Data.{Val}
use Rattle.states_core.specs.States.{Values}
use Rattle.states_core.specs.declared.fault.Fault.{Fault}
use Rattle.names_terms.specs.declared.ids.DefId.{DefId}
use Rattle.names_terms.specs.declared.operator.Operator.{Operator}
use Rattle.names_terms.specs.declared.spec.Spec.{Spec}
use Rattle.names_terms.specs.Terms.{Term}
use Rattle.eval_meanings.specs.Evaluates.{max_evaluations}
use Rattle.names_term_parts.specs.Slots.{UsesSmaller}
use Rattle.actions_meanings.specs.declared.which.Which.{Which}
use Rattle.actions_meanings.specs.declared.which.Which.TheVariants as which
use Rattle.actions_meanings.specs.Reads.{VariableSet}
use Rattle.logs_updates.specs.declared.line.Event.{Event}
use Rattle.steps_lines_defs.specs.Says.{Act, ActFails, ActFixes, ActHolds, BothFail, BothHold, InitFails, InitHolds, IsState, NextFails, NextHolds, at_states, setting}
use Rattle.steps_lines_defs.specs.Asks.{HasNoEvent, act_of}
use Rattle.steps_lines_defs.specs.Steps.{FaultFirst, FaultSilent, IsInitial, Silent, silent_act}
use Rattle.judge_truth.specs.Truths.{everything}
use Rattle.judge_pairs.specs.Filling.{BothFailThere}
use Rattle.twice_terms.specs.Alike.{Alike, AlikeRows}
use Rattle.twice_terms.specs.Laws.{AreOne}
use Rattle.twice_terms.proofs.Inverted.{row_is}
use Rattle.twice_tables.specs.Outcome.{AreAlike, AlikeSilent, none_silent, both_silent}
use Rattle.twice_outcomes.specs.AlikeSettings.{AreAlikeSettings}
use Rattle.twice_outcomes.specs.Actions.{FailsAlike, FixesAlike, HoldsAlike}
use Rattle.twice_logs.specs.AlikeLogs.{AlikeEvents, no_event, both_events}

-- the operators are alike and have the same arguments, or there is none on either side
pub data AlikeActs (ops all : List Operator) : Option Act → Option Act → Type 0 where
  no_act : AlikeActs ops all None None
  both_act : (k j : ℕ) (args : List Val) → AlikeRows AreOne ops all k j
      → AlikeActs ops all (Some (record { operator = k; arguments = args })) (Some (record { operator = j; arguments = args }))

-- the one definition, and the other that is alike
pub record AreFoundBodies (ops all : List Operator) (k j : ℕ) (e : Term) : Type 0 where
  pub found : Operator
  pub at : slice_get all j ≡ Some found
  pub bodies : Alike AreOne ops all e found.body

module _ (ops all : List Operator) where
  pub events_acts : (e f : Option Event) → AlikeEvents ops all e f → AlikeActs ops all (act_of e) (act_of f)
  events_acts _ _ no_event = no_act
  events_acts _ _ (both_events k j args r) = both_act k j args r

  pub no_events : (e f : Option Event) → AlikeEvents ops all e f → HasNoEvent e → HasNoEvent f
  no_events _ _ no_event h = h
  no_events _ _ (both_events k j args r) h = absurd h

  pub silent_acts : (a b : Option DefId) → AlikeSilent ops all a b → AlikeActs ops all (silent_act a) (silent_act b)
  silent_acts _ _ none_silent = no_act
  silent_acts _ _ (both_silent k j r) = both_act k.0 j.0 [] r

  found_bodies : (k j : ℕ) (o : Operator) → AlikeRows AreOne ops all k j → slice_get ops k ≡ Some o → AreFoundBodies ops all k j o.body
  found_bodies k j o row e = let r = row_is AreOne ops all k j o row e in record { found = r.0; at = r.1; bodies = r.2.body }

-- what is asked for of two specifications
pub record AreOver (s t : Spec) : Type 0 where
  pub specs : AreAlike s t
  pub smaller : UsesSmaller s.operators
  pub smaller_other : UsesSmaller t.operators

-- what is known of actions over tables that are alike
pub record ActionsAlike : Type 0 where
  pub holds : HoldsAlike
  pub fails : FailsAlike
  pub fixes : FixesAlike

module _ (laws : ActionsAlike) (s t : Spec) (over : AreOver s t) where
  abbrev AreSame : Term → Term → Type 0
  AreSame e f = Alike AreOne s.operators t.operators e f

  settings : (w : Which) → AreAlikeSettings (setting w s) (setting w t)
  settings w = record { which = refl; variables = ap (λ vs. length vs) over.specs.variables; smaller = over.smaller; smaller_other = over.smaller_other }

  pub is_state : (u : Values) → IsState (length s.variables) u → IsState (length t.variables) u
  is_state u h = subst (λ (n : ℕ). IsState n u) (ap (λ vs. length vs) over.specs.variables) h

  init_holds : (u : Values) → InitHolds s u → InitHolds t u
  init_holds u h = laws.holds (setting which.Init s) (setting which.Init t) (settings which.Init) max_evaluations (at_states [] u u) s.init t.init over.specs.init h

  init_fails : (B : VariableSet) (u : Values) (f : Fault) → InitFails s B u f → InitFails t B u f
  init_fails B u f h = laws.fails (setting which.Init s) (setting which.Init t) (settings which.Init) max_evaluations B (at_states [] u u) s.init t.init f over.specs.init h

  next_holds : (u v : Values) → NextHolds s u v → NextHolds t u v
  next_holds u v h = laws.holds (setting which.Action s) (setting which.Action t) (settings which.Action) max_evaluations (at_states [] u v) s.next t.next over.specs.next h

  next_fails : (B : VariableSet) (u v : Values) (f : Fault) → NextFails s B u v f → NextFails t B u v f
  next_fails B u v f h =
      laws.fails (setting which.Action s) (setting which.Action t) (settings which.Action) max_evaluations B (at_states [] u v) s.next t.next f over.specs.next h

  act_holds : (k j : ℕ) (args : List Val) (u v : Values) → AlikeRows AreOne s.operators t.operators k j
      → ActHolds s (record { operator = k; arguments = args }) u v → ActHolds t (record { operator = j; arguments = args }) u v
  act_holds k j args u v r h =
      let b : AreFoundBodies s.operators t.operators k j h.0.body = found_bodies s.operators t.operators k j h.0 r h.1 in
      (b.found, b.at, laws.holds (setting which.Action s) (setting which.Action t) (settings which.Action) max_evaluations (at_states args u v) h.0.body b.found.body b.bodies h.2)

  act_fails : (k j : ℕ) (args : List Val) (B : VariableSet) (u v : Values) (f : Fault) → AlikeRows AreOne s.operators t.operators k j
      → ActFails s (record { operator = k; arguments = args }) B u v f → ActFails t (record { operator = j; arguments = args }) B u v f
  act_fails k j args B u v f r h =
      let b : AreFoundBodies s.operators t.operators k j h.0.body = found_bodies s.operators t.operators k j h.0 r h.1 in
      (b.found, b.at, laws.fails (setting which.Action s) (setting which.Action t) (settings which.Action) max_evaluations B (at_states args u v) h.0.body b.found.body f b.bodies h.2)

  act_fixes : (k j : ℕ) (args : List Val) (B C : VariableSet) → AlikeRows AreOne s.operators t.operators k j
      → ActFixes s (record { operator = k; arguments = args }) B C → ActFixes t (record { operator = j; arguments = args }) B C
  act_fixes k j args B C r h =
      let b : AreFoundBodies s.operators t.operators k j h.0.body = found_bodies s.operators t.operators k j h.0 r h.1 in
      (b.found, b.at, laws.fixes (setting which.Action s) (setting which.Action t) (settings which.Action) h.0.body b.found.body b.bodies B C h.2)

  pub both_hold : (a b : Option Act) (u v : Values) → AlikeActs s.operators t.operators a b → BothHold s a u v → BothHold t b u v
  both_hold _ _ u v no_act h = next_holds u v h
  both_hold _ _ u v (both_act k j args r) h = (act_holds k j args u v r h.0, next_holds u v h.1)

  pub both_fail : (a b : Option Act) (B : VariableSet) (u v : Values) (f : Fault) → AlikeActs s.operators t.operators a b → BothFail s a B u v f → BothFail t b B u v f
  both_fail _ _ B u v f no_act h = next_fails B u v f h
  both_fail _ _ B u v f (both_act k j args r) (inl h) = inl (act_fails k j args B u v f r h)
  both_fail _ _ B u v f (both_act k j args r) (inr h) = inr (act_holds k j args u v r h.0, (h.1.0, act_fixes k j args B h.1.0 r h.1.1, next_fails h.1.0 u v f h.1.2))

  pub both_fail_there : (a b : Option Act) (u v : Values) (f : Fault) → AlikeActs s.operators t.operators a b → BothFailThere s a u v f → BothFailThere t b u v f
  both_fail_there _ _ u v f no_act h = next_fails everything u v f h
  both_fail_there _ _ u v f (both_act k j args r) (inl h) = inl (act_fails k j args everything u v f r h)
  both_fail_there _ _ u v f (both_act k j args r) (inr h) = inr (act_holds k j args u v r h.0, next_fails everything u v f h.1)

  silents : AlikeActs s.operators t.operators (silent_act s.silent) (silent_act t.silent)
  silents = silent_acts s.operators t.operators s.silent t.silent over.specs.silent

  pub silent_same : (u v : Values) → Silent s u v → Silent t u v
  silent_same u v h = (is_state v h.0, both_hold (silent_act s.silent) (silent_act t.silent) u v silents h.1)

  pub fault_silent : (B : VariableSet) (u v : Values) (f : Fault) → FaultSilent s B u v f → FaultSilent t B u v f
  fault_silent B u v f h = (is_state v h.0, both_fail (silent_act s.silent) (silent_act t.silent) B u v f silents h.1)

  pub fault_silent_there : (u v : Values) (f : Fault) → IsState (length s.variables) v × BothFailThere s (silent_act s.silent) u v f
      → IsState (length t.variables) v × BothFailThere t (silent_act t.silent) u v f
  fault_silent_there u v f h = (is_state v h.0, both_fail_there (silent_act s.silent) (silent_act t.silent) u v f silents h.1)

  pub initial_same : (u : Values) → IsInitial s u → IsInitial t u
  initial_same u h = (is_state u h.0, init_holds u h.1)

  pub fault_first : (B : VariableSet) (u : Values) (f : Fault) → FaultFirst s B u f → FaultFirst t B u f
  fault_first B u f h = (is_state u h.0, init_fails B u f h.1)
