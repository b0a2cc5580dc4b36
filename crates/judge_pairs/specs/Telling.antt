-- For the prover: what the functions that tell rest on, and what they answer.
use Rattle.std.specs.Prelude.{◌≡◌, ℕ, List, [], map, length, Option, Some, slice_get}
use Rattle.values_core.specs.Data.{Val}
use Rattle.states_core.specs.States.{Values}
use Rattle.names_terms.specs.Terms.{Term}
use Rattle.names_terms.specs.declared.spec.Spec.{Spec}
use Rattle.eval_meanings.specs.Contexts.{Context, Places}
use Rattle.eval_meanings.specs.Evaluates.{max_evaluations}
use Rattle.actions_meanings.specs.Forms.{Setting}
use Rattle.actions_meanings.specs.Holds.{Holds}
use Rattle.actions_meanings.specs.Fails.{Fails}
use Rattle.actions_meanings.specs.Reads.{VariableSet}
use Rattle.steps_lines_defs.specs.Says.{Act, ActFails, ActHolds, BothHold, IsState, NextFails, NextHolds}
use Rattle.steps_found_states.specs.Grounds.{Grounds}
use Rattle.judge_truth.specs.Truths.{AreStates, IsWhole, everything}
use Rattle.judge_truth.specs.declared.told.Told.{Told as Decided}
use Rattle.judge_truth.specs.declared.told.Told.TheVariants as decided
use Rattle.states_verdicts.specs.Tellings.{Tells}
use Rattle.states_verdicts.specs.declared.pairs.Told.{Told}
use Rattle.states_verdicts.specs.declared.pairs.Told.TheVariants.{Holds as Holding, Fails as Failing, Faults}
use Rattle.steps_ready_defs.specs.Ready.{IsReadyAct, IsReadySpec}
use Rattle.judge_pairs.specs.Filling.{BothFailThere}
use Rattle.judge_pairs.specs.declared.telling.Between.{Between}

-- each value of the places is the state's
abbrev pub HasAll : Places → Values → Type 0
HasAll p t = (x : ℕ) (v : Val) → slice_get p x ≡ Some (Some v) → slice_get t x ≡ Some v

-- what is decided, as it is told of pairs
abbrev pub told_of : Decided → Told
told_of decided.Holds = Holding
told_of decided.HoldsNot = Failing
told_of (decided.Faults f) = Faults f

-- what deciding rests on, with 400 evaluations inside one another
pub record CanDecide (g : Setting) (c : Context) (a : Term) : Type 0 where
  pub states : AreStates g.which c.now c.next
  pub whole : IsWhole c.next
  pub grounds : Grounds g max_evaluations [] everything c.next c a

abbrev pub IsDecided : Setting → Context → Term → Told → Type 0
IsDecided g c a r = Tells (Holds g max_evaluations c a) (Fails g max_evaluations everything c a) r

-- two states of a specification that can be asked, and their places
pub record AreBetween (g : Spec) (s t : Values) (p q : Places) : Type 0 where
  pub spec : IsReadySpec g
  pub from : IsState (length g.variables) s
  pub to : IsState (length g.variables) t
  pub before : p ≡ map Some s
  pub after : q ≡ map Some t

abbrev pub IsReadyBetween : Between → Type 0
IsReadyBetween b = AreBetween b.spec.now b.from.now b.to.now b.before.now b.after.now

-- with these slots, at the two states as places
abbrev pub standing : Between → List Val → Context
standing b vs = record { slots = vs; now = b.before.now; next = b.after.now }

-- the operator can be asked where some variables were fixed before
abbrev pub CanAct : Spec → Act → Type 0
CanAct g a = (B : VariableSet) × IsReadyAct g B a

abbrev pub CanBoth : Spec → Option Act → Type 0
CanBoth g o = (a : Act) → o ≡ Some a → CanAct g a

-- the operator of that number on arguments
abbrev pub act_at : ℕ → List Val → Act
act_at k vs = record { operator = k; arguments = vs }

abbrev pub IsNextTold : Between → Told → Type 0
IsNextTold b r = Tells (NextHolds b.spec.now b.from.now b.to.now) (NextFails b.spec.now everything b.from.now b.to.now) r

abbrev pub IsActTold : Between → Act → Told → Type 0
IsActTold b a r = Tells (ActHolds b.spec.now a b.from.now b.to.now) (ActFails b.spec.now a everything b.from.now b.to.now) r

abbrev pub IsBothTold : Between → Option Act → Told → Type 0
IsBothTold b o r = Tells (BothHold b.spec.now o b.from.now b.to.now) (BothFailThere b.spec.now o b.from.now b.to.now) r
