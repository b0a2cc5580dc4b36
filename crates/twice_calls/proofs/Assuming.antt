-- Two truth values of one assumption are one.
use Rattle.std.proofs.Common.{◌≡◌, ◌∙◌, sym, subst, List, [], ◌∷◌}
use Rattle.std.specs.Prelude.{ℕ, zero, suc, Bool, true, false, All, Some, Result, Ok, Err, slice_get}
use Rattle.std.proofs.lemmas.List.Elements.{All-head, All-tail}
use Rattle.names_term_parts.proofs.Contained.{contains_nothing}
use Rattle.base_core.specs.declared.place.Place.{Place}
use Rattle.states_core.specs.declared.fault.Fault.{Fault}
use Rattle.names_terms.specs.declared.spec.Spec.{Spec}
use Rattle.names_terms.specs.Lists.{terms_list}
use Rattle.names_terms.specs.Terms.{Term, place_of}
use Rattle.eval_meanings.specs.Contexts.{Context}
use Rattle.eval_meanings.specs.Evaluates.{Evaluates, max_evaluations}
use Rattle.eval_meanings.specs.Laws.{HasOneOutcome, KnowsValues, ReadsValues}
use Rattle.eval_meanings.specs.Outcomes.{truth_at}
use Rattle.eval_meanings.specs.Unchanged.{TruthOf}
use Rattle.eval_meanings.proofs.AtMostOne.{One, one_then, one_truth_at}
use Rattle.logs_updates.specs.declared.line.Log.{Log}
use Rattle.steps_lines_defs.specs.Says.{at_states}
use Rattle.steps_lines_defs.specs.Logs.{Asked, Assumption, system}
use Rattle.states_layers.specs.Answers.{AllAssumed, IsAssumeFalse, IsAssumeFault, fault}
use Rattle.states_layers.specs.Says.{IsUnassumed}
use Rattle.states_layers.specs.declared.answer.Answer.{Answer}
use Rattle.states_layers.specs.declared.answer.Answer.TheVariants.{Explained, NotExplained, NoInitial, InitFault, Fault as StateFault, AssumeFault, AssumeFalse, LayerLimit, TotalLimit}
use Rattle.eval_known.specs.Known.{KnowBodies}
use Rattle.twice_calls.specs.Assumption.{AssumedAreNotUnassumed, KnowAssumptions}

some_one : {A : Type 0} {a b : A} → Some a ≡ Some b → a ≡ b
some_one e = cc

all_at : {A : Type 0} (P : A → Type 0) (xs : List A) (k : ℕ) (x : A) → All P xs → slice_get xs k ≡ Some x → P x
all_at P [] k x a e = absurd (cc)
all_at P (y ∷ ys) zero x a e = subst P (some_one e) (All-head P y ys a)
all_at P (y ∷ ys) (suc k) x a e = all_at P ys k x (All-tail P y ys a) e

-- an assumption reads no slot and no state
abbrev alone : Context
alone = at_states [] [] []

module _ (one : HasOneOutcome) (g : Spec) (bodies : KnowBodies g.operators) (known : KnowAssumptions g) where
  reads : (e : Term) → KnowsValues e → ReadsValues g.operators alone e
  reads e k = record {
    slots = λ v c. absurd (contains_nothing v c);
    now = λ v c. absurd (contains_nothing (Some v) c);
    next = λ v c. absurd (contains_nothing (Some v) c);
    known = k;
    definitions = bodies;
  }

  one_truth : (d : ℕ) (e : Term) → KnowsValues e → One (TruthOf (Evaluates g.operators d) alone e)
  one_truth d e k = one_then (Evaluates g.operators d alone e) (truth_at (place_of e)) (one g.operators d alone e (reads e k)) (λ v h. one_truth_at (place_of e) v)

  one_assumption : (k : ℕ) (r q : Result Bool Fault) → Assumption g k r → Assumption g k q → r ≡ q
  one_assumption k r q a b =
      let same : b.0 ≡ a.0 = some_one (sym b.1 ∙ a.1) in
      one_truth max_evaluations a.0 (all_at KnowsValues (terms_list g.assumes) k a.0 known a.1) r q a.2 (subst (λ (e : Term). TruthOf (Evaluates g.operators max_evaluations) alone e q) same b.2)

  not_fault : (k : ℕ) (f : Fault) → Assumption g k (Ok true) → Assumption g k (Err f) → ⊥
  not_fault k f a b = let e : Ok true ≡ Err f = one_assumption k (Ok true) (Err f) a b in cc

  not_false : (k : ℕ) → Assumption g k (Ok true) → Assumption g k (Ok false) → ⊥
  not_false k a b = let e : Ok true ≡ Ok false = one_assumption k (Ok true) (Ok false) a b in cc

module _ (one : HasOneOutcome) (g : Spec) (log : Log) (asked : Asked) (bodies : KnowBodies g.operators) (known : KnowAssumptions g) (all : AllAssumed (system g log asked)) where
  no_fault : (f : Fault) → IsAssumeFault (system g log asked) f → ⊥
  no_fault f h = not_fault one g bodies known h.index f (all h.index h.below) h.faults

  none_false : (at : Place) → IsAssumeFalse (system g log asked) at → ⊥
  none_false at h = not_false one g bodies known h.index (all h.index h.below) (h.is_false.0, h.is_false.1, h.is_false.2)

  not_unassumed : (answer : Answer) → IsUnassumed (system g log asked) answer → ⊥
  not_unassumed (AssumeFault kind at) h = no_fault (fault kind at) h
  not_unassumed (AssumeFalse at) h = none_false at h
  not_unassumed (Explained w widest) h = h
  not_unassumed (NotExplained n of after w) h = h
  not_unassumed NoInitial h = h
  not_unassumed (InitFault kind at) h = h
  not_unassumed (StateFault n j state kind at) h = h
  not_unassumed (LayerLimit n j) h = h
  not_unassumed (TotalLimit n j) h = h

pub assumed_not_unassumed : HasOneOutcome → AssumedAreNotUnassumed
assumed_not_unassumed one g log asked bodies known all answer h = not_unassumed one g log asked bodies known all answer h
