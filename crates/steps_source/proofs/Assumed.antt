-- What is told of an assumption, which reads no variable.
use Rattle.std.proofs.Common.{◌≡◌, refl, sym, subst, ◌∙◌, arith, inl, inr, ℕ, zero, suc, ◌<◌, ◌≤◌, Bool, true, false, List, [], length, replicate}
use Rattle.std.proofs.lemmas.Option.{slice_get_cases, slice_get_within, get_or_from_slice_get}
use Rattle.std.specs.Prelude.{Contains, Option, Some, None, Result, Ok, Err, slice_get}
use Rattle.base_core.specs.declared.place.Place.{Place}
use Rattle.names_terms.specs.declared.level.Level.{Level}
use Rattle.names_terms.specs.declared.level.Level.TheVariants as levels
use Rattle.names_terms.specs.declared.spec.Spec.{Spec}
use Rattle.names_terms.specs.Lists.{terms_list}
use Rattle.names_terms.specs.Terms.{Term, Placed, level_of, place_of}
use Rattle.names_term_parts.specs.Limits.{is_above}
use Rattle.eval_meanings.specs.declared.fault.EvalFault.{EvalFault}
use Rattle.eval_meanings.specs.declared.fault.EvalFault.TheVariants.{Refused, NoMemory}
use Rattle.eval_meanings.specs.Answers.{Tells}
use Rattle.eval_meanings.specs.Contexts.{Context, Places, Table}
use Rattle.eval_meanings.specs.Evaluates.{Evaluates, max_evaluations}
use Rattle.eval_meanings.specs.Unchanged.{TruthOf}
use Rattle.eval_meanings.specs.Reads.{Reads}
use Rattle.actions_meanings.specs.declared.which.Which.TheVariants as which
use Rattle.actions_meanings.specs.Reads.{reads}
use Rattle.steps_walk_laws.specs.Stable.{IsOrderly, Reaches, TermsCanBeEvaluated, in_term, in_reached}
use Rattle.names_specification_laws.specs.IsSpec.{IsReached, IsSpec, needed, in_body, in_assumption}
use Rattle.logs_updates.specs.declared.line.Log.{Log}
use Rattle.steps_lines_defs.specs.Logs.{Asked, system}
use Rattle.states_layers.specs.declared.steps.StepFault.{StepFault}
use Rattle.states_layers.specs.Gives.{Tells as TellsOf}
use Rattle.steps_source.specs.Told.{Judged, TruthAlone, told_of}

true_false : true ≡ false → ⊥
true_false e = cc

false_true : false ≡ true → ⊥
false_true e = cc

below_action : (l : Level) → is_above l levels.Constant ≡ false → is_above l levels.Action ≡ false
below_action levels.Constant h = refl
below_action levels.State h = refl
below_action levels.Action h = refl
below_action levels.Temporal h = absurd (true_false h)

reads_none : (ops : Table) (k : ℕ) (b : Bool) (e : Term) (x : ℕ) → is_above (level_of e) levels.Constant ≡ false → reads ops k b e x ≡ true → ⊥
reads_none ops zero b e x h r = false_true r
reads_none ops (suc k) b (Placed at levels.Constant m) x h r = false_true r
reads_none ops (suc k) b (Placed at levels.State m) x h r = true_false h
reads_none ops (suc k) b (Placed at levels.Action m) x h r = true_false h
reads_none ops (suc k) b (Placed at levels.Temporal m) x h r = true_false h

no_places : (p : Places) → p ≡ replicate 0 None → p ≡ []
no_places p e = e

-- with no values, in no states
abbrev pub alone : Places → Context
alone p = record { slots = []; now = p; next = p }

module _ (g : Spec) (ordered : IsSpec g) (e : Term) (is : Contains (terms_list g.assumes) e) where
  assumption_reached : (k : ℕ) → Reaches g.operators e k → IsReached g k
  assumption_reached k (in_term _ m) = needed k (in_assumption e k is m)
  assumption_reached k (in_reached j o _ r f m) = in_body j o k (assumption_reached j r) f m

  assumption_orderly : IsOrderly (length g.variables) g.operators 0 e
  assumption_orderly = record {
    term = (ordered.assumes e is).0;
    level = below_action (level_of e) (ordered.assumes e is).1;
    bodies = λ k o r f. ordered.bodies k o (assumption_reached k r) f;
  }

  module _ (law : TermsCanBeEvaluated) where
    pub assumption_reads : (d : ℕ) (p : Places) → p ≡ replicate 0 None → Reads g.operators d (alone p) e
    assumption_reads d p none =
        law which.Init (length g.variables) g.operators d 0 (alone p) e assumption_orderly refl (refl, λ k x r. absurd (reads_none g.operators k true e x (ordered.assumes e is).1 r))

pub truth_alone : (g : Spec) (d : ℕ) (e : Term) (p : Places) (r : Result Bool EvalFault) → p ≡ replicate 0 None → Tells r (TruthOf (Evaluates g.operators d) (alone p) e) → Tells r (TruthAlone g d e)
truth_alone g d e p r none t = subst (λ (q : Places). Tells r (TruthOf (Evaluates g.operators d) (alone q) e)) (no_places p none) t

-- an assumption of that number

pub assumption_in : (xs : List Term) (k : ℕ) (e : Term) → ◌≡◌ {A = Option Term} (Some e) (slice_get xs k) → Contains xs e
assumption_in xs k e at = (k, slice_get_within xs k e (sym at), get_or_from_slice_get xs k e e (sym at))

none_some : (x : Term) → ◌≡◌ {A = Option Term} None (Some x) → ⊥
none_some x e = cc

pub none_past : (xs : List Term) (k : ℕ) → ◌≡◌ {A = Option Term} None (slice_get xs k) → k < length xs → ⊥
none_past xs k e lt = elim (slice_get_cases xs k).1 [ inl h ↦ none_some h.0 (e ∙ h.2) | inr h ↦ past h.0 ]
  where
    past : length xs ≤ k → ⊥
    past le = omega (arith, le, lt)

told_so : (g : Spec) (log : Log) (a : Asked) (k : ℕ) (e : Term) (r : Result Bool EvalFault) → slice_get (terms_list g.assumes) k ≡ Some e → Tells r (TruthAlone g max_evaluations e) → TellsOf (system g log a) k (told_of r (place_of e))
told_so g log a k e (Ok true) at t = (e, at, t)
told_so g log a k e (Ok false) at t = (e, at, t, refl)
told_so g log a k e (Err (Refused kind p)) at t = (e, at, t)
told_so g log a k e (Err NoMemory) at t = tt

pub judged_so : (g : Spec) (log : Log) (a : Asked) (k : ℕ) (e : Term) (r : Result (Option Place) StepFault) → ◌≡◌ {A = Option Term} (Some e) (slice_get (terms_list g.assumes) k) → Judged g e r → TellsOf (system g log a) k r
judged_so g log a k e r at j = subst (λ (x : Result (Option Place) StepFault). TellsOf (system g log a) k x) (sym j.2) (told_so g log a k e j.0 (sym at) j.1)
