-- What the walk rests on, from what is known of the slots, of the state before and of the terms.
use Rattle.std.proofs.Common.{List, ℕ, true, false, None, slice_get, ◌≡◌, zero, suc, replicate, subst, map}
use Rattle.std.specs.Prelude.{Option, Some}
use Rattle.values_core.specs.Data.{Val}
use Rattle.values_core.specs.IsValue.{IsValue}
use Rattle.states_core.specs.States.{Values}
use Rattle.names_terms.specs.Terms.{Term}
use Rattle.eval_meanings.specs.Contexts.{Context, Places, Table}
use Rattle.eval_meanings.specs.Laws.{AreValues, HoldValues, KnowsValues, ReadsValues}
use Rattle.eval_laws.proofs.FineContexts.{BodiesKnow}
use Rattle.actions_meanings.specs.declared.which.Which.{Which}
use Rattle.actions_meanings.specs.declared.which.Which.TheVariants as which
use Rattle.actions_meanings.specs.Filled.{Completes, Fills, at_next}
use Rattle.actions_meanings.specs.Reads.{in_none}
use Rattle.logs_updates.specs.Changes.{LeadsTo}
use Rattle.logs_updates.specs.declared.update.See.{See}
use Rattle.steps_found_states.specs.Walks.{Agrees}
use Rattle.steps_found_states.proofs.Lists.{all_by_place, all_from, all_in, of_map, place_by_all}

whole_holds : (p : Places) (t : Values) → Completes p t → HoldValues (map Some t)
whole_holds p t k v m =
    let r = of_map (λ (w : Val). Some w) t (Some v) m in
    subst IsValue (same r.0 r.2) (all_in IsValue t (place_by_all IsValue t k.values) r.0 r.1)
  where
    same : (w : Val) → ◌≡◌ {A = Option Val} (Some w) (Some v) → w ≡ v
    same w e = cc

-- in Init the state before is not looked at
pub reads_whole : (w : Which) (ops : Table) (p : Places) (c : Context) (a : Term) → AreValues c.slots → HoldValues c.now → KnowsValues a → BodiesKnow ops → (t : Values) → Completes p t
    → ReadsValues ops (at_next w c (map Some t)) a
reads_whole which.Init ops p c a s n k b t h = record { slots = s; now = whole_holds p t h; next = whole_holds p t h; known = k; definitions = b }
reads_whole which.Action ops p c a s n k b t h = record { slots = s; now = n; next = whole_holds p t h; known = k; definitions = b }

-- at first no variable has a value

none_there : (n x : ℕ) (v : Val) → slice_get (replicate {A = Option Val} n None) x ≡ Some (Some v) → ⊥
none_there zero x v e = nothing e
  where
    nothing : ◌≡◌ {A = Option (Option Val)} None (Some (Some v)) → ⊥
    nothing e = cc
none_there (suc n) zero v e = empty e
  where
    empty : ◌≡◌ {A = Option (Option Val)} (Some None) (Some (Some v)) → ⊥
    empty e = cc
none_there (suc n) (suc x) v e = none_there n x v e

false_true : false ≡ true → ⊥
false_true e = cc

pub empty_fills : (n : ℕ) → Fills in_none (replicate n None)
empty_fills n x h = (λ e. absurd (false_true e), λ w. absurd (none_there n x w.0 w.1))

pub empty_agrees : (n : ℕ) (sees : List See) → Agrees sees (replicate n None)
empty_agrees n sees = all_by_place (λ (see : See). (v : Val) → slice_get (replicate {A = Option Val} n None) see.path.variable.0 ≡ Some (Some v) → LeadsTo see.path.keys v see.value) sees
    (all_from _ sees (λ see m v e. absurd (none_there n see.path.variable.0 v e)))
