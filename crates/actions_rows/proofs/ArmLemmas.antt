-- What a CASE chooses, in the midst of its arms: what the rest chooses, the whole chooses.
use Rattle.std.proofs.Common.{inl, inr, refl, sym, subst, ℕ, ◌+◌, ◌≤◌, List, [], length, drop, map, Bool, true, false}
use Rattle.std.specs.Prelude.{Option, Result, Ok, Err}
use Rattle.base_core.specs.declared.place.Place.{Place}
use Rattle.states_core.specs.declared.fault.Fault.{Fault}
use Rattle.names_terms.specs.Terms.{Term}
use Rattle.eval_meanings.specs.declared.fault.EvalFault.{EvalFault}
use Rattle.eval_meanings.specs.declared.fault.EvalFault.TheVariants.{Refused, NoMemory}
use Rattle.eval_meanings.specs.Answers.{Tells}
use Rattle.eval_meanings.specs.Contexts.{Context}
use Rattle.eval_meanings.specs.Outcomes.{Outcome, fault}
use Rattle.actions_meanings.specs.Holds.{Chosen}
use Rattle.eval_meanings.specs.Reads.{Reading, ReadsEach}
use Rattle.eval_parts.specs.Scenes.{Stops}
use Rattle.eval_parts.proofs.Loops.{Cut, cut_end}

module _ (truth : Term → Outcome Bool) (at : Place) (other : Option Term) where
  abbrev pub ChosenSoFar : List (Term × Term) → ℕ → Type 0
  ChosenSoFar xs i = (r : Result Term Fault) → Chosen truth at (drop i xs) other r → Chosen truth at xs other r

  pub chosen_passed : (xs : List (Term × Term)) (i : ℕ) (x : Term × Term) → Cut xs i x → truth x.0 (Ok false) → ChosenSoFar xs i → ChosenSoFar xs (i + 1)
  chosen_passed xs i x c p s r h = s r (subst (λ (us : List (Term × Term)). Chosen truth at us other r) (sym c) (inl (false, p, h)))

  pub chosen_taken : (xs : List (Term × Term)) (i : ℕ) (x : Term × Term) → Cut xs i x → truth x.0 (Ok true) → ChosenSoFar xs i → Chosen truth at xs other (Ok x.1)
  chosen_taken xs i x c p s = s (Ok x.1) (subst (λ (us : List (Term × Term)). Chosen truth at us other (Ok x.1)) (sym c) (inl (true, p, refl)))

  pub chosen_stops : (xs : List (Term × Term)) (i : ℕ) (x : Term × Term) (f : EvalFault) → Cut xs i x → Tells {A = Bool} (Err f) (truth x.0) → ChosenSoFar xs i → Stops (Chosen truth at xs other) f
  chosen_stops xs i x (Refused kind place) c p s =
      s (Err (fault kind place)) (subst (λ (us : List (Term × Term)). Chosen truth at us other (Err (fault kind place))) (sym c) (inr (fault kind place, p, refl)))
  chosen_stops xs i x NoMemory c p s = tt

  pub chosen_end : (xs : List (Term × Term)) (i : ℕ) (r : Result Term Fault) → length xs ≤ i → Chosen truth at [] other r → ChosenSoFar xs i → Chosen truth at xs other r
  chosen_end xs i r l h s = s r (subst (λ (us : List (Term × Term)). Chosen truth at us other r) (sym (cut_end xs i l)) h)

pub tests_read : (part : Reading) (c : Context) (xs : List (Term × Term)) (i : ℕ) (x : Term × Term) → Cut xs i x → ReadsEach part c (map (λ (q : Term × Term). q.0) (drop i xs)) → part c x.0 × ReadsEach part c (map (λ (q : Term × Term). q.0) (drop (i + 1) xs))
tests_read part c xs i x k h = subst (λ (us : List (Term × Term)). ReadsEach part c (map (λ (q : Term × Term). q.0) us)) k h
