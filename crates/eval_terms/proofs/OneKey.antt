-- The key of one term is what the term comes to.
use Rattle.std.proofs.Common.{◌≡◌, inl, inr, refl, sym, subst, List, [], ◌∷◌}
use Rattle.std.specs.Prelude.{Result, Ok, Err}
use Rattle.base_core.specs.declared.place.Place.{Place}
use Rattle.values_core.specs.Data.{Val}
use Rattle.names_terms.specs.Terms.{Term}
use Rattle.eval_meanings.specs.Answers.{Tells}
use Rattle.eval_meanings.specs.Functions.{KeyOf}
use Rattle.eval_meanings.specs.Outcomes.{Each, Outcome, Then, fault}
use Rattle.eval_meanings.specs.declared.fault.EvalFault.{EvalFault}
use Rattle.eval_meanings.specs.declared.fault.EvalFault.TheVariants.{NoMemory, Refused}

alone : (P : Term → Outcome Val) (at : Place) (x : Term) (r : Result Val EvalFault) → Tells r (P x) → Tells r (Then (Each P (x ∷ [])) (KeyOf at))
alone P at x (Ok v) h = inl (v ∷ [], inl (v, h, inl ([], refl, refl)), refl)
alone P at x (Err (Refused kind p)) h = inr (fault kind p, inr (fault kind p, h, refl), refl)
alone P at x (Err NoMemory) h = tt

pub one_key : (P : Term → Outcome Val) (at : Place) (x : Term) (ts : List Term) (r : Result Val EvalFault) → ts ≡ x ∷ [] → Tells r (P x) → Tells r (Then (Each P ts) (KeyOf at))
one_key P at x ts r e h = subst (λ (us : List Term). Tells r (Then (Each P us) (KeyOf at))) (sym e) (alone P at x r h)
