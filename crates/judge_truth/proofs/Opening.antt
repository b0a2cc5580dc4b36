-- An action that is taken apart: what is decided of its parts is decided of it.
use Rattle.std.proofs.Common.{◌≡◌, inl, refl, sym, subst, ℕ, suc, [], ◌∷◌, length, map}
use Rattle.std.specs.Prelude.{Bool, Some, Result, Ok, Err}
use Rattle.base_core.specs.declared.place.Place.{Place}
use Rattle.values_core.specs.declared.fault.EvalKind.TheVariants.{Nested}
use Rattle.values_core.specs.Ascending.{head_in}
use Rattle.states_core.specs.declared.fault.Fault.{Fault}
use Rattle.names_terms.specs.Terms.{Term, place_of}
use Rattle.eval_meanings.specs.declared.fault.EvalFault.{EvalFault}
use Rattle.eval_meanings.specs.declared.fault.EvalFault.TheVariants.{Refused, NoMemory}
use Rattle.eval_meanings.specs.Contexts.{Context, Places}
use Rattle.eval_meanings.specs.Outcomes.{fault}
use Rattle.actions_meanings.specs.Forms.{Form, Setting, form}
use Rattle.actions_meanings.specs.Reads.{VariableSet}
use Rattle.actions_meanings.specs.Holds.{Holds, Opened, all_of, one_of}
use Rattle.actions_meanings.specs.Fails.{Fails}
use Rattle.eval_parts.specs.Scenes.{Stops}
use Rattle.actions_meanings.specs.Filled.{at_next}
use Rattle.actions_meanings.specs.Walkable.{FormWalks, Walkable}
use Rattle.steps_found_states.specs.Walks.{FailsOf, HoldsOf}
use Rattle.steps_found_states.specs.Grounds.{OpensFrom}
use Rattle.steps_found_states.specs.Parts.{FailsAll, FailsAny, FixesAll, GroundsAll, HoldsAll, HoldsAny, Parts}
use Rattle.steps_found_states.proofs.Lists.{all_by_place, place_by_all}
use Rattle.steps_found_states.proofs.Inner.{all_fix, all_grounds, part_grounds}
use Rattle.steps_found_states.proofs.Opened.{faults_so, form_failed, opened_failed, says_so, so_faults, so_says}
use Rattle.steps_found_states.proofs.Openings.{opens_at}
use Rattle.judge_truth.specs.Truths.{everything}
use Rattle.judge_truth.specs.Deciding.{AllDecided, AnyDecided, EachGrounded, Grounded, IsDecided}
use Rattle.judge_truth.proofs.Answering.{answered_so}
use Rattle.judge_truth.proofs.Choices.{any_one}

-- with another number that is the same
pub decided_at : (g : Setting) (m n : ℕ) (p : Places) (c : Context) (a : Term) (r : Result Bool EvalFault) → m ≡ n → IsDecided g m p c a r → IsDecided g n p c a r
decided_at g m n p c a r e h = subst (λ (k : ℕ). IsDecided g k p c a r) e h

pub grounded_at : (g : Setting) (m n : ℕ) (p : Places) (c : Context) (a : Term) → m ≡ n → Grounded g m p c a → Grounded g n p c a
grounded_at g m n p c a e h = subst (λ (k : ℕ). Grounded g k p c a) e h

-- with no evaluation left
pub nested_decided : (g : Setting) (d : ℕ) (p : Places) (c : Context) (a : Term) (at : Place) → d ≡ 0 → at ≡ place_of a → IsDecided g d p c a (Err (Refused Nested at))
nested_decided g d p c a at z e =
    subst (λ (n : ℕ). IsDecided g n p c a (Err (Refused Nested at))) (sym z) (subst (λ (q : Place). IsDecided g 0 p c a (Err (Refused Nested q))) (sym e) (λ t k gr. refl))

-- a row by the form of its term
module _ (g : Setting) (d : ℕ) (p : Places) (c : Context) (a : Term) (f : Form) (i : f ≡ form g (length c.slots) a) where
  opened : (r : Result Opened Fault) → OpensFrom g d c p (place_of a) f r → OpensFrom g d c p (place_of a) (form g (length c.slots) a) r
  opened r h = subst (λ (x : Form). OpensFrom g d c p (place_of a) x r) i h

  -- what may be evaluated for it
  pub form_walks : Grounded g (suc d) p c a → FormWalks g d (Walkable g d) everything p c a f
  form_walks gr = subst (λ (x : Form). FormWalks g d (Walkable g d) everything p c a x) (sym i) gr.walks.1

  -- a fault of what is evaluated for it
  pub row_stops : (x : EvalFault) → Stops (OpensFrom g d c p (place_of a) f) x → IsDecided g (suc d) p c a (Err x)
  row_stops (Refused kind at) h t k gr =
      let e = fault kind at in
      let o = opened (Err (fault kind at)) h in
      form_failed g d everything c (map Some t) a e
      (opened_failed g d (Holds g d) c p (at_next g.which c (map Some t)) a (Fails g d) everything (form g (length c.slots) a) (Err e) o e
      (inl (opens_at g d c p (map Some t) (place_of a) (form g (length c.slots) a) k.has (Err e) o)))
  row_stops NoMemory h t k gr = tt

  -- one of its parts

  pub one_of_grounds : (es : Parts) → OpensFrom g d c p (place_of a) f (Ok (one_of es)) → Grounded g (suc d) p c a → EachGrounded g d p es
  one_of_grounds es h gr = part_grounds g d [] everything p c a gr es (opened (Ok (one_of es)) h)

  pub one_of_decided : (es : Parts) (r : Result Bool EvalFault) → OpensFrom g d c p (place_of a) f (Ok (one_of es)) → AnyDecided g d p es r → IsDecided g (suc d) p c a r
  one_of_decided es r h w t k gr =
      let o = opened (Ok (one_of es)) h in
      answered_so (HoldsAny g d es t) (HoldsOf g (suc d) c a t) (FailsAny g d everything es t) (FailsOf g (suc d) everything c a t)
      (says_so g d [] everything p c a gr (one_of es) o t k) (so_says g d [] everything p c a gr (one_of es) o t k)
      (λ e m. faults_so g d [] everything p c a gr (one_of es) o t e k m) (λ e m. so_faults g d [] everything p c a gr (one_of es) o t e k m)
      r (w t k (part_grounds g d [] everything p c a gr es o))

  -- the only part

  pub only_grounds : (b : Context) (x : Term) → OpensFrom g d c p (place_of a) f (Ok (one_of ((b, x) ∷ []))) → Grounded g (suc d) p c a → Grounded g d p b x
  only_grounds b x h gr = one_of_grounds ((b, x) ∷ []) h gr (b, x) (head_in (b, x) [])

  pub only_decided : (b : Context) (x : Term) (r : Result Bool EvalFault) → OpensFrom g d c p (place_of a) f (Ok (one_of ((b, x) ∷ []))) → IsDecided g d p b x r → IsDecided g (suc d) p c a r
  only_decided b x r h w = one_of_decided ((b, x) ∷ []) r h (any_one g d p (b, x) r w)

  -- all of its parts

  pub all_of_grounds : (es : Parts) → OpensFrom g d c p (place_of a) f (Ok (all_of es)) → Grounded g (suc d) p c a → GroundsAll g d [] everything p es × ((C : VariableSet) × FixesAll g es everything C)
  all_of_grounds es h gr =
      let o = opened (Ok (all_of es)) h in
      (all_grounds g d [] everything p c a gr es o, (gr.walks.0.0, all_fix g d [] everything p c a gr es o gr.walks.0.0 gr.walks.0.1))

  pub all_of_decided : (es : Parts) (r : Result Bool EvalFault) → OpensFrom g d c p (place_of a) f (Ok (all_of es)) → AllDecided g d p es r → IsDecided g (suc d) p c a r
  all_of_decided es r h w t k gr =
      let o = opened (Ok (all_of es)) h in
      answered_so (HoldsAll g d es t) (HoldsOf g (suc d) c a t) (FailsAll g d everything es t) (FailsOf g (suc d) everything c a t)
      (λ m. says_so g d [] everything p c a gr (all_of es) o t k (all_by_place (λ e. HoldsOf g d e.0 e.1 t) es m))
      (λ m. place_by_all (λ e. HoldsOf g d e.0 e.1 t) es (so_says g d [] everything p c a gr (all_of es) o t k m))
      (λ e m. faults_so g d [] everything p c a gr (all_of es) o t e k m) (λ e m. so_faults g d [] everything p c a gr (all_of es) o t e k m)
      r (w t k (all_grounds g d [] everything p c a gr es o))
