-- Rows that are taken apart: what their parts find, they find.
use Rattle.std.proofs.Common.{◌≡◌, sym, subst, ℕ, suc, List, [], ◌∷◌, length}
use Rattle.std.specs.Prelude.{Result, Ok, Err}
use Rattle.base_core.specs.declared.place.Place.{Place}
use Rattle.values_core.specs.Ascending.{head_in}
use Rattle.values_core.specs.declared.fault.EvalKind.TheVariants.{Nested}
use Rattle.states_core.specs.declared.fault.Fault.{Fault}
use Rattle.names_terms.specs.Terms.{Term, place_of}
use Rattle.eval_meanings.specs.declared.fault.EvalFault.{EvalFault}
use Rattle.eval_meanings.specs.declared.fault.EvalFault.TheVariants.{Refused, NoMemory}
use Rattle.eval_meanings.specs.Contexts.{Context, Places}
use Rattle.eval_meanings.specs.Outcomes.{fault}
use Rattle.actions_meanings.specs.Forms.{Form, Setting, form}
use Rattle.actions_meanings.specs.Holds.{Opened, all_of, one_of}
use Rattle.actions_meanings.specs.Reads.{VariableSet}
use Rattle.logs_updates.specs.declared.update.See.{See}
use Rattle.eval_parts.specs.Scenes.{Stops}
use Rattle.actions_meanings.specs.Walkable.{FormWalks, Walkable}
use Rattle.steps_found_states.specs.Grounds.{Grounds, OpensFrom}
use Rattle.steps_found_states.specs.Parts.{Parts}
use Rattle.steps_found_states.proofs.Choice.{any_one}
use Rattle.steps_found_states.proofs.Inner.{all_fix, all_grounds, part_grounds, part_leads}
use Rattle.steps_found_states.proofs.Opened.{walked_all_so, walked_nested, walked_one_of, walked_refused}
use Rattle.steps_walk.specs.Walking.{AllGrounded, AllWalked, AnyGrounded, AnyWalked, Grounded, IsWalked}

-- with no evaluation left
pub nested_walked : (g : Setting) (d : ℕ) (sees : List See) (p : Places) (c : Context) (a : Term) (at : Place) → d ≡ 0 → at ≡ place_of a → IsWalked g d sees p c a (Err (Refused Nested at))
nested_walked g d sees p c a at z e =
    subst (λ (n : ℕ). IsWalked g n sees p c a (Err (Refused Nested at))) (sym z) (subst (λ (q : Place). IsWalked g 0 sees p c a (Err (Refused Nested q))) (sym e) (λ B gr. walked_nested g sees B p c a gr))

-- at another number that is the same
pub walked_at : (g : Setting) (m n : ℕ) (sees : List See) (p : Places) (c : Context) (a : Term) (r : Result (List Places) EvalFault) → m ≡ n → IsWalked g m sees p c a r → IsWalked g n sees p c a r
walked_at g m n sees p c a r e h = subst (λ (k : ℕ). IsWalked g k sees p c a r) e h

pub grounded_at : (g : Setting) (m n : ℕ) (sees : List See) (p : Places) (c : Context) (a : Term) → m ≡ n → Grounded g m sees p c a → Grounded g n sees p c a
grounded_at g m n sees p c a e h = subst (λ (k : ℕ). Grounded g k sees p c a) e h

-- a row by the form of its term
module _ (g : Setting) (d : ℕ) (sees : List See) (p : Places) (c : Context) (a : Term) (f : Form) (i : f ≡ form g (length c.slots) a) where
  opened : (r : Result Opened Fault) → OpensFrom g d c p (place_of a) f r → OpensFrom g d c p (place_of a) (form g (length c.slots) a) r
  opened r h = subst (λ (x : Form). OpensFrom g d c p (place_of a) x r) i h

  -- what may be evaluated for it
  pub form_walks : (B : VariableSet) → Grounds g (suc d) sees B p c a → FormWalks g d (Walkable g d) B p c a f
  form_walks B gr = subst (λ (x : Form). FormWalks g d (Walkable g d) B p c a x) (sym i) gr.walks.1

  -- a fault of what is evaluated for it
  pub row_refused : (e : EvalFault) → Stops (OpensFrom g d c p (place_of a) f) e → IsWalked g (suc d) sees p c a (Err e)
  row_refused (Refused kind at) h B gr = walked_refused g d sees B p c a gr (fault kind at) (opened (Err (fault kind at)) h)
  row_refused NoMemory h B gr = tt

  -- all of its parts
  pub all_of_grounds : (es : Parts) → OpensFrom g d c p (place_of a) f (Ok (all_of es)) → Grounded g (suc d) sees p c a → AllGrounded g d sees p es
  all_of_grounds es h gr =
      let o = opened (Ok (all_of es)) h in
      (gr.0, all_grounds g d sees gr.0 p c a gr.1 es o, (gr.1.walks.0.0, all_fix g d sees gr.0 p c a gr.1 es o gr.1.walks.0.0 gr.1.walks.0.1))

  pub all_of_walked : (es : Parts) (r : Result (List Places) EvalFault) → OpensFrom g d c p (place_of a) f (Ok (all_of es)) → AllWalked g d sees p es r → IsWalked g (suc d) sees p c a r
  all_of_walked es r h w B gr =
      let o = opened (Ok (all_of es)) h in
      walked_all_so g d sees B p c a gr es o (all_fix g d sees B p c a gr es o) r (w B gr.walks.0.0 (all_grounds g d sees B p c a gr es o) (all_fix g d sees B p c a gr es o gr.walks.0.0 gr.walks.0.1))

  -- one of its parts
  pub one_of_grounds : (es : Parts) → OpensFrom g d c p (place_of a) f (Ok (one_of es)) → Grounded g (suc d) sees p c a → AnyGrounded g d sees p es
  one_of_grounds es h gr e m = (gr.0, part_grounds g d sees gr.0 p c a gr.1 es (opened (Ok (one_of es)) h) e m)

  pub one_of_walked : (es : Parts) (r : Result (List Places) EvalFault) → OpensFrom g d c p (place_of a) f (Ok (one_of es)) → AnyWalked g d sees p es r → IsWalked g (suc d) sees p c a r
  one_of_walked es r h w B gr =
      let o = opened (Ok (one_of es)) h in
      walked_one_of g d sees B p c a gr es o r (w B a (part_grounds g d sees B p c a gr es o) (part_leads g d sees B p c a gr es o))

  -- the only part
  pub only_grounds : (b : Context) (x : Term) → OpensFrom g d c p (place_of a) f (Ok (one_of ((b, x) ∷ []))) → Grounded g (suc d) sees p c a → Grounded g d sees p b x
  only_grounds b x h gr = one_of_grounds ((b, x) ∷ []) h gr (b, x) (head_in (b, x) [])

  pub only_walked : (b : Context) (x : Term) (r : Result (List Places) EvalFault) → OpensFrom g d c p (place_of a) f (Ok (one_of ((b, x) ∷ []))) → IsWalked g d sees p b x r → IsWalked g (suc d) sees p c a r
  only_walked b x r h w = one_of_walked ((b, x) ∷ []) r h (λ B z k l.
      any_one g d sees B p z (b, x) r (k (b, x) (head_in (b, x) [])).long (l (b, x) (head_in (b, x) [])) (w B (k (b, x) (head_in (b, x) []))))
