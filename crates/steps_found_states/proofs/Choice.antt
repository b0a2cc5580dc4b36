-- A choice among parts of an action.
use Rattle.std.proofs.Common.{◌≡◌, ◌⊎◌, inl, inr, sym, ◌∙◌, subst, ℕ, List, [], ◌∷◌, ◌++◌, length}
use Rattle.std.specs.Prelude.{Any, Contains, Result, Ok, Err}
use Rattle.values_core.specs.Ascending.{head_in, none_in}
use Rattle.names_terms.specs.Terms.{Term}
use Rattle.eval_meanings.specs.declared.fault.EvalFault.{EvalFault}
use Rattle.eval_meanings.specs.declared.fault.EvalFault.TheVariants.{Refused, NoMemory}
use Rattle.eval_meanings.specs.Contexts.{Context, Places}
use Rattle.eval_meanings.specs.Outcomes.{fault}
use Rattle.actions_meanings.specs.Forms.{Setting}
use Rattle.actions_meanings.specs.Reads.{VariableSet}
use Rattle.actions_meanings.specs.Outcomes.{Fixes}
use Rattle.logs_updates.specs.declared.update.See.{See}
use Rattle.steps_found_states.specs.Walks.{FailsOf, Found, HoldsOf, Walked}
use Rattle.steps_found_states.specs.Parts.{Parts, HoldsAny, FailsAny, Leads, WalkedAny}
use Rattle.steps_found_states.proofs.Lists.{any_of, of_any, one_in, in_left, in_right, in_cases}
use Rattle.steps_found_states.proofs.Finding.{finds_none, finds_also, found_same, meets_same}

-- no part holds, and none has a fault, where there is none
pub any_begins : (g : Setting) (d : ℕ) (sees : List See) (B : VariableSet) (p : Places) (a : Term) → WalkedAny g d sees B p a [] (Ok [])
any_begins g d sees B p a =
    finds_none sees p (Fixes g a B) (HoldsAny g d []) (FailsAny g d B []) (λ t k s h. none_in _ (of_any _ [] h).1) (λ t f k s h. none_in _ (of_any _ [] h).1)

-- the part in the words of the action
led : (g : Setting) (d : ℕ) (sees : List See) (B : VariableSet) (p : Places) (a : Term) (e : Context × Term) (r : Result (List Places) EvalFault) → length p ≡ g.variables → Leads g B a e.1
    → Walked g d sees B p e.0 e.1 r → Found sees p (Fixes g a B) (HoldsOf g d e.0 e.1) (FailsOf g d B e.0 e.1) r
led g d sees B p a e r l x w = found_same sees p (Fixes g e.1 B) (Fixes g a B) (HoldsOf g d e.0 e.1) (HoldsOf g d e.0 e.1) (FailsOf g d B e.0 e.1) (FailsOf g d B e.0 e.1)
    (λ C h. let y = x C h in (y.0, y.1, λ q i f. y.2 q (i ∙ l) f)) (λ t k h. h) (λ t k h. h) (λ t f k h. h) (λ t f k h. h) r w

pub any_goes_on : (g : Setting) (d : ℕ) (sees : List See) (B : VariableSet) (p : Places) (a : Term) (es : Parts) (e : Context × Term) (qs rs : List Places) → length p ≡ g.variables → Leads g B a e.1
    → WalkedAny g d sees B p a es (Ok qs) → Walked g d sees B p e.0 e.1 (Ok rs) → WalkedAny g d sees B p a (es ++ e ∷ []) (Ok (qs ++ rs))
any_goes_on g d sees B p a es e qs rs l x h w =
    finds_also sees p (Fixes g a B) (HoldsAny g d es) (HoldsOf g d e.0 e.1) (HoldsAny g d (es ++ e ∷ [])) (FailsAny g d B es) (FailsOf g d B e.0 e.1) (FailsAny g d B (es ++ e ∷ [])) qs rs
    (λ t m. more_of (λ e. HoldsOf g d e.0 e.1 t) m) (λ t m. last_of (λ e. HoldsOf g d e.0 e.1 t) m) (λ t m. parted (λ e. HoldsOf g d e.0 e.1 t) m) (λ t f m. parted (λ e. FailsOf g d B e.0 e.1 t f) m)
    h (led g d sees B p a e (Ok rs) l x w)
  where
    more_of : (P : Context × Term → Type 0) → Any P es → Any P (es ++ e ∷ [])
    more_of P m = let r = of_any P es m in any_of P (es ++ e ∷ []) r.0 (in_left es (e ∷ []) r.0 r.1) r.2

    last_of : (P : Context × Term → Type 0) → P e → Any P (es ++ e ∷ [])
    last_of P m = any_of P (es ++ e ∷ []) e (in_right es (e ∷ []) e (head_in e [])) m

    parted : (P : Context × Term → Type 0) → Any P (es ++ e ∷ []) → Any P es ⊎ P e
    parted P m = let r = of_any P (es ++ e ∷ []) m in elim (in_cases es (e ∷ []) r.0 r.1) [
      | inl n ↦ inl (any_of P es r.0 n r.2)
      | inr n ↦ inr (subst P (sym (one_in e r.0 n)) r.2)
    ]

pub any_refused : (g : Setting) (d : ℕ) (sees : List See) (B : VariableSet) (p : Places) (a : Term) (es : Parts) (e : Context × Term) (f : EvalFault) → Contains es e
    → Walked g d sees B p e.0 e.1 (Err f) → WalkedAny g d sees B p a es (Err f)
any_refused g d sees B p a es e (Refused kind at) m w =
    meets_same sees p (FailsOf g d B e.0 e.1) (FailsAny g d B es) (fault kind at) (λ t k h. any_of (λ e. FailsOf g d B e.0 e.1 t (fault kind at)) es e m h) w
any_refused g d sees B p a es e NoMemory m w = tt

-- of one part alone
pub any_one : (g : Setting) (d : ℕ) (sees : List See) (B : VariableSet) (p : Places) (a : Term) (e : Context × Term) (r : Result (List Places) EvalFault) → length p ≡ g.variables → Leads g B a e.1
    → Walked g d sees B p e.0 e.1 r → WalkedAny g d sees B p a (e ∷ []) r
any_one g d sees B p a e r l x w = found_same sees p (Fixes g a B) (Fixes g a B) (HoldsOf g d e.0 e.1) (HoldsAny g d (e ∷ [])) (FailsOf g d B e.0 e.1) (FailsAny g d B (e ∷ []))
    (λ C h. (C, h, λ q i f. f)) (λ t k h. any_of (λ e. HoldsOf g d e.0 e.1 t) (e ∷ []) e (head_in e []) h) (λ t k h. only (λ e. HoldsOf g d e.0 e.1 t) h)
    (λ t f k h. any_of (λ e. FailsOf g d B e.0 e.1 t f) (e ∷ []) e (head_in e []) h) (λ t f k h. only (λ e. FailsOf g d B e.0 e.1 t f) h) r (led g d sees B p a e r l x w)
  where
    only : (P : Context × Term → Type 0) → Any P (e ∷ []) → P e
    only P m = let r = of_any P (e ∷ []) m in subst P (sym (one_in e r.0 r.1)) r.2
