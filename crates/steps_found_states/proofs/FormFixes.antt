-- What an action leaves fixed is what its parts leave fixed.
use Rattle.std.proofs.Common.{◌≡◌, ◌⊎◌, inl, inr, refl, sym, ◌∙◌, subst, arith, ℕ, zero, suc, ◌<◌, ◌≤◌, List, [], ◌∷◌, ◌++◌, length, map}
use Rattle.std.specs.Prelude.{Bool, true, false, ◌&&◌, ◌||◌, not, Option, None, Some, Result, Ok, Err, Contains, if◌then◌else◌, option_to_list}
use Rattle.std.specs.List.{AllByRecursion}
use Rattle.values_core.specs.Ascending.{cons_cases, head_in, tail_in, none_in}
use Rattle.names_terms.specs.Terms.{Term}
use Rattle.eval_meanings.specs.Contexts.{Context, Places}
use Rattle.actions_meanings.specs.declared.fault.FormFault.{FormFault}
use Rattle.actions_meanings.specs.Forms.{Setting, form, test, assign, choose, changing}
use Rattle.actions_meanings.specs.Reads.{VariableSet, Ends, with_variable}
use Rattle.actions_meanings.specs.Outcomes.{Arm, FormOutcome, Fixes, arm, arms_of, case_arms, early, fixed_by_some, form_outcome, lacking, least, next, not_fixed, or_else, outcome_within, outside, through, together, unless}
use Rattle.actions_meanings.specs.Filled.{Fills}
use Rattle.steps_found_states.specs.Grounds.{FixesWithin}
use Rattle.steps_found_states.specs.Parts.{FixesAll}
use Rattle.steps_found_states.proofs.FormParts.{same_form}

pub ok_form : {A : Type 0} (x y : A) → ◌≡◌ {A = Result A FormFault} (Ok x) (Ok y) → x ≡ y
ok_form x y e = cc

no_fault : {A : Type 0} (f : FormFault) (y : A) → ◌≡◌ {A = Result A FormFault} (Err f) (Ok y) → ⊥
no_fault f y e = cc

no_fault_none : (f : FormFault) → ◌≡◌ {A = Option FormFault} (Some f) None → ⊥
no_fault_none f e = cc

pub next_ok : {A B : Type 0} (r : Result A FormFault) (go : A → Result B FormFault) (y : B) → next r go ≡ Ok y → (x : A) × (r ≡ Ok x) × (go x ≡ Ok y)
next_ok (Ok x) go y e = (x, refl, e)
next_ok (Err f) go y e = absurd (no_fault f y e)

pub unless_ok : {A : Type 0} (o : Option FormFault) (r : Result A FormFault) (y : A) → unless o r ≡ Ok y → (o ≡ None) × (r ≡ Ok y)
unless_ok None r y e = (refl, e)
unless_ok (Some f) r y e = absurd (no_fault f y e)

-- the outcome of the form, and that the action ends
pub fixes_form : (g : Setting) (n : ℕ) (a : Term) (B C : VariableSet) → Fixes g a B C → (k : ℕ) × Ends g.table (suc k) a × (form_outcome g k (outcome_within g k) a B (form g n a) ≡ Ok C)
fixes_form g n a B C (zero, e, h) = absurd e
fixes_form g n a B C (suc k, e, h) = (k, e, same_form (form_outcome g k (outcome_within g k) a B) (λ m n es. refl) g n zero a ∙ h)

pub test_fixes : (g : Setting) (k : ℕ) (part : Term → VariableSet → FormOutcome) (a : Term) (B C : VariableSet) → form_outcome g k part a B test ≡ Ok C → C ≡ B
test_fixes g k part a B C h = sym (ok_form B C (unless_ok (early g B (suc k) a) (Ok B) C h).1)

pub assign_fixes : (g : Setting) (k : ℕ) (part : Term → VariableSet → FormOutcome) (a : Term) (B C : VariableSet) (x : ℕ) (e : Term) → form_outcome g k part a B (assign x e) ≡ Ok C → C ≡ with_variable B x
assign_fixes g k part a B C x e h = sym (ok_form (with_variable B x) C (unless_ok (early g B k e) (Ok (with_variable B x)) C h).1)

pub choose_fixes : (g : Setting) (k : ℕ) (part : Term → VariableSet → FormOutcome) (a : Term) (B C : VariableSet) (x : ℕ) (e : Term) → form_outcome g k part a B (choose x e) ≡ Ok C → C ≡ with_variable B x
choose_fixes g k part a B C x e h = sym (ok_form (with_variable B x) C (unless_ok (early g B k e) (Ok (with_variable B x)) C h).1)

pub changing_fixes : (g : Setting) (k : ℕ) (part : Term → VariableSet → FormOutcome) (a : Term) (B C : VariableSet) (e v : Term) → form_outcome g k part a B (changing e v) ≡ Ok C → part e B ≡ Ok C
changing_fixes g k part a B C e v h =
    let x = next_ok (part e B) _ C h in
    x.1 ∙ (unless_ok _ (Ok x.0) C x.2).1

-- one after the other

pub through_fixes : (g : Setting) (k : ℕ) (c : Context) (es : List Term) (B C : VariableSet) → AllByRecursion (FixesWithin g k) es → through (outcome_within g k) es B ≡ Ok C → FixesAll g (map (λ e. (c, e)) es) B C
through_fixes g k c [] B C a h = sym (ok_form B C h)
through_fixes g k c (e ∷ es) B C a h =
    let x = next_ok (outcome_within g k e B) (through (outcome_within g k) es) C h in
    (x.0, a.0 B x.0 x.1, through_fixes g k c es x.0 C a.1 x.2)

pub through_one : (g : Setting) (k : ℕ) (part : Term → VariableSet → FormOutcome) (e : Term) (B C : VariableSet) → through part (e ∷ []) B ≡ Ok C → part e B ≡ Ok C
through_one g k part e B C h = let x = next_ok (part e B) (through part []) C h in x.1 ∙ x.2

-- arms that leave the same fixed

or_none : (a b : Option FormFault) → or_else a b ≡ None → (a ≡ None) × (b ≡ None)
or_none None b e = (refl, e)
or_none (Some f) b e = absurd (no_fault_none f e)

not_fixed_none : (c : Arm) (o : Option ℕ) → not_fixed c.at o ≡ None → o ≡ None
not_fixed_none c None e = refl
not_fixed_none c (Some x) e = absurd (no_fault_none _ e)

no_least : (v : ℕ) (P : VariableSet) → least v P ≡ None → (x : ℕ) → x < v → P x ≡ false
no_least zero P e x h = absurd (omega (arith, h))
no_least (suc v) P e x h = by_rest (least v P) refl (λ i l. no_least v P i x l) e
  where
    no_some : (y : ℕ) → ◌≡◌ {A = Option ℕ} (Some y) None → ⊥
    no_some y e = cc

    by_last : (b : Bool) → P v ≡ b → (if b then Some v else None) ≡ None → P v ≡ false
    by_last true i e = absurd (no_some v e)
    by_last false i e = i

    below : x < suc v → (x < v) ⊎ (x ≡ v)
    below h = by_order (omega (arith, h))
      where
        by_order : x ≤ v → (x < v) ⊎ (x ≡ v)
        by_order l = search (arith, l)

    by_rest : (o : Option ℕ) → least v P ≡ o → (least v P ≡ None → x < v → P x ≡ false) → elim o as (λ z. Option ℕ) [ Some y ↦ Some y | None ↦ if P v then Some v else None ] ≡ None → P x ≡ false
    by_rest (Some y) i f e = absurd (no_some y e)
    by_rest None i f e = elim (below h) [
      | inl l ↦ f i l
      | inr s ↦ subst (λ (z : ℕ). P z ≡ false) (sym s) (by_last (P v) refl e)
    ]

in_both : (a b : Bool) → (a && not b) ≡ false → a ≡ true → b ≡ true
in_both true true h e = refl
in_both true false h e = sym h
in_both false b h e = absurd (cc)

-- where no arm lacks a variable of U, each has all of them
none_lacking : (v : ℕ) (U : VariableSet) (cs : List Arm) → lacking v U cs ≡ None → (c : Arm) → Contains cs c → (x : ℕ) → x < v → U x ≡ true → c.set x ≡ true
none_lacking v U [] h c m x l u = absurd (none_in c m)
none_lacking v U (d ∷ cs) h c m x l u =
    let r = or_none (not_fixed d.at (least v (outside d.set U))) (lacking v U cs) h in
    elim (cons_cases d cs c m) [
      | inl e ↦ subst (λ (z : Arm). z.set x ≡ true) e (in_both (U x) (d.set x) (no_least v (outside d.set U) (not_fixed_none d (least v (outside d.set U)) r.0) x l) u)
      | inr n ↦ none_lacking v U cs r.1 c n x l u
    ]

or_left : (a b : Bool) → a ≡ true → (a || b) ≡ true
or_left true b e = refl
or_left false b e = absurd (cc)

or_right : (a b : Bool) → b ≡ true → (a || b) ≡ true
or_right true b e = refl
or_right false b e = e

by_some : (cs : List Arm) (c : Arm) → Contains cs c → (x : ℕ) → c.set x ≡ true → fixed_by_some cs x ≡ true
by_some [] c m x e = absurd (none_in c m)
by_some (d ∷ cs) c m x e = elim (cons_cases d cs c m) [
  | inl i ↦ or_left (d.set x) (fixed_by_some cs x) (subst (λ (z : Arm). z.set x ≡ true) (sym i) e)
  | inr n ↦ or_right (d.set x) (fixed_by_some cs x) (by_some cs c n x e)
]

-- sets that have the same variables below v
abbrev pub AreSame : ℕ → VariableSet → VariableSet → Type 0
AreSame v D C = (x : ℕ) → x < v → D x ≡ C x

same_bools : (a b : Bool) → (a ≡ true → b ≡ true) → (b ≡ true → a ≡ true) → a ≡ b
same_bools true b f g = sym (f refl)
same_bools false true f g = g refl
same_bools false false f g = refl

together_same : (v : ℕ) (B C : VariableSet) (cs : List Arm) → together v B cs ≡ Ok C → (c : Arm) → Contains cs c → AreSame v c.set C
together_same v B C [] h c m x l = absurd (none_in c m)
together_same v B C (d ∷ cs) h c m x l =
    let r = unless_ok (lacking v (fixed_by_some (d ∷ cs)) (d ∷ cs)) (Ok d.set) C h in
    let lacks = none_lacking v (fixed_by_some (d ∷ cs)) (d ∷ cs) r.0 in
    let same : d.set ≡ C = ok_form d.set C r.1 in
    subst (λ (X : VariableSet). c.set x ≡ X x) same
    (same_bools (c.set x) (d.set x) (λ e. lacks d (head_in d cs) x l (by_some (d ∷ cs) c m x e)) (λ e. lacks c m x l (by_some (d ∷ cs) d (head_in d cs) x e)))

-- what fills the one fills the other
pub same_fill : (v : ℕ) (D C : VariableSet) → AreSame v D C → (q : Places) → length q ≡ v → Fills D q → Fills C q
same_fill v D C s q e f x h =
    let i = s x (omega (arith, h, e)) in
    (λ k. (f x h).0 (i ∙ k), λ w. sym i ∙ (f x h).1 w)

-- a term among the arms
abbrev pub IsArm : Setting → ℕ → ℕ → VariableSet → VariableSet → Term → Type 0
IsArm g k v B C e = (D : VariableSet) × (outcome_within g k e B ≡ Ok D) × AreSame v D C

arms_have : (part : Term → VariableSet → FormOutcome) (B : VariableSet) (es : List Term) (cs : List Arm) → arms_of part B es ≡ Ok cs → (e : Term) → Contains es e → (D : VariableSet) × (part e B ≡ Ok D) × Contains cs (arm e D)
arms_have part B [] cs h e m = absurd (none_in e m)
arms_have part B (f ∷ es) cs h e m =
    let x = next_ok (part f B) _ cs h in
    let y = next_ok (arms_of part B es) _ cs x.2 in
    let all : arm f x.0 ∷ y.0 ≡ cs = ok_form (arm f x.0 ∷ y.0) cs y.2 in
    elim (cons_cases f es e m) [
      | inl i ↦ (x.0, subst (λ (z : Term). part z B ≡ Ok x.0) i x.1, subst (λ (zs : List Arm). Contains zs (arm e x.0)) all (subst (λ (z : Term). Contains (arm f x.0 ∷ y.0) (arm z x.0)) i (head_in (arm f x.0) y.0)))
      | inr n ↦ let r = arms_have part B es y.0 y.1 e n in (r.0, r.1, subst (λ (zs : List Arm). Contains zs (arm e r.0)) all (tail_in (arm f x.0) y.0 (arm e r.0) r.2))
    ]

pub arms_same : (g : Setting) (k : ℕ) (B C : VariableSet) (es : List Term) → next (arms_of (outcome_within g k) B es) (together g.variables B) ≡ Ok C → (e : Term) → Contains es e → IsArm g k g.variables B C e
arms_same g k B C es h e m =
    let x = next_ok (arms_of (outcome_within g k) B es) (together g.variables B) C h in
    let r = arms_have (outcome_within g k) B es x.0 x.1 e m in
    (r.0, r.1, together_same g.variables B C x.0 x.2 (arm e r.0) r.2)

case_have : (unread : Term → Option FormFault) (part : Term → VariableSet → FormOutcome) (B : VariableSet) (qs : List (Term × Term)) (other : Option Term) (cs : List Arm) → case_arms unread part B qs other ≡ Ok cs
    → (e : Term) → Contains (map (λ q. q.1) qs ++ option_to_list other) e → (D : VariableSet) × (part e B ≡ Ok D) × Contains cs (arm e D)
case_have unread part B [] other cs h e m = arms_have part B (option_to_list other) cs h e m
case_have unread part B (q ∷ qs) other cs h e m =
    let x = next_ok (part q.1 B) _ cs (unless_ok (unread q.0) _ cs h).1 in
    let y = next_ok (case_arms unread part B qs other) _ cs x.2 in
    let all : arm q.1 x.0 ∷ y.0 ≡ cs = ok_form (arm q.1 x.0 ∷ y.0) cs y.2 in
    elim (cons_cases q.1 (map (λ q. q.1) qs ++ option_to_list other) e m) [
      | inl i ↦ (x.0, subst (λ (z : Term). part z B ≡ Ok x.0) i x.1, subst (λ (zs : List Arm). Contains zs (arm e x.0)) all (subst (λ (z : Term). Contains (arm q.1 x.0 ∷ y.0) (arm z x.0)) i (head_in (arm q.1 x.0) y.0)))
      | inr n ↦ let r = case_have unread part B qs other y.0 y.1 e n in (r.0, r.1, subst (λ (zs : List Arm). Contains zs (arm e r.0)) all (tail_in (arm q.1 x.0) y.0 (arm e r.0) r.2))
    ]

pub case_same : (g : Setting) (k : ℕ) (unread : Term → Option FormFault) (B C : VariableSet) (qs : List (Term × Term)) (other : Option Term)
    → next (case_arms unread (outcome_within g k) B qs other) (together g.variables B) ≡ Ok C → (e : Term) → Contains (map (λ q. q.1) qs ++ option_to_list other) e → IsArm g k g.variables B C e
case_same g k unread B C qs other h e m =
    let x = next_ok (case_arms unread (outcome_within g k) B qs other) (together g.variables B) C h in
    let r = case_have unread (outcome_within g k) B qs other x.0 x.1 e m in
    (r.0, r.1, together_same g.variables B C x.0 x.2 (arm e r.0) r.2)
