-- One of several parts: each is decided, and a fault of any is one of the whole.
use Rattle.std.proofs.Common.{◌≡◌, ◌⊎◌, inl, inr, refl, sym, ap, ◌∙◌, subst, ℕ, zero, suc, ◌+◌, ◌-◌, ◌<◌, ◌≤◌, List, [], ◌∷◌, ◌++◌, length, get_or, map, take, drop, append_assoc, arith, rules}
use Rattle.std.specs.Prelude.{Any, ◌||◌, Bool, true, false, Contains, Result, Ok, Err}
use Rattle.std.proofs.lemmas.List.{take_all, map-append}
use Rattle.values_core.specs.Data.{Val}
use Rattle.values_core.specs.Ascending.{head_in, none_in}
use Rattle.states_core.specs.States.{Values}
use Rattle.states_core.specs.declared.fault.Fault.{Fault}
use Rattle.names_terms.specs.Terms.{Term}
use Rattle.eval_meanings.specs.declared.fault.EvalFault.{EvalFault}
use Rattle.eval_meanings.specs.declared.fault.EvalFault.TheVariants.{Refused, NoMemory}
use Rattle.eval_meanings.specs.Binders.{combinations, with_each}
use Rattle.eval_meanings.specs.Contexts.{Context, Places, bind}
use Rattle.eval_meanings.specs.Outcomes.{fault}
use Rattle.actions_meanings.specs.Forms.{Setting}
use Rattle.eval_parts.proofs.Loops.{Cut}
use Rattle.steps_found_states.specs.Walks.{FailsOf, HoldsOf}
use Rattle.steps_found_states.specs.Parts.{FailsAny, HoldsAny, Parts}
use Rattle.steps_found_states.proofs.Lists.{any_of, in_cases, in_left, in_right, of_any, one_in}
use Rattle.judge_truth.specs.Truths.{everything}
use Rattle.judge_truth.specs.Deciding.{Answered, AnyDecided, EachGrounded, Grounded, IsDecided, under}
use Rattle.judge_truth.proofs.Answering.{answered_so}

pub to_end : {X : Type 0} (xs : List X) → xs ++ [] ≡ xs
to_end xs = search rules

-- each of the first stands among the second
abbrev pub Among : {X : Type 0} → List X → List X → Type 0
Among {X = X} xs ys = (x : X) → Contains xs x → Contains ys x

-- one of either list

any_left : {X : Type 0} (P : X → Type 0) (xs ys : List X) → Any P xs → Any P (xs ++ ys)
any_left P xs ys h = let r = of_any P xs h in any_of P (xs ++ ys) r.0 (in_left xs ys r.0 r.1) r.2

any_right : {X : Type 0} (P : X → Type 0) (xs ys : List X) → Any P ys → Any P (xs ++ ys)
any_right P xs ys h = let r = of_any P ys h in any_of P (xs ++ ys) r.0 (in_right xs ys r.0 r.1) r.2

any_either : {X : Type 0} (P : X → Type 0) (xs ys : List X) → Any P (xs ++ ys) → Any P xs ⊎ Any P ys
any_either P xs ys h = let r = of_any P (xs ++ ys) h in elim (in_cases xs ys r.0 r.1) [
  | inl m ↦ inl (any_of P xs r.0 m r.2)
  | inr m ↦ inr (any_of P ys r.0 m r.2)
]

-- a list at an index

pub cut_whole : {X : Type 0} (xs : List X) (i : ℕ) (x : X) → Cut xs i x → take i xs ++ x ∷ drop (i + 1) xs ≡ xs
cut_whole xs i x c = ap (λ ys. take i xs ++ ys) (sym c) ∙ whole xs i
  where
    whole : {X : Type 0} (xs : List X) (i : ℕ) → take i xs ++ drop i xs ≡ xs
    whole [] zero = refl
    whole [] (suc i) = refl
    whole (y ∷ xs) zero = refl
    whole (y ∷ xs) (suc i) = ap (λ ys. y ∷ ys) (whole xs i)

pub cut_more : {X : Type 0} (xs : List X) (i : ℕ) (x : X) → Cut xs i x → take (i + 1) xs ≡ take i xs ++ x ∷ []
cut_more xs i x c = ap (λ k. take k xs) (one_more i) ∙ more xs i x (drop (i + 1) xs) c
  where
    one_more : (i : ℕ) → i + 1 ≡ suc i
    one_more i = omega arith

    first : {X : Type 0} (x y : X) (xs ys : List X) → x ∷ xs ≡ y ∷ ys → x ≡ y
    first x y xs ys e = cc

    more : {X : Type 0} (xs : List X) (i : ℕ) (x : X) (ys : List X) → drop i xs ≡ x ∷ ys → take (suc i) xs ≡ take i xs ++ x ∷ []
    more [] zero x ys c = cc
    more [] (suc i) x ys c = cc
    more (y ∷ xs) zero x ys c = ap (λ z. z ∷ []) (first y x xs ys c)
    more (y ∷ xs) (suc i) x ys c = ap (λ zs. y ∷ zs) (more xs i x ys c)

pub cut_within : {X : Type 0} (xs : List X) (i : ℕ) (x : X) → Cut xs i x → Among (x ∷ []) xs
cut_within xs i x c y m =
    subst (λ z. Contains xs z) (one_in x y m) (subst (λ ys. Contains ys x) (cut_whole xs i x c) (in_right (take i xs) (x ∷ drop (i + 1) xs) x (head_in x (drop (i + 1) xs))))

module _ (g : Setting) (d : ℕ) (p : Places) where
  -- none, and one

  pub any_none : AnyDecided g d p [] (Ok false)
  any_none t k gr = (λ h. none (of_any (λ e. HoldsOf g d e.0 e.1 t) [] h).1, λ f h. none (of_any (λ e. FailsOf g d everything e.0 e.1 t f) [] h).1)
    where
      none : {e : Context × Term} → Contains [] e → ⊥
      none {e} m = none_in e m

  pub any_one : (e : Context × Term) (r : Result Bool EvalFault) → IsDecided g d p e.0 e.1 r → AnyDecided g d p (e ∷ []) r
  any_one e r w t k gr =
      let H : Context × Term → Type 0 = λ x. HoldsOf g d x.0 x.1 t in
      let F : Fault → Context × Term → Type 0 = λ f x. FailsOf g d everything x.0 x.1 t f in
      answered_so (HoldsOf g d e.0 e.1 t) (HoldsAny g d (e ∷ []) t) (FailsOf g d everything e.0 e.1 t) (FailsAny g d everything (e ∷ []) t)
      (λ m. any_of H (e ∷ []) e (head_in e []) m) (λ m. let x = of_any H (e ∷ []) m in subst H (sym (one_in e x.0 x.1)) x.2)
      (λ f m. any_of (F f) (e ∷ []) e (head_in e []) m) (λ f m. let x = of_any (F f) (e ∷ []) m in subst (F f) (sym (one_in e x.0 x.1)) x.2)
      r (w t k (gr e (head_in e [])))

  -- more of them

  quiet : (es : Parts) (t : Values) (b : Bool) → Answered (HoldsAny g d es t) (FailsAny g d everything es t) (Ok b) → (f : Fault) → ¬ FailsAny g d everything es t f
  quiet es t true h = h.1
  quiet es t false h = h.1

  both_quiet : (xs ys : Parts) (t : Values) → ((f : Fault) → ¬ FailsAny g d everything xs t f) → ((f : Fault) → ¬ FailsAny g d everything ys t f) → (f : Fault) → ¬ FailsAny g d everything (xs ++ ys) t f
  both_quiet xs ys t h k f m = elim (any_either (λ e. FailsOf g d everything e.0 e.1 t f) xs ys m) [
    | inl x ↦ h f x
    | inr y ↦ k f y
  ]

  pub any_true : (xs ys : Parts) (b : Bool) → AnyDecided g d p xs (Ok b) → AnyDecided g d p ys (Ok true) → AnyDecided g d p (xs ++ ys) (Ok true)
  any_true xs ys b w v t k gr =
      let left = w t k (λ e m. gr e (in_left xs ys e m)) in
      let right = v t k (λ e m. gr e (in_right xs ys e m)) in
      (any_right (λ e. HoldsOf g d e.0 e.1 t) xs ys right.0, both_quiet xs ys t (quiet xs t b left) right.1)

  pub any_false : (xs ys : Parts) (b : Bool) → AnyDecided g d p xs (Ok b) → AnyDecided g d p ys (Ok false) → AnyDecided g d p (xs ++ ys) (Ok b)
  any_false xs ys true w v t k gr =
      let left = w t k (λ e m. gr e (in_left xs ys e m)) in
      let right = v t k (λ e m. gr e (in_right xs ys e m)) in
      (any_left (λ e. HoldsOf g d e.0 e.1 t) xs ys left.0, both_quiet xs ys t left.1 right.1)
  any_false xs ys false w v t k gr =
      let left = w t k (λ e m. gr e (in_left xs ys e m)) in
      let right = v t k (λ e m. gr e (in_right xs ys e m)) in
      (λ h. elim (any_either (λ e. HoldsOf g d e.0 e.1 t) xs ys h) [ inl m ↦ left.0 m | inr m ↦ right.0 m ], both_quiet xs ys t left.1 right.1)

  -- a fault of some of them
  pub any_stop : (ys es : Parts) (x : EvalFault) → Among ys es → AnyDecided g d p ys (Err x) → AnyDecided g d p es (Err x)
  any_stop ys es (Refused kind at) i w t k gr =
      let F : Context × Term → Type 0 = λ e. FailsOf g d everything e.0 e.1 t (fault kind at) in
      let r = of_any F ys (w t k (λ e m. gr e (i e m))) in
      any_of F es r.0 (i r.0 r.1) r.2
  any_stop ys es NoMemory i w t k gr = tt

  -- in a loop over the parts

  pub any_start : (es : Parts) (b : Bool) → b ≡ false → AnyDecided g d p (take 0 es) (Ok b)
  any_start es b e = subst (λ (x : Bool). AnyDecided g d p [] (Ok x)) (sym e) any_none

  any_goes_on : (es : Parts) (i : ℕ) (e : Context × Term) (b : Bool) → Cut es i e → AnyDecided g d p (take i es) (Ok b) → IsDecided g d p e.0 e.1 (Ok false) → AnyDecided g d p (take (i + 1) es) (Ok b)
  any_goes_on es i e b c w v = subst (λ (us : Parts). AnyDecided g d p us (Ok b)) (sym (cut_more es i e c)) (any_false (take i es) (e ∷ []) b w (any_one e (Ok false) v))

  any_found : (es : Parts) (i : ℕ) (e : Context × Term) (b : Bool) → Cut es i e → AnyDecided g d p (take i es) (Ok b) → IsDecided g d p e.0 e.1 (Ok true) → AnyDecided g d p (take (i + 1) es) (Ok true)
  any_found es i e b c w v = subst (λ (us : Parts). AnyDecided g d p us (Ok true)) (sym (cut_more es i e c)) (any_true (take i es) (e ∷ []) b w (any_one e (Ok true) v))

  pub any_more : (es : Parts) (i : ℕ) (e : Context × Term) (b more : Bool) → Cut es i e → AnyDecided g d p (take i es) (Ok b) → IsDecided g d p e.0 e.1 (Ok more) → AnyDecided g d p (take (i + 1) es) (Ok (b || more))
  any_more es i e true true c w v = any_found es i e true c w v
  any_more es i e true false c w v = any_goes_on es i e true c w v
  any_more es i e false true c w v = any_found es i e false c w v
  any_more es i e false false c w v = any_goes_on es i e false c w v

  pub any_stops : (es : Parts) (i : ℕ) (e : Context × Term) (x : EvalFault) → Cut es i e → IsDecided g d p e.0 e.1 (Err x) → AnyDecided g d p es (Err x)
  any_stops es i e x c v = any_stop (e ∷ []) es x (cut_within es i e c) (any_one e (Err x) v)

  pub any_ends : (es : Parts) (i : ℕ) (b : Bool) → length es ≤ i → AnyDecided g d p (take i es) (Ok b) → AnyDecided g d p es (Ok b)
  any_ends es i b l w = subst (λ (us : Parts). AnyDecided g d p us (Ok b)) (take_all i es l) w

  pub any_ground : (es : Parts) (i : ℕ) (e : Context × Term) → Cut es i e → EachGrounded g d p es → Grounded g d p e.0 e.1
  any_ground es i e c gr = gr e (cut_within es i e c e (head_in e []))

-- choices of members

with_append : (xs ys : List Val) (all : List (List Val)) → with_each (xs ++ ys) all ≡ with_each xs all ++ with_each ys all
with_append [] ys all = refl
with_append (x ∷ xs) ys all =
    let here = map (λ (chosen : List Val). x ∷ chosen) all in
    ap (λ (us : List (List Val)). here ++ us) (with_append xs ys all) ∙ sym (append_assoc here (with_each xs all) (with_each ys all))

-- those with this member first
abbrev pub with_first : Val → List (List Val) → List (List Val)
with_first v all = map (λ chosen. v ∷ chosen) all

module _ (c : Context) (e : Term) (all : List (List Val)) where
  abbrev pub chosen_of : List Val → Parts
  chosen_of vs = under c e (with_each vs all)

  chosen_append : (xs ys : List Val) → chosen_of (xs ++ ys) ≡ chosen_of xs ++ chosen_of ys
  chosen_append xs ys = ap (under c e) (with_append xs ys all) ∙ map-append (λ (vs : List Val). (bind c vs, e)) (with_each xs all) (with_each ys all)

  only_first : (v : Val) → chosen_of (v ∷ []) ≡ under c e (with_first v all)
  only_first v = ap (under c e) (to_end (with_first v all))

  first_among : (vs : List Val) (i : ℕ) (v : Val) → Cut vs i v → Among (under c e (with_first v all)) (chosen_of vs)
  first_among vs i v k x m =
      let whole : chosen_of (take i vs) ++ chosen_of (v ∷ drop (i + 1) vs) ≡ chosen_of vs = sym (chosen_append (take i vs) (v ∷ drop (i + 1) vs)) ∙ ap chosen_of (cut_whole vs i v k) in
      let first : chosen_of (v ∷ drop (i + 1) vs) ≡ under c e (with_first v all) ++ chosen_of (drop (i + 1) vs) = map-append (λ (us : List Val). (bind c us, e)) (with_first v all) (with_each (drop (i + 1) vs) all) in
      let there = in_left (under c e (with_first v all)) (chosen_of (drop (i + 1) vs)) x m in
      subst (λ (us : Parts). Contains us x) whole (in_right (chosen_of (take i vs)) (chosen_of (v ∷ drop (i + 1) vs)) x (subst (λ (us : Parts). Contains us x) (sym first) there))

  one_more : (vs : List Val) (i : ℕ) (v : Val) → Cut vs i v → chosen_of (take (i + 1) vs) ≡ chosen_of (take i vs) ++ under c e (with_first v all)
  one_more vs i v k = ap chosen_of (cut_more vs i v k) ∙ chosen_append (take i vs) (v ∷ []) ∙ ap (λ (us : Parts). chosen_of (take i vs) ++ us) (only_first v)

  module _ (g : Setting) (d : ℕ) (p : Places) where
    pub first_ground : (vs : List Val) (i : ℕ) (v : Val) → Cut vs i v → EachGrounded g d p (chosen_of vs) → EachGrounded g d p (under c e (with_first v all))
    first_ground vs i v k gr x m = gr x (first_among vs i v k x m)

    pub members_start : (vs : List Val) (b : Bool) → b ≡ false → AnyDecided g d p (chosen_of (take 0 vs)) (Ok b)
    members_start vs b h = subst (λ (x : Bool). AnyDecided g d p [] (Ok x)) (sym h) (any_none g d p)

    members_go_on : (vs : List Val) (i : ℕ) (v : Val) (b : Bool) → Cut vs i v → AnyDecided g d p (chosen_of (take i vs)) (Ok b) → AnyDecided g d p (under c e (with_first v all)) (Ok false) → AnyDecided g d p (chosen_of (take (i + 1) vs)) (Ok b)
    members_go_on vs i v b k w h = subst (λ (us : Parts). AnyDecided g d p us (Ok b)) (sym (one_more vs i v k)) (any_false g d p (chosen_of (take i vs)) (under c e (with_first v all)) b w h)

    members_found : (vs : List Val) (i : ℕ) (v : Val) (b : Bool) → Cut vs i v → AnyDecided g d p (chosen_of (take i vs)) (Ok b) → AnyDecided g d p (under c e (with_first v all)) (Ok true) → AnyDecided g d p (chosen_of (take (i + 1) vs)) (Ok true)
    members_found vs i v b k w h = subst (λ (us : Parts). AnyDecided g d p us (Ok true)) (sym (one_more vs i v k)) (any_true g d p (chosen_of (take i vs)) (under c e (with_first v all)) b w h)

    pub members_more : (vs : List Val) (i : ℕ) (v : Val) (b more : Bool) → Cut vs i v → AnyDecided g d p (chosen_of (take i vs)) (Ok b) → AnyDecided g d p (under c e (with_first v all)) (Ok more) → AnyDecided g d p (chosen_of (take (i + 1) vs)) (Ok (b || more))
    members_more vs i v true true k w h = members_found vs i v true k w h
    members_more vs i v true false k w h = members_go_on vs i v true k w h
    members_more vs i v false true k w h = members_found vs i v false k w h
    members_more vs i v false false k w h = members_go_on vs i v false k w h

    pub members_stop : (vs : List Val) (i : ℕ) (v : Val) (x : EvalFault) → Cut vs i v → AnyDecided g d p (under c e (with_first v all)) (Err x) → AnyDecided g d p (chosen_of vs) (Err x)
    members_stop vs i v x k h = any_stop g d p (under c e (with_first v all)) (chosen_of vs) x (first_among vs i v k) h

    pub members_end : (vs : List Val) (i : ℕ) (b : Bool) → length vs ≤ i → AnyDecided g d p (chosen_of (take i vs)) (Ok b) → AnyDecided g d p (chosen_of vs) (Ok b)
    members_end vs i b l w = subst (λ (us : List Val). AnyDecided g d p (chosen_of us) (Ok b)) (take_all i vs l) w

-- a list by its first: the rest is cut by its length

rest_whole : {X : Type 0} (y : X) (ys : List X) → take (length (y ∷ ys) - 1) ys ≡ ys
rest_whole y ys =
    let few : length ys ≤ length (y ∷ ys) - 1 = omega arith in
    take_all (length (y ∷ ys) - 1) ys few

pub first_and_rest : {X Y : Type 0} (f : X → Y) (xs : List X) (x : X) → 0 < length xs → x ≡ get_or xs 0 x → map f xs ≡ f x ∷ map f (take (length xs - 1) (drop 1 xs))
first_and_rest f [] x l e = absurd (omega (arith, l))
first_and_rest f (y ∷ ys) x l e = ap (λ z. f z ∷ map f ys) (sym e) ∙ ap (λ zs. f x ∷ map f zs) (sym (rest_whole y ys))

pub rest_length : {X : Type 0} (xs : List X) → 0 < length xs → suc (length (take (length xs - 1) (drop 1 xs))) ≡ length xs
rest_length [] l = absurd (omega (arith, l))
rest_length (y ∷ ys) l = ap (λ zs. suc (length zs)) (rest_whole y ys)

-- under no names more, and under one name more

pub bind_none : (c : Context) → bind c [] ≡ c
bind_none c =
    let bound : List Val → Context = λ vs. record { slots = vs; now = c.now; next = c.next } in
    ap bound (to_end c.slots)

pub under_none : (c : Context) (e : Term) → under c e (combinations []) ≡ (c, e) ∷ []
under_none c e = ap (λ (b : Context). (b, e) ∷ []) (bind_none c)

pub under_one : (c : Context) (e : Term) (v : Val) (all : List (List Val)) → under (bind c (v ∷ [])) e all ≡ under c e (with_first v all)
under_one c e v [] = refl
under_one c e v (vs ∷ all) =
    let bound : List Val → Context = λ us. record { slots = us; now = c.now; next = c.next } in
    let here : bind (bind c (v ∷ [])) vs ≡ bind c (v ∷ vs) = ap bound (append_assoc c.slots (v ∷ []) vs) in
    ap (λ (b : Context). (b, e) ∷ under (bind c (v ∷ [])) e all) here ∙ ap (λ (us : Parts). (bind c (v ∷ vs), e) ∷ us) (under_one c e v all)

empty : {X : Type 0} (xs : List X) → length xs ≡ 0 → xs ≡ []
empty [] z = refl
empty (x ∷ xs) z = absurd (omega (arith, z))

pub no_lists_ground : (g : Setting) (d : ℕ) (p : Places) (c : Context) (e : Term) (lists : List (List Val)) → length lists ≡ 0 → EachGrounded g d p (under c e (combinations lists)) → Grounded g d p c e
no_lists_ground g d p c e lists z gr =
    let same : under c e (combinations lists) ≡ (c, e) ∷ [] = ap (λ (ls : List (List Val)). under c e (combinations ls)) (empty lists z) ∙ under_none c e in
    gr (c, e) (subst (λ (us : Parts). Contains us (c, e)) (sym same) (head_in (c, e) []))

pub no_lists_decided : (g : Setting) (d : ℕ) (p : Places) (c : Context) (e : Term) (lists : List (List Val)) (r : Result Bool EvalFault) → length lists ≡ 0 → IsDecided g d p c e r → AnyDecided g d p (under c e (combinations lists)) r
no_lists_decided g d p c e lists r z w =
    let same : under c e (combinations lists) ≡ (c, e) ∷ [] = ap (λ (ls : List (List Val)). under c e (combinations ls)) (empty lists z) ∙ under_none c e in
    subst (λ (us : Parts). AnyDecided g d p us r) (sym same) (any_one g d p (c, e) r w)
