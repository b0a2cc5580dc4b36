-- Lists of parts, in the midst of a loop: what the rest comes to, the whole comes to.
use Rattle.std.proofs.Common.{◌≡◌, inl, inr, refl, ap, sym, ◌∙◌, subst, List, [], ◌∷◌, ◌++◌, length, drop, get_or, ◌<◌, ◌≤◌, ◌+◌, ℕ, zero, suc, map, append_assoc, arith, rules}
use Rattle.std.specs.Prelude.{Bool, true, false, Result, Ok, Err, if◌then◌else◌}
use Rattle.std.proofs.Math.Seq.{drop-cons}
use Rattle.std.specs.List.{drop-map}
use Rattle.states_core.specs.declared.fault.Fault.{Fault}
use Rattle.eval_meanings.specs.declared.fault.EvalFault.{EvalFault}
use Rattle.eval_meanings.specs.declared.fault.EvalFault.TheVariants.{Refused, NoMemory}
use Rattle.values_core.specs.Data.{Val}
use Rattle.values_core.specs.declared.fault.EvalKind.TheVariants.{NoChoice}
use Rattle.eval_meanings.specs.Answers.{Tells}
use Rattle.eval_meanings.specs.Binders.{FirstThat, Passing}
use Rattle.reading_trees.specs.declared.operators.InfixOperator.{InfixOperator}
use Rattle.eval_meanings.specs.Contexts.{Context, Evaluate}
use Rattle.eval_meanings.specs.Meanings.{ChainEvaluates, FirstArm}
use Rattle.eval_meanings.specs.Unchanged.{TruthOf}
use Rattle.eval_meanings.specs.Operations.{InfixAnswers}
use Rattle.eval_meanings.specs.Sets.{first_operand, other_operands}
use Rattle.eval_meanings.specs.Outcomes.{Outcome, Gives, Then, Each, AllTrue, SomeTrue, Operated, fault, place_in}
use Rattle.base_core.specs.declared.place.Place.{Place}
use Rattle.names_terms.specs.Terms.{Arms, Term, Terms, NoTerms, MoreTerms, Operands, First, Next, place_of}
use Rattle.names_terms.specs.declared.term.Operand.{Operand}
use Rattle.names_terms.specs.declared.term.Arm.{Arm}
use Rattle.names_terms.specs.TermViews.{arm_item, arms_of, terms_of, operands_from, operands_of}
use Rattle.names_terms.specs.Lists.{arms_list, terms_list}
use Rattle.eval_parts.proofs.Listed.{arms_listed, terms_listed}
use Rattle.eval_meanings.specs.Reads.{ArmsRead, InfixReads, Reading, ReadsEach, is_chained}
use Rattle.eval_parts.specs.Scenes.{HasMore, Stops, operand_item}

abbrev pub Cut : {X : Type 0} → List X → ℕ → X → Type 0
Cut xs i x = drop i xs ≡ x ∷ drop (i + 1) xs

pub cut_at : {X : Type 0} (xs : List X) (i : ℕ) (x : X) → i < length xs → x ≡ get_or xs i x → Cut xs i x
cut_at xs i x l e =
    let n : suc i ≡ i + 1 = omega arith in
    subst (λ k. drop i xs ≡ x ∷ drop k xs) n (drop-cons xs i x l ∙ ap (λ y. y ∷ drop (suc i) xs) (sym e))

pub cut_end : {X : Type 0} (xs : List X) (i : ℕ) → length xs ≤ i → drop i xs ≡ []
cut_end [] zero l = refl
cut_end [] (suc i) l = refl
cut_end (x ∷ xs) zero l = absurd (omega arith)
cut_end (x ∷ xs) (suc i) l = cut_end xs i (omega arith)

to_end : {X : Type 0} (xs : List X) → xs ++ [] ≡ xs
to_end xs = search rules

value_or : {A : Type 0} → A → Result A Fault → A
value_or w (Ok x) = x
value_or w (Err f) = w

pushed_length : {X : Type 0} (xs : List X) (x : X) → length (xs ++ x ∷ []) ≡ suc (length xs)
pushed_length [] x = refl
pushed_length (y ∷ xs) x = ap suc (pushed_length xs x)

-- of each what comes of it
module _ {A B : Type 0} (P : A → Outcome B) where
  abbrev pub EachSoFar : List A → ℕ → List B → Type 0
  EachSoFar xs i ys = (r : Result (List B) Fault) → Then (Each P (drop i xs)) (λ zs. Gives (ys ++ zs)) r → Each P xs r

  pub each_begins : (xs : List A) → EachSoFar xs 0 []
  each_begins xs r (inl (zs, h, e)) = let Q : Result (List B) Fault → Type 0 = λ q. Each P xs q in subst Q (sym e) h
  each_begins xs r (inr (f, h, e)) = let Q : Result (List B) Fault → Type 0 = λ q. Each P xs q in subst Q (sym e) h

  pub each_goes_on : (xs : List A) (i : ℕ) (x : A) (ys : List B) (y : B) → Cut xs i x → P x (Ok y) → EachSoFar xs i ys → EachSoFar xs (i + 1) (ys ++ y ∷ [])
  each_goes_on xs i x ys y c p s r (inl (zs, h, e)) =
      let Q : List A → Type 0 = λ us. Then (Each P us) (λ (ws : List B). Gives (ys ++ ws)) r in
      let E : Result (List B) Fault → Type 0 = λ q. r ≡ q in
      s r (subst Q (sym c) (inl (y ∷ zs, inl (y, p, inl (zs, h, refl)), e ∙ ap Ok (again ys y zs))))
    where
      again : (ys : List B) (y : B) (zs : List B) → (ys ++ y ∷ []) ++ zs ≡ ys ++ y ∷ zs
      again [] y zs = refl
      again (u ∷ us) y zs = ap (λ ws. u ∷ ws) (again us y zs)
  each_goes_on xs i x ys y c p s r (inr (f, h, e)) =
      let Q : List A → Type 0 = λ us. Then (Each P us) (λ (ws : List B). Gives (ys ++ ws)) r in
      s r (subst Q (sym c) (inr (f, inl (y, p, inr (f, h, refl)), e)))

  pub each_stops : (xs : List A) (i : ℕ) (x : A) (ys : List B) (f : EvalFault) → Cut xs i x → Tells {A = B} (Err f) (P x) → EachSoFar xs i ys → Stops (Each P xs) f
  each_stops xs i x ys (Refused kind at) c p s =
      let f = fault kind at in
      let Q : List A → Type 0 = λ us. Then (Each P us) (λ (ws : List B). Gives (ys ++ ws)) (Err (fault kind at)) in
      s (Err (fault kind at)) (subst Q (sym c) (inr (fault kind at, inr (fault kind at, p, refl), refl)))
  each_stops xs i x ys NoMemory c p s = tt

  pub each_ends : (xs : List A) (i : ℕ) (ys : List B) → length xs ≤ i → EachSoFar xs i ys → Each P xs (Ok ys)
  each_ends xs i ys l s =
      let Q : List A → Type 0 = λ us. Then (Each P us) (λ (ws : List B). Gives (ys ++ ws)) (Ok ys) in
      s (Ok ys) (subst Q (sym (cut_end xs i l)) (inl ([], refl, ap Ok (sym (to_end ys)))))

-- whether all are true
module _ {A : Type 0} (P : A → Outcome Bool) where
  abbrev pub AllSoFar : List A → ℕ → Type 0
  AllSoFar xs i = (r : Result Bool Fault) → AllTrue P (drop i xs) r → AllTrue P xs r

  pub all_begins : (xs : List A) → AllSoFar xs 0
  all_begins xs r h = h

  pub all_goes_on : (xs : List A) (i : ℕ) (x : A) → Cut xs i x → P x (Ok true) → AllSoFar xs i → AllSoFar xs (i + 1)
  all_goes_on xs i x c p s r h = let Q : List A → Type 0 = λ us. AllTrue P us r in s r (subst Q (sym c) (inl (true, p, h)))

  pub all_denied : (xs : List A) (i : ℕ) (x : A) → Cut xs i x → P x (Ok false) → AllSoFar xs i → AllTrue P xs (Ok false)
  all_denied xs i x c p s = let Q : List A → Type 0 = λ us. AllTrue P us (Ok false) in s (Ok false) (subst Q (sym c) (inl (false, p, refl)))

  pub all_stops : (xs : List A) (i : ℕ) (x : A) (f : EvalFault) → Cut xs i x → Tells {A = Bool} (Err f) (P x) → AllSoFar xs i → Tells {A = Bool} (Err f) (AllTrue P xs)
  all_stops xs i x (Refused kind at) c p s =
      let Q : List A → Type 0 = λ us. AllTrue P us (Err (fault kind at)) in s (Err (fault kind at)) (subst Q (sym c) (inr (fault kind at, p, refl)))
  all_stops xs i x NoMemory c p s = tt

  pub all_ends : (xs : List A) (i : ℕ) → length xs ≤ i → AllSoFar xs i → AllTrue P xs (Ok true)
  all_ends xs i l s = let Q : List A → Type 0 = λ us. AllTrue P us (Ok true) in s (Ok true) (subst Q (sym (cut_end xs i l)) refl)

-- whether one is true
module _ {A : Type 0} (P : A → Outcome Bool) where
  abbrev pub SomeSoFar : List A → ℕ → Type 0
  SomeSoFar xs i = (r : Result Bool Fault) → SomeTrue P (drop i xs) r → SomeTrue P xs r

  pub some_begins : (xs : List A) → SomeSoFar xs 0
  some_begins xs r h = h

  pub some_goes_on : (xs : List A) (i : ℕ) (x : A) → Cut xs i x → P x (Ok false) → SomeSoFar xs i → SomeSoFar xs (i + 1)
  some_goes_on xs i x c p s r h = let Q : List A → Type 0 = λ us. SomeTrue P us r in s r (subst Q (sym c) (inl (false, p, h)))

  pub some_granted : (xs : List A) (i : ℕ) (x : A) → Cut xs i x → P x (Ok true) → SomeSoFar xs i → SomeTrue P xs (Ok true)
  some_granted xs i x c p s = let Q : List A → Type 0 = λ us. SomeTrue P us (Ok true) in s (Ok true) (subst Q (sym c) (inl (true, p, refl)))

  pub some_stops : (xs : List A) (i : ℕ) (x : A) (f : EvalFault) → Cut xs i x → Tells {A = Bool} (Err f) (P x) → SomeSoFar xs i → Tells {A = Bool} (Err f) (SomeTrue P xs)
  some_stops xs i x (Refused kind at) c p s =
      let Q : List A → Type 0 = λ us. SomeTrue P us (Err (fault kind at)) in s (Err (fault kind at)) (subst Q (sym c) (inr (fault kind at, p, refl)))
  some_stops xs i x NoMemory c p s = tt

  pub some_ends : (xs : List A) (i : ℕ) → length xs ≤ i → SomeSoFar xs i → SomeTrue P xs (Ok false)
  some_ends xs i l s = let Q : List A → Type 0 = λ us. SomeTrue P us (Ok false) in s (Ok false) (subst Q (sym (cut_end xs i l)) refl)

-- each of the parts can be evaluated
pub reads_at : (part : Reading) (c : Context) (xs : List Term) (i : ℕ) (x : Term) → ReadsEach part c (drop i xs) → Cut xs i x → part c x × ReadsEach part c (drop (i + 1) xs)
reads_at part c xs i x h e = subst (λ (us : List Term). ReadsEach part c us) e h

-- slots behind slots
pub slots_end : {X : Type 0} (xs ys vs : List X) (i : ℕ) → length vs ≤ i → xs ++ drop i vs ≡ ys ++ vs → xs ≡ ys ++ vs
slots_end xs ys vs i l e = sym (to_end xs) ∙ ap (λ zs. xs ++ zs) (sym (cut_end vs i l)) ∙ e

-- the terms of a list by its items
pub items_are : (xs : List Term) (ts : Terms) → terms_of xs ≡ ts → terms_list ts ≡ xs
items_are xs ts e = ap terms_list (sym e) ∙ terms_listed xs

pub of_items : (Q : List Term → Type 0) (xs : List Term) (ts : Terms) → terms_of xs ≡ ts → Q xs → Q (terms_list ts)
of_items Q xs ts e h = subst Q (sym (items_are xs ts e)) h

pub to_items : (Q : List Term → Type 0) (xs : List Term) (ts : Terms) → terms_of xs ≡ ts → Q (terms_list ts) → Q xs
to_items Q xs ts e h = subst Q (items_are xs ts e) h

-- as many values as terms
pub each_length : {A B : Type 0} (P : A → Outcome B) (xs : List A) (ys : List B) → Each P xs (Ok ys) → length ys ≡ length xs
unfolding value_or
each_length P [] ys e = ap (λ q. length (value_or ys q)) e
each_length P (x ∷ xs) ys (inl (y, p, inl (zs, h, e))) = ap (λ q. length (value_or ys q)) e ∙ ap suc (each_length P xs zs h)
each_length P (x ∷ xs) ys (inl (y, p, inr (f, h, e))) = cc
each_length P (x ∷ xs) ys (inr (f, p, e)) = cc

-- no terms
pub none_is : (ts : Terms) → length (terms_list ts) ≡ 0 → ts ≡ NoTerms
none_is NoTerms e = refl
none_is (MoreTerms ts x) e = absurd (omega (arith, e, pushed_length (terms_list ts) x))

-- places of terms
pub places_on : (xs : List Term) (i : ℕ) (x : Term) (ps new : List Place) → Cut xs i x → new ≡ ps ++ place_of x ∷ [] → ps ++ map place_of (drop i xs) ≡ map place_of xs → new ++ map place_of (drop (i + 1) xs) ≡ map place_of xs
places_on xs i x ps new c e h =
    let step : ps ++ map place_of (drop i xs) ≡ ps ++ place_of x ∷ map place_of (drop (i + 1) xs) = ap (λ us. ps ++ map place_of us) c in
    ap (λ us. us ++ map place_of (drop (i + 1) xs)) e ∙ append_assoc ps (place_of x ∷ []) (map place_of (drop (i + 1) xs)) ∙ sym step ∙ h

pub places_end : (xs : List Term) (i : ℕ) (ps : List Place) → length xs ≤ i → ps ++ map place_of (drop i xs) ≡ map place_of xs → ps ≡ map place_of xs
places_end xs i ps l h = sym (to_end ps) ∙ ap (λ us. ps ++ map place_of us) (sym (cut_end xs i l)) ∙ h

-- operands behind the first
has_more_from : (os : Operands) (xs : List Operand) → HasMore os → HasMore (operands_from os xs)
has_more_from os [] h = h
has_more_from os (x ∷ xs) h = has_more_from (Next os x.at x.value) xs tt

pub has_more : (t : Term) (xs : List Operand) (os : Operands) → operands_of t xs ≡ os → 0 < length xs → HasMore os
has_more t [] os e l = absurd (omega (arith, l))
has_more t (x ∷ xs) os e l = subst (λ (ps : Operands). HasMore ps) e (has_more_from (Next (First t) x.at x.value) xs tt)

-- those that pass a test
module _ (P : Val → Outcome Bool) where
  abbrev pub PassingSoFar : List Val → ℕ → List Val → Type 0
  PassingSoFar xs i ys = (r : Result (List Val) Fault) → Then (Passing P (drop i xs)) (λ zs. Gives (ys ++ zs)) r → Passing P xs r

  pub passing_begins : (xs : List Val) → PassingSoFar xs 0 []
  passing_begins xs r (inl (zs, h, e)) = let Q : Result (List Val) Fault → Type 0 = λ q. Passing P xs q in subst Q (sym e) h
  passing_begins xs r (inr (f, h, e)) = let Q : Result (List Val) Fault → Type 0 = λ q. Passing P xs q in subst Q (sym e) h

  again : (ys : List Val) (y : Val) (zs : List Val) → (ys ++ y ∷ []) ++ zs ≡ ys ++ y ∷ zs
  again [] y zs = refl
  again (u ∷ us) y zs = ap (λ ws. u ∷ ws) (again us y zs)

  pub passing_kept : (xs : List Val) (i : ℕ) (x : Val) (ys : List Val) → Cut xs i x → P x (Ok true) → PassingSoFar xs i ys → PassingSoFar xs (i + 1) (ys ++ x ∷ [])
  passing_kept xs i x ys c p s r (inl (zs, h, e)) =
      let Q : List Val → Type 0 = λ us. Then (Passing P us) (λ (ws : List Val). Gives (ys ++ ws)) r in
      s r (subst Q (sym c) (inl (x ∷ zs, inl (true, p, inl (zs, h, refl)), e ∙ ap Ok (again ys x zs))))
  passing_kept xs i x ys c p s r (inr (f, h, e)) =
      let Q : List Val → Type 0 = λ us. Then (Passing P us) (λ (ws : List Val). Gives (ys ++ ws)) r in
      s r (subst Q (sym c) (inr (f, inl (true, p, inr (f, h, refl)), e)))

  pub passing_left : (xs : List Val) (i : ℕ) (x : Val) (ys : List Val) → Cut xs i x → P x (Ok false) → PassingSoFar xs i ys → PassingSoFar xs (i + 1) ys
  passing_left xs i x ys c p s r (inl (zs, h, e)) =
      let Q : List Val → Type 0 = λ us. Then (Passing P us) (λ (ws : List Val). Gives (ys ++ ws)) r in
      s r (subst Q (sym c) (inl (zs, inl (false, p, inl (zs, h, refl)), e)))
  passing_left xs i x ys c p s r (inr (f, h, e)) =
      let Q : List Val → Type 0 = λ us. Then (Passing P us) (λ (ws : List Val). Gives (ys ++ ws)) r in
      s r (subst Q (sym c) (inr (f, inl (false, p, inr (f, h, refl)), e)))

  pub passing_goes_on : (xs : List Val) (i : ℕ) (x : Val) (ys : List Val) (b : Bool) → Cut xs i x → P x (Ok b) → PassingSoFar xs i ys → PassingSoFar xs (i + 1) (ys ++ (if b then x ∷ [] else []))
  passing_goes_on xs i x ys true c p s = passing_kept xs i x ys c p s
  passing_goes_on xs i x ys false c p s = subst (λ (zs : List Val). PassingSoFar xs (i + 1) zs) (sym (to_end ys)) (passing_left xs i x ys c p s)

  pub passing_stops : (xs : List Val) (i : ℕ) (x : Val) (ys : List Val) (f : EvalFault) → Cut xs i x → Tells {A = Bool} (Err f) (P x) → PassingSoFar xs i ys → Stops (Passing P xs) f
  passing_stops xs i x ys (Refused kind at) c p s =
      let Q : List Val → Type 0 = λ us. Then (Passing P us) (λ (ws : List Val). Gives (ys ++ ws)) (Err (fault kind at)) in
      s (Err (fault kind at)) (subst Q (sym c) (inr (fault kind at, inr (fault kind at, p, refl), refl)))
  passing_stops xs i x ys NoMemory c p s = tt

  pub passing_ends : (xs : List Val) (i : ℕ) (ys : List Val) → length xs ≤ i → PassingSoFar xs i ys → Passing P xs (Ok ys)
  passing_ends xs i ys l s =
      let Q : List Val → Type 0 = λ us. Then (Passing P us) (λ (ws : List Val). Gives (ys ++ ws)) (Ok ys) in
      s (Ok ys) (subst Q (sym (cut_end xs i l)) (inl ([], refl, ap Ok (sym (to_end ys)))))

-- the first that passes a test
module _ (at : Place) (P : Val → Outcome Bool) where
  abbrev pub FirstSoFar : List Val → ℕ → Type 0
  FirstSoFar xs i = (r : Result Val Fault) → FirstThat at P (drop i xs) r → FirstThat at P xs r

  pub first_passed : (xs : List Val) (i : ℕ) (x : Val) → Cut xs i x → P x (Ok false) → FirstSoFar xs i → FirstSoFar xs (i + 1)
  first_passed xs i x c p s r h = let Q : List Val → Type 0 = λ us. FirstThat at P us r in s r (subst Q (sym c) (inl (false, p, h)))

  pub first_found : (xs : List Val) (i : ℕ) (x : Val) → Cut xs i x → P x (Ok true) → FirstSoFar xs i → FirstThat at P xs (Ok x)
  first_found xs i x c p s = let Q : List Val → Type 0 = λ us. FirstThat at P us (Ok x) in s (Ok x) (subst Q (sym c) (inl (true, p, refl)))

  pub first_stops : (xs : List Val) (i : ℕ) (x : Val) (f : EvalFault) → Cut xs i x → Tells {A = Bool} (Err f) (P x) → FirstSoFar xs i → Tells {A = Val} (Err f) (FirstThat at P xs)
  first_stops xs i x (Refused kind p) c q s =
      let Q : List Val → Type 0 = λ us. FirstThat at P us (Err (fault kind p)) in s (Err (fault kind p)) (subst Q (sym c) (inr (fault kind p, q, refl)))
  first_stops xs i x NoMemory c q s = tt

  pub first_none : (xs : List Val) (i : ℕ) → length xs ≤ i → FirstSoFar xs i → FirstThat at P xs (Err (fault NoChoice at))
  first_none xs i l s = let Q : List Val → Type 0 = λ us. FirstThat at P us (Err (fault NoChoice at)) in s (Err (fault NoChoice at)) (subst Q (sym (cut_end xs i l)) refl)

-- a chain whose operands before the index have been taken
module _ (ev : Evaluate) (c : Context) (o : InfixOperator) where
  abbrev pub ChainSoFar : List (Place × Term) → List (Place × Term) → Place → Val → ℕ → Place → Val → Type 0
  ChainSoFar xs end p v i q w = (r : Result Val Fault) → ChainEvaluates ev c o q w (drop i xs ++ end) r → ChainEvaluates ev c o p v (xs ++ end) r

  pub chain_goes_on : (xs end : List (Place × Term)) (p : Place) (v : Val) (i : ℕ) (q : Place) (w : Val) (at : Place) (e : Term) (u : Val) → Cut xs i (at, e) → Then (ev c e) (λ x. Operated (InfixAnswers o w x) (place_in at (q ∷ place_of e ∷ []))) (Ok u) → ChainSoFar xs end p v i q w → ChainSoFar xs end p v (i + 1) at u
  chain_goes_on xs end p v i q w at e u k (inl (x, h, g)) s r t =
      let Q : List (Place × Term) → Type 0 = λ ys. ChainEvaluates ev c o q w (ys ++ end) r in
      s r (subst Q (sym k) (inl (x, h, inl (u, g, t))))
  chain_goes_on xs end p v i q w at e u k (inr (f, h, g)) s r t = cc

  pub chain_stops : (xs end : List (Place × Term)) (p : Place) (v : Val) (i : ℕ) (q : Place) (w : Val) (at : Place) (e : Term) (f : EvalFault) → Cut xs i (at, e) → Tells {A = Val} (Err f) (Then (ev c e) (λ x. Operated (InfixAnswers o w x) (place_in at (q ∷ place_of e ∷ [])))) → ChainSoFar xs end p v i q w → Tells {A = Val} (Err f) (ChainEvaluates ev c o p v (xs ++ end))
  chain_stops xs end p v i q w at e (Refused kind place) k t s = s (Err (fault kind place)) (subst (λ (ys : List (Place × Term)). ChainEvaluates ev c o q w (ys ++ end) (Err (fault kind place))) (sym k) (stopped t))
    where
      stopped : Then (ev c e) (λ x. Operated (InfixAnswers o w x) (place_in at (q ∷ place_of e ∷ []))) (Err (fault kind place)) → ChainEvaluates ev c o q w ((at, e) ∷ drop (i + 1) xs ++ end) (Err (fault kind place))
      stopped (inl (x, h, g)) = inl (x, h, inr (fault kind place, g, refl))
      stopped (inr (f, h, g)) = inr (f, h, g)
  chain_stops xs end p v i q w at e NoMemory k t s = tt

  pub chain_ends : (xs : List (Place × Term)) (at : Place) (e : Term) (p : Place) (v : Val) (i : ℕ) (q : Place) (w : Val) (r : Result Val EvalFault) → length xs ≤ i → Tells r (Then (ev c e) (λ x. Operated (InfixAnswers o w x) (place_in at (q ∷ place_of e ∷ [])))) → ChainSoFar xs ((at, e) ∷ []) p v i q w → Tells r (ChainEvaluates ev c o p v (xs ++ (at, e) ∷ []))
  chain_ends xs at e p v i q w r l t s = told r t
    where
      back : (b : Result Val Fault) → ChainEvaluates ev c o q w ((at, e) ∷ []) b → ChainEvaluates ev c o q w (drop i xs ++ (at, e) ∷ []) b
      back b h = subst (λ (ys : List (Place × Term)). ChainEvaluates ev c o q w (ys ++ (at, e) ∷ []) b) (sym (cut_end xs i l)) h

      value : (u : Val) → Then (ev c e) (λ x. Operated (InfixAnswers o w x) (place_in at (q ∷ place_of e ∷ []))) (Ok u) → ChainEvaluates ev c o q w ((at, e) ∷ []) (Ok u)
      value u (inl (x, h, g)) = inl (x, h, inl (u, g, refl))
      value u (inr (f, h, g)) = cc

      stopped : (f : Fault) → Then (ev c e) (λ x. Operated (InfixAnswers o w x) (place_in at (q ∷ place_of e ∷ []))) (Err f) → ChainEvaluates ev c o q w ((at, e) ∷ []) (Err f)
      stopped f (inl (x, h, g)) = inl (x, h, inr (f, g, refl))
      stopped f (inr (g, h, k)) = inr (g, h, k)

      told : (r : Result Val EvalFault) → Tells r (Then (ev c e) (λ x. Operated (InfixAnswers o w x) (place_in at (q ∷ place_of e ∷ [])))) → Tells r (ChainEvaluates ev c o p v (xs ++ (at, e) ∷ []))
      told (Ok u) h = s (Ok u) (back (Ok u) (value u h))
      told (Err (Refused kind place)) h = s (Err (fault kind place)) (back (Err (fault kind place)) (stopped (fault kind place) h))
      told (Err NoMemory) h = tt

-- the operands of a chain, as they are read
others_from : (os : Operands) (xs : List Operand) → other_operands (operands_from os xs) ≡ other_operands os ++ map operand_item xs
others_from os [] = sym (to_end (other_operands os))
others_from os (x ∷ xs) = others_from (Next os x.at x.value) xs ∙ append_assoc (other_operands os) (operand_item x ∷ []) (map operand_item xs)

pub others_are : (t : Term) (xs : List Operand) (os : Operands) → operands_of t xs ≡ os → map operand_item xs ≡ other_operands os
others_are t xs os e = sym (others_from (First t) xs) ∙ ap other_operands e

first_from : (os : Operands) (xs : List Operand) → first_operand (operands_from os xs) ≡ first_operand os
first_from os [] = refl
first_from os (x ∷ xs) = first_from (Next os x.at x.value) xs

pub first_is : (t : Term) (xs : List Operand) (os : Operands) → operands_of t xs ≡ os → t ≡ first_operand os
first_is t xs os e = sym (first_from (First t) xs) ∙ ap first_operand e

-- three operands or more
pub long_reads : (part : Reading) (c : Context) (o : InfixOperator) (os : Operands) (at : Place) (b : Term) → HasMore os → InfixReads part c o os at b → (is_chained o ≡ true) × part c (first_operand os) × ReadsEach part c (map (λ e. e.1) (other_operands (Next os at b)))
long_reads part c o (First a) at b m h = absurd m
long_reads part c o (Next os p a) at b m h = h

-- the same of items that stand for others
pub cut_mapped : {X Y : Type 0} (f : X → Y) (ys : List X) (i : ℕ) (y : X) → Cut ys i y → Cut (map f ys) i (f y)
cut_mapped f ys i y c = drop-map f i ys ∙ ap (map f) c ∙ ap (λ us. f y ∷ us) (sym (drop-map f (i + 1) ys))

pub chain_reads : (part : Reading) (c : Context) (xs end : List (Place × Term)) (i : ℕ) (at : Place) (e : Term) → Cut xs i (at, e) → ReadsEach part c (map (λ x. x.1) (drop i xs ++ end)) → part c e × ReadsEach part c (map (λ x. x.1) (drop (i + 1) xs ++ end))
chain_reads part c xs end i at e k h = subst (λ (ys : List (Place × Term)). ReadsEach part c (map (λ x. x.1) (ys ++ end))) k h

-- the chain of all operands
pub chain_whole : (ev : Evaluate) (c : Context) (o : InfixOperator) (os : Operands) (xs end : List (Place × Term)) (p : Place) (v : Val) (r : Result Val EvalFault) → p ≡ place_of (first_operand os) → xs ≡ other_operands os → Tells r (ChainEvaluates ev c o p v (xs ++ end)) → Tells r (ChainEvaluates ev c o (place_of (first_operand os)) v (other_operands os ++ end))
chain_whole ev c o os xs end p v r e f t =
    let Q : Place → Type 0 = λ q. Tells r (ChainEvaluates ev c o q v (xs ++ end)) in
    let R : List (Place × Term) → Type 0 = λ ys. Tells r (ChainEvaluates ev c o (place_of (first_operand os)) v (ys ++ end)) in
    subst R f (subst Q e t)

-- arms before the index whose tests are false
module _ (ev : Evaluate) (c : Context) (other : Outcome Val) where
  abbrev pub ArmsSoFar : List (Term × Term) → ℕ → Type 0
  ArmsSoFar xs i = (r : Result Val Fault) → FirstArm ev c other (drop i xs) r → FirstArm ev c other xs r

  pub arm_passed : (xs : List (Term × Term)) (i : ℕ) (x : Term × Term) → Cut xs i x → TruthOf ev c x.0 (Ok false) → ArmsSoFar xs i → ArmsSoFar xs (i + 1)
  arm_passed xs i x k p s r h = let Q : List (Term × Term) → Type 0 = λ us. FirstArm ev c other us r in s r (subst Q (sym k) (inl (false, p, h)))

  pub arm_taken : (xs : List (Term × Term)) (i : ℕ) (x : Term × Term) (r : Result Val EvalFault) → Cut xs i x → TruthOf ev c x.0 (Ok true) → Tells r (ev c x.1) → ArmsSoFar xs i → Tells r (FirstArm ev c other xs)
  arm_taken xs i x (Ok v) k p h s = let Q : List (Term × Term) → Type 0 = λ us. FirstArm ev c other us (Ok v) in s (Ok v) (subst Q (sym k) (inl (true, p, h)))
  arm_taken xs i x (Err (Refused kind at)) k p h s =
      let Q : List (Term × Term) → Type 0 = λ us. FirstArm ev c other us (Err (fault kind at)) in s (Err (fault kind at)) (subst Q (sym k) (inl (true, p, h)))
  arm_taken xs i x (Err NoMemory) k p h s = tt

  pub arm_stops : (xs : List (Term × Term)) (i : ℕ) (x : Term × Term) (f : EvalFault) → Cut xs i x → Tells {A = Bool} (Err f) (TruthOf ev c x.0) → ArmsSoFar xs i → Tells {A = Val} (Err f) (FirstArm ev c other xs)
  arm_stops xs i x (Refused kind at) k p s =
      let Q : List (Term × Term) → Type 0 = λ us. FirstArm ev c other us (Err (fault kind at)) in s (Err (fault kind at)) (subst Q (sym k) (inr (fault kind at, p, refl)))
  arm_stops xs i x NoMemory k p s = tt

  pub arms_end : (xs : List (Term × Term)) (i : ℕ) (r : Result Val EvalFault) → length xs ≤ i → Tells r other → ArmsSoFar xs i → Tells r (FirstArm ev c other xs)
  arms_end xs i (Ok v) l h s = let Q : List (Term × Term) → Type 0 = λ us. FirstArm ev c other us (Ok v) in s (Ok v) (subst Q (sym (cut_end xs i l)) h)
  arms_end xs i (Err (Refused kind at)) l h s =
      let Q : List (Term × Term) → Type 0 = λ us. FirstArm ev c other us (Err (fault kind at)) in s (Err (fault kind at)) (subst Q (sym (cut_end xs i l)) h)
  arms_end xs i (Err NoMemory) l h s = tt

pub arms_read : (part : Reading) (c : Context) (xs : List (Term × Term)) (i : ℕ) (x : Term × Term) → Cut xs i x → ArmsRead part c (drop i xs) → part c x.0 × part c x.1 × ArmsRead part c (drop (i + 1) xs)
arms_read part c xs i x k h = subst (λ (us : List (Term × Term)). ArmsRead part c us) k h

pub arms_are : (xs : List Arm) (arms : Arms) → arms_of xs ≡ arms → map arm_item xs ≡ arms_list arms
arms_are xs arms e = sym (arms_listed xs) ∙ ap arms_list e

-- the one item of a list
pub one_item : {X : Type 0} (xs : List X) (x : X) → length xs ≡ 1 → x ≡ get_or xs 0 x → xs ≡ x ∷ []
one_item [] x n e = absurd (omega (arith, n))
one_item (y ∷ []) x n e = ap (λ u. u ∷ []) (sym e)
one_item (y ∷ z ∷ zs) x n e = absurd (omega (arith, n))
