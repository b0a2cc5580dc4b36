-- Steps behind a primary, taken from left to right, make what the definition says, which takes them from the right.
use Rattle.std.proofs.Common.{◌≡◌, inl, inr, refl, ap, sym, ◌∙◌, subst, List, [], ◌∷◌, ◌++◌, length, drop, get_or, ◌≤◌, ◌+◌, ℕ, zero, suc, map, arith, length-append}
use Rattle.std.proofs.lemmas.List.{get_or_push, length-map}
use Rattle.std.proofs.Math.ListN.{get_or-map}
use Rattle.std.specs.Prelude.{Option, Some, None, Result, Ok, Err}
use Rattle.base_core.specs.declared.place.Place.{Place}
use Rattle.states_core.specs.declared.fault.Fault.{Fault}
use Rattle.values_core.specs.Data.{Val}
use Rattle.values_core.specs.FunctionOperations.{AppliesAt}
use Rattle.names_terms.specs.Lists.{steps_list}
use Rattle.names_terms.specs.Terms as term
use Rattle.names_terms.specs.Terms.{Term, Step, Steps, place_of}
use Rattle.names_terms.specs.TermViews.{step_item, steps_of}
use Rattle.names_terms.specs.declared.term.StepAt.{StepAt}
use Rattle.eval_meanings.specs.declared.fault.EvalFault.{EvalFault}
use Rattle.eval_meanings.specs.declared.fault.EvalFault.TheVariants.{Refused, NoMemory}
use Rattle.eval_meanings.specs.Answers.{Tells}
use Rattle.eval_meanings.specs.Contexts.{Context, Table, Evaluate, Describe, primed}
use Rattle.eval_meanings.specs.Functions.{AtStep, StepKey, StepsEvaluate, steps_place}
use Rattle.eval_meanings.specs.Outcomes.{Outcome, Then, Operated, fault, place_in}
use Rattle.eval_meanings.specs.Recursion.{Recursion as Seen, applied_by}
use Rattle.eval_parts.proofs.Listed.{steps_listed}
use Rattle.eval_parts.proofs.Loops.{Cut, cut_end}
use Rattle.eval_meanings.specs.Reads.{Reading, RecursionReads, StepsRead}
use Rattle.eval_parts.specs.ChangePaths.{HasKey, StepMakes, StepReads, StepsMake, StepsMakeReads, primes_in, under, with_prime}
use Rattle.eval_parts.specs.Recursions.{FirstMakes, FirstReads, first_applied}

-- steps, and more of them behind
abbrev grow : Steps → List (Place × Step) → Steps
grow ss [] = ss
grow ss (x ∷ xs) = grow (term.MoreSteps ss x.0 x.1) xs

grow_last : (ss : Steps) (xs : List (Place × Step)) (p : Place) (s : Step) → grow ss (xs ++ (p, s) ∷ []) ≡ term.MoreSteps (grow ss xs) p s
grow_last ss [] p s = refl
grow_last ss (x ∷ xs) p s = grow_last (term.MoreSteps ss x.0 x.1) xs p s

grown : (ss : Steps) → grow term.NoSteps (steps_list ss) ≡ ss
grown term.NoSteps = refl
grown (term.MoreSteps ss p s) = grow_last term.NoSteps (steps_list ss) p s ∙ ap (λ (ts : Steps). term.MoreSteps ts p s) (grown ss)

-- a prime around primes
under_prime : (n : ℕ) (c : Context) → primed (under n c) ≡ primed c
under_prime zero c = refl
under_prime (suc n) c = refl

-- a step behind other steps gives its key to their value
later : (ops : Table) (e : Term) (ss : Steps) (p : Place) (s t : Step) → applied_by ops e (term.MoreSteps ss p s) t ≡ None
later ops e ss p s t = refl

-- and so does a field
by_name : (ops : Table) (e : Term) (ss : Steps) (h : List ℕ) → applied_by ops e ss (term.Field h) ≡ None
by_name ops e term.NoSteps h = refl
by_name ops e (term.MoreSteps ss p s) h = refl

module _ (ops : Table) (ev : Evaluate) (de : Describe) (c : Context) (e : Term) where
  abbrev Behind : Context → Steps → Outcome Val
  Behind d ss = StepsEvaluate ops ev de d e ss

  abbrev At : Context → Steps → Place → Step → Option Seen → Outcome Val
  At d ss p s x = AtStep ev de d p (steps_place (place_of e) ss) s x (Behind d ss)

  -- the steps before, and then those behind
  abbrev Goes : Steps → List (Place × Step) → Result Val Fault → Type 0
  Goes ss xs r = Then (Behind (under (primes_in xs) c) ss) (StepsMake ev c (steps_place (place_of e) ss) xs) r

  applied_to : (d : Context) (ss : Steps) (p : Place) (s : Step) (x : Option Seen) (r : Result Val Fault) → applied_by ops e ss s ≡ x → At d ss p s x r → At d ss p s (applied_by ops e ss s) r
  applied_to d ss p s x r q h = subst (λ (y : Option Seen). At d ss p s y r) (sym q) h

  one : (ss : Steps) (p : Place) (s : Step) (xs : List (Place × Step)) (r : Result Val Fault) → applied_by ops e ss s ≡ None → Goes ss ((p, s) ∷ xs) r → Goes (term.MoreSteps ss p s) xs r
  one ss p term.Prime xs r n (inl (v, h, inl (w, g, k))) =
      let same : w ≡ v = cc in
      inl (v, subst (λ (d : Context). Behind d ss (Ok v)) (sym (under_prime (primes_in xs) c)) h, subst (λ (u : Val). StepsMake ev c p xs u r) same k)
  one ss p term.Prime xs r n (inl (v, h, inr (f, g, k))) = cc
  one ss p term.Prime xs r n (inr (f, h, k)) = inr (f, subst (λ (d : Context). Behind d ss (Err f)) (sym (under_prime (primes_in xs) c)) h, k)
  one ss p (term.Index ts) xs r n (inl (v, h, inl (w, g, k))) = inl (w, applied_to (under (primes_in xs) c) ss p (term.Index ts) None (Ok w) n (inl (v, h, g)), k)
  one ss p (term.Index ts) xs r n (inl (v, h, inr (f, g, k))) = inr (f, applied_to (under (primes_in xs) c) ss p (term.Index ts) None (Err f) n (inl (v, h, g)), k)
  one ss p (term.Index ts) xs r n (inr (f, h, k)) = inr (f, applied_to (under (primes_in xs) c) ss p (term.Index ts) None (Err f) n (inr (f, h, refl)), k)
  one ss p (term.Field s) xs r n (inl (v, h, inl (w, g, k))) = inl (w, applied_to (under (primes_in xs) c) ss p (term.Field s) None (Ok w) n (inl (v, h, g)), k)
  one ss p (term.Field s) xs r n (inl (v, h, inr (f, g, k))) = inr (f, applied_to (under (primes_in xs) c) ss p (term.Field s) None (Err f) n (inl (v, h, g)), k)
  one ss p (term.Field s) xs r n (inr (f, h, k)) = inr (f, applied_to (under (primes_in xs) c) ss p (term.Field s) None (Err f) n (inr (f, h, refl)), k)

  ended : (ss : Steps) (r : Result Val Fault) → Goes ss [] r → Behind c ss r
  ended ss r (inl (v, h, q)) = subst (λ (x : Result Val Fault). Behind c ss x) (sym q) h
  ended ss r (inr (f, h, q)) = subst (λ (x : Result Val Fault). Behind c ss x) (sym q) h

  goes_on : (ss : Steps) (p : Place) (s : Step) (xs : List (Place × Step)) (r : Result Val Fault) → Goes (term.MoreSteps ss p s) xs r → Behind c (grow (term.MoreSteps ss p s) xs) r
  goes_on ss p s [] r h = ended (term.MoreSteps ss p s) r h
  goes_on ss p s ((q, t) ∷ xs) r h = goes_on (term.MoreSteps ss p s) q t xs r (one (term.MoreSteps ss p s) q t xs r (later ops e ss p s t) h)

  goes : (xs : List (Place × Step)) (r : Result Val Fault) → first_applied ops e xs ≡ None → Goes term.NoSteps xs r → Behind c (grow term.NoSteps xs) r
  goes [] r n h = ended term.NoSteps r h
  goes ((p, s) ∷ xs) r n h = goes_on term.NoSteps p s xs r (one term.NoSteps p s xs r n h)

  -- the first gives its key to a function that uses itself
  begins : (xs : List (Place × Step)) (g : Seen) (r : Result Val Fault) → first_applied ops e xs ≡ Some g → FirstMakes ev de c g xs r → Behind c (grow term.NoSteps xs) r
  begins [] g r q h = absurd h
  begins ((p, term.Prime) ∷ xs) g r q h = absurd (cc)
  begins ((p, term.Field n) ∷ xs) g r q h = absurd (cc)
  begins ((p, term.Index ts) ∷ xs) g r q (inl (v, h, k)) = goes_on term.NoSteps p (term.Index ts) xs r (inl (v, applied_to (under (primes_in xs) c) term.NoSteps p (term.Index ts) (Some g) (Ok v) q h, k))
  begins ((p, term.Index ts) ∷ xs) g r q (inr (f, h, k)) = goes_on term.NoSteps p (term.Index ts) xs r (inr (f, applied_to (under (primes_in xs) c) term.NoSteps p (term.Index ts) (Some g) (Err f) q h, k))

  walked : (ss : Steps) (r : Result Val Fault) → first_applied ops e (steps_list ss) ≡ None → Then (ev (under (primes_in (steps_list ss)) c) e) (StepsMake ev c (place_of e) (steps_list ss)) r → Behind c ss r
  walked ss r n h = subst (λ (ts : Steps). Behind c ts r) (grown ss) (goes (steps_list ss) r n h)

  begun : (ss : Steps) (g : Seen) (r : Result Val Fault) → first_applied ops e (steps_list ss) ≡ Some g → FirstMakes ev de c g (steps_list ss) r → Behind c ss r
  begun ss g r q h = subst (λ (ts : Steps). Behind c ts r) (grown ss) (begins (steps_list ss) g r q h)

  pub steps_told : (ss : Steps) (r : Result Val EvalFault) → first_applied ops e (steps_list ss) ≡ None
      → Tells r (Then (ev (under (primes_in (steps_list ss)) c) e) (StepsMake ev c (place_of e) (steps_list ss))) → Tells r (Behind c ss)
  steps_told ss (Ok v) n h = walked ss (Ok v) n h
  steps_told ss (Err (Refused kind at)) n h = walked ss (Err (fault kind at)) n h
  steps_told ss (Err NoMemory) n h = tt

  pub first_told : (ss : Steps) (g : Seen) (r : Result Val EvalFault) → first_applied ops e (steps_list ss) ≡ Some g → Tells r (FirstMakes ev de c g (steps_list ss)) → Tells r (Behind c ss)
  first_told ss g (Ok v) q h = begun ss g (Ok v) q h
  first_told ss g (Err (Refused kind at)) q h = begun ss g (Err (fault kind at)) q h
  first_told ss g (Err NoMemory) q h = tt

-- what steps read
module _ (ops : Table) (part : Reading) (c : Context) (e : Term) where
  one_reads : (ss : Steps) (p : Place) (s : Step) (xs : List (Place × Step)) → StepsRead ops part (under (primes_in xs) c) e (term.MoreSteps ss p s)
      → StepsRead ops part (under (with_prime s (primes_in xs)) c) e ss × StepReads part (under (primes_in xs) c) s
  one_reads ss p term.Prime xs h = (subst (λ (d : Context). StepsRead ops part d e ss) (under_prime (primes_in xs) c) h, tt)
  one_reads ss p (term.Index ts) xs h = (h.0, h.1)
  one_reads ss p (term.Field s) xs h = (h, tt)

  reads : (ss : Steps) (xs : List (Place × Step)) → StepsRead ops part c e (grow ss xs) → StepsRead ops part (under (primes_in xs) c) e ss × StepsMakeReads part c xs
  reads ss [] h = (h, tt)
  reads ss ((p, s) ∷ xs) h =
      let behind = reads (term.MoreSteps ss p s) xs h in
      let here = one_reads ss p s xs behind.0 in
      (here.0, (here.1, behind.1))

  pub steps_read : (ss : Steps) → StepsRead ops part c e ss → part (under (primes_in (steps_list ss)) c) e × StepsMakeReads part c (steps_list ss)
  steps_read ss h = reads term.NoSteps (steps_list ss) (subst (λ (ts : Steps). StepsRead ops part c e ts) (sym (grown ss)) h)

  begins_read : (xs : List (Place × Step)) (g : Seen) → first_applied ops e xs ≡ Some g → StepsRead ops part c e (grow term.NoSteps xs) → FirstReads part c g xs
  begins_read [] g q h = absurd (cc)
  begins_read ((p, term.Prime) ∷ xs) g q h = absurd (cc)
  begins_read ((p, term.Field n) ∷ xs) g q h = absurd (cc)
  begins_read ((p, term.Index ts) ∷ xs) g q h =
      let behind = reads (term.MoreSteps term.NoSteps p (term.Index ts)) xs h in
      (tt, behind.0.1, subst (λ (x : Option Seen). RecursionReads part (under (primes_in xs) c) x) q behind.0.2, behind.1)

  pub first_read : (ss : Steps) (g : Seen) → first_applied ops e (steps_list ss) ≡ Some g → StepsRead ops part c e ss → FirstReads part c g (steps_list ss)
  first_read ss g q h = begins_read (steps_list ss) g q (subst (λ (ts : Steps). StepsRead ops part c e ts) (sym (grown ss)) h)

-- the last step, which has a key
pub last_reads : (ops : Table) (part : Reading) (c : Context) (e : Term) (ss : Steps) (at : Place) (s : Step) → HasKey s → StepsRead ops part c e (term.MoreSteps ss at s)
    → StepsRead ops part c e ss × StepReads part c s × RecursionReads part c (applied_by ops e ss s)
last_reads ops part c e ss at term.Prime k h = absurd k
last_reads ops part c e ss at (term.Index ts) k h = h
last_reads ops part c e ss at (term.Field s) k h = (h, tt, subst (λ (x : Option Seen). RecursionReads part c x) (sym (by_name ops e ss s)) tt)

pub last_told : (ops : Table) (ev : Evaluate) (de : Describe) (c : Context) (e : Term) (ss : Steps) (at : Place) (s : Step) (r : Result Val EvalFault) → HasKey s
    → Tells r (AtStep ev de c at (steps_place (place_of e) ss) s (applied_by ops e ss s) (StepsEvaluate ops ev de c e ss)) → Tells r (StepsEvaluate ops ev de c e (term.MoreSteps ss at s))
last_told ops ev de c e ss at term.Prime r k h = absurd k
last_told ops ev de c e ss at (term.Index ts) r k h = h
last_told ops ev de c e ss at (term.Field s) r k h = h

pub step_told : (ev : Evaluate) (c : Context) (p at : Place) (s : Step) (v : Val) (r : Result Val EvalFault) → HasKey s → Tells r (Then (StepKey ev c at s) (λ key. Operated (AppliesAt v key) (place_in at (p ∷ [])))) → Tells r (StepMakes ev c p at s v)
step_told ev c p at term.Prime v r k h = absurd k
step_told ev c p at (term.Index ts) v r k h = h
step_told ev c p at (term.Field s) v r k h = h

-- the steps of a term by its items
pub steps_are : (xs : List StepAt) (ss : Steps) → steps_of xs ≡ ss → map step_item xs ≡ steps_list ss
steps_are xs ss e = sym (steps_listed xs) ∙ ap steps_list e

-- primes that are left
more_prime : (s : Step) (n : ℕ) → with_prime s n ≡ n + with_prime s 0
more_prime term.Prime n = omega arith
more_prime (term.Index ts) n = omega arith
more_prime (term.Field s) n = omega arith

pub one_prime : (s : Step) → with_prime s 0 ≤ 1
one_prime term.Prime = omega arith
one_prime (term.Index ts) = omega arith
one_prime (term.Field s) = omega arith

pub primes_from : (xs : List (Place × Step)) (i : ℕ) (x : Place × Step) → Cut xs i x → primes_in (drop i xs) ≡ primes_in (drop (i + 1) xs) + with_prime x.1 0
primes_from xs i x k = ap primes_in k ∙ more_prime x.1 (primes_in (drop (i + 1) xs))

pub no_primes : (xs : List (Place × Step)) (i : ℕ) → length xs ≤ i → primes_in (drop i xs) ≡ 0
no_primes xs i l = ap primes_in (cut_end xs i l)

-- steps before the index have been taken
module _ (ev : Evaluate) (c : Context) where
  abbrev pub StepsSoFar : List (Place × Step) → Place → Val → ℕ → Place → Val → Type 0
  StepsSoFar xs p v i q w = (r : Result Val Fault) → StepsMake ev c q (drop i xs) w r → StepsMake ev c p xs v r

  pub steps_go_on : (xs : List (Place × Step)) (p : Place) (v : Val) (i : ℕ) (q : Place) (w : Val) (x : Place × Step) (u : Val) → Cut xs i x → StepMakes ev (under (primes_in (drop (i + 1) xs)) c) q x.0 x.1 w (Ok u) → StepsSoFar xs p v i q w → StepsSoFar xs p v (i + 1) x.0 u
  steps_go_on xs p v i q w x u k m s r h = s r (subst (λ (ys : List (Place × Step)). StepsMake ev c q ys w r) (sym k) (inl (u, m, h)))

  pub steps_stop : (xs : List (Place × Step)) (p : Place) (v : Val) (i : ℕ) (q : Place) (w : Val) (x : Place × Step) (f : EvalFault) → Cut xs i x → Tells {A = Val} (Err f) (StepMakes ev (under (primes_in (drop (i + 1) xs)) c) q x.0 x.1 w) → StepsSoFar xs p v i q w → Tells {A = Val} (Err f) (StepsMake ev c p xs v)
  steps_stop xs p v i q w x (Refused kind at) k m s = s (Err (fault kind at)) (subst (λ (ys : List (Place × Step)). StepsMake ev c q ys w (Err (fault kind at))) (sym k) (inr (fault kind at, m, refl)))
  steps_stop xs p v i q w x NoMemory k m s = tt

  pub steps_end : (xs : List (Place × Step)) (p : Place) (v : Val) (i : ℕ) (q : Place) (w : Val) → length xs ≤ i → StepsSoFar xs p v i q w → StepsMake ev c p xs v (Ok w)
  steps_end xs p v i q w l s = s (Ok w) (subst (λ (ys : List (Place × Step)). StepsMake ev c q ys w (Ok w)) (sym (cut_end xs i l)) refl)

pub steps_reads : (part : Reading) (c : Context) (xs : List (Place × Step)) (i : ℕ) (x : Place × Step) → Cut xs i x → StepsMakeReads part c (drop i xs) → StepReads part (under (primes_in (drop (i + 1) xs)) c) x.1 × StepsMakeReads part c (drop (i + 1) xs)
steps_reads part c xs i x k h = subst (λ (ys : List (Place × Step)). StepsMakeReads part c ys) k h

-- the place behind steps
last_of : (at : Place) (ss : Steps) (x : Place × Step) (i : ℕ) → length (steps_list ss) ≡ suc i → x ≡ get_or (steps_list ss) i x → x.0 ≡ steps_place at ss
last_of at term.NoSteps x i n e = absurd (omega (arith, n))
last_of at (term.MoreSteps ss p s) x i n e =
    let few : i ≡ length (steps_list ss) = omega (arith, n, length-append (steps_list ss) ((p, s) ∷ [])) in
    ap (λ (y : Place × Step). y.0) (e ∙ get_or_push (steps_list ss) (p, s) x i (sym few))

pub last_place : (at : Place) (xs : List StepAt) (ss : Steps) (x : StepAt) (i : ℕ) → steps_of xs ≡ ss → length xs ≡ suc i → x ≡ get_or xs i x → x.at ≡ steps_place at ss
last_place at xs ss x i e n k =
    let are = steps_are xs ss e in
    last_of at ss (step_item x) i (ap length (sym are) ∙ length-map xs step_item ∙ n) (subst (λ (ys : List (Place × Step)). step_item x ≡ get_or ys i (step_item x)) are (ap step_item k ∙ sym (get_or-map step_item xs i x)))

none_of : (at : Place) (ss : Steps) → length (steps_list ss) ≡ 0 → at ≡ steps_place at ss
none_of at term.NoSteps n = refl
none_of at (term.MoreSteps ss p s) n = absurd (omega (arith, n, length-append (steps_list ss) ((p, s) ∷ [])))

pub no_place : (at : Place) (xs : List StepAt) (ss : Steps) → steps_of xs ≡ ss → length xs ≡ 0 → at ≡ steps_place at ss
no_place at xs ss e n = none_of at ss (ap length (sym (steps_are xs ss e)) ∙ length-map xs step_item ∙ n)
