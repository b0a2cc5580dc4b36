-- A primary with steps, by its last prime.
use Rattle.std.proofs.Common.{◌≡◌, ◌∙◌, ap, sym, subst, List, [], ◌∷◌, ◌++◌, map, length, take, drop, arith, append_assoc}
use Rattle.std.specs.Prelude.{◌≤◌, ◌+◌, ◌-◌, ℕ, suc, true, false, Option, Some, None, slice_get}
use Rattle.std.specs.List.{AllByRecursion as Each}
use Rattle.std.proofs.lemmas.List.{append-nil, map-append}
use Rattle.base_core.specs.declared.place.Place.{Place}
use Rattle.names_terms.specs.declared.term.StepAt.{StepAt}
use Rattle.names_terms.specs.TermViews.{step_view, steps_from, steps_of}
use Rattle.names_terms.specs.Terms as term
use Rattle.names_terms.specs.Terms.{Term, Steps, Step}
use Rattle.names_term_parts.specs.Parts.{Part, part, is_prime}
use Rattle.names_term_parts.specs.Weights.{in_steps, total}
use Rattle.names_term_parts.proofs.Weights.{total-nil}
use Rattle.eval_meanings.specs.Functions.{steps_place}
use Rattle.actions_meanings.specs.declared.fault.FormFault.{FormFault}
use Rattle.actions_meanings.specs.Reads.{VariableSet, path_terms, step_terms}
use Rattle.actions_meanings.specs.Outcomes.{or_else}
use Rattle.actions_early_reads.specs.declared.walking.Walk.{Walk}
use Rattle.actions_early_reads.specs.Primes.{and_behind, last_prime, IsLastPrime}
use Rattle.actions_early_reads.specs.Keeping.{Fits}
use Rattle.actions_early_reads.specs.Ready.{table_of}
use Rattle.actions_early_reads.specs.Opened.{Opens, TellsPrimed}
use Rattle.actions_early_reads.proofs.Each.{each-left}
use Rattle.actions_early_reads.proofs.Following.{items_terms, path_of_items}
use Rattle.actions_early_reads.proofs.Last.{not_prime}
use Rattle.actions_early_reads.proofs.Opening.{PrimeFits, prime-fits, opens-steps, opens-primed, opens-behind}

pub place-last : (p : Place) (ss : Steps) (xs : List StepAt) (x : StepAt) → slice_get xs (length xs - 1) ≡ Some x → steps_place p (steps_from ss xs) ≡ x.at
place-last p ss [] x q = absurd (cc)
place-last p ss (y ∷ []) x q = ap (λ (z : StepAt). z.at) (same y x q)
  where
    same : (y x : StepAt) → Some y ≡ Some x → y ≡ x
    same y x e = cc
place-last p ss (y ∷ z ∷ zs) x q =
    let next : length (y ∷ z ∷ zs) - 1 ≡ suc (length (z ∷ zs) - 1) = omega arith in
    place-last p (term.MoreSteps ss y.at (step_view y.step)) (z ∷ zs) x (subst (λ (i : ℕ). slice_get (y ∷ z ∷ zs) i ≡ Some x) next q)

each-unit : (es : List Term) → Each (λ (e : Term). Unit {0}) es
each-unit [] = tt
each-unit (e ∷ es) = (tt, each-unit es)

light : (ss : Steps) (x : Steps × List Term) → last_prime ss ≡ Some x → total (map (part false) x.1) ≤ in_steps ss
light ss x q = (subst (λ (o : Option (Steps × List Term)). PrimeFits (λ (e : Term). Unit {0}) ss o) q (prime-fits (λ (e : Term). Unit {0}) ss (each-unit (path_terms ss)))).2

module _ (w : Walk) (bound : ℕ) (B : VariableSet) (at : Place) (e : Term) (xs : List StepAt) (s : Step) (found : Option FormFault) (old : List Part) where
  pub postfix-last : (ss : Steps) (o answer : Option FormFault) → steps_of xs ≡ ss → is_prime s ≡ true → TellsPrimed w bound B e (steps_of xs) o → answer ≡ or_else o found → Opens w bound B at (term.Postfix e ss s) found answer old old
  postfix-last ss o answer q prime tells is = subst (λ (z : Steps). Opens w bound B at (term.Postfix e z s) found answer old old) q (whole s prime)
    where
      whole : (s : Step) → is_prime s ≡ true → Opens w bound B at (term.Postfix e (steps_of xs) s) found answer old old
      whole term.Prime prime = (
        [],
        sym (append-nil old),
        record {
          fit = λ k r. tt;
          same = λ k r. ap (λ (z : Option FormFault). or_else z found) (tells k record { ready = r.ready; within = r.within; fits = r.fit.0 } (each-left (Fits (table_of w) w.variables bound k) (path_terms (steps_of xs)) [] r.fit.1)) ∙ sym is;
          lighter = omega (arith, total-nil);
        },
      )
      whole (term.Index ts) prime = absurd (cc)
      whole (term.Field h) prime = absurd (cc)

  pub postfix-primed : (ss : Steps) (i : ℕ) (f : FormFault) → steps_of xs ≡ ss → is_prime s ≡ false → IsLastPrime xs (Some i) → TellsPrimed w bound B e (steps_of (take i xs)) (Some f) → Opens w bound B at (term.Postfix e ss s) found (Some f) old old
  postfix-primed ss i f q plain last tells = subst (λ (z : Steps). Opens w bound B at (term.Postfix e z s) found (Some f) old old) q
      (opens-primed w bound B at e (steps_of xs) s found old (steps_of (take i xs)) (items_terms (drop (i + 1) xs) ++ step_terms s) (not_prime (steps_of xs) at s plain ∙ ap (λ (z : Option (Steps × List Term)). and_behind z s) last.1) f tells)

  pub postfix-behind : (ss : Steps) (i : ℕ) (new : List Part) → steps_of xs ≡ ss → is_prime s ≡ false → IsLastPrime xs (Some i) → TellsPrimed w bound B e (steps_of (take i xs)) None → new ≡ (old ++ map (part false) (items_terms (drop (i + 1) xs))) ++ map (part false) (step_terms s) → Opens w bound B at (term.Postfix e ss s) found found old new
  postfix-behind ss i new q plain last tells pushed =
      let es : List Term = items_terms (drop (i + 1) xs) ++ step_terms s in
      let is : last_prime (term.MoreSteps (steps_of xs) at s) ≡ Some (steps_of (take i xs), es) = not_prime (steps_of xs) at s plain ∙ ap (λ (z : Option (Steps × List Term)). and_behind z s) last.1 in
      subst (λ (z : Steps). Opens w bound B at (term.Postfix e z s) found found old new) q
      (opens-behind w bound B at e (steps_of xs) s found old (steps_of (take i xs)) es is new tells
      (pushed ∙ append_assoc old (map (part false) (items_terms (drop (i + 1) xs))) (map (part false) (step_terms s)) ∙ ap (λ (ps : List Part). old ++ ps) (sym (map-append (part false) (items_terms (drop (i + 1) xs)) (step_terms s))))
      (light (term.MoreSteps (steps_of xs) at s) (steps_of (take i xs), es) is))

  pub postfix-plain : (ss : Steps) (new : List Part) → steps_of xs ≡ ss → is_prime s ≡ false → IsLastPrime xs None → new ≡ ((old ++ part false e ∷ []) ++ map (part false) (items_terms xs)) ++ map (part false) (step_terms s) → Opens w bound B at (term.Postfix e ss s) found found old new
  postfix-plain ss new q plain last pushed =
      let path : List Term = path_terms (steps_of xs) in
      let all : new ≡ old ++ part false e ∷ map (part false) (path ++ step_terms s) =
      pushed ∙ append_assoc (old ++ part false e ∷ []) (map (part false) (items_terms xs)) (map (part false) (step_terms s)) ∙ append_assoc old (part false e ∷ []) (map (part false) (items_terms xs) ++ map (part false) (step_terms s))
      ∙ ap (λ (ps : List Part). old ++ part false e ∷ ps) (sym (map-append (part false) (items_terms xs) (step_terms s)) ∙ ap (λ (es : List Term). map (part false) (es ++ step_terms s)) (sym (path_of_items xs))) in
      subst (λ (z : Steps). Opens w bound B at (term.Postfix e z s) found found old new) q
      (opens-steps w bound B at e (steps_of xs) s found old new (not_prime (steps_of xs) at s plain ∙ ap (λ (z : Option (Steps × List Term)). and_behind z s) last) all)
