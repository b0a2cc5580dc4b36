-- The last prime among steps, item by item.
use Rattle.std.proofs.Common.{◌≡◌, ◌∙◌, ap, sym, refl, subst, List, [], ◌∷◌, ◌++◌, length, take, drop, get_or, arith}
use Rattle.std.specs.Prelude.{◌<◌, ◌≤◌, ◌+◌, ◌-◌, ℕ, Bool, true, false, Option, Some, None, if◌then◌else◌}
use Rattle.std.proofs.lemmas.List.{append-nil, drop-append-le, drop_all, length-drop, length-take-le, take_all}
use Rattle.std.proofs.lemmas.List.Concat.{flat_map-append}
use Rattle.base_core.specs.declared.place.Place.{Place}
use Rattle.names_terms.specs.declared.term.StepAt.{StepAt}
use Rattle.names_terms.specs.TermViews.{step_view, steps_of}
use Rattle.names_terms.specs.Terms as term
use Rattle.names_terms.specs.Terms.{Term, Steps, Step}
use Rattle.names_term_parts.specs.Parts.{is_prime}
use Rattle.names_term_parts.proofs.Lists.{taken, steps_next}
use Rattle.actions_meanings.specs.Reads.{step_terms}
use Rattle.actions_early_reads.specs.Primes.{and_behind, last_prime, IsLastPrime}
use Rattle.actions_early_reads.proofs.Following.{items_terms}

-- among the first n items
abbrev pub LastBelow : List StepAt → ℕ → Option ℕ → Type 0
LastBelow xs n None = last_prime (steps_of (take n xs)) ≡ None
LastBelow xs n (Some i) = (i < n) × (last_prime (steps_of (take n xs)) ≡ Some (steps_of (take i xs), items_terms (drop (i + 1) (take n xs))))

pub not_prime : (ss : Steps) (at : Place) (s : Step) → is_prime s ≡ false → last_prime (term.MoreSteps ss at s) ≡ and_behind (last_prime ss) s
not_prime ss at term.Prime q = absurd (cc)
not_prime ss at (term.Index ts) q = refl
not_prime ss at (term.Field h) q = refl

prime_here : (ss : Steps) (at : Place) (s : Step) → is_prime s ≡ true → last_prime (term.MoreSteps ss at s) ≡ Some (ss, [])
prime_here ss at term.Prime q = refl
prime_here ss at (term.Index ts) q = absurd (cc)
prime_here ss at (term.Field h) q = absurd (cc)

behind_more : (xs : List StepAt) (n i : ℕ) (x : StepAt) → i < n → n < length xs → x ≡ get_or xs n x → items_terms (drop (i + 1) (take (n + 1) xs)) ≡ items_terms (drop (i + 1) (take n xs)) ++ step_terms (step_view x.step)
behind_more xs n i x lt within is =
    let le : i + 1 ≤ length (take n xs) = omega (arith, length-take-le n xs (omega arith)) in
    ap (λ (ys : List StepAt). items_terms (drop (i + 1) ys)) (taken xs n x within is) ∙ ap items_terms (drop-append-le (i + 1) (take n xs) (x ∷ []) le)
    ∙ flat_map-append (λ (s : StepAt). step_terms (step_view s.step)) (drop (i + 1) (take n xs)) (x ∷ []) ∙ ap (λ (ys : List Term). items_terms (drop (i + 1) (take n xs)) ++ ys) (append-nil (step_terms (step_view x.step)))

pub last-more : (xs : List StepAt) (n : ℕ) (x : StepAt) (found r : Option ℕ) (prime : Bool) → n < length xs → x ≡ get_or xs n x → prime ≡ is_prime (step_view x.step) → r ≡ (if prime then Some n else found) → LastBelow xs n found → LastBelow xs (n + 1) r
last-more xs n x found r true within is own q h =
    subst (λ (o : Option ℕ). LastBelow xs (n + 1) o) (sym q) ((omega arith), ap last_prime (steps_next xs n x within is) ∙ prime_here (steps_of (take n xs)) x.at (step_view x.step) (sym own) ∙ ap (λ (ys : List StepAt). Some (steps_of (take n xs), items_terms ys)) (sym (drop_all (n + 1) (take (n + 1) xs) (omega (arith, length-take-le (n + 1) xs (omega arith))))))
last-more xs n x None r false within is own q h =
    subst (λ (o : Option ℕ). LastBelow xs (n + 1) o) (sym q) (ap last_prime (steps_next xs n x within is) ∙ not_prime (steps_of (take n xs)) x.at (step_view x.step) (sym own) ∙ ap (λ (z : Option (Steps × List Term)). and_behind z (step_view x.step)) h)
last-more xs n x (Some i) r false within is own q h =
    subst (λ (o : Option ℕ). LastBelow xs (n + 1) o) (sym q) (let lt : i < n = h.0 in ((omega arith), ap last_prime (steps_next xs n x within is) ∙ not_prime (steps_of (take n xs)) x.at (step_view x.step) (sym own) ∙ ap (λ (z : Option (Steps × List Term)). and_behind z (step_view x.step)) h.1 ∙ ap (λ (es : List Term). Some (steps_of (take i xs), es)) (sym (behind_more xs n i x lt within is))))

pub last-all : (xs : List StepAt) (n : ℕ) (r : Option ℕ) → length xs ≤ n → n ≤ length xs → LastBelow xs n r → IsLastPrime xs r
last-all xs n None past within h = ap (λ (ys : List StepAt). last_prime (steps_of ys)) (sym (take_all n xs past)) ∙ h
last-all xs n (Some i) past within h = (let lt : i < n = h.0 in omega arith, ap (λ (ys : List StepAt). last_prime (steps_of ys)) (sym (take_all n xs past)) ∙ h.1 ∙ ap (λ (ys : List StepAt). Some (steps_of (take i xs), items_terms (drop (i + 1) ys))) (take_all n xs past))

-- what is behind an index, as a slice
pub rest-whole : (xs : List StepAt) (n : ℕ) → take (length xs - n) (drop n xs) ≡ drop n xs
rest-whole xs n = take_all (length xs - n) (drop n xs) (omega (arith, length-drop n xs))
