-- Steps whose first gives a key to a function that uses itself, and the value of such a function at a key.
use Rattle.std.proofs.Common.{◌≡◌, ◌<◌, ◌-◌, ℕ, inl, inr, ap, refl, sym, subst, List, [], ◌∷◌, length, drop, take, get_or, map, arith}
use Rattle.std.proofs.lemmas.List.{length-drop, take_all}
use Rattle.std.specs.Prelude.{◌↔◌, Bool, true, false, IfOk, IsTrue, Some, Result, Ok, Err}
use Rattle.base_core.specs.declared.place.Place.{Place}
use Rattle.values_core.specs.Data.{Val}
use Rattle.values_core.specs.declared.fault.EvalKind.TheVariants.{OutsideDomain}
use Rattle.names_terms.specs.Terms as term
use Rattle.names_terms.specs.Terms.{Term, Step}
use Rattle.names_terms.specs.TermViews.{step_item}
use Rattle.names_terms.specs.declared.term.StepAt.{StepAt}
use Rattle.values_sets.specs.DescribedSets.{Described, Product}
use Rattle.values_sets.specs.Membership.{Belongs}
use Rattle.values_sets.specs.Soundness.{IsSound}
use Rattle.eval_meanings.specs.declared.fault.EvalFault.{EvalFault}
use Rattle.eval_meanings.specs.declared.fault.EvalFault.TheVariants.{Refused, NoMemory}
use Rattle.eval_meanings.specs.Answers.{IsReady, Tells}
use Rattle.eval_meanings.specs.Contexts.{Table}
use Rattle.eval_meanings.specs.Outcomes.{Outcome, Either, Fails, Gives, Then, fault}
use Rattle.eval_meanings.specs.Recursion.{Recursion as Seen}
use Rattle.eval_meanings.specs.Sets.{IsIn, parts_of}
use Rattle.eval_parts.specs.ChangePaths.{HasKey, with_prime}
use Rattle.eval_parts.specs.Recursions.{first_applied}
use Rattle.eval_parts.proofs.Loops.{cut_at}
use denote.Ref.{Bor}

-- THE FIRST STEP

pub cut_first : (xs : List StepAt) (x : StepAt) → 0 < length xs → x ≡ get_or xs 0 x → map step_item xs ≡ step_item x ∷ map step_item (drop 1 xs)
cut_first xs x lt is = ap (map step_item) (cut_at xs 0 x lt is)

-- what is behind it, as a slice
pub behind_first : (xs : List StepAt) → map step_item (take (length xs - 1) (drop 1 xs)) ≡ map step_item (drop 1 xs)
behind_first xs = ap (map step_item) (take_all (length xs - 1) (drop 1 xs) (omega (arith, length-drop 1 xs)))

-- a step with a key is no prime
pub key_primes : (s : Step) (n : ℕ) → HasKey s → with_prime s n ≡ n
key_primes term.Prime n k = absurd k
key_primes (term.Index ts) n k = refl
key_primes (term.Field h) n k = refl

-- where one is applied there is a step
pub some_steps : (ops : Table) (e : Term) (xs : List StepAt) (g : Seen) → first_applied ops e (map step_item xs) ≡ Some g → 0 < length xs
some_steps ops e [] g q = absurd (cc)
some_steps ops e (x ∷ xs) g q = omega arith

-- KEYS

pub member_told : (d : Described) (key : Val) (at : Place) (P : Outcome Val) (b : Bool) (r : Result Val EvalFault) → (IsTrue b ↔ Belongs d key) → b ≡ true → Tells r P → Tells r (Then (IsIn d key) (λ t. Either t P (Fails OutsideDomain at)))
member_told d key at P b (Ok v) is q h = inl (true, (true, subst (λ (t : Bool). IsTrue t ↔ Belongs d key) q is, refl), h)
member_told d key at P b (Err (Refused kind p)) is q h = inl (true, (true, subst (λ (t : Bool). IsTrue t ↔ Belongs d key) q is, refl), h)
member_told d key at P b (Err NoMemory) is q h = tt

pub outside_told : (d : Described) (key : Val) (at : Place) (P : Outcome Val) (b : Bool) → (IsTrue b ↔ Belongs d key) → b ≡ false → Then (IsIn d key) (λ t. Either t P (Fails OutsideDomain at)) (Err (fault OutsideDomain at))
outside_told d key at P b is q = inl (false, (false, subst (λ (t : Bool). IsTrue t ↔ Belongs d key) q is, refl), refl)

-- the set of the one name
pub only_set : (xs : List (Bor Term)) (x : Bor Term) → length xs ≡ 1 → x ≡ get_or xs 0 x → map (λ y. y.now) xs ≡ x.now ∷ []
only_set [] x n q = absurd (omega (arith, n))
only_set (y ∷ []) x n q = ap (λ (z : Bor Term). z.now ∷ []) (sym q)
only_set (y ∷ z ∷ xs) x n q = absurd (omega (arith, n))

-- a product is no value that is listed, so it is sound where it is ready
pub product_sound : (P : Outcome (List Described)) (r : Result Described EvalFault) → Tells r (Then P (λ ds. Gives (Product (parts_of ds)))) → IfOk r IsReady → IfOk r IsSound
product_sound P (Ok d) (inl (ds, h, e)) k =
    let q : d ≡ Product (parts_of ds) = cc in
    subst (λ (x : Described). IsSound x) (sym q) (subst (λ (x : Described). IsReady x) q k)
product_sound P (Ok d) (inr (f, h, e)) k = absurd (cc)
product_sound P (Err f) h k = tt
