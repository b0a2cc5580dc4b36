-- Steps behind a primary from left to right, changes of EXCEPT from the inside out, and the fields of a set of records one by one.
use Rattle.std.specs.Prelude.{◌⊎◌, ℕ, zero, suc, List, [], ◌∷◌, Option, Some, None}
use Rattle.base_core.specs.declared.place.Place.{Place}
use Rattle.values_core.specs.Data.{Val, string}
use Rattle.values_core.specs.Functions.{IsFunction, InDomain, HasPair}
use Rattle.values_core.specs.FunctionOperations.{AppliesAt, Excepts}
use Rattle.values_core.specs.declared.fault.EvalKind.TheVariants.{NotFunction}
use Rattle.names_terms.specs.Lists.{terms_list}
use Rattle.names_terms.specs.Terms as term
use Rattle.names_terms.specs.Terms.{Step}
use Rattle.values_sets.specs.DescribedSets.{Described}
use Rattle.eval_meanings.specs.Contexts.{Context, Evaluate, primed}
use Rattle.eval_meanings.specs.Functions.{StepKey}
use Rattle.eval_meanings.specs.Outcomes.{Outcome, Gives, Fails, Then, Operated, place_in}
use Rattle.eval_meanings.specs.Sets.{set_at}
use Rattle.eval_meanings.specs.Reads.{Reading, ReadsEach}
use Rattle.eval_parts.specs.declared.changing.Layer.{Layer}
use Rattle.eval_parts.specs.declared.field_sets.Part.{Part}

-- what a field means: its name, its place and its set
abbrev pub part_item : Part → List ℕ × Place × Described
part_item x = (x.name, x.at, x.set)

-- the field of a set of records, whose part must be a set
abbrev pub SetOfField : (List ℕ × Place × Described) → Outcome (Val × Described)
SetOfField f = Then (set_at f.1 f.2) (λ d. Gives (string f.0, d))

-- how many primes are among steps
abbrev pub with_prime : Step → ℕ → ℕ
with_prime term.Prime n = suc n
with_prime s n = n

abbrev pub primes_in : List (Place × Step) → ℕ
primes_in [] = 0
primes_in (x ∷ xs) = with_prime x.1 (primes_in xs)

-- what stands before so many primes reads this
abbrev pub under : ℕ → Context → Context
under zero c = c
under (suc n) c = primed c

-- a step that has a key
abbrev pub HasKey : Step → Type 0
HasKey term.Prime = ⊥
HasKey s = Unit {0}

-- what a step at the place at makes of the value before it, where that stands at the place p
abbrev pub StepMakes : Evaluate → Context → Place → Place → Step → Val → Outcome Val
StepMakes evaluate c p at term.Prime v = Gives v
StepMakes evaluate c p at s v = Then (StepKey evaluate c at s) (λ key. Operated (AppliesAt v key) (place_in at (p ∷ [])))

-- the same of steps, of which each reads what the primes behind it say
abbrev pub StepsMake : Evaluate → Context → Place → List (Place × Step) → Val → Outcome Val
StepsMake evaluate c p [] v = Gives v
StepsMake evaluate c p (x ∷ xs) v = Then (StepMakes evaluate (under (primes_in xs) c) p x.0 x.1 v) (StepsMake evaluate c x.0 xs)

-- what steps read
abbrev pub StepReads : Reading → Context → Step → Type 0
StepReads part c term.Prime = Unit {0}
StepReads part c (term.Index ts) = ReadsEach part c (terms_list ts)
StepReads part c (term.Field h) = Unit {0}

abbrev pub StepsMakeReads : Reading → Context → List (Place × Step) → Type 0
StepsMakeReads part c [] = Unit {0}
StepsMakeReads part c (x ∷ xs) = StepReads part (under (primes_in xs) c) x.1 × StepsMakeReads part c xs

-- What stands at a key, or none where the key is outside the domain. What is no function is refused at the place of the base.
abbrev pub InsideAt : Place → Val → Val → Outcome (Option Val)
InsideAt base f key r = (¬ IsFunction f × Fails NotFunction base r) ⊎ (IsFunction f × ¬ InDomain key f × Gives None r) ⊎ ((old : Val) × HasPair f key old × Gives (Some old) r)

-- Functions within one another, the innermost last, each with the key at which the next stands: what comes of the outermost where P comes of what
-- stands in the innermost.
abbrev pub Rebuilt : Place → List Layer → Outcome Val → Outcome Val
Rebuilt at [] P = P
Rebuilt at (l ∷ ls) P = Then (Rebuilt at ls P) (λ v. Operated (Excepts l.function.now l.key v) (λ n. at))
