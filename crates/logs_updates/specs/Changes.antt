-- What an update says of a variable's next value, and what stands at a path.
use Rattle.std.specs.Prelude.{◌≡◌, ◌⊎◌, ◌++◌, List, [], ◌∷◌, Option, None, Some}
use Rattle.values_core.specs.Data.{Val}
use Rattle.values_core.specs.IsValue.{IsValue}
use Rattle.values_core.specs.Functions.{HasKeyTwice, HasPair, InDomain, IsFunction, IsFunctionOf, IsSequence, sequence_of, values_in}
use Rattle.values_core.specs.FunctionOperations.{InExcept, IsFunctionWith}
use Rattle.values_core.specs.Sets.{IsSet, Member}
use Rattle.values_core.specs.SetOperations.{IsSetWith}
use Rattle.logs_updates.specs.declared.update.Op.{Op}
use Rattle.logs_updates.specs.declared.update.Op.TheVariants.{Set, Put, Drop, Add, Remove, Append}
use Rattle.logs_updates.specs.declared.update.Update.{Update}

-- the keys lead from v to w: each is a key of the function that stands there
abbrev pub LeadsTo : List Val → Val → Val → Type 0
LeadsTo [] v w = w ≡ v
LeadsTo (k ∷ ks) v w = (u : Val) × HasPair v k u × LeadsTo ks u w

-- r is what the operation makes of v
abbrev pub Does : Op → Val → Val → Type 0
Does (Set w) v r = r ≡ w
Does (Put k w) v r = IsFunction v × IsFunctionWith (InExcept v k w) r
Does (Drop k) v r = InDomain k v × IsFunctionWith (λ key x. ¬ (key ≡ k) × HasPair v key x) r
Does (Add w) v r = IsSet v × IsSetWith (λ x. Member x v ⊎ (x ≡ w)) r
Does (Remove w) v r = Member w v × IsSetWith (λ x. Member x v × ¬ (x ≡ w)) r
Does (Append w) v r = IsSequence v × (r ≡ sequence_of (values_in v ++ w ∷ [])) × IsValue r

-- r is v where what stands at the end of the keys is changed by C
abbrev pub Changes : (Val → Val → Type 0) → List Val → Val → Val → Type 0
Changes C [] v r = C v r
Changes C (k ∷ ks) v r = (u w : Val) × HasPair v k u × Changes C ks u w × IsFunctionWith (InExcept v k w) r

-- r is what updates of one variable make of its value v, one after the other
abbrev pub ApplyAll : List Update → Val → Val → Type 0
ApplyAll [] v r = r ≡ v
ApplyAll (u ∷ us) v r = (w : Val) × Changes (Does u.op) u.path.keys v w × ApplyAll us w r

-- v is the function with these pairs, no key of which comes twice
abbrev pub IsMappingOf : List (Val × Val) → Val → Type 0
IsMappingOf ps v = ¬ HasKeyTwice ps × IsFunctionOf ps v

-- what is found where something that meets P is sought: it, and none where there is none
abbrev pub Finds : {A : Type 0} → (A → Type 0) → Option A → Type 0
Finds P None = (v : _) → ¬ P v
Finds P (Some v) = P v
