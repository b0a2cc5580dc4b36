-- Outcomes that go on or stop.
use Rattle.std.proofs.Common.{◌≡◌, ◌∙◌, ap, sym, refl, subst, List, ◌∷◌}
use Rattle.std.specs.Prelude.{Bool, true, false, ◌||◌, Option, Some, None, Result, Ok, Err}
use Rattle.actions_meanings.specs.declared.fault.FormFault.{FormFault}
use Rattle.names_terms.specs.Terms.{Term}
use Rattle.actions_meanings.specs.Reads.{VariableSet}
use Rattle.actions_meanings.specs.Outcomes.{FormOutcome, Arm, arm, next, unless, or_else}
use Rattle.actions_form_laws.specs.Growth.{Within}

pub ok-same : {A : Type 0} (r : Result A FormFault) (x y : A) → r ≡ Ok x → r ≡ Ok y → x ≡ y
ok-same r x y q h = cc

pub next-ok : {A B : Type 0} (r : Result A FormFault) (go : A → Result B FormFault) (y : B) → next r go ≡ Ok y → (x : A) × (r ≡ Ok x) × (go x ≡ Ok y)
next-ok (Ok x) go y h = (x, refl, h)
next-ok (Err f) go y h = absurd (cc)

pub next-is : {A B : Type 0} (r : Result A FormFault) (go : A → Result B FormFault) (x : A) (s : Result B FormFault) → r ≡ Ok x → go x ≡ s → next r go ≡ s
next-is {A} {B} r go x s q h = ap (λ (z : Result A FormFault). next z go) q ∙ h

pub unless-ok : {A : Type 0} (o : Option FormFault) (r : Result A FormFault) (y : A) → unless o r ≡ Ok y → (o ≡ None) × (r ≡ Ok y)
unless-ok None r y h = (refl, h)
unless-ok (Some f) r y h = absurd (cc)

pub unless-is : {A : Type 0} (o : Option FormFault) (r s : Result A FormFault) → o ≡ None → r ≡ s → unless o r ≡ s
unless-is None r s q h = h
unless-is (Some f) r s q h = absurd (cc)

pub else-first : (o p : Option FormFault) → or_else o p ≡ None → o ≡ None
else-first None p h = refl
else-first (Some f) p h = h

pub else-second : (o p : Option FormFault) → or_else o p ≡ None → p ≡ None
else-second None p h = h
else-second (Some f) p h = absurd (cc)

pub else-both : (o p : Option FormFault) → o ≡ None → p ≡ None → or_else o p ≡ None
else-both None p h q = q
else-both (Some f) p h q = h

-- what is done of a term, from what was fixed before
abbrev pub Doing : Type 0
Doing = Term → VariableSet → FormOutcome

-- an arm, before those that the rest gives
abbrev pub behind_arm : Term → Result (List Arm) FormFault → VariableSet → Result (List Arm) FormFault
behind_arm e r C = next r (λ cs. Ok (arm e C ∷ cs))

pub self-within : (B C : VariableSet) → B ≡ C → Within B C
self-within B C q x h = subst (λ (z : VariableSet). z x ≡ true) q h

-- of two sets, by one variable

pub absorbs : (c d : Bool) → (c ≡ true → d ≡ true) → d ≡ (c || d)
absorbs true d h = h refl
absorbs false d h = refl

pub absorbs-between : (c b d : Bool) → (b ≡ true → c ≡ true) → (c || (b || d)) ≡ (c || d)
absorbs-between true b d h = refl
absorbs-between false true d h = absurd (let q : false ≡ true = h refl in cc)
absorbs-between false false d h = refl

pub absorbed : (c d : Bool) → (d ≡ true → c ≡ true) → (c || d) ≡ c
absorbed true d h = refl
absorbed false true h = sym (h refl)
absorbed false false h = refl

pub is-false : (p q : Bool) → (q ≡ true → p ≡ true) → p ≡ false → q ≡ false
is-false p false h n = refl
is-false p true h n = sym (h refl) ∙ n
