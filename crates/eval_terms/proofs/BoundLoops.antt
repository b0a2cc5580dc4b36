-- A loop over a walk: what the combinations that are left come to, all of them come to.
use Rattle.std.proofs.Common.{◌≡◌, inl, inr, refl, ap, sym, ◌∙◌, subst, List, [], ◌∷◌, ◌++◌, Bool, true, false, rules}
use Rattle.std.specs.Prelude.{Result, Ok, Err}
use Rattle.states_core.specs.declared.fault.Fault.{Fault}
use Rattle.reading_trees.specs.declared.operators.Quantifier.{Quantifier}
use Rattle.reading_trees.specs.declared.operators.Quantifier.TheVariants as quantifier
use Rattle.eval_meanings.specs.declared.fault.EvalFault.{EvalFault}
use Rattle.eval_meanings.specs.declared.fault.EvalFault.TheVariants.{Refused, NoMemory}
use Rattle.eval_meanings.specs.Answers.{Tells}
use Rattle.eval_meanings.specs.Outcomes.{Outcome, Gives, Then, Each, AllTrue, SomeTrue, fault}
use Rattle.eval_parts.specs.Scenes.{Stops}
use Rattle.eval_parts.specs.Walks.{Decided}

to_end : {X : Type 0} (xs : List X) → xs ++ [] ≡ xs
to_end xs = search rules

-- whether all are true
module _ {A : Type 0} (P : A → Outcome Bool) where
  abbrev pub EveryFrom : List A → List A → Type 0
  EveryFrom xs left = (r : Result Bool Fault) → AllTrue P left r → AllTrue P xs r

  pub every_begins : (xs left : List A) → left ≡ xs → EveryFrom xs left
  every_begins xs left e r h = subst (λ (us : List A). AllTrue P us r) e h

  pub every_goes_on : (xs left : List A) (x : A) (rest : List A) → left ≡ x ∷ rest → P x (Ok true) → EveryFrom xs left → EveryFrom xs rest
  every_goes_on xs left x rest e p s r h = s r (subst (λ (us : List A). AllTrue P us r) (sym e) (inl (true, p, h)))

  pub every_denied : (xs left : List A) (x : A) (rest : List A) → left ≡ x ∷ rest → P x (Ok false) → EveryFrom xs left → AllTrue P xs (Ok false)
  every_denied xs left x rest e p s = s (Ok false) (subst (λ (us : List A). AllTrue P us (Ok false)) (sym e) (inl (false, p, refl)))

  pub every_stops : (xs left : List A) (x : A) (rest : List A) (f : EvalFault) → left ≡ x ∷ rest → Tells {A = Bool} (Err f) (P x) → EveryFrom xs left → Tells {A = Bool} (Err f) (AllTrue P xs)
  every_stops xs left x rest (Refused kind at) e p s = s (Err (fault kind at)) (subst (λ (us : List A). AllTrue P us (Err (fault kind at))) (sym e) (inr (fault kind at, p, refl)))
  every_stops xs left x rest NoMemory e p s = tt

  pub every_ends : (xs left : List A) → left ≡ [] → EveryFrom xs left → AllTrue P xs (Ok true)
  every_ends xs left e s = s (Ok true) (subst (λ (us : List A). AllTrue P us (Ok true)) (sym e) refl)

-- whether one is true
module _ {A : Type 0} (P : A → Outcome Bool) where
  abbrev pub AnyFrom : List A → List A → Type 0
  AnyFrom xs left = (r : Result Bool Fault) → SomeTrue P left r → SomeTrue P xs r

  pub any_begins : (xs left : List A) → left ≡ xs → AnyFrom xs left
  any_begins xs left e r h = subst (λ (us : List A). SomeTrue P us r) e h

  pub any_goes_on : (xs left : List A) (x : A) (rest : List A) → left ≡ x ∷ rest → P x (Ok false) → AnyFrom xs left → AnyFrom xs rest
  any_goes_on xs left x rest e p s r h = s r (subst (λ (us : List A). SomeTrue P us r) (sym e) (inl (false, p, h)))

  pub any_found : (xs left : List A) (x : A) (rest : List A) → left ≡ x ∷ rest → P x (Ok true) → AnyFrom xs left → SomeTrue P xs (Ok true)
  any_found xs left x rest e p s = s (Ok true) (subst (λ (us : List A). SomeTrue P us (Ok true)) (sym e) (inl (true, p, refl)))

  pub any_stops : (xs left : List A) (x : A) (rest : List A) (f : EvalFault) → left ≡ x ∷ rest → Tells {A = Bool} (Err f) (P x) → AnyFrom xs left → Tells {A = Bool} (Err f) (SomeTrue P xs)
  any_stops xs left x rest (Refused kind at) e p s = s (Err (fault kind at)) (subst (λ (us : List A). SomeTrue P us (Err (fault kind at))) (sym e) (inr (fault kind at, p, refl)))
  any_stops xs left x rest NoMemory e p s = tt

  pub any_ends : (xs left : List A) → left ≡ [] → AnyFrom xs left → SomeTrue P xs (Ok false)
  any_ends xs left e s = s (Ok false) (subst (λ (us : List A). SomeTrue P us (Ok false)) (sym e) refl)

-- of each what comes of it
module _ {A B : Type 0} (P : A → Outcome B) where
  abbrev pub EachFrom : List A → List A → List B → Type 0
  EachFrom xs left ys = (r : Result (List B) Fault) → Then (Each P left) (λ zs. Gives (ys ++ zs)) r → Each P xs r

  again : (ys : List B) (y : B) (zs : List B) → (ys ++ y ∷ []) ++ zs ≡ ys ++ y ∷ zs
  again [] y zs = refl
  again (u ∷ us) y zs = ap (λ ws. u ∷ ws) (again us y zs)

  whole : (xs : List A) (r : Result (List B) Fault) → Then (Each P xs) (λ (zs : List B). Gives ([] ++ zs)) r → Each P xs r
  whole xs r (inl (zs, h, e)) = let Q : Result (List B) Fault → Type 0 = λ q. Each P xs q in subst Q (sym e) h
  whole xs r (inr (f, h, e)) = let Q : Result (List B) Fault → Type 0 = λ q. Each P xs q in subst Q (sym e) h

  pub each_from_begins : (xs left : List A) → left ≡ xs → EachFrom xs left []
  each_from_begins xs left e r h = whole xs r (subst (λ (us : List A). Then (Each P us) (λ (zs : List B). Gives ([] ++ zs)) r) e h)

  longer : (x : A) (rest : List A) (ys : List B) (y : B) (r : Result (List B) Fault) → P x (Ok y) → Then (Each P rest) (λ (zs : List B). Gives ((ys ++ y ∷ []) ++ zs)) r → Then (Each P (x ∷ rest)) (λ (zs : List B). Gives (ys ++ zs)) r
  longer x rest ys y r p (inl (zs, h, e)) = inl (y ∷ zs, inl (y, p, inl (zs, h, refl)), e ∙ ap Ok (again ys y zs))
  longer x rest ys y r p (inr (f, h, e)) = inr (f, inl (y, p, inr (f, h, refl)), e)

  pub each_from_goes_on : (xs left : List A) (x : A) (rest : List A) (ys : List B) (y : B) → left ≡ x ∷ rest → P x (Ok y) → EachFrom xs left ys → EachFrom xs rest (ys ++ y ∷ [])
  each_from_goes_on xs left x rest ys y e p s r h =
      s r (subst (λ (us : List A). Then (Each P us) (λ (zs : List B). Gives (ys ++ zs)) r) (sym e) (longer x rest ys y r p h))

  pub each_from_stops : (xs left : List A) (x : A) (rest : List A) (ys : List B) (f : EvalFault) → left ≡ x ∷ rest → Tells {A = B} (Err f) (P x) → EachFrom xs left ys → Stops (Each P xs) f
  each_from_stops xs left x rest ys (Refused kind at) e p s =
      let Q : List A → Type 0 = λ us. Then (Each P us) (λ (zs : List B). Gives (ys ++ zs)) (Err (fault kind at)) in
      s (Err (fault kind at)) (subst Q (sym e) (inr (fault kind at, inr (fault kind at, p, refl), refl)))
  each_from_stops xs left x rest ys NoMemory e p s = tt

  pub each_from_ends : (xs left : List A) (ys : List B) → left ≡ [] → EachFrom xs left ys → Each P xs (Ok ys)
  each_from_ends xs left ys e s =
      let Q : List A → Type 0 = λ us. Then (Each P us) (λ (zs : List B). Gives (ys ++ zs)) (Ok ys) in
      s (Ok ys) (subst Q (sym e) (inl ([], refl, ap Ok (sym (to_end ys)))))

-- \A and \E by what they ask
all_then : {A : Type 0} (q : Quantifier) (P : A → Outcome Bool) (xs : List A) (r : Result Bool EvalFault) → q ≡ quantifier.ForAll → Tells r (AllTrue P xs) → Tells r (Decided q P xs)
all_then quantifier.ForAll P xs r e h = h
all_then quantifier.Exists P xs r e h = cc

some_then : {A : Type 0} (q : Quantifier) (P : A → Outcome Bool) (xs : List A) (r : Result Bool EvalFault) → q ≡ quantifier.Exists → Tells r (SomeTrue P xs) → Tells r (Decided q P xs)
some_then quantifier.ForAll P xs r e h = cc
some_then quantifier.Exists P xs r e h = h

pub all_decided : {A : Type 0} (q : Quantifier) (P : A → Outcome Bool) (xs ys : List A) (r : Result Bool EvalFault) → q ≡ quantifier.ForAll → ys ≡ xs → Tells r (AllTrue P ys) → Tells r (Decided q P xs)
all_decided {A = A} q P xs ys r e f h = all_then q P xs r e (subst (λ (us : List A). Tells r (AllTrue P us)) f h)

pub some_decided : {A : Type 0} (q : Quantifier) (P : A → Outcome Bool) (xs ys : List A) (r : Result Bool EvalFault) → q ≡ quantifier.Exists → ys ≡ xs → Tells r (SomeTrue P ys) → Tells r (Decided q P xs)
some_decided {A = A} q P xs ys r e f h = some_then q P xs r e (subst (λ (us : List A). Tells r (SomeTrue P us)) f h)
