-- Filling a variable, one value after the other.
use Rattle.std.proofs.Common.{◌≡◌, inl, inr, refl, ap, sym, ◌∙◌, subst, ℕ, ◌+◌, ◌≤◌, ◌<◌, Bool, true, false, List, [], ◌∷◌, ◌++◌, length, take, get_or, arith}
use Rattle.std.specs.Prelude.{◌↔◌, IfOk, IsTrue, Contains, Some, Result, Ok, Err, slice_set, if◌then◌else◌}
use Rattle.std.proofs.lemmas.List.{take_more, take_all}
use Rattle.std.proofs.lemmas.List.Elements.{All-more, All-get_or, Contains-append_left, Contains-push, Contains-push_cases}
use Rattle.values_core.specs.Data.{Val}
use Rattle.values_core.specs.Order.{val_eq}
use Rattle.values_core.specs.OrderLaws.{val_same, val_eq_equiv}
use Rattle.values_sets.specs.DescribedSets.{Described, Nat, Int, Strings, Booleans, SeqOf, PowerOf, Interval, Functions, Records, Product, Union, Inter, Minus, Listed}
use Rattle.values_sets.specs.Soundness.{IsSound}
use Rattle.eval_meanings.specs.Answers.{IsReady}
use Rattle.eval_meanings.specs.Contexts.{Places}
use Rattle.logs_updates.specs.declared.update.See.{See}
use Rattle.steps_filling.specs.Fillings.{Adds, Allows, AreFilled, OneIf, SeenIn}

-- what is seen, one after the other
pub seen_more : (xs : List See) (i : ℕ) (see : See) (x : ℕ) (v : Val) → i < length xs → see ≡ get_or xs i see → Allows see x v → SeenIn (take i xs) x v → SeenIn (take (i + 1) xs) x v
seen_more xs i see x v l e a h = All-more (λ (s : See). Allows s x v) xs i see l h (subst (λ (s : See). Allows s x v) e a)

pub seen_not : (xs : List See) (i : ℕ) (see : See) (x : ℕ) (v : Val) (r : Bool) → i < length xs → see ≡ get_or xs i see → r ≡ false → IsTrue r ↔ Allows see x v → IsTrue false ↔ SeenIn xs x v
seen_not xs i see x v r l e z s = (
  (λ h. cc),
  (λ a. subst IsTrue z (s.1 (subst (λ (y : See). Allows y x v) (sym e) (All-get_or (λ (y : See). Allows y x v) xs i see l a)))),
)

pub seen_all : (xs : List See) (i : ℕ) (x : ℕ) (v : Val) → length xs ≤ i → SeenIn (take i xs) x v → IsTrue true ↔ SeenIn xs x v
seen_all xs i x v l h = ((λ u. subst (λ (us : List See). SeenIn us x v) (take_all i xs l) h), (λ a. refl))

-- one where a test says so
pub one_by_test : {A : Type 0} (P : Type 0) (a : A) (xs : List A) (r : Bool) → IsTrue r ↔ P → xs ≡ (if r then a ∷ [] else []) → OneIf P a xs
one_by_test P a xs true t e = inl (t.0 refl, e)
one_by_test P a xs false t e = inr ((λ p. let h : false ≡ true = t.1 p in cc), e)

pub same_by_test : (v w : Val) → IsTrue (val_eq v w) ↔ (v ≡ w)
same_by_test v w = ((λ e. val_same v w e), (λ e. subst (λ (u : Val). IsTrue (val_eq v u)) e (val_eq_equiv.refl v)))

-- a list of one, where there was none
pub added_first : {A : Type 0} (P : Type 0) (a : A) (old new : List A) → old ≡ [] → Adds P a old new → OneIf P a new
added_first P a old new z (inl h) = inl (h.0, h.1 ∙ ap (λ us. us ++ a ∷ []) z)
added_first P a old new z (inr h) = inr (h.0, h.1 ∙ z)

-- what is described as a set can be listed
pub ready_sound : (d : Described) → IsSound d → IsReady d
ready_sound Nat h = h
ready_sound Int h = h
ready_sound Strings h = h
ready_sound Booleans h = h
ready_sound (SeqOf d) h = h
ready_sound (PowerOf d) h = h
ready_sound (Interval y z) h = h
ready_sound (Functions a d) h = h
ready_sound (Records fs) h = h
ready_sound (Product ps) h = h
ready_sound (Union c d) h = h
ready_sound (Inter c d) h = h
ready_sound (Minus c d) h = h
ready_sound (Listed v) h = tt

-- none of no values
pub filled_none : (sees : List See) (x : ℕ) (vs : List Val) (p : Places) (qs : List Places) → qs ≡ [] → AreFilled sees x (take 0 vs) p qs
filled_none sees x vs p qs e q = (
  (λ m. let n : Contains [] q = subst (λ (us : List Places). Contains us q) e m in absurd (omega (arith, n.1))),
  (λ h. absurd (omega (arith, h.1.1))),
)

-- one value more
module _ (sees : List See) (x : ℕ) (p : Places) where
  filled_with : Val → Places
  filled_with v = slice_set p x (Some v)

  abbrev OneOf : List Val → Places → Type 0
  OneOf vs q = (v : Val) × Contains vs v × SeenIn sees x v × (q ≡ slice_set p x (Some v))

  forward : (us : List Val) (v : Val) (old new : List Places) → Adds (SeenIn sees x v) (slice_set p x (Some v)) old new → AreFilled sees x us p old → (q : Places) → Contains new q → OneOf (us ++ v ∷ []) q
  forward us v old new (inl a) h q m = elim (Contains-push_cases old (slice_set p x (Some v)) q (subst (λ (ws : List Places). Contains ws q) a.1 m)) [
    | inl n ↦ let r = (h q).0 n in (r.0, Contains-append_left us (v ∷ []) r.0 r.1, r.2, r.3)
    | inr e ↦ (v, Contains-push us v, a.0, sym e)
  ]
  forward us v old new (inr a) h q m =
      let r = (h q).0 (subst (λ (ws : List Places). Contains ws q) a.1 m) in (r.0, Contains-append_left us (v ∷ []) r.0 r.1, r.2, r.3)

  kept : (v : Val) (old new : List Places) → Adds (SeenIn sees x v) (slice_set p x (Some v)) old new → (q : Places) → Contains old q → Contains new q
  kept v old new (inl a) q m = subst (λ (ws : List Places). Contains ws q) (sym a.1) (Contains-append_left old (slice_set p x (Some v) ∷ []) q m)
  kept v old new (inr a) q m = subst (λ (ws : List Places). Contains ws q) (sym a.1) m

  found_new : (v : Val) (old new : List Places) → Adds (SeenIn sees x v) (slice_set p x (Some v)) old new → SeenIn sees x v → Contains new (slice_set p x (Some v))
  found_new v old new (inl a) s = subst (λ (ws : List Places). Contains ws (slice_set p x (Some v))) (sym a.1) (Contains-push old (slice_set p x (Some v)))
  found_new v old new (inr a) s = absurd (a.0 s)

  backward : (us : List Val) (v : Val) (old new : List Places) → Adds (SeenIn sees x v) (slice_set p x (Some v)) old new → AreFilled sees x us p old → (q : Places) → OneOf (us ++ v ∷ []) q → Contains new q
  backward us v old new a h q r = elim (Contains-push_cases us v r.0 r.1) [
    | inl n ↦ kept v old new a q ((h q).1 (r.0, n, r.2, r.3))
    | inr e ↦
        let s : SeenIn sees x v = subst (λ (w : Val). SeenIn sees x w) (sym e) r.2 in
        let same : slice_set p x (Some v) ≡ q = ap (λ (w : Val). slice_set p x (Some w)) e ∙ sym r.3 in
        subst (λ (y : Places). Contains new y) same (found_new v old new a s)
  ]

  pub filled_more : (vs : List Val) (i : ℕ) (v : Val) (old new : List Places) → i < length vs → v ≡ get_or vs i v → Adds (SeenIn sees x v) (slice_set p x (Some v)) old new
      → AreFilled sees x (take i vs) p old → AreFilled sees x (take (i + 1) vs) p new
  filled_more vs i v old new l e a h =
      let grown : take i vs ++ v ∷ [] ≡ take (i + 1) vs = ap (λ (w : Val). take i vs ++ w ∷ []) e ∙ sym (take_more vs i v l) in
      subst (λ (us : List Val). AreFilled sees x us p new) grown (λ q. (forward (take i vs) v old new a h q, backward (take i vs) v old new a h q))

pub filled_all : (sees : List See) (x : ℕ) (vs : List Val) (i : ℕ) (p : Places) (qs : List Places) → length vs ≤ i → AreFilled sees x (take i vs) p qs → AreFilled sees x vs p qs
filled_all sees x vs i p qs l h = subst (λ (us : List Val). AreFilled sees x us p qs) (take_all i vs l) h

pub ok_then : {A E : Type 0} (r : Result A E) (P Q : A → Type 0) → ((x : A) → P x → Q x) → IfOk r P → IfOk r Q
ok_then (Ok x) P Q f h = f x h
ok_then (Err e) P Q f h = h
