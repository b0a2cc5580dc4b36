-- What a map finds of a key, where equal keys are one key.
use Rattle.std.proofs.Common.{◌≡◌, Bool, true, false, cond, List, [], ◌∷◌, Option, None, Some, is_some, unwrap_or, if◌then◌else◌, refl, sym, subst, ap, ◌∙◌, true≢false, inl, inr, arith, ℕ}
use Rattle.std.specs.List.{Contains}
use Rattle.std.specs.Map.{lookup}
use Rattle.indexmap.specs.IndexMap.{insert_entry, IndexMap, get}
use Rattle.indexmap.proofs.CallerLemmas.{insert_entry-new}
use Rattle.states_layers.specs.Found.{Found, members_of, AddsNew}
use Rattle.states_layers.proofs.Members.{in_nil, in_right, in_append, in_one}

none_of : {A : Type 0} (o : Option A) → is_some o ≡ false → o ≡ None
none_of None h = refl
none_of (Some x) h = absurd (true≢false h)

module _ {A : Type 0} {E : A → A → Bool} (same : (a b : A) → E a b ≡ true → a ≡ b) (itself : (a : A) → E a a ≡ true) where
  pub there : (es : List (Found A)) (k : A) → is_some (lookup (E k) es) ≡ true → Contains (members_of es) k
  there [] k h = absurd (true≢false (sym h))
  there (e ∷ es) k h = by (E k e.0) refl (there es k)
    where
      by : (b : Bool) → E k e.0 ≡ b → (is_some (lookup (E k) es) ≡ true → Contains (members_of es) k) → Contains (members_of (e ∷ es)) k
      by true p rest = subst (λ (x : A). Contains (members_of (e ∷ es)) x) (sym (same k e.0 p)) (0, omega arith, refl)
      by false p rest = in_right (e.0 ∷ []) (members_of es) k (rest (sym (ap (λ c. is_some (cond c (Some e.1) (lookup (E k) es))) p) ∙ h))

  pub not_there : (es : List (Found A)) (k : A) → is_some (lookup (E k) es) ≡ false → Contains (members_of es) k → ⊥
  not_there [] k h c = in_nil k c
  not_there (e ∷ es) k h c = by (E k e.0) refl (not_there es k)
    where
      by : (b : Bool) → E k e.0 ≡ b → (is_some (lookup (E k) es) ≡ false → Contains (members_of es) k → ⊥) → ⊥
      by true p rest = true≢false (sym (ap (λ c. is_some (cond c (Some e.1) (lookup (E k) es))) p) ∙ h)
      by false p rest = elim (in_append (e.0 ∷ []) (members_of es) k c) [
        | inl a ↦ true≢false (sym (itself k) ∙ subst (λ (x : A). E k x ≡ false) (in_one e.0 k a) p)
        | inr b ↦ rest (sym (ap (λ c. is_some (cond c (Some e.1) (lookup (E k) es))) p) ∙ h) b
      ]

  -- an entry that has its own value again
  insert_same : (es : List (Found A)) (k : A) (v : ℕ) → lookup (E k) es ≡ Some v → insert_entry E es k v ≡ es
  insert_same [] k v h = absurd (some_none h)
    where
      some_none : {B : Type 0} {b : B} → None ≡ Some b → ⊥
      some_none e = absurd (true≢false (sym (ap is_some e)))
  insert_same (e ∷ es) k v h = by (E k e.0) refl (insert_same es k v)
    where
      some_same : {B : Type 0} (a b : B) → Some a ≡ Some b → a ≡ b
      some_same a b q = ap (λ o. unwrap_or o a) q

      by : (b : Bool) → E k e.0 ≡ b → (lookup (E k) es ≡ Some v → insert_entry E es k v ≡ es) → insert_entry E (e ∷ es) k v ≡ e ∷ es
      by true p rest =
          let at : Some e.1 ≡ Some v = sym (ap (λ c. cond c (Some e.1) (lookup (E k) es)) p) ∙ h in
          let own : (e.0, v) ≡ e = ap (λ (n : ℕ). (e.0, n)) (sym (some_same e.1 v at)) in
          ap (λ c. if c then (e.0, v) ∷ es else e ∷ insert_entry E es k v) p ∙ ap (λ (f : Found A). f ∷ es) own
      by false p rest =
          let at : lookup (E k) es ≡ Some v = sym (ap (λ c. cond c (Some e.1) (lookup (E k) es)) p) ∙ h in
          ap (λ c. if c then (e.0, v) ∷ es else e ∷ insert_entry E es k v) p ∙ ap (λ (fs : List (Found A)). e ∷ fs) (rest at)

  -- the entry of the key keeps its value, or gets one where it had none
  pub adds_entry : {S : Type 0} (m : IndexMap A ℕ S) (k : A) (from w : ℕ) (o : Option ℕ) (now : List (Found A)) → o ≡ get E m k → w ≡ unwrap_or o from
      → now ≡ insert_entry E m.entries k w → AddsNew m.entries k from now
  adds_entry m k from w None now h v e =
      inr (not_there m.entries k (ap is_some (sym h)), e ∙ ap (λ (n : ℕ). insert_entry E m.entries k n) v ∙ insert_entry-new E m k from (sym h))
  adds_entry m k from w (Some n) now h v e =
      inl (there m.entries k (ap is_some (sym h)), e ∙ ap (λ (i : ℕ). insert_entry E m.entries k i) v ∙ insert_same m.entries k n (sym h))

  pub adds_written : {S : Type 0} (m written : IndexMap A ℕ S) (k : A) (from w : ℕ) (o : Option ℕ) → o ≡ get E m k → w ≡ unwrap_or o from
      → written.entries ≡ insert_entry E m.entries k w → (now : IndexMap A ℕ S) → now ≡ written → AddsNew m.entries k from now.entries
  adds_written {S = S} m written k from w o h v e now same = adds_entry m k from w o now.entries h v (ap (λ (n : IndexMap A ℕ S). n.entries) same ∙ e)
