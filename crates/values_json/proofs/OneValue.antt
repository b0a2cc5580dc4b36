-- Data stand for at most one value.
use Rattle.std.proofs.Common.{◌≡◌, ◌⊎◌, inl, inr, ℕ, ℤ, List, [], ◌∷◌, true, Some, codes, ap, sym, ◌∙◌, subst, refl, true≢false, ◌==◌}
use Rattle.serde_json.specs.Data.{Num, Data, null, boolean, number, string, array, object, Items, no_items, item, Members, no_members, member}
use Rattle.values_core.specs.Data.{Val, integer}
use Rattle.values_core.specs.Sets.{IsSetOf}
use Rattle.values_core.specs.SetLaws.{same_members}
use Rattle.values_core.specs.Functions.{fields_as_pairs, sequence_of}
use Rattle.values_core.specs.FunctionLaws.{functions_by_pairs}
use Rattle.values_json.specs.Reads.{Reads, ReadsForm, ReadsSet, ReadsFunction, ReadsModel, ReadsEach, ReadsPairs, ReadsPair, ReadsFields, ReadsNumber, IsMappingOf, is_marked}

one_number : (n : Num) (v w : Val) → ReadsNumber n v → ReadsNumber n w → v ≡ w
one_number n v w p q = let same : p.0 ≡ q.0 = some_is (sym p.1 ∙ q.1) in p.2 ∙ ap integer same ∙ sym q.2
  where
    some_is : {x y : ℤ} → Some x ≡ Some y → x ≡ y
    some_is e = cc

two_of : (v w : Val × Val) → v.0 ∷ v.1 ∷ [] ≡ w.0 ∷ w.1 ∷ [] → v ≡ w
two_of v w e = λ i. (first_of_two (e i), second_of_two (e i))
  where
    first_of_two : List Val → Val
    first_of_two (a ∷ b) = a
    first_of_two [] = v.0

    second_of_two : List Val → Val
    second_of_two (a ∷ b ∷ c) = b
    second_of_two _ = v.1

one_set_of : (xs : List Val) (s t : Val) → IsSetOf xs s → IsSetOf xs t → s ≡ t
one_set_of xs s t p q = same_members s t p.valid q.valid p.is_set q.is_set (λ v. (λ h. (q.same v).1 ((p.same v).0 h), λ h. (p.same v).1 ((q.same v).0 h)))

one_mapping : (ps : List (Val × Val)) (f g : Val) → IsMappingOf ps f → IsMappingOf ps g → f ≡ g
one_mapping ps f g p q = functions_by_pairs f g p.1.valid q.1.valid p.1.is_function q.1.is_function (λ k v. (λ h. (q.1.same k v).1 ((p.1.same k v).0 h), λ h. (p.1.same k v).1 ((q.1.same k v).0 h)))

pub form_is_marked : (k : List ℕ) → (k ≡ codes "$set") ⊎ (k ≡ codes "$fun") ⊎ (k ≡ codes "$model") → is_marked k ≡ true
form_is_marked k h = elim h [
  | inl e ↦ ap is_marked e
  | inr g ↦ elim g [ inl e ↦ ap is_marked e | inr e ↦ ap is_marked e ]
]

pub form_marks : (k : List ℕ) (d : Data) (v : Val) → ReadsForm (member k d no_members) v → (k ≡ codes "$set") ⊎ (k ≡ codes "$fun") ⊎ (k ≡ codes "$model")
form_marks k d v h = elim h [
  | inl a ↦ inl a.0
  | inr g ↦ elim g [ inl a ↦ inr (inl a.0) | inr a ↦ inr (inr a.0) ]
]

-- an object is no record and a form at once
pub not_both : (ms : Members) (fs : List (List ℕ × Val)) (v : Val) → ReadsFields ms fs → ReadsForm ms v → ⊥
not_both no_members fs v p q = q
not_both (member k d no_members) [] v p q = p
not_both (member k d no_members) (f ∷ fs) v p q = true≢false (sym (form_is_marked k (form_marks k d v q)) ∙ p.0)
not_both (member k d (member l e ms)) fs v p q = q

-- the three marks differ
abbrev second : List ℕ → ℕ
second (a ∷ b ∷ c) = b
second _ = 0

set_no_function : (k : List ℕ) → k ≡ codes "$set" → k ≡ codes "$fun" → ⊥
set_no_function k p q = true≢false (ap (λ (l : List ℕ). second l == 115) (sym p ∙ q))

set_no_model : (k : List ℕ) → k ≡ codes "$set" → k ≡ codes "$model" → ⊥
set_no_model k p q = true≢false (ap (λ (l : List ℕ). second l == 115) (sym p ∙ q))

function_no_model : (k : List ℕ) → k ≡ codes "$fun" → k ≡ codes "$model" → ⊥
function_no_model k p q = true≢false (ap (λ (l : List ℕ). second l == 102) (sym p ∙ q))

abbrev Either3 : List ℕ → Type 0 → Type 0 → Type 0 → Type 0
Either3 k A B C = ((k ≡ codes "$set") × A) ⊎ ((k ≡ codes "$fun") × B) ⊎ ((k ≡ codes "$model") × C)

-- of a form one case holds
by_mark : (k : List ℕ) (v w : Val) {A B C D E F : Type 0} → (A → D → v ≡ w) → (B → E → v ≡ w) → (C → F → v ≡ w) → Either3 k A B C → Either3 k D E F → v ≡ w
by_mark k v w f g h p q = elim p [
  | inl a ↦ elim q [ inl d ↦ f a.1 d.1 | inr r ↦ elim r [ inl d ↦ absurd (set_no_function k a.0 d.0) | inr d ↦ absurd (set_no_model k a.0 d.0) ] ]
  | inr o ↦ elim o [
    | inl a ↦ elim q [ inl d ↦ absurd (set_no_function k d.0 a.0) | inr r ↦ elim r [ inl d ↦ g a.1 d.1 | inr d ↦ absurd (function_no_model k a.0 d.0) ] ]
    | inr a ↦ elim q [ inl d ↦ absurd (set_no_model k d.0 a.0) | inr r ↦ elim r [ inl d ↦ absurd (function_no_model k d.0 a.0) | inr d ↦ h a.1 d.1 ] ]
  ]
]

mutual
  pub one_value : (d : Data) (v w : Val) → Reads d v → Reads d w → v ≡ w
  one_value null v w p q = p ∙ sym q
  one_value (boolean b) v w p q = p ∙ sym q
  one_value (number n) v w p q = one_number n v w p q
  one_value (string s) v w p q = p ∙ sym q
  one_value (array ds) v w p q = p.2.0 ∙ ap sequence_of (one_each ds p.0 q.0 p.1 q.1) ∙ sym q.2.0
  one_value (object ms) v w p q = elim p [
    | inl a ↦ elim q [
      | inl b ↦ one_mapping (fields_as_pairs b.0) v w (subst (λ (fs : List (List ℕ × Val)). IsMappingOf (fields_as_pairs fs) v) (one_fields ms a.0 b.0 a.1 b.1) a.2) b.2
      | inr b ↦ absurd (not_both ms a.0 w a.1 b)
    ]
    | inr a ↦ elim q [ inl b ↦ absurd (not_both ms b.0 v b.1 a) | inr b ↦ one_form ms v w a b ]
  ]

  one_form : (ms : Members) (v w : Val) → ReadsForm ms v → ReadsForm ms w → v ≡ w
  one_form no_members v w p q = absurd p
  one_form (member k d no_members) v w p q = by_mark k v w (one_set d v w) (one_function d v w) (one_model d v w) p q
  one_form (member k d (member l e ms)) v w p q = absurd p

  one_set : (d : Data) (v w : Val) → ReadsSet d v → ReadsSet d w → v ≡ w
  one_set null v w p q = absurd p
  one_set (boolean b) v w p q = absurd p
  one_set (number n) v w p q = absurd p
  one_set (string s) v w p q = absurd p
  one_set (array ds) v w p q = one_set_of q.0 v w (subst (λ (vs : List Val). IsSetOf vs v) (one_each ds p.0 q.0 p.1 q.1) p.2) q.2
  one_set (object ms) v w p q = absurd p

  one_function : (d : Data) (v w : Val) → ReadsFunction d v → ReadsFunction d w → v ≡ w
  one_function null v w p q = absurd p
  one_function (boolean b) v w p q = absurd p
  one_function (number n) v w p q = absurd p
  one_function (string s) v w p q = absurd p
  one_function (array ds) v w p q = one_mapping q.0 v w (subst (λ (ps : List (Val × Val)). IsMappingOf ps v) (one_pairs ds p.0 q.0 p.1 q.1) p.2) q.2
  one_function (object ms) v w p q = absurd p

  one_model : (d : Data) (v w : Val) → ReadsModel d v → ReadsModel d w → v ≡ w
  one_model null v w p q = absurd p
  one_model (boolean b) v w p q = absurd p
  one_model (number n) v w p q = absurd p
  one_model (string s) v w p q = p ∙ sym q
  one_model (array ds) v w p q = absurd p
  one_model (object ms) v w p q = absurd p

  pub one_each : (ds : Items) (vs ws : List Val) → ReadsEach ds vs → ReadsEach ds ws → vs ≡ ws
  one_each no_items [] [] p q = refl
  one_each no_items (v ∷ vs) ws p q = absurd p
  one_each no_items [] (w ∷ ws) p q = absurd q
  one_each (item d ds) (v ∷ vs) (w ∷ ws) p q = λ i. one_value d v w p.0 q.0 i ∷ one_each ds vs ws p.1 q.1 i
  one_each (item d ds) [] ws p q = absurd p
  one_each (item d ds) (v ∷ vs) [] p q = absurd q

  pub one_pairs : (ds : Items) (vs ws : List (Val × Val)) → ReadsPairs ds vs → ReadsPairs ds ws → vs ≡ ws
  one_pairs no_items [] [] p q = refl
  one_pairs no_items (v ∷ vs) ws p q = absurd p
  one_pairs no_items [] (w ∷ ws) p q = absurd q
  one_pairs (item d ds) (v ∷ vs) (w ∷ ws) p q = λ i. one_pair d v w p.0 q.0 i ∷ one_pairs ds vs ws p.1 q.1 i
  one_pairs (item d ds) [] ws p q = absurd p
  one_pairs (item d ds) (v ∷ vs) [] p q = absurd q

  one_pair : (d : Data) (v w : Val × Val) → ReadsPair d v → ReadsPair d w → v ≡ w
  one_pair null v w p q = absurd p
  one_pair (boolean b) v w p q = absurd p
  one_pair (number n) v w p q = absurd p
  one_pair (string s) v w p q = absurd p
  one_pair (array ds) v w p q = two_of v w (one_each ds (v.0 ∷ v.1 ∷ []) (w.0 ∷ w.1 ∷ []) p q)
  one_pair (object ms) v w p q = absurd p

  pub one_fields : (ms : Members) (fs gs : List (List ℕ × Val)) → ReadsFields ms fs → ReadsFields ms gs → fs ≡ gs
  one_fields no_members [] [] p q = refl
  one_fields no_members (f ∷ fs) gs p q = absurd p
  one_fields no_members [] (g ∷ gs) p q = absurd q
  one_fields (member k d ms) (f ∷ fs) (g ∷ gs) p q = λ i. ((p.1 ∙ sym q.1) i, one_value d f.1 g.1 p.2 q.2 i) ∷ one_fields ms fs gs p.3 q.3 i
  one_fields (member k d ms) [] gs p q = absurd p
  one_fields (member k d ms) (f ∷ fs) [] p q = absurd q
