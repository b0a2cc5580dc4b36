-- The keys of [x \in S, y \in T |-> e] differ: the combinations do, and different ones make different keys.
use Rattle.std.proofs.Common.{◌≡◌, ◌⊎◌, inl, inr, refl, ap, sym, ◌∙◌, subst, ℕ, suc, ◌+◌, List, [], ◌∷◌, ◌++◌, length, map, arith}
use Rattle.std.specs.Prelude.{Result, Ok, Err}
use Rattle.std.specs.List.{Contains}
use Rattle.std.proofs.lemmas.List.Elements.{Contains-append_cases}
use Rattle.states_core.specs.declared.fault.Fault.{Fault}
use Rattle.base_core.specs.declared.place.Place.{Place}
use Rattle.values_core.specs.Ascending.{cons_cases, head_in, tail_in, none_in}
use Rattle.values_core.specs.Data.{Val}
use Rattle.values_core.specs.FunctionLaws.{entries-pairs_of}
use Rattle.values_core.specs.Functions.{HasKeyTwice, numbered_from, sequence_of, values_in}
use Rattle.values_core.specs.SetOperations.{AreDifferent}
use Rattle.names_terms.specs.Terms.{Term}
use Rattle.eval_meanings.specs.Binders.{combinations, with_each}
use Rattle.eval_meanings.specs.Contexts.{Context, Evaluate}
use Rattle.eval_meanings.specs.Functions.{KeyOf}
use Rattle.eval_meanings.specs.Meanings.{PairOf}
use Rattle.eval_meanings.specs.Outcomes.{Each}
use Rattle.eval_terms.proofs.RecordLemmas.{different_once}
use Rattle.eval_parts.specs.Walks.{AllDiffer}

-- two lists without a common item
both_differ : {X : Type 0} (xs ys : List X) → AreDifferent xs → AreDifferent ys → ((x : X) → Contains xs x → Contains ys x → ⊥) → AreDifferent (xs ++ ys)
both_differ [] ys d e apart = e
both_differ {X = X} (x ∷ xs) ys d e apart = (not_again, both_differ xs ys d.1 e (λ y h g. apart y (tail_in x xs y h) g))
  where
    not_again : Contains (xs ++ ys) x → ⊥
    not_again h = elim (Contains-append_cases xs ys x h) [
      | inl g ↦ d.0 g
      | inr g ↦ apart x (head_in x xs) g
    ]

-- a member before combinations
before_in : (v : Val) (all : List (List Val)) (c : List Val) → Contains (map (λ (chosen : List Val). v ∷ chosen) all) c → (d : List Val) × Contains all d × (c ≡ v ∷ d)
before_in v [] c h = absurd (none_in c h)
before_in v (a ∷ all) c h = elim (cons_cases (v ∷ a) (map (λ (chosen : List Val). v ∷ chosen) all) c h) [
  | inl e ↦ (a, head_in a all, sym e)
  | inr g ↦ let found = before_in v all c g in (found.0, tail_in a all found.0 found.1, found.2)
]

same_head : (v w : Val) (c d : List Val) → v ∷ c ≡ w ∷ d → v ≡ w
same_head v w c d e = cc

same_tail : (v w : Val) (c d : List Val) → v ∷ c ≡ w ∷ d → c ≡ d
same_tail v w c d e = cc

before_differ : (v : Val) (all : List (List Val)) → AreDifferent all → AreDifferent (map (λ (chosen : List Val). v ∷ chosen) all)
before_differ v [] d = tt
before_differ v (a ∷ all) d = (not_again, before_differ v all d.1)
  where
    not_again : Contains (map (λ (chosen : List Val). v ∷ chosen) all) (v ∷ a) → ⊥
    not_again h = let found = before_in v all (v ∷ a) h in d.0 (subst (λ (b : List Val). Contains all b) (sym (same_tail v v a found.0 found.2)) found.1)

each_in : (vs : List Val) (all : List (List Val)) (c : List Val) → Contains (with_each vs all) c → (w : Val) × (d : List Val) × Contains vs w × Contains all d × (c ≡ w ∷ d)
each_in [] all c h = absurd (none_in c h)
each_in (v ∷ vs) all c h = elim (Contains-append_cases (map (λ (chosen : List Val). v ∷ chosen) all) (with_each vs all) c h) [
  | inl g ↦ let found = before_in v all c g in (v, found.0, head_in v vs, found.1, found.2)
  | inr g ↦ let found = each_in vs all c g in (found.0, found.1, tail_in v vs found.0 found.2, found.3, found.4)
]

each_differ : (vs : List Val) (all : List (List Val)) → AreDifferent vs → AreDifferent all → AreDifferent (with_each vs all)
each_differ [] all d e = tt
each_differ (v ∷ vs) all d e = both_differ (map (λ (chosen : List Val). v ∷ chosen) all) (with_each vs all) (before_differ v all e) (each_differ vs all d.1 e) apart
  where
    apart : (c : List Val) → Contains (map (λ (chosen : List Val). v ∷ chosen) all) c → Contains (with_each vs all) c → ⊥
    apart c h g =
        let one = before_in v all c h in
        let other = each_in vs all c g in
        d.0 (subst (λ (w : Val). Contains vs w) (sym (same_head v other.0 one.0 other.1 (sym one.2 ∙ other.4))) other.2)

pub combinations_differ : (lists : List (List Val)) → AllDiffer lists → AreDifferent (combinations lists)
combinations_differ [] d = ((λ h. none_in [] h), tt)
combinations_differ (vs ∷ lists) d = each_differ vs (combinations lists) d.0 (combinations_differ lists d.1)

pub combinations_length : (lists : List (List Val)) (c : List Val) → Contains (combinations lists) c → length c ≡ length lists
combinations_length [] c h = elim (cons_cases [] [] c h) [
  | inl e ↦ sym (ap (λ (d : List Val). length d) e)
  | inr g ↦ absurd (none_in c g)
]
combinations_length (vs ∷ lists) c h =
    let found = each_in vs (combinations lists) c h in ap (λ (d : List Val). length d) found.4 ∙ ap suc (combinations_length lists found.1 found.3)

-- different values of one number make different keys
values-numbered : (n : ℕ) (vs : List Val) → map (λ (p : Val × Val). p.1) (numbered_from n vs) ≡ vs
values-numbered n [] = refl
values-numbered n (v ∷ vs) = ap (λ (ws : List Val). v ∷ ws) (values-numbered (suc n) vs)

values-sequence : (vs : List Val) → values_in (sequence_of vs) ≡ vs
values-sequence vs = ap (λ (ps : List (Val × Val)). map (λ (p : Val × Val). p.1) ps) (entries-pairs_of (numbered_from 1 vs)) ∙ values-numbered 1 vs

same_sequence : (us vs : List Val) (key : Val) → key ≡ sequence_of us → key ≡ sequence_of vs → us ≡ vs
same_sequence us vs key e f = sym (values-sequence us) ∙ ap values_in (sym e ∙ f) ∙ values-sequence vs

key_value : Val → Result Val Fault → Val
key_value w (Ok v) = v
key_value w (Err f) = w

same_key : (at : Place) (us vs : List Val) (key : Val) → length us ≡ length vs → KeyOf at us (Ok key) → KeyOf at vs (Ok key) → us ≡ vs
unfolding key_value
same_key at [] [] key n h g = refl
same_key at [] (v ∷ vs) key n h g = absurd (omega (arith, n))
same_key at (u ∷ us) [] key n h g = absurd (omega (arith, n))
same_key at (u ∷ []) (v ∷ []) key n h g = ap (λ (w : Val). w ∷ []) (sym (ap (λ (q : Result Val Fault). key_value key q) h) ∙ ap (λ (q : Result Val Fault). key_value key q) g)
same_key at (u ∷ []) (v ∷ w ∷ vs) key n h g = absurd (omega (arith, n))
same_key at (u ∷ t ∷ us) (v ∷ []) key n h g = absurd (omega (arith, n))
same_key at (u ∷ t ∷ us) (v ∷ w ∷ vs) key n h g = same_sequence (u ∷ t ∷ us) (v ∷ w ∷ vs) key h.0 g.0

pair_value : Val × Val → Result (Val × Val) Fault → Val × Val
pair_value w (Ok p) = p
pair_value w (Err f) = w

pairs_value : List (Val × Val) → Result (List (Val × Val)) Fault → List (Val × Val)
pairs_value w (Ok p) = p
pairs_value w (Err f) = w

-- the key of a pair is what its combination makes
pair_key : (ev : Evaluate) (c : Context) (at : Place) (e : Term) (chosen : List Val) (p : Val × Val) → PairOf ev c at e chosen (Ok p) → KeyOf at chosen (Ok p.0)
unfolding pair_value
pair_key ev c at e chosen p (inl (v, h, inl (key, g, q))) = subst (λ (k : Val). KeyOf at chosen (Ok k)) (sym (ap (λ (r : Result (Val × Val) Fault). (pair_value p r).0) q)) g
pair_key ev c at e chosen p (inl (v, h, inr (f, g, q))) = cc
pair_key ev c at e chosen p (inr (f, h, q)) = cc

abbrev KeyFrom : Place → List (List Val) → Val → Type 0
KeyFrom at all key = (chosen : List Val) × Contains all chosen × KeyOf at chosen (Ok key)

key_first : (ev : Evaluate) (c : Context) (at : Place) (e : Term) (a : List Val) (all : List (List Val)) (p : Val × Val) (qs : List (Val × Val)) (key : Val) → PairOf ev c at e a (Ok p) → (Contains (map (λ (p : Val × Val). p.0) qs) key → KeyFrom at all key) → Contains (map (λ (p : Val × Val). p.0) (p ∷ qs)) key → KeyFrom at (a ∷ all) key
key_first ev c at e a all p qs key t rest h = elim (cons_cases p.0 (map (λ (p : Val × Val). p.0) qs) key h) [
  | inl s ↦ (a, head_in a all, subst (λ (k : Val). KeyOf at a (Ok k)) s (pair_key ev c at e a p t))
  | inr s ↦ let below = rest s in (below.0, tail_in a all below.0 below.1, below.2)
]

-- a key among the pairs is that of a combination
key_among : (ev : Evaluate) (c : Context) (at : Place) (e : Term) (all : List (List Val)) (ps : List (Val × Val)) (key : Val) → Each (PairOf ev c at e) all (Ok ps) → Contains (map (λ (p : Val × Val). p.0) ps) key → KeyFrom at all key
unfolding pairs_value
key_among ev c at e [] ps key q h =
    absurd (none_in key (subst (λ (us : List (Val × Val)). Contains (map (λ (p : Val × Val). p.0) us) key) (ap (λ (r : Result (List (Val × Val)) Fault). pairs_value ps r) q) h))
key_among ev c at e (a ∷ all) ps key (inl (p, t, inl (qs, r, q))) h =
    key_first ev c at e a all p qs key t (λ s. key_among ev c at e all qs key r s) (subst (λ (us : List (Val × Val)). Contains (map (λ (p : Val × Val). p.0) us) key) (ap (λ (r : Result (List (Val × Val)) Fault). pairs_value ps r) q) h)
key_among ev c at e (a ∷ all) ps key (inl (p, t, inr (f, r, q))) h = cc
key_among ev c at e (a ∷ all) ps key (inr (f, t, q)) h = cc

keys_differ : (ev : Evaluate) (c : Context) (at : Place) (e : Term) (n : ℕ) (all : List (List Val)) (ps : List (Val × Val)) → ((d : List Val) → Contains all d → length d ≡ n) → AreDifferent all → Each (PairOf ev c at e) all (Ok ps) → AreDifferent (map (λ (p : Val × Val). p.0) ps)
unfolding pairs_value
keys_differ ev c at e n [] ps l d q = subst (λ (us : List (Val × Val)). AreDifferent (map (λ (p : Val × Val). p.0) us)) (sym (ap (λ (r : Result (List (Val × Val)) Fault). pairs_value ps r) q)) tt
keys_differ ev c at e n (a ∷ all) ps l d (inl (p, t, inl (qs, r, q))) =
    subst (λ (us : List (Val × Val)). AreDifferent (map (λ (p : Val × Val). p.0) us)) (sym (ap (λ (r : Result (List (Val × Val)) Fault). pairs_value ps r) q)) (new, keys_differ ev c at e n all qs (λ b h. l b (tail_in a all b h)) d.1 r)
  where
    new : Contains (map (λ (p : Val × Val). p.0) qs) p.0 → ⊥
    new h =
        let other = key_among ev c at e all qs p.0 r h in
        let long : length a ≡ length other.0 = l a (head_in a all) ∙ sym (l other.0 (tail_in a all other.0 other.1)) in
        d.0 (subst (λ (b : List Val). Contains all b) (sym (same_key at a other.0 p.0 long (pair_key ev c at e a p t) other.2)) other.1)
keys_differ ev c at e n (a ∷ all) ps l d (inl (p, t, inr (f, r, q))) = cc
keys_differ ev c at e n (a ∷ all) ps l d (inr (f, t, q)) = cc

pub keys_once : (ev : Evaluate) (c : Context) (at : Place) (e : Term) (lists : List (List Val)) (ps : List (Val × Val)) → AllDiffer lists → Each (PairOf ev c at e) (combinations lists) (Ok ps) → ¬ HasKeyTwice ps
keys_once ev c at e lists ps d h t =
    let differ = keys_differ ev c at e (length lists) (combinations lists) ps (combinations_length lists) (combinations_differ lists d) h in
    omega (arith, t.twice, different_once ps differ t.key)
