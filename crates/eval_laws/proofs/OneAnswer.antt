-- Answers of operations on values: an operation has at most one, want of memory apart, and what it gives is a value.
use Rattle.std.proofs.Common.{◌≡◌, ◌⊎◌, inl, inr, ap, sym, ◌∙◌, subst, refl, arith, ℕ, ◌<◌, ◌≤◌, List, [], ◌∷◌, length}
use Rattle.std.specs.Prelude.{Result, Ok, Err, Contains}
use Rattle.std.proofs.lemmas.List.{length-map}
use Rattle.values_core.specs.Data.{Val, model, truth, integer, string, set, function, depth, entries}
use Rattle.values_core.specs.IsValue.{IsValue, max_members, max_depth}
use Rattle.values_core.specs.Integers.{the_term}
use Rattle.values_core.specs.Ascending.{cons_cases}
use Rattle.values_core.specs.Order.{val_eq}
use Rattle.values_core.specs.OrderLaws.{val_eq_equiv}
use Rattle.values_core.specs.Sets.{items_of}
use Rattle.values_core.specs.SetLaws.{same_members, member_shallow}
use Rattle.values_core.specs.SetOperations.{GivesSet, IsSetWith, AreTooMany, IsOneTooDeep, AreDifferent, OnSet, OnSets}
use Rattle.values_core.specs.Functions.{IsSequence, HasKeyTwice, pairs_in, values_in, numbered_from, sequence_of}
use Rattle.values_core.specs.FunctionLaws.{functions_by_pairs, function_is, key_count, count_cons, entries-pairs_of}
use Rattle.values_core.specs.FunctionOperations.{GivesFunction, IsFunctionWith, AreTooManyPairs, IsPairTooDeep, GivesValue, GivesSequence, OnFunction, OnFunctions, OnSequence}
use Rattle.values_core.specs.declared.fault.EvalKind.TheVariants.{NotSet, NotFunction, NotSequence, TooLarge, TooDeep}
use Rattle.values_core.specs.declared.fault.OpFault.{OpFault}
use Rattle.values_core.specs.declared.fault.OpFault.TheVariants.{Refused, NoMemory}
use Rattle.values_core.proofs.FunctionLemmas.{pair_depth_in}
use Rattle.values_core.proofs.SequenceLemmas.{length-numbered}
use Rattle.values_operations.proofs.Listing.{no_longer}
use Rattle.values_operations.proofs.Taking.{few_items}
use Rattle.std.specs.Prelude.{Bool, true, false, cond}

-- of two answers one is want of memory, or they are one
abbrev pub HasOneAnswer : {A : Type 0} → (Result A OpFault → Type 0) → Type 0
HasOneAnswer {A = A} Q = (q r : Result A OpFault) → Q q → Q r → (q ≡ Err NoMemory) ⊎ ((r ≡ Err NoMemory) ⊎ (q ≡ r))

-- one answer, which is a value if it is no refusal
pub record IsSure (Q : Result Val OpFault → Type 0) : Type 0 where
  pub one : HasOneAnswer Q
  pub value : (v : Val) → Q (Ok v) → IsValue v

unlike : {A : Type 0} (v : A) (f : OpFault) → Ok v ≡ Err f → ⊥
unlike v f e = cc

pub sure_none : IsSure (λ r. ⊥)
sure_none = record { one = λ q r g h. absurd g; value = λ v g. absurd g }

pub sure_same : (s : Result Val OpFault) → ((v : Val) → s ≡ Ok v → IsValue v) → IsSure (λ r. r ≡ s)
sure_same s f = record { one = λ q r g h. inr (inr (g ∙ sym h)); value = λ v g. f v (sym g) }

pub sure_refusal : (f : OpFault) → IsSure (λ r. r ≡ Err f)
sure_refusal f = sure_same (Err f) (λ v e. absurd (unlike v f (sym e)))

-- the one or the other, by what excludes each other
pub sure_or : (A B : Type 0) (Q R : Result Val OpFault → Type 0) → (A → B → ⊥) → (A → IsSure Q) → (B → IsSure R) → IsSure (λ r. (A × Q r) ⊎ (B × R r))
sure_or A B Q R apart s t = record { one = one; value = value }
  where
    one : HasOneAnswer (λ r. (A × Q r) ⊎ (B × R r))
    one q r (inl g) (inl h) = (s g.0).one q r g.1 h.1
    one q r (inl g) (inr h) = absurd (apart g.0 h.0)
    one q r (inr g) (inl h) = absurd (apart h.0 g.0)
    one q r (inr g) (inr h) = (t g.0).one q r g.1 h.1

    value : (v : Val) → (A × Q (Ok v)) ⊎ (B × R (Ok v)) → IsValue v
    value v (inl g) = (s g.0).value v g.1
    value v (inr g) = (t g.0).value v g.1

-- what a set gives, by its four answers
abbrev OfSet : (Val → Type 0) → Result Val OpFault → Type 0
OfSet P r =
    (r ≡ Err NoMemory)
    ⊎ (((s : Val) × (r ≡ Ok s) × IsSetWith P s)
    ⊎ (((r ≡ Err (Refused TooLarge the_term)) × AreTooMany P)
    ⊎ ((r ≡ Err (Refused TooDeep the_term)) × (¬ AreTooMany P × IsOneTooDeep P))))

of_set : (P : Val → Type 0) (r : Result Val OpFault) → GivesSet P r → OfSet P r
of_set P (Ok s) g = inr (inl (s, refl, g))
of_set P (Err NoMemory) g = inl refl
of_set P (Err (Refused TooLarge n)) g = inr (inr (inl (ap (λ k. Err (Refused TooLarge k)) g.0, g.1)))
of_set P (Err (Refused TooDeep n)) g = inr (inr (inr (ap (λ k. Err (Refused TooDeep k)) g.0, (g.1, g.2))))
of_set P (Err (Refused kind n)) g = absurd g

not_many : (P : Val → Type 0) (s : Val) → IsSetWith P s → AreTooMany P → ⊥
not_many P s o m = omega (arith, m.many, few_items s o.valid, no_longer m.some (items_of s) m.different (λ v h. (o.same v).1 (m.each v h)))

not_deep : (P : Val → Type 0) (s : Val) → IsSetWith P s → IsOneTooDeep P → ⊥
not_deep P s o d = omega (arith, d.deep, member_shallow s d.one o.valid ((o.same d.one).1 d.meets))

one_set : (P : Val → Type 0) (s t : Val) → IsSetWith P s → IsSetWith P t → s ≡ t
one_set P s t o p = same_members s t o.valid p.valid o.is_set p.is_set (λ v. (λ h. (p.same v).1 ((o.same v).0 h), λ h. (o.same v).1 ((p.same v).0 h)))

-- Three answers beside want of memory, of which one is the value: of no two kinds can both be.
two_of : (q r : Result Val OpFault) (k l : OpFault) (S : Val → Type 0) (M D : Type 0) → ((s t : Val) → S s → S t → s ≡ t) → ((s : Val) → S s → M → ⊥) → ((s : Val) → S s → D → ⊥) → (M → D → ⊥)
    → (q ≡ Err NoMemory) ⊎ (((s : Val) × (q ≡ Ok s) × S s) ⊎ (((q ≡ Err k) × M) ⊎ ((q ≡ Err l) × D)))
    → (r ≡ Err NoMemory) ⊎ (((s : Val) × (r ≡ Ok s) × S s) ⊎ (((r ≡ Err k) × M) ⊎ ((r ≡ Err l) × D)))
    → (q ≡ Err NoMemory) ⊎ ((r ≡ Err NoMemory) ⊎ (q ≡ r))
two_of q r k l S M D one many deep both (inl a) b = inl a
two_of q r k l S M D one many deep both (inr a) (inl b) = inr (inl b)
two_of q r k l S M D one many deep both (inr (inl a)) (inr (inl b)) = inr (inr (a.1 ∙ ap Ok (one a.0 b.0 a.2 b.2) ∙ sym b.1))
two_of q r k l S M D one many deep both (inr (inl a)) (inr (inr (inl b))) = absurd (many a.0 a.2 b.1)
two_of q r k l S M D one many deep both (inr (inl a)) (inr (inr (inr b))) = absurd (deep a.0 a.2 b.1)
two_of q r k l S M D one many deep both (inr (inr (inl a))) (inr (inl b)) = absurd (many b.0 b.2 a.1)
two_of q r k l S M D one many deep both (inr (inr (inl a))) (inr (inr (inl b))) = inr (inr (a.0 ∙ sym b.0))
two_of q r k l S M D one many deep both (inr (inr (inl a))) (inr (inr (inr b))) = absurd (both a.1 b.1)
two_of q r k l S M D one many deep both (inr (inr (inr a))) (inr (inl b)) = absurd (deep b.0 b.2 a.1)
two_of q r k l S M D one many deep both (inr (inr (inr a))) (inr (inr (inl b))) = absurd (both b.1 a.1)
two_of q r k l S M D one many deep both (inr (inr (inr a))) (inr (inr (inr b))) = inr (inr (a.0 ∙ sym b.0))

pub sure_set : (P : Val → Type 0) → IsSure (GivesSet P)
sure_set P = record {
  one = λ q r g h. two_of q r (Refused TooLarge the_term) (Refused TooDeep the_term) (IsSetWith P) (AreTooMany P) (¬ AreTooMany P × IsOneTooDeep P)
      (one_set P) (not_many P) (λ s o d. not_deep P s o d.1) (λ m d. d.0 m) (of_set P q g) (of_set P r h);
  value = λ v g. g.valid;
}

-- what a function gives
abbrev OfFunction : (Val → Val → Type 0) → Result Val OpFault → Type 0
OfFunction P r =
    (r ≡ Err NoMemory)
    ⊎ (((s : Val) × (r ≡ Ok s) × IsFunctionWith P s)
    ⊎ (((r ≡ Err (Refused TooLarge the_term)) × AreTooManyPairs P)
    ⊎ ((r ≡ Err (Refused TooDeep the_term)) × (¬ AreTooManyPairs P × IsPairTooDeep P))))

of_function : (P : Val → Val → Type 0) (r : Result Val OpFault) → GivesFunction P r → OfFunction P r
of_function P (Ok s) g = inr (inl (s, refl, g))
of_function P (Err NoMemory) g = inl refl
of_function P (Err (Refused TooLarge n)) g = inr (inr (inl (ap (λ k. Err (Refused TooLarge k)) g.0, g.1)))
of_function P (Err (Refused TooDeep n)) g = inr (inr (inr (ap (λ k. Err (Refused TooDeep k)) g.0, (g.1, g.2))))
of_function P (Err (Refused kind n)) g = absurd g

yes_one : (b : Bool) → b ≡ true → 1 ≤ cond b 1 0
yes_one true e = omega arith
yes_one false e = cc

-- a pair counts for its key
counts : (ps : List (Val × Val)) (p : Val × Val) → Contains ps p → 1 ≤ key_count p.0 ps
counts [] p h = absurd (omega (arith, h.1))
counts (q ∷ qs) p h = elim (cons_cases q qs p h) [
  | inl f ↦
      let same : val_eq q.0 p.0 ≡ true = subst (λ (k : Val). val_eq q.0 k ≡ true) (ap (λ (w : Val × Val). w.0) f) (val_eq_equiv.refl q.0) in
      omega (arith, count_cons p.0 q qs, yes_one (val_eq q.0 p.0) same)
  | inr g ↦ omega (arith, count_cons p.0 q qs, counts qs p g)
]

-- where no key comes twice no pair does
once_different : (ps : List (Val × Val)) → ¬ HasKeyTwice ps → AreDifferent ps
once_different [] n = tt
once_different (p ∷ ps) n = (
  λ h. n (record { key = p.0; twice = omega (arith, count_cons p.0 p ps, yes_one (val_eq p.0 p.0) (val_eq_equiv.refl p.0), counts ps p h) }),
  once_different ps (λ t. n (record { key = t.key; twice = omega (arith, t.twice, count_cons t.key p ps) })),
)

-- a value has few pairs
pub few_pairs : (f : Val) → IsValue f → length (pairs_in f) ≤ 100000
few_pairs (function ps) p = omega (arith, p.canonical.0.few, length-map (entries ps) (λ (q : Val × Val). q.0))
few_pairs (model s) p = omega arith
few_pairs (truth s) p = omega arith
few_pairs (integer s) p = omega arith
few_pairs (string s) p = omega arith
few_pairs (set s) p = omega arith

pairs_not_many : (P : Val → Val → Type 0) (f : Val) → IsFunctionWith P f → AreTooManyPairs P → ⊥
pairs_not_many P f o m = omega (arith, m.many, few_pairs f o.valid, no_longer m.some (pairs_in f) (once_different m.some m.once) (λ p h. (o.same p.0 p.1).1 (m.each p.0 p.1 h)))

pair_not_deep : (P : Val → Val → Type 0) (f : Val) → IsFunctionWith P f → IsPairTooDeep P → ⊥
pair_not_deep P f o d =
    omega (arith, d.deep, pair_depth_in (pairs_in f) (d.key, d.value) ((o.same d.key d.value).1 d.meets), ap depth (function_is f o.is_function), o.valid.shallow)

one_function : (P : Val → Val → Type 0) (f g : Val) → IsFunctionWith P f → IsFunctionWith P g → f ≡ g
one_function P f g o p = functions_by_pairs f g o.valid p.valid o.is_function p.is_function (λ k v. (λ h. (p.same k v).1 ((o.same k v).0 h), λ h. (o.same k v).1 ((p.same k v).0 h)))

pub sure_function : (P : Val → Val → Type 0) → IsSure (GivesFunction P)
sure_function P = record {
  one = λ q r g h. two_of q r (Refused TooLarge the_term) (Refused TooDeep the_term) (IsFunctionWith P) (AreTooManyPairs P) (¬ AreTooManyPairs P × IsPairTooDeep P)
      (one_function P) (pairs_not_many P) (λ s o d. pair_not_deep P s o d.1) (λ m d. d.0 m) (of_function P q g) (of_function P r h);
  value = λ v g. g.valid;
}

-- what a sequence gives
abbrev IsTheSequence : List Val → Val → Type 0
IsTheSequence vs f = (f ≡ sequence_of vs) × IsValue f

abbrev OfSequence : List Val → Result Val OpFault → Type 0
OfSequence vs r =
    (r ≡ Err NoMemory)
    ⊎ (((s : Val) × (r ≡ Ok s) × IsTheSequence vs s)
    ⊎ (((r ≡ Err (Refused TooLarge the_term)) × (max_members < length vs))
    ⊎ ((r ≡ Err (Refused TooDeep the_term)) × ((length vs ≤ max_members) × (max_depth < depth (sequence_of vs))))))

of_sequence : (vs : List Val) (r : Result Val OpFault) → GivesSequence vs r → OfSequence vs r
of_sequence vs (Ok s) g = inr (inl (s, refl, g))
of_sequence vs (Err NoMemory) g = inl refl
of_sequence vs (Err (Refused TooLarge n)) g = inr (inr (inl (ap (λ k. Err (Refused TooLarge k)) g.0, g.1)))
of_sequence vs (Err (Refused TooDeep n)) g = inr (inr (inr (ap (λ k. Err (Refused TooDeep k)) g.0, (g.1, g.2))))
of_sequence vs (Err (Refused kind n)) g = absurd g

pub length-sequence : (vs : List Val) → length (pairs_in (sequence_of vs)) ≡ length vs
length-sequence vs = ap (λ (ps : List (Val × Val)). length ps) (entries-pairs_of (numbered_from 1 vs)) ∙ length-numbered 1 vs

sequence_few : (vs : List Val) (f : Val) → IsTheSequence vs f → max_members < length vs → ⊥
sequence_few vs f o m = omega (arith, few_pairs f o.1, ap (λ (g : Val). length (pairs_in g)) o.0, length-sequence vs, m)

sequence_low : (vs : List Val) (f : Val) → IsTheSequence vs f → max_depth < depth (sequence_of vs) → ⊥
sequence_low vs f o m = omega (arith, o.1.shallow, ap depth o.0, m)

pub sure_sequence : (vs : List Val) → IsSure (GivesSequence vs)
sure_sequence vs = record {
  one = λ q r g h. two_of q r (Refused TooLarge the_term) (Refused TooDeep the_term) (IsTheSequence vs) (max_members < length vs) ((length vs ≤ max_members) × (max_depth < depth (sequence_of vs)))
      (λ s t o p. o.0 ∙ sym p.0) (sequence_few vs) (λ s o d. sequence_low vs s o d.1) (λ m d. omega (arith, m, d.0)) (of_sequence vs q g) (of_sequence vs r h);
  value = λ v g. g.1;
}

pub sure_value : (P : Val → Type 0) → ((v w : Val) → P v → P w → v ≡ w) → ((v : Val) → P v → IsValue v) → IsSure (GivesValue P)
sure_value P one good = record { one = answer; value = λ v g. good v g }
  where
    answer : HasOneAnswer (GivesValue P)
    answer (Err NoMemory) r g h = inl refl
    answer (Err (Refused k n)) r g h = absurd g
    answer (Ok v) (Ok w) g h = inr (inr (ap Ok (one v w g h)))
    answer (Ok v) (Err NoMemory) g h = inr (inl refl)
    answer (Ok v) (Err (Refused k n)) g h = absurd h

-- operands

pub sure_on_set : (a : Val) (Q : Result Val OpFault → Type 0) → IsSure Q → IsSure (OnSet a Q)
sure_on_set (set vs) Q s = s
sure_on_set a Q s = sure_refusal (Refused NotSet 0)

pub sure_on_sets : (a b : Val) (Q : Result Val OpFault → Type 0) → IsSure Q → IsSure (OnSets a b Q)
sure_on_sets (set us) (set vs) Q s = s
sure_on_sets (set us) b Q s = sure_refusal (Refused NotSet 1)
sure_on_sets a b Q s = sure_refusal (Refused NotSet 0)

pub sure_on_function : (f : Val) (Q : Result Val OpFault → Type 0) → IsSure Q → IsSure (OnFunction f Q)
sure_on_function (function ps) Q s = s
sure_on_function a Q s = sure_refusal (Refused NotFunction 0)

pub sure_on_functions : (f g : Val) (Q : Result Val OpFault → Type 0) → IsSure Q → IsSure (OnFunctions f g Q)
sure_on_functions (function ps) (function qs) Q s = s
sure_on_functions (function ps) b Q s = sure_refusal (Refused NotFunction 1)
sure_on_functions a b Q s = sure_refusal (Refused NotFunction 0)

pub sure_on_sequence : (n : ℕ) (a : Val) (Q : List Val → Result Val OpFault → Type 0) → IsSure (Q (values_in a)) → IsSure (OnSequence n a Q)
sure_on_sequence n a Q s = sure_or (IsSequence a) (¬ IsSequence a) (Q (values_in a)) (λ r. r ≡ Err (Refused NotSequence n)) (λ h g. g h) (λ h. s) (λ h. sure_refusal (Refused NotSequence n))
