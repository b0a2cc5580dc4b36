-- Sequences and tuples, by what a loop over their values finds.
use Rattle.std.proofs.Common.{◌≡◌, ◌⊎◌, inl, inr, ℕ, zero, suc, ◌+◌, ◌<◌, ◌≤◌, List, [], ◌∷◌, length, map, ap, sym, ◌∙◌, subst, refl, arith}
use Rattle.std.specs.Prelude.{slice_get, Some, None}
use Rattle.values_core.specs.Data.{Val}
use Rattle.values_core.specs.Sets.{count_of}
use Rattle.values_core.specs.Functions.{IsSequence, numbered_from, sequence_of, values_in}
use Rattle.values_core.specs.FunctionLaws.{entries-pairs_of}
use Rattle.values_operations.proofs.Parts.{count_is}
use Rattle.values_sets.specs.DescribedSets.{Described, SeqOf, Product, Parts}
use Rattle.values_sets.specs.DescribedViews.{parts_of}
use Rattle.values_sets.specs.Membership.{Belongs, AreOfParts}
use Rattle.values_sets.proofs.Loops.{EachBelow, all_of, is_in, none_within}

values-numbered : (n : ℕ) (vs : List Val) → map (λ p. p.1) (numbered_from n vs) ≡ vs
values-numbered n [] = refl
values-numbered n (v ∷ vs) = ap (λ ws. v ∷ ws) (values-numbered (suc n) vs)

pub values-sequence_of : (vs : List Val) → values_in (sequence_of vs) ≡ vs
values-sequence_of vs = ap (λ (ps : List (Val × Val)). map (λ p. p.1) ps) (entries-pairs_of (numbered_from 1 vs)) ∙ values-numbered 1 vs

pub all_belong : (d : Described) (v : Val) (i : ℕ) → IsSequence v → count_of v ≤ i → EachBelow (Belongs d) (values_in v) i → Belongs (SeqOf d) v
all_belong d v i s l f = (s, all_of (Belongs d) (values_in v) i (omega (arith, l, count_is v s)) f)

pub one_is_outside : (d : Described) (v w : Val) (i : ℕ) → slice_get (values_in v) i ≡ Some w → ¬ Belongs d w → ¬ Belongs (SeqOf d) v
one_is_outside d v w i e n b = n (b.1 w (is_in (values_in v) i w e))

-- the values before the index belong to the parts beside them
abbrev pub PairsBelow : List Described → List Val → ℕ → Type 0
PairsBelow ds ws i = (k : ℕ) (d : Described) (w : Val) → k < i → slice_get ds k ≡ Some d → slice_get ws k ≡ Some w → Belongs d w

below_or : (k i : ℕ) → k < i + 1 → (k < i) ⊎ (k ≡ i)
below_or k i h = grind arith

pub no_pairs_below : (ds : List Described) (ws : List Val) → PairsBelow ds ws 0
no_pairs_below ds ws k d w l e f = absurd (omega arith)

pub one_more_pair : (ds : List Described) (ws : List Val) (i : ℕ) (d : Described) (w : Val) → slice_get ds i ≡ Some d → slice_get ws i ≡ Some w → Belongs d w → PairsBelow ds ws i → PairsBelow ds ws (i + 1)
one_more_pair ds ws i d w e f b each k x y l g h = elim (below_or k i l) [
  | inl m ↦ each k x y m g h
  | inr m ↦
      let p : Some d ≡ Some x = sym e ∙ ap (λ n. slice_get ds n) (sym m) ∙ g in
      let q : Some w ≡ Some y = sym f ∙ ap (λ n. slice_get ws n) (sym m) ∙ h in
      let p1 : d ≡ x = cc in
      let q1 : w ≡ y = cc in
      subst (λ (z : Described). Belongs z y) p1 (subst (λ (z : Val). Belongs d z) q1 b)
]

pub parts_belong : (ds : List Described) (ws : List Val) → length ds ≡ length ws → ((k : ℕ) (d : Described) (w : Val) → slice_get ds k ≡ Some d → slice_get ws k ≡ Some w → Belongs d w) → AreOfParts (parts_of ds) ws
parts_belong [] [] l f = tt
parts_belong [] (w ∷ ws) l f = absurd (omega arith)
parts_belong (d ∷ ds) [] l f = absurd (omega arith)
parts_belong (d ∷ ds) (w ∷ ws) l f = (f 0 d w refl refl, parts_belong ds ws (omega arith) (λ k. f (suc k)))

as_many_parts : (ds : List Described) (ws : List Val) → AreOfParts (parts_of ds) ws → length ds ≡ length ws
as_many_parts [] [] o = refl
as_many_parts [] (w ∷ ws) o = absurd o
as_many_parts (d ∷ ds) [] o = absurd o
as_many_parts (d ∷ ds) (w ∷ ws) o = ap suc (as_many_parts ds ws o.1)

part_belongs : (ds : List Described) (ws : List Val) (k : ℕ) (d : Described) (w : Val) → AreOfParts (parts_of ds) ws → slice_get ds k ≡ Some d → slice_get ws k ≡ Some w → Belongs d w
part_belongs [] ws k d w o e f = cc
part_belongs (x ∷ ds) [] k d w o e f = cc
part_belongs (x ∷ ds) (y ∷ ws) zero d w o e f =
    let p : x ≡ d = cc in
    let q : y ≡ w = cc in
    subst (λ (z : Described). Belongs z w) p (subst (λ (z : Val). Belongs x z) q o.0)
part_belongs (x ∷ ds) (y ∷ ws) (suc k) d w o e f = part_belongs ds ws k d w o.1 e f

-- the values that a tuple belongs by are its own
own_values : (ds : List Described) (v : Val) → Belongs (Product (parts_of ds)) v → AreOfParts (parts_of ds) (values_in v)
own_values ds v b = subst (λ (ws : List Val). AreOfParts (parts_of ds) ws) (sym (values-sequence_of b.0) ∙ sym (ap values_in b.1)) b.2

pub is_a_sequence : (ps : Parts) (v : Val) → Belongs (Product ps) v → IsSequence v
is_a_sequence ps v b = b.1 ∙ ap sequence_of (sym (values-sequence_of b.0) ∙ sym (ap values_in b.1))

pub tuple_all : (ds : List Described) (v : Val) (i : ℕ) → IsSequence v → count_of v ≡ length ds → length ds ≤ i → PairsBelow ds (values_in v) i → Belongs (Product (parts_of ds)) v
tuple_all ds v i s l m each =
    (values_in v, s, parts_belong ds (values_in v) (omega (arith, l, count_is v s)) (λ k d w e f. each k d w (omega (arith, m, within ds k d e)) e f))
  where
    within : (xs : List Described) (k : ℕ) (d : Described) → slice_get xs k ≡ Some d → k < length xs
    within [] k d e = cc
    within (x ∷ xs) zero d e = omega arith
    within (x ∷ xs) (suc k) d e = omega (arith, within xs k d e)

pub as_many_values : (ds : List Described) (v : Val) → Belongs (Product (parts_of ds)) v → count_of v ≡ length ds
as_many_values ds v b = count_is v (is_a_sequence (parts_of ds) v b) ∙ sym (as_many_parts ds (values_in v) (own_values ds v b))

pub value_is_outside : (ds : List Described) (v : Val) (i : ℕ) (d : Described) (w : Val) → slice_get ds i ≡ Some d → slice_get (values_in v) i ≡ Some w → ¬ Belongs d w → ¬ Belongs (Product (parts_of ds)) v
value_is_outside ds v i d w e f n b = n (part_belongs ds (values_in v) i d w (own_values ds v b) e f)

-- the same of the parts that the list is
pub tuple_yes : (ds : List Described) (ps : Parts) (v : Val) (i : ℕ) → parts_of ds ≡ ps → IsSequence v → count_of v ≡ length ds → length ds ≤ i → PairsBelow ds (values_in v) i → Belongs (Product ps) v
tuple_yes ds ps v i e s l m each = subst (λ (qs : Parts). Belongs (Product qs) v) e (tuple_all ds v i s l m each)

pub tuple_count : (ds : List Described) (ps : Parts) (v : Val) → parts_of ds ≡ ps → Belongs (Product ps) v → count_of v ≡ length ds
tuple_count ds ps v e b = as_many_values ds v (subst (λ (qs : Parts). Belongs (Product qs) v) (sym e) b)

pub tuple_outside : (ds : List Described) (ps : Parts) (v : Val) (i : ℕ) (d : Described) (w : Val) → parts_of ds ≡ ps → slice_get ds i ≡ Some d → slice_get (values_in v) i ≡ Some w → ¬ Belongs d w → ¬ Belongs (Product ps) v
tuple_outside ds ps v i d w e f g n b = value_is_outside ds v i d w f g n (subst (λ (qs : Parts). Belongs (Product qs) v) (sym e) b)

pub no_value_missing : (v : Val) (n i : ℕ) → IsSequence v → count_of v ≡ n → i < n → slice_get (values_in v) i ≡ None → ⊥
no_value_missing v n i s l h e = omega (arith, h, l, count_is v s, none_within (values_in v) i e)
