-- Whether a value belongs to a described set is decided, so that the members of a set that belong to another are a set.
use Rattle.std.proofs.Common.{◌≡◌, ◌↔◌, ◌⊎◌, inl, inr, ℕ, ◌-◌, ◌≤◌, ℤ, pos, Bool, true, false, List, [], ◌∷◌, length, Ok, ap, sym, ◌∙◌, subst, refl, arith}
use Rattle.std.specs.Prelude.{◌≤ℤ◌}
use Rattle.std.specs.List.{Contains}
use Rattle.std.proofs.lemmas.Int.{ints}
use Rattle.values_core.specs.Data.{Val, model, truth, integer, string, set, function, depth}
use Rattle.values_core.specs.Ascending.{cons_cases, head_in, tail_in, none_in}
use Rattle.values_core.specs.IsValue.{IsValue}
use Rattle.values_core.specs.Order.{val_eq}
use Rattle.values_core.specs.OrderLaws.{val_same, val_eq_equiv}
use Rattle.values_core.specs.Sets.{IsSet, Member, items_of, count_of}
use Rattle.values_core.specs.SetLaws.{depth_items, length-items_of}
use Rattle.values_core.specs.Functions.{IsFunction, IsSequence, InDomain, HasPair, keys_in, pairs_in, values_in, sequence_of}
use Rattle.values_operations.proofs.Made.{member_inner}
use Rattle.values_operations.proofs.Pairs.{among_cases}
use Rattle.values_operations.proofs.Taking.{few_items}
use Rattle.values_sets.specs.DescribedSets.{Described, Nat, Int, Strings, Booleans, SeqOf, PowerOf, Interval, Functions, Records, Product, Union, Inter, Minus, Listed, Fields, NoFields, MoreFields, Parts, NoParts, MoreParts}
use Rattle.values_sets.specs.Membership.{Belongs, FieldsBelong, AreOfParts, names_of}
use Rattle.values_sets.specs.ListedParts.{IsChosen}
use Rattle.values_sets.proofs.Collecting.{inter_listed, listed_is, minus_listed}
use Rattle.values_sets.proofs.Tuples.{values-sequence_of}
use Rattle.values_set_bounds.specs.Bounds.{IsListedWithin}
use Rattle.values_set_bounds.proofs.Existing.{IsThere, listed_there, member_depth}
use Rattle.values_set_bounds.proofs.Listed.{apart, from_there}

abbrev pub Decided : Type 0 → Type 0
Decided P = P ⊎ (¬ P)

both_or : (P Q : Type 0) → Decided P → Decided Q → Decided (P × Q)
both_or P Q (inl p) (inl q) = inl (p, q)
both_or P Q (inl p) (inr n) = inr (λ h. n h.1)
both_or P Q (inr n) d = inr (λ h. n h.0)

one_or : (P Q : Type 0) → Decided P → Decided Q → Decided (P ⊎ Q)
one_or P Q (inl p) d = inl (inl p)
one_or P Q (inr n) (inl q) = inl (inr q)
one_or P Q (inr n) (inr m) = inr (λ h. elim h [
  | inl p ↦ n p
  | inr q ↦ m q
])

not_or : (P : Type 0) → Decided P → Decided (¬ P)
not_or P (inl p) = inr (λ n. n p)
not_or P (inr n) = inl n

same_or : (P Q : Type 0) → (P → Q) → (Q → P) → Decided P → Decided Q
same_or P Q f g (inl p) = inl (f p)
same_or P Q f g (inr n) = inr (λ q. n (g q))

equal_or : (a b : Val) → Decided (a ≡ b)
equal_or a b = either (val_eq a b) refl
  where
    either : (t : Bool) → val_eq a b ≡ t → Decided (a ≡ b)
    either true e = inl (val_same a b e)
    either false e = inr (λ f. let g : true ≡ false = sym (subst (λ (w : Val). val_eq a w ≡ true) f (val_eq_equiv.refl a)) ∙ e in cc)

-- all of a list, or one of it
all_or : {X : Type 0} (P : X → Type 0) (xs : List X) → ((x : X) → Decided (P x)) → Decided ((x : X) → Contains xs x → P x)
all_or P [] f = inl (λ x h. absurd (none_in x h))
all_or P (x ∷ xs) f = elim (f x) [
  | inl p ↦ elim (all_or P xs f) [
    | inl q ↦ inl (λ y h. elim (cons_cases x xs y h) [
      | inl e ↦ subst P e p
      | inr g ↦ q y g
    ])
    | inr n ↦ inr (λ h. n (λ y g. h y (tail_in x xs y g)))
  ]
  | inr n ↦ inr (λ h. n (h x (head_in x xs)))
]

some_or : {X : Type 0} (P : X → Type 0) (xs : List X) → ((x : X) → Decided (P x)) → Decided ((x : X) × Contains xs x × P x)
some_or P [] f = inr (λ h. none_in h.0 h.1)
some_or P (x ∷ xs) f = elim (f x) [
  | inl p ↦ inl (x, head_in x xs, p)
  | inr n ↦ elim (some_or P xs f) [
    | inl w ↦ inl (w.0, tail_in x xs w.0 w.1, w.2)
    | inr m ↦ inr (λ h. elim (cons_cases x xs h.0 h.1) [
      | inl e ↦ n (subst P (sym e) h.2)
      | inr g ↦ m (h.0, g, h.2)
    ])
  ]
]

-- kinds of values
set_or : (v : Val) → Decided (IsSet v)
set_or (set vs) = inl tt
set_or (model s) = inr (λ h. h)
set_or (truth s) = inr (λ h. h)
set_or (integer s) = inr (λ h. h)
set_or (string s) = inr (λ h. h)
set_or (function s) = inr (λ h. h)

function_or : (v : Val) → Decided (IsFunction v)
function_or (function ps) = inl tt
function_or (model s) = inr (λ h. h)
function_or (truth s) = inr (λ h. h)
function_or (integer s) = inr (λ h. h)
function_or (string s) = inr (λ h. h)
function_or (set s) = inr (λ h. h)

at_most_or : (y z : ℤ) → Decided (y ≤ℤ z)
at_most_or y z = grind (arith, ints)

-- the integer that a value is
abbrev number_of : Val → ℤ
number_of (integer z) = z
number_of v = pos 0

integer_or : (P : ℤ → Type 0) → ((z : ℤ) → Decided (P z)) → (v : Val) → Decided ((z : ℤ) × (v ≡ integer z) × P z)
integer_or P f (integer z) = elim (f z) [
  | inl p ↦ inl (z, refl, p)
  | inr n ↦ inr (λ h. let e : z ≡ h.0 = ap number_of h.1 in n (subst P (sym e) h.2))
]
integer_or P f (model s) = inr (λ h. cc)
integer_or P f (truth s) = inr (λ h. cc)
integer_or P f (string s) = inr (λ h. cc)
integer_or P f (set s) = inr (λ h. cc)
integer_or P f (function s) = inr (λ h. cc)

text_or : (v : Val) → Decided ((s : List ℕ) × (v ≡ string s))
text_or (string s) = inl (s, refl)
text_or (model s) = inr (λ h. cc)
text_or (truth s) = inr (λ h. cc)
text_or (integer s) = inr (λ h. cc)
text_or (set s) = inr (λ h. cc)
text_or (function s) = inr (λ h. cc)

truth_or : (v : Val) → Decided ((b : Bool) × (v ≡ truth b))
truth_or (truth b) = inl (b, refl)
truth_or (model s) = inr (λ h. cc)
truth_or (string s) = inr (λ h. cc)
truth_or (integer s) = inr (λ h. cc)
truth_or (set s) = inr (λ h. cc)
truth_or (function s) = inr (λ h. cc)

-- the keys of a function are the members of a set
domain_or : (a f : Val) → Decided ((key : Val) → InDomain key f ↔ Member key a)
domain_or a f = same_or (((key : Val) → InDomain key f → Member key a) × ((key : Val) → Member key a → InDomain key f)) ((key : Val) → InDomain key f ↔ Member key a)
    (λ h key. (h.0 key, h.1 key)) (λ h. (λ key. (h key).0, λ key. (h key).1))
    (both_or ((key : Val) → InDomain key f → Member key a) ((key : Val) → Member key a → InDomain key f)
    (all_or (λ (key : Val). Member key a) (keys_in f) (among_cases (items_of a)))
    (all_or (λ (key : Val). InDomain key f) (items_of a) (among_cases (keys_in f))))

-- the values of a function, and one at a key, belong to a set
values_or : (P : Val → Type 0) (f : Val) → ((v : Val) → Decided (P v)) → Decided ((key w : Val) → HasPair f key w → P w)
values_or P f d = same_or ((r : Val × Val) → Contains (pairs_in f) r → P r.1) ((key w : Val) → HasPair f key w → P w)
    (λ h key w g. h (key, w) g) (λ h r g. h r.0 r.1 g) (all_or (λ (r : Val × Val). P r.1) (pairs_in f) (λ r. d r.1))

value_or : (P : Val → Type 0) (f key : Val) → ((v : Val) → Decided (P v)) → Decided ((w : Val) × HasPair f key w × P w)
value_or P f key d = same_or ((r : Val × Val) × Contains (pairs_in f) r × ((r.0 ≡ key) × P r.1)) ((w : Val) × HasPair f key w × P w)
    (λ h. (h.0.1, subst (λ (k : Val). Contains (pairs_in f) (k, h.0.1)) h.2.0 h.1, h.2.1))
    (λ h. ((key, h.0), h.1, (refl, h.2)))
    (some_or (λ (r : Val × Val). (r.0 ≡ key) × P r.1) (pairs_in f) (λ r. both_or (r.0 ≡ key) (P r.1) (equal_or r.0 key) (d r.1)))

three_or : (P Q R : Type 0) → Decided P → Decided Q → Decided R → Decided (P × Q × R)
three_or P Q R a b c = same_or ((P × Q) × R) (P × Q × R) (λ h. (h.0.0, h.0.1, h.1)) (λ h. ((h.0, h.1), h.2)) (both_or (P × Q) R (both_or P Q a b) c)

tuple_or : (ps : Parts) (v : Val) → Decided (AreOfParts ps (values_in v)) → Decided (Belongs (Product ps) v)
tuple_or ps v d = same_or (IsSequence v × AreOfParts ps (values_in v)) (Belongs (Product ps) v)
    (λ h. (values_in v, h.0, h.1))
    (λ h.
    let own : values_in v ≡ h.0 = ap values_in h.1 ∙ values-sequence_of h.0 in
    (h.1 ∙ ap sequence_of (sym own), subst (λ (ws : List Val). AreOfParts ps ws) (sym own) h.2))
    (both_or (IsSequence v) (AreOfParts ps (values_in v)) (equal_or v (sequence_of (values_in v))) d)

mutual
  pub belongs_or : (d : Described) (v : Val) → Decided (Belongs d v)
  belongs_or Nat v = integer_or (λ z. pos 0 ≤ℤ z) (at_most_or (pos 0)) v
  belongs_or Int v = same_or ((z : ℤ) × (v ≡ integer z) × Unit {0}) ((z : ℤ) × (v ≡ integer z)) (λ h. (h.0, h.1)) (λ h. (h.0, h.1, tt)) (integer_or (λ z. Unit {0}) (λ z. inl tt) v)
  belongs_or Strings v = text_or v
  belongs_or Booleans v = truth_or v
  belongs_or (SeqOf d) v = both_or (IsSequence v) ((w : Val) → Contains (values_in v) w → Belongs d w) (equal_or v (sequence_of (values_in v))) (all_or (Belongs d) (values_in v) (belongs_or d))
  belongs_or (PowerOf d) v = both_or (IsSet v) ((w : Val) → Member w v → Belongs d w) (set_or v) (all_or (Belongs d) (items_of v) (belongs_or d))
  belongs_or (Interval y z) v = same_or ((n : ℤ) × (v ≡ integer n) × ((y ≤ℤ n) × (n ≤ℤ z))) ((n : ℤ) × (v ≡ integer n) × (y ≤ℤ n) × (n ≤ℤ z))
      (λ h. (h.0, h.1, h.2.0, h.2.1)) (λ h. (h.0, h.1, (h.2, h.3)))
      (integer_or (λ n. (y ≤ℤ n) × (n ≤ℤ z)) (λ n. both_or (y ≤ℤ n) (n ≤ℤ z) (at_most_or y n) (at_most_or n z)) v)
  belongs_or (Functions a d) v = three_or (IsFunction v) ((key : Val) → InDomain key v ↔ Member key a) ((key w : Val) → HasPair v key w → Belongs d w)
      (function_or v) (domain_or a v) (values_or (Belongs d) v (belongs_or d))
  belongs_or (Records fs) v = three_or (IsFunction v) (FieldsBelong fs v) ((key : Val) → InDomain key v → Contains (names_of fs) key)
      (function_or v) (fields_or fs v) (all_or (λ (key : Val). Contains (names_of fs) key) (keys_in v) (among_cases (names_of fs)))
  belongs_or (Product ps) v = tuple_or ps v (parts_or ps (values_in v))
  belongs_or (Union c d) v = one_or (Belongs c v) (Belongs d v) (belongs_or c v) (belongs_or d v)
  belongs_or (Inter c d) v = both_or (Belongs c v) (Belongs d v) (belongs_or c v) (belongs_or d v)
  belongs_or (Minus c d) v = both_or (Belongs c v) (¬ Belongs d v) (belongs_or c v) (not_or (Belongs d v) (belongs_or d v))
  belongs_or (Listed s) v = among_cases (items_of s) v

  fields_or : (fs : Fields) (v : Val) → Decided (FieldsBelong fs v)
  fields_or NoFields v = inl tt
  fields_or (MoreFields n d fs) v = both_or ((w : Val) × HasPair v n w × Belongs d w) (FieldsBelong fs v) (value_or (Belongs d) v n (belongs_or d)) (fields_or fs v)

  parts_or : (ps : Parts) (vs : List Val) → Decided (AreOfParts ps vs)
  parts_or NoParts [] = inl tt
  parts_or NoParts (w ∷ ws) = inr (λ h. h)
  parts_or (MoreParts d ps) [] = inr (λ h. h)
  parts_or (MoreParts d ps) (w ∷ ws) = both_or (Belongs d w) (AreOfParts ps ws) (belongs_or d w) (parts_or ps ws)

-- the values of a list that meet what is decided
kept : (P : Val → Type 0) (xs : List Val) → ((v : Val) → Decided (P v)) → (ks : List Val) × (length ks ≤ length xs) × ((v : Val) → Contains ks v ↔ (Contains xs v × P v))
kept P [] f = ([], omega arith, λ v. (λ h. absurd (none_in v h), λ h. h.0))
kept P (x ∷ xs) f =
    let w = kept P xs f in
    elim (f x) [
      | inl p ↦ (
        x ∷ w.0,
        omega (arith, w.1),
        λ v. (
          λ h. elim (cons_cases x w.0 v h) [
            | inl e ↦ (subst (λ (z : Val). Contains (x ∷ xs) z) e (head_in x xs), subst P e p)
            | inr g ↦ let i = (w.2 v).0 g in (tail_in x xs v i.0, i.1)
          ],
          λ h. elim (cons_cases x xs v h.0) [
            | inl e ↦ subst (λ (z : Val). Contains (x ∷ w.0) z) e (head_in x w.0)
            | inr g ↦ tail_in x w.0 v ((w.2 v).1 (g, h.1))
          ],
        ),
      )
      | inr n ↦ (
        w.0,
        omega (arith, w.1),
        λ v. (
          λ h. let i = (w.2 v).0 h in (tail_in x xs v i.0, i.1),
          λ h. elim (cons_cases x xs v h.0) [
            | inl e ↦ absurd (n (subst P (sym e) h.1))
            | inr g ↦ (w.2 v).1 (g, h.1)
          ],
        ),
      )
    ]

-- the members of a set that meet what is decided
pub some_there : (P : Val → Type 0) (a : Val) (n l : ℕ) → IsValue a → IsSet a → ((v : Val) → Decided (P v)) → count_of a ≤ n → depth a ≤ l → IsThere (λ v. Member v a × P v) n l
some_there P a n l p h f few low =
    let w = kept P (items_of a) f in
    let t = listed_there (λ v. Member v a × P v) w.0 (length (items_of a)) (depth a - 1) w.2 w.1 (few_items a p) (omega (arith, p.shallow))
    (λ v g. ((member_inner a v p g.0).valid, omega (arith, member_depth a v h g.0))) in
    record { one = t.one; meets = t.meets; few = omega (arith, t.few, few, length-items_of a); shallow = omega (arith, t.shallow, low, depth_items a h) }

pub inter_within : (c d : Described) (n l : ℕ) → IsListedWithin c n l → IsListedWithin (Inter c d) n l
inter_within c d n l w =
    let a = w.listed in
    let p = apart c w.listed w.lists in
    let o = listed_is c w.listed p.1 in
    let t = some_there (Belongs d) a n l o.valid o.is_set (belongs_or d) w.few w.shallow in
    from_there (Inter c d) (IsChosen a d true) n l (λ s i. cc) p.0 t (inter_listed c d a (Ok t.one) p.1 t.meets)

pub minus_within : (c d : Described) (n l : ℕ) → IsListedWithin c n l → IsListedWithin (Minus c d) n l
minus_within c d n l w =
    let a = w.listed in
    let p = apart c w.listed w.lists in
    let o = listed_is c w.listed p.1 in
    let t = some_there (λ v. ¬ Belongs d v) a n l o.valid o.is_set (λ v. not_or (Belongs d v) (belongs_or d v)) w.few w.shallow in
    from_there (Minus c d) (IsChosen a d false) n l (λ s i. cc) p.0 t (minus_listed c d a (Ok t.one) p.1 t.meets)
