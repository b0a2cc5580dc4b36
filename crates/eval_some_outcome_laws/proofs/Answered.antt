-- That an operation on values has an answer: of a list of values or of pairs, and by cases on what is decided.
use Rattle.std.proofs.Common.{◌≡◌, ◌↔◌, ◌⊎◌, inl, inr, refl, sym, ◌∙◌, subst, arith, ℕ, ◌<◌, ◌≤◌, List, [], ◌∷◌, length}
use Rattle.std.specs.Prelude.{Bool, true, false, Result, Ok, Err, Contains}
use Rattle.values_core.specs.Data.{Val, model, truth, integer, string, set, function, depth, vals_depth, vals_of, pairs_of}
use Rattle.values_core.specs.IsValue.{IsValue, AreCanonical, max_members, max_depth}
use Rattle.values_core.specs.Integers.{the_term}
use Rattle.values_core.specs.Ascending.{cons_cases, head_in, tail_in, none_in}
use Rattle.values_core.specs.Sets.{IsSet}
use Rattle.values_core.specs.SetLaws.{depth_in}
use Rattle.values_core.specs.SetOperations.{AreDifferent, GivesSet, OnSet, OnSets}
use Rattle.values_core.specs.Functions.{HasKeyTwice, IsFunction, IsSequence, OfValues, sequence_of, values_in}
use Rattle.values_core.specs.FunctionOperations.{GivesFunction, GivesSequence, GivesValue, OnFunction, OnFunctions, OnSequence}
use Rattle.values_core.specs.Order.{val_eq}
use Rattle.values_core.specs.OrderLaws.{val_same, val_eq_equiv}
use Rattle.values_core.specs.declared.value.ValueFault.TheVariants.{TooLarge as LargeValue, TooDeep as DeepValue}
use Rattle.values_core.specs.declared.fault.EvalKind.{EvalKind}
use Rattle.values_core.specs.declared.fault.EvalKind.TheVariants.{NotSet, NotFunction, NotSequence, TooLarge, TooDeep}
use Rattle.values_core.specs.declared.fault.OpFault.{OpFault}
use Rattle.values_core.specs.declared.fault.OpFault.TheVariants.{Refused, NoMemory}
use Rattle.values_core.proofs.MakingLaws.{function_answers}
use Rattle.values_core.proofs.SequenceLemmas.{depth-numbered, valid_sequence}
use Rattle.values_operations.proofs.Listing.{deepest_in, gives_as, no_longer}
use Rattle.values_operations.proofs.Pairs.{among_cases, function_as, refuses_function}
use Rattle.values_set_bounds.proofs.Decided.{Decided}
use Rattle.values_set_bounds.proofs.Existing.{listed_there}

-- a value, or a refusal: an answer that is no want of memory
abbrev pub Answered : {A : Type 0} → (Result A OpFault → Type 0) → Type 0
Answered {A = A} Q = ((v : A) × Q (Ok v)) ⊎ ((k : EvalKind) × (n : ℕ) × Q (Err (Refused k n)))

pub answered_as : {A : Type 0} (P Q : Result A OpFault → Type 0) → ((r : Result A OpFault) → P r → Q r) → Answered P → Answered Q
answered_as P Q f (inl a) = inl (a.0, f (Ok a.0) a.1)
answered_as P Q f (inr a) = inr (a.0, a.1, f (Err (Refused a.0 a.1)) a.2)

-- what is decided

pub equal_or : (a b : Val) → Decided (a ≡ b)
equal_or a b = by_test (val_eq a b) refl
  where
    by_test : (t : Bool) → val_eq a b ≡ t → Decided (a ≡ b)
    by_test true e = inl (val_same a b e)
    by_test false e = inr (λ f. let g : true ≡ false = sym (subst (λ (w : Val). val_eq a w ≡ true) f (val_eq_equiv.refl a)) ∙ e in cc)

pub not_or : {P : Type 0} → Decided P → Decided (¬ P)
not_or (inl p) = inr (λ n. n p)
not_or (inr n) = inl n

pub set_or : (v : Val) → Decided (IsSet v)
set_or (set vs) = inl tt
set_or (model s) = inr (λ h. h)
set_or (truth s) = inr (λ h. h)
set_or (integer s) = inr (λ h. h)
set_or (string s) = inr (λ h. h)
set_or (function s) = inr (λ h. h)

pub function_or : (v : Val) → Decided (IsFunction v)
function_or (function ps) = inl tt
function_or (model s) = inr (λ h. h)
function_or (truth s) = inr (λ h. h)
function_or (integer s) = inr (λ h. h)
function_or (string s) = inr (λ h. h)
function_or (set s) = inr (λ h. h)

pub sequence_or : (v : Val) → Decided (IsSequence v)
sequence_or v = equal_or v (sequence_of (values_in v))

-- of a list all have P, or one has not
pub all_or_one : {X : Type 0} (P : X → Type 0) (xs : List X) → ((x : X) → Decided (P x)) → ((x : X) → Contains xs x → P x) ⊎ ((x : X) × Contains xs x × ¬ P x)
all_or_one P [] f = inl (λ x h. absurd (none_in x h))
all_or_one P (x ∷ xs) f = elim (f x) [
  | inl p ↦ elim (all_or_one P xs f) [
    | inl q ↦ inl (λ y h. elim (cons_cases x xs y h) [
      | inl e ↦ subst P e p
      | inr g ↦ q y g
    ])
    | inr w ↦ inr (w.0, tail_in x xs w.0 w.1, w.2)
  ]
  | inr n ↦ inr (x, head_in x xs, n)
]

pub at_most_or_above : (m n : ℕ) → (m ≤ n) ⊎ (n < m)
at_most_or_above m n = grind arith

-- sets

-- the values of a list, each once
once : (vs : List Val) → (ks : List Val) × AreDifferent ks × ((v : Val) → Contains ks v ↔ Contains vs v)
once [] = ([], tt, λ v. (λ h. h, λ h. h))
once (u ∷ us) =
    let w = once us in
    elim (among_cases w.0 u) [
      | inl here ↦ (
        w.0,
        w.1,
        λ v. (
          λ h. tail_in u us v ((w.2 v).0 h),
          λ h. elim (cons_cases u us v h) [
            | inl e ↦ subst (λ (z : Val). Contains w.0 z) e here
            | inr g ↦ (w.2 v).1 g
          ],
        ),
      )
      | inr new ↦ (
        u ∷ w.0,
        (new, w.1),
        λ v. (
          λ h. elim (cons_cases u w.0 v h) [
            | inl e ↦ subst (λ (z : Val). Contains (u ∷ us) z) e (head_in u us)
            | inr g ↦ tail_in u us v ((w.2 v).0 g)
          ],
          λ h. elim (cons_cases u us v h) [
            | inl e ↦ subst (λ (z : Val). Contains (u ∷ w.0) z) e (head_in u w.0)
            | inr g ↦ tail_in u w.0 v ((w.2 v).1 g)
          ],
        ),
      )
    ]

-- the set of the values of a list
pub set_answered : (vs : List Val) → ((v : Val) → Contains vs v → IsValue v) → Answered (GivesSet (Contains vs))
set_answered vs valid = by_size (once vs)
  where
    by_depth : (ks : List Val) → AreDifferent ks → ((v : Val) → Contains ks v ↔ Contains vs v) → length ks ≤ max_members → (vals_depth (vals_of ks) ≤ 31) ⊎ (31 < vals_depth (vals_of ks)) → Answered (GivesSet (Contains vs))
    by_depth ks d same few (inl low) =
        let t = listed_there (Contains vs) ks (length ks) 31 same (omega arith) few (omega arith) (λ v h. (valid v h, omega (arith, low, depth_in ks v ((same v).1 h)))) in
        inl (t.one, t.meets)
    by_depth ks d same few (inr high) =
        let deep = deepest_in ks 31 (omega (arith, high)) in
        inr (
          TooDeep,
          the_term,
          (
            refl,
            λ a. omega (arith, few, a.many, no_longer a.some ks a.different (λ w h. (same w).1 (a.each w h))),
            record { one = deep.0; meets = (same deep.0).0 deep.1; deep = deep.2 },
          ),
        )

    by_size : (ks : List Val) × AreDifferent ks × ((v : Val) → Contains ks v ↔ Contains vs v) → Answered (GivesSet (Contains vs))
    by_size w = elim (at_most_or_above (length w.0) max_members) [
      | inl few ↦ by_depth w.0 w.1 w.2 few (at_most_or_above (vals_depth (vals_of w.0)) 31)
      | inr many ↦ inr (TooLarge, the_term, (refl, record { some = w.0; different = w.1; each = λ v h. (w.2 v).0 h; many = many }))
    ]

-- and of what meets P, where a list has just that
pub set_answered_as : (vs : List Val) (P : Val → Type 0) → ((v : Val) → Contains vs v ↔ P v) → ((v : Val) → P v → IsValue v) → Answered (GivesSet P)
set_answered_as vs P same valid = answered_as (GivesSet (Contains vs)) (GivesSet P) (λ r. gives_as (Contains vs) P r same) (set_answered vs (λ v h. valid v ((same v).0 h)))

-- functions

pub function_answered : (ps : List (Val × Val)) → OfValues ps → ¬ HasKeyTwice ps → Answered (GivesFunction (λ key v. Contains ps (key, v)))
function_answered ps valid apart = by_size (at_most_or_above (length ps) max_members)
  where
    by_depth : length ps ≤ max_members → (depth (function (pairs_of ps)) ≤ max_depth) ⊎ (max_depth < depth (function (pairs_of ps))) → Answered (GivesFunction (λ key v. Contains ps (key, v)))
    by_depth few (inl low) = let f = (function_answers ps).made valid apart few low in inl (f.0, record { valid = f.1.valid; is_function = f.1.is_function; same = f.1.same })
    by_depth few (inr high) = inr (TooDeep, the_term, refuses_function ps DeepValue apart (apart, few, high))

    by_size : (length ps ≤ max_members) ⊎ (max_members < length ps) → Answered (GivesFunction (λ key v. Contains ps (key, v)))
    by_size (inl few) = by_depth few (at_most_or_above (depth (function (pairs_of ps))) max_depth)
    by_size (inr many) = inr (TooLarge, the_term, refuses_function ps LargeValue apart (apart, many))

pub function_answered_as : (ps : List (Val × Val)) (P : Val → Val → Type 0) → ((key v : Val) → Contains ps (key, v) ↔ P key v) → OfValues ps → ¬ HasKeyTwice ps → Answered (GivesFunction P)
function_answered_as ps P same valid apart =
    answered_as (GivesFunction (λ key v. Contains ps (key, v))) (GivesFunction P) (λ r. function_as (λ key v. Contains ps (key, v)) P r same) (function_answered ps valid apart)

-- sequences

all_canonical : (vs : List Val) → ((v : Val) → Contains vs v → IsValue v) → AreCanonical (vals_of vs)
all_canonical [] f = tt
all_canonical (v ∷ vs) f = ((f v (head_in v vs)).canonical, all_canonical vs (λ w h. f w (tail_in v vs w h)))

pub sequence_answered : (vs : List Val) → ((v : Val) → Contains vs v → IsValue v) → Answered (GivesSequence vs)
sequence_answered vs valid = by_size (at_most_or_above (length vs) max_members)
  where
    by_depth : length vs ≤ max_members → (depth (sequence_of vs) ≤ max_depth) ⊎ (max_depth < depth (sequence_of vs)) → Answered (GivesSequence vs)
    by_depth few (inl low) = inl (sequence_of vs, (refl, valid_sequence vs few (all_canonical vs valid) (omega (arith, low, depth-numbered 1 vs))))
    by_depth few (inr high) = inr (TooDeep, the_term, (refl, few, high))

    by_size : (length vs ≤ max_members) ⊎ (max_members < length vs) → Answered (GivesSequence vs)
    by_size (inl few) = by_depth few (at_most_or_above (depth (sequence_of vs)) max_depth)
    by_size (inr many) = inr (TooLarge, the_term, (refl, many))

-- operands

pub answered_same : {A : Type 0} (r : Result A OpFault) → ¬ (r ≡ Err NoMemory) → Answered (λ (q : Result A OpFault). q ≡ r)
answered_same (Ok v) n = inl (v, refl)
answered_same (Err (Refused k m)) n = inr (k, m, refl)
answered_same (Err NoMemory) n = absurd (n refl)

pub answered_value : (P : Val → Type 0) (v : Val) → P v → Answered (GivesValue P)
answered_value P v p = inl (v, p)

pub on_set_answered : (a : Val) (Q : Result Val OpFault → Type 0) → (IsSet a → Answered Q) → Answered (OnSet a Q)
on_set_answered (set vs) Q f = f tt
on_set_answered (model s) Q f = inr (NotSet, 0, refl)
on_set_answered (truth s) Q f = inr (NotSet, 0, refl)
on_set_answered (integer s) Q f = inr (NotSet, 0, refl)
on_set_answered (string s) Q f = inr (NotSet, 0, refl)
on_set_answered (function s) Q f = inr (NotSet, 0, refl)

pub on_sets_answered : (a b : Val) (Q : Result Val OpFault → Type 0) → (IsSet a → IsSet b → Answered Q) → Answered (OnSets a b Q)
on_sets_answered (set us) (set vs) Q f = f tt tt
on_sets_answered (set us) (model s) Q f = inr (NotSet, 1, refl)
on_sets_answered (set us) (truth s) Q f = inr (NotSet, 1, refl)
on_sets_answered (set us) (integer s) Q f = inr (NotSet, 1, refl)
on_sets_answered (set us) (string s) Q f = inr (NotSet, 1, refl)
on_sets_answered (set us) (function s) Q f = inr (NotSet, 1, refl)
on_sets_answered (model s) b Q f = inr (NotSet, 0, refl)
on_sets_answered (truth s) b Q f = inr (NotSet, 0, refl)
on_sets_answered (integer s) b Q f = inr (NotSet, 0, refl)
on_sets_answered (string s) b Q f = inr (NotSet, 0, refl)
on_sets_answered (function s) b Q f = inr (NotSet, 0, refl)

pub on_function_answered : (f : Val) (Q : Result Val OpFault → Type 0) → (IsFunction f → Answered Q) → Answered (OnFunction f Q)
on_function_answered (function ps) Q g = g tt
on_function_answered (model s) Q g = inr (NotFunction, 0, refl)
on_function_answered (truth s) Q g = inr (NotFunction, 0, refl)
on_function_answered (integer s) Q g = inr (NotFunction, 0, refl)
on_function_answered (string s) Q g = inr (NotFunction, 0, refl)
on_function_answered (set s) Q g = inr (NotFunction, 0, refl)

pub on_functions_answered : (f g : Val) (Q : Result Val OpFault → Type 0) → (IsFunction f → IsFunction g → Answered Q) → Answered (OnFunctions f g Q)
on_functions_answered (function ps) (function qs) Q h = h tt tt
on_functions_answered (function ps) (model s) Q h = inr (NotFunction, 1, refl)
on_functions_answered (function ps) (truth s) Q h = inr (NotFunction, 1, refl)
on_functions_answered (function ps) (integer s) Q h = inr (NotFunction, 1, refl)
on_functions_answered (function ps) (string s) Q h = inr (NotFunction, 1, refl)
on_functions_answered (function ps) (set s) Q h = inr (NotFunction, 1, refl)
on_functions_answered (model s) g Q h = inr (NotFunction, 0, refl)
on_functions_answered (truth s) g Q h = inr (NotFunction, 0, refl)
on_functions_answered (integer s) g Q h = inr (NotFunction, 0, refl)
on_functions_answered (string s) g Q h = inr (NotFunction, 0, refl)
on_functions_answered (set s) g Q h = inr (NotFunction, 0, refl)

pub on_sequence_answered : (n : ℕ) (a : Val) (Q : List Val → Result Val OpFault → Type 0) → Answered (Q (values_in a)) → Answered (OnSequence n a Q)
on_sequence_answered n a Q q = elim (sequence_or a) [
  | inl h ↦ answered_as (Q (values_in a)) (OnSequence n a Q) (λ r g. inl (h, g)) q
  | inr h ↦ inr (NotSequence, n, inr (h, refl))
]
