-- What is wrong with the levels in a term is decided, and the first of it is found.
use Rattle.std.proofs.Common.{◌≡◌, ◌∙◌, sym, ap, refl, subst, arith, inl, inr, ℕ, zero, suc, ◌+◌, List, [], ◌∷◌, ◌++◌, length, map, ◌<◌, ◌≤◌, ◌⊎◌}
use Rattle.std.specs.Prelude.{Bool, true, false, Some, Contains, slice_get}
use Rattle.std.specs.Cmp.Lexicographic.{slice_cmp}
use Rattle.std.specs.Ordering.{nat_cmp, is_lt}
use Rattle.std.specs.declared.cmp.Ordering.{Ordering}
use Rattle.std.specs.declared.cmp.Ordering.TheVariants.{Less, Equal, Greater}
use Rattle.std.proofs.lemmas.Cmp.{nat_list_cmp_total, tied_itself}
use Rattle.std.proofs.lemmas.List.Elements.{Contains-append_left, Contains-append_right}
use Rattle.std.proofs.lemmas.Option.{slice_get_within}
use Rattle.base_core.specs.declared.place.Place.{Place}
use Rattle.names_terms.specs.declared.level.Level.{Level}
use Rattle.names_terms.specs.declared.level.Level.TheVariants as levels
use Rattle.names_terms.specs.declared.operator.Operator.{Operator}
use Rattle.names_terms.specs.Terms.{Term, Placed, Meaning, Use, Scoped, Terms, level_of, place_of}
use Rattle.names_term_parts.specs.declared.fault.LevelFault.{LevelFault}
use Rattle.names_term_parts.specs.declared.fault.LevelFault.TheVariants.{TooHigh, PrimedArgument}
use Rattle.names_term_parts.specs.FaultOrder.{is_before, standing}
use Rattle.names_term_parts.specs.Limits.{Limit, is_above, limits}
use Rattle.names_term_parts.specs.Parts.{Part, listed, parts}
use Rattle.names_term_parts.specs.Slots.{IsPrimed}
use Rattle.names_term_parts.specs.Weights.{weight}
use Rattle.names_term_parts.proofs.Contained.{contains_cons, contains_head, contains_nothing, contains_tail}
use Rattle.names_term_levels.specs.Faults.{IsFault, IsFirst, in_part, of_let, primed_argument, too_high}
use Rattle.names_term_levels.specs.Telling as telling
use Rattle.names_term_levels.specs.Telling.{all_of, argument_faults, faults_all, faults_in}
use Rattle.base_use_order.proofs.Lists.{same_or_not}
use Rattle.names_outcome_laws.proofs.Deciding.{Decided, both_or, either_or, turned}
use Rattle.names_outcome_laws.proofs.RowRelations.{By, OfRow, item_with, one_item, row_or_not}
use Rattle.names_outcome_laws.proofs.Saturating.{Pair, any_or_none}
use Rattle.names_outcome_laws.proofs.Slots.{below_or_none, primed_or_not, true_is}
use Rattle.names_outcome_laws.proofs.Walking.{In, deeper, here, in_or_not, part_less}

-- ---- two faults are one, or they are not

number_level : Level → ℕ
number_level levels.Constant = 0
number_level levels.State = 1
number_level levels.Action = 2
number_level levels.Temporal = 3

level_numbered : ℕ → Level
level_numbered zero = levels.Constant
level_numbered (suc zero) = levels.State
level_numbered (suc (suc zero)) = levels.Action
level_numbered (suc (suc (suc n))) = levels.Temporal

level_back : (l : Level) → level_numbered (number_level l) ≡ l
unfolding level_numbered number_level
level_back levels.Constant = refl
level_back levels.State = refl
level_back levels.Action = refl
level_back levels.Temporal = refl

same_level : (a b : Level) → Decided (a ≡ b)
same_level a b = turned ((λ e. sym (level_back a) ∙ ap level_numbered e ∙ level_back b), ap number_level) (same_or_not (number_level a) (number_level b))

same_place : (a b : Place) → Decided (a ≡ b)
same_place a b =
    turned ((λ h i. record { file = h.0 i; line = h.1.0 i; col = h.1.1 i }), λ e. (ap (λ (x : Place). x.file) e, (ap (λ (x : Place). x.line) e, ap (λ (x : Place). x.col) e)))
    (both_or (same_or_not a.file b.file) (both_or (same_or_not a.line b.line) (same_or_not a.col b.col)))

found_of : LevelFault → Level
found_of (TooHigh found allowed at) = found
found_of (PrimedArgument at) = levels.Constant

allowed_of : LevelFault → Level
allowed_of (TooHigh found allowed at) = allowed
allowed_of (PrimedArgument at) = levels.Constant

at_of : LevelFault → Place
at_of (TooHigh found allowed at) = at
at_of (PrimedArgument at) = at

pub same_fault : (f g : LevelFault) → Decided (f ≡ g)
unfolding found_of allowed_of at_of
same_fault (TooHigh a b p) (TooHigh c d q) =
    turned ((λ h i. TooHigh (h.0 i) (h.1.0 i) (h.1.1 i)), λ e. (ap found_of e, (ap allowed_of e, ap at_of e))) (both_or (same_level a c) (both_or (same_level b d) (same_place p q)))
same_fault (TooHigh a b p) (PrimedArgument q) = inr (λ e. cc)
same_fault (PrimedArgument p) (TooHigh c d q) = inr (λ e. cc)
same_fault (PrimedArgument p) (PrimedArgument q) = turned (ap PrimedArgument, ap at_of) (same_place p q)

-- ---- whether a fault is one of a term

module _ (ops : List Operator) (f : LevelFault) where
  abbrev HighHere : Place → Meaning → Type 0
  HighHere at m = (x : Limit) × Contains (limits at m) x × ((is_above x.found x.allowed ≡ true) × (f ≡ TooHigh x.found x.allowed x.at))

  abbrev ArgumentHere : Terms → Operator → ℕ → Type 0
  ArgumentHere ts o j = (e : Term) × (slice_get (listed ts) j ≡ Some e) × (IsPrimed ops o.body (o.outer + j) × ((is_above (level_of e) levels.Constant ≡ true) × (f ≡ PrimedArgument (place_of e))))

  abbrev fault_here : (Pair → Type 0) → ℕ → Meaning → Type 0
  fault_here S i (Use k ts) = (o : Operator) × (slice_get ops k ≡ Some o) × ((j : ℕ) × (j < length (listed ts)) × ArgumentHere ts o j)
  fault_here S i (Scoped ks e) = (k : ℕ) × Contains ks k × ((o : Operator) × (slice_get ops k ≡ Some o) × S (k, i))
  fault_here S i m = ⊥

  abbrev FaultHere : (Pair → Type 0) → ℕ → Term → Type 0
  FaultHere S i (Placed at l m) = HighHere at m ⊎ fault_here S i m

  abbrev Rel : Term → ℕ → Type 0
  Rel e i = IsFault ops e f

  abbrev Faulty : Pair → Type 0
  Faulty = OfRow ops Rel FaultHere

  here_or_not : (S : Pair → Type 0) → ((b : Pair) → Decided (S b)) → (i : ℕ) (m : Meaning) → Decided (fault_here S i m)
  here_or_not S d i (Use k ts) =
      item_with ops k (λ o. (j : ℕ) × (j < length (listed ts)) × ArgumentHere ts o j)
      (λ o. below_or_none (ArgumentHere ts o) (length (listed ts)) (λ j. item_with (listed ts) j (λ e. IsPrimed ops o.body (o.outer + j) × ((is_above (level_of e) levels.Constant ≡ true) × (f ≡ PrimedArgument (place_of e)))) (λ e. both_or (primed_or_not ops o.body (o.outer + j)) (both_or (true_is (is_above (level_of e) levels.Constant)) (same_fault f (PrimedArgument (place_of e)))))))
  here_or_not S d i (Scoped ks e) = any_or_none (λ k. (o : Operator) × (slice_get ops k ≡ Some o) × S (k, i)) ks (λ k c. item_with ops k (λ o. S (k, i)) (λ o. d (k, i)))
  here_or_not S d i m = inr (λ h. h)

  fault_or_no : (S : Pair → Type 0) → ((b : Pair) → Decided (S b)) → (i : ℕ) (e : Term) → Decided (FaultHere S i e)
  fault_or_no S d i (Placed at l m) =
      either_or (any_or_none (λ x. (is_above x.found x.allowed ≡ true) × (f ≡ TooHigh x.found x.allowed x.at)) (limits at m) (λ x c. both_or (true_is (is_above x.found x.allowed)) (same_fault f (TooHigh x.found x.allowed x.at)))) (here_or_not S d i m)

  fault_map : (w : ℕ) (S Q : Pair → Type 0) (i : ℕ) → i < w → ((b : Pair) → b.0 < length ops → b.1 < w → S b → Q b) → (e : Term) → FaultHere S i e → FaultHere Q i e
  fault_map w S Q i lt g (Placed at l m) (inl h) = inl h
  fault_map w S Q i lt g (Placed at l (Use k ts)) (inr h) = inr h
  fault_map w S Q i lt g (Placed at l (Scoped ks e)) (inr h) = inr (h.0, h.1, (h.2.0, h.2.1, g (h.0, i) (slice_get_within ops h.0 h.2.0 h.2.1) lt h.2.2))
  fault_map w S Q i lt g (Placed at l m) (inr h) = absurd h

  fault_itself : (i : ℕ) (e : Term) → FaultHere Faulty i e → IsFault ops e f
  fault_itself i (Placed at l m) (inl h) = subst (λ (g : LevelFault). IsFault ops (Placed at l m) g) (sym h.2.1) (too_high at l m h.0 h.1 h.2.0)
  fault_itself i (Placed at l (Use k ts)) (inr h) =
      let j : (j : ℕ) × (j < length (listed ts)) × ArgumentHere ts h.0 j = h.2 in
      let a : ArgumentHere ts h.0 j.0 = j.2 in
      subst (λ (g : LevelFault). IsFault ops (Placed at l (Use k ts)) g) (sym a.2.1.1) (primed_argument at l k ts h.0 j.0 a.0 h.1 a.1 a.2.0 a.2.1.0)
  fault_itself i (Placed at l (Scoped ks e)) (inr h) = (let r : Faulty (h.0, i) = h.2.2 in of_let at l ks e h.0 r.0 f h.1 r.1 r.2)
  fault_itself i (Placed at l m) (inr h) = absurd h

  fault_sound : (i : ℕ) (e : Term) → In (FaultHere Faulty i) e → IsFault ops e f
  fault_sound i _ (here e h) = fault_itself i e h
  fault_sound i _ (deeper at l m p c r) = in_part at l m p f c (fault_sound i p.term r)

pub fault_complete : (ops : List Operator) (w : ℕ) (S : Pair → Type 0) (i : ℕ) → i < w → (e : Term) (f : LevelFault) → ((b : Pair) → b.0 < length ops → b.1 < w → By ops (Rel ops f) (FaultHere ops f) S b → S b) → IsFault ops e f → In (FaultHere ops f S i) e
fault_complete ops w S i lt _ _ closed (too_high at l m x c q) = here (Placed at l m) (inl (x, c, (q, refl)))
fault_complete ops w S i lt _ _ closed (primed_argument at l k ts o j e q s r t) =
    here (Placed at l (Use k ts)) (inr (o, q, (j, slice_get_within (listed ts) j e s, (e, s, (r, (t, refl))))))
fault_complete ops w S i lt _ _ closed (in_part at l m p f c r) = deeper at l m p c (fault_complete ops w S i lt p.term f closed r)
fault_complete ops w S i lt _ _ closed (of_let at l ks e k o f c q r) =
    here (Placed at l (Scoped ks e)) (inr (k, c, (o, q, closed (k, i) (slice_get_within ops k o q) lt (o, q, fault_complete ops w S i lt o.body f closed r))))

module _ (ops : List Operator) where
  faulty_or_not : (f : LevelFault) (b : Pair) → Decided (Faulty ops f b)
  faulty_or_not f b =
      let lt : b.1 < suc b.1 = omega arith in
      row_or_not ops (Rel ops f) (FaultHere ops f) (suc b.1) (fault_map ops f (suc b.1)) (fault_or_no ops f) (fault_sound ops f) (λ S closed k o s q less r. fault_complete ops (suc b.1) S s less o.body f closed r) b lt

  pub fault_or_not : (e : Term) (f : LevelFault) → Decided (IsFault ops e f)
  fault_or_not e f =
      let lt : 0 < 1 = omega arith in
      turned (fault_sound ops f 0 e, fault_complete ops 1 (Faulty ops f) 0 lt e f (λ b p q h. (h.0, h.1, fault_sound ops f b.1 h.0.body h.2)))
      (in_or_not (FaultHere ops f (Faulty ops f) 0) (fault_or_no ops f (Faulty ops f) (faulty_or_not f) 0) e)

-- ---- what may be wrong with a term stands in a list

contains_mapped : {A B : Type 0} (g : A → B) (xs : List A) (x : A) → Contains xs x → Contains (map g xs) (g x)
contains_mapped g [] x c = absurd (contains_nothing x c)
contains_mapped {B = B} g (y ∷ xs) x c = elim (contains_cons y xs x c) [
  | inl e ↦ subst (λ (z : B). Contains (g y ∷ map g xs) z) (ap g e) (contains_head (g y) (map g xs))
  | inr d ↦ contains_tail (g y) (map g xs) (g x) (contains_mapped g xs x d)
]

contains_all : {A B : Type 0} (g : A → List B) (xs : List A) (x : A) (y : B) → Contains xs x → Contains (g x) y → Contains (all_of g xs) y
contains_all g [] x y c d = absurd (contains_nothing x c)
contains_all g (z ∷ xs) x y c d = elim (contains_cons z xs x c) [
  | inl e ↦ Contains-append_left (g z) (all_of g xs) y (subst (λ w. Contains (g w) y) (sym e) d)
  | inr h ↦ Contains-append_right (g z) (all_of g xs) y (contains_all g xs x y h d)
]

contains_item : {A : Type 0} (xs : List A) (k : ℕ) (x : A) → slice_get xs k ≡ Some x → Contains xs x
contains_item [] k x e = absurd (cc)
contains_item {A = A} (y ∷ xs) zero x e = (let same : y ≡ x = one_item y x e in subst (λ (z : A). Contains (y ∷ xs) z) same (contains_head y xs))
contains_item (y ∷ xs) (suc k) x e = contains_tail y xs x (contains_item xs k x e)

module _ (ops : List Operator) where
  may_be : (n : ℕ) (e : Term) (f : LevelFault) → weight e ≤ n → IsFault ops e f → Contains (faults_in n e) f ⊎ Contains (faults_all ops) f
  may_be zero (Placed at l m) f le h = absurd (omega (arith, le))
  may_be (suc n) _ _ le (too_high at l m x c q) =
      inl (Contains-append_left (map telling.too_high (limits at m) ++ argument_faults m) (all_of (λ p. faults_in n p.term) (parts false m)) (telling.too_high x) (Contains-append_left (map telling.too_high (limits at m)) (argument_faults m) (telling.too_high x) (contains_mapped telling.too_high (limits at m) x c)))
  may_be (suc n) _ _ le (primed_argument at l k ts o j e q s r t) =
      inl (Contains-append_left (map telling.too_high (limits at (Use k ts)) ++ argument_faults (Use k ts)) (all_of (λ p. faults_in n p.term) (parts false (Use k ts))) (PrimedArgument (place_of e)) (Contains-append_right (map telling.too_high (limits at (Use k ts))) (argument_faults (Use k ts)) (PrimedArgument (place_of e)) (contains_mapped (λ (x : Term). PrimedArgument (place_of x)) (listed ts) e (contains_item (listed ts) j e s))))
  may_be (suc n) _ _ le (in_part at l m p f c r) =
      let less : weight p.term < weight (Placed at l m) = part_less at l m p c in
      elim (may_be n p.term f (omega (arith, le, less)) r) [
        | inl d ↦ inl (Contains-append_right (map telling.too_high (limits at m) ++ argument_faults m) (all_of (λ p. faults_in n p.term) (parts false m)) f (contains_all (λ (q : Part). faults_in n q.term) (parts false m) p f c d))
        | inr d ↦ inr d
      ]
  may_be (suc n) _ _ le (of_let at l ks e k o f c q r) =
      let same : weight o.body ≤ weight o.body = omega arith in
      elim (may_be (weight o.body) o.body f same r) [ inl d ↦ inr (contains_all (λ (x : Operator). faults_in (weight x.body) x.body) ops o f (contains_item ops k o q) d) | inr d ↦ inr d ]

  abbrev pub candidates : Term → List LevelFault
  candidates e = faults_in (weight e) e ++ faults_all ops

  pub among : (e : Term) (f : LevelFault) → IsFault ops e f → Contains (candidates e) f
  among e f h =
      let same : weight e ≤ weight e = omega arith in
      elim (may_be (weight e) e f same h) [ inl d ↦ Contains-append_left (faults_in (weight e) e) (faults_all ops) f d | inr d ↦ Contains-append_right (faults_in (weight e) e) (faults_all ops) f d ]

-- ---- the first of a list

less_is : (o : Ordering) → is_lt o ≡ true → o ≡ Less
less_is Less h = refl
less_is Equal h = cc
less_is Greater h = cc

before_trans : (f g h : LevelFault) → is_before f g ≡ true → is_before g h ≡ true → is_before f h ≡ true
before_trans f g h a b =
    ap is_lt (nat_list_cmp_total.trans (standing f) (standing g) (standing h) (less_is (slice_cmp nat_cmp (standing f) (standing g)) a) (less_is (slice_cmp nat_cmp (standing g) (standing h)) b))

not_itself : (f : LevelFault) → is_before f f ≡ false
not_itself f = ap is_lt (tied_itself nat_list_cmp_total (standing f))

by_cases : (b : Bool) → (b ≡ true) ⊎ (b ≡ false)
by_cases true = inl refl
by_cases false = inr refl

-- what does not go before one goes before none that follows it
not_before : (f g h : LevelFault) → is_before f g ≡ false → is_before h g ≡ true → is_before f h ≡ false
not_before f g h a b = elim (by_cases (is_before f h)) [
  | inl c ↦ (let bad : true ≡ false = sym (before_trans f h g c b) ∙ a in absurd (cc))
  | inr c ↦ c
]

module _ (P : LevelFault → Type 0) (d : (f : LevelFault) → Decided (P f)) where
  abbrev FirstOf : List LevelFault → Type 0
  FirstOf fs = ((f : LevelFault) → Contains fs f → ¬ P f) ⊎ ((g : LevelFault) × P g × ((f : LevelFault) → Contains fs f → P f → is_before f g ≡ false))

  one_more : (f : LevelFault) (fs : List LevelFault) → Decided (P f) → FirstOf fs → FirstOf (f ∷ fs)
  one_more f fs (inr n) (inl none) = inl (λ g c h. elim (contains_cons f fs g c) [ inl e ↦ n (subst P (sym e) h) | inr k ↦ none g k h ])
  one_more f fs (inr n) (inr r) = inr (r.0, r.1, λ g c h. elim (contains_cons f fs g c) [ inl e ↦ absurd (n (subst P (sym e) h)) | inr k ↦ r.2 g k h ])
  one_more f fs (inl p) (inl none) = inr (f, p, λ g c h. elim (contains_cons f fs g c) [ inl e ↦ subst (λ (x : LevelFault). is_before x f ≡ false) e (not_itself f) | inr k ↦ absurd (none g k h) ])
  one_more f fs (inl p) (inr r) = elim (by_cases (is_before f r.0)) [
    | inl b ↦ inr (f, p, λ g c h. elim (contains_cons f fs g c) [ inl e ↦ subst (λ (x : LevelFault). is_before x f ≡ false) e (not_itself f) | inr k ↦ not_before g r.0 f (r.2 g k h) b ])
    | inr b ↦ inr (r.0, r.1, λ g c h. elim (contains_cons f fs g c) [ inl e ↦ subst (λ (x : LevelFault). is_before x r.0 ≡ false) e b | inr k ↦ r.2 g k h ])
  ]

  first_of_list : (fs : List LevelFault) → FirstOf fs
  first_of_list [] = inl (λ f c. absurd (contains_nothing f c))
  first_of_list (f ∷ fs) = one_more f fs (d f) (first_of_list fs)

  -- of what is all in a list there is a first, or there is nothing
  pub first_or_nothing : (fs : List LevelFault) → ((f : LevelFault) → P f → Contains fs f) → ((f : LevelFault) → ¬ P f) ⊎ ((g : LevelFault) × IsFirst P g)
  first_or_nothing fs all = elim (first_of_list fs) [
    | inl none ↦ inl (λ f h. none f (all f h) h)
    | inr r ↦ inr (r.0, record { is_such = r.1; none_before = λ f h. r.2 f (all f h) h })
  ]
