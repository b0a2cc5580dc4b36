-- Alike terms have the same slots, and the same of them under a prime; they have the same faults.
use Rattle.std.proofs.Common.{◌≡◌, ◌∙◌, sym, ap, subst, List}
use Rattle.std.specs.Prelude.{ℕ, ◌<◌, ◌+◌, true, false, Some, Contains, slice_get}
use Rattle.base_core.specs.declared.place.Place.{Place}
use Rattle.values_core.specs.Data.{Val}
use Rattle.names_terms.specs.declared.level.Level.{Level}
use Rattle.names_terms.specs.declared.level.Level.TheVariants.{Constant}
use Rattle.names_terms.specs.declared.operator.Operator.{Operator}
use Rattle.names_terms.specs.Terms.{Term, Placed, Meaning, Slot, Use, Scoped, Terms, place_of, level_of}
use Rattle.names_term_parts.specs.declared.fault.LevelFault.{LevelFault}
use Rattle.names_term_parts.specs.declared.fault.LevelFault.TheVariants.{TooHigh, PrimedArgument}
use Rattle.names_term_parts.specs.Limits.{Limit, is_above}
use Rattle.names_term_parts.specs.Parts.{Part, parts, listed}
use Rattle.names_term_parts.specs.Slots.{Occurs, itself, occurs_in_part, occurs_in_let, occurs_where_used, IsPrimed, under, primed_in_part, in_argument, primed_in_let, primed_where_used}
use Rattle.names_term_levels.specs.Faults.{IsFault, too_high, primed_argument, in_part, of_let, IsAssumptionFault, in_term, no_constant}
use Rattle.twice_terms.specs.Alike.{Alike, AlikeMeanings, AlikeTerms, AlikeRows, AlikeNumbers}
use Rattle.twice_terms.specs.Laws.{AlikeOperators, AlikeParts}
use Rattle.twice_terms.proofs.Zips.{zip_left, zip_at}
use Rattle.twice_terms.proofs.Inverted.{same_place, same_level, alike_is, slot_is, use_is, scoped_is, row_is, number_in}
use Rattle.twice_terms.proofs.Zipped.{parts_zip, listed_zip}
use Rattle.twice_terms.proofs.Limited.{limits_same}

-- a definition of a use that is alike
record UseOf (Same : Val → Val → Type 0) (ops all : List Operator) (at : Place) (l : Level) (ts : Terms) (o : Operator) (f : Term) : Type 0 where
  number : ℕ
  terms : Terms
  is : f ≡ Placed at l (Use number terms)
  row : Operator
  read : slice_get all number ≡ Some row
  same : AlikeOperators Same ops all o row
  each : AlikeTerms Same ops all ts terms

-- a definition of a LET that is alike
record LetOf (Same : Val → Val → Type 0) (ops all : List Operator) (at : Place) (l : Level) (o : Operator) (f : Term) : Type 0 where
  numbers : List ℕ
  behind : Term
  is : f ≡ Placed at l (Scoped numbers behind)
  number : ℕ
  among : Contains numbers number
  row : Operator
  read : slice_get all number ≡ Some row
  same : AlikeOperators Same ops all o row

module _ (Same : Val → Val → Type 0) (ops all : List Operator) where
  -- a part that is alike
  abbrev PartIn : Meaning → Part → Type 0
  PartIn n p = (q : Part) × Contains (parts false n) q × AlikeParts Same ops all p q

  part_in : (m n : Meaning) (p : Part) → AlikeMeanings Same ops all m n → Contains (parts false m) p → PartIn n p
  part_in m n p a c = zip_left (AlikeParts Same ops all) (parts false m) (parts false n) p (parts_zip Same ops all false m n a) c

  use_of : (at : Place) (l : Level) (k : ℕ) (ts : Terms) (o : Operator) (f : Term) → slice_get ops k ≡ Some o → Alike Same ops all (Placed at l (Use k ts)) f → UseOf Same ops all at l ts o f
  use_of at l k ts o f g a =
      let v : (n : Meaning) × (f ≡ Placed at l n) × AlikeMeanings Same ops all (Use k ts) n = alike_is Same ops all at l (Use k ts) f a in
      let s : (j : ℕ) × (us : Terms) × (v.0 ≡ Use j us) × AlikeRows Same ops all k j × AlikeTerms Same ops all ts us = use_is Same ops all k ts v.0 v.2 in
      let r : (p : Operator) × (slice_get all s.0 ≡ Some p) × AlikeOperators Same ops all o p = row_is Same ops all k s.0 o s.3 g in
      record { number = s.0; terms = s.1; is = v.1 ∙ ap (λ (n : Meaning). Placed at l n) s.2; row = r.0; read = r.1; same = r.2; each = s.4 }

  let_of : (at : Place) (l : Level) (ks : List ℕ) (e : Term) (k : ℕ) (o : Operator) (f : Term) → Contains ks k → slice_get ops k ≡ Some o
      → Alike Same ops all (Placed at l (Scoped ks e)) f → LetOf Same ops all at l o f
  let_of at l ks e k o f c g a =
      let v : (n : Meaning) × (f ≡ Placed at l n) × AlikeMeanings Same ops all (Scoped ks e) n = alike_is Same ops all at l (Scoped ks e) f a in
      let s : (js : List ℕ) × (b : Term) × (v.0 ≡ Scoped js b) × AlikeNumbers Same ops all ks js × Alike Same ops all e b = scoped_is Same ops all ks e v.0 v.2 in
      let w : (j : ℕ) × Contains s.0 j × AlikeRows Same ops all k j = number_in Same ops all ks s.0 k s.3 c in
      let r : (p : Operator) × (slice_get all w.0 ≡ Some p) × AlikeOperators Same ops all o p = row_is Same ops all k w.0 o w.2 g in
      record { numbers = s.0; behind = s.1; is = v.1 ∙ ap (λ (n : Meaning). Placed at l n) s.2; number = w.0; among = w.1; row = r.0; read = r.1; same = r.2 }

  pub occurs : (e : Term) (i : ℕ) → Occurs ops e i → (f : Term) → Alike Same ops all e f → Occurs all f i
  occurs _ _ (itself at l i) f a =
      let v : (n : Meaning) × (f ≡ Placed at l n) × AlikeMeanings Same ops all (Slot i) n = alike_is Same ops all at l (Slot i) f a in
      subst (λ (x : Term). Occurs all x i) (sym (v.1 ∙ ap (λ (n : Meaning). Placed at l n) (slot_is Same ops all i v.0 v.2))) (itself at l i)
  occurs _ _ (occurs_in_part at l m p i c h) f a =
      let v : (n : Meaning) × (f ≡ Placed at l n) × AlikeMeanings Same ops all m n = alike_is Same ops all at l m f a in
      let w : PartIn v.0 p = part_in m v.0 p v.2 c in
      subst (λ (x : Term). Occurs all x i) (sym v.1) (occurs_in_part at l v.0 w.0 i w.1 (occurs p.term i h w.0.term w.2.terms))
  occurs _ _ (occurs_in_let at l ks e k o i c g lt h) f a =
      let u : LetOf Same ops all at l o f = let_of at l ks e k o f c g a in
      subst (λ (x : Term). Occurs all x i) (sym u.is) (occurs_in_let at l u.numbers u.behind u.number u.row i u.among u.read
      (subst (λ (z : ℕ). i < z) u.same.outer lt) (occurs o.body i h u.row.body u.same.body))
  occurs _ _ (occurs_where_used at l k ts o i g lt h) f a =
      let u : UseOf Same ops all at l ts o f = use_of at l k ts o f g a in
      subst (λ (x : Term). Occurs all x i) (sym u.is) (occurs_where_used at l u.number u.terms u.row i u.read
      (subst (λ (z : ℕ). i < z) u.same.outer lt) (occurs o.body i h u.row.body u.same.body))

  pub primed : (e : Term) (i : ℕ) → IsPrimed ops e i → (f : Term) → Alike Same ops all e f → IsPrimed all f i
  primed _ _ (under at l m p i c b h) f a =
      let v : (n : Meaning) × (f ≡ Placed at l n) × AlikeMeanings Same ops all m n = alike_is Same ops all at l m f a in
      let w : PartIn v.0 p = part_in m v.0 p v.2 c in
      subst (λ (x : Term). IsPrimed all x i) (sym v.1) (under at l v.0 w.0 i w.1 (sym w.2.primed ∙ b) (occurs p.term i h w.0.term w.2.terms))
  primed _ _ (primed_in_part at l m p i c h) f a =
      let v : (n : Meaning) × (f ≡ Placed at l n) × AlikeMeanings Same ops all m n = alike_is Same ops all at l m f a in
      let w : PartIn v.0 p = part_in m v.0 p v.2 c in
      subst (λ (x : Term). IsPrimed all x i) (sym v.1) (primed_in_part at l v.0 w.0 i w.1 (primed p.term i h w.0.term w.2.terms))
  primed _ _ (in_argument at l k ts o j e i g q h b) f a =
      let u : UseOf Same ops all at l ts o f = use_of at l k ts o f g a in
      let y : (x : Term) × (slice_get (listed u.terms) j ≡ Some x) × Alike Same ops all e x =
      zip_at (Alike Same ops all) (listed ts) (listed u.terms) j e (listed_zip Same ops all ts u.terms u.each) q in
      subst (λ (x : Term). IsPrimed all x i) (sym u.is) (in_argument at l u.number u.terms u.row j y.0 i u.read y.1
      (subst (λ (z : ℕ). IsPrimed all u.row.body (z + j)) u.same.outer (primed o.body (o.outer + j) h u.row.body u.same.body)) (occurs e i b y.0 y.2))
  primed _ _ (primed_in_let at l ks e k o i c g lt h) f a =
      let u : LetOf Same ops all at l o f = let_of at l ks e k o f c g a in
      subst (λ (x : Term). IsPrimed all x i) (sym u.is) (primed_in_let at l u.numbers u.behind u.number u.row i u.among u.read
      (subst (λ (z : ℕ). i < z) u.same.outer lt) (primed o.body i h u.row.body u.same.body))
  primed _ _ (primed_where_used at l k ts o i g lt h) f a =
      let u : UseOf Same ops all at l ts o f = use_of at l k ts o f g a in
      subst (λ (x : Term). IsPrimed all x i) (sym u.is) (primed_where_used at l u.number u.terms u.row i u.read
      (subst (λ (z : ℕ). i < z) u.same.outer lt) (primed o.body i h u.row.body u.same.body))

  pub fault : (e : Term) (x : LevelFault) → IsFault ops e x → (f : Term) → Alike Same ops all e f → IsFault all f x
  fault _ _ (too_high at l m x c b) f a =
      let v : (n : Meaning) × (f ≡ Placed at l n) × AlikeMeanings Same ops all m n = alike_is Same ops all at l m f a in
      subst (λ (y : Term). IsFault all y (TooHigh x.found x.allowed x.at)) (sym v.1)
      (too_high at l v.0 x (subst (λ (xs : List Limit). Contains xs x) (limits_same Same ops all at m v.0 v.2) c) b)
  fault _ _ (primed_argument at l k ts o j e g q h b) f a =
      let u : UseOf Same ops all at l ts o f = use_of at l k ts o f g a in
      let y : (x : Term) × (slice_get (listed u.terms) j ≡ Some x) × Alike Same ops all e x =
      zip_at (Alike Same ops all) (listed ts) (listed u.terms) j e (listed_zip Same ops all ts u.terms u.each) q in
      let under_prime : IsPrimed all u.row.body (u.row.outer + j) =
      subst (λ (z : ℕ). IsPrimed all u.row.body (z + j)) u.same.outer (primed o.body (o.outer + j) h u.row.body u.same.body) in
      let above : is_above (level_of y.0) Constant ≡ true = ap (λ (l : Level). is_above l Constant) (sym (same_level Same ops all e y.0 y.2)) ∙ b in
      let here : IsFault all (Placed at l (Use u.number u.terms)) (PrimedArgument (place_of y.0)) = primed_argument at l u.number u.terms u.row j y.0 u.read y.1 under_prime above in
      subst (λ (x : Term). IsFault all x (PrimedArgument (place_of e))) (sym u.is)
      (subst (λ (z : Place). IsFault all (Placed at l (Use u.number u.terms)) (PrimedArgument z)) (sym (same_place Same ops all e y.0 y.2)) here)
  fault _ _ (in_part at l m p x c h) f a =
      let v : (n : Meaning) × (f ≡ Placed at l n) × AlikeMeanings Same ops all m n = alike_is Same ops all at l m f a in
      let w : PartIn v.0 p = part_in m v.0 p v.2 c in
      subst (λ (y : Term). IsFault all y x) (sym v.1) (in_part at l v.0 w.0 x w.1 (fault p.term x h w.0.term w.2.terms))
  fault _ _ (of_let at l ks e k o x c g h) f a =
      let u : LetOf Same ops all at l o f = let_of at l ks e k o f c g a in
      subst (λ (y : Term). IsFault all y x) (sym u.is) (of_let at l u.numbers u.behind u.number u.row x u.among u.read (fault o.body x h u.row.body u.same.body))

  pub assumption_fault : (e : Term) (x : LevelFault) → IsAssumptionFault ops e x → (f : Term) → Alike Same ops all e f → IsAssumptionFault all f x
  assumption_fault _ _ (in_term e x h) f a = in_term f x (fault e x h f a)
  assumption_fault _ _ (no_constant at l m b) f a =
      let v : (n : Meaning) × (f ≡ Placed at l n) × AlikeMeanings Same ops all m n = alike_is Same ops all at l m f a in
      subst (λ (y : Term). IsAssumptionFault all y (TooHigh l Constant at)) (sym v.1) (no_constant at l v.0 b)
