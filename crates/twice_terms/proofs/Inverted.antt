-- What is alike to a term of a known kind is of that kind.
use Rattle.std.proofs.Common.{◌≡◌, ◌∙◌, sym, refl, subst, List, inl, inr}
use Rattle.std.specs.Prelude.{ℕ, Some, Contains, slice_get}
use Rattle.base_core.specs.declared.place.Place.{Place}
use Rattle.values_core.specs.Data.{Val}
use Rattle.reading_trees.specs.declared.operators.Quantifier.{Quantifier}
use Rattle.names_terms.specs.declared.level.Level.{Level}
use Rattle.names_terms.specs.declared.operator.Operator.{Operator}
use Rattle.names_terms.specs.Terms.{Term, Placed, Meaning, Slot, Use, Scoped, All, Quantified, Fairness, Terms, NoTerms, MoreTerms, Bounds, place_of, level_of}
use Rattle.names_term_parts.proofs.Contained.{contains_cons, contains_head, contains_tail, contains_nothing}
use Rattle.twice_terms.specs.Alike.{Alike, placed_alike, AlikeMeanings, slot_alike, use_alike, scoped_alike, all_alike, quantified_alike, fairness_alike, AlikeTerms, no_terms_alike, more_terms_alike, AlikeRows, RowsBy, IsOneVariable, AlikeNumbers, no_numbers_alike, more_numbers_alike}
use Rattle.twice_terms.specs.Laws.{AlikeOperators}
use Rattle.twice_terms.proofs.Zips.{some_same}
use Rattle.twice_terms.proofs.Opened.{rows_open}

module _ (Same : Val → Val → Type 0) (ops all : List Operator) where
  pub same_place : (e f : Term) → Alike Same ops all e f → place_of e ≡ place_of f
  same_place _ _ (placed_alike at l m n a) = refl

  pub same_level : (e f : Term) → Alike Same ops all e f → level_of e ≡ level_of f
  same_level _ _ (placed_alike at l m n a) = refl

  pub alike_is : (at : Place) (l : Level) (m : Meaning) (f : Term) → Alike Same ops all (Placed at l m) f → (n : Meaning) × (f ≡ Placed at l n) × AlikeMeanings Same ops all m n
  alike_is _ _ _ _ (placed_alike at l m n a) = (n, refl, a)

  pub slot_is : (i : ℕ) (n : Meaning) → AlikeMeanings Same ops all (Slot i) n → n ≡ Slot i
  slot_is _ _ (slot_alike i) = refl

  pub use_is : (k : ℕ) (ts : Terms) (n : Meaning) → AlikeMeanings Same ops all (Use k ts) n
      → (j : ℕ) × (us : Terms) × (n ≡ Use j us) × AlikeRows Same ops all k j × AlikeTerms Same ops all ts us
  use_is _ _ _ (use_alike k j ts us r t) = (j, us, refl, r, t)

  pub scoped_is : (ks : List ℕ) (e : Term) (n : Meaning) → AlikeMeanings Same ops all (Scoped ks e) n
      → (js : List ℕ) × (f : Term) × (n ≡ Scoped js f) × AlikeNumbers Same ops all ks js × Alike Same ops all e f
  scoped_is _ _ _ (scoped_alike ks js e f r a) = (js, f, refl, r, a)

  pub all_is : (ts : Terms) (n : Meaning) → AlikeMeanings Same ops all (All ts) n → (us : Terms) × (n ≡ All us) × AlikeTerms Same ops all ts us
  all_is _ _ (all_alike ts us t) = (us, refl, t)

  pub quantified_is : (q : Quantifier) (bs : Bounds) (e : Term) (n : Meaning) → AlikeMeanings Same ops all (Quantified q bs e) n
      → (cs : Bounds) × (f : Term) × (n ≡ Quantified q cs f) × Alike Same ops all e f
  quantified_is _ _ _ _ (quantified_alike q bs cs e f b a) = (cs, f, refl, a)

  pub fairness_is : (v e : Term) (n : Meaning) → AlikeMeanings Same ops all (Fairness v e) n → (w f : Term) × (n ≡ Fairness w f)
  fairness_is _ _ _ (fairness_alike v w e f a b) = (w, f, refl)

  pub none_is : (us : Terms) → AlikeTerms Same ops all NoTerms us → us ≡ NoTerms
  none_is _ no_terms_alike = refl

  pub more_is : (ts : Terms) (e : Term) (us : Terms) → AlikeTerms Same ops all (MoreTerms ts e) us
      → (vs : Terms) × (f : Term) × (us ≡ MoreTerms vs f) × AlikeTerms Same ops all ts vs × Alike Same ops all e f
  more_is _ _ _ (more_terms_alike ts us e f t a) = (us, f, refl, t, a)

  pub row_is : (k j : ℕ) (o : Operator) → AlikeRows Same ops all k j → slice_get ops k ≡ Some o
      → (p : Operator) × (slice_get all j ≡ Some p) × AlikeOperators Same ops all o p
  row_is k j o r q =
      let w : RowsBy Same IsOneVariable (AlikeRows Same ops all) ops all k j = rows_open Same ops all k j r in
      (w.right, w.there, subst (λ (y : Operator). AlikeOperators Same ops all y w.right) (some_same (sym w.here ∙ q)) w.same)

  pub number_in : (ks js : List ℕ) (k : ℕ) → AlikeNumbers Same ops all ks js → Contains ks k → (j : ℕ) × Contains js j × AlikeRows Same ops all k j
  number_in _ _ k no_numbers_alike c = absurd (contains_nothing k c)
  number_in _ _ k (more_numbers_alike x y ks js r t) c = elim (contains_cons x ks k c) [
    | inl q ↦ (y, contains_head y js, subst (λ (z : ℕ). AlikeRows Same ops all z y) q r)
    | inr d ↦ let w : (j : ℕ) × Contains js j × AlikeRows Same ops all k j = number_in ks js k t d in (w.0, contains_tail y js w.0 w.1, w.2)
  ]
