-- What is alike to fairness is fairness.
use Rattle.std.proofs.Common.{◌≡◌, ◌∙◌, sym, ap, subst, List}
use Rattle.std.specs.Prelude.{ℕ, Some, Contains, slice_get}
use Rattle.values_core.specs.Data.{Val}
use Rattle.reading_trees.specs.declared.operators.Quantifier.TheVariants as quantifier
use Rattle.names_terms.specs.declared.operator.Operator.{Operator}
use Rattle.names_terms.specs.Terms.{Term, Placed, Meaning, Use, All, Quantified, Fairness, Terms, NoTerms, Bounds}
use Rattle.names_term_parts.specs.Parts.{listed}
use Rattle.names_term_levels.specs.Shape.{IsFair, weak_or_strong, for_all, both, named}
use Rattle.twice_terms.specs.Alike.{Alike, AlikeMeanings, AlikeTerms, AlikeRows}
use Rattle.twice_terms.specs.Laws.{AlikeOperators}
use Rattle.twice_terms.proofs.Zips.{zip_right}
use Rattle.twice_terms.proofs.Inverted.{alike_is, use_is, all_is, quantified_is, fairness_is, none_is, row_is}
use Rattle.twice_terms.proofs.Zipped.{listed_zip}

module _ (Same : Val → Val → Type 0) (ops all : List Operator) where
  pub fair : (e : Term) → IsFair ops e → (f : Term) → Alike Same ops all e f → IsFair all f
  fair _ (weak_or_strong at l v e) f a =
      let u : (n : Meaning) × (f ≡ Placed at l n) × AlikeMeanings Same ops all (Fairness v e) n = alike_is Same ops all at l (Fairness v e) f a in
      let s : (w x : Term) × (u.0 ≡ Fairness w x) = fairness_is Same ops all v e u.0 u.2 in
      subst (IsFair all) (sym (u.1 ∙ ap (λ (n : Meaning). Placed at l n) s.2)) (weak_or_strong at l s.0 s.1)
  fair _ (for_all at l bs e h) f a =
      let u : (n : Meaning) × (f ≡ Placed at l n) × AlikeMeanings Same ops all (Quantified quantifier.ForAll bs e) n = alike_is Same ops all at l (Quantified quantifier.ForAll bs e) f a in
      let s : (cs : Bounds) × (x : Term) × (u.0 ≡ Quantified quantifier.ForAll cs x) × Alike Same ops all e x = quantified_is Same ops all quantifier.ForAll bs e u.0 u.2 in
      subst (IsFair all) (sym (u.1 ∙ ap (λ (n : Meaning). Placed at l n) s.2)) (for_all at l s.0 s.1 (fair e h s.1 s.3))
  fair _ (both at l ts h) f a =
      let u : (n : Meaning) × (f ≡ Placed at l n) × AlikeMeanings Same ops all (All ts) n = alike_is Same ops all at l (All ts) f a in
      let s : (us : Terms) × (u.0 ≡ All us) × AlikeTerms Same ops all ts us = all_is Same ops all ts u.0 u.2 in
      let z : (y : Term) → Contains (listed s.0) y → (x : Term) × Contains (listed ts) x × Alike Same ops all x y =
      λ y c. zip_right (Alike Same ops all) (listed ts) (listed s.0) y (listed_zip Same ops all ts s.0 s.2) c in
      subst (IsFair all) (sym (u.1 ∙ ap (λ (n : Meaning). Placed at l n) s.1)) (both at l s.0 (λ y c. fair (z y c).0 (h (z y c).0 (z y c).1) y (z y c).2))
  fair _ (named at l k o g h) f a =
      let u : (n : Meaning) × (f ≡ Placed at l n) × AlikeMeanings Same ops all (Use k NoTerms) n = alike_is Same ops all at l (Use k NoTerms) f a in
      let s : (j : ℕ) × (us : Terms) × (u.0 ≡ Use j us) × AlikeRows Same ops all k j × AlikeTerms Same ops all NoTerms us = use_is Same ops all k NoTerms u.0 u.2 in
      let r : (p : Operator) × (slice_get all s.0 ≡ Some p) × AlikeOperators Same ops all o p = row_is Same ops all k s.0 o s.3 g in
      let q : u.0 ≡ Use s.0 NoTerms = s.2 ∙ ap (λ (us : Terms). Use s.0 us) (none_is Same ops all s.1 s.4) in
      subst (IsFair all) (sym (u.1 ∙ ap (λ (n : Meaning). Placed at l n) q)) (named at l s.0 r.0 r.1 (fair o.body h r.0.body r.2.body))
