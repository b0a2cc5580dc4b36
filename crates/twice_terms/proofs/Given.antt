-- What conjuncts give is alike of alike terms, and is one.
use Rattle.std.proofs.Common.{◌≡◌, ◌∙◌, sym, ap, ap₂, refl, subst, List, [], ◌∷◌, inl, inr}
use Rattle.base_core.specs.declared.place.Place.{Place}
use Rattle.values_core.specs.Data.{Val}
use Rattle.reading_trees.specs.declared.operators.PrefixOperator.{PrefixOperator}
use Rattle.reading_trees.specs.declared.operators.PrefixOperator.TheVariants as prefix
use Rattle.names_terms.specs.declared.level.Level.{Level}
use Rattle.names_terms.specs.declared.level.Level.TheVariants as levels
use Rattle.names_terms.specs.declared.operator.Operator.{Operator}
use Rattle.names_terms.specs.Terms.{Term, Placed, Meaning, All, Prefix, BoxAction, Terms, NoTerms, MoreTerms}
use Rattle.names_term_parts.specs.Limits.{is_above}
use Rattle.names_term_levels.specs.Shape.{IsFair, Contribution, contribution, both_contributions, Gives, GivesEach}
use Rattle.twice_terms.specs.Alike.{Alike, placed_alike, AlikeMeanings, all_alike, prefix_alike, box_alike, AlikeTerms}
use Rattle.twice_terms.specs.Laws.{AlikeContributions}
use Rattle.twice_terms.proofs.Zips.{zip_append}
use Rattle.twice_terms.proofs.Turned.{turned, term_turned}
use Rattle.twice_terms.proofs.Inverted.{same_level, alike_is, all_is, none_is, more_is}
use Rattle.twice_terms.proofs.Fair.{fair}

abbrev IsNotAll : Meaning → Type 0
IsNotAll (All ts) = ⊥
IsNotAll m = Unit {0}

module _ (Same : Val → Val → Type 0) (ops all : List Operator) where
  -- what is given, and something alike
  abbrev GivesAlike : Term → Contribution → Type 0
  GivesAlike f p = (q : Contribution) × AlikeContributions Same ops all p q × Gives all f q

  nothing : (p : Contribution) → p ≡ contribution [] [] → AlikeContributions Same ops all p (contribution [] [])
  nothing p q = subst (λ (y : Contribution). AlikeContributions Same ops all y (contribution [] [])) (sym q) record { inits = tt; steps = tt }

  -- fairness alone
  plain : (at : Place) (m n : Meaning) (p : Contribution) → AlikeMeanings Same ops all m n → IsFair ops (Placed at levels.Temporal m) × (p ≡ contribution [] [])
      → (q : Contribution) × AlikeContributions Same ops all p q × (IsFair all (Placed at levels.Temporal n) × (q ≡ contribution [] []))
  plain at m n p a g =
      (contribution [] [], nothing p g.1, (fair Same ops all (Placed at levels.Temporal m) g.0 (Placed at levels.Temporal n) (placed_alike at levels.Temporal m n a), refl))

  boxed : (at there : Place) (l : Level) (m n : Meaning) (p : Contribution) → AlikeMeanings Same ops all m n
      → Gives ops (Placed at levels.Temporal (Prefix prefix.Always (Placed there l m))) p → GivesAlike (Placed at levels.Temporal (Prefix prefix.Always (Placed there l n))) p
  boxed at there l _ _ p (box_alike e f v w x y) g = (
    contribution [] (f ∷ []),
    subst (λ (z : Contribution). AlikeContributions Same ops all z (contribution [] (f ∷ []))) (sym g.1) record { inits = tt; steps = (x, tt) },
    (ap (λ (k : Level). is_above k levels.Action) (sym (same_level Same ops all e f x)) ∙ g.0, refl),
  )
  boxed at there l m n p a g = plain at (Prefix prefix.Always (Placed there l m)) (Prefix prefix.Always (Placed there l n)) p
      (prefix_alike prefix.Always (Placed there l m) (Placed there l n) (placed_alike there l m n a)) g

  always : (at : Place) (e f : Term) (p : Contribution) → Alike Same ops all e f
      → Gives ops (Placed at levels.Temporal (Prefix prefix.Always e)) p → GivesAlike (Placed at levels.Temporal (Prefix prefix.Always f)) p
  always at _ _ p (placed_alike there l m n a) g = boxed at there l m n p a g

  prefixed : (at : Place) (o : PrefixOperator) (e f : Term) (p : Contribution) → Alike Same ops all e f
      → Gives ops (Placed at levels.Temporal (Prefix o e)) p → GivesAlike (Placed at levels.Temporal (Prefix o f)) p
  prefixed at prefix.Always e f p a g = always at e f p a g
  prefixed at o e f p a g = plain at (Prefix o e) (Prefix o f) p (prefix_alike o e f a) g

  not_all : (at : Place) (m n : Meaning) (p : Contribution) → IsNotAll m → AlikeMeanings Same ops all m n
      → Gives ops (Placed at levels.Temporal m) p → GivesAlike (Placed at levels.Temporal n) p
  not_all at _ _ p t (all_alike ts us a) g = absurd t
  not_all at _ _ p t (prefix_alike o e f a) g = prefixed at o e f p a g
  not_all at m n p t a g = plain at m n p a g

  on : (f x : Term) (p : Contribution) → f ≡ x → GivesAlike x p → GivesAlike f p
  on f x p q h = subst (λ (y : Term). GivesAlike y p) (sym q) h

  alike_both : (p q r s : Contribution) → AlikeContributions Same ops all p r → AlikeContributions Same ops all q s
      → AlikeContributions Same ops all (both_contributions p q) (both_contributions r s)
  alike_both p q r s a b = record {
    inits = zip_append (Alike Same ops all) p.inits r.inits q.inits s.inits a.inits b.inits;
    steps = zip_append (Alike Same ops all) p.steps r.steps q.steps s.steps a.steps b.steps;
  }

  not_fair : (e f : Term) → Alike Same ops all e f → ¬ IsFair ops e → ¬ IsFair all f
  not_fair e f a h w = h (fair (turned Same) all ops f w e (term_turned Same ops all e f a))

  -- a term of a level below that of a behaviour
  abbrev IsInit : Level → Type 0
  IsInit levels.Temporal = ⊥
  IsInit l = Unit {0}

  init : (at : Place) (l : Level) (m n : Meaning) (p : Contribution) → IsInit l → AlikeMeanings Same ops all m n → Gives ops (Placed at l m) p → GivesAlike (Placed at l n) p
  init at levels.Temporal m n p t a g = absurd t
  init at l m n p t a g =
      (contribution (Placed at l n ∷ []) [], subst (λ (z : Contribution). AlikeContributions Same ops all z (contribution (Placed at l n ∷ []) [])) (sym g.1) record { inits = (placed_alike at l m n a, tt); steps = tt }, (g.0, refl))

  mutual
    pub gives : (e : Term) (p : Contribution) → Gives ops e p → (f : Term) → Alike Same ops all e f → GivesAlike f p
    gives (Placed at levels.Temporal (All ts)) p g f a =
        let v : (n : Meaning) × (f ≡ Placed at levels.Temporal n) × AlikeMeanings Same ops all (All ts) n = alike_is Same ops all at levels.Temporal (All ts) f a in
        let s : (us : Terms) × (v.0 ≡ All us) × AlikeTerms Same ops all ts us = all_is Same ops all ts v.0 v.2 in
        let here : Alike Same ops all (Placed at levels.Temporal (All ts)) (Placed at levels.Temporal (All s.0)) = placed_alike at levels.Temporal (All ts) (All s.0) (all_alike ts s.0 s.2) in
        on f (Placed at levels.Temporal (All s.0)) p (v.1 ∙ ap (λ (n : Meaning). Placed at levels.Temporal n) s.1) (elim g [
          | inl h ↦ (contribution [] [], nothing p h.1, inl (fair Same ops all (Placed at levels.Temporal (All ts)) h.0 (Placed at levels.Temporal (All s.0)) here, refl))
          | inr h ↦ let r : (q : Contribution) × AlikeContributions Same ops all p q × GivesEach all s.0 q = gives_each ts p h.1 s.0 s.2 in
              (r.0, r.1, inr (not_fair (Placed at levels.Temporal (All ts)) (Placed at levels.Temporal (All s.0)) here h.0, r.2))
        ])
    gives (Placed at levels.Temporal m) p g f a =
        let v : (n : Meaning) × (f ≡ Placed at levels.Temporal n) × AlikeMeanings Same ops all m n = alike_is Same ops all at levels.Temporal m f a in
        on f (Placed at levels.Temporal v.0) p v.1 (not_all at m v.0 p tt v.2 g)
    gives (Placed at l m) p g f a =
        let v : (n : Meaning) × (f ≡ Placed at l n) × AlikeMeanings Same ops all m n = alike_is Same ops all at l m f a in
        on f (Placed at l v.0) p v.1 (init at l m v.0 p tt v.2 g)

    gives_each : (ts : Terms) (p : Contribution) → GivesEach ops ts p → (us : Terms) → AlikeTerms Same ops all ts us
        → (q : Contribution) × AlikeContributions Same ops all p q × GivesEach all us q
    gives_each NoTerms p g us a =
        (contribution [] [], nothing p g, subst (λ (x : Terms). GivesEach all x (contribution [] [])) (sym (none_is Same ops all us a)) refl)
    gives_each (MoreTerms ts e) p g us a =
        let s : (vs : Terms) × (f : Term) × (us ≡ MoreTerms vs f) × AlikeTerms Same ops all ts vs × Alike Same ops all e f = more_is Same ops all ts e us a in
        let r : (q : Contribution) × AlikeContributions Same ops all g.0 q × GivesEach all s.0 q = gives_each ts g.0 g.2 s.0 s.3 in
        let t : (q : Contribution) × AlikeContributions Same ops all g.1 q × Gives all s.1 q = gives e g.1 g.3 s.1 s.4 in (
          both_contributions r.0 t.0,
          subst (λ (z : Contribution). AlikeContributions Same ops all z (both_contributions r.0 t.0)) (sym g.4) (alike_both g.0 g.1 r.0 t.0 r.1 t.1),
          subst (λ (x : Terms). GivesEach all x (both_contributions r.0 t.0)) (sym s.2) (r.0, t.0, r.2, t.2, refl),
        )

-- a term gives one contribution at most
module _ (ops : List Operator) where
  mutual
    pub one_given : (e : Term) (p q : Contribution) → Gives ops e p → Gives ops e q → p ≡ q
    one_given (Placed at levels.Temporal (All ts)) p q g h = elim g [
      | inl x ↦ elim h [ inl y ↦ x.1 ∙ sym y.1 | inr y ↦ absurd (y.0 x.0) ]
      | inr x ↦ elim h [ inl y ↦ absurd (x.0 y.0) | inr y ↦ one_each ts p q x.1 y.1 ]
    ]
    one_given (Placed at levels.Temporal (Prefix prefix.Always (Placed there l (BoxAction a v)))) p q g h = g.1 ∙ sym h.1
    one_given (Placed at levels.Temporal m) p q g h = g.1 ∙ sym h.1
    one_given (Placed at l m) p q g h = g.1 ∙ sym h.1

    one_each : (ts : Terms) (p q : Contribution) → GivesEach ops ts p → GivesEach ops ts q → p ≡ q
    one_each NoTerms p q g h = g ∙ sym h
    one_each (MoreTerms ts e) p q g h = g.4 ∙ ap₂ both_contributions (one_each ts g.0 h.0 g.2 h.2) (one_given e g.1 h.1 g.3 h.3) ∙ sym h.4
