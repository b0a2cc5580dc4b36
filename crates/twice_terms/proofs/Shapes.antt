-- Alike terms have alike shapes, and a term has one shape at most.
use Rattle.std.proofs.Common.{◌≡◌, ◌∙◌, sym, ap, refl, subst, List, [], ◌∷◌}
use Rattle.std.specs.List.{AllZip}
use Rattle.base_core.specs.declared.place.Place.{Place}
use Rattle.values_core.specs.Data.{Val}
use Rattle.names_terms.specs.declared.level.Level.{Level}
use Rattle.names_terms.specs.declared.operator.Operator.{Operator}
use Rattle.names_terms.specs.Terms.{Term, Placed, All, Terms, NoTerms, MoreTerms, place_of}
use Rattle.names_terms.specs.Levels.{of_terms}
use Rattle.names_terms.specs.TermViews.{terms_from, terms_of}
use Rattle.names_term_levels.specs.Shape.{Contribution, contribution, Gives, HasShape, init_of}
use Rattle.twice_terms.specs.Alike.{Alike, placed_alike, all_alike, AlikeTerms, no_terms_alike, more_terms_alike}
use Rattle.twice_terms.specs.Laws.{AlikeContributions}
use Rattle.twice_terms.proofs.Zips.{zip_one, zip_none}
use Rattle.twice_terms.proofs.Inverted.{same_place}
use Rattle.twice_terms.proofs.Limited.{same_of_terms}
use Rattle.twice_terms.proofs.Given.{gives, one_given}

only : (a b : Term) → a ∷ [] ≡ b ∷ [] → a ≡ b
only a b q = cc

-- a term has one shape at most
pub one_shape : (ops : List Operator) (e init next first other : Term) → HasShape ops e init next → HasShape ops e first other → (init ≡ first) × (next ≡ other)
one_shape ops e init next first other s t =
    let q : contribution s.inits (next ∷ []) ≡ contribution t.inits (other ∷ []) = one_given ops e (contribution s.inits (next ∷ [])) (contribution t.inits (other ∷ [])) s.gives t.gives in
    let whole : Contribution → Term = λ p. init_of (place_of e) p.inits in
    let taken : Contribution → List Term = λ p. p.steps in
    (s.init_is ∙ ap whole q ∙ sym t.init_is, only next other (ap taken q))

module _ (Same : Val → Val → Type 0) (ops all : List Operator) where
  terms_alike : (ts us : Terms) (xs ys : List Term) → AlikeTerms Same ops all ts us → AllZip (Alike Same ops all) xs ys → AlikeTerms Same ops all (terms_from ts xs) (terms_from us ys)
  terms_alike ts us [] [] t z = t
  terms_alike ts us [] (y ∷ ys) t z = absurd z
  terms_alike ts us (x ∷ xs) [] t z = absurd z
  terms_alike ts us (x ∷ xs) (y ∷ ys) t z = terms_alike (MoreTerms ts x) (MoreTerms us y) xs ys (more_terms_alike ts us x y t z.0) z.1

  conjunction : (at : Place) (ts us : Terms) → AlikeTerms Same ops all ts us → Alike Same ops all (Placed at (of_terms ts) (All ts)) (Placed at (of_terms us) (All us))
  conjunction at ts us t =
      subst (λ (l : Level). Alike Same ops all (Placed at (of_terms ts) (All ts)) (Placed at l (All us))) (same_of_terms Same ops all ts us t)
      (placed_alike at (of_terms ts) (All ts) (All us) (all_alike ts us t))

  several : (at : Place) (xs ys : List Term) → AllZip (Alike Same ops all) xs ys
      → Alike Same ops all (Placed at (of_terms (terms_of xs)) (All (terms_of xs))) (Placed at (of_terms (terms_of ys)) (All (terms_of ys)))
  several at xs ys z = conjunction at (terms_of xs) (terms_of ys) (terms_alike NoTerms NoTerms xs ys no_terms_alike z)

  inits_alike : (at : Place) (xs ys : List Term) → AllZip (Alike Same ops all) xs ys → Alike Same ops all (init_of at xs) (init_of at ys)
  inits_alike at [] [] z = several at [] [] z
  inits_alike at (x ∷ []) (y ∷ []) z = z.0
  inits_alike at (x ∷ v ∷ xs) (y ∷ w ∷ ys) z = several at (x ∷ v ∷ xs) (y ∷ w ∷ ys) z
  inits_alike at [] (y ∷ ys) z = absurd z
  inits_alike at (x ∷ xs) [] z = absurd z
  inits_alike at (x ∷ []) (y ∷ w ∷ ys) z = absurd z.1
  inits_alike at (x ∷ v ∷ xs) (y ∷ []) z = absurd z.1

  abbrev ShapedAlike : Term → Term → Term → Type 0
  ShapedAlike f init next = (first other : Term) × Alike Same ops all init first × Alike Same ops all next other × HasShape all f first other

  pub shaped : (e init next : Term) → HasShape ops e init next → (f : Term) → Alike Same ops all e f → ShapedAlike f init next
  shaped e init next s f a =
      let r : (q : Contribution) × AlikeContributions Same ops all (contribution s.inits (next ∷ [])) q × Gives all f q = gives Same ops all e (contribution s.inits (next ∷ [])) s.gives f a in
      let w : (y : Term) × (r.0.steps ≡ y ∷ []) × Alike Same ops all next y = zip_one (Alike Same ops all) next r.0.steps r.1.steps in
      let at_e : Alike Same ops all (init_of (place_of e) s.inits) (init_of (place_of e) r.0.inits) = inits_alike (place_of e) s.inits r.0.inits r.1.inits in
      let at_f : Alike Same ops all (init_of (place_of e) s.inits) (init_of (place_of f) r.0.inits) =
      subst (λ (p : Place). Alike Same ops all (init_of (place_of e) s.inits) (init_of p r.0.inits)) (same_place Same ops all e f a) at_e in (
        init_of (place_of f) r.0.inits,
        w.0,
        subst (λ (x : Term). Alike Same ops all x (init_of (place_of f) r.0.inits)) (sym s.init_is) at_f,
        w.2,
        record {
          inits = r.0.inits;
          some = λ q. s.some (zip_none (Alike Same ops all) s.inits (subst (λ (ys : List Term). AllZip (Alike Same ops all) s.inits ys) q r.1.inits));
          gives = subst (λ (ys : List Term). Gives all f (contribution r.0.inits ys)) w.1 r.2;
          init_is = refl;
        },
      )

  pub shapes : (e init next f first other : Term) → Alike Same ops all e f → HasShape ops e init next → HasShape all f first other
      → Alike Same ops all init first × Alike Same ops all next other
  shapes e init next f first other a s t =
      let r : ShapedAlike f init next = shaped e init next s f a in
      let q : (r.0 ≡ first) × (r.1 ≡ other) = one_shape all f r.0 r.1 first other r.4 t in
      (subst (λ (x : Term). Alike Same ops all init x) q.0 r.2, subst (λ (x : Term). Alike Same ops all next x) q.1 r.3)
