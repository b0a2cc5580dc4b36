-- What trees in order mean has as many parts as each row asks for.
use Rattle.std.proofs.Common.{◌≡◌, sym, ap, refl, subst, List, [], ◌∷◌, ◌++◌, length, ◌<◌, arith}
use Rattle.std.specs.Prelude.{◌≢◌, ℕ, suc, All, AllPairs}
use Rattle.std.proofs.lemmas.List.Elements.{All-nil, All-push}
use Rattle.std.proofs.lemmas.List.Quantifiers.{all_pairs_push}
use Rattle.base_core.specs.declared.place.Place.{Place}
use Rattle.reading_trees.specs.declared.operators.InfixOperator.{InfixOperator}
use Rattle.reading_trees.specs.Grammar.{IsKey as IsTreeKey, IsNew, IsPath, AreOnce}
use Rattle.reading_trees.specs.Trees as tree
use Rattle.names_terms.specs.declared.operator.Operator.{Operator}
use Rattle.names_terms.specs.Terms as term
use Rattle.names_terms.specs.Terms.{Term, Terms, count}
use Rattle.names_terms.specs.Lists.{fields_list, bounds_list}
use Rattle.names_scopes.specs.declared.scope.Local.{Local}
use Rattle.names_scopes.specs.declared.meant.Entry.{Entry}
use Rattle.names_meanings.specs.Complaints.{number_of}
use Rattle.names_meanings.specs.Means.{MeansEach, MeansOperands, MeansStep, MeansSteps, MeansBounds, MeansFields, MeansChanges, MeansArms}
use Rattle.names_specification_laws.specs.Formed.{ChainIsFormed, StepIsFormed, StepsAreFormed, BoundsAreFormed, ChangesAreFormed}
use Rattle.names_specification_laws.specs.IsSpec.{AreOperands, IsKey, AreKeys, AreBounds, IsStep, AreSteps, ArePaths, AreFields}

pushed_some : {A : Type 0} (xs : List A) (x : A) → xs ++ x ∷ [] ≢ []
pushed_some [] x = λ e. cc
pushed_some (y ∷ xs) x = λ e. cc

some_names : (ns : List (List ℕ)) → ns ≢ [] → 0 < length ns
some_names [] h = absurd (h refl)
some_names (n ∷ ns) h = omega arith

module _ (names : List Entry) (ops : List Operator) where
  pub as_many : (sc : List Local) (es : tree.Trees) (ts : Terms) → MeansEach names ops sc es ts → count ts ≡ number_of es
  as_many sc tree.NoTrees ts h = ap count h
  as_many sc (tree.MoreTrees es e) ts h = let r : count ts ≡ suc (count h.0) = ap count h.2 in let q : count h.0 ≡ number_of es = as_many sc es h.0 h.3 in omega (arith, r, q)

  pub some_terms : (sc : List Local) (es : tree.Trees) (ts : Terms) → es ≢ tree.NoTrees → MeansEach names ops sc es ts → 0 < count ts
  some_terms sc tree.NoTrees ts n h = absurd (n refl)
  some_terms sc (tree.MoreTrees es e) ts n h = let r : count ts ≡ suc (count h.0) = ap count h.2 in omega (arith, r)

  pub is_step : (sc : List Local) (s : tree.Step) (x : term.Step) → StepIsFormed s → MeansStep names ops sc s x → IsStep x
  is_step sc tree.Prime x f h = subst IsStep (sym h) tt
  is_step sc (tree.Index es) x f h = subst IsStep (sym h.1) (some_terms sc es h.0 f.0 h.2)
  is_step sc (tree.Field k) x f h = subst IsStep (sym h) tt

  pub are_steps : (sc : List Local) (ss : tree.Steps) (xs : term.Steps) → StepsAreFormed ss → MeansSteps names ops sc ss xs → AreSteps xs
  are_steps sc tree.NoSteps xs f h = subst AreSteps (sym h) tt
  are_steps sc (tree.MoreSteps ss at s) xs f h = subst AreSteps (sym h.2) (are_steps sc ss h.0 f.0 h.3, is_step sc s h.1 f.1 h.4)

  all_bind : (sc : List Local) (bs : tree.Bounds) (ys : term.Bounds) → BoundsAreFormed bs → MeansBounds names ops sc bs ys → All (λ b. 0 < b.0) (bounds_list ys)
  all_bind sc tree.NoBounds ys f h = let P : ℕ × Term → Type 0 = λ b. 0 < b.0 in subst (λ (z : term.Bounds). All P (bounds_list z)) (sym h) (All-nil P)
  all_bind sc (tree.MoreBounds bs ns e) ys f h =
      let P : ℕ × Term → Type 0 = λ b. 0 < b.0 in
      subst (λ (z : term.Bounds). All P (bounds_list z)) (sym h.2) (All-push P (bounds_list h.0) (length ns, h.1) (all_bind sc bs h.0 f.0 h.3) (some_names ns f.1))

  pub are_bounds : (sc : List Local) (bs : tree.Bounds) (ys : term.Bounds) → bs ≢ tree.NoBounds → BoundsAreFormed bs → MeansBounds names ops sc bs ys → AreBounds ys
  are_bounds sc tree.NoBounds ys n f h = absurd (n refl)
  are_bounds sc (tree.MoreBounds bs ns e) ys n f h =
      (subst (λ (z : term.Bounds). bounds_list z ≢ []) (sym h.2) (pushed_some (bounds_list h.0) (length ns, h.1)), all_bind sc (tree.MoreBounds bs ns e) ys f h)

  abbrev Differs : List ℕ × Term → List ℕ × Term → Type 0
  Differs f g = f.0 ≢ g.0

  new_among : (n : List ℕ) (x : Term) (sc : List Local) (fs : tree.Fields) (ys : term.Fields) → IsNew n fs → MeansFields names ops sc fs ys → All (λ f. Differs f (n, x)) (fields_list ys)
  new_among n x sc tree.NoFields ys w h = let P : List ℕ × Term → Type 0 = λ f. Differs f (n, x) in subst (λ (z : term.Fields). All P (fields_list z)) (sym h) (All-nil P)
  new_among n x sc (tree.MoreFields fs m e) ys w h =
      let P : List ℕ × Term → Type 0 = λ f. Differs f (n, x) in
      subst (λ (z : term.Fields). All P (fields_list z)) (sym h.2) (All-push P (fields_list h.0) (m, h.1) (new_among n x sc fs h.0 w.0 h.3) (λ e. w.1 (sym e)))

  all_differ : (sc : List Local) (fs : tree.Fields) (ys : term.Fields) → AreOnce fs → MeansFields names ops sc fs ys → AllPairs Differs (fields_list ys)
  all_differ sc tree.NoFields ys w h = subst (λ (z : term.Fields). AllPairs Differs (fields_list z)) (sym h) (λ i j d lt within. absurd (omega (arith, within)))
  all_differ sc (tree.MoreFields fs m e) ys w h =
      subst (λ (z : term.Fields). AllPairs Differs (fields_list z)) (sym h.2) (all_pairs_push Differs (fields_list h.0) (m, h.1) (all_differ sc fs h.0 w.0 h.3) (new_among m h.1 sc fs h.0 w.1 h.3))

  pub are_fields : (sc : List Local) (fs : tree.Fields) (ys : term.Fields) → fs ≢ tree.NoFields → AreOnce fs → MeansFields names ops sc fs ys → AreFields ys
  are_fields sc tree.NoFields ys n w h = absurd (n refl)
  are_fields sc (tree.MoreFields fs m e) ys n w h =
      (subst (λ (z : term.Fields). fields_list z ≢ []) (sym h.2) (pushed_some (fields_list h.0) (m, h.1)), all_differ sc (tree.MoreFields fs m e) ys w h)

  more_steps : (xs : term.Steps) (ss : term.Steps) (at : Place) (s : term.Step) → xs ≡ term.MoreSteps ss at s → xs ≢ term.NoSteps
  more_steps xs ss at s e = λ q. cc

  some_path : (sc : List Local) (ss : tree.Steps) (xs : term.Steps) → IsPath ss → MeansSteps names ops sc ss xs → xs ≢ term.NoSteps
  some_path sc tree.NoSteps xs p h = absurd p
  some_path sc (tree.MoreSteps ss at s) xs p h = more_steps xs h.0 at h.1 h.2

  is_key : (sc : List Local) (s : tree.Step) (x : term.Step) → IsTreeKey s → MeansStep names ops sc s x → IsKey x
  is_key sc tree.Prime x k h = absurd k
  is_key sc (tree.Index es) x k h = subst IsKey (sym h.1) tt
  is_key sc (tree.Field n) x k h = subst IsKey (sym h) tt

  are_keys : (sc : List Local) (ss : tree.Steps) (xs : term.Steps) → IsPath ss → MeansSteps names ops sc ss xs → AreKeys xs
  are_keys sc tree.NoSteps xs p h = absurd p
  are_keys sc (tree.MoreSteps tree.NoSteps at s) xs p h = subst AreKeys (sym h.2) (subst AreKeys (sym h.3) tt, is_key sc s h.1 p h.4)
  are_keys sc (tree.MoreSteps (tree.MoreSteps ss q r) at s) xs p h = subst AreKeys (sym h.2) (are_keys sc (tree.MoreSteps ss q r) h.0 p.0 h.3, is_key sc s h.1 p.1 h.4)

  pub are_operands : (sc : List Local) (o : InfixOperator) (es : tree.Operands) (xs : term.Operands) → ChainIsFormed o es → MeansOperands names ops sc es xs → AreOperands o xs
  are_operands sc o (tree.First e) xs f h = subst (AreOperands o) (sym h.1) tt
  are_operands sc o (tree.Next es at e) xs f h = subst (AreOperands o) (sym h.2) (are_operands sc o es h.0 f.0 h.3, f.2)

  pub are_paths : (sc : List Local) (cs : tree.Changes) (ys : term.Changes) → ChangesAreFormed cs → MeansChanges names ops sc cs ys → ArePaths ys
  are_paths sc tree.NoChanges ys f h = subst ArePaths (sym h) tt
  are_paths sc (tree.MoreChanges cs path e) ys f h =
      subst ArePaths (sym h.3) (are_paths sc cs h.0 f.0 h.4, some_path sc path h.1 f.1 h.5, are_steps sc path h.1 f.2 h.5, are_keys sc path h.1 f.1 h.5)

  more_changes : (xs cs : term.Changes) (p : term.Steps) (x : Term) → xs ≡ term.MoreChanges cs p x → xs ≢ term.NoChanges
  more_changes xs cs p x e = λ q. cc

  pub some_changes : (sc : List Local) (cs : tree.Changes) (ys : term.Changes) → cs ≢ tree.NoChanges → MeansChanges names ops sc cs ys → ys ≢ term.NoChanges
  some_changes sc tree.NoChanges ys n h = absurd (n refl)
  some_changes sc (tree.MoreChanges cs path e) ys n h = more_changes ys h.0 h.1 h.2 h.3

  more_arms : (xs arms : term.Arms) (p x : Term) → xs ≡ term.MoreArms arms p x → xs ≢ term.NoArms
  more_arms xs arms p x e = λ q. cc

  pub some_arms : (sc : List Local) (arms : tree.Arms) (ys : term.Arms) → arms ≢ tree.NoArms → MeansArms names ops sc arms ys → ys ≢ term.NoArms
  some_arms sc tree.NoArms ys n h = absurd (n refl)
  some_arms sc (tree.MoreArms arms p e) ys n h = more_arms ys h.0 h.1 h.2 h.3
