-- Alike forms open alike, and what opens alike holds alike.
use Rattle.std.proofs.Common.{◌≡◌, ◌∙◌, ap, ap₂, refl, sym, subst, List, [], ◌∷◌, ◌++◌, map, take}
use Rattle.std.specs.Prelude.{ℕ, Bool, true, false, Option, Some, Result, Ok, Err, slice_get, if◌then◌else◌}
use Rattle.std.specs.List.{AllZip}
use Rattle.base_core.specs.declared.place.Place.{Place}
use Rattle.values_core.specs.Data.{Val}
use Rattle.values_core.specs.declared.fault.EvalKind.TheVariants.{NoCase}
use Rattle.states_core.specs.declared.fault.Fault.{Fault}
use Rattle.names_terms.specs.declared.operator.Operator.{Operator}
use Rattle.names_terms.specs.Lists.{bounds_list}
use Rattle.names_terms.specs.Terms.{Term, Placed, Bounds, place_of}
use Rattle.eval_meanings.specs.Binders.{BoundValues}
use Rattle.eval_meanings.specs.Contexts.{Context, Table, Evaluate, Describe, WithDefinition, bind, enter, within}
use Rattle.eval_meanings.specs.Evaluates.{Evaluates}
use Rattle.eval_meanings.specs.Outcomes.{Each, Either, Gives, Then, truth_at}
use Rattle.eval_meanings.specs.Sets.{MeansSet, set_at}
use Rattle.eval_meanings.specs.Unchanged.{TruthOf, changed_of}
use Rattle.eval_laws.proofs.Keeping.{Keeps, keeps_first, keeps_then}
use Rattle.actions_meanings.specs.Forms.{Form, test, assign, choose}
use Rattle.actions_meanings.specs.Holds.{Relation, Opened, all_of, one_of, Chosen, Opens, OpenedHolds}
use Rattle.twice_terms.specs.Alike.{Alike, placed_alike, AlikeBounds, AlikeRows}
use Rattle.twice_terms.specs.Laws.{AreOne}
use Rattle.twice_terms.proofs.Zips.{some_same}
use Rattle.twice_terms.proofs.Inverted.{same_place}
use Rattle.twice_terms.proofs.Opened.{rows_open}
use Rattle.twice_outcomes.specs.Alikes.{AreAlikeLists, AreAlikeBeside, AreAlikeArms}
use Rattle.twice_outcomes.proofs.AlikeLists.{map_zip, bounds_zip}
use Rattle.twice_outcomes.proofs.ActionsZipping.{all_zipped, any_zipped}
use Rattle.twice_outcomes.proofs.Matched.{Matches, matches_after, matches_either, matches_fails, matches_gives, matches_then}
use Rattle.twice_outcomes.proofs.OutcomesZipping.{zips_each}
use Rattle.twice_outcomes.proofs.Spelled.{changed_alike_of}
use Rattle.twice_outcomes.proofs.Forms.{AlikeOther, no_other, with_other, AlikeForms, test_forms, assign_forms, choose_forms, both_forms, either_forms, narrowed_forms, some_forms, branch_forms, arms_forms, inside_forms, call_forms, changing_forms}

-- alike terms have the same outcomes over the two tables
abbrev pub EvaluateAlike : Table → Table → Evaluate → Evaluate → Type 0
EvaluateAlike ops all ev ew = (c : Context) (e f : Term) → Alike AreOne ops all e f → Keeps (ev c e) (ew c f)

abbrev pub DescribeAlike : Table → Table → Describe → Describe → Type 0
DescribeAlike ops all de dw = (c : Context) (e f : Term) → Alike AreOne ops all e f → Keeps (de c e) (dw c f)

-- in one context, terms that are alike
pub record AlikeInside (ops all : Table) (p q : Context × Term) : Type 0 where
  pub contexts : p.0 ≡ q.0
  pub terms : Alike AreOne ops all p.1 q.1

pub data AlikeOpened (ops all : Table) : Opened → Opened → Type 0 where
  all_opened : (xs ys : List (Context × Term)) → AllZip (AlikeInside ops all) xs ys → AlikeOpened ops all (all_of xs) (all_of ys)
  one_opened : (xs ys : List (Context × Term)) → AllZip (AlikeInside ops all) xs ys → AlikeOpened ops all (one_of xs) (one_of ys)

module _ (ops all : Table) where
  inside_of : (c : Context) (e f : Term) → Alike AreOne ops all e f → AlikeInside ops all (c, e) (c, f)
  inside_of c e f a = record { contexts = refl; terms = a }

  -- the same context beside each
  in_context : (c : Context) (es fs : List Term) → AreAlikeLists ops all es fs → AllZip (AlikeInside ops all) (map (λ e. (c, e)) es) (map (λ e. (c, e)) fs)
  in_context c es fs z = map_zip (Alike AreOne ops all) (AlikeInside ops all) (λ e. (c, e)) (λ e. (c, e)) (inside_of c) es fs z

  alone : (c : Context) (e f : Term) → Alike AreOne ops all e f → AlikeOpened ops all (one_of ((c, e) ∷ [])) (one_of ((c, f) ∷ []))
  alone c e f a = one_opened ((c, e) ∷ []) ((c, f) ∷ []) (inside_of c e f a, tt)

  -- one term for each of the values that are chosen
  for_each : (c : Context) (e f : Term) → Alike AreOne ops all e f → (chosen : List (List Val))
      → AllZip (AlikeInside ops all) (map (λ vs. (bind c vs, e)) chosen) (map (λ vs. (bind c vs, f)) chosen)
  for_each c e f a [] = tt
  for_each c e f a (vs ∷ chosen) = (inside_of (bind c vs) e f a, for_each c e f a chosen)

  module _ (part whole : Relation) (step : (c : Context) (e f : Term) → Alike AreOne ops all e f → part c e → whole c f) where
    pub inside_holds : (p q : Context × Term) → AlikeInside ops all p q → part p.0 p.1 → whole q.0 q.1
    inside_holds p q a h = subst (λ (c : Context). whole c q.1) a.contexts (step p.0 p.1 q.1 a.terms h)

    pub opened_holds : (o q : Opened) → AlikeOpened ops all o q → OpenedHolds part o → OpenedHolds whole q
    opened_holds _ _ (all_opened xs ys z) h = all_zipped (AlikeInside ops all) (λ p. part p.0 p.1) (λ q. whole q.0 q.1) inside_holds xs ys z h
    opened_holds _ _ (one_opened xs ys z) h = any_zipped (AlikeInside ops all) (λ p. part p.0 p.1) (λ q. whole q.0 q.1) inside_holds xs ys z h

  pub set_alike : (de dw : Describe) → DescribeAlike ops all de dw → (c : Context) (e f : Term) → Alike AreOne ops all e f → Keeps (MeansSet de c e) (MeansSet dw c f)
  set_alike de dw keeps c _ _ (placed_alike at l m n h) =
      keeps_first (de c (Placed at l m)) (dw c (Placed at l n)) (set_at at) (keeps c (Placed at l m) (Placed at l n) (placed_alike at l m n h))

module _ (ops all : Table) (ev ew : Evaluate) (keeps : EvaluateAlike ops all ev ew) where
  pub truth_alike : (c : Context) (e f : Term) → Alike AreOne ops all e f → Keeps (TruthOf ev c e) (TruthOf ew c f)
  truth_alike c _ _ (placed_alike at l m n h) =
      keeps_first (ev c (Placed at l m)) (ew c (Placed at l n)) (truth_at at) (keeps c (Placed at l m) (Placed at l n) (placed_alike at l m n h))

  arguments_alike : (c : Context) (es fs : List Term) → AreAlikeLists ops all es fs → Keeps (Each (ev c) es) (Each (ew c) fs)
  arguments_alike c es fs z = zips_each (Alike AreOne ops all) (ev c) (ew c) (keeps c) es fs z

  -- the set of a bound, beside how many names it binds
  bound_alike : (c : Context) (b d : ℕ × Term) → AreAlikeBeside ops all b d
      → Keeps {A = (ℕ × Place) × Val} (Then (ev c b.1) (λ v. Gives ((b.0, place_of b.1), v))) (Then (ew c d.1) (λ v. Gives ((d.0, place_of d.1), v)))
  bound_alike c b d a =
      keeps_then (ev c b.1) (ew c d.1) _ _ (keeps c b.1 d.1 a.1)
      (λ v r e. e ∙ ap₂ (λ (n : ℕ) (at : Place). let x : Result ((ℕ × Place) × Val) Fault = Ok ((n, at), v) in x) a.0 (same_place AreOne ops all b.1 d.1 a.1))

  bounds_alike : (c : Context) (bs cs : Bounds) → AlikeBounds AreOne ops all bs cs → Keeps (BoundValues ev c bs) (BoundValues ew c cs)
  bounds_alike c bs cs t =
      keeps_first _ _ _
      (zips_each (AreAlikeBeside ops all) (λ b. Then (ev c b.1) (λ v. Gives ((b.0, place_of b.1), v))) (λ b. Then (ew c b.1) (λ v. Gives ((b.0, place_of b.1), v)))
      (bound_alike c) (bounds_list bs) (bounds_list cs) (bounds_zip ops all bs cs t))

  chosen_alike : (c : Context) (at : Place) (ps qs : List (Term × Term)) (e f : Option Term) → AllZip (AreAlikeArms ops all) ps qs → AlikeOther ops all e f
      → Matches (Alike AreOne ops all) (Chosen (TruthOf ev c) at ps e) (Chosen (TruthOf ew c) at qs f)
  chosen_alike c at [] [] _ _ z no_other = matches_fails (Alike AreOne ops all) NoCase at
  chosen_alike c at [] [] _ _ z (with_other e f a) = matches_gives (Alike AreOne ops all) e f a
  chosen_alike c at [] (q ∷ qs) e f z o = absurd z
  chosen_alike c at (p ∷ ps) [] e f z o = absurd z
  chosen_alike c at (p ∷ ps) (q ∷ qs) e f z o =
      matches_after (Alike AreOne ops all) (TruthOf ev c p.0) (TruthOf ew c q.0) (λ b. Either b (Gives p.1) (Chosen (TruthOf ev c) at ps e)) (λ b. Either b (Gives q.1) (Chosen (TruthOf ew c) at qs f))
      (truth_alike c p.0 q.0 z.0.0)
      (λ b. matches_either (Alike AreOne ops all) b (Gives p.1) (Chosen (TruthOf ev c) at ps e) (Gives q.1) (Chosen (TruthOf ew c) at qs f)
      (matches_gives (Alike AreOne ops all) p.1 q.1 z.0.1) (chosen_alike c at ps qs e f z.1 o))

module _ (ops all : Table) where
  one_of_two : (b : Bool) (e f s t : Term) → Alike AreOne ops all e f → Alike AreOne ops all s t → Alike AreOne ops all (if b then e else s) (if b then f else t)
  one_of_two true e f s t a d = a
  one_of_two false e f s t a d = d

  -- the body of a definition in its slots
  abbrev body_in : Context → List Val → Operator → Opened
  body_in c vs o = one_of ((enter o vs c, o.body) ∷ [])

  bodies_alike : (c : Context) (vs : List Val) (o p : Operator) → o.outer ≡ p.outer → Alike AreOne ops all o.body p.body → AlikeOpened ops all (body_in c vs o) (body_in c vs p)
  bodies_alike c vs o p q a =
      let same : enter o vs c ≡ enter p vs c = ap (λ (n : ℕ). let d : Context = record { slots = take n c.slots ++ vs; now = c.now; next = c.next } in d) q in
      let first : AlikeInside ops all (enter o vs c, o.body) (enter p vs c, p.body) = record { contexts = same; terms = a } in
      one_opened ((enter o vs c, o.body) ∷ []) ((enter p vs c, p.body) ∷ []) (first, tt)

  entered_value : (k : ℕ) (c : Context) (vs : List Val) (o p : Operator) → slice_get ops k ≡ Some o → o.outer ≡ p.outer → Alike AreOne ops all o.body p.body
      → (x : Opened) → WithDefinition ops k (λ u. Gives (body_in c vs u)) (Ok x) → AlikeOpened ops all x (body_in c vs p)
  entered_value k c vs o p is q a x (u, there, e) =
      let same : o ≡ u = some_same (sym is ∙ there) in
      let whole : body_in c vs o ≡ x = ap (body_in c vs) same ∙ (cc) in
      subst (λ (y : Opened). AlikeOpened ops all y (body_in c vs p)) whole (bodies_alike c vs o p q a)

  entered_fault : (k : ℕ) (c : Context) (vs : List Val) (f : Fault) → WithDefinition ops k (λ u. Gives (body_in c vs u)) (Err f) → ⊥
  entered_fault k c vs f (u, there, e) = cc

  entered : (k j : ℕ) (c : Context) (vs : List Val) → AlikeRows AreOne ops all k j
      → Matches (AlikeOpened ops all) (WithDefinition ops k (λ u. Gives (body_in c vs u))) (WithDefinition all j (λ u. Gives (body_in c vs u)))
  entered k j c vs row =
      let r = rows_open AreOne ops all k j row in
      record {
        value = λ x w. (body_in c vs r.right, entered_value k c vs r.left r.right r.here r.same.outer r.same.body x w, (r.right, r.there, refl));
        fault = λ f w. absurd (entered_fault k c vs f w);
      }

-- what alike forms open to
module _ (ops all : Table) (d : ℕ) (keeps : EvaluateAlike ops all (Evaluates ops d) (Evaluates all d)) where
  nothing : (c : Context) (at : Place) (F G : Form) → ((r : Result Opened Fault) → Opens ops d c at F r → ⊥) → Matches (AlikeOpened ops all) (Opens ops d c at F) (Opens all d c at G)
  nothing c at F G h = record { value = λ x o. absurd (h (Ok x) o); fault = λ f o. absurd (h (Err f) o) }

  pub opens_alike : (c : Context) (at : Place) (F G : Form) → AlikeForms ops all F G → Matches (AlikeOpened ops all) (Opens ops d c at F) (Opens all d c at G)
  opens_alike c at _ _ test_forms = nothing c at test test (λ r o. o)
  opens_alike c at _ _ (assign_forms x e f a) = nothing c at (assign x e) (assign x f) (λ r o. o)
  opens_alike c at _ _ (choose_forms x e f a) = nothing c at (choose x e) (choose x f) (λ r o. o)
  opens_alike c at _ _ (both_forms es fs z) =
      matches_gives (AlikeOpened ops all) (all_of (map (λ e. (c, e)) es)) (all_of (map (λ e. (c, e)) fs))
      (all_opened (map (λ e. (c, e)) es) (map (λ e. (c, e)) fs) (in_context ops all c es fs z))
  opens_alike c at _ _ (either_forms es fs z) =
      matches_gives (AlikeOpened ops all) (one_of (map (λ e. (c, e)) es)) (one_of (map (λ e. (c, e)) fs))
      (one_opened (map (λ e. (c, e)) es) (map (λ e. (c, e)) fs) (in_context ops all c es fs z))
  opens_alike c at _ _ (narrowed_forms n es fs z) =
      matches_gives (AlikeOpened ops all) (all_of (map (λ e. (within n c, e)) es)) (all_of (map (λ e. (within n c, e)) fs))
      (all_opened (map (λ e. (within n c, e)) es) (map (λ e. (within n c, e)) fs) (in_context ops all (within n c) es fs z))
  opens_alike c at _ _ (some_forms bs cs e f t a) =
      matches_after (AlikeOpened ops all) (BoundValues (Evaluates ops d) c bs) (BoundValues (Evaluates all d) c cs)
      (λ chosen. Gives (one_of (map (λ vs. (bind c vs, e)) chosen))) (λ chosen. Gives (one_of (map (λ vs. (bind c vs, f)) chosen)))
      (bounds_alike ops all (Evaluates ops d) (Evaluates all d) keeps c bs cs t)
      (λ chosen. matches_gives (AlikeOpened ops all) (one_of (map (λ vs. (bind c vs, e)) chosen)) (one_of (map (λ vs. (bind c vs, f)) chosen))
      (one_opened (map (λ vs. (bind c vs, e)) chosen) (map (λ vs. (bind c vs, f)) chosen) (for_each ops all c e f a chosen)))
  opens_alike c at _ _ (branch_forms p q a b e f s t u) =
      matches_after (AlikeOpened ops all) (TruthOf (Evaluates ops d) c p) (TruthOf (Evaluates all d) c q)
      (λ x. Gives (one_of ((c, if x then a else e) ∷ []))) (λ x. Gives (one_of ((c, if x then b else f) ∷ [])))
      (truth_alike ops all (Evaluates ops d) (Evaluates all d) keeps c p q s)
      (λ x. matches_gives (AlikeOpened ops all) (one_of ((c, if x then a else e) ∷ [])) (one_of ((c, if x then b else f) ∷ []))
      (alone ops all c (if x then a else e) (if x then b else f) (one_of_two ops all x a b e f t u)))
  opens_alike c at _ _ (arms_forms ps qs e f z o) =
      matches_then (Alike AreOne ops all) (AlikeOpened ops all) (Chosen (TruthOf (Evaluates ops d) c) at ps e) (Chosen (TruthOf (Evaluates all d) c) at qs f)
      (λ x. Gives (one_of ((c, x) ∷ []))) (λ x. Gives (one_of ((c, x) ∷ [])))
      (chosen_alike ops all (Evaluates ops d) (Evaluates all d) keeps c at ps qs e f z o)
      (λ x y a. matches_gives (AlikeOpened ops all) (one_of ((c, x) ∷ [])) (one_of ((c, y) ∷ [])) (alone ops all c x y a))
  opens_alike c at _ _ (inside_forms e f a) = matches_gives (AlikeOpened ops all) (one_of ((c, e) ∷ [])) (one_of ((c, f) ∷ [])) (alone ops all c e f a)
  opens_alike c at _ _ (call_forms k j es fs r z) =
      matches_after (AlikeOpened ops all) (Each (Evaluates ops d c) es) (Each (Evaluates all d c) fs)
      (λ vs. WithDefinition ops k (λ u. Gives (one_of ((enter u vs c, u.body) ∷ [])))) (λ vs. WithDefinition all j (λ u. Gives (one_of ((enter u vs c, u.body) ∷ []))))
      (arguments_alike ops all (Evaluates ops d) (Evaluates all d) keeps c es fs z) (λ vs. entered ops all k j c vs r)
  opens_alike c at _ _ (changing_forms e f v w a b) =
      matches_gives (AlikeOpened ops all) (all_of ((c, e) ∷ (c, changed_of at v) ∷ [])) (all_of ((c, f) ∷ (c, changed_of at w) ∷ []))
      (all_opened ((c, e) ∷ (c, changed_of at v) ∷ []) ((c, f) ∷ (c, changed_of at w) ∷ [])
      (inside_of ops all c e f a, (inside_of ops all c (changed_of at v) (changed_of at w) (changed_alike_of ops all at v w b), tt)))
