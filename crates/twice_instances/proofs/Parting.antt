-- Alike forms open alike, and what opens alike holds alike.
-- alike terms have the same outcomes over the two tables
use Rattle.std.proofs.Common.{◌≡◌, ◌∙◌, ap, ap₂, refl, sym, subst, List, [], ◌∷◌, ◌++◌, map, take}
use Rattle.std.specs.Prelude.{ℕ, Bool, true, false, Option, Some, Result, Ok, Err, slice_get, if◌then◌else◌}
use Rattle.std.specs.List.{AllZip}
use Rattle.base_core.specs.declared.place.Place.{Place}
use Rattle.values_core.specs.Data.{Val}
use Rattle.values_core.specs.declared.fault.EvalKind.TheVariants.{NoCase}
use Rattle.states_core.specs.declared.fault.Fault.{Fault}
use Rattle.names_terms.specs.declared.operator.Operator.{Operator}
use Rattle.names_terms.specs.Lists.{bounds_list}
use Rattle.names_terms.specs.Terms.{Term, Placed, Bounds, place_of}
use Rattle.eval_meanings.specs.Binders.{BoundValues}
use Rattle.eval_meanings.specs.Contexts.{Context, Table, Evaluate, Describe, WithDefinition, bind, enter, within}
use Rattle.eval_meanings.specs.Evaluates.{Evaluates}
use Rattle.eval_meanings.specs.Outcomes.{Each, Either, Gives, Then, truth_at}
use Rattle.eval_meanings.specs.Sets.{MeansSet, set_at}
use Rattle.eval_meanings.specs.Unchanged.{TruthOf, changed_of}
use Rattle.eval_laws.proofs.Keeping.{Keeps, keeps_first, keeps_then}
use Rattle.actions_meanings.specs.Forms.{Form, test, assign, choose}
use Rattle.actions_meanings.specs.Holds.{Relation, Opened, all_of, one_of, Chosen, Opens, OpenedHolds}
use Rattle.twice_terms.specs.Alike.{placed_alike}
use Rattle.twice_terms.proofs.Zips.{some_same}
use Rattle.eval_meanings.specs.Contexts.{Places}
use Rattle.twice_instances.specs.Seen.{seen_in}
use Rattle.std.proofs.Common.{sym}
use Rattle.twice_instances.specs.Alikeness.{Like, LikeBounds, LikeRows}
use Rattle.twice_instances.proofs.Forms.{LikeForms, LikeOther, arms_forms, assign_forms, both_forms, branch_forms, call_forms, changing_forms, choose_forms, either_forms, inside_forms, narrowed_forms, no_other, some_forms, test_forms, with_other}
use Rattle.twice_instances.proofs.Inverted.{same_place}
use Rattle.twice_instances.proofs.Lists.{LikeBeside, LikeLists, LikeTwo, bounds_zip, map_zip}
use Rattle.twice_instances.proofs.Matched.{Matches, matches_after, matches_either, matches_fails, matches_gives, matches_then}
use Rattle.twice_instances.proofs.Opened.{rows_open}
use Rattle.twice_instances.proofs.Spelled.{changed_alike_of}
use Rattle.twice_instances.proofs.ZippedLists.{all_zipped, any_zipped}
use Rattle.twice_instances.proofs.Zipping.{zips_each}

abbrev pub EvaluateAlike : (ℕ → ℕ → Type 0) → (Places → Places) → (Places → Places) → Table → Table → Evaluate → Evaluate → Type 0
EvaluateAlike Stands see look ops all ev ew = (c : Context) (e f : Term) → Like Stands ops all e f → Keeps (ev (seen_in see c) e) (ew (seen_in look c) f)

abbrev pub DescribeAlike : (ℕ → ℕ → Type 0) → (Places → Places) → (Places → Places) → Table → Table → Describe → Describe → Type 0
DescribeAlike Stands see look ops all de dw = (c : Context) (e f : Term) → Like Stands ops all e f → Keeps (de (seen_in see c) e) (dw (seen_in look c) f)

-- in one context as each sees it, terms that are alike
pub record LikeInside (Stands : ℕ → ℕ → Type 0) (see look : Places → Places) (ops all : Table) (p q : Context × Term) : Type 0 where
  pub context : Context
  pub left : p.0 ≡ seen_in see context
  pub right : q.0 ≡ seen_in look context
  pub terms : Like Stands ops all p.1 q.1

pub data LikeOpened (Stands : ℕ → ℕ → Type 0) (see look : Places → Places) (ops all : Table) : Opened → Opened → Type 0 where
  all_opened : (xs ys : List (Context × Term)) → AllZip (LikeInside Stands see look ops all) xs ys → LikeOpened Stands see look ops all (all_of xs) (all_of ys)
  one_opened : (xs ys : List (Context × Term)) → AllZip (LikeInside Stands see look ops all) xs ys → LikeOpened Stands see look ops all (one_of xs) (one_of ys)

module _ (Stands : ℕ → ℕ → Type 0) (see look : Places → Places) (ops all : Table) where
  abbrev rho : Context → Context
  rho c = seen_in see c

  abbrev tau : Context → Context
  tau c = seen_in look c

  abbrev InsideAlike : Context × Term → Context × Term → Type 0
  InsideAlike = LikeInside Stands see look ops all

  abbrev OpenedAlike : Opened → Opened → Type 0
  OpenedAlike = LikeOpened Stands see look ops all

  inside_of : (c : Context) (e f : Term) → Like Stands ops all e f → InsideAlike (rho c, e) (tau c, f)
  inside_of c e f a = record { context = c; left = refl; right = refl; terms = a }

  -- the same context beside each
  in_context : (c : Context) (es fs : List Term) → LikeLists Stands ops all es fs → AllZip InsideAlike (map (λ e. (rho c, e)) es) (map (λ e. (tau c, e)) fs)
  in_context c es fs z = map_zip (Like Stands ops all) InsideAlike (λ e. (rho c, e)) (λ e. (tau c, e)) (inside_of c) es fs z

  alone : (c : Context) (e f : Term) → Like Stands ops all e f → OpenedAlike (one_of ((rho c, e) ∷ [])) (one_of ((tau c, f) ∷ []))
  alone c e f a = one_opened ((rho c, e) ∷ []) ((tau c, f) ∷ []) (inside_of c e f a, tt)

  -- one term for each of the values that are chosen
  for_each : (c : Context) (e f : Term) → Like Stands ops all e f → (chosen : List (List Val))
      → AllZip InsideAlike (map (λ vs. (bind (rho c) vs, e)) chosen) (map (λ vs. (bind (tau c) vs, f)) chosen)
  for_each c e f a [] = tt
  for_each c e f a (vs ∷ chosen) = (inside_of (bind c vs) e f a, for_each c e f a chosen)

  module _ (part whole : Relation) (step : (c : Context) (e f : Term) → Like Stands ops all e f → part (rho c) e → whole (tau c) f) where
    inside_holds : (p q : Context × Term) → InsideAlike p q → part p.0 p.1 → whole q.0 q.1
    inside_holds p q a h =
        subst (λ (c : Context). whole c q.1) (sym a.right) (step a.context p.1 q.1 a.terms (subst (λ (c : Context). part c p.1) a.left h))

    pub opened_holds : (o q : Opened) → OpenedAlike o q → OpenedHolds part o → OpenedHolds whole q
    opened_holds _ _ (all_opened xs ys z) h = all_zipped InsideAlike (λ p. part p.0 p.1) (λ q. whole q.0 q.1) inside_holds xs ys z h
    opened_holds _ _ (one_opened xs ys z) h = any_zipped InsideAlike (λ p. part p.0 p.1) (λ q. whole q.0 q.1) inside_holds xs ys z h

  pub set_alike : (de dw : Describe) → DescribeAlike Stands see look ops all de dw → (c : Context) (e f : Term) → Like Stands ops all e f → Keeps (MeansSet de (rho c) e) (MeansSet dw (tau c) f)
  set_alike de dw keeps c _ _ (placed_alike at l m n h) =
      keeps_first (de (rho c) (Placed at l m)) (dw (tau c) (Placed at l n)) (set_at at) (keeps c (Placed at l m) (Placed at l n) (placed_alike at l m n h))

  module _ (ev ew : Evaluate) (keeps : EvaluateAlike Stands see look ops all ev ew) where
    pub truth_alike : (c : Context) (e f : Term) → Like Stands ops all e f → Keeps (TruthOf ev (rho c) e) (TruthOf ew (tau c) f)
    truth_alike c _ _ (placed_alike at l m n h) =
        keeps_first (ev (rho c) (Placed at l m)) (ew (tau c) (Placed at l n)) (truth_at at) (keeps c (Placed at l m) (Placed at l n) (placed_alike at l m n h))

    arguments_alike : (c : Context) (es fs : List Term) → LikeLists Stands ops all es fs → Keeps (Each (ev (rho c)) es) (Each (ew (tau c)) fs)
    arguments_alike c es fs z = zips_each (Like Stands ops all) (ev (rho c)) (ew (tau c)) (keeps c) es fs z

    -- the set of a bound, beside how many names it binds
    bound_alike : (c : Context) (b d : ℕ × Term) → LikeBeside Stands ops all b d
        → Keeps {A = (ℕ × Place) × Val} (Then (ev (rho c) b.1) (λ v. Gives ((b.0, place_of b.1), v))) (Then (ew (tau c) d.1) (λ v. Gives ((d.0, place_of d.1), v)))
    bound_alike c b d a =
        keeps_then (ev (rho c) b.1) (ew (tau c) d.1) _ _ (keeps c b.1 d.1 a.1)
        (λ v r e. e ∙ ap₂ (λ (n : ℕ) (at : Place). let x : Result ((ℕ × Place) × Val) Fault = Ok ((n, at), v) in x) a.0 (same_place Stands ops all b.1 d.1 a.1))

    bounds_alike : (c : Context) (bs cs : Bounds) → LikeBounds Stands ops all bs cs → Keeps (BoundValues ev (rho c) bs) (BoundValues ew (tau c) cs)
    bounds_alike c bs cs t =
        keeps_first _ _ _
        (zips_each (LikeBeside Stands ops all) (λ b. Then (ev (rho c) b.1) (λ v. Gives ((b.0, place_of b.1), v))) (λ b. Then (ew (tau c) b.1) (λ v. Gives ((b.0, place_of b.1), v)))
        (bound_alike c) (bounds_list bs) (bounds_list cs) (bounds_zip Stands ops all bs cs t))

    chosen_alike : (c : Context) (at : Place) (ps qs : List (Term × Term)) (e f : Option Term) → AllZip (LikeTwo Stands ops all) ps qs → LikeOther Stands ops all e f
        → Matches (Like Stands ops all) (Chosen (TruthOf ev (rho c)) at ps e) (Chosen (TruthOf ew (tau c)) at qs f)
    chosen_alike c at [] [] _ _ z no_other = matches_fails (Like Stands ops all) NoCase at
    chosen_alike c at [] [] _ _ z (with_other e f a) = matches_gives (Like Stands ops all) e f a
    chosen_alike c at [] (q ∷ qs) e f z o = absurd z
    chosen_alike c at (p ∷ ps) [] e f z o = absurd z
    chosen_alike c at (p ∷ ps) (q ∷ qs) e f z o =
        matches_after (Like Stands ops all) (TruthOf ev (rho c) p.0) (TruthOf ew (tau c) q.0) (λ b. Either b (Gives p.1) (Chosen (TruthOf ev (rho c)) at ps e)) (λ b. Either b (Gives q.1) (Chosen (TruthOf ew (tau c)) at qs f))
        (truth_alike c p.0 q.0 z.0.0)
        (λ b. matches_either (Like Stands ops all) b (Gives p.1) (Chosen (TruthOf ev (rho c)) at ps e) (Gives q.1) (Chosen (TruthOf ew (tau c)) at qs f)
        (matches_gives (Like Stands ops all) p.1 q.1 z.0.1) (chosen_alike c at ps qs e f z.1 o))

  one_of_two : (b : Bool) (e f s t : Term) → Like Stands ops all e f → Like Stands ops all s t → Like Stands ops all (if b then e else s) (if b then f else t)
  one_of_two true e f s t a d = a
  one_of_two false e f s t a d = d

  -- the body of a definition in its slots
  abbrev body_in : Context → List Val → Operator → Opened
  body_in c vs o = one_of ((enter o vs c, o.body) ∷ [])

  bodies_alike : (c : Context) (vs : List Val) (o p : Operator) → o.outer ≡ p.outer → Like Stands ops all o.body p.body → OpenedAlike (body_in (rho c) vs o) (body_in (tau c) vs p)
  bodies_alike c vs o p q a =
      let same : tau (enter o vs c) ≡ enter p vs (tau c) = ap (λ (n : ℕ). let d : Context = record { slots = take n c.slots ++ vs; now = look c.now; next = look c.next } in d) q in
      let first : InsideAlike (enter o vs (rho c), o.body) (enter p vs (tau c), p.body) = record { context = enter o vs c; left = refl; right = sym same; terms = a } in
      one_opened ((enter o vs (rho c), o.body) ∷ []) ((enter p vs (tau c), p.body) ∷ []) (first, tt)

  entered_value : (k : ℕ) (c : Context) (vs : List Val) (o p : Operator) → slice_get ops k ≡ Some o → o.outer ≡ p.outer → Like Stands ops all o.body p.body
      → (x : Opened) → WithDefinition ops k (λ u. Gives (body_in (rho c) vs u)) (Ok x) → OpenedAlike x (body_in (tau c) vs p)
  entered_value k c vs o p is q a x (u, there, e) =
      let same : o ≡ u = some_same (sym is ∙ there) in
      let whole : body_in (rho c) vs o ≡ x = ap (body_in (rho c) vs) same ∙ (cc) in
      subst (λ (y : Opened). OpenedAlike y (body_in (tau c) vs p)) whole (bodies_alike c vs o p q a)

  entered_fault : (k : ℕ) (c : Context) (vs : List Val) (f : Fault) → WithDefinition ops k (λ u. Gives (body_in c vs u)) (Err f) → ⊥
  entered_fault k c vs f (u, there, e) = cc

  entered : (k j : ℕ) (c : Context) (vs : List Val) → LikeRows Stands ops all k j
      → Matches OpenedAlike (WithDefinition ops k (λ u. Gives (body_in (rho c) vs u))) (WithDefinition all j (λ u. Gives (body_in (tau c) vs u)))
  entered k j c vs row =
      let r = rows_open Stands ops all k j row in
      record {
        value = λ x w. (body_in (tau c) vs r.right, entered_value k c vs r.left r.right r.here r.same.outer r.same.body x w, (r.right, r.there, refl));
        fault = λ f w. absurd (entered_fault k (rho c) vs f w);
      }

  -- what alike forms open to
  module _ (d : ℕ) (keeps : EvaluateAlike Stands see look ops all (Evaluates ops d) (Evaluates all d)) where
    nothing : (c : Context) (at : Place) (F G : Form) → ((r : Result Opened Fault) → Opens ops d (rho c) at F r → ⊥) → Matches OpenedAlike (Opens ops d (rho c) at F) (Opens all d (tau c) at G)
    nothing c at F G h = record { value = λ x o. absurd (h (Ok x) o); fault = λ f o. absurd (h (Err f) o) }

    pub opens_alike : (c : Context) (at : Place) (F G : Form) → LikeForms Stands ops all F G → Matches OpenedAlike (Opens ops d (rho c) at F) (Opens all d (tau c) at G)
    opens_alike c at _ _ test_forms = nothing c at test test (λ r o. o)
    opens_alike c at _ _ (assign_forms x y e f v a) = nothing c at (assign x e) (assign y f) (λ r o. o)
    opens_alike c at _ _ (choose_forms x y e f v a) = nothing c at (choose x e) (choose y f) (λ r o. o)
    opens_alike c at _ _ (both_forms es fs z) =
        matches_gives OpenedAlike (all_of (map (λ e. (rho c, e)) es)) (all_of (map (λ e. (tau c, e)) fs))
        (all_opened (map (λ e. (rho c, e)) es) (map (λ e. (tau c, e)) fs) (in_context c es fs z))
    opens_alike c at _ _ (either_forms es fs z) =
        matches_gives OpenedAlike (one_of (map (λ e. (rho c, e)) es)) (one_of (map (λ e. (tau c, e)) fs))
        (one_opened (map (λ e. (rho c, e)) es) (map (λ e. (tau c, e)) fs) (in_context c es fs z))
    opens_alike c at _ _ (narrowed_forms n es fs z) =
        matches_gives OpenedAlike (all_of (map (λ e. (within n (rho c), e)) es)) (all_of (map (λ e. (within n (tau c), e)) fs))
        (all_opened (map (λ e. (within n (rho c), e)) es) (map (λ e. (within n (tau c), e)) fs) (in_context (within n c) es fs z))
    opens_alike c at _ _ (some_forms bs cs e f t a) =
        matches_after OpenedAlike (BoundValues (Evaluates ops d) (rho c) bs) (BoundValues (Evaluates all d) (tau c) cs)
        (λ chosen. Gives (one_of (map (λ vs. (bind (rho c) vs, e)) chosen))) (λ chosen. Gives (one_of (map (λ vs. (bind (tau c) vs, f)) chosen)))
        (bounds_alike (Evaluates ops d) (Evaluates all d) keeps c bs cs t)
        (λ chosen. matches_gives OpenedAlike (one_of (map (λ vs. (bind (rho c) vs, e)) chosen)) (one_of (map (λ vs. (bind (tau c) vs, f)) chosen))
        (one_opened (map (λ vs. (bind (rho c) vs, e)) chosen) (map (λ vs. (bind (tau c) vs, f)) chosen) (for_each c e f a chosen)))
    opens_alike c at _ _ (branch_forms p q a b e f s t u) =
        matches_after OpenedAlike (TruthOf (Evaluates ops d) (rho c) p) (TruthOf (Evaluates all d) (tau c) q)
        (λ x. Gives (one_of ((rho c, if x then a else e) ∷ []))) (λ x. Gives (one_of ((tau c, if x then b else f) ∷ [])))
        (truth_alike (Evaluates ops d) (Evaluates all d) keeps c p q s)
        (λ x. matches_gives OpenedAlike (one_of ((rho c, if x then a else e) ∷ [])) (one_of ((tau c, if x then b else f) ∷ []))
        (alone c (if x then a else e) (if x then b else f) (one_of_two x a b e f t u)))
    opens_alike c at _ _ (arms_forms ps qs e f z o) =
        matches_then (Like Stands ops all) OpenedAlike (Chosen (TruthOf (Evaluates ops d) (rho c)) at ps e) (Chosen (TruthOf (Evaluates all d) (tau c)) at qs f)
        (λ x. Gives (one_of ((rho c, x) ∷ []))) (λ x. Gives (one_of ((tau c, x) ∷ [])))
        (chosen_alike (Evaluates ops d) (Evaluates all d) keeps c at ps qs e f z o)
        (λ x y a. matches_gives OpenedAlike (one_of ((rho c, x) ∷ [])) (one_of ((tau c, y) ∷ [])) (alone c x y a))
    opens_alike c at _ _ (inside_forms e f a) = matches_gives OpenedAlike (one_of ((rho c, e) ∷ [])) (one_of ((tau c, f) ∷ [])) (alone c e f a)
    opens_alike c at _ _ (call_forms k j es fs r z) =
        matches_after OpenedAlike (Each (Evaluates ops d (rho c)) es) (Each (Evaluates all d (tau c)) fs)
        (λ vs. WithDefinition ops k (λ u. Gives (one_of ((enter u vs (rho c), u.body) ∷ [])))) (λ vs. WithDefinition all j (λ u. Gives (one_of ((enter u vs (tau c), u.body) ∷ []))))
        (arguments_alike (Evaluates ops d) (Evaluates all d) keeps c es fs z) (λ vs. entered k j c vs r)
    opens_alike c at _ _ (changing_forms e f v w a b) =
        matches_gives OpenedAlike (all_of ((rho c, e) ∷ (rho c, changed_of at v) ∷ [])) (all_of ((tau c, f) ∷ (tau c, changed_of at w) ∷ []))
        (all_opened ((rho c, e) ∷ (rho c, changed_of at v) ∷ []) ((tau c, f) ∷ (tau c, changed_of at w) ∷ [])
        (inside_of c e f a, (inside_of c (changed_of at v) (changed_of at w) (changed_alike_of Stands ops all at v w b), tt)))
