-- What an action holds of, as the one sees both states, the alike one holds of, as the other sees them.
use Rattle.std.proofs.Common.{subst}
use Rattle.std.specs.Prelude.{ℕ, zero, suc, true, length, Ok}
use Rattle.base_core.specs.declared.place.Place.{Place}
use Rattle.names_terms.specs.Terms.{Term, place_of}
use Rattle.eval_meanings.specs.Contexts.{Context, Table}
use Rattle.eval_meanings.specs.Evaluates.{Evaluates, Describes}
use Rattle.actions_meanings.specs.declared.which.Which.{Which}
use Rattle.actions_meanings.specs.Forms.{Setting, Form, form, both, either, narrowed, some, branch, arms, inside, call, changing}
use Rattle.actions_meanings.specs.Holds.{Relation, Opened, Opens, OpenedHolds, FormHolds, Holds}
use Rattle.eval_meanings.specs.Contexts.{Places}
use Rattle.twice_instances.specs.Seen.{seen_in}
use Rattle.twice_instances.specs.Alikeness.{Like}
use Rattle.twice_instances.proofs.Forms.{FoundAlike, LikeForms, arms_forms, assign_forms, both_forms, branch_forms, call_forms, changing_forms, choose_forms, either_forms, forms_alike, inside_forms, narrowed_forms, some_forms, test_forms}
use Rattle.twice_instances.proofs.Inverted.{same_place}
use Rattle.twice_instances.proofs.Parting.{DescribeAlike, EvaluateAlike, LikeOpened, opened_holds, opens_alike, set_alike, truth_alike}
use Rattle.twice_instances.proofs.Sight.{AreSeen}

-- evaluation says the same over the two tables of the states as they are seen, and so it is with what stands behind names
pub record EvaluationAlike (Stands : ℕ → ℕ → Type 0) (see look : Places → Places) (ops all : Table) : Type 0 where
  pub evaluates : (d : ℕ) → EvaluateAlike Stands see look ops all (Evaluates ops d) (Evaluates all d)
  pub describes : (d : ℕ) → DescribeAlike Stands see look ops all (Describes ops d) (Describes all d)
  pub behind : FoundAlike Stands ops all

module _ (Stands : ℕ → ℕ → Type 0) (see look : Places → Places) (seen : AreSeen Stands see look) (w : Which) (v u : ℕ) (ops all : Table) (same : EvaluationAlike Stands see look ops all) where
  abbrev rho : Context → Context
  rho c = seen_in see c

  abbrev tau : Context → Context
  tau c = seen_in look c

  abbrev here : Setting
  here = record { which = w; variables = v; table = ops }

  abbrev there : Setting
  there = record { which = w; variables = u; table = all }

  module _ (d : ℕ) (part whole : Relation) (step : (c : Context) (e f : Term) → Like Stands ops all e f → part (rho c) e → whole (tau c) f) where
    parts_hold : (c : Context) (a b : Term) (F G : Form) → Like Stands ops all a b → LikeForms Stands ops all F G
        → (o : Opened) × Opens ops d (rho c) (place_of a) F (Ok o) × OpenedHolds part o → (o : Opened) × Opens all d (tau c) (place_of b) G (Ok o) × OpenedHolds whole o
    parts_hold c a b F G al fg h =
        let q : (y : Opened) × LikeOpened Stands see look ops all h.0 y × Opens all d (tau c) (place_of a) G (Ok y) = (opens_alike Stands see look ops all d (same.evaluates d) c (place_of a) F G fg).value h.0 h.1 in
        (q.0, subst (λ (at : Place). Opens all d (tau c) at G (Ok q.0)) (same_place Stands ops all a b al) q.2, opened_holds Stands see look ops all part whole step h.0 q.0 q.1 h.2)

    form_holds : (c : Context) (a b : Term) (F G : Form) → Like Stands ops all a b → LikeForms Stands ops all F G → FormHolds here d part (rho c) a F → FormHolds there d whole (tau c) b G
    form_holds c a b _ _ al test_forms h = truth_alike Stands see look ops all (Evaluates ops (suc d)) (Evaluates all (suc d)) (same.evaluates (suc d)) c a b al (Ok true) h
    form_holds c a b _ _ al (assign_forms x y e f v ef) h = (h.0, same.evaluates d c e f ef (Ok h.0) h.1, seen x y v c.next h.0 h.2)
    form_holds c a b _ _ al (choose_forms x y e f v ef) h = (h.0, h.1, set_alike Stands see look ops all (Describes ops d) (Describes all d) (same.describes d) c e f ef (Ok h.1) h.2, seen x y v c.next h.0 h.3, h.4)
    form_holds c a b _ _ al (both_forms es fs z) h = parts_hold c a b (both es) (both fs) al (both_forms es fs z) h
    form_holds c a b _ _ al (either_forms es fs z) h = parts_hold c a b (either es) (either fs) al (either_forms es fs z) h
    form_holds c a b _ _ al (narrowed_forms n es fs z) h = parts_hold c a b (narrowed n es) (narrowed n fs) al (narrowed_forms n es fs z) h
    form_holds c a b _ _ al (some_forms bs cs e f t ef) h = parts_hold c a b (some bs e) (some cs f) al (some_forms bs cs e f t ef) h
    form_holds c a b _ _ al (branch_forms p q s t e f x y z) h = parts_hold c a b (branch p s e) (branch q t f) al (branch_forms p q s t e f x y z) h
    form_holds c a b _ _ al (arms_forms ps qs e f z o) h = parts_hold c a b (arms ps e) (arms qs f) al (arms_forms ps qs e f z o) h
    form_holds c a b _ _ al (inside_forms e f ef) h = parts_hold c a b (inside e) (inside f) al (inside_forms e f ef) h
    form_holds c a b _ _ al (call_forms k j es fs r z) h = parts_hold c a b (call k es) (call j fs) al (call_forms k j es fs r z) h
    form_holds c a b _ _ al (changing_forms e f s t x y) h = parts_hold c a b (changing e s) (changing f t) al (changing_forms e f s t x y) h

  pub holds_alike : (d : ℕ) (c : Context) (a b : Term) → Like Stands ops all a b → Holds here d (rho c) a → Holds there d (tau c) b
  holds_alike zero c a b al h = absurd h
  holds_alike (suc d) c a b al h =
      form_holds d (Holds here d) (Holds there d) (holds_alike d) c a b (form here (length c.slots) a) (form there (length c.slots) b) al
      (forms_alike Stands w v u ops all same.behind (length c.slots) a b al) h
