-- What is listed of the branches of an action, `<<A>>_v`.
use Rattle.std.proofs.Common.{◌≡◌, inl, inr, refl, subst, arith, ℕ, suc, ◌≤◌, List, [], ◌∷◌, map, length}
use Rattle.std.specs.Prelude.{Some, Result, Ok}
use Rattle.states_core.specs.States.{Values}
use Rattle.states_core.specs.declared.fault.Fault.{Fault}
use Rattle.names_terms.specs.Terms.{Term, place_of}
use Rattle.eval_meanings.specs.Contexts.{Context, Places}
use Rattle.eval_meanings.specs.Laws.{ReadsValues}
use Rattle.eval_meanings.specs.Unchanged.{changed_of}
use Rattle.actions_meanings.specs.Forms.{Setting, Form, changing, form}
use Rattle.steps_found_states.proofs.Lists.{place_by_all}
use Rattle.actions_meanings.specs.Holds.{Opened, OpenedHolds, Opens, FormHolds, Holds}
use Rattle.actions_meanings.specs.Filled.{at_next}
use Rattle.steps_found_states.specs.Walks.{HoldsOf}
use Rattle.steps_why_branches.specs.declared.sparing.Sparing.{Sparing}
use Rattle.steps_why_branches.specs.Traces.{Trace, added, here, passed}
use Rattle.steps_why_branches.specs.Branches.{Goes, Tests, Turns, stood}
use Rattle.steps_why_branches.specs.Firsts.{Firsts, HasSoMany}
use Rattle.steps_why_branches.specs.Founds.{FoundOf, TestsFound}
use Rattle.steps_why_branches.specs.Told.{KnowsAll}
use Rattle.steps_why_branches.proofs.Elements.{map_length}
use Rattle.steps_why_branches.proofs.Turns.{covering_map, goes_on, then_more, turn_covers}
use Rattle.steps_found_states.proofs.Opened.{held_form}
use Rattle.steps_why_branches.proofs.Found.{of_form}

module _ (g : Setting) (sp : Sparing) (k : ℕ) (room : 1 ≤ k) (d : ℕ) (c : Context) (a : Term) (p : Places) (known : KnowsAll g p c a) (now : ReadsValues g.table (at_next g.which c p) a) (e v : Term) (i : form g (length c.slots) a ≡ changing e v) where
  abbrev pub Test : Context × Term
  Test = (c, changed_of (place_of a) v)

  -- the branches of A are those of which the whole goes on
  pub first_found : (zs : List Trace) → FoundOf g sp k d c e p zs → Firsts k (Goes (Turns g sp d) d (c, e) (here p) (passed p)) (map (added (stood d (c, e)) (here p)) zs)
  first_found zs b = goes_on (Turns g sp d) d k (c, e) (here p) p zs b.firsts

  both_hold : (t : Values) → HoldsOf g (suc d) c a t → HoldsOf g d c e t × HoldsOf g d c (changed_of (place_of a) v) t
  both_hold t h =
      let r = subst (λ (y : Form). FormHolds g d (Holds g d) (at_next g.which c (map Some t)) a y) i (held_form g d c (map Some t) a h) in
      parts r.0 r.1 r.2
    where
      parts : (o : Opened) → Opens g.table d (at_next g.which c (map Some t)) (place_of a) (changing e v) (Ok o) → OpenedHolds (Holds g d) o → HoldsOf g d c e t × HoldsOf g d c (changed_of (place_of a) v) t
      parts o m n =
          let s = place_by_all {X = Context × Term} (λ e. Holds g d e.0 e.1) ((at_next g.which c (map Some t), e) ∷ (at_next g.which c (map Some t), changed_of (place_of a) v) ∷ [])
          (subst (λ (x : Opened). OpenedHolds (Holds g d) x) (same_opened o _ m) n) in
          (s.0, s.1.0)
        where
          same_opened : (x y : Opened) → ◌≡◌ {A = Result Opened Fault} (Ok x) (Ok y) → x ≡ y
          same_opened x y e = cc

  pub changing_found : (zs ys : List Trace) → FoundOf g sp k d c e p zs → TestsFound g d k Test (map (added (stood d (c, e)) (here p)) zs) ys → FoundOf g sp k (suc d) c a p ys
  changing_found zs ys b s =
      let same : length (map (added (stood d (c, e)) (here p)) zs) ≡ length zs = map_length (added (stood d (c, e)) (here p)) zs in
      let one : 1 ≤ length zs = b.some in
      of_form g sp k room d c a p known now (changing e v) i ys (record {
        firsts = then_more (Tests g d) d k (Goes (Turns g sp d) d (c, e) (here p) (passed p)) Test (map (added (stood d (c, e)) (here p)) zs) ys (first_found zs b) s.each;
        some = grown s.each.grows (omega (arith, same, one));
        covers = turn_covers k p (HoldsOf g d c e) (HoldsOf g d c (changed_of (place_of a) v)) (HoldsOf g (suc d) c a) (map (added (stood d (c, e)) (here p)) zs) ys both_hold s.each.grows
            (covering_map (added (stood d (c, e)) (here p)) (λ x. refl) k p (HoldsOf g d c e) zs b.covers) s.covers;
      })
    where
      grown : HasSoMany (length (map (added (stood d (c, e)) (here p)) zs)) k ys → 1 ≤ length (map (added (stood d (c, e)) (here p)) zs) → 1 ≤ length ys
      grown (inl h) l = omega (arith, h, l)
      grown (inr h) l = omega (arith, h, room)
