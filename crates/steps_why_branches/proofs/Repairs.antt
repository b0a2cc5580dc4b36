-- What holds where the parts at one place are taken to hold.
use Rattle.std.proofs.Common.{◌≡◌, inl, inr, sym, subst, ℕ, zero, suc, List, [], ◌∷◌, length, map}
use Rattle.std.specs.Prelude.{Bool, true, false, Option, None, Some, Ok, if◌then◌else◌}
use Rattle.std.specs.List.{AllByRecursion}
use Rattle.base_core.specs.declared.place.Place.{Place}
use Rattle.values_core.specs.Data.{Val}
use Rattle.states_core.specs.States.{Values}
use Rattle.names_terms.specs.Terms.{Term, place_of}
use Rattle.eval_meanings.specs.Contexts.{Context, Places}
use Rattle.eval_meanings.specs.Laws.{IsWithin}
use Rattle.actions_meanings.specs.Forms.{Setting, Form, form, test, assign, choose, both, either, narrowed, some, branch, arms, inside, call, changing}
use Rattle.actions_meanings.specs.Holds.{FormHolds, Holds, Opened, OpenedHolds, Relation, all_of, one_of}
use Rattle.actions_meanings.specs.Filled.{at_next}
use Rattle.steps_found_states.specs.Grounds.{OpensFrom}
use Rattle.steps_found_states.specs.Parts.{Parts}
use Rattle.steps_found_states.proofs.Lists.{all_by_place, any_of, of_any, place_by_all}
use Rattle.steps_found_states.proofs.Opened.{opened_held}
use Rattle.steps_found_states.proofs.Openings.{all_placed, opens_at, placed}
use Rattle.steps_found_states.proofs.Placed.{at_slots}
use Rattle.steps_why_branches.specs.declared.sparing.Passing.{Passing}
use Rattle.steps_why_branches.specs.declared.sparing.Passing.TheVariants as passing
use Rattle.steps_why_branches.specs.PassedOver.{behind_one, is_unchanged, may_spare, same_place}
use Rattle.steps_why_branches.specs.Repaired.{HoldsBut, HoldsButOf, is_single}
use Rattle.steps_why_branches.proofs.Elements.{in_map}

-- what holds of the parts, by another fact of each

module _ (g : Setting) (P Q : Relation) (h : (c : Context) (a : Term) → P c a → Q c a) where
  all_so : (es : Parts) → AllByRecursion (λ e. P e.0 e.1) es → AllByRecursion (λ e. Q e.0 e.1) es
  all_so [] k = tt
  all_so (e ∷ es) k = (h e.0 e.1 k.0, all_so es k.1)

  opened_so : (o : Opened) → OpenedHolds P o → OpenedHolds Q o
  opened_so (all_of es) k = all_by_place (λ e. Q e.0 e.1) es (all_so es (place_by_all (λ e. P e.0 e.1) es k))
  opened_so (one_of es) k = let r = of_any (λ e. P e.0 e.1) es k in any_of (λ e. Q e.0 e.1) es r.0 r.1 (h r.0.0 r.0.1 r.2)

  form_so : (d : ℕ) (c : Context) (a : Term) (f : Form) → FormHolds g d P c a f → FormHolds g d Q c a f
  form_so d c a test k = k
  form_so d c a (assign n e) k = k
  form_so d c a (choose n e) k = k
  form_so d c a (both es) k = (k.0, k.1, opened_so k.0 k.2)
  form_so d c a (narrowed n es) k = (k.0, k.1, opened_so k.0 k.2)
  form_so d c a (either es) k = (k.0, k.1, opened_so k.0 k.2)
  form_so d c a (some bs e) k = (k.0, k.1, opened_so k.0 k.2)
  form_so d c a (branch q e f) k = (k.0, k.1, opened_so k.0 k.2)
  form_so d c a (arms cs other) k = (k.0, k.1, opened_so k.0 k.2)
  form_so d c a (inside e) k = (k.0, k.1, opened_so k.0 k.2)
  form_so d c a (call j es) k = (k.0, k.1, opened_so k.0 k.2)
  form_so d c a (changing e v) k = (k.0, k.1, opened_so k.0 k.2)

-- what holds, holds so too; and where no place is named, the other way round

pub held_but : (g : Setting) (at : Passing) (d : ℕ) (c : Context) (a : Term) → Holds g d c a → HoldsBut g at d c a
held_but g at zero c a h = h
held_but g at (suc d) c a h = inr (form_so g (Holds g d) (HoldsBut g at d) (λ b e k. held_but g at d b e k) d c a (form g (length c.slots) a) h)

pub but_nothing : (g : Setting) (d : ℕ) (c : Context) (a : Term) → HoldsBut g passing.Nothing d c a → Holds g d c a
but_nothing g zero c a h = h
but_nothing g (suc d) c a (inl h) = absurd (false_true h.1)
  where
    false_true : false ≡ true → ⊥
    false_true e = cc
but_nothing g (suc d) c a (inr h) = form_so g (HoldsBut g passing.Nothing d) (Holds g d) (λ b e k. but_nothing g d b e k) d c a (form g (length c.slots) a) h

-- where what may be passed over the one time may be the other time too

abbrev pub Less : Passing → Passing → Type 0
Less a b = (e : Term) → may_spare a e ≡ true → may_spare b e ≡ true

pub less_but : (g : Setting) (a b : Passing) → Less a b → (d : ℕ) (c : Context) (e : Term) → HoldsBut g a d c e → HoldsBut g b d c e
less_but g a b l zero c e h = h
less_but g a b l (suc d) c e (inl h) = inl (h.0, l e h.1)
less_but g a b l (suc d) c e (inr h) = inr (form_so g (HoldsBut g a d) (HoldsBut g b d) (λ c f k. less_but g a b l d c f k) d c e (form g (length c.slots) e) h)

-- what may be passed over at a place may be passed over anywhere
pub spared_one : (at : Place) (e : Term) → may_spare (passing.At at) e ≡ true → may_spare passing.OnePlace e ≡ true
spared_one at e h = by_test (same_place at (place_of e)) (is_unchanged e) h
  where
    by_test : (o u : Bool) → (if o then (if u then false else true) else false) ≡ true → (if u then false else true) ≡ true
    by_test true u k = k
    by_test false u k = cc

pub one_less : (o : Option Place) (at : Passing) → Less (behind_one o at) at
one_less o passing.Nothing e h = h
one_less o (passing.At at) e h = h
one_less None passing.OnePlace e h = h
one_less (Some at) passing.OnePlace e h = spared_one at e h

-- of a whole state

module _ (g : Setting) (at : Passing) (d : ℕ) (t : Values) where
  abbrev There : Context × Term → Context × Term
  There = placed g.which (map Some t)

  all_there : (es : Parts) → AllByRecursion (λ e. HoldsButOf g at d e.0 e.1 t) es → AllByRecursion (λ e. HoldsBut g at d e.0 e.1) (map There es)
  all_there [] h = tt
  all_there (e ∷ es) h = (h.0, all_there es h.1)

  but_there : (o : Opened) → OpenedHolds (λ b e. HoldsButOf g at d b e t) o → OpenedHolds (HoldsBut g at d) (all_placed g.which (map Some t) o)
  but_there (all_of es) h = all_by_place (λ e. HoldsBut g at d e.0 e.1) (map There es) (all_there es (place_by_all (λ e. HoldsButOf g at d e.0 e.1 t) es h))
  but_there (one_of es) h =
      let r = of_any (λ e. HoldsButOf g at d e.0 e.1 t) es h in
      any_of (λ e. HoldsBut g at d e.0 e.1) (map There es) (There r.0) (in_map There es r.0 r.1) r.2

  module _ (c : Context) (a : Term) (f : Form) (i : form g (length c.slots) a ≡ f) where
    pub form_but : FormHolds g d (HoldsBut g at d) (at_next g.which c (map Some t)) a f → HoldsButOf g at (suc d) c a t
    form_but h = inr (subst (λ (ss : List Val). FormHolds g d (HoldsBut g at d) (at_next g.which c (map Some t)) a (form g (length ss) a)) (sym (at_slots g.which c (map Some t)))
        (subst (λ (y : Form). FormHolds g d (HoldsBut g at d) (at_next g.which c (map Some t)) a y) (sym i) h))

    pub single_but : is_single f ≡ true → may_spare at a ≡ true → HoldsButOf g at (suc d) c a t
    single_but s m = inl (subst (λ (ss : List Val). is_single (form g (length ss) a) ≡ true) (sym (at_slots g.which c (map Some t))) (subst (λ (y : Form). is_single y ≡ true) (sym i) s), m)

    pub opened_but : (p : Places) → IsWithin p (map Some t) → (o : Opened) → OpensFrom g d c p (place_of a) f (Ok o) → OpenedHolds (λ b e. HoldsButOf g at d b e t) o → HoldsButOf g at (suc d) c a t
    opened_but p w o h m = form_but (opened_held g d (HoldsBut g at d) c p (at_next g.which c (map Some t)) a f (Ok o) h (all_placed g.which (map Some t) o)
        (opens_at g d c p (map Some t) (place_of a) f w (Ok o) h) (but_there o m))
