-- Sets that are known to be listed, and what is filled where a value is seen.
use Rattle.std.proofs.Common.{◌≡◌, inl, inr, refl, ap, sym, ◌∙◌, subst, ℕ, ◌<◌, List, [], ◌∷◌, length, get_or, Some}
use Rattle.std.specs.Prelude.{Contains, Ok, slice_set}
use Rattle.std.proofs.lemmas.List.Elements.{All-get_or}
use Rattle.base_core.specs.declared.place.Place.{Place}
use Rattle.values_core.specs.Ascending.{cons_cases, head_in, none_in}
use Rattle.values_core.specs.Data.{Val}
use Rattle.values_core.specs.IsValue.{IsValue}
use Rattle.values_core.specs.SetOperations.{IsSetWith}
use Rattle.values_core.specs.Sets.{Member}
use Rattle.values_sets.specs.DescribedSets.{Described, Nat, Int, Strings, Booleans, SeqOf, PowerOf, Interval, Functions, Records, Product, Union, Inter, Minus, Listed}
use Rattle.values_sets.specs.Membership.{Belongs, IsMember}
use Rattle.values_sets.proofs.Collecting.{lists_its_members}
use Rattle.values_set_bounds.specs.Bounds.{IsListedWithin}
use Rattle.eval_meanings.specs.Contexts.{Places}
use Rattle.eval_meanings.specs.Sets.{list_at}
use Rattle.logs_updates.specs.Changes.{LeadsTo}
use Rattle.logs_updates.specs.declared.update.See.{See}
use Rattle.steps_filling.specs.Fillings.{Allows, FillsMembers, IsAtHand, OneIf, SeenIn}

-- a set that is listed for sure is listed wherever it stands
listed_at : (S : Described) (n l : ℕ) (w : IsListedWithin S n l) (at : Place) → list_at at S (Ok w.listed)
listed_at Nat n l w at = w.lists
listed_at Int n l w at = w.lists
listed_at Strings n l w at = w.lists
listed_at Booleans n l w at = w.lists
listed_at (SeqOf d) n l w at = w.lists
listed_at (PowerOf d) n l w at = w.lists
listed_at (Interval y z) n l w at = w.lists
listed_at (Functions a d) n l w at = w.lists
listed_at (Records fs) n l w at = w.lists
listed_at (Product ps) n l w at = w.lists
listed_at (Union c d) n l w at = w.lists
listed_at (Inter c d) n l w at = w.lists
listed_at (Minus c d) n l w at = w.lists
listed_at (Listed s) n l w at = ap Ok (w.itself s refl)

pub at_hand : (S : Described) (n l : ℕ) → IsListedWithin S n l → IsAtHand S
at_hand S n l w at =
    let s : IsSetWith (IsMember S) w.listed = lists_its_members S w.listed w.lists in
    (w.listed, listed_at S n l w at, s.valid, λ v p. (λ m. ((s.same v).0 m).1, λ b. (s.same v).1 (p, b)))

-- What is filled where a value is seen of the variable: that value alone may be a member that all that is seen allows.
pub seen_filled : (sees : List See) (x : ℕ) (S : Described) (at : Place) (p : Places) (w : Val) (qs : List Places) → IsAtHand S → IsValue w → ((v : Val) → SeenIn sees x v → v ≡ w)
    → OneIf (Belongs S w × SeenIn sees x w) (slice_set p x (Some w)) qs → FillsMembers sees x S at p qs
seen_filled sees x S at p w qs hand valid whole one =
    let h = hand at in
    (h.0, h.1, h.2, λ q. (forth q one, back q one))
  where
    forth : (q : Places) → OneIf (Belongs S w × SeenIn sees x w) (slice_set p x (Some w)) qs → Contains qs q
        → (v : Val) × Member v ((hand at).0) × SeenIn sees x v × (q ≡ slice_set p x (Some v))
    forth q (inl a) m = elim (cons_cases (slice_set p x (Some w)) [] q (subst (λ (us : List Places). Contains us q) a.1 m)) [
      | inl e ↦ (w, ((hand at).3 w valid).1 a.0.0, a.0.1, sym e)
      | inr n ↦ absurd (none_in q n)
    ]
    forth q (inr a) m = absurd (none_in q (subst (λ (us : List Places). Contains us q) a.1 m))

    back : (q : Places) → OneIf (Belongs S w × SeenIn sees x w) (slice_set p x (Some w)) qs
        → ((v : Val) × Member v ((hand at).0) × SeenIn sees x v × (q ≡ slice_set p x (Some v))) → Contains qs q
    back q (inl a) r =
        let same : slice_set p x (Some w) ≡ q = sym (r.3 ∙ ap (λ (v : Val). slice_set p x (Some v)) (whole r.0 r.2)) in
        subst (λ (us : List Places). Contains us q) (sym a.1) (subst (λ (u : Places). Contains (slice_set p x (Some w) ∷ []) u) same (head_in (slice_set p x (Some w)) []))
    back q (inr a) r =
        let e : r.0 ≡ w = whole r.0 r.2 in
        let member : Member w ((hand at).0) = subst (λ (v : Val). Member v ((hand at).0)) e r.1 in
        absurd (a.0 (((hand at).3 w valid).0 member, subst (λ (v : Val). SeenIn sees x v) e r.2))

-- what is seen of the whole variable
pub whole_allows : (see : See) (x : ℕ) → see.path.variable.0 ≡ x → see.path.keys ≡ [] → (v : Val) → Allows see x v → v ≡ see.value
whole_allows see x e k v a = sym (subst (λ (ks : List Val). LeadsTo ks v see.value) k (a e))

pub whole_seen : (sees : List See) (i : ℕ) (see : See) (x : ℕ) → i < length sees → see ≡ get_or sees i see → ((v : Val) → Allows see x v → v ≡ see.value)
    → (v : Val) → SeenIn sees x v → v ≡ see.value
whole_seen sees i see x l e whole v s = whole v (subst (λ (y : See). Allows y x v) (sym e) (All-get_or (λ (y : See). Allows y x v) sees i see l s))
