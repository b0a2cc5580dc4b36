-- The different states among more and more places.
use Rattle.std.proofs.Common.{◌≡◌, inl, inr, refl, sym, ◌∙◌, ap, subst, ℕ, List, [], ◌∷◌, ◌++◌, length, map, arith, Bool, true, false, Result, Ok, Err, IfOk}
use Rattle.std.specs.Prelude.{Contains, Option, Some, None, Vec, ◌+◌, ◌<◌, take, drop, get_or, if◌then◌else◌}
use Rattle.std.specs.declared.alloc.Global.{Global}
use Rattle.std.specs.declared.alloc.AllocError.{AllocError}
use Rattle.std.specs.List.{list_any}
use Rattle.std.specs.Cmp.Lexicographic.{lists_equiv}
use Rattle.std.proofs.lemmas.List.{take_more, take-append-drop}
use Rattle.std.proofs.lemmas.Map.Views.{Contains-from_any, list_any-from_Contains}
use Rattle.indexmap.specs.IndexSet.{insert_key}
use Rattle.values_core.specs.Data.{Val}
use Rattle.values_core.specs.OrderLaws.{val_eq_equiv}
use Rattle.states_core.specs.States.{Values}
use Rattle.states_core.specs.StateOrder.{state_decides, state_eq}
use Rattle.states_core.specs.Partials.{HasEmpty}
use Rattle.states_core.specs.Sets.{IsList, HasMoreThan}
use Rattle.states_layers.proofs.Members.{distinct_push, in_append, in_left, in_nil, in_one, in_right, map_in}
use Rattle.steps_successors.specs.Among.{Adds, IsAmong}

pub begins : IsList (IsAmong []) []
begins = record {
  are = record { distinct = λ i j y lt under. absurd (omega arith); members = λ t h. absurd (in_nil t h) };
  all = λ t h. absurd (in_nil (map Some t) h);
}

some_same : (v w : Val) → ◌≡◌ {A = Option Val} (Some v) (Some w) → v ≡ w
some_same v w e = cc

-- the values of places determine the state
pub same_state : (s t : Values) → map Some s ≡ map Some t → s ≡ t
same_state [] [] e = refl
same_state [] (w ∷ t) e = absurd (differ e)
  where
    differ : [] ≡ map Some (w ∷ t) → ⊥
    differ e = cc
same_state (v ∷ s) [] e = absurd (differ e)
  where
    differ : map Some (v ∷ s) ≡ [] → ⊥
    differ e = cc
same_state (v ∷ s) (w ∷ t) e =
    let first : v ≡ w = some_same v w (heads e) in
    let rest : s ≡ t = same_state s t (tails e) in
    λ i. first i ∷ rest i
  where
    heads : Some v ∷ map Some s ≡ Some w ∷ map Some t → ◌≡◌ {A = Option Val} (Some v) (Some w)
    heads e = cc

    tails : Some v ∷ map Some s ≡ Some w ∷ map Some t → map Some s ≡ map Some t
    tails e = cc

no_value : (v : Val) → ◌≡◌ {A = Option Val} (Some v) None → ⊥
no_value v e = cc

-- a state has no empty place
whole_full : (t : Values) (p : List (Option Val)) → p ≡ map Some t → HasEmpty p → ⊥
whole_full t p e h = let r = map_in Some t None (subst (λ (q : List (Option Val)). Contains q None) e h) in no_value r.0 r.2

module _ (ps : List (List (Option Val))) (p : List (Option Val)) (ks : List Values) (h : IsList (IsAmong ps) ks) where
  -- one more state, which is put behind the others where it is not there
  pub added : (now : List Values) (s : Values) → map Some s ≡ p → now ≡ insert_key state_eq ks s → IsList (IsAmong (ps ++ p ∷ [])) now
  added now s e n = subst (IsList (IsAmong (ps ++ p ∷ []))) (sym n) (by (list_any (state_eq s) ks) refl)
    where
      is_state : (t : Values) → Contains (p ∷ []) (map Some t) → s ≡ t
      is_state t m = same_state s t (e ∙ in_one p (map Some t) m)

      self : IsAmong (ps ++ p ∷ []) s
      self = subst (λ (q : List (Option Val)). Contains (ps ++ p ∷ []) q) (sym e) (in_right ps (p ∷ []) p (0, omega arith, refl))

      there : list_any (state_eq s) ks ≡ true → IsList (IsAmong (ps ++ p ∷ [])) ks
      there a = record {
        are = record { distinct = h.are.distinct; members = λ t m. in_left ps (p ∷ []) (map Some t) (h.are.members t m) };
        all = λ t m. elim (in_append ps (p ∷ []) (map Some t) m) [
          | inl k ↦ h.all t k
          | inr k ↦ subst (Contains ks) (is_state t k) (Contains-from_any {eq = state_eq} (λ x y. (state_decides x y).0) s ks a)
        ];
      }

      not_true : list_any (state_eq s) ks ≡ false → Contains ks s → ⊥
      not_true a m = let b = list_any-from_Contains (lists_equiv val_eq_equiv) s ks m in differ a b
        where
          differ : list_any (state_eq s) ks ≡ false → list_any (state_eq s) ks ≡ true → ⊥
          differ a b = cc

      absent : list_any (state_eq s) ks ≡ false → IsList (IsAmong (ps ++ p ∷ [])) (ks ++ s ∷ [])
      absent a = record {
        are = record {
          distinct = distinct_push ks s h.are.distinct (not_true a);
          members = λ t m. elim (in_append ks (s ∷ []) t m) [
            | inl k ↦ in_left ps (p ∷ []) (map Some t) (h.are.members t k)
            | inr k ↦ subst (IsAmong (ps ++ p ∷ [])) (in_one s t k) self
          ];
        };
        all = λ t m. elim (in_append ps (p ∷ []) (map Some t) m) [
          | inl k ↦ in_left ks (s ∷ []) t (h.all t k)
          | inr k ↦ in_right ks (s ∷ []) t (subst (Contains (s ∷ [])) (is_state t k) (0, omega arith, refl))
        ];
      }

      by : (b : Bool) → list_any (state_eq s) ks ≡ b → IsList (IsAmong (ps ++ p ∷ [])) (if b then ks else ks ++ s ∷ [])
      by true a = there a
      by false a = absent a

  -- places of which one is empty are no state
  pub passed : HasEmpty p → IsList (IsAmong (ps ++ p ∷ [])) ks
  passed e = record {
    are = record { distinct = h.are.distinct; members = λ t m. in_left ps (p ∷ []) (map Some t) (h.are.members t m) };
    all = λ t m. elim (in_append ps (p ∷ []) (map Some t) m) [
      | inl k ↦ h.all t k
      | inr k ↦ absurd (whole_full t p (in_one p (map Some t) k) e)
    ];
  }

module _ (found : List (List (Option Val))) (i : ℕ) (p : List (Option Val)) (e : p ≡ get_or found i p) (lt : i < length found) (ks now : List Values) (h : IsList (IsAmong (take i found)) ks) (a : Adds p ks now) where
  -- the places at the next index
  pub step : IsList (IsAmong (take (i + 1) found)) now
  step = subst (λ (qs : List (List (Option Val))). IsList (IsAmong qs) now) (sym (take_more found i p lt ∙ ap (λ (q : List (Option Val)). take i found ++ q ∷ []) (sym e))) (elim a [
    | inl w ↦ added (take i found) p ks h now w.0 w.1 w.2
    | inr w ↦ subst (IsList (IsAmong (take i found ++ p ∷ []))) (sym w.1) (passed (take i found) p ks h w.0)
  ])

  -- too many among the places so far are too many
  pub too_many : (bound : ℕ) → bound < length now → HasMoreThan (IsAmong found) bound
  too_many bound m = (
    now,
    record {
      distinct = step.are.distinct;
      members = λ t k. subst (λ (qs : List (List (Option Val))). Contains qs (map Some t)) (take-append-drop (i + 1) found) (in_left (take (i + 1) found) (drop (i + 1) found) (map Some t) (step.are.members t k));
    },
    m,
  )

-- the one state that places are
pub sole : (r : Result (Vec Values Global) AllocError) (p : List (Option Val)) (s : Values) → map Some s ≡ p
    → IfOk r (λ list. list.items ≡ s ∷ []) → IfOk r (λ list. IsList (IsAmong (p ∷ [])) list.items)
sole (Ok list) p s e h = subst (IsList (IsAmong (p ∷ []))) (sym h) (added [] p [] begins (s ∷ []) s e refl)
sole (Err x) p s e h = tt
