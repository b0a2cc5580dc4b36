-- The states among places that are found, where each is whole.
use Rattle.std.proofs.Common.{◌≡◌, refl, sym, ◌∙◌, subst, arith, ℕ, ◌<◌, true, List, length, map}
use Rattle.std.specs.Prelude.{All, Contains, Some, slice_get}
use Rattle.values_core.specs.Data.{Val}
use Rattle.states_core.specs.States.{Values}
use Rattle.states_core.specs.declared.fault.Fault.{Fault}
use Rattle.eval_meanings.specs.Contexts.{Places}
use Rattle.eval_meanings.specs.Laws.{HoldValues}
use Rattle.actions_meanings.specs.Reads.{VariableSet}
use Rattle.logs_updates.specs.declared.update.See.{See}
use Rattle.steps_lines_defs.specs.Asks.{AreSeen}
use Rattle.actions_meanings.specs.Filled.{Completes}
use Rattle.steps_found_states.specs.Walks.{Finds, Meets}
use Rattle.steps_found_states.proofs.Finding.{completes_less}
use Rattle.steps_moves.specs.Laws.{WholeShows}
use Rattle.steps_successors.specs.Among.{IsAmong}
use Rattle.steps_successors.proofs.Completing.{map_long, possible, same_state, whole_is}

module _ (n : ℕ) (sees : List See) (p : Places) (fixes : VariableSet → Type 0) (H : Values → Type 0) (F : Values → Fault → Type 0) (long : length p ≡ n) (values : HoldValues p) where
  module _ (qs : List Places) (left : (E : VariableSet) × fixes E × ((x : ℕ) → x < n → E x ≡ true)) (found : Finds sees p fixes H F qs) where
    each_full : (q : Places) → Contains qs q → (x : ℕ) → x < length q → (v : Val) × (slice_get q x ≡ Some (Some v))
    each_full q m x l = (found.filled q left.0 m left.1 x l).0 (left.2 x (omega (arith, l, (found.further q m).0, long)))

    own_completed : (t : Values) → Contains qs (map Some t) → Completes (map Some t) t
    own_completed t m =
        let u = possible p values in
        let r = (found.further (map Some t) m).2 u.0 u.1 in
        let same : r.0 ≡ t = same_state t r.0 (r.1.long ∙ map_long t) r.1.has in
        subst (λ (z : Values). Completes (map Some t) z) same r.1

    -- a state among them is one of which the fact holds, with what is seen
    pub among : WholeShows → All (λ see. see.path.variable.0 < n) sees → (t : Values) → IsAmong qs t → Completes p t × H t × AreSeen sees t
    among shows range t m =
        let f = found.further (map Some t) m in
        let own = own_completed t m in
        let all : n ≡ length (map Some t) = sym (f.0 ∙ long) in (
          completes_less p (map Some t) t f.0 f.1 own,
          found.sound (map Some t) t m own,
          shows sees (map Some t) t refl (subst (λ (k : ℕ). All (λ (see : See). see.path.variable.0 < k) sees) all range) (found.agree (map Some t) m),
        )

    -- and each such state is among them
    pub among_them : (t : Values) → Completes p t → H t → AreSeen sees t → IsAmong qs t
    among_them t k h s =
        let r = found.full t k s h in
        subst (λ (q : Places). Contains qs q) (whole_is r.0 t r.2.long r.2.has (each_full r.0 r.1)) r.1

  -- a fault is one that some state has
  pub met : (f : Fault) → Meets sees p F f → (t : Values) × Completes p t × F t f
  met f m =
      let u = possible p values in
      let r = m.5 u.0 u.1 in
      (r.0, completes_less p m.0 r.0 m.1 m.2 r.1, m.4 r.0 r.1)
