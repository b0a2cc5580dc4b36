-- From the states among places to the answer.
use Rattle.std.proofs.Common.{◌≡◌, ◌↔◌, inl, inr, refl, sym, ◌∙◌, ap, subst, arith, ℕ, ◌<◌, true, Bool, List, [], ◌∷◌, length, map}
use Rattle.std.specs.Prelude.{All, Contains, IfSome, Option, None, Some, Result, Ok, Err, Vec, replicate}
use Rattle.std.specs.declared.alloc.Global.{Global}
use Rattle.states_core.specs.States.{Values}
use Rattle.states_core.specs.Sets.{IsList}
use Rattle.states_core.specs.declared.fault.Fault.{Fault}
use Rattle.names_terms.specs.declared.ids.DefId.{DefId}
use Rattle.names_terms.specs.declared.operator.Operator.{Operator}
use Rattle.names_terms.specs.declared.spec.Spec.{Spec}
use Rattle.eval_meanings.specs.declared.fault.EvalFault.{EvalFault}
use Rattle.eval_meanings.specs.declared.fault.EvalFault.TheVariants.{Refused, NoMemory}
use Rattle.eval_meanings.specs.Contexts.{Places}
use Rattle.eval_meanings.specs.Laws.{HoldValues, IsWithin}
use Rattle.actions_meanings.specs.declared.which.Which.TheVariants as which
use Rattle.actions_meanings.specs.Reads.{VariableSet, in_none}
use Rattle.actions_meanings.specs.Outcomes.{Fixes}
use Rattle.logs_updates.specs.declared.line.Line.{Line}
use Rattle.logs_updates.specs.declared.update.See.{See}
use Rattle.steps_lines_defs.specs.Says.{Act, ActFixes, BothFail, BothHold, InitFails, InitHolds, IsState, setting}
use Rattle.steps_lines_defs.specs.Asks.{AreSeen, Moves, act_of, asks, updated}
use Rattle.steps_lines_defs.specs.Steps.{FaultFirst, FaultSilent, FaultStep, IsFirst, Rests, Silent, Step, silent_act}
use Rattle.actions_meanings.specs.Filled.{Completes, Fills}
use Rattle.names_specification_laws.specs.IsSpec.{IsSilent}
use Rattle.actions_form_laws.specs.Growth.{WholeStays}
use Rattle.steps_walk_laws.specs.Grounds.{OrderlyActionsAreGrounded}
use Rattle.steps_found_states.specs.Walks.{Agrees, Finds, Found}
use Rattle.steps_moves.specs.Laws.{ShownAgrees, WholeShows}
use Rattle.states_layers.specs.Gives.{Gives}
use Rattle.states_layers.specs.declared.steps.StepFault.{StepFault}
use Rattle.states_layers.specs.declared.steps.StepFault.TheVariants as step
use Rattle.states_layers.proofs.Members.{in_append, in_left, in_nil, in_one, in_right}
use Rattle.steps_successors.specs.Among.{IsAmong}
use Rattle.steps_ready_defs.specs.Ready.{AreOfVariables, IsReadyAct, IsReadyLine, IsReadySpec}
use Rattle.steps_successors.specs.Taken.{AddsIf, BothFound, IsStart, LeavesBoth, MayRest, step_fault}
use Rattle.steps_successors.proofs.Completing.{completes_empty, empty_completed, empty_values, long_of_empty, map_long, same_state}
use Rattle.steps_successors.proofs.Grounding.{init_leaves, next_leaves}
use Rattle.steps_successors.proofs.Listed.{among, among_them, met}

-- the same of what is in other words the same set, where nothing that agrees has a fault
pub gives_same : {A : Type 0} (P Q : A → Type 0) (Bad : A → Fault → Type 0) (Seen : A → Type 0) (bound : ℕ) → ((x : A) → P x → Q x) → ((x : A) → Q x → P x)
    → ((x : A) (f : Fault) → Bad x f → Seen x → ⊥) → (r : Result (Vec A Global) StepFault) → Gives P (λ x f. ⊥) (λ x. Unit {0}) bound r → Gives Q Bad Seen bound r
gives_same P Q Bad Seen bound i j clean (Ok listed) h = (
  record {
    are = record { distinct = h.0.are.distinct; members = λ x m. i x (h.0.are.members x m) };
    all = λ x q. h.0.all x (j x q);
  },
  clean,
)
gives_same P Q Bad Seen bound i j clean (Err (step.Eval f)) h = absurd h.1
gives_same P Q Bad Seen bound i j clean (Err step.TooMany) h = (h.0, record { distinct = h.1.distinct; members = λ x m. i x (h.1.members x m) }, h.2)
gives_same P Q Bad Seen bound i j clean (Err step.NoMemory) h = tt

-- nothing, where there is nothing
pub gives_none : {A : Type 0} (P : A → Type 0) (Bad : A → Fault → Type 0) (Seen : A → Type 0) (bound : ℕ) → ((x : A) → P x → ⊥) → ((x : A) (f : Fault) → Bad x f → Seen x → ⊥)
    → (listed : Vec A Global) → listed.items ≡ [] → Gives P Bad Seen bound (Ok listed)
gives_none P Bad Seen bound none clean listed e = (
  subst (λ xs. IsList P xs) (sym e) (record {
    are = record { distinct = λ i j y lt under. absurd (omega (arith, under)); members = λ x m. absurd (in_nil x m) };
    all = λ x q. absurd (none x q);
  }),
  clean,
)

-- what leaves every variable fixed
both_left : (law : OrderlyActionsAreGrounded) (grows : WholeStays) (g : Spec) (ready : IsReadySpec g) (sees : List See) (act : Option Act) (B : VariableSet) (p : Places) → IsStart g sees act B p
    → (E : VariableSet) × LeavesBoth g act B E × ((x : ℕ) → x < length g.variables → E x ≡ true)
both_left law grows g ready sees None B p b = next_leaves g ready law grows B
both_left law grows g ready sees (Some a) B p b =
    let r = b.acts a refl in
    let e = next_leaves g ready law grows r.2.form.0 in
    (e.0, (r.2.form.0, (r.0, r.1, r.2.form.1), e.1), e.2)

-- the operator of the steps that no line shows can be taken

same_act : (a b : Act) → ◌≡◌ {A = Option Act} (Some a) (Some b) → a ≡ b
same_act a b e = cc

no_act : (b : Act) → ◌≡◌ {A = Option Act} None (Some b) → ⊥
no_act b e = cc

same_operator : (o q : Operator) → ◌≡◌ {A = Option Operator} (Some o) (Some q) → o ≡ q
same_operator o q e = cc

silent_ready : (g : Spec) (o : Option DefId) → IfSome o (λ d. IsSilent g.operators d.0) → ((a : Act) → silent_act o ≡ Some a → (C : VariableSet) × ActFixes g a in_none C) → (a : Act) → silent_act o ≡ Some a → IsReadyAct g in_none a
silent_ready g None h f a e = absurd (no_act a e)
silent_ready g (Some d) h f a e =
    let own : Act = record { operator = d.0; arguments = [] } in
    let x = f own refl in
    subst (λ (b : Act). IsReadyAct g in_none b) (same_act own a e) (
      h.operator,
      h.is,
      record {
        named = h.named;
        level = h.level;
        arguments = sym h.alone;
        values = λ v m. absurd (in_nil v m);
        form = (x.0, subst (λ (o : Operator). Fixes (setting which.Action g) o.body in_none x.0) (same_operator x.1.0 h.operator (sym x.1.1 ∙ h.is)) x.1.2);
      },
    )

equal_state : (s t : Values) → map Some s ≡ map Some t → s ≡ t
equal_state s t e = sym (same_state s t (sym (map_long t) ∙ ap (λ q. length q) (sym e) ∙ map_long s) (subst (λ (q : Places). IsWithin (map Some s) q) e (λ x v k. k)))

module _ (law : OrderlyActionsAreGrounded) (grows : WholeStays) (shows : WholeShows) (agree : ShownAgrees) (g : Spec) (ready : IsReadySpec g) (s : Values) (state : IsState (length g.variables) s) (bound : ℕ) where
  -- a line

  module _ (stutter : Bool) (line : Line) (fits : IsReadyLine g line) where
    -- where its updates have no result
    pub unmoved : ((t : Values) → IsState (length s) t → Moves line.updates s t → ⊥) → (listed : Vec Values Global) → listed.items ≡ []
        → Gives (Step (asks g stutter line) s) (FaultStep (asks g stutter line) (updated line.updates) s) (AreSeen line.sees) bound (Ok listed)
    unmoved none listed e = gives_none (Step (asks g stutter line) s) (FaultStep (asks g stutter line) (updated line.updates) s) (AreSeen line.sees) bound
        (λ t h. no_step t h) (λ t f h k. none t (as_long t h.0) h.1) listed e
      where
        as_long : (t : Values) → IsState (length g.variables) t → IsState (length s) t
        as_long t h = subst (λ (n : ℕ). IsState n t) (sym state.long) h

        no_step : (t : Values) → Step (asks g stutter line) s t → ⊥
        no_step t h = elim h.1 [
          | inl k ↦ none t (as_long t h.0) k.0
          | inr k ↦ none t (as_long t h.0) k.2
        ]

    module _ (p : Places) (long : length p ≡ length s) (fills : Fills (updated line.updates) p) (values : HoldValues p) (exact : (t : Values) → Completes p t ↔ (IsState (length s) t × Moves line.updates s t)) where
      completed : (t : Values) → Completes p t → IsState (length g.variables) t × Moves line.updates s t
      completed t k = let h = (exact t).0 k in (subst (λ (n : ℕ). IsState n t) state.long h.0, h.1)

      completes : (t : Values) → IsState (length g.variables) t → Moves line.updates s t → Completes p t
      completes t h m = (exact t).1 (subst (λ (n : ℕ). IsState n t) (sym state.long) h, m)

      -- where what is seen of what they change is something else
      pub unseen : (Agrees line.sees p → ⊥) → (listed : Vec Values Global) → listed.items ≡ []
          → Gives (Step (asks g stutter line) s) (FaultStep (asks g stutter line) (updated line.updates) s) (AreSeen line.sees) bound (Ok listed)
      unseen other listed e = gives_none (Step (asks g stutter line) s) (FaultStep (asks g stutter line) (updated line.updates) s) (AreSeen line.sees) bound
          (λ t h. no_step t h) (λ t f h k. other (agree line.sees p t (completes t h.0 h.1) k)) listed e
        where
          no_step : (t : Values) → Step (asks g stutter line) s t → ⊥
          no_step t h = elim h.1 [
            | inl k ↦ other (agree line.sees p t (completes t h.0 k.0) k.2)
            | inr k ↦ other (agree line.sees p t (completes t h.0 k.2) k.3)
          ]

      pub line_start : Agrees line.sees p → IsStart g line.sees (act_of line.event) (updated line.updates) p
      line_start a = record { long = long ∙ state.long; fills = fills; agrees = a; acts = fits.event }

      module _ (seen : Agrees line.sees p) where
        -- a fault
        pub line_fault : (f : EvalFault) → BothFound g s line.sees (act_of line.event) p (Err f)
            → Gives (Step (asks g stutter line) s) (FaultStep (asks g stutter line) (updated line.updates) s) (AreSeen line.sees) bound (Err (step_fault f))
        line_fault (Refused kind at) w =
            let r = met (length g.variables) line.sees p (LeavesBoth g (act_of line.event) (updated line.updates)) (BothHold g (act_of line.event) s) (BothFail g (act_of line.event) (updated line.updates) s)
            (long ∙ state.long) values (record { kind = kind; at = at }) (w (updated line.updates) (line_start seen)) in
            let c = completed r.0 r.1 in
            (r.0, (c.0, c.1, r.2))
        line_fault NoMemory w = tt

        -- what is found, with the state itself where it may rest
        pub line_listed : (qs all : List Places) → BothFound g s line.sees (act_of line.event) p (Ok qs) → AddsIf (MayRest stutter line p (map Some s)) (map Some s) qs all
            → (r : Result (Vec Values Global) StepFault) → Gives (IsAmong all) (λ t f. ⊥) (λ t. Unit {0}) bound r
            → Gives (Step (asks g stutter line) s) (FaultStep (asks g stutter line) (updated line.updates) s) (AreSeen line.sees) bound r
        line_listed qs all w a r h =
            gives_same (IsAmong all) (Step (asks g stutter line) s) (FaultStep (asks g stutter line) (updated line.updates) s) (AreSeen line.sees) bound to_step from_step
            (λ t f k m. found.clean t f (completes t k.0 k.1) m k.2) r h
          where
            start : IsStart g line.sees (act_of line.event) (updated line.updates) p
            start = line_start seen

            found : Finds line.sees p (LeavesBoth g (act_of line.event) (updated line.updates)) (BothHold g (act_of line.event) s) (BothFail g (act_of line.event) (updated line.updates) s) qs
            found = w (updated line.updates) start

            step_of : (t : Values) → IsAmong qs t → Step (asks g stutter line) s t
            step_of t m =
                let r = among (length g.variables) line.sees p _ _ _ (long ∙ state.long) values qs (both_left law grows g ready line.sees (act_of line.event) (updated line.updates) p start) found shows fits.sees t m in
                let c = completed t r.0 in
                (c.0, inl (c.1, r.1, r.2))

            own : Completes (map Some s) s
            own = record { long = sym (map_long s); has = λ x v e. e; values = state.values }

            rest_step : MayRest stutter line p (map Some s) → Step (asks g stutter line) s s
            rest_step m =
                let k : Completes p s = record { long = sym long; has = m.2; values = state.values } in
                (state, inr ((m.0, m.1), refl, (completed s k).1, shows line.sees (map Some s) s refl (in_range line.sees fits.sees) m.3))
              where
                in_range : (sees : List See) → AreOfVariables g sees → All (λ see. see.path.variable.0 < length (map Some s)) sees
                in_range sees x = subst (λ (n : ℕ). All (λ (see : See). see.path.variable.0 < n) sees) (sym (map_long s ∙ state.long)) x

            may_rest : Rests (asks g stutter line) s s → MayRest stutter line p (map Some s)
            may_rest m = (m.0.0, m.0.1, (completes s state m.2).has, agree line.sees (map Some s) s own m.3)

            to_step : (t : Values) → IsAmong all t → Step (asks g stutter line) s t
            to_step t m = elim a [
              | inl b ↦ elim (in_append qs (map Some s ∷ []) (map Some t) (subst (λ (xs : List Places). Contains xs (map Some t)) b.1 m)) [
                | inl k ↦ step_of t k
                | inr k ↦ subst (λ (u : Values). Step (asks g stutter line) s u) (equal_state s t (in_one (map Some s) (map Some t) k)) (rest_step b.0)
              ]
              | inr b ↦ step_of t (subst (λ (xs : List Places). Contains xs (map Some t)) b.1 m)
            ]

            in_all : (t : Values) → IsAmong qs t → IsAmong all t
            in_all t m = elim a [
              | inl b ↦ subst (λ (xs : List Places). Contains xs (map Some t)) (sym b.1) (in_left qs (map Some s ∷ []) (map Some t) m)
              | inr b ↦ subst (λ (xs : List Places). Contains xs (map Some t)) (sym b.1) m
            ]

            rest_in : Rests (asks g stutter line) s s → IsAmong all s
            rest_in m = elim a [
              | inl b ↦ subst (λ (xs : List Places). Contains xs (map Some s)) (sym b.1) (in_right qs (map Some s ∷ []) (map Some s) (0, omega arith, refl))
              | inr b ↦ absurd (b.0 (may_rest m))
            ]

            from_step : (t : Values) → Step (asks g stutter line) s t → IsAmong all t
            from_step t k = elim k.1 [
              | inl m ↦ in_all t (among_them (length g.variables) line.sees p _ _ _ (long ∙ state.long) values qs (both_left law grows g ready line.sees (act_of line.event) (updated line.updates) p start) found t (completes t k.0 m.0) m.1 m.2)
              | inr m ↦ subst (IsAmong all) (sym m.1) (rest_in (subst (λ (u : Values). Rests (asks g stutter line) s u) m.1 m))
            ]

  -- a step that no line shows

  module _ (fills : Fills in_none (replicate (length g.variables) None)) where
    none_seen : (q : Places) → Agrees [] q
    none_seen q k d l = absurd (omega (arith, l))

    pub silent_start : IsStart g [] (silent_act g.silent) in_none (replicate (length g.variables) None)
    silent_start = record { long = long_of_empty (length g.variables); fills = fills; agrees = none_seen (replicate (length g.variables) None); acts = silent_ready g g.silent ready.ordered.silent ready.silent }

    pub silent_fault : (f : EvalFault) → BothFound g s [] (silent_act g.silent) (replicate (length g.variables) None) (Err f) → Gives (Silent g s) (FaultSilent g in_none s) (λ t. Unit {0}) bound (Err (step_fault f))
    silent_fault (Refused kind at) w =
        let r = met (length g.variables) [] (replicate (length g.variables) None) (LeavesBoth g (silent_act g.silent) in_none) (BothHold g (silent_act g.silent) s) (BothFail g (silent_act g.silent) in_none s)
        (long_of_empty (length g.variables)) (empty_values (length g.variables)) (record { kind = kind; at = at }) (w in_none silent_start) in
        (r.0, (empty_completed (length g.variables) r.0 r.1, r.2))
    silent_fault NoMemory w = tt

    pub silent_listed : (qs : List Places) → BothFound g s [] (silent_act g.silent) (replicate (length g.variables) None) (Ok qs) → (r : Result (Vec Values Global) StepFault)
        → Gives (IsAmong qs) (λ t f. ⊥) (λ t. Unit {0}) bound r → Gives (Silent g s) (FaultSilent g in_none s) (λ t. Unit {0}) bound r
    silent_listed qs w r h =
        gives_same (IsAmong qs) (Silent g s) (FaultSilent g in_none s) (λ t. Unit {0}) bound
        (λ t m. let x = among (length g.variables) [] (replicate (length g.variables) None) _ _ _ (long_of_empty (length g.variables)) (empty_values (length g.variables)) qs left found shows (λ k d l. absurd (omega (arith, l))) t m in
        (empty_completed (length g.variables) t x.0, x.1))
        (λ t m. among_them (length g.variables) [] (replicate (length g.variables) None) _ _ _ (long_of_empty (length g.variables)) (empty_values (length g.variables)) qs left found t (completes_empty (length g.variables) t m.0) m.1 (λ k d l. absurd (omega (arith, l))))
        (λ t f k m. found.clean t f (completes_empty (length g.variables) t k.0) (λ k d l. absurd (omega (arith, l))) k.1) r h
      where
        found : Finds [] (replicate (length g.variables) None) (LeavesBoth g (silent_act g.silent) in_none) (BothHold g (silent_act g.silent) s) (BothFail g (silent_act g.silent) in_none s) qs
        found = w in_none silent_start

        left : (E : VariableSet) × LeavesBoth g (silent_act g.silent) in_none E × ((x : ℕ) → x < length g.variables → E x ≡ true)
        left = both_left law grows g ready [] (silent_act g.silent) in_none (replicate (length g.variables) None) silent_start

-- the first states

-- what walking Init from nothing finds
abbrev pub InitFound : Spec → List See → Result (List Places) EvalFault → Type 0
InitFound g sees r = Found sees (replicate (length g.variables) None) (Fixes (setting which.Init g) g.init in_none) (InitHolds g) (InitFails g in_none) r

module _ (law : OrderlyActionsAreGrounded) (grows : WholeStays) (shows : WholeShows) (g : Spec) (ready : IsReadySpec g) (sees : List See) (bound : ℕ) where
  pub first_fault : (f : EvalFault) → InitFound g sees (Err f) → Gives (IsFirst g sees) (FaultFirst g in_none) (AreSeen sees) bound (Err (step_fault f))
  first_fault (Refused kind at) w =
      let r = met (length g.variables) sees (replicate (length g.variables) None) (Fixes (setting which.Init g) g.init in_none) (InitHolds g) (InitFails g in_none)
      (long_of_empty (length g.variables)) (empty_values (length g.variables)) (record { kind = kind; at = at }) w in
      (r.0, (empty_completed (length g.variables) r.0 r.1, r.2))
  first_fault NoMemory w = tt

  pub first_listed : AreOfVariables g sees → (qs : List Places) → InitFound g sees (Ok qs) → (r : Result (Vec Values Global) StepFault) → Gives (IsAmong qs) (λ t f. ⊥) (λ t. Unit {0}) bound r
      → Gives (IsFirst g sees) (FaultFirst g in_none) (AreSeen sees) bound r
  first_listed range qs w r h =
      gives_same (IsAmong qs) (IsFirst g sees) (FaultFirst g in_none) (AreSeen sees) bound
      (λ t m. let x = among (length g.variables) sees (replicate (length g.variables) None) _ _ _ (long_of_empty (length g.variables)) (empty_values (length g.variables)) qs (init_leaves g ready law grows) w shows range t m in
      ((empty_completed (length g.variables) t x.0, x.1), x.2))
      (λ t m. among_them (length g.variables) sees (replicate (length g.variables) None) _ _ _ (long_of_empty (length g.variables)) (empty_values (length g.variables)) qs (init_leaves g ready law grows) w t (completes_empty (length g.variables) t m.0.0) m.0.1 m.1)
      (λ t f k m. w.clean t f (completes_empty (length g.variables) t k.0) m k.1) r h
