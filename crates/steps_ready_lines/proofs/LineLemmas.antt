-- A line that was read under the names of a specification.
use Rattle.std.proofs.Common.{◌≡◌, ◌⊎◌, ℕ, List, map, length, Bool, true, false, Option, Some, None, Result, Ok, Err, inl, inr, sym, subst}
use Rattle.std.specs.Prelude.{MatchBool}
use Rattle.serde_json.specs.Data.{Members}
use Rattle.serde_json.specs.Find.{as_object}
use Rattle.values_core.specs.Data.{Val}
use Rattle.names_terms.specs.declared.spec.Spec.{Spec}
use Rattle.names_specification_laws.specs.IsSpec.{IsSpec}
use Rattle.values_json.specs.Reads.{ReadsEach}
use Rattle.logs_shapes.specs.Shapes.{LineShape, shape_of}
use Rattle.logs_shapes.specs.declared.key.Key.{Key}
use Rattle.logs_shapes.specs.declared.key.Key.TheVariants as key
use Rattle.logs_updates.specs.declared.update.See.{See}
use Rattle.logs_updates.specs.declared.update.Update.{Update}
use Rattle.logs_updates.specs.declared.clock.Clock.{Clock}
use Rattle.logs_lines.specs.Clocks.{IsOtherForm, clock_or}
use Rattle.logs_lines.specs.Values.{EachOf, SeeReads, UpdateReads}
use Rattle.logs_lines.specs.Lines.{ArgsSay, ClocksSay, EventIs, FormSays, HasNoForm, HasUnknown, InitSays, IsBlank, IsJson, LineSays, NamesSay, ObjectSays, OnBack, OnValue, SeesSay, ShapeSays, StepSays, TestsSay, TextSays, Unless, UpdatesSay, params_of, step_line}
use Rattle.logs_lines.specs.declared.position.Position.{Position}
use Rattle.logs_lines.specs.declared.kind.LogKind.{LogKind}
use Rattle.logs_lines.specs.declared.kind.LogKind.TheVariants as kind
use Rattle.logs_lines.specs.declared.kind.Outcome.{Outcome}
use Rattle.logs_lines.specs.declared.kind.Outcome.TheVariants.{Blank, Init, Step, Refused}
use Rattle.steps_names.specs.Names.{names_of}
use Rattle.steps_ready_lines.specs.Lines.{HasValues}
use Rattle.steps_ready_defs.specs.Ready.{AreOfVariables, IsReadyLine}
use Rattle.steps_ready_lines.proofs.Events.{FormLaws, ready_event}
use Rattle.steps_ready_lines.proofs.Variables.{sees_within, updates_within}

-- what is so of what a line says
abbrev pub IfReady : Spec → Outcome → Type 0
IfReady s Blank = Unit {0}
IfReady s (Init sees) = AreOfVariables s sees
IfReady s (Step line form) = HasValues line.event → IsReadyLine s line
IfReady s (Refused why) = Unit {0}

module _ (s : Spec) (is : IsSpec s) (laws : FormLaws) where
  unless : (Bad : Type 0) (why : LogKind) (Q : Outcome → Type 0) (o : Outcome) → (¬ Bad → Q o → IfReady s o) → Unless Bad why Q o → IfReady s o
  unless Bad why Q o next (inl a) = subst (IfReady s) (sym a.1) tt
  unless Bad why Q o next (inr a) = next a.0 a.1

  on_back : (before clock : Clock) (Q : Outcome → Type 0) (o : Outcome) → (Q o → IfReady s o) → OnBack before clock Q o → IfReady s o
  on_back before clock Q o next (inl a) = subst (IfReady s) (sym a.2) tt
  on_back before clock Q o next (inr a) = next a.1

  on_value : {A : Type 0} (P : A → Type 0) (why : LogKind) (Q : A → Outcome → Type 0) (o : Outcome) → ((a : A) → P a → Q a o → IfReady s o) → OnValue P why Q o → IfReady s o
  on_value P why Q o next (inl a) = next a.0 a.1 a.2
  on_value P why Q o next (inr a) = subst (IfReady s) (sym a.1) tt

  -- what was found of the parts of a step's line
  record Found (h : LineShape) (event : Option (ℕ × ℕ)) (args : List Val) (us : List Update) (sees : List See) : Type 0 where
    told : EventIs (names_of s) h.event event
    changed : EachOf (UpdateReads (names_of s)) h.updates us
    seen : EachOf (SeeReads (names_of s)) h.sees sees

  in_form : (at : Position) (h : LineShape) (event : Option (ℕ × ℕ)) (args : List Val) (us : List Update) (sees : List See) (o : Outcome) → Found h event args us sees → ¬ (length args ≡ params_of event → ⊥)
      → ¬ HasUnknown (names_of s) (map (λ u. u.path.name) h.updates) → ¬ HasUnknown (names_of s) (map (λ v. v.path.name) h.sees)
      → FormSays (names_of s) at h (record { event = event; args = args; updates = us; sees = sees }) o → IfReady s o
  in_form at h event args us sees o found count changed seen says =
      unless (HasNoForm (names_of s) event us) kind.EventNotFixed (λ x. x ≡ step_line at h (record { event = event; args = args; updates = us; sees = sees })) o
      (λ form e. subst (IfReady s) (sym e) (λ values. record {
        updates = updates_within s h.updates us found.changed changed;
        sees = sees_within s h.sees sees found.seen seen;
        event = ready_event s h.event event args us laws is found.told count values form;
      })) says

  in_names : (at : Position) (h : LineShape) (event : Option (ℕ × ℕ)) (args : List Val) (us : List Update) (sees : List See) (o : Outcome) → Found h event args us sees → ¬ (length args ≡ params_of event → ⊥)
      → NamesSay (names_of s) at h (record { event = event; args = args; updates = us; sees = sees }) o → IfReady s o
  in_names at h event args us sees o found count says =
      unless _ _ (Unless (HasUnknown (names_of s) (map (λ v. v.path.name) h.sees)) kind.UnknownVariable (FormSays (names_of s) at h (record { event = event; args = args; updates = us; sees = sees }))) o
      (λ changed a. unless _ _ (FormSays (names_of s) at h (record { event = event; args = args; updates = us; sees = sees })) o (λ seen b. in_form at h event args us sees o found count changed seen b) a) says

  in_clocks : (at : Position) (h : LineShape) (event : Option (ℕ × ℕ)) (args : List Val) (us : List Update) (sees : List See) (o : Outcome) → Found h event args us sees → ¬ (length args ≡ params_of event → ⊥)
      → ClocksSay (names_of s) at h (record { event = event; args = args; updates = us; sees = sees }) o → IfReady s o
  in_clocks at h event args us sees o found count says =
      let Names : Outcome → Type 0 = NamesSay (names_of s) at h (record { event = event; args = args; updates = us; sees = sees }) in
      let after : Clock = clock_or at.clock h.clock in
      unless _ _ (Unless (IsOtherForm at.form h.clock) kind.ClockKind (OnBack at.clock after Names)) o
      (λ n a. unless _ _ (OnBack at.clock after Names) o (λ m b. on_back at.clock after Names o (λ c. in_names at h event args us sees o found count c) b) a) says

  in_tests : (at : Position) (h : LineShape) (event : Option (ℕ × ℕ)) (args : List Val) (us : List Update) (sees : List See) (o : Outcome) → Found h event args us sees
      → TestsSay (names_of s) at h (record { event = event; args = args; updates = us; sees = sees }) o → IfReady s o
  in_tests at h event args us sees o found says =
      unless _ _ (ClocksSay (names_of s) at h (record { event = event; args = args; updates = us; sees = sees })) o (λ count a. in_clocks at h event args us sees o found count a) says

  in_sees : (at : Position) (h : LineShape) (event : Option (ℕ × ℕ)) (args : List Val) (us : List Update) (o : Outcome) → EventIs (names_of s) h.event event → EachOf (UpdateReads (names_of s)) h.updates us
      → SeesSay (names_of s) at h event args us o → IfReady s o
  in_sees at h event args us o told updates says =
      on_value (EachOf (SeeReads (names_of s)) h.sees) (kind.BadValue key.See) (λ sees. TestsSay (names_of s) at h (record { event = event; args = args; updates = us; sees = sees })) o
      (λ sees q a. in_tests at h event args us sees o (record { told = told; changed = updates; seen = q }) a) says

  in_updates : (at : Position) (h : LineShape) (event : Option (ℕ × ℕ)) (args : List Val) (o : Outcome) → EventIs (names_of s) h.event event → UpdatesSay (names_of s) at h event args o → IfReady s o
  in_updates at h event args o told says =
      on_value (EachOf (UpdateReads (names_of s)) h.updates) (kind.BadValue key.Update) (SeesSay (names_of s) at h event args) o (λ us q a. in_sees at h event args us o told q a) says

  in_args : (at : Position) (h : LineShape) (event : Option (ℕ × ℕ)) (o : Outcome) → EventIs (names_of s) h.event event → ArgsSay (names_of s) at h event o → IfReady s o
  in_args at h event o told says = on_value (ReadsEach h.args) (kind.BadValue key.Args) (UpdatesSay (names_of s) at h event) o (λ args q a. in_updates at h event args o told a) says

  in_step : (at : Position) (h : LineShape) (o : Outcome) → StepSays (names_of s) at h o → IfReady s o
  in_step at h o says =
      unless _ _ (OnValue (EventIs (names_of s) h.event) kind.UnknownEvent (ArgsSay (names_of s) at h)) o
      (λ n a. on_value (EventIs (names_of s) h.event) kind.UnknownEvent (ArgsSay (names_of s) at h) o (λ event told b. in_args at h event o told b) a) says

  in_init : (at : Position) (h : LineShape) (o : Outcome) → InitSays (names_of s) at h o → IfReady s o
  in_init at h o says =
      unless _ _ (OnValue (EachOf (SeeReads (names_of s)) h.sees) (kind.BadValue key.See) (λ sees. Unless (HasUnknown (names_of s) (map (λ v. v.path.name) h.sees)) kind.UnknownVariable (λ q. q ≡ Init sees))) o
      (λ n a. on_value (EachOf (SeeReads (names_of s)) h.sees) (kind.BadValue key.See) (λ sees. Unless (HasUnknown (names_of s) (map (λ v. v.path.name) h.sees)) kind.UnknownVariable (λ q. q ≡ Init sees)) o
      (λ sees q b. unless _ _ (λ x. x ≡ Init sees) o (λ m e. subst (IfReady s) (sym e) (sees_within s h.sees sees q m)) b) a) says

  by_init : (b : Bool) {A B X : Type 0} → (A → X) → (B → X) → MatchBool b A B → X
  by_init true f k h = f h
  by_init false f k h = k h

  in_shape : (at : Position) (r : Result LineShape Key) (o : Outcome) → ShapeSays (names_of s) at r o → IfReady s o
  in_shape at (Err x) o says = subst (IfReady s) (sym says) tt
  in_shape at (Ok h) o says = by_init h.init (in_init at h o) (in_step at h o) says

  in_object : (at : Position) (ms : Option Members) (o : Outcome) → ObjectSays (names_of s) at ms o → IfReady s o
  in_object at None o says = subst (IfReady s) (sym says) tt
  in_object at (Some ms) o says = in_shape at (shape_of ms) o says

  in_text : (at : Position) (line : List ℕ) (o : Outcome) → (IsBlank line × (o ≡ Blank)) ⊎ (¬ IsBlank line × TextSays (names_of s) at line o) → IfReady s o
  in_text at line o (inl a) = subst (IfReady s) (sym a.1) tt
  in_text at line o (inr a) = on_value (IsJson line) kind.NotJson (λ d. ObjectSays (names_of s) at (as_object d)) o (λ d q b. in_object at (as_object d) o b) a.1

  pub line_ready : (at : Position) (line : List ℕ) (o : Outcome) → LineSays (names_of s) at line o → IfReady s o
  line_ready at line o says = unless _ _ (λ x. (IsBlank line × (x ≡ Blank)) ⊎ (¬ IsBlank line × TextSays (names_of s) at line x)) o (λ n a. in_text at line o a) says
