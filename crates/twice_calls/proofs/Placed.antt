-- A step that a line of a file tells of stands in that file.
use Rattle.std.proofs.Common.{◌≡◌, ◌⊎◌, ◌++◌, ℕ, List, [], ◌∷◌, All, map, Bool, true, false, Option, Some, None, Result, Ok, Err, inl, inr, refl, sym, subst}
use Rattle.std.specs.Prelude.{MatchBool}
use Rattle.std.proofs.lemmas.List.Elements.{All-nil, All-push}
use Rattle.serde_json.specs.Data.{Members}
use Rattle.serde_json.specs.Find.{as_object}
use Rattle.values_core.specs.Data.{Val}
use Rattle.values_json.specs.Reads.{ReadsEach}
use Rattle.logs_shapes.specs.Shapes.{LineShape, shape_of}
use Rattle.logs_shapes.specs.declared.key.Key.{Key}
use Rattle.logs_shapes.specs.declared.key.Key.TheVariants as key
use Rattle.logs_updates.specs.declared.line.Line.{Line}
use Rattle.logs_updates.specs.declared.update.See.{See}
use Rattle.logs_updates.specs.declared.update.Update.{Update}
use Rattle.logs_updates.specs.declared.clock.Clock.{Clock}
use Rattle.logs_lines.specs.Clocks.{IsOtherForm, clock_or}
use Rattle.logs_lines.specs.Setting.{Setting}
use Rattle.logs_lines.specs.Values.{EachOf, SeeReads, UpdateReads}
use Rattle.logs_lines.specs.Lines.{ArgsSay, ClocksSay, EventIs, FormSays, HasNoForm, HasUnknown, InitSays, IsBlank, IsJson, LineSays, NamesSay, ObjectSays, OnBack, OnValue, SeesSay, ShapeSays, StepSays, TestsSay, TextSays, Unless, UpdatesSay, step_line}
use Rattle.logs_lines.specs.Files.{FileSays, GoesOn, LinesSay, behind_blank, behind_init, behind_step, first_line, nothing_found, pieces_of}
use Rattle.logs_lines.specs.declared.clocks.ClockForm.{ClockForm}
use Rattle.logs_lines.specs.declared.position.Position.{Position}
use Rattle.logs_lines.specs.declared.kind.LogKind.{LogKind}
use Rattle.logs_lines.specs.declared.kind.LogKind.TheVariants as kind
use Rattle.logs_lines.specs.declared.kind.Outcome.{Outcome}
use Rattle.logs_lines.specs.declared.kind.Outcome.TheVariants.{Blank, Init, Step, Refused}
use Rattle.logs_lines.specs.declared.file.FileLines.{FileLines}
use Rattle.logs_lines.specs.declared.file.Refusal.{Refusal}

-- the line stands in the file of that number
abbrev pub StandsInFile : ℕ → Line → Type 0
StandsInFile file line = line.at.file ≡ file

abbrev IfStep : ℕ → Outcome → Type 0
IfStep file Blank = Unit {0}
IfStep file (Init sees) = Unit {0}
IfStep file (Step line form) = StandsInFile file line
IfStep file (Refused why) = Unit {0}

module _ (g : Setting) (at : Position) where
  abbrev So : Outcome → Type 0
  So o = IfStep at.file o

  unless : (Bad : Type 0) (why : LogKind) (Q : Outcome → Type 0) (o : Outcome) → (Q o → So o) → Unless Bad why Q o → So o
  unless Bad why Q o next (inl a) = subst So (sym a.1) tt
  unless Bad why Q o next (inr a) = next a.1

  on_back : (before clock : Clock) (Q : Outcome → Type 0) (o : Outcome) → (Q o → So o) → OnBack before clock Q o → So o
  on_back before clock Q o next (inl a) = subst So (sym a.2) tt
  on_back before clock Q o next (inr a) = next a.1

  on_value : {A : Type 0} (P : A → Type 0) (why : LogKind) (Q : A → Outcome → Type 0) (o : Outcome) → ((a : A) → Q a o → So o) → OnValue P why Q o → So o
  on_value P why Q o next (inl a) = next a.0 a.2
  on_value P why Q o next (inr a) = subst So (sym a.1) tt

  module _ (s : LineShape) (event : Option (ℕ × ℕ)) (args : List Val) (us : List Update) (sees : List See) (o : Outcome) where
    in_form : FormSays g at s (record { event = event; args = args; updates = us; sees = sees }) o → So o
    in_form h =
        unless (HasNoForm g event us) kind.EventNotFixed (λ x. x ≡ step_line at s (record { event = event; args = args; updates = us; sees = sees })) o
        (λ e. subst So (sym e) refl) h

    in_names : NamesSay g at s (record { event = event; args = args; updates = us; sees = sees }) o → So o
    in_names h =
        unless _ _ (Unless (HasUnknown g (map (λ v. v.path.name) s.sees)) kind.UnknownVariable (FormSays g at s (record { event = event; args = args; updates = us; sees = sees }))) o
        (λ a. unless _ _ (FormSays g at s (record { event = event; args = args; updates = us; sees = sees })) o (λ b. in_form b) a) h

    in_clocks : ClocksSay g at s (record { event = event; args = args; updates = us; sees = sees }) o → So o
    in_clocks h =
        let Names : Outcome → Type 0 = NamesSay g at s (record { event = event; args = args; updates = us; sees = sees }) in
        let after : Clock = clock_or at.clock s.clock in
        unless _ _ (Unless (IsOtherForm at.form s.clock) kind.ClockKind (OnBack at.clock after Names)) o
        (λ a. unless _ _ (OnBack at.clock after Names) o (λ b. on_back at.clock after Names o (λ c. in_names c) b) a) h

    in_tests : TestsSay g at s (record { event = event; args = args; updates = us; sees = sees }) o → So o
    in_tests h = unless _ _ (ClocksSay g at s (record { event = event; args = args; updates = us; sees = sees })) o (λ a. in_clocks a) h

  in_sees : (s : LineShape) (event : Option (ℕ × ℕ)) (args : List Val) (us : List Update) (o : Outcome) → SeesSay g at s event args us o → So o
  in_sees s event args us o h =
      on_value (EachOf (SeeReads g) s.sees) (kind.BadValue key.See) (λ sees. TestsSay g at s (record { event = event; args = args; updates = us; sees = sees })) o
      (λ sees a. in_tests s event args us sees o a) h

  in_updates : (s : LineShape) (event : Option (ℕ × ℕ)) (args : List Val) (o : Outcome) → UpdatesSay g at s event args o → So o
  in_updates s event args o h = on_value (EachOf (UpdateReads g) s.updates) (kind.BadValue key.Update) (SeesSay g at s event args) o (λ us a. in_sees s event args us o a) h

  in_args : (s : LineShape) (event : Option (ℕ × ℕ)) (o : Outcome) → ArgsSay g at s event o → So o
  in_args s event o h = on_value (ReadsEach s.args) (kind.BadValue key.Args) (UpdatesSay g at s event) o (λ args a. in_updates s event args o a) h

  in_step : (s : LineShape) (o : Outcome) → StepSays g at s o → So o
  in_step s o h =
      unless _ _ (OnValue (EventIs g s.event) kind.UnknownEvent (ArgsSay g at s)) o
      (λ a. on_value (EventIs g s.event) kind.UnknownEvent (ArgsSay g at s) o (λ event b. in_args s event o b) a) h

  in_init : (s : LineShape) (o : Outcome) → InitSays g at s o → So o
  in_init s o h =
      unless _ _ (OnValue (EachOf (SeeReads g) s.sees) (kind.BadValue key.See) (λ sees. Unless (HasUnknown g (map (λ v. v.path.name) s.sees)) kind.UnknownVariable (λ q. q ≡ Init sees))) o
      (λ a. on_value (EachOf (SeeReads g) s.sees) (kind.BadValue key.See) (λ sees. Unless (HasUnknown g (map (λ v. v.path.name) s.sees)) kind.UnknownVariable (λ q. q ≡ Init sees)) o
      (λ sees b. unless _ _ (λ q. q ≡ Init sees) o (λ e. subst So (sym e) tt) b) a) h

  by_init : (b : Bool) {A B X : Type 0} → (A → X) → (B → X) → MatchBool b A B → X
  by_init true f k h = f h
  by_init false f k h = k h

  in_shape : (r : Result LineShape Key) (o : Outcome) → ShapeSays g at r o → So o
  in_shape (Err x) o h = subst So (sym h) tt
  in_shape (Ok s) o h = by_init s.init (in_init s o) (in_step s o) h

  in_object : (ms : Option Members) (o : Outcome) → ObjectSays g at ms o → So o
  in_object None o h = subst So (sym h) tt
  in_object (Some ms) o h = in_shape (shape_of ms) o h

  in_text : (line : List ℕ) (o : Outcome) → (IsBlank line × (o ≡ Blank)) ⊎ (¬ IsBlank line × TextSays g at line o) → So o
  in_text line o (inl a) = subst So (sym a.1) tt
  in_text line o (inr a) = on_value (IsJson line) kind.NotJson (λ d. ObjectSays g at (as_object d)) o (λ d b. in_object (as_object d) o b) a.1

  step_stands : (line : List ℕ) (o : Outcome) → LineSays g at line o → So o
  step_stands line o h = unless _ _ (λ x. (IsBlank line × (x ≡ Blank)) ⊎ (¬ IsBlank line × TextSays g at line x)) o (λ a. in_text line o a) h

ok_is : (a b : FileLines) (r s : Result FileLines Refusal) → r ≡ Ok a → s ≡ Ok b → r ≡ s → a ≡ b
ok_is a b r s x y e = cc

abbrev AllStand : ℕ → FileLines → Type 0
AllStand file f = All (StandsInFile file) f.steps

module _ (g : Setting) where
  -- a line keeps what was so, and so do those behind it
  lines_on : (file : ℕ) (rest : List (List ℕ)) (f : FileLines) (at : Position) (found : FileLines) (o : Outcome) → at.file ≡ file
      → ((next : Position) (more : FileLines) → next.file ≡ file → AllStand file more → LinesSay g next more rest (Ok f) → AllStand file f)
      → AllStand file found → IfStep at.file o → GoesOn (λ next more. LinesSay g next more rest (Ok f)) at found (Ok f) o → AllStand file f
  lines_on file rest f at found Blank same next k so h = next (behind_blank at) found same k h
  lines_on file rest f at found (Init sees) same next k so h = next (behind_init at) (record { init = Some sees; steps = found.steps; form = found.form }) same k h
  lines_on file rest f at found (Step line form) same next k so h =
      let stands : StandsInFile file line = subst (λ (n : ℕ). StandsInFile n line) same so in
      next (behind_step at form line.clock) (record { init = found.init; steps = found.steps ++ line ∷ []; form = form }) same (All-push (StandsInFile file) found.steps line k stands) h
  lines_on file rest f at found (Refused why) same next k so h = absurd cc

  lines_stand : (file : ℕ) (ps : List (List ℕ)) (f : FileLines) (at : Position) (found : FileLines) → at.file ≡ file → AllStand file found → LinesSay g at found ps (Ok f)
      → AllStand file f
  lines_stand file [] f at found same k h = subst (AllStand file) (sym (ok_is f found (Ok f) (Ok found) refl refl h)) k
  lines_stand file (p ∷ ps) f at found same k h = lines_on file ps f at found h.0 same (lines_stand file ps f) k (step_stands g at p h.0 h.1) h.2

  pub file_stands : (file : ℕ) (many : Bool) (room : ℕ) (form : ClockForm) (bytes : List ℕ) (f : FileLines) → FileSays g (first_line file many room form) bytes (Ok f) → All (StandsInFile file) f.steps
  file_stands file many room form bytes f h = lines_stand file (pieces_of bytes) f (first_line file many room form) (nothing_found form) refl (All-nil (StandsInFile file)) h
