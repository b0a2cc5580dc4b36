-- What a line says over one setting, it says over one that is alike, but for the numbers of definitions.
use Rattle.std.proofs.Common.{◌≡◌, ◌⊎◌, ℕ, List, [], ◌∷◌, length, map, Bool, true, false, Option, Some, None, Result, Ok, Err, inl, inr, refl, ap, sym, ◌∙◌, subst}
use Rattle.std.specs.Prelude.{MatchBool, is_some, unwrap_or}
use Rattle.std.specs.List.{list_all}
use Rattle.serde_json.specs.Data.{Members}
use Rattle.serde_json.specs.Find.{as_object}
use Rattle.values_core.specs.Data.{Val}
use Rattle.names_terms.specs.declared.operator.Operator.{Operator}
use Rattle.values_json.specs.Reads.{ReadsEach}
use Rattle.logs_shapes.specs.Parts.{PathShape, SeeShape, UpdateShape}
use Rattle.logs_shapes.specs.Shapes.{LineShape, shape_of}
use Rattle.logs_shapes.specs.declared.key.Key.{Key}
use Rattle.logs_shapes.specs.declared.key.Key.TheVariants as key
use Rattle.logs_updates.specs.Paths.{KeyPath}
use Rattle.logs_updates.specs.declared.update.See.{See}
use Rattle.logs_updates.specs.declared.update.Update.{Update}
use Rattle.logs_updates.specs.declared.clock.Clock.{Clock}
use Rattle.logs_lines.specs.Clocks.{IsMissing, IsOtherForm, clock_or}
use Rattle.logs_lines.specs.Setting.{Setting}
use Rattle.logs_lines.specs.Values.{EachOf, PathReads, SeeReads, UpdateReads}
use Rattle.logs_lines.specs.Lines.{ArgsSay, ClocksSay, EventIs, FormSays, HasNoForm, HasUnknown, InitSays, IsBlank, IsJson, LineSays, NamesSay, ObjectSays, OnBack, OnValue, SeesSay, ShapeSays, StepSays, TestsSay, TextSays, Unless, UpdatesSay, event_with, params_of, step_line}
use Rattle.logs_lines.specs.declared.position.Position.{Position}
use Rattle.logs_lines.specs.declared.kind.LogKind.{LogKind}
use Rattle.logs_lines.specs.declared.kind.LogKind.TheVariants as kind
use Rattle.logs_lines.specs.declared.kind.Outcome.{Outcome}
use Rattle.logs_lines.specs.declared.kind.Outcome.TheVariants.{Blank, Init, Refused}
use Rattle.twice_logs.specs.AlikeLogs.{AlikeEvents, both_events, no_event}
use Rattle.twice_logs.specs.AlikeFiles.{AlikeOutcomes, both_blank, both_init, both_refused, both_step}
use Rattle.twice_logs.specs.AlikeNames.{AlikeTold, TellAlike, both_told, none_told}

none_is_some : {A : Type 0} (a : A) → None ≡ Some a → ⊥
none_is_some a e = cc

params_same : (ops all : List Operator) (e f : Option (ℕ × ℕ)) → AlikeTold ops all e f → params_of e ≡ params_of f
params_same ops all _ _ none_told = refl
params_same ops all _ _ (both_told k j n rows) = refl

events_alike : (ops all : List Operator) (e f : Option (ℕ × ℕ)) (args : List Val) → AlikeTold ops all e f → AlikeEvents ops all (event_with e args) (event_with f args)
events_alike ops all _ _ args none_told = no_event
events_alike ops all _ _ args (both_told k j n rows) = both_events k j args rows

-- the operator that is told of the name in both
told_alike : (ops all : List Operator) (e f : Option (ℕ × ℕ)) (a : ℕ × ℕ) → AlikeTold ops all e f → e ≡ Some a → (b : ℕ × ℕ) × (f ≡ Some b) × AlikeTold ops all (Some a) (Some b)
told_alike ops all _ _ a none_told h = absurd (none_is_some _ h)
told_alike ops all _ _ a (both_told k j n rows) h = ((j, n), refl, subst (λ x. AlikeTold ops all x (Some (j, n))) h (both_told k j n rows))

told_back : (ops all : List Operator) (e f : Option (ℕ × ℕ)) (b : ℕ × ℕ) → AlikeTold ops all e f → f ≡ Some b → (a : ℕ × ℕ) × (e ≡ Some a)
told_back ops all _ _ b none_told h = absurd (none_is_some _ h)
told_back ops all _ _ b (both_told k j n rows) h = ((k, n), refl)

each_weaker : {A B : Type 0} (R S : A → B → Type 0) (xs : List A) (ys : List B) → ((a : A) (b : B) → R a b → S a b) → EachOf R xs ys → EachOf S xs ys
each_weaker R S [] [] more h = h
each_weaker R S [] (y ∷ ys) more h = absurd h
each_weaker R S (x ∷ xs) [] more h = absurd h
each_weaker R S (x ∷ xs) (y ∷ ys) more h = (more x y h.0, each_weaker R S xs ys more h.1)

paths_read : (g h : Setting) → ((name : List ℕ) → g.variable name ≡ h.variable name) → (p : PathShape) (path : KeyPath) → PathReads g p path → PathReads h p path
paths_read g h same p path r = (r.0 ∙ ap (λ v. unwrap_or v (record { 0 = 0 })) (same p.name), r.1)

sees_read : (g h : Setting) → ((name : List ℕ) → g.variable name ≡ h.variable name) → (ss : List SeeShape) (sees : List See) → EachOf (SeeReads g) ss sees → EachOf (SeeReads h) ss sees
sees_read g h same ss sees r = each_weaker (SeeReads g) (SeeReads h) ss sees (λ s see q. (paths_read g h same s.path see.path q.0, q.1)) r

updates_read : (g h : Setting) → ((name : List ℕ) → g.variable name ≡ h.variable name) → (us : List UpdateShape) (updates : List Update) → EachOf (UpdateReads g) us updates
    → EachOf (UpdateReads h) us updates
updates_read g h same us updates r = each_weaker (UpdateReads g) (UpdateReads h) us updates (λ u update q. (paths_read g h same u.path update.path q.0, q.1)) r

unknown_same : (g h : Setting) → ((name : List ℕ) → g.variable name ≡ h.variable name) → (names : List (List ℕ)) → HasUnknown g names → HasUnknown h names
unknown_same g h same names u = subst (λ (f : List ℕ → Bool). list_all f names ≡ false) (λ i name. is_some (same name i)) u

module _ (ops all : List Operator) where
  -- over the other setting there is an outcome that is alike
  abbrev pub Carried : (Outcome → Type 0) → Outcome → Type 0
  Carried Q o = (p : Outcome) × Q p × AlikeOutcomes ops all o p

  refused_alike : (why : LogKind) (o : Outcome) → o ≡ Refused why → AlikeOutcomes ops all o (Refused why)
  refused_alike why o e = subst (λ x. AlikeOutcomes ops all x (Refused why)) (sym e) (both_refused why)

  unless_carried : (Bad Worse : Type 0) (why : LogKind) (Q R : Outcome → Type 0) (o : Outcome) → (Bad → Worse) → (Worse → Bad) → (Q o → Carried R o) → Unless Bad why Q o
      → Carried (Unless Worse why R) o
  unless_carried Bad Worse why Q R o there back next (inl a) = (Refused why, inl (there a.0, refl), refused_alike why o a.1)
  unless_carried Bad Worse why Q R o there back next (inr a) = let n = next a.1 in (n.0, inr (λ w. a.0 (back w), n.1), n.2)

  back_carried : (before clock : Clock) (Q R : Outcome → Type 0) (o : Outcome) → (Q o → Carried R o) → OnBack before clock Q o → Carried (OnBack before clock R) o
  back_carried before clock Q R o next (inl a) = (Refused a.0, inl (a.0, a.1, refl), refused_alike a.0 o a.2)
  back_carried before clock Q R o next (inr a) = let n = next a.1 in (n.0, inr (a.0, n.1), n.2)

  value_carried : {A : Type 0} (P S : A → Type 0) (Same : A → A → Type 0) (why : LogKind) (Q R : A → Outcome → Type 0) (o : Outcome) → ((a : A) → P a → (b : A) × S b × Same a b)
      → ((b : A) → S b → (a : A) × P a) → ((a b : A) → Same a b → Q a o → Carried (R b) o) → OnValue P why Q o → Carried (OnValue S why R) o
  value_carried P S Same why Q R o there back next (inl a) = let b = there a.0 a.1 in let n = next a.0 b.0 b.2 a.2 in (n.0, inl (b.0, b.1, n.1), n.2)
  value_carried P S Same why Q R o there back next (inr a) = (Refused why, inr (λ b s. let p = back b s in a.0 p.0 p.1, refl), refused_alike why o a.1)

  -- where the value is the same
  same_carried : {A : Type 0} (P S : A → Type 0) (why : LogKind) (Q R : A → Outcome → Type 0) (o : Outcome) → ((a : A) → P a → S a) → ((a : A) → S a → P a)
      → ((a : A) → Q a o → Carried (R a) o) → OnValue P why Q o → Carried (OnValue S why R) o
  same_carried {A} P S why Q R o there back next h =
      value_carried P S (λ a b. a ≡ b) why Q R o (λ a p. (a, there a p, refl)) (λ b s. (b, back b s)) (λ a b e q. subst (λ (x : A). Carried (R x) o) e (next a q)) h

  either_carried : (b : Bool) (P Q R S : Outcome → Type 0) (o : Outcome) → (P o → Carried R o) → (Q o → Carried S o) → MatchBool b (P o) (Q o) → Carried (λ p. MatchBool b (R p) (S p)) o
  either_carried true P Q R S o f g h = f h
  either_carried false P Q R S o f g h = g h

module _ (ops all : List Operator) (g h : Setting) (alike : TellAlike ops all g h) where
  other_name : (name : List ℕ) → h.variable name ≡ g.variable name
  other_name name = sym (alike.variables name)

  no_form : (e f : Option (ℕ × ℕ)) (us : List Update) → AlikeTold ops all e f → HasNoForm g e us → HasNoForm h f us
  no_form _ _ us none_told u = u
  no_form _ _ us (both_told k j n rows) u = λ form. u (alike.other_forms k j us rows form)

  no_form_back : (e f : Option (ℕ × ℕ)) (us : List Update) → AlikeTold ops all e f → HasNoForm h f us → HasNoForm g e us
  no_form_back _ _ us none_told u = u
  no_form_back _ _ us (both_told k j n rows) u = λ form. u (alike.forms k j us rows form)

  line_alike : (at : Position) (s : LineShape) (e f : Option (ℕ × ℕ)) (args : List Val) (us : List Update) (sees : List See) → AlikeTold ops all e f
      → AlikeOutcomes ops all (step_line at s (record { event = e; args = args; updates = us; sees = sees })) (step_line at s (record { event = f; args = args; updates = us; sees = sees }))
  line_alike at s e f args us sees told = both_step _ _ _ (record { at = refl; clock = refl; event = events_alike ops all e f args told; updates = refl; sees = refl })

  form_carried : (at : Position) (s : LineShape) (e f : Option (ℕ × ℕ)) (args : List Val) (us : List Update) (sees : List See) (o : Outcome) → AlikeTold ops all e f
      → FormSays g at s (record { event = e; args = args; updates = us; sees = sees }) o
      → Carried ops all (FormSays h at s (record { event = f; args = args; updates = us; sees = sees })) o
  form_carried at s e f args us sees o told =
      let line : Outcome = step_line at s (record { event = e; args = args; updates = us; sees = sees }) in
      let other : Outcome = step_line at s (record { event = f; args = args; updates = us; sees = sees }) in
      unless_carried ops all (HasNoForm g e us) (HasNoForm h f us) kind.EventNotFixed (λ x. x ≡ line) (λ x. x ≡ other) o (no_form e f us told) (no_form_back e f us told)
      (λ is. (other, refl, subst (λ x. AlikeOutcomes ops all x other) (sym is) (line_alike at s e f args us sees told)))

  unknown_carried : (names : List (List ℕ)) (Q R : Outcome → Type 0) (o : Outcome) → (Q o → Carried ops all R o) → Unless (HasUnknown g names) kind.UnknownVariable Q o
      → Carried ops all (Unless (HasUnknown h names) kind.UnknownVariable R) o
  unknown_carried names Q R o next u =
      unless_carried ops all (HasUnknown g names) (HasUnknown h names) kind.UnknownVariable Q R o (unknown_same g h alike.variables names) (unknown_same h g other_name names) next u

  names_carried : (at : Position) (s : LineShape) (e f : Option (ℕ × ℕ)) (args : List Val) (us : List Update) (sees : List See) (o : Outcome) → AlikeTold ops all e f
      → NamesSay g at s (record { event = e; args = args; updates = us; sees = sees }) o
      → Carried ops all (NamesSay h at s (record { event = f; args = args; updates = us; sees = sees })) o
  names_carried at s e f args us sees o told =
      let Says : Outcome → Type 0 = FormSays g at s (record { event = e; args = args; updates = us; sees = sees }) in
      let Other : Outcome → Type 0 = FormSays h at s (record { event = f; args = args; updates = us; sees = sees }) in
      unknown_carried (map (λ u. u.path.name) s.updates) (Unless (HasUnknown g (map (λ v. v.path.name) s.sees)) kind.UnknownVariable Says)
      (Unless (HasUnknown h (map (λ v. v.path.name) s.sees)) kind.UnknownVariable Other) o
      (unknown_carried (map (λ v. v.path.name) s.sees) Says Other o (form_carried at s e f args us sees o told))

  clocks_carried : (at : Position) (s : LineShape) (e f : Option (ℕ × ℕ)) (args : List Val) (us : List Update) (sees : List See) (o : Outcome) → AlikeTold ops all e f
      → ClocksSay g at s (record { event = e; args = args; updates = us; sees = sees }) o
      → Carried ops all (ClocksSay h at s (record { event = f; args = args; updates = us; sees = sees })) o
  clocks_carried at s e f args us sees o told =
      let after : Clock = clock_or at.clock s.clock in
      let Says : Outcome → Type 0 = NamesSay g at s (record { event = e; args = args; updates = us; sees = sees }) in
      let Other : Outcome → Type 0 = NamesSay h at s (record { event = f; args = args; updates = us; sees = sees }) in
      let Form : Type 0 = IsOtherForm at.form s.clock in
      unless_carried ops all (IsMissing at.many s.clock) (IsMissing at.many s.clock) kind.NoClock (Unless Form kind.ClockKind (OnBack at.clock after Says))
      (Unless Form kind.ClockKind (OnBack at.clock after Other)) o (λ b. b) (λ b. b)
      (unless_carried ops all Form Form kind.ClockKind (OnBack at.clock after Says) (OnBack at.clock after Other) o (λ b. b) (λ b. b)
      (back_carried ops all at.clock after Says Other o (names_carried at s e f args us sees o told)))

  tests_carried : (at : Position) (s : LineShape) (e f : Option (ℕ × ℕ)) (args : List Val) (us : List Update) (sees : List See) (o : Outcome) → AlikeTold ops all e f
      → TestsSay g at s (record { event = e; args = args; updates = us; sees = sees }) o
      → Carried ops all (TestsSay h at s (record { event = f; args = args; updates = us; sees = sees })) o
  tests_carried at s e f args us sees o told w =
      let count : params_of e ≡ params_of f = params_same ops all e f told in
      let Says : Outcome → Type 0 = ClocksSay g at s (record { event = e; args = args; updates = us; sees = sees }) in
      let Other : Outcome → Type 0 = ClocksSay h at s (record { event = f; args = args; updates = us; sees = sees }) in
      let Counts : ℕ → Type 0 = λ n. Unless (length args ≡ n → ⊥) (kind.WrongArgs (length args) n) Says o in
      unless_carried ops all (length args ≡ params_of f → ⊥) (length args ≡ params_of f → ⊥) (kind.WrongArgs (length args) (params_of f)) Says Other o
      (λ b. b) (λ b. b) (clocks_carried at s e f args us sees o told) (subst Counts count w)

  after_sees : (at : Position) (s : LineShape) (e f : Option (ℕ × ℕ)) (args : List Val) (us : List Update) (o : Outcome) → AlikeTold ops all e f → SeesSay g at s e args us o
      → Carried ops all (SeesSay h at s f args us) o
  after_sees at s e f args us o told w =
      same_carried ops all (EachOf (SeeReads g) s.sees) (EachOf (SeeReads h) s.sees) (kind.BadValue key.See)
      (λ sees. TestsSay g at s (record { event = e; args = args; updates = us; sees = sees })) (λ sees. TestsSay h at s (record { event = f; args = args; updates = us; sees = sees })) o
      (sees_read g h alike.variables s.sees) (sees_read h g other_name s.sees) (λ sees. tests_carried at s e f args us sees o told) w

  after_updates : (at : Position) (s : LineShape) (e f : Option (ℕ × ℕ)) (args : List Val) (o : Outcome) → AlikeTold ops all e f → UpdatesSay g at s e args o
      → Carried ops all (UpdatesSay h at s f args) o
  after_updates at s e f args o told w =
      same_carried ops all (EachOf (UpdateReads g) s.updates) (EachOf (UpdateReads h) s.updates) (kind.BadValue key.Update) (SeesSay g at s e args) (SeesSay h at s f args) o
      (updates_read g h alike.variables s.updates) (updates_read h g other_name s.updates) (λ us. after_sees at s e f args us o told) w

  after_args : (at : Position) (s : LineShape) (e f : Option (ℕ × ℕ)) (o : Outcome) → AlikeTold ops all e f → ArgsSay g at s e o → Carried ops all (ArgsSay h at s f) o
  after_args at s e f o told w =
      same_carried ops all (ReadsEach s.args) (ReadsEach s.args) (kind.BadValue key.Args) (UpdatesSay g at s e) (UpdatesSay h at s f) o (λ args r. r) (λ args r. r)
      (λ args. after_updates at s e f args o told) w

  event_there : (name : Option (List ℕ)) (e : Option (ℕ × ℕ)) → EventIs g name e → (f : Option (ℕ × ℕ)) × EventIs h name f × AlikeTold ops all e f
  event_there None e is = (None, refl, subst (λ x. AlikeTold ops all x None) (sym is) none_told)
  event_there (Some name) e is =
      let b = told_alike ops all (g.operator name) (h.operator name) is.0 (alike.operators name) is.1 in
      (Some b.0, (b.0, b.1, refl), subst (λ x. AlikeTold ops all x (Some b.0)) (sym is.2) b.2)

  event_back : (name : Option (List ℕ)) (f : Option (ℕ × ℕ)) → EventIs h name f → (e : Option (ℕ × ℕ)) × EventIs g name e
  event_back None f is = (None, refl)
  event_back (Some name) f is = let a = told_back ops all (g.operator name) (h.operator name) is.0 (alike.operators name) is.1 in (Some a.0, (a.0, a.1, refl))

  step_carried : (at : Position) (s : LineShape) (o : Outcome) → StepSays g at s o → Carried ops all (StepSays h at s) o
  step_carried at s o w =
      unless_carried ops all _ _ kind.TooManyLines (OnValue (EventIs g s.event) kind.UnknownEvent (ArgsSay g at s)) (OnValue (EventIs h s.event) kind.UnknownEvent (ArgsSay h at s)) o (λ b. b) (λ b. b)
      (λ v. value_carried ops all (EventIs g s.event) (EventIs h s.event) (AlikeTold ops all) kind.UnknownEvent (ArgsSay g at s) (ArgsSay h at s) o (event_there s.event) (event_back s.event)
      (λ e f told. after_args at s e f o told) v) w

  init_carried : (at : Position) (s : LineShape) (o : Outcome) → InitSays g at s o → Carried ops all (InitSays h at s) o
  init_carried at s o w =
      let Seen : Setting → List See → Outcome → Type 0 = λ k sees. Unless (HasUnknown k (map (λ v. v.path.name) s.sees)) kind.UnknownVariable (λ x. x ≡ Init sees) in
      unless_carried ops all _ _ kind.InitNotFirst (OnValue (EachOf (SeeReads g) s.sees) (kind.BadValue key.See) (Seen g)) (OnValue (EachOf (SeeReads h) s.sees) (kind.BadValue key.See) (Seen h)) o
      (λ b. b) (λ b. b) (λ v. same_carried ops all (EachOf (SeeReads g) s.sees) (EachOf (SeeReads h) s.sees) (kind.BadValue key.See) (Seen g) (Seen h) o
      (sees_read g h alike.variables s.sees) (sees_read h g other_name s.sees)
      (λ sees. unknown_carried (map (λ u. u.path.name) s.sees) (λ x. x ≡ Init sees) (λ x. x ≡ Init sees) o
      (λ is. (Init sees, refl, subst (λ x. AlikeOutcomes ops all x (Init sees)) (sym is) (both_init sees)))) v) w

  shape_carried : (at : Position) (r : Result LineShape Key) (o : Outcome) → ShapeSays g at r o → Carried ops all (ShapeSays h at r) o
  shape_carried at (Err x) o is = (Refused (kind.BadField x), refl, refused_alike ops all (kind.BadField x) o is)
  shape_carried at (Ok s) o w = either_carried ops all s.init (InitSays g at s) (StepSays g at s) (InitSays h at s) (StepSays h at s) o (init_carried at s o) (step_carried at s o) w

  object_carried : (at : Position) (ms : Option Members) (o : Outcome) → ObjectSays g at ms o → Carried ops all (ObjectSays h at ms) o
  object_carried at None o is = (Refused kind.NotObject, refl, refused_alike ops all kind.NotObject o is)
  object_carried at (Some ms) o w = shape_carried at (shape_of ms) o w

  text_carried : (at : Position) (line : List ℕ) (o : Outcome) → TextSays g at line o → Carried ops all (TextSays h at line) o
  text_carried at line o w =
      same_carried ops all (IsJson line) (IsJson line) kind.NotJson (λ d. ObjectSays g at (as_object d)) (λ d. ObjectSays h at (as_object d)) o (λ d j. j) (λ d j. j)
      (λ d. object_carried at (as_object d) o) w

  unblank_carried : (at : Position) (line : List ℕ) (o : Outcome) → (IsBlank line × (o ≡ Blank)) ⊎ (¬ IsBlank line × TextSays g at line o)
      → Carried ops all (λ p. (IsBlank line × (p ≡ Blank)) ⊎ (¬ IsBlank line × TextSays h at line p)) o
  unblank_carried at line o (inl a) = (Blank, inl (a.0, refl), subst (λ x. AlikeOutcomes ops all x Blank) (sym a.1) both_blank)
  unblank_carried at line o (inr a) = let n = text_carried at line o a.1 in (n.0, inr (a.0, n.1), n.2)

  pub line_carried : (at : Position) (line : List ℕ) (o : Outcome) → LineSays g at line o → Carried ops all (LineSays h at line) o
  line_carried at line o w =
      unless_carried ops all _ _ kind.LineTooLong (λ x. (IsBlank line × (x ≡ Blank)) ⊎ (¬ IsBlank line × TextSays g at line x))
      (λ x. (IsBlank line × (x ≡ Blank)) ⊎ (¬ IsBlank line × TextSays h at line x)) o (λ b. b) (λ b. b) (unblank_carried at line o) w
