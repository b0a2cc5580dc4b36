-- What is so of the steps of a file: each clock may follow those before, line numbers rise, and there is room for them.
use Rattle.std.proofs.Common.{◌≡◌, ◌⊎◌, ◌<◌, ◌≤◌, ◌+◌, ℕ, List, [], ◌∷◌, ◌++◌, length, length-append, All, AllPairs, Bool, true, false, Option, Some, None, Result, Ok, Err, inl, inr, refl, sym, ◌∙◌, subst, arith, rules, get_or, map}
use Rattle.std.specs.Prelude.{MatchBool}
use Rattle.std.proofs.lemmas.List.Elements.{All-get_or, All-nil, All-push, All-weaker}
use Rattle.std.proofs.lemmas.List.Quantifiers.{all_pairs_push}
use Rattle.serde_json.specs.Data.{Members}
use Rattle.serde_json.specs.Find.{as_object}
use Rattle.values_core.specs.Data.{Val}
use Rattle.values_json.specs.Reads.{ReadsEach}
use Rattle.logs_shapes.specs.Shapes.{LineShape, shape_of}
use Rattle.logs_shapes.specs.declared.key.Key.{Key}
use Rattle.logs_shapes.specs.declared.key.Key.TheVariants as key
use Rattle.logs_updates.specs.Clocks.{MayFollow}
use Rattle.logs_updates.specs.declared.clock.Clock.{Clock}
use Rattle.logs_updates.specs.declared.line.Line.{Line}
use Rattle.logs_updates.specs.declared.update.Update.{Update}
use Rattle.logs_lines.specs.Clocks.{IsNoLower, IsOtherForm, clock_or}
use Rattle.logs_lines.proofs.ClockLemmas.{Agrees, agrees_at_first, agrees_on, follows_itself, follows_on, may_follow}
use Rattle.logs_lines.specs.declared.clocks.ClockForm.{ClockForm}
use Rattle.logs_lines.specs.Setting.{Setting}
use Rattle.logs_lines.specs.Values.{EachOf, SeeReads, UpdateReads}
use Rattle.logs_lines.specs.Lines.{ArgsSay, ClocksSay, EventIs, FormSays, HasUnknown, InitSays, IsBlank, IsJson, LineSays, NamesSay, ObjectSays, OnBack, OnValue, SeesSay, ShapeSays, StepSays, TestsSay, TextSays, Unless, UpdatesSay, step_line}
use Rattle.logs_lines.specs.Files.{FileSays, GoesOn, LinesSay, behind_blank, behind_init, behind_step, first_line, nothing_found, pieces_of}
use Rattle.logs_lines.specs.Laws.{Precedes}
use Rattle.logs_lines.specs.declared.position.Position.{Position}
use Rattle.logs_lines.specs.declared.step.Parts.{Parts}
use Rattle.logs_lines.specs.declared.kind.LogKind.{LogKind}
use Rattle.logs_lines.specs.declared.kind.LogKind.TheVariants as kind
use Rattle.logs_lines.specs.declared.kind.Outcome.{Outcome}
use Rattle.logs_lines.specs.declared.kind.Outcome.TheVariants.{Blank, Init, Step, Refused}
use Rattle.logs_lines.specs.declared.file.FileLines.{FileLines}
use Rattle.logs_lines.specs.declared.file.Refusal.{Refusal}

-- a step that a line at this position tells of
pub record Fits (at : Position) (line : Line) (form : ClockForm) : Type 0 where
  pub room : at.steps < at.room
  pub clock : Agrees at.form at.clock → MayFollow at.clock line.clock
  pub number : line.at.line ≡ at.line
  pub formed : Agrees at.form at.clock → Agrees form line.clock

abbrev IfStep : Position → Outcome → Type 0
IfStep at Blank = Unit {0}
IfStep at (Init sees) = Unit {0}
IfStep at (Step line form) = Fits at line form
IfStep at (Refused why) = Unit {0}

unless : (at : Position) (Bad : Type 0) (why : LogKind) (Q : Outcome → Type 0) (o : Outcome) → (¬ Bad → Q o → IfStep at o) → Unless Bad why Q o → IfStep at o
unless at Bad why Q o next (inl a) = subst (IfStep at) (sym a.1) tt
unless at Bad why Q o next (inr a) = next a.0 a.1

on_value : {A : Type 0} (at : Position) (P : A → Type 0) (why : LogKind) (Q : A → Outcome → Type 0) (o : Outcome) → ((a : A) → Q a o → IfStep at o) → OnValue P why Q o → IfStep at o
on_value at P why Q o next (inl a) = next a.0 a.2
on_value at P why Q o next (inr a) = subst (IfStep at) (sym a.1) tt

in_form : (g : Setting) (at : Position) (s : LineShape) (t : Parts) (o : Outcome) → at.steps < at.room → (Agrees at.form at.clock → MayFollow at.clock (clock_or at.clock s.clock)) → FormSays g at s t o → IfStep at o
in_form g at s t o room clock h = unless at _ _ (λ x. x ≡ step_line at s t) o (λ n e. subst (IfStep at) (sym e) (record { room = room; clock = clock; number = refl; formed = agrees_on at.form at.clock s.clock })) h

in_names : (g : Setting) (at : Position) (s : LineShape) (t : Parts) (o : Outcome) → at.steps < at.room → (Agrees at.form at.clock → MayFollow at.clock (clock_or at.clock s.clock)) → NamesSay g at s t o → IfStep at o
in_names g at s t o room clock h =
    unless at _ _ (Unless (HasUnknown g (map (λ v. v.path.name) s.sees)) kind.UnknownVariable (FormSays g at s t)) o
    (λ n a. unless at _ _ (FormSays g at s t) o (λ m b. in_form g at s t o room clock b) a) h

on_back : (at : Position) (before clock : Clock) (Q : Outcome → Type 0) (o : Outcome) → (IsNoLower before clock → Q o → IfStep at o) → OnBack before clock Q o → IfStep at o
on_back at before clock Q o next (inl a) = subst (IfStep at) (sym a.2) tt
on_back at before clock Q o next (inr a) = next a.0 a.1

in_clocks : (g : Setting) (at : Position) (s : LineShape) (t : Parts) (o : Outcome) → at.steps < at.room → ClocksSay g at s t o → IfStep at o
in_clocks g at s t o room h =
    let after = clock_or at.clock s.clock in
    unless at _ _ (Unless (IsOtherForm at.form s.clock) kind.ClockKind (OnBack at.clock after (NamesSay g at s t))) o
    (λ n a. unless at _ _ (OnBack at.clock after (NamesSay g at s t)) o
    (λ m b. on_back at at.clock after (NamesSay g at s t) o (λ l c. in_names g at s t o room (λ agrees. may_follow at.form at.clock s.clock agrees m l) c) b) a) h

in_tests : (g : Setting) (at : Position) (s : LineShape) (t : Parts) (o : Outcome) → at.steps < at.room → TestsSay g at s t o → IfStep at o
in_tests g at s t o room h = unless at _ _ (ClocksSay g at s t) o (λ n a. in_clocks g at s t o room a) h

in_sees : (g : Setting) (at : Position) (s : LineShape) (event : Option (ℕ × ℕ)) (args : List Val) (us : List Update) (o : Outcome) → at.steps < at.room → SeesSay g at s event args us o → IfStep at o
in_sees g at s event args us o room h =
    on_value at (EachOf (SeeReads g) s.sees) (kind.BadValue key.See) (λ sees. TestsSay g at s (record { event = event; args = args; updates = us; sees = sees })) o
    (λ sees a. in_tests g at s (record { event = event; args = args; updates = us; sees = sees }) o room a) h

in_updates : (g : Setting) (at : Position) (s : LineShape) (event : Option (ℕ × ℕ)) (args : List Val) (o : Outcome) → at.steps < at.room → UpdatesSay g at s event args o → IfStep at o
in_updates g at s event args o room h = on_value at (EachOf (UpdateReads g) s.updates) (kind.BadValue key.Update) (SeesSay g at s event args) o (λ us a. in_sees g at s event args us o room a) h

in_args : (g : Setting) (at : Position) (s : LineShape) (event : Option (ℕ × ℕ)) (o : Outcome) → at.steps < at.room → ArgsSay g at s event o → IfStep at o
in_args g at s event o room h = on_value at (ReadsEach s.args) (kind.BadValue key.Args) (UpdatesSay g at s event) o (λ args a. in_updates g at s event args o room a) h

has_room : (m n : ℕ) → ¬ (n ≤ m) → m < n
has_room m n h = omega (arith, h)

in_step : (g : Setting) (at : Position) (s : LineShape) (o : Outcome) → StepSays g at s o → IfStep at o
in_step g at s o h =
    unless at _ _ (OnValue (EventIs g s.event) kind.UnknownEvent (ArgsSay g at s)) o (λ n a. on_value at (EventIs g s.event) kind.UnknownEvent (ArgsSay g at s) o (λ event b. in_args g at s event o (has_room at.steps at.room n) b) a) h

in_init : (g : Setting) (at : Position) (s : LineShape) (o : Outcome) → InitSays g at s o → IfStep at o
in_init g at s o h =
    unless at _ _ (OnValue (EachOf (SeeReads g) s.sees) (kind.BadValue key.See) (λ sees. Unless (HasUnknown g (map (λ v. v.path.name) s.sees)) kind.UnknownVariable (λ q. q ≡ Init sees))) o (λ n a. on_value at (EachOf (SeeReads g) s.sees) (kind.BadValue key.See) (λ sees. Unless (HasUnknown g (map (λ v. v.path.name) s.sees)) kind.UnknownVariable (λ q. q ≡ Init sees)) o
    (λ sees b. unless at _ _ (λ q. q ≡ Init sees) o (λ m e. subst (IfStep at) (sym e) tt) b) a) h

by_init : (b : Bool) {A B X : Type 0} → (A → X) → (B → X) → MatchBool b A B → X
by_init true f k h = f h
by_init false f k h = k h

in_shape : (g : Setting) (at : Position) (r : Result LineShape Key) (o : Outcome) → ShapeSays g at r o → IfStep at o
in_shape g at (Err x) o h = subst (IfStep at) (sym h) tt
in_shape g at (Ok s) o h = by_init s.init (in_init g at s o) (in_step g at s o) h

in_object : (g : Setting) (at : Position) (ms : Option Members) (o : Outcome) → ObjectSays g at ms o → IfStep at o
in_object g at None o h = subst (IfStep at) (sym h) tt
in_object g at (Some ms) o h = in_shape g at (shape_of ms) o h

in_text : (g : Setting) (at : Position) (line : List ℕ) (o : Outcome) → (IsBlank line × (o ≡ Blank)) ⊎ (¬ IsBlank line × TextSays g at line o) → IfStep at o
in_text g at line o (inl a) = subst (IfStep at) (sym a.1) tt
in_text g at line o (inr a) = on_value at (IsJson line) kind.NotJson (λ d. ObjectSays g at (as_object d)) o (λ d b. in_object g at (as_object d) o b) a.1

step_fits : (g : Setting) (at : Position) (line : List ℕ) (o : Outcome) → LineSays g at line o → IfStep at o
step_fits g at line o h = unless at _ _ (λ x. (IsBlank line × (x ≡ Blank)) ⊎ (¬ IsBlank line × TextSays g at line x)) o (λ n a. in_text g at line o a) h

-- the steps that were found before the line at this position
record Kept (room : ℕ) (at : Position) (steps : List Line) : Type 0 where
  pairs : AllPairs Precedes steps
  before : All (λ l. (l.at.line < at.line) × MayFollow l.clock at.clock) steps
  formed : Agrees at.form at.clock
  count : length steps ≡ at.steps
  few : at.steps ≤ room
  same : at.room ≡ room

kept_behind : (room : ℕ) (at next : Position) (steps : List Line) → next.line ≡ at.line + 1 → next.clock ≡ at.clock → next.form ≡ at.form → next.steps ≡ at.steps → next.room ≡ at.room → Kept room at steps → Kept room next steps
kept_behind room at next steps l c f s r k = record {
  pairs = k.pairs;
  before = All-weaker (λ x. (x.at.line < at.line) × MayFollow x.clock at.clock) (λ x. (x.at.line < next.line) × MayFollow x.clock next.clock)
      (λ x h. (let low : x.at.line < at.line = h.0 in omega (arith, l), subst (MayFollow x.clock) (sym c) h.1)) steps k.before;
  formed = subst (λ (z : ClockForm). Agrees z next.clock) (sym f) (subst (Agrees at.form) (sym c) k.formed);
  count = k.count ∙ sym s;
  few = subst (λ (n : ℕ). n ≤ room) (sym s) k.few;
  same = r ∙ k.same;
}

kept_step : (room : ℕ) (at : Position) (steps : List Line) (line : Line) (form : ClockForm) → Fits at line form → Kept room at steps → Kept room (behind_step at form line.clock) (steps ++ line ∷ [])
kept_step room at steps line form f k = record {
  pairs = all_pairs_push Precedes steps line k.pairs (λ i d h. let low = All-get_or (λ l. (l.at.line < at.line) × MayFollow l.clock at.clock) steps i d h k.before in
      (subst (λ (n : ℕ). (get_or steps i d).at.line < n) (sym f.number) low.0, follows_on (get_or steps i d).clock at.clock line.clock low.1 (f.clock k.formed)));
  before = All-push (λ l. (l.at.line < at.line + 1) × MayFollow l.clock line.clock) steps line
      (All-weaker (λ x. (x.at.line < at.line) × MayFollow x.clock at.clock) (λ x. (x.at.line < at.line + 1) × MayFollow x.clock line.clock)
      (λ x h. (let low : x.at.line < at.line = h.0 in omega arith, follows_on x.clock at.clock line.clock h.1 (f.clock k.formed))) steps k.before)
      (let number : line.at.line ≡ at.line = f.number in omega (arith, number), follows_itself line.clock);
  formed = f.formed k.formed;
  count = let count : length steps ≡ at.steps = k.count in omega (arith, count, length-append steps (line ∷ []));
  few = let low : at.steps < at.room = f.room in let same : at.room ≡ room = k.same in omega (arith, low, same);
  same = k.same;
}

-- a step keeps what was so, and so do the lines behind it
kept_on : (g : Setting) (room : ℕ) (rest : List (List ℕ)) (f : FileLines) (at : Position) (found : FileLines) (o : Outcome)
    → ((next : Position) (more : FileLines) → Kept room next more.steps → LinesSay g next more rest (Ok f) → AllPairs Precedes f.steps × (length f.steps ≤ room))
    → Kept room at found.steps → IfStep at o → GoesOn (λ next more. LinesSay g next more rest (Ok f)) at found (Ok f) o → AllPairs Precedes f.steps × (length f.steps ≤ room)
kept_on g room rest f at found Blank next k fits h = next (behind_blank at) found (kept_behind room at (behind_blank at) found.steps refl refl refl refl refl k) h
kept_on g room rest f at found (Init sees) next k fits h =
    next (behind_init at) (record { init = Some sees; steps = found.steps; form = found.form }) (kept_behind room at (behind_init at) found.steps refl refl refl refl refl k) h
kept_on g room rest f at found (Step line form) next k fits h =
    next (behind_step at form line.clock) (record { init = found.init; steps = found.steps ++ line ∷ []; form = form }) (kept_step room at found.steps line form fits k) h
kept_on g room rest f at found (Refused why) next k fits h = absurd cc

ok_is : (a b : FileLines) (r s : Result FileLines Refusal) → r ≡ Ok a → s ≡ Ok b → r ≡ s → a ≡ b
ok_is a b r s x y e = cc

same_file : (room : ℕ) (at : Position) (found f : FileLines) (r : Result FileLines Refusal) → r ≡ Ok f → r ≡ Ok found → Kept room at found.steps → AllPairs Precedes f.steps × (length f.steps ≤ room)
same_file room at found f r x e k =
    let same : f ≡ found = ok_is f found r r x e refl in
    subst (λ (x : FileLines). AllPairs Precedes x.steps × (length x.steps ≤ room)) (sym same) (k.pairs, subst (λ (n : ℕ). n ≤ room) (sym k.count) k.few)

kept_lines : (g : Setting) (room : ℕ) (ps : List (List ℕ)) (f : FileLines) (at : Position) (found : FileLines) → Kept room at found.steps → LinesSay g at found ps (Ok f)
    → AllPairs Precedes f.steps × (length f.steps ≤ room)
kept_lines g room [] f at found k h = same_file room at found f (Ok f) refl h k
kept_lines g room (p ∷ ps) f at found k h = kept_on g room ps f at found h.0 (kept_lines g room ps f) k (step_fits g at p h.0 h.1) h.2

none_pairs : AllPairs Precedes []
none_pairs = search rules

pub steps_keep : (g : Setting) (file : ℕ) (many : Bool) (room : ℕ) (form : ClockForm) (bytes : List ℕ) (f : FileLines) → FileSays g (first_line file many room form) bytes (Ok f)
    → AllPairs Precedes f.steps × (length f.steps ≤ room)
steps_keep g file many room form bytes f h =
    kept_lines g room (pieces_of bytes) f (first_line file many room form) (nothing_found form) (record { pairs = none_pairs; before = All-nil _; formed = agrees_at_first form; count = refl; few = omega arith; same = refl }) h
