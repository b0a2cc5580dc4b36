-- A line says one thing alone, and so does a file.
use Rattle.std.proofs.Common.{◌≡◌, ◌⊎◌, ℕ, List, [], ◌∷◌, map, Bool, true, false, Option, Some, None, Result, Ok, Err, inl, inr, refl, ap, sym, ◌∙◌, subst}
use Rattle.std.specs.Prelude.{MatchBool}
use Rattle.serde_json.specs.Data.{Items, Members, no_items, item}
use Rattle.serde_json.specs.Find.{as_object}
use Rattle.values_core.specs.Data.{Val}
use Rattle.values_json.specs.Reads.{ReadsEach}
use Rattle.values_json.proofs.OneValue.{one_each, one_value}
use Rattle.logs_shapes.specs.Parts.{PathShape, SeeShape, UpdateShape}
use Rattle.logs_shapes.specs.Shapes.{LineShape, shape_of}
use Rattle.logs_shapes.specs.declared.key.Key.{Key}
use Rattle.logs_shapes.specs.declared.key.Key.TheVariants as key
use Rattle.logs_shapes.specs.declared.key.Word.{Word}
use Rattle.logs_shapes.specs.declared.key.Word.TheVariants as word
use Rattle.logs_updates.specs.Paths.{KeyPath}
use Rattle.logs_updates.specs.declared.update.Op.{Op}
use Rattle.logs_updates.specs.declared.update.Op.TheVariants.{Set, Put, Drop, Add, Remove, Append}
use Rattle.logs_updates.specs.declared.update.See.{See}
use Rattle.logs_updates.specs.declared.update.Update.{Update}
use Rattle.logs_lines.specs.Clocks.{IsOtherForm, clock_or}
use Rattle.logs_lines.proofs.ClockLemmas.{not_both, one_why}
use Rattle.logs_updates.specs.declared.clock.Clock.{Clock}
use Rattle.logs_lines.specs.Setting.{Setting}
use Rattle.logs_lines.specs.Values.{EachOf, OpReads, PathReads, ReadsSole, ReadsTwo, SeeReads, UpdateReads}
use Rattle.logs_lines.specs.Lines.{ArgsSay, ClocksSay, EventIs, FormSays, HasUnknown, InitSays, IsBlank, IsJson, LineSays, NamesSay, ObjectSays, OnBack, OnValue, SeesSay, ShapeSays, StepSays, TestsSay, TextSays, Unless, UpdatesSay, step_line}
use Rattle.logs_lines.specs.Files.{FileSays, GoesOn, LinesSay, nothing_found, pieces_of}
use Rattle.logs_lines.specs.declared.position.Position.{Position}
use Rattle.logs_lines.specs.declared.step.Parts.{Parts}
use Rattle.logs_lines.specs.declared.kind.LogKind.{LogKind}
use Rattle.logs_lines.specs.declared.kind.LogKind.TheVariants as kind
use Rattle.logs_lines.specs.declared.kind.Outcome.{Outcome}
use Rattle.logs_lines.specs.declared.kind.Outcome.TheVariants.{Blank, Init, Step, Refused}
use Rattle.logs_lines.specs.declared.file.FileLines.{FileLines}
use Rattle.logs_lines.specs.declared.file.Refusal.{Refusal}

some_is : {A : Type 0} (a b : A) → Some a ≡ Some b → a ≡ b
some_is a b e = cc

one_path : (g : Setting) (p : PathShape) (a b : KeyPath) → PathReads g p a → PathReads g p b → a ≡ b
one_path g p a b h k = λ i. record { variable = (h.0 ∙ sym k.0) i; keys = one_each p.keys a.keys b.keys h.1 k.1 i }

one_sole : (ds : Items) (v w : Val) → ReadsSole ds v → ReadsSole ds w → v ≡ w
one_sole no_items v w h k = absurd h
one_sole (item d no_items) v w h k = one_value d v w h k
one_sole (item d (item e es)) v w h k = absurd h

one_key : (ds : Items) (a b v w : Val) → ReadsTwo ds a v → ReadsTwo ds b w → a ≡ b
one_key no_items a b v w h k = absurd h
one_key (item d no_items) a b v w h k = absurd h
one_key (item d (item e no_items)) a b v w h k = one_value d a b h.0 k.0
one_key (item d (item e (item f fs))) a b v w h k = absurd h

one_content : (ds : Items) (a b v w : Val) → ReadsTwo ds a v → ReadsTwo ds b w → v ≡ w
one_content no_items a b v w h k = absurd h
one_content (item d no_items) a b v w h k = absurd h
one_content (item d (item e no_items)) a b v w h k = one_value e v w h.1 k.1
one_content (item d (item e (item f fs))) a b v w h k = absurd h

one_op : (w : Word) (ds : Items) (a b : Op) → OpReads w ds a → OpReads w ds b → a ≡ b
one_op word.Set ds a b h k = h.2 ∙ ap Set (one_sole ds h.0 k.0 h.1 k.1) ∙ sym k.2
one_op word.Put ds a b h k = h.3 ∙ (λ i. Put (one_key ds h.0 k.0 h.1 k.1 h.2 k.2 i) (one_content ds h.0 k.0 h.1 k.1 h.2 k.2 i)) ∙ sym k.3
one_op word.Drop ds a b h k = h.2 ∙ ap Drop (one_sole ds h.0 k.0 h.1 k.1) ∙ sym k.2
one_op word.Add ds a b h k = h.2 ∙ ap Add (one_sole ds h.0 k.0 h.1 k.1) ∙ sym k.2
one_op word.Remove ds a b h k = h.2 ∙ ap Remove (one_sole ds h.0 k.0 h.1 k.1) ∙ sym k.2
one_op word.Append ds a b h k = h.2 ∙ ap Append (one_sole ds h.0 k.0 h.1 k.1) ∙ sym k.2

one_update : (g : Setting) (u : UpdateShape) (a b : Update) → UpdateReads g u a → UpdateReads g u b → a ≡ b
one_update g u a b h k = λ i. record { path = one_path g u.path a.path b.path h.0 k.0 i; op = one_op u.word u.contents a.op b.op h.1 k.1 i }

one_see : (g : Setting) (s : SeeShape) (a b : See) → SeeReads g s a → SeeReads g s b → a ≡ b
one_see g s a b h k = λ i. record { path = one_path g s.path a.path b.path h.0 k.0 i; value = one_value s.content a.value b.value h.1 k.1 i }

one_list : {A B : Type 0} (R : A → B → Type 0) (xs : List A) (bs cs : List B) → ((a : A) (b c : B) → R a b → R a c → b ≡ c) → EachOf R xs bs → EachOf R xs cs → bs ≡ cs
one_list R [] [] [] one h k = refl
one_list R [] (b ∷ bs) cs one h k = absurd h
one_list R [] [] (c ∷ cs) one h k = absurd k
one_list R (x ∷ xs) [] cs one h k = absurd h
one_list R (x ∷ xs) (b ∷ bs) [] one h k = absurd k
one_list R (x ∷ xs) (b ∷ bs) (c ∷ cs) one h k = λ i. one x b c h.0 k.0 i ∷ one_list R xs bs cs one h.1 k.1 i

one_updates : (g : Setting) (us : List UpdateShape) (a b : List Update) → EachOf (UpdateReads g) us a → EachOf (UpdateReads g) us b → a ≡ b
one_updates g us a b h k = one_list (UpdateReads g) us a b (one_update g) h k

one_sees : (g : Setting) (ss : List SeeShape) (a b : List See) → EachOf (SeeReads g) ss a → EachOf (SeeReads g) ss b → a ≡ b
one_sees g ss a b h k = one_list (SeeReads g) ss a b (one_see g) h k

one_event : (g : Setting) (name : Option (List ℕ)) (a b : Option (ℕ × ℕ)) → EventIs g name a → EventIs g name b → a ≡ b
one_event g None a b h k = h ∙ sym k
one_event g (Some name) a b h k = h.2 ∙ (sym h.1 ∙ k.1) ∙ sym k.2

unless : (Bad : Type 0) (why : LogKind) (Q : Outcome → Type 0) (o p : Outcome) → (Q o → Q p → o ≡ p) → Unless Bad why Q o → Unless Bad why Q p → o ≡ p
unless Bad why Q o p next (inl a) (inl b) = a.1 ∙ sym b.1
unless Bad why Q o p next (inl a) (inr b) = absurd (b.0 a.0)
unless Bad why Q o p next (inr a) (inl b) = absurd (a.0 b.0)
unless Bad why Q o p next (inr a) (inr b) = next a.1 b.1

on_value : {A : Type 0} (P : A → Type 0) (why : LogKind) (Q : A → Outcome → Type 0) (o p : Outcome) → ((a b : A) → P a → P b → a ≡ b) → ((a : A) → Q a o → Q a p → o ≡ p)
    → OnValue P why Q o → OnValue P why Q p → o ≡ p
on_value P why Q o p one next (inl a) (inl b) = next b.0 (subst (λ x. Q x o) (one a.0 b.0 a.1 b.1) a.2) b.2
on_value P why Q o p one next (inl a) (inr b) = absurd (b.0 a.0 a.1)
on_value P why Q o p one next (inr a) (inl b) = absurd (a.0 b.0 b.1)
on_value P why Q o p one next (inr a) (inr b) = a.1 ∙ sym b.1

one_form : (g : Setting) (at : Position) (s : LineShape) (t : Parts) (o p : Outcome) → FormSays g at s t o → FormSays g at s t p → o ≡ p
one_form g at s t o p h k = unless _ _ (λ x. x ≡ step_line at s t) o p (λ a b. a ∙ sym b) h k

one_names : (g : Setting) (at : Position) (s : LineShape) (t : Parts) (o p : Outcome) → NamesSay g at s t o → NamesSay g at s t p → o ≡ p
one_names g at s t o p h k =
    unless _ _ (Unless (HasUnknown g (map (λ v. v.path.name) s.sees)) kind.UnknownVariable (FormSays g at s t)) o p
    (λ a b. unless _ _ (FormSays g at s t) o p (one_form g at s t o p) a b) h k

on_back : (a b : Clock) (Q : Outcome → Type 0) (o p : Outcome) → (Q o → Q p → o ≡ p) → OnBack a b Q o → OnBack a b Q p → o ≡ p
on_back a b Q o p next (inl x) (inl y) = x.2 ∙ ap Refused (one_why a b x.0 y.0 x.1 y.1) ∙ sym y.2
on_back a b Q o p next (inl x) (inr y) = absurd (not_both a b x.0 x.1 y.0)
on_back a b Q o p next (inr x) (inl y) = absurd (not_both a b y.0 y.1 x.0)
on_back a b Q o p next (inr x) (inr y) = next x.1 y.1

one_clock : (g : Setting) (at : Position) (s : LineShape) (t : Parts) (o p : Outcome) → ClocksSay g at s t o → ClocksSay g at s t p → o ≡ p
one_clock g at s t o p h k =
    let after = clock_or at.clock s.clock in
    unless _ _ (Unless (IsOtherForm at.form s.clock) kind.ClockKind (OnBack at.clock after (NamesSay g at s t))) o p
    (λ a b. unless _ _ (OnBack at.clock after (NamesSay g at s t)) o p (λ c d. on_back at.clock after (NamesSay g at s t) o p (one_names g at s t o p) c d) a b) h k

one_test : (g : Setting) (at : Position) (s : LineShape) (t : Parts) (o p : Outcome) → TestsSay g at s t o → TestsSay g at s t p → o ≡ p
one_test g at s t o p h k = unless _ _ (ClocksSay g at s t) o p (one_clock g at s t o p) h k

after_sees : (g : Setting) (at : Position) (s : LineShape) (event : Option (ℕ × ℕ)) (args : List Val) (us : List Update) (o p : Outcome) → SeesSay g at s event args us o → SeesSay g at s event args us p → o ≡ p
after_sees g at s event args us o p h k =
    on_value (EachOf (SeeReads g) s.sees) (kind.BadValue key.See) (λ sees. TestsSay g at s (record { event = event; args = args; updates = us; sees = sees })) o p (one_sees g s.sees)
    (λ sees. one_test g at s (record { event = event; args = args; updates = us; sees = sees }) o p) h k

after_updates : (g : Setting) (at : Position) (s : LineShape) (event : Option (ℕ × ℕ)) (args : List Val) (o p : Outcome) → UpdatesSay g at s event args o → UpdatesSay g at s event args p → o ≡ p
after_updates g at s event args o p h k =
    on_value (EachOf (UpdateReads g) s.updates) (kind.BadValue key.Update) (SeesSay g at s event args) o p (one_updates g s.updates) (λ us. after_sees g at s event args us o p) h k

after_args : (g : Setting) (at : Position) (s : LineShape) (event : Option (ℕ × ℕ)) (o p : Outcome) → ArgsSay g at s event o → ArgsSay g at s event p → o ≡ p
after_args g at s event o p h k =
    on_value (ReadsEach s.args) (kind.BadValue key.Args) (UpdatesSay g at s event) o p (one_each s.args) (λ args. after_updates g at s event args o p) h k

one_step : (g : Setting) (at : Position) (s : LineShape) (o p : Outcome) → StepSays g at s o → StepSays g at s p → o ≡ p
one_step g at s o p h k =
    unless _ _ (OnValue (EventIs g s.event) kind.UnknownEvent (ArgsSay g at s)) o p (λ a b. on_value (EventIs g s.event) kind.UnknownEvent (ArgsSay g at s) o p (one_event g s.event) (λ event. after_args g at s event o p) a b) h k

one_init : (g : Setting) (at : Position) (s : LineShape) (o p : Outcome) → InitSays g at s o → InitSays g at s p → o ≡ p
one_init g at s o p h k =
    unless _ _ (OnValue (EachOf (SeeReads g) s.sees) (kind.BadValue key.See) (λ sees. Unless (HasUnknown g (map (λ v. v.path.name) s.sees)) kind.UnknownVariable (λ q. q ≡ Init sees))) o p (λ a b. on_value (EachOf (SeeReads g) s.sees) (kind.BadValue key.See)
    (λ sees. Unless (HasUnknown g (map (λ v. v.path.name) s.sees)) kind.UnknownVariable (λ q. q ≡ Init sees)) o p (one_sees g s.sees)
    (λ sees c d. unless _ _ (λ q. q ≡ Init sees) o p (λ x y. x ∙ sym y) c d) a b) h k

by_init : (b : Bool) {A B C D X : Type 0} → (A → C → X) → (B → D → X) → MatchBool b A B → MatchBool b C D → X
by_init true f g h k = f h k
by_init false f g h k = g h k

one_shape : (g : Setting) (at : Position) (r : Result LineShape Key) (o p : Outcome) → ShapeSays g at r o → ShapeSays g at r p → o ≡ p
one_shape g at (Err x) o p h k = h ∙ sym k
one_shape g at (Ok s) o p h k = by_init s.init (one_init g at s o p) (one_step g at s o p) h k

one_object : (g : Setting) (at : Position) (ms : Option Members) (o p : Outcome) → ObjectSays g at ms o → ObjectSays g at ms p → o ≡ p
one_object g at None o p h k = h ∙ sym k
one_object g at (Some ms) o p h k = one_shape g at (shape_of ms) o p h k

one_text : (g : Setting) (at : Position) (line : List ℕ) (o p : Outcome) → TextSays g at line o → TextSays g at line p → o ≡ p
one_text g at line o p h k =
    on_value (IsJson line) kind.NotJson (λ d. ObjectSays g at (as_object d)) o p (λ a b x y. some_is a b (sym x.1 ∙ y.1)) (λ d. one_object g at (as_object d) o p) h k

one_unblank : (g : Setting) (at : Position) (line : List ℕ) (o p : Outcome) → (IsBlank line × (o ≡ Blank)) ⊎ (¬ IsBlank line × TextSays g at line o)
    → (IsBlank line × (p ≡ Blank)) ⊎ (¬ IsBlank line × TextSays g at line p) → o ≡ p
one_unblank g at line o p (inl a) (inl b) = a.1 ∙ sym b.1
one_unblank g at line o p (inl a) (inr b) = absurd (b.0 a.0)
one_unblank g at line o p (inr a) (inl b) = absurd (a.0 b.0)
one_unblank g at line o p (inr a) (inr b) = one_text g at line o p a.1 b.1

pub one_outcome : (g : Setting) (at : Position) (line : List ℕ) (o p : Outcome) → LineSays g at line o → LineSays g at line p → o ≡ p
one_outcome g at line o p h k = unless _ _ (λ x. (IsBlank line × (x ≡ Blank)) ⊎ (¬ IsBlank line × TextSays g at line x)) o p (one_unblank g at line o p) h k

goes_on : (g : Setting) (at : Position) (found : FileLines) (rest : List (List ℕ)) (r s : Result FileLines Refusal) (o : Outcome)
    → ((next : Position) (more : FileLines) → LinesSay g next more rest r → LinesSay g next more rest s → r ≡ s)
    → GoesOn (λ next more. LinesSay g next more rest r) at found r o → GoesOn (λ next more. LinesSay g next more rest s) at found s o → r ≡ s
goes_on g at found rest r s Blank next h k = next _ _ h k
goes_on g at found rest r s (Init sees) next h k = next _ _ h k
goes_on g at found rest r s (Step line form) next h k = next _ _ h k
goes_on g at found rest r s (Refused why) next h k = h ∙ sym k

one_end : (g : Setting) (ps : List (List ℕ)) (at : Position) (found : FileLines) (r s : Result FileLines Refusal) → LinesSay g at found ps r → LinesSay g at found ps s → r ≡ s
one_end g [] at found r s h k = h ∙ sym k
one_end g (p ∷ ps) at found r s h k =
    let same = one_outcome g at p h.0 k.0 h.1 k.1 in
    goes_on g at found ps r s k.0 (λ next more. one_end g ps next more r s) (subst (λ o. GoesOn (λ next more. LinesSay g next more ps r) at found r o) same h.2) k.2

pub one_file : (g : Setting) (at : Position) (bytes : List ℕ) (r s : Result FileLines Refusal) → FileSays g at bytes r → FileSays g at bytes s → r ≡ s
one_file g at bytes r s h k = one_end g (pieces_of bytes) at (nothing_found at.form) r s h k
