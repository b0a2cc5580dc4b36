-- A line says one thing alone, and so does a file.
use Rattle.std.proofs.Common.{◌≡◌, ◌⊎◌, ◌+◌, ℕ, List, [], ◌∷◌, Bool, true, false, Option, Some, None, Result, Ok, Err, inl, inr, refl, sym, ◌∙◌, subst}
use Rattle.std.specs.Prelude.{MatchBool}
use Rattle.serde_json.specs.Data.{Data, Members, object}
use Rattle.serde_json.specs.Find.{get_member}
use Rattle.values_core.specs.Data.{Val}
use Rattle.values_json.proofs.OneValue.{one_value}
use Rattle.states_core.specs.States.{Values, shown}
use Rattle.states_core.specs.declared.state.Mark.{Mark}
use Rattle.states_core.specs.declared.state.Shown.{Shown}
use Rattle.states_files.specs.Fields.{LineFields, fields_of}
use Rattle.states_files.specs.Files.{StateFileSays, GoesOn, StateLinesSay, pieces_of}
use Rattle.states_files.specs.Lines.{FieldsSay, IsObject, StateLineSays, ObjectSays, OnValue, StateSays, Unless, ValuesSay, is_shown}
use Rattle.states_files.specs.States.{ReadsAt, StateReads, are_known, are_there}
use Rattle.states_files.specs.declared.kind.StateKind.{StateKind}
use Rattle.states_files.specs.declared.kind.StateKind.TheVariants.{NotJson, UnknownVariable, MissingVariable, BadValue}
use Rattle.states_files.specs.declared.kind.StateLine.{StateLine}
use Rattle.states_files.specs.declared.kind.StateLine.TheVariants.{Skipped, State, Refused}
use Rattle.states_files.specs.declared.refusal.StateRefusal.{StateRefusal}

object_is : (a b : Members) → Some (object a) ≡ Some (object b) → a ≡ b
object_is a b e = cc

one_at : (o : Option Data) (v w : Val) → ReadsAt o v → ReadsAt o w → v ≡ w
one_at None v w h k = absurd h
one_at (Some d) v w h k = one_value d v w h k

one_state : (ms : Members) (names : List (List ℕ)) (a b : Values) → StateReads ms names a → StateReads ms names b → a ≡ b
one_state ms [] [] [] h k = refl
one_state ms [] [] (w ∷ ws) h k = absurd k
one_state ms [] (v ∷ vs) b h k = absurd h
one_state ms (name ∷ names) [] b h k = absurd h
one_state ms (name ∷ names) (v ∷ vs) [] h k = absurd k
one_state ms (name ∷ names) (v ∷ vs) (w ∷ ws) h k = λ i. one_at (get_member name ms) v w h.0 k.0 i ∷ one_state ms names vs ws h.1 k.1 i

unless : (Bad : Type 0) (why : StateKind) (Q : StateLine → Type 0) (o p : StateLine) → (Q o → Q p → o ≡ p) → Unless Bad why Q o → Unless Bad why Q p → o ≡ p
unless Bad why Q o p next (inl a) (inl b) = a.1 ∙ sym b.1
unless Bad why Q o p next (inl a) (inr b) = absurd (b.0 a.0)
unless Bad why Q o p next (inr a) (inl b) = absurd (a.0 b.0)
unless Bad why Q o p next (inr a) (inr b) = next a.1 b.1

on_value : {A : Type 0} (P : A → Type 0) (why : StateKind) (Q : A → StateLine → Type 0) (o p : StateLine) → ((a b : A) → P a → P b → a ≡ b) → ((a : A) → Q a o → Q a p → o ≡ p)
    → OnValue P why Q o → OnValue P why Q p → o ≡ p
on_value P why Q o p one next (inl a) (inl b) = next b.0 (subst (λ x. Q x o) (one a.0 b.0 a.1 b.1) a.2) b.2
on_value P why Q o p one next (inl a) (inr b) = absurd (b.0 a.0 a.1)
on_value P why Q o p one next (inr a) (inl b) = absurd (a.0 b.0 b.1)
on_value P why Q o p one next (inr a) (inr b) = a.1 ∙ sym b.1

one_values : (names : List (List ℕ)) (m : Mark) (ms : Members) (o p : StateLine) → ValuesSay names m ms o → ValuesSay names m ms p → o ≡ p
one_values names m ms o p h k = on_value (StateReads ms names) BadValue (λ values x. x ≡ State (shown m values)) o p (one_state ms names) (λ values a b. a ∙ sym b) h k

one_whole : (names : List (List ℕ)) (m : Mark) (ms : Members) (o p : StateLine) → StateSays names m ms o → StateSays names m ms p → o ≡ p
one_whole names m ms o p h k =
    unless (are_known names ms ≡ false) UnknownVariable (Unless (are_there names ms ≡ false) MissingVariable (ValuesSay names m ms)) o p
    (λ a b. unless (are_there names ms ≡ false) MissingVariable (ValuesSay names m ms) o p (one_values names m ms o p) a b) h k

one_fields : (names : List (List ℕ)) (r : Result LineFields (List ℕ)) (o p : StateLine) → FieldsSay names r o → FieldsSay names r p → o ≡ p
one_fields names (Err key) o p h k = h ∙ sym k
one_fields names (Ok f) o p h k = one_whole names f.mark f.state o p h k

one_object : (names : List (List ℕ)) (line : List ℕ) (o p : StateLine) → ObjectSays names line o → ObjectSays names line p → o ≡ p
one_object names line o p h k =
    on_value (IsObject line) NotJson (λ ms. FieldsSay names (fields_of ms)) o p (λ a b x y. object_is a b (sym x.1 ∙ y.1)) (λ ms. one_fields names (fields_of ms) o p) h k

by_first : (b : Bool) {A B C D X : Type 0} → (A → C → X) → (B → D → X) → MatchBool b A B → MatchBool b C D → X
by_first true f g h k = f h k
by_first false f g h k = g h k

pub one_outcome : (names : List (List ℕ)) (line : List ℕ) (o p : StateLine) → StateLineSays names line o → StateLineSays names line p → o ≡ p
one_outcome names line o p h k = by_first (is_shown line) (one_object names line o p) (λ a b. a ∙ sym b) h k

goes_on : (names : List (List ℕ)) (number : ℕ) (found : List Shown) (rest : List (List ℕ)) (r s : Result (List Shown) StateRefusal) (o : StateLine)
    → ((more : List Shown) → StateLinesSay names (number + 1) more rest r → StateLinesSay names (number + 1) more rest s → r ≡ s)
    → GoesOn (λ more. StateLinesSay names (number + 1) more rest r) number found r o → GoesOn (λ more. StateLinesSay names (number + 1) more rest s) number found s o → r ≡ s
goes_on names number found rest r s Skipped next h k = next _ h k
goes_on names number found rest r s (State x) next h k = next _ h k
goes_on names number found rest r s (Refused why) next h k = h ∙ sym k

one_end : (names : List (List ℕ)) (ps : List (List ℕ)) (number : ℕ) (found : List Shown) (r s : Result (List Shown) StateRefusal) → StateLinesSay names number found ps r → StateLinesSay names number found ps s → r ≡ s
one_end names [] number found r s h k = h ∙ sym k
one_end names (p ∷ ps) number found r s h k =
    let same = one_outcome names p h.0 k.0 h.1 k.1 in
    goes_on names number found ps r s k.0 (λ more. one_end names ps (number + 1) more r s) (subst (λ o. GoesOn (λ more. StateLinesSay names (number + 1) more ps r) number found r o) same h.2) k.2

pub one_file : (names : List (List ℕ)) (bytes : List ℕ) (r s : Result (List Shown) StateRefusal) → StateFileSays names bytes r → StateFileSays names bytes s → r ≡ s
one_file names bytes r s h k = one_end names (pieces_of bytes) 1 [] r s h k
