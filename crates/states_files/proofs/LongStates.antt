-- Each state that a file says has as many values as there are variables.
use Rattle.std.proofs.Common.{◌≡◌, ◌+◌, refl, ap, ℕ, suc, List, [], ◌∷◌, ◌++◌, length, All, Result, Ok, Err, IfOk, inl, inr, subst, sym}
use Rattle.std.specs.Prelude.{MatchBool, true, false, Bool}
use Rattle.std.proofs.lemmas.List.Elements.{All-nil, All-push}
use Rattle.serde_json.specs.Data.{Members}
use Rattle.states_core.specs.States.{Values, shown}
use Rattle.states_core.specs.declared.state.Mark.{Mark}
use Rattle.states_core.specs.declared.state.Shown.{Shown}
use Rattle.states_files.specs.Fields.{LineFields, fields_of}
use Rattle.states_files.specs.Files.{StateFileSays, GoesOn, StateLinesSay, pieces_of}
use Rattle.states_files.specs.Lines.{FieldsSay, ObjectSays, StateLineSays, StateSays, Unless, ValuesSay, is_shown}
use Rattle.states_files.specs.States.{StateReads, are_known, are_there}
use Rattle.states_files.specs.declared.kind.StateKind.{StateKind}
use Rattle.states_files.specs.declared.kind.StateKind.TheVariants.{BadField, MissingVariable, NotJson, BadValue, UnknownVariable}
use Rattle.states_files.specs.declared.kind.StateLine.{StateLine}
use Rattle.states_files.specs.declared.kind.StateLine.TheVariants.{Skipped, State, Refused}
use Rattle.states_files.specs.declared.refusal.StateRefusal.{StateRefusal}

abbrev IsLong : List (List ℕ) → Shown → Type 0
IsLong names x = length x.state ≡ length names

-- what a line tells of has so many values
abbrev ShowsLong : List (List ℕ) → StateLine → Type 0
ShowsLong names Skipped = Unit {0}
ShowsLong names (State x) = IsLong names x
ShowsLong names (Refused why) = Unit {0}

not_both : (w : List Shown) (refusal : StateRefusal) → Ok w ≡ Err refusal → ⊥
not_both w refusal e = cc

same : (names : List (List ℕ)) (number : ℕ) (a b : List Shown) → StateLinesSay names number a [] (Ok b) → a ≡ b
same names number a b e = cc

as_many : (ms : Members) (names : List (List ℕ)) (vs : Values) → StateReads ms names vs → length vs ≡ length names
as_many ms [] [] h = refl
as_many ms [] (v ∷ vs) h = absurd h
as_many ms (name ∷ names) [] h = absurd h
as_many ms (name ∷ names) (v ∷ vs) h = ap suc (as_many ms names vs h.1)

from_refused : (names : List (List ℕ)) (o p : StateLine) → o ≡ p → ShowsLong names p → ShowsLong names o
from_refused names o p e h = subst (λ (x : StateLine). ShowsLong names x) (sym e) h

long_values : (names : List (List ℕ)) (m : Mark) (ms : Members) (o : StateLine) → ValuesSay names m ms o → ShowsLong names o
long_values names m ms o (inl a) = from_refused names o (State (shown m a.0)) a.2 (as_many ms names a.0 a.1)
long_values names m ms o (inr b) = from_refused names o (Refused BadValue) b.1 tt

unless_long : (names : List (List ℕ)) (Bad : Type 0) (why : StateKind) (Q : StateLine → Type 0) (o : StateLine) → (Q o → ShowsLong names o) → Unless Bad why Q o → ShowsLong names o
unless_long names Bad why Q o next (inl a) = from_refused names o (Refused why) a.1 tt
unless_long names Bad why Q o next (inr b) = next b.1

long_state : (names : List (List ℕ)) (m : Mark) (ms : Members) (o : StateLine) → StateSays names m ms o → ShowsLong names o
long_state names m ms o h =
    unless_long names (are_known names ms ≡ false) UnknownVariable (Unless (are_there names ms ≡ false) MissingVariable (ValuesSay names m ms)) o
    (unless_long names (are_there names ms ≡ false) MissingVariable (ValuesSay names m ms) o (long_values names m ms o)) h

long_fields : (names : List (List ℕ)) (r : Result LineFields (List ℕ)) (o : StateLine) → FieldsSay names r o → ShowsLong names o
long_fields names (Err key) o h = from_refused names o (Refused (BadField key)) h tt
long_fields names (Ok f) o h = long_state names f.mark f.state o h

long_object : (names : List (List ℕ)) (line : List ℕ) (o : StateLine) → ObjectSays names line o → ShowsLong names o
long_object names line o (inl a) = long_fields names (fields_of a.0) o a.2
long_object names line o (inr b) = from_refused names o (Refused NotJson) b.1 tt

by_first : (b : Bool) {A B X : Type 0} → (A → X) → (B → X) → MatchBool b A B → X
by_first true f g h = f h
by_first false f g h = g h

long_line : (names : List (List ℕ)) (line : List ℕ) (o : StateLine) → StateLineSays names line o → ShowsLong names o
long_line names line o h = by_first (is_shown line) (long_object names line o) (λ e. from_refused names o Skipped e tt) h

long_on : (names : List (List ℕ)) (number : ℕ) (found : List Shown) (ps : List (List ℕ)) (w : List Shown) (o : StateLine)
    → ((more : List Shown) → All (IsLong names) more → StateLinesSay names (number + 1) more ps (Ok w) → All (IsLong names) w) → All (IsLong names) found → ShowsLong names o
    → GoesOn (λ more. StateLinesSay names (number + 1) more ps (Ok w)) number found (Ok w) o → All (IsLong names) w
long_on names number found ps w Skipped next all long h = next found all h
long_on names number found ps w (State x) next all long h = next (found ++ x ∷ []) (All-push (IsLong names) found x all long) h
long_on names number found ps w (Refused why) next all long h = absurd (not_both w _ h)

long_lines : (names : List (List ℕ)) (number : ℕ) (found : List Shown) (ps : List (List ℕ)) (w : List Shown) → All (IsLong names) found
    → StateLinesSay names number found ps (Ok w) → All (IsLong names) w
long_lines names number found [] w all h = subst (λ (x : List Shown). All (IsLong names) x) (same names number found w h) all
long_lines names number found (p ∷ ps) w all h =
    long_on names number found ps w h.0 (λ more. long_lines names (number + 1) more ps w) all (long_line names p h.0 h.1) h.2

pub states_long : (names : List (List ℕ)) (bytes : List ℕ) (r : Result (List Shown) StateRefusal) → StateFileSays names bytes r
    → IfOk r (λ w. All (λ x. length x.state ≡ length names) w)
states_long names bytes (Ok w) h = long_lines names 1 [] (pieces_of bytes) w (All-nil (IsLong names)) h
states_long names bytes (Err refusal) h = tt
