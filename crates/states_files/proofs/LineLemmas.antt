-- How a stage of reading a line goes on with the next, or ends with its refusal.
use Rattle.std.proofs.Common.{◌≡◌, ℕ, List, true, false, Some, None, inl, inr, Result, Ok, Err, IfOk, refl, sym, ◌∙◌, true≢false}
use Rattle.std.specs.Prelude.{IsUtf8}
use Rattle.std.specs.declared.alloc.AllocError.{AllocError}
use Rattle.serde_json.specs.Data.{Data, null, boolean, number, string, array, object, Members}
use Rattle.serde_json.specs.Find.{as_object}
use Rattle.serde_json.specs.Read.{read}
use Rattle.states_core.specs.States.{Values, shown}
use Rattle.states_core.specs.declared.state.Mark.{Mark}
use Rattle.states_files.specs.Fields.{fields_of}
use Rattle.states_files.specs.Lines.{FieldsSay, IsObject, ObjectSays, OnValue, StateSays, Unless, ValuesSay}
use Rattle.states_files.specs.States.{StateReads, are_known, are_there}
use Rattle.states_files.specs.Walks.{MembersSay}
use Rattle.states_files.specs.declared.kind.StateKind.{StateKind}
use Rattle.states_files.specs.declared.kind.StateKind.TheVariants.{NotJson, UnknownVariable, MissingVariable, BadValue}
use Rattle.states_files.specs.declared.kind.StateLine.{StateLine}
use Rattle.states_files.specs.declared.kind.StateLine.TheVariants.{State, Refused}

value_found : {A : Type 0} (P : A → Type 0) (why : StateKind) (Q : A → StateLine → Type 0) (a : A) (r : Result StateLine AllocError) → P a → IfOk r (Q a) → IfOk r (OnValue P why Q)
value_found P why Q a (Ok o) p q = inl (a, p, q)
value_found P why Q a (Err e) p q = q

goes_on : (Bad : Type 0) (why : StateKind) (Q : StateLine → Type 0) (r : Result StateLine AllocError) → ¬ Bad → IfOk r Q → IfOk r (Unless Bad why Q)
goes_on Bad why Q (Ok o) n q = inr (n, q)
goes_on Bad why Q (Err e) n q = q

some_is : (a b : Data) → Some a ≡ Some b → a ≡ b
some_is a b e = cc

-- JSON that is no object
no_object : (names : List (List ℕ)) (line : List ℕ) (d : Data) (r : Result StateLine AllocError) → ((ms : Members) → ¬ (d ≡ object ms)) → read line ≡ Some d
    → IfOk r (λ o. o ≡ Refused NotJson) → IfOk r (ObjectSays names line)
no_object names line d (Ok o) n e h = inr (λ ms p. n ms (some_is d (object ms) (sym e ∙ p.1)), h)
no_object names line d (Err x) n e h = h

-- what is said of the JSON of a line is said of the line
pub object_said : (names : List (List ℕ)) (line : List ℕ) (d : Data) (r : Result StateLine AllocError) → IsUtf8 line → read line ≡ Some d
    → IfOk r (MembersSay names (as_object d)) → IfOk r (ObjectSays names line)
object_said names line null r u e h = no_object names line null r (λ ms q. cc) e h
object_said names line (boolean b) r u e h = no_object names line (boolean b) r (λ ms q. cc) e h
object_said names line (number n) r u e h = no_object names line (number n) r (λ ms q. cc) e h
object_said names line (string s) r u e h = no_object names line (string s) r (λ ms q. cc) e h
object_said names line (array ds) r u e h = no_object names line (array ds) r (λ ms q. cc) e h
object_said names line (object ms) r u e h = value_found (IsObject line) NotJson (λ m. FieldsSay names (fields_of m)) ms r (u, e) h

no_read : (line : List ℕ) (d : Data) → read line ≡ None → ¬ (read line ≡ Some d)
no_read line d e q = cc

pub not_json : (names : List (List ℕ)) (line : List ℕ) → (IsUtf8 line → read line ≡ None) → ObjectSays names line (Refused NotJson)
not_json names line n = inr (λ ms p. no_read line (object ms) (n p.0) p.1, refl)

pub state_unknown : (names : List (List ℕ)) (m : Mark) (ms : Members) → are_known names ms ≡ false → StateSays names m ms (Refused UnknownVariable)
state_unknown names m ms u = inl (u, refl)

pub state_missing : (names : List (List ℕ)) (m : Mark) (ms : Members) → are_known names ms ≡ true → are_there names ms ≡ false → StateSays names m ms (Refused MissingVariable)
state_missing names m ms k u = inr (λ f. true≢false (sym k ∙ f), inl (u, refl))

-- each key is a variable's name and each variable's name a key
pub state_whole : (names : List (List ℕ)) (m : Mark) (ms : Members) (r : Result StateLine AllocError) → are_known names ms ≡ true → are_there names ms ≡ true
    → IfOk r (ValuesSay names m ms) → IfOk r (StateSays names m ms)
state_whole names m ms r k t h =
    goes_on (are_known names ms ≡ false) UnknownVariable (Unless (are_there names ms ≡ false) MissingVariable (ValuesSay names m ms)) r (λ f. true≢false (sym k ∙ f))
    (goes_on (are_there names ms ≡ false) MissingVariable (ValuesSay names m ms) r (λ f. true≢false (sym t ∙ f)) h)

pub values_read : (names : List (List ℕ)) (m : Mark) (ms : Members) (vs : Values) → StateReads ms names vs → ValuesSay names m ms (State (shown m vs))
values_read names m ms vs h = inl (vs, h, refl)

pub values_unread : (names : List (List ℕ)) (m : Mark) (ms : Members) → ((vs : Values) → ¬ StateReads ms names vs) → ValuesSay names m ms (Refused BadValue)
values_unread names m ms n = inr (n, refl)
