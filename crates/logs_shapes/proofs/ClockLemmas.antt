-- The numbers of nodes, as they stand among the members of an object.
use Rattle.std.proofs.Common.{◌≡◌, ◌<◌, ◌≤◌, ℕ, suc, List, ◌∷◌, length, true, false, Option, None, Some, ap, sym, ◌∙◌, refl, true≢false, option_map, option_and_then, is_some, subst, string_bytes}
use Rattle.std.specs.Prelude.{unwrap_or}
use Rattle.std.proofs.lemmas.Bool.{le-leb, lt-leb}
use Rattle.serde_json.specs.Data.{Data, Members, no_members, member}
use Rattle.serde_json.specs.Events.{members_len}
use Rattle.serde_json.specs.View.{view, members_view}
use Rattle.serde_json.proofs.Views.{Entry, members_len-members_view}
use Rattle.logs_shapes.specs.Clocks.{count_of, few_nodes, numbers_of}
use Rattle.logs_shapes.specs.ClockSeen.{counts_in}

abbrev Counts : Type 0
Counts = List (List ℕ × ℕ)

counted_more : (k : List ℕ) (o : Option ℕ) (m : Option Counts) (ns : Counts) → (is_some m ≡ true → m ≡ Some ns)
    → is_some (option_and_then (λ n. option_map (λ (more : Counts). (k, n) ∷ more) m) o) ≡ true → option_and_then (λ n. option_map (λ (more : Counts). (k, n) ∷ more) m) o ≡ Some ((k, unwrap_or o 0) ∷ ns)
counted_more k None m ns rest h = absurd (true≢false (sym h))
counted_more k (Some n) None ns rest h = absurd (true≢false (sym h))
counted_more k (Some n) (Some more) ns rest h = ap (option_map (λ (xs : Counts). (k, n) ∷ xs)) (rest refl)

counted : (ms : Members) → is_some (numbers_of ms) ≡ true → numbers_of ms ≡ Some (counts_in ms)
counted no_members h = refl
counted (member k d ms) h = counted_more k (count_of d) (numbers_of ms) (counts_in ms) (counted ms) h

counts_len : (ms : Members) → length (counts_in ms) ≡ members_len ms
counts_len no_members = refl
counts_len (member k d ms) = ap suc (counts_len ms)

as_many : (es : List Entry) → length es ≡ length (counts_in (members_view es))
as_many es = sym (counts_len (members_view es) ∙ members_len-members_view es)

many : (m : Option Counts) (ns : Counts) → (is_some m ≡ true → m ≡ Some ns) → 64 < length ns → option_and_then few_nodes m ≡ None
many None ns is h = refl
many (Some xs) ns is h = ap (option_and_then few_nodes) (is refl) ∙ rw (lt-leb (length ns) 64 h) refl

-- an object of more nodes is no clock
pub too_many : (es : List Entry) → 64 < length es → option_and_then few_nodes (numbers_of (members_view es)) ≡ None
too_many es h = many (numbers_of (members_view es)) (counts_in (members_view es)) (counted (members_view es)) (subst (λ (n : ℕ). 64 < n) (as_many es) h)

few : (ns : Counts) → length ns ≤ 64 → few_nodes ns ≡ Some ns
few ns h = rw (le-leb (length ns) 64 h) refl

pub nodes_read : (es : List Entry) → length es ≤ 64 → is_some (numbers_of (members_view es)) ≡ true → option_and_then few_nodes (numbers_of (members_view es)) ≡ Some (counts_in (members_view es))
nodes_read es h some = ap (option_and_then few_nodes) (counted (members_view es) some) ∙ few (counts_in (members_view es)) (subst (λ (n : ℕ). n ≤ 64) (as_many es) h)

none_of : {A : Type 0} (o : Option A) → is_some o ≡ false → o ≡ None
none_of None h = refl
none_of (Some a) h = absurd (true≢false h)

pub no_numbers : (es : List Entry) → is_some (numbers_of (members_view es)) ≡ false → option_and_then few_nodes (numbers_of (members_view es)) ≡ None
no_numbers es none = ap (option_and_then few_nodes) (none_of (numbers_of (members_view es)) none)

passes : (k : List ℕ) (o : Option ℕ) (m : Option Counts) → is_some o ≡ true → is_some (option_and_then (λ n. option_map (λ (more : Counts). (k, n) ∷ more) m) o) ≡ is_some m
passes k None m h = absurd (true≢false (sym h))
passes k (Some n) None h = refl
passes k (Some n) (Some more) h = refl

-- behind a number the others tell
behind_number : (k : List ℕ) (d : Data) (ms : Members) → is_some (count_of d) ≡ true → is_some (numbers_of (member k d ms)) ≡ is_some (numbers_of ms)
behind_number k d ms h = passes k (count_of d) (numbers_of ms) h

fails : (k : List ℕ) (o : Option ℕ) (m : Option Counts) → is_some o ≡ false → is_some (option_and_then (λ n. option_map (λ (more : Counts). (k, n) ∷ more) m) o) ≡ false
fails k None m h = refl
fails k (Some n) m h = absurd (true≢false h)

at_other : (k : List ℕ) (d : Data) (ms : Members) → is_some (count_of d) ≡ false → is_some (numbers_of (member k d ms)) ≡ false
at_other k d ms h = fails k (count_of d) (numbers_of ms) h

pub behind_entry : (e : Entry) (es rest : List Entry) → es ≡ e ∷ rest → is_some (count_of (view e.1)) ≡ true → is_some (numbers_of (members_view es)) ≡ is_some (numbers_of (members_view rest))
behind_entry e es rest i h = ap (λ (fs : List Entry). is_some (numbers_of (members_view fs))) i ∙ behind_number (string_bytes e.0) (view e.1) (members_view rest) h

pub at_entry : (e : Entry) (es rest : List Entry) → es ≡ e ∷ rest → is_some (count_of (view e.1)) ≡ false → is_some (numbers_of (members_view es)) ≡ false
at_entry e es rest i h = ap (λ (fs : List Entry). is_some (numbers_of (members_view fs))) i ∙ at_other (string_bytes e.0) (view e.1) (members_view rest) h
