-- What is known of the bodies of definitions.
use Rattle.std.proofs.Common.{◌≡◌, inl, inr, List, [], ◌∷◌, ◌<◌, length, refl, subst, sym, arith}
use Rattle.std.specs.Prelude.{◌⊎◌, ℕ, zero, suc, Bool, true, false, Contains, Some, Result, Ok, Err, MatchResult, OnOk, if◌then◌else◌, slice_get}
use Rattle.std.specs.List.{IsAmong, slice_index_or}
use Rattle.std.specs.Map.{values_of}
use Rattle.indexmap.specs.IndexMap.{insert_entry}
use Rattle.names_terms.specs.declared.operator.Operator.{Operator}
use Rattle.names_term_parts.proofs.Contained.{contains_cons, contains_head, contains_nothing, contains_tail}
use Rattle.actions_meanings.specs.declared.fault.FormFault.{FormFault}
use Rattle.actions_meanings.specs.declared.fault.FormFault.TheVariants.{NoMemory}
use Rattle.actions_meanings.specs.Reads.{VariableSet}
use Rattle.actions_early_reads.specs.declared.walking.Walk.{Walk}
use Rattle.actions_early_reads.specs.Ready.{table_of}
use Rattle.actions_early_reads.specs.Sets.{shown}
use Rattle.actions_forms.specs.declared.endings.Ending.{Ending}
use Rattle.actions_forms.specs.declared.endings.Endings.{Endings}
use Rattle.actions_forms.specs.Endings.{Has, Remembers}
use Rattle.actions_forms.specs.Says.{SaysBody, SaysFixed}
use Rattle.actions_forms.proofs.Ordering.{body-some}

-- VALUES OF A MAP

more_values : {K V : Type 0} (b : Bool) (row : K × V) (rows more : List (K × V)) (v x : V) → (Contains (values_of more) x → (x ≡ v) ⊎ Contains (values_of rows) x) → Contains (values_of (if b then (row.0, v) ∷ rows else row ∷ more)) x → (x ≡ v) ⊎ Contains (values_of (row ∷ rows)) x
more_values true row rows more v x later c = elim (contains_cons v (values_of rows) x c) [
  | inl s ↦ inl (sym s)
  | inr k ↦ inr (contains_tail row.1 (values_of rows) x k)
]
more_values false row rows more v x later c = elim (contains_cons row.1 (values_of more) x c) [
  | inl s ↦ inr (subst (λ y. Contains (row.1 ∷ values_of rows) y) s (contains_head row.1 (values_of rows)))
  | inr k ↦ elim (later k) [
    | inl s ↦ inl s
    | inr h ↦ inr (contains_tail row.1 (values_of rows) x h)
  ]
]

-- a value behind an insertion is the new one, or was there
pub value-inserted : {K V : Type 0} (same : K → K → Bool) (rows : List (K × V)) (k : K) (v x : V) → Contains (values_of (insert_entry same rows k v)) x → (x ≡ v) ⊎ Contains (values_of rows) x
value-inserted same [] k v x c = elim (contains_cons v [] x c) [
  | inl s ↦ inl (sym s)
  | inr n ↦ absurd (contains_nothing x n)
]
value-inserted same (row ∷ rows) k v x c = more_values (same k row.0) row rows (insert_entry same rows k v) v x (value-inserted same rows k v x) c

pub contains-among : {V : Type 0} (vs : List V) (v : V) → IsAmong vs v → Contains vs v
contains-among {V} vs v among = at vs among.0 among.1.0 among.1.1
  where
    at : (vs : List V) (i : ℕ) → i < length vs → v ≡ slice_index_or vs i v → Contains vs v
    at [] i lt is = absurd (omega arith)
    at (x ∷ vs) zero lt is = subst (λ y. Contains (x ∷ vs) y) (sym is) (contains_head x vs)
    at (x ∷ vs) (suc i) lt is = contains_tail x vs v (at vs i (omega arith) is)

-- BODIES

pub body-known : (w : Walk) (B : VariableSet) (i : ℕ) (o : Operator) (r : Result ℕ FormFault) → slice_get (table_of w) i ≡ Some o → SaysFixed w i B o.body r → (bound : ℕ) → SaysBody w bound B i r
body-known w B i o r q says bound at ts k row = body-some w bound B i o r (row.below i ts refl) q says at ts k row

pub body-noted : (w : Walk) (bound : ℕ) (B : VariableSet) (i after : ℕ) (r : Result ℕ FormFault) → SaysBody w bound B i (Ok after) → MatchResult r (λ set. set ≡ after) (λ f. f ≡ NoMemory) → SaysBody w bound B i r
body-noted w bound B i after (Ok set) says given = subst (λ (s : ℕ). SaysBody w bound B i (Ok s)) (sym given) says
body-noted w bound B i after (Err f) says given = subst (λ (s : FormFault). SaysBody w bound B i (Err s)) (sym given) (λ at ts k row. tt)

pub remembers-nothing : (w : Walk) (known : Endings) → ((e : Ending) → ¬ Has known e) → Remembers w known
remembers-nothing w known none = record { each = λ e h. absurd (none e h) }

pub remembers-one : (w : Walk) (i before after : ℕ) (old new : Endings) → Remembers w old → ((bound : ℕ) → SaysBody w bound (shown before) i (Ok after)) → ((e : Ending) → Has new e → (e ≡ record { number = i; before = before; after = after }) ⊎ Has old e) → Remembers w new
remembers-one w i before after old new known one noted = record {
  each = λ e h. elim (noted e h) [
    | inl s ↦ subst (λ (x : Ending). (bound : ℕ) → SaysBody w bound (shown x.before) x.number (Ok x.after)) (sym s) one
    | inr k ↦ known.each e k
  ];
}

pub noted-remembers : (w : Walk) (i before after : ℕ) (old new : Endings) (r : Result ℕ FormFault) → OnOk r ((e : Ending) → Has new e → (e ≡ record { number = i; before = before; after = after }) ⊎ Has old e) → Remembers w old → ((bound : ℕ) → SaysBody w bound (shown before) i (Ok after)) → OnOk r (Remembers w new)
noted-remembers w i before after old new (Ok set) noted known one = remembers-one w i before after old new known one noted
noted-remembers w i before after old new (Err f) noted known one = tt
