-- What the values that were read say of the whole state.
use Rattle.std.proofs.Common.{◌≡◌, ℕ, zero, suc, ◌+◌, ◌<◌, List, [], ◌∷◌, ◌++◌, length, take, get_or, subst, sym, arith, add-one}
use Rattle.serde_json.specs.Data.{Members}
use Rattle.serde_json.specs.Find.{get_member}
use Rattle.values_core.specs.Data.{Val}
use Rattle.states_files.specs.States.{ReadsAt, StateReads}

values_push : (ms : Members) (names : List (List ℕ)) (i : ℕ) (name : List ℕ) (vs : List Val) (v : Val) → i < length names → name ≡ get_or names i name
    → StateReads ms (take i names) vs → ReadsAt (get_member name ms) v → StateReads ms (take (suc i) names) (vs ++ v ∷ [])
values_push ms [] i name vs v h e p r = absurd (omega arith)
values_push ms (m ∷ names) zero name [] v h e p r = (subst (λ (n : List ℕ). ReadsAt (get_member n ms) v) e r, tt)
values_push ms (m ∷ names) zero name (w ∷ ws) v h e p r = absurd p
values_push ms (m ∷ names) (suc i) name [] v h e p r = absurd p
values_push ms (m ∷ names) (suc i) name (w ∷ ws) v h e p r = (p.0, values_push ms names i name ws v (omega arith) e p.1 r)

-- one more name, one more value
pub values_more : (ms : Members) (names : List (List ℕ)) (i : ℕ) (name : List ℕ) (vs : List Val) (v : Val) → i < length names → name ≡ get_or names i name
    → StateReads ms (take i names) vs → ReadsAt (get_member name ms) v → StateReads ms (take (i + 1) names) (vs ++ v ∷ [])
values_more ms names i name vs v h e p r = rw (add-one i) (values_push ms names i name vs v h e p r)

-- at a name stands no value, and so there is no state
pub values_stop : (ms : Members) (names : List (List ℕ)) (i : ℕ) (name : List ℕ) → i < length names → name ≡ get_or names i name
    → ((v : Val) → ¬ ReadsAt (get_member name ms) v) → (vs : List Val) → ¬ StateReads ms names vs
values_stop ms [] i name h e n vs p = absurd (omega arith)
values_stop ms (m ∷ names) i name h e n [] p = p
values_stop ms (m ∷ names) zero name h e n (v ∷ vs) p = n v (subst (λ (x : List ℕ). ReadsAt (get_member x ms) v) (sym e) p.0)
values_stop ms (m ∷ names) (suc i) name h e n (v ∷ vs) p = values_stop ms names i name (omega arith) e n vs p.1
