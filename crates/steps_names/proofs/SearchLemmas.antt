-- Operators and variables sought by their names.
use Rattle.std.proofs.Common.{◌≡◌, ◌≢◌, ◌<◌, ℕ, List, [], ◌∷◌, length, get_or, Bool, true, false, Option, Some, None, ap, sym, ◌∙◌, subst, refl, arith}
use Rattle.std.specs.Prelude.{AllPairs, MatchOption, cond, nat_lt, option_map, position, slice_get}
use Rattle.std.specs.List.{position_or_len}
use Rattle.std.specs.Str.{bytes_eq}
use Rattle.std.proofs.lemmas.Bool.{lt-ltb}
use Rattle.std.proofs.lemmas.List.Sums.{position_or_len_is}
use Rattle.std.proofs.lemmas.List.Quantifiers.{position-Some}
use Rattle.std.proofs.lemmas.Option.{slice_get-get_or, slice_get_within, get_or_from_slice_get}
use Rattle.std.proofs.lemmas.Slice.Eq.{bytes_eq-Decides}
use Rattle.states_core.specs.declared.var_id.VarId.{VarId}
use Rattle.names_terms.specs.Named.{IsNamed, IsVariable}
use Rattle.names_terms.specs.declared.operator.Operator.{Operator}
use Rattle.steps_names.specs.Names.{is_called, operator_named, told, told_at, variable_named}
use Rattle.steps_names.specs.Walks.{NamesDiffer}

-- THE FIRST PLACE

false_unless : (b : Bool) → (b ≡ true → ⊥) → b ≡ false
false_unless true h = absurd (h refl)
false_unless false h = refl

pub first_is : {X : Type 0} (p : X → Bool) (xs : List X) (i : ℕ) (x : X) → slice_get xs i ≡ Some x → p x ≡ true → ((j : ℕ) (y : X) → j < i → slice_get xs j ≡ Some y → p y ≡ true → ⊥) → position p xs ≡ Some i
first_is {X} p xs i x q passes before =
    let within : i < length xs = slice_get_within xs i x q in
    let early : (k : ℕ) → k < i → p (get_or xs k x) ≡ false = λ k below. false_unless (p (get_or xs k x)) (before k (get_or xs k x) below (slice_get-get_or xs k x (omega (arith, below, within)))) in
    let place : position_or_len p xs ≡ i = position_or_len_is p xs i x (omega (arith, within)) early (λ l. ap p (get_or_from_slice_get xs i x x q) ∙ passes) in
    let P : ℕ → Type 0 = λ n. cond (nat_lt n (length xs)) (Some n) None ≡ Some i in
    subst P (sym place) (ap (λ (b : Bool). cond b (Some i) None) (lt-ltb i (length xs) within))

pub first_found : {X : Type 0} (p : X → Bool) (xs : List X) (i : ℕ) → position p xs ≡ Some i → (x : X) × (slice_get xs i ≡ Some x) × (p x ≡ true)
first_found p [] i q = absurd (cc)
first_found p (x ∷ xs) i q =
    let found = position-Some p (x ∷ xs) i x q in
    (get_or (x ∷ xs) i x, slice_get-get_or (x ∷ xs) i x found.0, found.1)

pub none_is : {X : Type 0} (p : X → Bool) (xs : List X) → ((j : ℕ) (y : X) → slice_get xs j ≡ Some y → p y ≡ true → ⊥) → position p xs ≡ None
none_is {X} p xs h = none_of (position p xs) refl
  where
    none_of : (o : Option ℕ) → position p xs ≡ o → position p xs ≡ None
    none_of None q = q
    none_of (Some i) q = let found = first_found p xs i q in absurd (h i found.0 found.1 found.2)

-- OPERATORS

pub called : (name : List ℕ) (o : Operator) → name ≢ [] → o.name ≡ name → is_called name o ≡ true
called [] o some is = absurd (some refl)
called (b ∷ bs) o some is = (bytes_eq-Decides o.name (b ∷ bs)).1 is

pub called_so : (name : List ℕ) (o : Operator) → is_called name o ≡ true → (name ≢ []) × (o.name ≡ name)
called_so [] o h = absurd (cc)
called_so (b ∷ bs) o h = (λ e. cc, (bytes_eq-Decides o.name (b ∷ bs)).0 h)

named_place : (ops : List Operator) (name : List ℕ) (k : ℕ) → NamesDiffer ops → IsNamed ops name k → position (is_called name) ops ≡ Some k
named_place ops name k differ n =
    first_is (is_called name) ops k n.operator n.is (called name n.operator n.some n.named) (λ j y below q h.
    let so = called_so name y h in
    let same : j ≡ k = differ j k y n.operator q n.is (λ e. so.0 (sym so.1 ∙ e)) (so.1 ∙ sym n.named) in
    omega (arith, below, same))

pub operator_found : (ops : List Operator) (name : List ℕ) (k : ℕ) → NamesDiffer ops → IsNamed ops name k → operator_named ops name ≡ told k (slice_get ops k)
operator_found ops name k differ n = ap (told_at ops) (named_place ops name k differ n)

pub operator_missing : (ops : List Operator) (name : List ℕ) → ((k : ℕ) → ¬ IsNamed ops name k) → operator_named ops name ≡ None
operator_missing ops name h =
    ap (told_at ops) (none_is (is_called name) ops (λ j y q t. let so = called_so name y t in h j (record { some = so.0; operator = y; is = q; named = so.1 })))

-- VARIABLES

pub variable_found : (names : List (List ℕ)) (name : List ℕ) (k : ℕ) → AllPairs (λ a b. a ≢ b) names → IsVariable names name k → variable_named names name ≡ Some (record { 0 = k })
variable_found names name k differ is =
    ap (option_map (λ (x : ℕ). record { 0 = x })) (first_is (λ other. bytes_eq other name) names k name is ((bytes_eq-Decides name name).1 refl) (λ j y below q h.
    let apart : get_or names j name ≢ get_or names k name = differ j k name below (slice_get_within names k name is) in
    apart (get_or_from_slice_get names j y name q ∙ (bytes_eq-Decides y name).0 h ∙ sym (get_or_from_slice_get names k name name is))))

pub variable_missing : (names : List (List ℕ)) (name : List ℕ) → ((k : ℕ) → ¬ IsVariable names name k) → variable_named names name ≡ None
variable_missing names name h =
    ap (option_map (λ (x : ℕ). record { 0 = x })) (none_is (λ other. bytes_eq other name) names (λ j y q t. h j (q ∙ ap (λ (o : List ℕ). Some o) ((bytes_eq-Decides y name).0 t))))

pub variable_answer : (names : List (List ℕ)) (name : List ℕ) (r : Option VarId) → AllPairs (λ a b. a ≢ b) names → MatchOption r ((k : ℕ) → ¬ IsVariable names name k) (λ v. IsVariable names name v.0) → r ≡ variable_named names name
variable_answer names name None differ h = sym (variable_missing names name h)
variable_answer names name (Some v) differ h = sym (variable_found names name v.0 differ h)
