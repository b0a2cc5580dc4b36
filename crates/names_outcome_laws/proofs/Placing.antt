-- The table of the definitions of a program of whose names none is wrong: it is begun, each definition is placed in an order of uses, and those that use
-- themselves get their bodies.
use Rattle.std.proofs.Common.{◌≡◌, ◌≢◌, ◌∙◌, sym, ap, refl, subst, arith, inl, inr, ℕ, List, [], ◌∷◌, ◌++◌, length, ◌<◌, ◌≤◌, get_or, set, length-set}
use Rattle.std.specs.Prelude.{◌==◌, ◌^◌, Bool, true, false, if◌then◌else◌, Option, Some, None, slice_get}
use Rattle.std.proofs.lemmas.Bool.Decides.{nat_tests}
use Rattle.values_core.specs.Data.{Val}
use Rattle.reading_trees.specs.declared.config.Config.{Config}
use Rattle.reading_trees.specs.declared.expr.Definition.{Definition}
use Rattle.reading_trees.specs.declared.module.Program.{Program}
use Rattle.names_terms.specs.declared.operator.Operator.{Operator}
use Rattle.names_terms.specs.declared.operator.Own.{Own}
use Rattle.names_terms.specs.declared.operator.Own.TheVariants as owns
use Rattle.names_terms.specs.Terms.{Term}
use Rattle.names_term_parts.specs.Slots.{UsesSmaller}
use Rattle.names_scopes.specs.declared.meant.Entry.{Entry}
use Rattle.names_scopes.specs.declared.meant.Meant.{Meant}
use Rattle.names_scopes.specs.declared.meant.Meant.TheVariants as meant
use Rattle.names_scopes.specs.declared.meant.Named.{Named}
use Rattle.names_scopes.specs.Scopes.{among, bind}
use Rattle.names_scopes.specs.Standing.{AreIn, IsIn}
use Rattle.names_meanings.specs.Around.{Around}
use Rattle.names_meanings.specs.Complaints.{complaint, with_names}
use Rattle.names_meanings.specs.Means.{no_body}
use Rattle.names_meanings.specs.Outcomes.{takes_of}
use Rattle.names_meanings.proofs.AroundLemmas.{ordered_by, smaller_by}
use Rattle.names_meanings.proofs.MeansBelow.{body_below}
use Rattle.names_meanings.proofs.StandingOn.{longer, stands_at, stands_same}
use Rattle.names_program.specs.Names.{AreByDefinition, AreNames, by_index, numbered, numbers_of, meant_if, only_definition}
use Rattle.names_program.specs.Told.{defined_by, entry_if, told}
use Rattle.names_program.proofs.NumberLemmas.{among_in, by_definition_are, grown_are, grown_within, numbered_are, numbered_within}
use Rattle.names_tables.specs.declared.table.Table.{Table}
use Rattle.names_tables.specs.Filling.{IsBegun, IsMeant, IsPlaced, IsPut, IsSettled, IsSettledIf}
use Rattle.names_tables.specs.Tables.{unit_operator}
use Rattle.names_tables.proofs.Filling.{is_put}
use Rattle.names_tables.proofs.Faults.{still_in}
use Rattle.names_tables.proofs.Places.{stays_at}
use Rattle.names_outcome_laws.specs.Lets.{lets}
use Rattle.names_outcome_laws.proofs.Lets.{AddsLets, LetsSoFar, adds_none, named_so_far, settled_so_far}
use Rattle.names_outcome_laws.proofs.Leading.{listed_at, listed_by, listed_past, length_listed}
use Rattle.names_outcome_laws.proofs.Named.{SomeTerm}
use Rattle.names_outcome_laws.proofs.Reading.{Stands, fine_names, scoped, stands_names}
use Rattle.names_outcome_laws.proofs.Trees.{tree_some}
use Rattle.names_outcome_laws.proofs.Vectors.{IsShort, vector}
use Rattle.base_use_order.proofs.Lists.{within_or_past}

-- ---- what the body of a definition means

pub record SomeMeant (t : Table) (d : Definition) : Type 0 where
  pub body : Term
  pub middle : List Operator
  pub meant : IsMeant d body middle t
  pub adds : AddsLets t.operators middle (lets body)

pub some_meant : (t : Table) (d : Definition) → AreIn (length t.operators) t.names → UsesSmaller t.operators → complaint (with_names (takes_of t.operators t.names) d.params) d.body ≡ None → SomeMeant t d
some_meant t d known smaller fine =
    let w : Around = record { here = record { names = t.names; scope = [] }; table = t.operators } in
    let s : Stands w = record { program = known; around = tt } in
    let r : SomeTerm (scoped w (bind [] d.params)) d.body = tree_some d.body (scoped w (bind [] d.params)) (stands_names w d.params s) (fine_names w d.params d.body fine) in
    record {
      body = r.what;
      middle = r.behind.table;
      meant = record {
        grown = r.read.grown;
        unnamed = r.read.unnamed;
        smaller = smaller_by r.behind.table (r.read.ordered (ordered_by t.operators smaller));
        below = body_below t.names r.behind.table (still_in t.operators r.behind.table t.names r.read.grown known) [] d.params d.body r.what tt (r.read.means r.behind.table (stands_same (length t.operators) r.behind.table));
        means = r.read.means;
      };
      adds = r.lets;
    }

-- ---- a table without definitions

abbrev no_numbers : ℕ → List (Option ℕ)
no_numbers n = listed_by (λ i. None) n

none_at : (n i : ℕ) → numbers_of (no_numbers n) i ≡ None
none_at n i = elim (within_or_past i n) [
  | inl lt ↦ listed_at {A = Option ℕ} (λ k. None) n i None lt
  | inr le ↦ listed_past {A = Option ℕ} (λ k. None) n i None le
]

no_some : (n i k : ℕ) → numbers_of (no_numbers n) i ≡ Some k → ⊥
no_some n i k q = let bad : None ≡ Some k = sym (none_at n i) ∙ q in cc

short_none : (n : ℕ) → n < 2 ^ 63 → IsShort (no_numbers n)
short_none n few = subst (λ (k : ℕ). k < 2 ^ 63) (sym (length_listed {A = Option ℕ} (λ k. None) n)) few

abbrev begun_table : (names : List Entry) (n : ℕ) → n < 2 ^ 63 → Table
begun_table names n few = record { operators = []; numbers = vector (no_numbers n) (short_none n few); names = told (numbered (numbers_of (no_numbers n))) names names }

pub begun : (names : List Entry) (n : ℕ) → n < 2 ^ 63 → (t : Table) × IsBegun names n t
begun names n few = (
  begun_table names n few,
  record {
    operators = refl;
    unnumbered = none_at n;
    as_many = length_listed {A = Option ℕ} (λ k. None) n;
    are = numbered_are (numbers_of (no_numbers n)) names (told (numbered (numbers_of (no_numbers n))) names names) refl;
    known = numbered_within (numbers_of (no_numbers n)) names (told (numbered (numbers_of (no_numbers n))) names names) refl 0 (λ i k q. absurd (no_some n i k q));
  },
)

-- ---- the names of each definition

not_meant : (i : ℕ) (m : Meant) (w : Named) → (count : ℕ) → IsIn count m → count ≤ i → meant_if i m w ≡ None
not_meant i (meant.Definition j) w count lt le = by_test (i == j.0) refl
  where
    other : (i j : ℕ) → j < count → count ≤ i → (i == j) ≡ true → ⊥
    other i j lt le q = (let same : i ≡ j = grind (arith, nat_tests) in omega (arith, same, lt, le))

    by_test : (b : Bool) → (i == j.0) ≡ b → (if i == j.0 then Some w else None) ≡ None
    by_test true q = absurd (other i j.0 lt le q)
    by_test false q = ap (λ (b : Bool). if b then Some w else None) q
not_meant i (meant.Slot j) w count h le = refl
not_meant i (meant.Variable j) w count h le = refl
not_meant i (meant.Known v) w count h le = refl
not_meant i (meant.Set s) w count h le = refl
not_meant i (meant.Standard o) w count h le = refl

none_means : (names : List Entry) (count i : ℕ) → AreIn count names → count ≤ i → (n : List ℕ) (o : Option Named) → among names n ≡ o → only_definition i o ≡ None
none_means names count i known le n None q = refl
none_means names count i known le n (Some w) q = not_meant i w.meant w count (among_in count names n w known q) le

none_told : (names : List Entry) (count i : ℕ) → AreIn count names → count ≤ i → (es : List Entry) → told (only_definition i) names es ≡ []
none_told names count i known le [] = refl
none_told names count i known le (e ∷ es) =
    ap (λ (o : Option Named). entry_if e.name o ++ told (only_definition i) names es) (none_means names count i known le e.name (among names e.name) refl) ∙ none_told names count i known le es

-- for each definition the names that mean it
abbrev pub lists_of : List Entry → ℕ → List (List Entry)
lists_of names n = listed_by (λ i. told (only_definition i) names names) n

pub lists_are : (names : List Entry) (n : ℕ) → AreIn n names → (p : Program) (c : Config) (values : List Val) → AreNames p c values by_index names → AreByDefinition p c values (lists_of names n)
lists_are names n known = by_definition_are names (lists_of names n) each
  where
    each : (i : ℕ) → get_or (lists_of names n) i [] ≡ told (only_definition i) names names
    each i = elim (within_or_past i n) [
      | inl lt ↦ listed_at (λ k. told (only_definition k) names names) n i [] lt
      | inr le ↦ listed_past (λ k. told (only_definition k) names names) n i [] le ∙ sym (none_told names n i known le names)
    ]

-- ---- one more definition, put last

short_set : (xs : List (Option ℕ)) (i : ℕ) (x : Option ℕ) → IsShort xs → IsShort (set xs i x)
short_set xs i x few = subst (λ (k : ℕ). k < 2 ^ 63) (sym (length-set xs i x)) few

abbrev put_table : (lists : List (List Entry)) (index : ℕ) (d : Definition) (own : Own) (body : Term) (old : Table) → IsShort old.numbers.items → Table
put_table lists index d own body old short = record {
  operators = old.operators ++ unit_operator d own body ∷ [];
  numbers = vector (set old.numbers.items index (Some (length old.operators))) (short_set old.numbers.items index (Some (length old.operators)) short);
  names = old.names ++ defined_by (length old.operators) (get_or lists index []);
}

pub put : (lists : List (List Entry)) (index : ℕ) (d : Definition) (own : Own) (body : Term) (old : Table) → IsShort old.numbers.items → index < length old.numbers.items → AreIn (length old.operators) old.names → (new : Table) × IsPut lists index d own body old new
put lists index d own body old short lt known = (
  put_table lists index d own body old short,
  is_put lists index d own body old (put_table lists index d own body old short) (unit_operator d own body) (length old.operators) refl refl refl refl lt known
      (λ p c values before mean none a. grown_are old.names (put_table lists index d own body old short).names (get_or lists index []) lists index (length old.operators) refl refl p c values before mean none a)
      (λ before count h le less. grown_within old.names (put_table lists index d own body old short).names (get_or lists index []) (length old.operators) refl before count h le less),
)

-- where a definition has a name, each row without one is still of a LET
abbrev pub KeepsSoFar : Definition → Table → Table → Type 0
KeepsSoFar d old new = d.name ≢ [] → LetsSoFar old.operators → LetsSoFar new.operators

put_so_far : (lists : List (List Entry)) (index : ℕ) (d : Definition) (own : Own) (body : Term) (ops : List Operator) (old new : Table) → IsPut lists index d own body old new
    → AddsLets ops old.operators (lets body) → d.name ≢ [] → LetsSoFar ops → LetsSoFar new.operators
put_so_far lists index d own body ops old new put adds named so =
    subst (λ (l : List Operator). LetsSoFar l) (sym put.pushed) (named_so_far ops old.operators (unit_operator d own body) named so adds)

-- placed by how it uses itself
pub some_placed : (lists : List (List Entry)) (own : Own) (index : ℕ) (d : Definition) (old : Table) → IsShort old.numbers.items → index < length old.numbers.items → AreIn (length old.operators) old.names → UsesSmaller old.operators → (own ≡ owns.Apart → complaint (with_names (takes_of old.operators old.names) d.params) d.body ≡ None) → (new : Table) × IsPlaced lists own index d old new × KeepsSoFar d old new
some_placed lists owns.Apart index d old short lt known smaller fine =
    let m : SomeMeant old d = some_meant old d known smaller (fine refl) in
    let later : AreIn (length m.middle) old.names = still_in old.operators m.middle old.names m.meant.grown known in
    let n : (new : Table) × IsPut lists index d owns.Apart m.body (record old { operators = m.middle }) new = put lists index d owns.Apart m.body (record old { operators = m.middle }) short lt later in
    (n.0, record { body = m.body; middle = m.middle; meant = m.meant; put = n.1 }, put_so_far lists index d owns.Apart m.body old.operators (record old { operators = m.middle }) n.0 n.1 m.adds)
some_placed lists owns.Function index d old short lt known smaller fine =
    let n : (new : Table) × IsPut lists index d owns.Function no_body old new = put lists index d owns.Function no_body old short lt known in
    (n.0, n.1, put_so_far lists index d owns.Function no_body old.operators old n.0 n.1 (adds_none old.operators))
some_placed lists owns.Itself index d old short lt known smaller fine =
    let n : (new : Table) × IsPut lists index d owns.Itself no_body old new = put lists index d owns.Itself no_body old short lt known in
    (n.0, n.1, put_so_far lists index d owns.Itself no_body old.operators old n.0 n.1 (adds_none old.operators))

-- ---- one that uses itself gets its body

one_operator : (o q : Operator) → Some o ≡ Some q → o ≡ q
one_operator o q e = cc

-- the place that was kept for it
abbrev pub WaitsAt : Table → ℕ → Definition → Type 0
WaitsAt t row d = (own : Own) × (slice_get t.operators row ≡ Some (unit_operator d own no_body))

settled_on : (row : ℕ) (d : Definition) (old : Table) (own : Own) (m : SomeMeant old d) (o : Operator) → slice_get m.middle row ≡ Some o → slice_get m.middle row ≡ Some (unit_operator d own no_body)
    → d.name ≢ [] → LetsSoFar old.operators → LetsSoFar (set m.middle row (record o { body = m.body }))
settled_on row d old own m o at waits named so =
    let same : unit_operator d own no_body ≡ o = one_operator (unit_operator d own no_body) o (sym waits ∙ at) in
    let name : o.name ≡ d.name = sym (ap (λ (q : Operator). q.name) same) in
    settled_so_far old.operators m.middle row o (record o { body = m.body }) (λ e. named (sym name ∙ e)) (sym (ap (λ (q : Operator). lets q.body) same)) refl at so m.adds

pub some_settled : (index row : ℕ) (d : Definition) (old : Table) → numbers_of old.numbers.items index ≡ Some row → row < length old.operators → AreIn (length old.operators) old.names → UsesSmaller old.operators → complaint (with_names (takes_of old.operators old.names) d.params) d.body ≡ None → (new : Table) × IsSettled index d old new × (WaitsAt old row d → KeepsSoFar d old new)
some_settled index row d old numbered lt known smaller fine =
    let m : SomeMeant old d = some_meant old d known smaller fine in
    let less : row < length m.middle = (let more : length old.operators ≤ length m.middle = longer old.operators m.meant.grown in omega (arith, lt, more)) in
    let there : (o : Operator) × (slice_get m.middle row ≡ Some o) = stands_at m.middle row less in (
      record old { operators = set m.middle row (record there.0 { body = m.body }) },
      record {
        row = row;
        numbered = numbered;
        settled = record {
          body = m.body;
          middle = m.middle;
          meant = m.meant;
          changed = λ o e. ap (λ (q : Operator). set m.middle row (record q { body = m.body })) (one_operator there.0 o (sym there.1 ∙ e));
          names = refl;
          numbers = refl;
        };
      },
      λ w named so. settled_on row d old w.0 m there.0 there.1 (stays_at old.operators m.middle m.meant.grown row (unit_operator d w.0 no_body) w.1) named so,
    )

pub some_settled_if : (b : Bool) (index row : ℕ) (d : Definition) (old : Table) → numbers_of old.numbers.items index ≡ Some row → row < length old.operators → AreIn (length old.operators) old.names → UsesSmaller old.operators → complaint (with_names (takes_of old.operators old.names) d.params) d.body ≡ None → (new : Table) × IsSettledIf b index d old new × ((b ≡ true → WaitsAt old row d) → KeepsSoFar d old new)
some_settled_if true index row d old numbered lt known smaller fine =
    let s : (new : Table) × IsSettled index d old new × (WaitsAt old row d → KeepsSoFar d old new) = some_settled index row d old numbered lt known smaller fine in
    (s.0, s.1, λ w. s.2 (w refl))
some_settled_if false index row d old numbered lt known smaller fine = (old, refl, λ w named so. so)
