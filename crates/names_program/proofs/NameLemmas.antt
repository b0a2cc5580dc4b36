-- Entries, one behind the other, mean what the names of the program do.
use Rattle.std.proofs.Common.{◌≡◌, ◌∙◌, sym, ap, refl, List, [], ◌∷◌, ◌++◌, length, arith}
use Rattle.std.specs.Prelude.{ℕ, suc, ◌+◌, Bool, true, false, if◌then◌else◌, Option, Some, None, option_map, slice_get}
use Rattle.std.specs.Str.{bytes_eq}
use Rattle.base_core.specs.Texts.{same_bytes}
use Rattle.values_core.specs.Data.{Val}
use Rattle.reading_trees.specs.Grammar.{qualified}
use Rattle.reading_trees.specs.declared.config.Config.{Config}
use Rattle.reading_trees.specs.declared.config.GivenAt.{GivenAt}
use Rattle.reading_trees.specs.declared.expr.Definition.{Definition}
use Rattle.reading_trees.specs.declared.module.Declared.{Declared}
use Rattle.reading_trees.specs.declared.module.Program.{Program}
use Rattle.names_scopes.specs.declared.meant.Entry.{Entry}
use Rattle.names_scopes.specs.declared.meant.Meant.{Meant}
use Rattle.names_scopes.specs.declared.meant.Meant.TheVariants as meant
use Rattle.names_scopes.specs.declared.meant.Named.{Named}
use Rattle.names_scopes.specs.Scopes.{among, named}
use Rattle.names_program.specs.InUnits.{variables_in, constants_in, definitions_in}
use Rattle.names_program.specs.Entries.{index_from, replaced_is, constant_entries, definition_entries, marked_entries, plain_entries, standard_entries, variable_entries}
use Rattle.names_program.specs.Names.{AreNames, by_index, declared_meaning, definition_meant, first_of, index_among, meant_or, names_declared, names_defined, names_marked, numbered, numbered_meant, replacement, value_at, variable_among, variable_means, variable_named, constant_means, definition_means, standard_means, params_at}
use Rattle.names_program.specs.Standard.{brought}

from_suc : (k : ℕ) (ms : List (List ℕ)) (n : List ℕ) → index_from (suc k) ms n ≡ option_map suc (index_from k ms n)
from_suc k [] n = refl
from_suc k (m ∷ ms) n = one (bytes_eq m n) (from_suc (suc k) ms n)
  where
    one : (b : Bool) → index_from (suc (suc k)) ms n ≡ option_map suc (index_from (suc k) ms n) → (if b then Some (suc k) else index_from (suc (suc k)) ms n) ≡ option_map suc (if b then Some k else index_from (suc k) ms n)
    one true h = refl
    one false h = h

-- an index is counted from 0
pub from_zero : (ms : List (List ℕ)) (n : List ℕ) → index_from 0 ms n ≡ index_among ms n
from_zero [] n = refl
from_zero (m ∷ ms) n = ap (λ o. if bytes_eq m n then Some 0 else o) (from_suc 0 ms n ∙ ap (option_map suc) (from_zero ms n))

pub among_append : (xs ys : List Entry) (n : List ℕ) → among (xs ++ ys) n ≡ first_of (among xs n) (among ys n)
among_append [] ys n = refl
among_append (x ∷ xs) ys n = one (bytes_eq x.name n) (among_append xs ys n)
  where
    one : (b : Bool) → among (xs ++ ys) n ≡ first_of (among xs n) (among ys n) → (if b then Some x.is else among (xs ++ ys) n) ≡ first_of (if b then Some x.is else among xs n) (among ys n)
    one true h = refl
    one false h = h

-- what stands at an index that is counted from k
abbrev found_at : (ℕ → List ℕ → Named) → ℕ → List ℕ → Option ℕ → Option Named
found_at at k n None = None
found_at at k n (Some j) = Some (at (k + j) n)

-- one more name before others
found_step : (at : ℕ → List ℕ → Named) (k : ℕ) (m n : List ℕ) (rest : Option Named) (b : Bool) → bytes_eq m n ≡ b → (o : Option ℕ) → rest ≡ found_at at (suc k) n o → (if b then Some (at k m) else rest) ≡ found_at at k n (if b then Some 0 else option_map suc o)
found_step at k m n rest true e o h =
    let z : k ≡ k + 0 = omega arith in
    ap (λ x. Some (at k x)) (same_bytes m n e) ∙ ap (λ (i : ℕ). Some (at i n)) z
found_step at k m n rest false e None h = h
found_step at k m n rest false e (Some j) h =
    let z : suc k + j ≡ k + suc j = omega arith in
    h ∙ ap (λ (i : ℕ). Some (at i n)) z

found_all : (at : ℕ → List ℕ → Named) (means : Option ℕ → Option Named) (n : List ℕ) → means None ≡ None → ((i : ℕ) → means (Some i) ≡ Some (at i n)) → (o : Option ℕ) → found_at at 0 n o ≡ means o
found_all at means n none some None = sym none
found_all at means n none some (Some j) =
    let z : 0 + j ≡ j = omega arith in
    ap (λ (i : ℕ). Some (at i n)) z ∙ sym (some j)

abbrev variable_at : ℕ → List ℕ → Named
variable_at i n = named 0 (meant.Variable (record { 0 = i }))

plain_found : (k : ℕ) (ds : List Declared) (n : List ℕ) → among (plain_entries k ds) n ≡ found_at variable_at k n (index_among (names_declared ds) n)
plain_found k [] n = refl
plain_found k (d ∷ ds) n = found_step variable_at k d.name n (among (plain_entries (suc k) ds) n) (bytes_eq d.name n) refl (index_among (names_declared ds) n) (plain_found (suc k) ds n)

marked_found : (k : ℕ) (ds : List Declared) (n : List ℕ) → among (marked_entries k ds) n ≡ found_at variable_at k n (index_among (names_marked ds) n)
marked_found k [] n = refl
marked_found k (d ∷ ds) n =
    found_step variable_at k (qualified [] d.name) n (among (marked_entries (suc k) ds) n) (bytes_eq (qualified [] d.name) n) refl (index_among (names_marked ds) n) (marked_found (suc k) ds n)

earlier_means : (a b : Option ℕ) → first_of (variable_means a) (variable_means b) ≡ variable_means (first_of a b)
earlier_means None b = refl
earlier_means (Some i) b = refl

variables_are : (ds : List Declared) (n : List ℕ) → among (variable_entries 0 ds) n ≡ variable_means (variable_among ds n)
variables_are ds n =
    among_append (plain_entries 0 ds) (marked_entries 0 ds) n
    ∙ ap (λ o. first_of o (among (marked_entries 0 ds) n)) (plain_found 0 ds n ∙ found_all variable_at variable_means n refl (λ i. refl) (index_among (names_declared ds) n))
    ∙ ap (λ o. first_of (variable_means (index_among (names_declared ds) n)) o) (marked_found 0 ds n ∙ found_all variable_at variable_means n refl (λ i. refl) (index_among (names_marked ds) n))
    ∙ earlier_means (index_among (names_declared ds) n) (index_among (names_marked ds) n)

abbrev constant_at : Program → Config → List Val → ℕ → List ℕ → Named
constant_at p c values i n = named 0 (meant_or (meant.Known (value_at values i)) (replacement p c n 0))

constants_found : (p : Program) (c : Config) (values : List Val) (k : ℕ) (ds : List Declared) (n : List ℕ) → among (constant_entries c.givens (definitions_in p.units) values k ds) n ≡ found_at (constant_at p c values) k n (index_among (names_declared ds) n)
constants_found p c values k [] n = refl
constants_found p c values k (d ∷ ds) n = found_step (constant_at p c values) k d.name n (among (constant_entries c.givens (definitions_in p.units) values (suc k) ds) n) (bytes_eq d.name n) refl (index_among (names_declared ds) n) (constants_found p c values (suc k) ds n)

constants_are : (p : Program) (c : Config) (values : List Val) (ds : List Declared) (n : List ℕ) → among (constant_entries c.givens (definitions_in p.units) values 0 ds) n ≡ constant_means p c values n (index_among (names_declared ds) n)
constants_are p c values ds n =
    constants_found p c values 0 ds n ∙ found_all (constant_at p c values) (constant_means p c values n) n refl (λ i. refl) (index_among (names_declared ds) n)

abbrev definition_at : Program → Config → ℕ → List ℕ → Named
definition_at p c i n =
    named (params_at (slice_get (definitions_in p.units) i)) (meant_or (definition_meant i) (replacement p c n (params_at (slice_get (definitions_in p.units) i))))

-- the definitions from number k on
definitions_found : (p : Program) (c : Config) (k : ℕ) (ds : List Definition) (n : List ℕ) → ((j : ℕ) → slice_get (definitions_in p.units) (k + j) ≡ slice_get ds j) → among (definition_entries c.givens (definitions_in p.units) k ds) n ≡ found_at (definition_at p c) k n (index_among (names_defined ds) n)
definitions_found p c k [] n h = refl
definitions_found p c k (d ∷ ds) n h =
    let here : slice_get (definitions_in p.units) k ≡ Some d = (let z : k ≡ k + 0 = omega arith in ap (slice_get (definitions_in p.units)) z ∙ h 0) in
    let needed : length d.params ≡ params_at (slice_get (definitions_in p.units) k) = ap params_at (sym here) in
    ap (λ (x : ℕ). if bytes_eq d.name n then Some (named x (meant_or (definition_meant k) (replacement p c d.name x))) else among (definition_entries c.givens (definitions_in p.units) (suc k) ds) n) needed
    ∙ found_step (definition_at p c) k d.name n (among (definition_entries c.givens (definitions_in p.units) (suc k) ds) n) (bytes_eq d.name n) refl (index_among (names_defined ds) n) (definitions_found p c (suc k) ds n (λ j. (let z : suc k + j ≡ k + suc j = omega arith in ap (slice_get (definitions_in p.units)) z ∙ h (suc j))))

definitions_are : (p : Program) (c : Config) (n : List ℕ) → among (definition_entries c.givens (definitions_in p.units) 0 (definitions_in p.units)) n ≡ definition_means p c n (index_among (names_defined (definitions_in p.units)) n)
definitions_are p c n =
    definitions_found p c 0 (definitions_in p.units) n (λ j. (let z : 0 + j ≡ j = omega arith in ap (slice_get (definitions_in p.units)) z)) ∙ found_all (definition_at p c) (definition_means p c n) n refl (λ i. refl) (index_among (names_defined (definitions_in p.units)) n)

standard_step : (p : Program) (c : Config) (x : Entry) (n : List ℕ) (rest : Option Named) (o : Option Named) (b : Bool) → bytes_eq x.name n ≡ b → rest ≡ standard_means p c n o → (if b then Some (replaced_is c.givens (definitions_in p.units) x.name x.is) else rest) ≡ standard_means p c n (if b then Some x.is else o)
standard_step p c x n rest o true e h =
    ap (λ (m : List ℕ). Some (replaced_is c.givens (definitions_in p.units) m x.is)) (same_bytes x.name n e)
standard_step p c x n rest o false e h = h

standard_are : (p : Program) (c : Config) (es : List Entry) (n : List ℕ) → among (standard_entries c.givens (definitions_in p.units) es) n ≡ standard_means p c n (among es n)
standard_are p c [] n = refl
standard_are p c (x ∷ es) n = standard_step p c x n (among (standard_entries c.givens (definitions_in p.units) es) n) (among es n) (bytes_eq x.name n) refl (standard_are p c es n)

by_index_meant : (needed : ℕ) (m : Meant) → option_map (named needed) (numbered_meant by_index m) ≡ Some (named needed m)
by_index_meant needed (meant.Slot i) = refl
by_index_meant needed (meant.Variable x) = refl
by_index_meant needed (meant.Known v) = refl
by_index_meant needed (meant.Set s) = refl
by_index_meant needed (meant.Standard o) = refl
by_index_meant needed (meant.Definition i) = refl

-- by their indices definitions are told as they are declared
pub by_index_is : (o : Option Named) → numbered by_index o ≡ o
by_index_is None = refl
by_index_is (Some w) = by_index_meant w.needed w.meant

-- the four lists, one behind the other
pub are_names : (p : Program) (c : Config) (values : List Val) (names : List Entry) (vs cs ds ss : List Entry) → names ≡ ((vs ++ cs) ++ ds) ++ ss → vs ≡ variable_entries 0 (variables_in p.units) → cs ≡ constant_entries c.givens (definitions_in p.units) values 0 (constants_in p.units) → ds ≡ definition_entries c.givens (definitions_in p.units) 0 (definitions_in p.units) → ss ≡ standard_entries c.givens (definitions_in p.units) (brought p.standard) → AreNames p c values by_index names
are_names p c values names vs cs ds ss e v k d s n =
    let a : among vs n ≡ variable_means (variable_named p n) = ap (λ es. among es n) v ∙ variables_are (variables_in p.units) n in
    let b : among cs n ≡ constant_means p c values n (index_among (names_declared (constants_in p.units)) n) = ap (λ es. among es n) k ∙ constants_are p c values (constants_in p.units) n in
    let f : among ds n ≡ definition_means p c n (index_among (names_defined (definitions_in p.units)) n) = ap (λ es. among es n) d ∙ definitions_are p c n in
    let g : among ss n ≡ standard_means p c n (among (brought p.standard) n) = ap (λ es. among es n) s ∙ standard_are p c (brought p.standard) n in
    ap (λ es. among es n) e ∙ among_append ((vs ++ cs) ++ ds) ss n ∙ ap (λ o. first_of o (among ss n)) (among_append (vs ++ cs) ds n ∙ ap (λ o. first_of o (among ds n)) (among_append vs cs n)) ∙ regroup (among vs n) (among cs n) (among ds n) (among ss n) ∙ ap (λ o. first_of o (first_of (among cs n) (first_of (among ds n) (among ss n)))) a ∙ ap (λ o. first_of (variable_means (variable_named p n)) (first_of o (first_of (among ds n) (among ss n)))) b ∙ ap (λ o. first_of (variable_means (variable_named p n)) (first_of (constant_means p c values n (index_among (names_declared (constants_in p.units)) n)) (first_of o (among ss n)))) f ∙ ap (λ o. first_of (variable_means (variable_named p n)) (first_of (constant_means p c values n (index_among (names_declared (constants_in p.units)) n)) (first_of (definition_means p c n (index_among (names_defined (definitions_in p.units)) n)) o))) g ∙ sym (by_index_is (declared_meaning p c values n))
  where
    regroup : (w x y z : Option Named) → first_of (first_of (first_of w x) y) z ≡ first_of w (first_of x (first_of y z))
    regroup (Some w) x y z = refl
    regroup None (Some x) y z = refl
    regroup None None y z = refl

-- the names, step by step
pub names_made : (p : Program) (c : Config) (values : List Val) (gs : List GivenAt) (vars consts : List Declared) (d2 d3 d4 : List Definition) (es : List Entry) (n0 n1 n2 n3 n4 : List Entry) → gs ≡ c.givens → vars ≡ variables_in p.units → consts ≡ constants_in p.units → d2 ≡ definitions_in p.units → d3 ≡ definitions_in p.units → d4 ≡ definitions_in p.units → es ≡ brought p.standard → n0 ≡ [] → n1 ≡ n0 ++ variable_entries 0 vars → n2 ≡ n1 ++ constant_entries gs d2 values 0 consts → n3 ≡ n2 ++ definition_entries gs d3 0 d3 → n4 ≡ n3 ++ standard_entries gs d4 es → AreNames p c values by_index n4
names_made p c values gs vars consts d2 d3 d4 es n0 n1 n2 n3 n4 g v k e2 e3 e4 b z q1 q2 q3 q4 =
    are_names p c values n4 (variable_entries 0 vars) (constant_entries gs d2 values 0 consts) (definition_entries gs d3 0 d3) (standard_entries gs d4 es)
    (q4 ∙ ap (λ (l : List Entry). l ++ standard_entries gs d4 es) (q3 ∙ ap (λ (l : List Entry). l ++ definition_entries gs d3 0 d3) (q2 ∙ ap (λ (l : List Entry). l ++ constant_entries gs d2 values 0 consts) (q1 ∙ ap (λ (l : List Entry). l ++ variable_entries 0 vars) z))))
    (ap (λ (l : List Declared). variable_entries 0 l) v)
    (ap (λ (l : List GivenAt). constant_entries l d2 values 0 consts) g ∙ ap (λ (l : List Definition). constant_entries c.givens l values 0 consts) e2 ∙ ap (λ (l : List Declared). constant_entries c.givens (definitions_in p.units) values 0 l) k)
    (ap (λ (l : List GivenAt). definition_entries l d3 0 d3) g ∙ ap (λ (l : List Definition). definition_entries c.givens l 0 l) e3)
    (ap (λ (l : List GivenAt). standard_entries l d4 es) g ∙ ap (λ (l : List Definition). standard_entries c.givens l es) e4 ∙ ap (λ (l : List Entry). standard_entries c.givens (definitions_in p.units) l) b)
