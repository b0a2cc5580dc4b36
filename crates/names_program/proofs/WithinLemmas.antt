-- Each definition that a name of the program means is one of the program.
use Rattle.std.proofs.Common.{◌≡◌, sym, refl, subst, List, [], ◌∷◌, ◌++◌, length, ◌<◌, ◌≤◌, arith}
use Rattle.std.specs.Prelude.{ℕ, suc, ◌+◌, ◌==◌, Bool, true, false, if◌then◌else◌, Option, Some, None, slice_get}
use Rattle.std.proofs.lemmas.List.Elements.{All-append, All-cons, All-head, All-nil, All-tail}
use Rattle.std.proofs.lemmas.Option.{slice_get_within}
use Rattle.values_core.specs.Data.{Val}
use Rattle.reading_trees.specs.declared.config.Given.{Given}
use Rattle.reading_trees.specs.declared.config.Given.TheVariants.{Constant, Replaced}
use Rattle.reading_trees.specs.declared.config.GivenAt.{GivenAt}
use Rattle.reading_trees.specs.declared.expr.Definition.{Definition}
use Rattle.reading_trees.specs.declared.module.Declared.{Declared}
use Rattle.names_scopes.specs.declared.meant.Entry.{Entry}
use Rattle.names_scopes.specs.declared.meant.Meant.{Meant}
use Rattle.names_scopes.specs.declared.meant.Meant.TheVariants as meant
use Rattle.names_scopes.specs.Mentions.{is_one_of}
use Rattle.names_scopes.specs.Standing.{AreIn, IsIn}
use Rattle.names_program.specs.Entries.{marked_entries, marked_entry, plain_entries, variable_entry, constant_entry, definition_entry, standard_entry, variable_entries, constant_entries, definition_entries, standard_entries}
use Rattle.names_program.specs.Names.{definition_meant, fitting, fitting_index, given_for, index_among, meant_or, names_defined, put_for, replacement_among, value_at}
use Rattle.names_program.specs.Standard.{StandardName, brought, brought_from, entry, is_brought, replaceable, standard_names}

abbrev stands : ℕ → Entry → Type 0
stands n x = IsIn n x.is.meant

abbrev Below : ℕ → Option ℕ → Type 0
Below n None = Unit {0}
Below n (Some i) = i < n

fit_below : (ds : List Definition) (needed i : ℕ) (o : Option Definition) → slice_get ds i ≡ o → Below (length ds) (fitting o needed i)
fit_below ds needed i None e = tt
fit_below ds needed i (Some d) e = one (length d.params == needed)
  where
    one : (b : Bool) → Below (length ds) (if b then Some i else None)
    one true = slice_get_within ds i d e
    one false = tt

index_below : (ds : List Definition) (needed : ℕ) (o : Option ℕ) → Below (length ds) (fitting_index ds needed o)
index_below ds needed None = tt
index_below ds needed (Some i) = fit_below ds needed i (slice_get ds i) refl

put_below : (ds : List Definition) (needed : ℕ) (o : Option Given) → Below (length ds) (put_for ds needed o)
put_below ds needed None = tt
put_below ds needed (Some (Constant l)) = tt
put_below ds needed (Some (Replaced n place)) = index_below ds needed (index_among (names_defined ds) n)

replacement_below : (gs : List GivenAt) (ds : List Definition) (n : List ℕ) (needed : ℕ) → Below (length ds) (replacement_among gs ds n needed)
replacement_below gs ds n needed = put_below ds needed (given_for gs n)

meant_or_in : (n : ℕ) (m : Meant) (o : Option ℕ) → IsIn n m → Below n o → IsIn n (meant_or m o)
meant_or_in n m None h b = h
meant_or_in n m (Some i) h b = b

plain_in_range : (n k : ℕ) (ds : List Declared) → AreIn n (plain_entries k ds)
plain_in_range n k [] = All-nil (stands n)
plain_in_range n k (d ∷ ds) = All-cons (stands n) (variable_entry k d) (plain_entries (suc k) ds) tt (plain_in_range n (suc k) ds)

marked_in_range : (n k : ℕ) (ds : List Declared) → AreIn n (marked_entries k ds)
marked_in_range n k [] = All-nil (stands n)
marked_in_range n k (d ∷ ds) = All-cons (stands n) (marked_entry k d) (marked_entries (suc k) ds) tt (marked_in_range n (suc k) ds)

variables_in_range : (n k : ℕ) (ds : List Declared) → AreIn n (variable_entries k ds)
variables_in_range n k ds = All-append (stands n) (plain_entries k ds) (marked_entries k ds) (plain_in_range n k ds) (marked_in_range n k ds)

constants_in_range : (gs : List GivenAt) (all : List Definition) (values : List Val) (k : ℕ) (ds : List Declared) → AreIn (length all) (constant_entries gs all values k ds)
constants_in_range gs all values k [] = All-nil (stands (length all))
constants_in_range gs all values k (d ∷ ds) =
    All-cons (stands (length all)) (constant_entry gs all (value_at values k) d) (constant_entries gs all values (suc k) ds) (meant_or_in (length all) (meant.Known (value_at values k)) (replacement_among gs all d.name 0) tt (replacement_below gs all d.name 0)) (constants_in_range gs all values (suc k) ds)

definitions_in_range : (gs : List GivenAt) (all : List Definition) (k : ℕ) (ds : List Definition) → k + length ds ≤ length all → AreIn (length all) (definition_entries gs all k ds)
definitions_in_range gs all k [] le = All-nil (stands (length all))
definitions_in_range gs all k (d ∷ ds) le =
    let here : k < length all = omega arith in
    let behind : suc k + length ds ≤ length all = omega arith in
    All-cons (stands (length all)) (definition_entry gs all k d) (definition_entries gs all (suc k) ds) (meant_or_in (length all) (definition_meant k) (replacement_among gs all d.name (length d.params)) here (replacement_below gs all d.name (length d.params))) (definitions_in_range gs all (suc k) ds behind)

abbrev Plain : List StandardName → Type 0
Plain [] = Unit {0}
Plain (s ∷ ss) = ((n : ℕ) → IsIn n s.meant) × Plain ss

all_plain : Plain standard_names
unfolding standard_names
all_plain = ((λ n. tt), ((λ n. tt), ((λ n. tt), ((λ n. tt), ((λ n. tt), ((λ n. tt), ((λ n. tt), ((λ n. tt), ((λ n. tt), ((λ n. tt), tt))))))))))

brought_in : (n : ℕ) (extended : List (List ℕ)) (ss : List StandardName) → Plain ss → AreIn n (brought_from extended ss)
brought_in n extended [] h = All-nil (stands n)
brought_in n extended (s ∷ ss) h = one (is_brought extended s) (brought_in n extended ss h.1)
  where
    one : (b : Bool) → AreIn n (brought_from extended ss) → AreIn n (if b then entry s.name s.needed s.meant ∷ brought_from extended ss else brought_from extended ss)
    one true r = All-cons (stands n) (entry s.name s.needed s.meant) (brought_from extended ss) (h.0 n) r
    one false r = r

standard_in : (gs : List GivenAt) (all : List Definition) (x : Entry) → IsIn (length all) x.is.meant → IsIn (length all) (standard_entry gs all x).is.meant
standard_in gs all x h = one (is_one_of x.name replaceable)
  where
    one : (b : Bool) → IsIn (length all) (if b then record { needed = x.is.needed; meant = meant_or x.is.meant (replacement_among gs all x.name x.is.needed) } else x.is).meant
    one true = meant_or_in (length all) x.is.meant (replacement_among gs all x.name x.is.needed) h (replacement_below gs all x.name x.is.needed)
    one false = h

standard_in_range : (gs : List GivenAt) (all : List Definition) (es : List Entry) → AreIn (length all) es → AreIn (length all) (standard_entries gs all es)
standard_in_range gs all [] h = All-nil (stands (length all))
standard_in_range gs all (x ∷ xs) h =
    All-cons (stands (length all)) (standard_entry gs all x) (standard_entries gs all xs) (standard_in gs all x (All-head (stands (length all)) x xs h)) (standard_in_range gs all xs (All-tail (stands (length all)) x xs h))

-- one more list behind those in range
behind : (n : ℕ) (old more new : List Entry) → new ≡ old ++ more → AreIn n old → AreIn n more → AreIn n new
behind n old more new e h k = subst (λ (l : List Entry). AreIn n l) (sym e) (All-append (stands n) old more h k)

-- the names, step by step
pub names_within : (ds : List Definition) (extended : List (List ℕ)) (values : List Val) (gs : List GivenAt) (vars consts : List Declared) (d2 d3 d4 : List Definition) (es n0 n1 n2 n3 n4 : List Entry) → d2 ≡ ds → d3 ≡ ds → d4 ≡ ds → es ≡ brought extended → n0 ≡ [] → n1 ≡ n0 ++ variable_entries 0 vars → n2 ≡ n1 ++ constant_entries gs d2 values 0 consts → n3 ≡ n2 ++ definition_entries gs d3 0 d3 → n4 ≡ n3 ++ standard_entries gs d4 es → AreIn (length ds) n4
names_within ds extended values gs vars consts d2 d3 d4 es n0 n1 n2 n3 n4 e2 e3 e4 b z q1 q2 q3 q4 =
    let range : (all : List Definition) → all ≡ ds → (l : List Entry) → AreIn (length all) l → AreIn (length ds) l = λ all e l h. subst (λ (x : List Definition). AreIn (length x) l) e h in
    let r0 : AreIn (length ds) n0 = subst (λ (l : List Entry). AreIn (length ds) l) (sym z) (All-nil (stands (length ds))) in
    let r1 : AreIn (length ds) n1 = behind (length ds) n0 (variable_entries 0 vars) n1 q1 r0 (variables_in_range (length ds) 0 vars) in
    let r2 : AreIn (length ds) n2 = behind (length ds) n1 (constant_entries gs d2 values 0 consts) n2 q2 r1 (range d2 e2 (constant_entries gs d2 values 0 consts) (constants_in_range gs d2 values 0 consts)) in
    let le : 0 + length d3 ≤ length d3 = omega arith in
    let r3 : AreIn (length ds) n3 = behind (length ds) n2 (definition_entries gs d3 0 d3) n3 q3 r2 (range d3 e3 (definition_entries gs d3 0 d3) (definitions_in_range gs d3 0 d3 le)) in
    let plain : AreIn (length d4) es = subst (λ (l : List Entry). AreIn (length d4) l) (sym b) (brought_in (length d4) extended standard_names all_plain) in
    behind (length ds) n3 (standard_entries gs d4 es) n4 q4 r3 (range d4 e4 (standard_entries gs d4 es) (standard_in_range gs d4 es plain))
