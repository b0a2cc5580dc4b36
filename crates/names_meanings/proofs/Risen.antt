-- The level of a term is above 0 just where its tree is, as it is told which names are.
use Rattle.std.proofs.Common.{◌≡◌, ◌∙◌, sym, ap, refl, subst, List, [], ◌∷◌, ◌++◌, length, arith}
use Rattle.std.specs.Prelude.{ℕ, suc, ◌==◌, Bool, true, false, not, ◌&&◌, ◌||◌, if◌then◌else◌, Option, Some, None, option_map, slice_get}
use Rattle.std.proofs.lemmas.Bool.Decides.{nat_tests}
use Rattle.std.specs.Str.{bytes_eq}
use Rattle.base_core.specs.declared.place.Place.{Place}
use Rattle.base_core.specs.Texts.{same_bytes}
use Rattle.values_core.specs.Data.{integer, string, truth}
use Rattle.reading_trees.specs.declared.form.DefinitionForm.{DefinitionForm}
use Rattle.reading_trees.specs.declared.form.DefinitionForm.TheVariants as forms
use Rattle.reading_trees.specs.declared.laid.Bullet.{Bullet}
use Rattle.reading_trees.specs.declared.laid.Bullet.TheVariants as bullet
use Rattle.reading_trees.specs.declared.operators.PrefixOperator.{PrefixOperator}
use Rattle.reading_trees.specs.declared.operators.PrefixOperator.TheVariants as prefixes
use Rattle.reading_trees.specs.declared.operators.InfixOperator.{InfixOperator}
use Rattle.reading_trees.specs.declared.operators.InfixOperator.TheVariants as infixes
use Rattle.reading_trees.specs.Trees as tree
use Rattle.reading_trees.specs.Trees.{Tree, Trees, place_of}
use Rattle.names_terms.specs.declared.ids.DefId.{DefId}
use Rattle.names_terms.specs.declared.level.Level.{Level}
use Rattle.names_terms.specs.declared.level.Level.TheVariants as levels
use Rattle.names_terms.specs.declared.operator.Operator.{Operator}
use Rattle.names_terms.specs.declared.operator.Own.{Own}
use Rattle.names_terms.specs.declared.operator.Own.TheVariants as owns
use Rattle.names_terms.specs.Levels.{joined, of_terms, of_operands, of_step, of_steps, of_path, of_bounds, of_fields, of_changes, of_arms, of_operator, of_prefix, level_for}
use Rattle.names_terms.specs.Terms as term
use Rattle.names_terms.specs.Terms.{Term, Terms, Meaning, Placed, level_of}
use Rattle.names_scopes.specs.Applied.{applies}
use Rattle.names_scopes.specs.Mentions.{is_one_of, mentions}
use Rattle.names_scopes.specs.Scopes.{used, meaning_in, bind, bind_bounds, slots, at_sign}
use Rattle.names_scopes.specs.declared.meant.Entry.{Entry}
use Rattle.names_scopes.specs.declared.meant.Meant.{Meant}
use Rattle.names_scopes.specs.declared.meant.Meant.TheVariants as meant
use Rattle.names_scopes.specs.declared.meant.Named.{Named}
use Rattle.names_scopes.specs.declared.scope.Local.{Local}
use Rattle.names_scopes.specs.declared.scope.Local.TheVariants.{Bound, Defined}
use Rattle.names_least_levels.specs.Rising as rising
use Rattle.names_least_levels.specs.Rising.{Rising, without, without_bounds, with_own, prefix_rises, infix_rises, rises, rises_each, rises_operands, rises_step, rises_steps, rises_bounds, rises_fields, rises_changes, rises_arms}
use Rattle.names_found_levels.proofs.Mentioned.{same, bound}
use Rattle.names_meanings.specs.declared.fault.NameFault.{NameFault}
use Rattle.names_meanings.specs.declared.fault.NameFault.TheVariants.{WrongArity, Recursion}
use Rattle.names_meanings.specs.Complaints.{Taken, Takes, bound_name, taken_rises, told, or_else, counted, number_of, with_name, with_names, with_bounds, with_definitions, defined, itself, with_itself, complaint, complaints, operands_complaint, step_complaint, steps_complaint, bounds_complaint, fields_complaint, changes_complaint, arms_complaint, definitions_complaint}
use Rattle.names_meanings.specs.Means.{Uses, Means, MeansEach, MeansOperands, MeansStep, MeansSteps, MeansBounds, MeansFields, MeansChanges, MeansArms, Defines, junction, chain, operands_list, builtin_set, own_level, local_operator, with_own as scope_with_own}
use Rattle.names_meanings.specs.Outcomes.{above, meant_above, needs, taken_by, takes_in}
use Rattle.names_meanings.specs.Owning.{own_of}
use Rattle.names_meanings.proofs.Takes.{fun_ext, taken_of, takes_bound, takes_defined, takes_bind, takes_bounds}

-- ---- Booleans and levels

both : (a b c d : Bool) → a ≡ c → b ≡ d → (a || b) ≡ (c || d)
both a b c d p q = λ i. p i || q i

or_false : (b : Bool) → (b || false) ≡ b
or_false true = refl
or_false false = refl

or_true : (b : Bool) → (b || true) ≡ true
or_true true = refl
or_true false = refl

or_assoc : (a b c : Bool) → (a || (b || c)) ≡ ((a || b) || c)
or_assoc true b c = refl
or_assoc false b c = refl

or_turned : (a b : Bool) → (a || b) ≡ (b || a)
or_turned true b = sym (or_true b)
or_turned false b = sym (or_false b)

left_none : (a b : Option NameFault) → or_else a b ≡ None → a ≡ None
left_none None b h = refl
left_none (Some x) b h = absurd (cc)

right_none : (a b : Option NameFault) → or_else a b ≡ None → b ≡ None
right_none None b h = h
right_none (Some x) b h = absurd (cc)

if_none : (b : Bool) (f : NameFault) → (if b then None else Some f) ≡ None → b ≡ true
if_none true f h = refl
if_none false f h = absurd (cc)

above_joined : (a b : Level) → above (joined a b) ≡ (above a || above b)
above_joined levels.Constant b = refl
above_joined levels.State levels.Constant = refl
above_joined levels.State levels.State = refl
above_joined levels.State levels.Action = refl
above_joined levels.State levels.Temporal = refl
above_joined levels.Action levels.Constant = refl
above_joined levels.Action levels.State = refl
above_joined levels.Action levels.Action = refl
above_joined levels.Action levels.Temporal = refl
above_joined levels.Temporal b = refl

pub not_above : (l : Level) → above l ≡ false → l ≡ levels.Constant
not_above levels.Constant q = refl
not_above levels.State q = absurd (cc)
not_above levels.Action q = absurd (cc)
not_above levels.Temporal q = absurd (cc)

two : (a b : Level) (p q : Bool) → above a ≡ p → above b ≡ q → above (joined a b) ≡ (p || q)
two a b p q u v = above_joined a b ∙ both (above a) (above b) p q u v

two_turned : (a b : Level) (p q : Bool) → above a ≡ p → above b ≡ q → above (joined a b) ≡ (q || p)
two_turned a b p q u v = two a b p q u v ∙ or_turned p q

three : (a b c : Level) (p q r : Bool) → above a ≡ p → above b ≡ q → above c ≡ r → above (joined a (joined b c)) ≡ ((p || q) || r)
three a b c p q r u v w = two a (joined b c) p (q || r) u (two b c q r v w) ∙ or_assoc p q r

by_prefix : (o : PrefixOperator) (l : Level) (b : Bool) → above l ≡ b → above (of_prefix o l) ≡ (prefix_rises o || b)
by_prefix prefixes.Unchanged l b q = refl
by_prefix prefixes.Enabled l b q = refl
by_prefix prefixes.Always l b q = refl
by_prefix prefixes.Eventually l b q = refl
by_prefix prefixes.Not l b q = q
by_prefix prefixes.Powerset l b q = q
by_prefix prefixes.BigUnion l b q = q
by_prefix prefixes.Domain l b q = q
by_prefix prefixes.Negate l b q = q

listed : (os : term.Operands) → above (of_terms (operands_list os)) ≡ above (of_operands os)
listed (term.First e) = refl
listed (term.Next os at e) = above_joined (of_terms (operands_list os)) (level_of e) ∙ ap (λ z. z || above (level_of e)) (listed os) ∙ sym (above_joined (of_operands os) (level_of e))

by_infix : (ops : List Operator) (o : InfixOperator) (os : term.Operands) (x : Term) (b c : Bool) → above (of_operands os) ≡ b → above (level_of x) ≡ c → above (level_for ops (chain o os x)) ≡ ((infix_rises o || b) || c)
by_infix ops infixes.And os x b c p q = two (of_terms (operands_list os)) (level_of x) b c (listed os ∙ p) q
by_infix ops infixes.Or os x b c p q = two (of_terms (operands_list os)) (level_of x) b c (listed os ∙ p) q
by_infix ops infixes.LeadsTo os x b c p q = refl
by_infix ops o os x b c p q = two (of_operands os) (level_of x) b c p q

by_junction : (ops : List Operator) (b : Bullet) (ts : Terms) → above (level_for ops (junction b ts)) ≡ above (of_terms ts)
by_junction ops bullet.And ts = refl
by_junction ops bullet.Or ts = refl

-- ---- what is told of names

if_told : (b : Bool) (w : Taken) (o : Option Taken) → taken_rises (if b then Some w else o) ≡ (if b then w.is_above else taken_rises o)
if_told true w o = refl
if_told false w o = refl

told_named : (g : Takes) (n : List ℕ) (w : Taken) → told (with_name g n w) ≡ rising.with_name (told g) n w.is_above
told_named g n w = fun_ext (λ m. if_told (bytes_eq n m) w (g m))

told_names : (g : Takes) (ns : List (List ℕ)) → told (with_names g ns) ≡ without (told g) ns
told_names g [] = refl
told_names g (n ∷ ns) = told_names (with_name g n bound_name) ns ∙ ap (λ (h : Rising). without h ns) (told_named g n bound_name)

told_bounds : (g : Takes) (bs : tree.Bounds) → told (with_bounds g bs) ≡ without_bounds (told g) bs
told_bounds g tree.NoBounds = refl
told_bounds g (tree.MoreBounds bs ns e) = told_names (with_bounds g bs) ns ∙ ap (λ (h : Rising). without h ns) (told_bounds g bs)

told_definitions : (g : Takes) (ds : tree.Definitions) → told (with_definitions g ds) ≡ rising.with_definitions (told g) ds
told_definitions g tree.NoDefinitions = refl
told_definitions g (tree.MoreDefinitions ds n at ps form e) =
    told_named (with_definitions g ds) n (defined (with_definitions g ds) n ps e) ∙ ap (λ (h : Rising). rising.with_name h n (rises (without (with_own h n) ps) e)) (told_definitions g ds)

under : (g : Takes) (n : List ℕ) (e : Tree) (l : Level) → above l ≡ rises (told (with_name g n bound_name)) e → above l ≡ rises (rising.with_name (told g) n false) e
under g n e l q = q ∙ ap (λ (h : Rising). rises h e) (told_named g n bound_name)

within : (g : Takes) (bs : tree.Bounds) (e : Tree) (l : Level) → above l ≡ rises (told (with_bounds g bs)) e → above l ≡ rises (without_bounds (told g) bs) e
within g bs e l q = q ∙ ap (λ (h : Rising). rises h e) (told_bounds g bs)

-- ---- definitions of a LET

no_operator : (b c : Bool) (f : NameFault) → (if b then None else (if c then Some f else None)) ≡ None → b ≡ false → c ≡ true → ⊥
no_operator true c f i p q = cc
no_operator false false f i p q = cc
no_operator false true f i p q = cc

no_function : (b c : Bool) → (if b then owns.Apart else (if c then owns.Function else owns.Apart)) ≡ owns.Apart → b ≡ false → c ≡ true → ⊥
no_function true c o p q = cc
no_function false false o p q = cc
no_function false true o p q = cc

if_itself : (b c : Bool) → (if b then owns.Apart else (if c then owns.Function else owns.Apart)) ≡ owns.Itself → ⊥
if_itself true c o = cc
if_itself false false o = cc
if_itself false true o = cc

no_itself : (form : DefinitionForm) (n : List ℕ) (ps : List (List ℕ)) (e : Tree) → own_of form n ps e ≡ owns.Itself → ⊥
no_itself forms.Operator n ps e o = cc
no_itself forms.Constant n ps e o = cc
no_itself forms.Function n ps e o = if_itself (is_one_of n ps) (mentions n e) o

not_apart : (form : DefinitionForm) (g : Takes) (n : List ℕ) (at : Place) (ps : List (List ℕ)) (e : Tree) → is_one_of n ps ≡ false → mentions n e ≡ true → own_of form n ps e ≡ owns.Apart → itself g form n at ps e ≡ None → ⊥
not_apart forms.Operator g n at ps e p q o i = no_operator (is_one_of n ps) (mentions n e) (Recursion n at) i p q
not_apart forms.Constant g n at ps e p q o i = no_operator (is_one_of n ps) (mentions n e) (Recursion n at) i p q
not_apart forms.Function g n at ps e p q o i = no_function (is_one_of n ps) (mentions n e) o p q

-- a name that the body mentions is another, where the definition does not use itself
pub other_name : (form : DefinitionForm) (g : Takes) (n : List ℕ) (at : Place) (ps : List (List ℕ)) (e : Tree) → own_of form n ps e ≡ owns.Apart → itself g form n at ps e ≡ None → (m : List ℕ) → mentions m e ≡ true → is_one_of m ps ≡ false → bytes_eq n m ≡ false
other_name form g n at ps e own fine m mentioned free = by_test (bytes_eq n m) refl
  where
    by_test : (b : Bool) → bytes_eq n m ≡ b → bytes_eq n m ≡ false
    by_test false q = q
    by_test true q =
        let one : n ≡ m = same_bytes n m q in
        absurd (not_apart form g n at ps e (subst (λ (k : List ℕ). is_one_of k ps ≡ false) (sym one) free) (subst (λ (k : List ℕ). mentions k e ≡ true) (sym one) mentioned) own fine)

if_false : (b x y : Bool) → b ≡ false → y ≡ (if b then x else y)
if_false true x y q = absurd (cc)
if_false false x y q = refl

named_apart : (n m : List ℕ) (g : Rising) → bytes_eq n m ≡ false → g m ≡ rising.with_name g n false m
named_apart n m g q = if_false (bytes_eq n m) false (g m) q

-- what such a body is does not depend on what is told of its name
pub apart_rises : (form : DefinitionForm) (g : Takes) (n : List ℕ) (at : Place) (ps : List (List ℕ)) (e : Tree) → own_of form n ps e ≡ owns.Apart → itself g form n at ps e ≡ None → rises (told (with_names g ps)) e ≡ rises (without (with_own (told g) n) ps) e
apart_rises form g n at ps e own fine =
    ap (λ (h : Rising). rises h e) (told_names g ps) ∙ same e (without (told g) ps) (without (with_own (told g) n) ps) (λ m t.
    bound ps m (told g) (with_own (told g) n) (λ q. named_apart n m (told g) (other_name form g n at ps e own fine m t q)))

if_own : (b c a r : Bool) (f : NameFault) → (if b then owns.Apart else (if c then owns.Function else owns.Apart)) ≡ owns.Function → (if b then None else (if c then (if (a && not r) then None else Some f) else None)) ≡ None → r ≡ false
if_own true c a r f o i = absurd (cc)
if_own false false a r f o i = absurd (cc)
if_own false true a false f o i = refl
if_own false true true true f o i = absurd (cc)
if_own false true false true f o i = absurd (cc)

-- a function that uses itself is not above level 0
pub own_rises : (form : DefinitionForm) (g : Takes) (n : List ℕ) (at : Place) (ps : List (List ℕ)) (e : Tree) → own_of form n ps e ≡ owns.Function → itself g form n at ps e ≡ None → rises (without (with_own (told g) n) ps) e ≡ false
own_rises forms.Operator g n at ps e own fine = absurd (cc)
own_rises forms.Constant g n at ps e own fine = absurd (cc)
own_rises forms.Function g n at ps e own fine = if_own (is_one_of n ps) (mentions n e) (applies n e) (rises (without (with_own (told g) n) ps) e) (Recursion n at) own fine

told_itself : (g : Takes) (n : List ℕ) (k : ℕ) (ps : List (List ℕ)) → told (with_names (with_itself owns.Function g n k) ps) ≡ without (with_own (told g) n) ps
told_itself g n k ps = told_names (with_itself owns.Function g n k) ps ∙ ap (λ (h : Rising). without h ps) (told_named g n (record { needed = k; is_above = false }))

-- ---- terms

module _ (names : List Entry) (ops : List Operator) where
  abbrev T : List Local → Takes
  T sc = takes_in ops names sc

  stood : (t : Tree) (m : Meaning) (x : Term) (b : Bool) → x ≡ Placed (place_of t) (level_for ops m) m → above (level_for ops m) ≡ b → above (level_of x) ≡ b
  stood t m x b s q = ap (λ (e : Term). above (level_of e)) s ∙ q

  bound_scope : (sc : List Local) (n : List ℕ) (g : Takes) → T sc ≡ g → T (sc ++ Bound n ∷ []) ≡ with_name g n bound_name
  bound_scope sc n g p = takes_bound ops names sc n ∙ ap (λ (h : Takes). with_name h n bound_name) p

  bounds_scope : (sc : List Local) (bs : tree.Bounds) (g : Takes) → T sc ≡ g → T (bind_bounds sc bs) ≡ with_bounds g bs
  bounds_scope sc bs g p = takes_bounds ops names sc bs ∙ ap (λ (h : Takes). with_bounds h bs) p

  names_scope : (sc : List Local) (ps : List (List ℕ)) (g : Takes) → T sc ≡ g → T (bind sc ps) ≡ with_names g ps
  names_scope sc ps g p = takes_bind ops names sc ps ∙ ap (λ (h : Takes). with_names h ps) p

  -- names
  known_of : (sc : List Local) (g : Takes) (n : List ℕ) (w : Named) → T sc ≡ g → meaning_in names sc n ≡ Some w → g n ≡ Some (taken_by ops w)
  known_of sc g n w p s = ap (λ (f : Takes). f n) (sym p) ∙ ap (λ (o : Option Named). option_map (taken_by ops) o) s

  plain : (w : Meant) → above (level_for ops (used w term.NoTerms)) ≡ meant_above ops w
  plain (meant.Slot i) = refl
  plain (meant.Variable x) = refl
  plain (meant.Known v) = refl
  plain (meant.Set s) = refl
  plain (meant.Standard o) = refl
  plain (meant.Definition k) = above_joined (of_operator (slice_get ops k.0)) levels.Constant ∙ or_false (above (of_operator (slice_get ops k.0)))

  by_name : (sc : List Local) (g : Takes) (n : List ℕ) (m : Meaning) → T sc ≡ g → Uses names sc n term.NoTerms m → above (level_for ops m) ≡ told g n
  by_name sc g n m p u = ap (λ (z : Meaning). above (level_for ops z)) u.2 ∙ plain u.0.meant ∙ sym (ap taken_rises (known_of sc g n u.0 p u.1))

  more_than_none : (n : ℕ) → (suc n == 0) ≡ true → suc n ≡ 0
  more_than_none n q = grind (arith, nat_tests)

  none_rise : (h : Rising) (es : Trees) → (number_of es == 0) ≡ true → false ≡ rises_each h es
  none_rise h tree.NoTrees q = refl
  none_rise h (tree.MoreTrees es e) q = absurd (omega (arith, more_than_none (number_of es) q))

  called : (w : Meant) (k : ℕ) (ts : Terms) (h : Rising) (es : Trees) → above (of_terms ts) ≡ rises_each h es → (number_of es == needs w k) ≡ true → above (level_for ops (used w ts)) ≡ (meant_above ops w || rises_each h es)
  called (meant.Slot i) k ts h es r q = none_rise h es q
  called (meant.Variable x) k ts h es r q = refl
  called (meant.Known v) k ts h es r q = none_rise h es q
  called (meant.Set s) k ts h es r q = none_rise h es q
  called (meant.Standard o) k ts h es r q = r
  called (meant.Definition d) k ts h es r q = two (of_operator (slice_get ops d.0)) (of_terms ts) (above (of_operator (slice_get ops d.0))) (rises_each h es) refl r

  counts : (n : List ℕ) (at : Place) (k : ℕ) (o : Option Taken) (w : Taken) → o ≡ Some w → counted n at k o ≡ None → (k == w.needed) ≡ true
  counts n at k o w e c = if_none (k == w.needed) (WrongArity n k w.needed at) (ap (λ (z : Option Taken). counted n at k z) (sym e) ∙ c)

  by_call : (sc : List Local) (g : Takes) (n : List ℕ) (at : Place) (es : Trees) (ts : Terms) (m : Meaning) → T sc ≡ g → Uses names sc n ts m → counted n at (number_of es) (g n) ≡ None → above (of_terms ts) ≡ rises_each (told g) es → above (level_for ops m) ≡ (told g n || rises_each (told g) es)
  by_call sc g n at es ts m p u c r =
      let k : g n ≡ Some (taken_by ops u.0) = known_of sc g n u.0 p u.1 in
      ap (λ (z : Meaning). above (level_for ops z)) u.2 ∙ called u.0.meant u.0.needed ts (told g) es r (counts n at (number_of es) (g n) (taken_by ops u.0) k c) ∙ ap (λ (b : Bool). b || rises_each (told g) es) (sym (ap taken_rises k))

  -- the scope in the body of a definition, and what is known of the definition behind it
  pub own_scope : (mid : List Local) (g : Takes) (n : List ℕ) (k : DefId) (count : ℕ) (x : Term) (o : Own) → T mid ≡ g → slice_get ops k.0 ≡ Some (local_operator (slots mid) count o x) → T (scope_with_own o mid n k count) ≡ with_itself o g n count
  own_scope mid g n k count x owns.Apart p r = p
  own_scope mid g n k count x owns.Itself p r = takes_defined ops names mid n k count ∙ ap (λ (h : Takes). with_name h n (taken_of ops k count)) p ∙ ap (λ (z : Option Operator). with_name g n (record { needed = count; is_above = above (of_operator z) })) r
  own_scope mid g n k count x owns.Function p r = takes_defined ops names mid n k count ∙ ap (λ (h : Takes). with_name h n (taken_of ops k count)) p ∙ ap (λ (z : Option Operator). with_name g n (record { needed = count; is_above = above (of_operator z) })) r

  pub body_scope : (mid : List Local) (g : Takes) (n : List ℕ) (k : DefId) (ps : List (List ℕ)) (x : Term) (o : Own) → T mid ≡ g → slice_get ops k.0 ≡ Some (local_operator (slots mid) (length ps) o x) → T (bind (scope_with_own o mid n k (length ps)) ps) ≡ with_names (with_itself o g n (length ps)) ps
  body_scope mid g n k ps x o p row = names_scope (scope_with_own o mid n k (length ps)) ps (with_itself o g n (length ps)) (own_scope mid g n k (length ps) x o p row)

  -- the row of a definition is above level 0 where its body is
  pub row_rises : (g : Takes) (form : DefinitionForm) (n : List ℕ) (at : Place) (ps : List (List ℕ)) (e : Tree) (x : Term) → itself g form n at ps e ≡ None → (own_of form n ps e ≡ owns.Apart → above (level_of x) ≡ rises (told (with_names g ps)) e) → above (own_level (own_of form n ps e) x) ≡ rises (without (with_own (told g) n) ps) e
  row_rises g form n at ps e x fine r = by_own (own_of form n ps e) refl
    where
      by_own : (o : Own) → own_of form n ps e ≡ o → above (own_level o x) ≡ rises (without (with_own (told g) n) ps) e
      by_own owns.Apart q = r q ∙ apart_rises form g n at ps e q fine
      by_own owns.Itself q = absurd (no_itself form n ps e q)
      by_own owns.Function q = sym (own_rises form g n at ps e q fine)

  pub behind : (mid inner : List Local) (g : Takes) (n : List ℕ) (ps : List (List ℕ)) (e : Tree) (k : DefId) (own : Own) (x : Term) → T mid ≡ g → slice_get ops k.0 ≡ Some (local_operator (slots mid) (length ps) own x) → inner ≡ mid ++ Defined n k (length ps) ∷ [] → above (own_level own x) ≡ rises (without (with_own (told g) n) ps) e → T inner ≡ with_name g n (defined g n ps e)
  behind mid inner g n ps e k own x p row scope q =
      ap T scope ∙ takes_defined ops names mid n k (length ps) ∙ ap (λ (h : Takes). with_name h n (taken_of ops k (length ps))) p
      ∙ ap (λ (z : Option Operator). with_name g n (record { needed = length ps; is_above = above (of_operator z) })) row
      ∙ ap (λ (b : Bool). with_name g n (record { needed = length ps; is_above = b })) q

  mutual
    pub risen : (t : Tree) (sc : List Local) (g : Takes) (x : Term) → T sc ≡ g → complaint g t ≡ None → Means names ops sc t x → above (level_of x) ≡ rises (told g) t
    risen (tree.Number at z) sc g x p c r = stood (tree.Number at z) (term.Known (integer z)) x (false) r (refl)
    risen (tree.Str at s) sc g x p c r = stood (tree.Str at s) (term.Known (string s)) x (false) r (refl)
    risen (tree.Truth at b) sc g x p c r = stood (tree.Truth at b) (term.Known (truth b)) x (false) r (refl)
    risen (tree.Builtin at b) sc g x p c r = stood (tree.Builtin at b) (term.Named (builtin_set b)) x (false) r (refl)
    risen (tree.Name at n) sc g x p c r = stood (tree.Name at n) (r.0) x (told g n) r.2 (by_name sc g n r.0 p r.1)
    risen (tree.Call at n es) sc g x p c r = stood (tree.Call at n es) (r.1) x (told g n || rises_each (told g) es) r.4 (by_call sc g n at es r.0 r.1 p r.3 (left_none (counted n at (number_of es) (g n)) (complaints g es) c) (each_risen es sc g r.0 p (right_none (counted n at (number_of es) (g n)) (complaints g es) c) r.2))
    risen (tree.Qualified at n es) sc g x p c r = stood (tree.Qualified at n es) (r.1) x (told g n || rises_each (told g) es) r.4 (by_call sc g n at es r.0 r.1 p r.3 (left_none (counted n at (number_of es) (g n)) (complaints g es) c) (each_risen es sc g r.0 p (right_none (counted n at (number_of es) (g n)) (complaints g es) c) r.2))
    risen (tree.At at) sc g x p c r = stood (tree.At at) (r.0) x (told g at_sign) r.2 (by_name sc g at_sign r.0 p r.1)
    risen (tree.Parenthesized at e) sc g x p c r = stood (tree.Parenthesized at e) (term.Parenthesized r.0) x (rises (told g) e) r.2 (risen e sc g r.0 p c r.1)
    risen (tree.Junction at b es) sc g x p c r = stood (tree.Junction at b es) (junction b r.0) x (rises_each (told g) es) r.2 (by_junction ops b r.0 ∙ each_risen es sc g r.0 p c r.1)
    risen (tree.Prefix at o e) sc g x p c r = stood (tree.Prefix at o e) (term.Prefix o r.0) x (prefix_rises o || rises (told g) e) r.2 (by_prefix o (level_of r.0) (rises (told g) e) (risen e sc g r.0 p c r.1))
    risen (tree.Infix at o os e) sc g x p c r = stood (tree.Infix at o os e) (chain o r.0 r.1) x ((infix_rises o || rises_operands (told g) os) || rises (told g) e) r.4 (by_infix ops o r.0 r.1 (rises_operands (told g) os) (rises (told g) e) (operands_risen os sc g r.0 p (left_none (operands_complaint g os) (complaint g e) c) r.2) (risen e sc g r.1 p (right_none (operands_complaint g os) (complaint g e) c) r.3))
    risen (tree.Postfix at e ss s) sc g x p c r = stood (tree.Postfix at e ss s) (term.Postfix r.0 r.1 r.2) x ((rises (told g) e || rises_steps (told g) ss) || rises_step (told g) s) r.6 (step_risen s sc g r.2 (of_steps (level_of r.0) r.1) (rises (told g) e || rises_steps (told g) ss) p (right_none (steps_complaint g ss) (step_complaint g s) (right_none (complaint g e) (or_else (steps_complaint g ss) (step_complaint g s)) c)) r.5 (steps_risen ss sc g r.1 (level_of r.0) (rises (told g) e) p (left_none (steps_complaint g ss) (step_complaint g s) (right_none (complaint g e) (or_else (steps_complaint g ss) (step_complaint g s)) c)) r.4 (risen e sc g r.0 p (left_none (complaint g e) (or_else (steps_complaint g ss) (step_complaint g s)) c) r.3)))
    risen (tree.SetOf at es) sc g x p c r = stood (tree.SetOf at es) (term.SetOf r.0) x (rises_each (told g) es) r.2 (each_risen es sc g r.0 p c r.1)
    risen (tree.Filter at n s e) sc g x p c r = stood (tree.Filter at n s e) (term.Filter r.0 r.1) x (rises (told g) s || rises (rising.with_name (told g) n false) e) r.4 (two (level_of r.0) (level_of r.1) (rises (told g) s) (rises (rising.with_name (told g) n false) e) (risen s sc g r.0 p (left_none (complaint g s) (complaint (with_name g n bound_name) e) c) r.2) (under g n e (level_of r.1) (risen e (sc ++ Bound n ∷ []) (with_name g n bound_name) r.1 (bound_scope sc n g p) (right_none (complaint g s) (complaint (with_name g n bound_name) e) c) r.3)))
    risen (tree.Map at e bs) sc g x p c r = stood (tree.Map at e bs) (term.Map r.0 r.1) x (rises_bounds (told g) bs || rises (without_bounds (told g) bs) e) r.4 (two_turned (level_of r.0) (of_bounds r.1) (rises (without_bounds (told g) bs) e) (rises_bounds (told g) bs) (within g bs e (level_of r.0) (risen e (bind_bounds sc bs) (with_bounds g bs) r.0 (bounds_scope sc bs g p) (left_none (complaint (with_bounds g bs) e) (bounds_complaint g bs) c) r.2)) (bounds_risen bs sc g r.1 p (right_none (complaint (with_bounds g bs) e) (bounds_complaint g bs) c) r.3))
    risen (tree.Tuple at es) sc g x p c r = stood (tree.Tuple at es) (term.Tuple r.0) x (rises_each (told g) es) r.2 (each_risen es sc g r.0 p c r.1)
    risen (tree.Function at bs e) sc g x p c r = stood (tree.Function at bs e) (term.Function r.0 r.1) x (rises_bounds (told g) bs || rises (without_bounds (told g) bs) e) r.4 (two (of_bounds r.0) (level_of r.1) (rises_bounds (told g) bs) (rises (without_bounds (told g) bs) e) (bounds_risen bs sc g r.0 p (left_none (bounds_complaint g bs) (complaint (with_bounds g bs) e) c) r.2) (within g bs e (level_of r.1) (risen e (bind_bounds sc bs) (with_bounds g bs) r.1 (bounds_scope sc bs g p) (right_none (bounds_complaint g bs) (complaint (with_bounds g bs) e) c) r.3)))
    risen (tree.Quantified at q bs e) sc g x p c r = stood (tree.Quantified at q bs e) (term.Quantified q r.0 r.1) x (rises_bounds (told g) bs || rises (without_bounds (told g) bs) e) r.4 (two (of_bounds r.0) (level_of r.1) (rises_bounds (told g) bs) (rises (without_bounds (told g) bs) e) (bounds_risen bs sc g r.0 p (left_none (bounds_complaint g bs) (complaint (with_bounds g bs) e) c) r.2) (within g bs e (level_of r.1) (risen e (bind_bounds sc bs) (with_bounds g bs) r.1 (bounds_scope sc bs g p) (right_none (bounds_complaint g bs) (complaint (with_bounds g bs) e) c) r.3)))
    risen (tree.FunctionSet at s e) sc g x p c r = stood (tree.FunctionSet at s e) (term.FunctionSet r.0 r.1) x (rises (told g) s || rises (told g) e) r.4 (two (level_of r.0) (level_of r.1) (rises (told g) s) (rises (told g) e) (risen s sc g r.0 p (left_none (complaint g s) (complaint g e) c) r.2) (risen e sc g r.1 p (right_none (complaint g s) (complaint g e) c) r.3))
    risen (tree.Record at fs) sc g x p c r = stood (tree.Record at fs) (term.Record r.0) x (rises_fields (told g) fs) r.2 (fields_risen fs sc g r.0 p c r.1)
    risen (tree.RecordSet at fs) sc g x p c r = stood (tree.RecordSet at fs) (term.RecordSet r.0) x (rises_fields (told g) fs) r.2 (fields_risen fs sc g r.0 p c r.1)
    risen (tree.Except at e cs) sc g x p c r = stood (tree.Except at e cs) (term.Except r.0 r.1) x (rises (told g) e || rises_changes (told g) cs) r.4 (two (level_of r.0) (of_changes r.1) (rises (told g) e) (rises_changes (told g) cs) (risen e sc g r.0 p (left_none (complaint g e) (changes_complaint g cs) c) r.2) (changes_risen cs sc g r.1 p (right_none (complaint g e) (changes_complaint g cs) c) r.3))
    risen (tree.Choose at n s e) sc g x p c r = stood (tree.Choose at n s e) (term.Choose r.0 r.1) x (rises (told g) s || rises (rising.with_name (told g) n false) e) r.4 (two (level_of r.0) (level_of r.1) (rises (told g) s) (rises (rising.with_name (told g) n false) e) (risen s sc g r.0 p (left_none (complaint g s) (complaint (with_name g n bound_name) e) c) r.2) (under g n e (level_of r.1) (risen e (sc ++ Bound n ∷ []) (with_name g n bound_name) r.1 (bound_scope sc n g p) (right_none (complaint g s) (complaint (with_name g n bound_name) e) c) r.3)))
    risen (tree.If at q e f) sc g x p c r = stood (tree.If at q e f) (term.If r.0 r.1 r.2) x ((rises (told g) q || rises (told g) e) || rises (told g) f) r.6 (three (level_of r.0) (level_of r.1) (level_of r.2) (rises (told g) q) (rises (told g) e) (rises (told g) f) (risen q sc g r.0 p (left_none (complaint g q) (or_else (complaint g e) (complaint g f)) c) r.3) (risen e sc g r.1 p (left_none (complaint g e) (complaint g f) (right_none (complaint g q) (or_else (complaint g e) (complaint g f)) c)) r.4) (risen f sc g r.2 p (right_none (complaint g e) (complaint g f) (right_none (complaint g q) (or_else (complaint g e) (complaint g f)) c)) r.5))
    risen (tree.Case at arms) sc g x p c r = stood (tree.Case at arms) (term.Case r.0) x (rises_arms (told g) arms) r.2 (arms_risen arms sc g r.0 p c r.1)
    risen (tree.CaseOther at arms e) sc g x p c r = stood (tree.CaseOther at arms e) (term.CaseOther r.0 r.1) x (rises_arms (told g) arms || rises (told g) e) r.4 (two (of_arms r.0) (level_of r.1) (rises_arms (told g) arms) (rises (told g) e) (arms_risen arms sc g r.0 p (left_none (arms_complaint g arms) (complaint g e) c) r.2) (risen e sc g r.1 p (right_none (arms_complaint g arms) (complaint g e) c) r.3))
    risen (tree.Let at ds e) sc g x p c r = stood (tree.Let at ds e) (term.Scoped r.0 r.2) x (rises (rising.with_definitions (told g) ds) e) r.5 (risen e r.1 (with_definitions g ds) r.2 (made ds sc g r.0 r.1 p (left_none (definitions_complaint g ds) (complaint (with_definitions g ds) e) c) r.3) (right_none (definitions_complaint g ds) (complaint (with_definitions g ds) e) c) r.4 ∙ ap (λ (h : Rising). rises h e) (told_definitions g ds))
    risen (tree.BoxAction at e v) sc g x p c r = stood (tree.BoxAction at e v) (term.BoxAction r.0 r.1) x (true) r.4 (refl)
    risen (tree.AngleAction at e v) sc g x p c r = stood (tree.AngleAction at e v) (term.AngleAction r.0 r.1) x (true) r.4 (refl)
    risen (tree.Fairness at v e) sc g x p c r = stood (tree.Fairness at v e) (term.Fairness r.0 r.1) x (true) r.4 (refl)

    pub each_risen : (t : Trees) (sc : List Local) (g : Takes) (x : Terms) → T sc ≡ g → complaints g t ≡ None → MeansEach names ops sc t x → above (of_terms x) ≡ rises_each (told g) t
    each_risen tree.NoTrees sc g x p c r = ap (λ (y : Terms). above (of_terms y)) r
    each_risen (tree.MoreTrees es e) sc g x p c r = ap (λ (y : Terms). above (of_terms y)) r.2 ∙ two (of_terms r.0) (level_of r.1) (rises_each (told g) es) (rises (told g) e) (each_risen es sc g r.0 p (left_none (complaints g es) (complaint g e) c) r.3) (risen e sc g r.1 p (right_none (complaints g es) (complaint g e) c) r.4)

    pub operands_risen : (t : tree.Operands) (sc : List Local) (g : Takes) (x : term.Operands) → T sc ≡ g → operands_complaint g t ≡ None → MeansOperands names ops sc t x → above (of_operands x) ≡ rises_operands (told g) t
    operands_risen (tree.First e) sc g x p c r = ap (λ (y : term.Operands). above (of_operands y)) r.1 ∙ risen e sc g r.0 p c r.2
    operands_risen (tree.Next os at e) sc g x p c r = ap (λ (y : term.Operands). above (of_operands y)) r.2 ∙ two (of_operands r.0) (level_of r.1) (rises_operands (told g) os) (rises (told g) e) (operands_risen os sc g r.0 p (left_none (operands_complaint g os) (complaint g e) c) r.3) (risen e sc g r.1 p (right_none (operands_complaint g os) (complaint g e) c) r.4)

    pub step_risen : (t : tree.Step) (sc : List Local) (g : Takes) (x : term.Step) (l : Level) (b : Bool) → T sc ≡ g → step_complaint g t ≡ None → MeansStep names ops sc t x → above l ≡ b → above (of_step l x) ≡ (b || rises_step (told g) t)
    step_risen tree.Prime sc g x l b p c r q = ap (λ (y : term.Step). above (of_step l y)) r ∙ sym (or_true b)
    step_risen (tree.Index es) sc g x l b p c r q = ap (λ (y : term.Step). above (of_step l y)) r.1 ∙ two l (of_terms r.0) b (rises_each (told g) es) q (each_risen es sc g r.0 p c r.2)
    step_risen (tree.Field f) sc g x l b p c r q = ap (λ (y : term.Step). above (of_step l y)) r ∙ q ∙ sym (or_false b)

    pub steps_risen : (t : tree.Steps) (sc : List Local) (g : Takes) (x : term.Steps) (l : Level) (b : Bool) → T sc ≡ g → steps_complaint g t ≡ None → MeansSteps names ops sc t x → above l ≡ b → above (of_steps l x) ≡ (b || rises_steps (told g) t)
    steps_risen tree.NoSteps sc g x l b p c r q = ap (λ (y : term.Steps). above (of_steps l y)) r ∙ q ∙ sym (or_false b)
    steps_risen (tree.MoreSteps ss at s) sc g x l b p c r q = ap (λ (y : term.Steps). above (of_steps l y)) r.2 ∙ step_risen s sc g r.1 (of_steps l r.0) (b || rises_steps (told g) ss) p (right_none (steps_complaint g ss) (step_complaint g s) c) r.4 (steps_risen ss sc g r.0 l b p (left_none (steps_complaint g ss) (step_complaint g s) c) r.3 q) ∙ sym (or_assoc b (rises_steps (told g) ss) (rises_step (told g) s))

    pub bounds_risen : (t : tree.Bounds) (sc : List Local) (g : Takes) (x : term.Bounds) → T sc ≡ g → bounds_complaint g t ≡ None → MeansBounds names ops sc t x → above (of_bounds x) ≡ rises_bounds (told g) t
    bounds_risen tree.NoBounds sc g x p c r = ap (λ (y : term.Bounds). above (of_bounds y)) r
    bounds_risen (tree.MoreBounds bs ns e) sc g x p c r = ap (λ (y : term.Bounds). above (of_bounds y)) r.2 ∙ two (of_bounds r.0) (level_of r.1) (rises_bounds (told g) bs) (rises (told g) e) (bounds_risen bs sc g r.0 p (left_none (bounds_complaint g bs) (complaint g e) c) r.3) (risen e sc g r.1 p (right_none (bounds_complaint g bs) (complaint g e) c) r.4)

    pub fields_risen : (t : tree.Fields) (sc : List Local) (g : Takes) (x : term.Fields) → T sc ≡ g → fields_complaint g t ≡ None → MeansFields names ops sc t x → above (of_fields x) ≡ rises_fields (told g) t
    fields_risen tree.NoFields sc g x p c r = ap (λ (y : term.Fields). above (of_fields y)) r
    fields_risen (tree.MoreFields fs n e) sc g x p c r = ap (λ (y : term.Fields). above (of_fields y)) r.2 ∙ two (of_fields r.0) (level_of r.1) (rises_fields (told g) fs) (rises (told g) e) (fields_risen fs sc g r.0 p (left_none (fields_complaint g fs) (complaint g e) c) r.3) (risen e sc g r.1 p (right_none (fields_complaint g fs) (complaint g e) c) r.4)

    pub changes_risen : (t : tree.Changes) (sc : List Local) (g : Takes) (x : term.Changes) → T sc ≡ g → changes_complaint g t ≡ None → MeansChanges names ops sc t x → above (of_changes x) ≡ rises_changes (told g) t
    changes_risen tree.NoChanges sc g x p c r = ap (λ (y : term.Changes). above (of_changes y)) r
    changes_risen (tree.MoreChanges cs path e) sc g x p c r = ap (λ (y : term.Changes). above (of_changes y)) r.3 ∙ three (of_changes r.0) (of_path r.1) (level_of r.2) (rises_changes (told g) cs) (rises_steps (told g) path) (rises (rising.with_name (told g) at_sign false) e) (changes_risen cs sc g r.0 p (left_none (changes_complaint g cs) (or_else (steps_complaint g path) (complaint (with_name g at_sign bound_name) e)) c) r.4) (steps_risen path sc g r.1 levels.Constant false p (left_none (steps_complaint g path) (complaint (with_name g at_sign bound_name) e) (right_none (changes_complaint g cs) (or_else (steps_complaint g path) (complaint (with_name g at_sign bound_name) e)) c)) r.5 refl) (under g at_sign e (level_of r.2) (risen e (sc ++ Bound at_sign ∷ []) (with_name g at_sign bound_name) r.2 (bound_scope sc at_sign g p) (right_none (steps_complaint g path) (complaint (with_name g at_sign bound_name) e) (right_none (changes_complaint g cs) (or_else (steps_complaint g path) (complaint (with_name g at_sign bound_name) e)) c)) r.6))

    pub arms_risen : (t : tree.Arms) (sc : List Local) (g : Takes) (x : term.Arms) → T sc ≡ g → arms_complaint g t ≡ None → MeansArms names ops sc t x → above (of_arms x) ≡ rises_arms (told g) t
    arms_risen tree.NoArms sc g x p c r = ap (λ (y : term.Arms). above (of_arms y)) r
    arms_risen (tree.MoreArms arms q e) sc g x p c r = ap (λ (y : term.Arms). above (of_arms y)) r.3 ∙ three (of_arms r.0) (level_of r.1) (level_of r.2) (rises_arms (told g) arms) (rises (told g) q) (rises (told g) e) (arms_risen arms sc g r.0 p (left_none (arms_complaint g arms) (or_else (complaint g q) (complaint g e)) c) r.4) (risen q sc g r.1 p (left_none (complaint g q) (complaint g e) (right_none (arms_complaint g arms) (or_else (complaint g q) (complaint g e)) c)) r.5) (risen e sc g r.2 p (right_none (complaint g q) (complaint g e) (right_none (arms_complaint g arms) (or_else (complaint g q) (complaint g e)) c)) r.6)

    pub made : (ds : tree.Definitions) (sc : List Local) (g : Takes) (ks : List ℕ) (inner : List Local) → T sc ≡ g → definitions_complaint g ds ≡ None → Defines names ops sc ds ks inner → T inner ≡ with_definitions g ds
    made tree.NoDefinitions sc g ks inner p c d = ap T d.1 ∙ p
    made (tree.MoreDefinitions ds n at ps form e) sc g ks inner p c d =
        let gd : Takes = with_definitions g ds in
        let own : Own = own_of form n ps e in
        let body : Option NameFault = complaint (with_names (with_itself own gd n (length ps)) ps) e in
        let rest : or_else (itself gd form n at ps e) body ≡ None = right_none (definitions_complaint g ds) (or_else (itself gd form n at ps e) body) c in
        let before : T d.1 ≡ gd = made ds sc g d.0 d.1 p (left_none (definitions_complaint g ds) (or_else (itself gd form n at ps e) body) c) d.4 in
        let fine : itself gd form n at ps e ≡ None = left_none (itself gd form n at ps e) body rest in
        let inside : above (level_of d.3) ≡ rises (told (with_names (with_itself own gd n (length ps)) ps)) e =
        risen e (bind (scope_with_own own d.1 n d.2 (length ps)) ps) (with_names (with_itself own gd n (length ps)) ps) d.3 (body_scope d.1 gd n d.2 ps d.3 own before d.6) (right_none (itself gd form n at ps e) body rest) d.5 in
        behind d.1 inner gd n ps e d.2 own d.3 before d.6 d.8
        (row_rises gd form n at ps e d.3 fine (λ q. inside ∙ ap (λ (o : Own). rises (told (with_names (with_itself o gd n (length ps)) ps)) e) q))

-- the body of a function that uses itself is constant
pub own_constant : (names : List Entry) (ops : List Operator) (sc : List Local) (g : Takes) (form : DefinitionForm) (n : List ℕ) (at : Place) (ps : List (List ℕ)) (e : Tree) (x : Term) → own_of form n ps e ≡ owns.Function → itself g form n at ps e ≡ None → takes_in ops names sc ≡ with_names (with_itself owns.Function g n (length ps)) ps → complaint (with_names (with_itself owns.Function g n (length ps)) ps) e ≡ None → Means names ops sc e x → level_of x ≡ levels.Constant
own_constant names ops sc g form n at ps e x own fine p c m =
    not_above (level_of x) (risen names ops e sc (with_names (with_itself owns.Function g n (length ps)) ps) x p c m ∙ ap (λ (h : Rising). rises h e) (told_itself g n (length ps) ps) ∙ own_rises form g n at ps e own fine)

-- the level that the row of a definition of a LET has is that of its body
pub level_kept : (names : List Entry) (ops : List Operator) (sc : List Local) (g : Takes) (form : DefinitionForm) (n : List ℕ) (at : Place) (ps : List (List ℕ)) (e : Tree) (x : Term) (o : Own) → own_of form n ps e ≡ o → itself g form n at ps e ≡ None → takes_in ops names sc ≡ with_names (with_itself o g n (length ps)) ps → complaint (with_names (with_itself o g n (length ps)) ps) e ≡ None → Means names ops sc e x → own_level o x ≡ level_of x
level_kept names ops sc g form n at ps e x owns.Apart own fine p c m = refl
level_kept names ops sc g form n at ps e x owns.Itself own fine p c m = absurd (no_itself form n ps e own)
level_kept names ops sc g form n at ps e x owns.Function own fine p c m = sym (own_constant names ops sc g form n at ps e x own fine p c m)
