-- What holds of each row of a term holds everywhere in what a tree means: one induction for all that is said of rows.
use Rattle.std.proofs.Common.{◌≡◌, ◌∙◌, sym, ap, refl, subst, List, [], ◌∷◌, ◌++◌, length, ◌<◌, arith}
use Rattle.std.specs.Prelude.{◌+◌, ◌==◌, if◌then◌else◌, ℕ, suc, Bool, true, false, All, Option, Some, None, option_map, slice_get}
use Rattle.std.proofs.lemmas.Bool.Decides.{nat_tests}
use Rattle.std.proofs.lemmas.List.Elements.{All-nil, All-push}
use Rattle.base_core.specs.declared.place.Place.{Place}
use Rattle.values_core.specs.Data.{integer, string, truth}
use Rattle.reading_trees.specs.declared.laid.Bullet.{Bullet}
use Rattle.reading_trees.specs.declared.laid.Bullet.TheVariants as bullet
use Rattle.reading_trees.specs.declared.operators.InfixOperator.{InfixOperator}
use Rattle.reading_trees.specs.declared.operators.InfixOperator.TheVariants as infix_operator
use Rattle.reading_trees.specs.Trees as tree
use Rattle.reading_trees.specs.Trees.{Tree, place_of}
use Rattle.names_terms.specs.declared.ids.DefId.{DefId}
use Rattle.names_terms.specs.declared.level.Level.{Level}
use Rattle.names_terms.specs.declared.operator.Operator.{Operator}
use Rattle.names_terms.specs.declared.operator.Own.{Own}
use Rattle.names_terms.specs.declared.operator.Own.TheVariants as owns
use Rattle.names_terms.specs.Terms as term
use Rattle.names_terms.specs.Terms.{Term, Terms, Meaning, count, level_of, width}
use Rattle.names_terms.specs.Levels.{level_for}
use Rattle.names_scopes.specs.declared.scope.Local.{Local}
use Rattle.names_scopes.specs.declared.scope.Local.TheVariants.{Bound, Defined}
use Rattle.names_scopes.specs.declared.meant.Meant.{Meant}
use Rattle.names_scopes.specs.declared.meant.Meant.TheVariants as meant
use Rattle.names_scopes.specs.declared.meant.Named.{Named}
use Rattle.names_scopes.specs.declared.meant.Entry.{Entry}
use Rattle.names_scopes.specs.Scopes as scopes
use Rattle.names_scopes.specs.Scopes.{meaning_in, bind, bind_bounds, slots, at_sign}
use Rattle.names_meanings.specs.declared.fault.NameFault.{NameFault}
use Rattle.names_meanings.specs.Complaints.{Taken, Takes, bound_name, with_itself, with_name, with_names, with_bounds, with_definitions, or_else, counted, number_of, itself, complaint, complaints, operands_complaint, step_complaint, steps_complaint, bounds_complaint, fields_complaint, changes_complaint, arms_complaint, definitions_complaint}
use Rattle.names_meanings.specs.Means.{Uses, Stands, Means, MeansEach, MeansOperands, MeansStep, MeansSteps, MeansBounds, MeansFields, MeansChanges, MeansArms, Defines, junction, chain, operands_list, builtin_set, local_operator, own_level, with_own}
use Rattle.names_meanings.specs.Outcomes.{needed_by, taken_by, takes_in}
use Rattle.names_meanings.specs.Owning.{own_of}
use Rattle.names_meanings.proofs.Risen.{body_scope, level_kept, made}
use Rattle.names_meanings.proofs.Takes.{takes_bound, takes_bind}
use Rattle.names_specification_laws.specs.Everywhere.{Everywhere, Inside, InTerms, InOperands, InStep, InSteps, InBounds, InFields, InChanges, InArms}
use Rattle.names_specification_laws.specs.Formed.{IsFormed, AreFormed, ChainIsFormed, StepIsFormed, StepsAreFormed, BoundsAreFormed, FieldsAreFormed, ChangesAreFormed, ArmsAreFormed, DefinitionsAreFormed}
use Rattle.names_specification_laws.specs.IsSpec.{HasParts, AreOperands}
use Rattle.names_specification_laws.proofs.Filled.{are_operands, as_many, some_terms, is_step, are_steps, are_bounds, are_fields, are_paths, some_changes, some_arms}

-- rows that mean neither what a name means nor a LET
abbrev pub IsPlain : Meaning → Type 0
IsPlain (term.Variable x) = ⊥
IsPlain (term.Slot i) = ⊥
IsPlain (term.Use k ts) = ⊥
IsPlain (term.Standard o ts) = ⊥
IsPlain (term.Scoped ks e) = ⊥
IsPlain m = Unit {0}

-- What is to be shown of the rows `P`, where `S` holds of the scope and `Q` of each definition of a LET.
pub record Rows (names : List Entry) (ops : List Operator) (S : List Local → Type 0) (Q : ℕ → Type 0) (P : ℕ → Place → Level → Meaning → Type 0) : Type 0 where
  pub of_name : (sc : List Local) (n : List ℕ) (w : Named) (ts : Terms) (at : Place) → S sc → meaning_in names sc n ≡ Some w → count ts ≡ needed_by w
      → P (slots sc) at (level_for ops (scopes.used w.meant ts)) (scopes.used w.meant ts)
  pub of_let : (i : ℕ) (ks : List ℕ) (e : Term) (at : Place) → All Q ks → P i at (level_for ops (term.Scoped ks e)) (term.Scoped ks e)
  pub of_plain : (i : ℕ) (m : Meaning) (at : Place) → IsPlain m → HasParts m → P i at (level_for ops m) m
  pub bound : (sc : List Local) (n : List ℕ) → S sc → S (sc ++ Bound n ∷ [])
  pub defined : (sc : List Local) (n : List ℕ) (k : DefId) (own : Own) (ps : List (List ℕ)) (t : Tree) (x : Term) → S sc
      → slice_get ops k.0 ≡ Some (local_operator (slots sc) (length ps) own x) → own_level own x ≡ level_of x → IsFormed t
      → complaint (takes_in ops names (bind (with_own own sc n k (length ps)) ps)) t ≡ None
      → Means names ops (bind (with_own own sc n k (length ps)) ps) t x → Q k.0 × S (sc ++ Defined n k (length ps) ∷ [])

-- a place with so many slots, and how many arguments names take there
record IsHere (names : List Entry) (ops : List Operator) (S : List Local → Type 0) (g : Takes) (sc : List Local) (i : ℕ) : Type 0 where
  holds : S sc
  takes : takes_in ops names sc ≡ g
  taken : slots sc ≡ i

none_first : {A : Type 0} (a b : Option A) → or_else a b ≡ None → a ≡ None
none_first None b e = refl
none_first (Some x) b e = e

none_second : {A : Type 0} (a b : Option A) → or_else a b ≡ None → b ≡ None
none_second None b e = e
none_second (Some x) b e = absurd (cc)

if_none : (b : Bool) (f : NameFault) → (if b then None else Some f) ≡ None → b ≡ true
if_none true f e = refl
if_none false f e = absurd (cc)

same_number : (a b : ℕ) → (a == b) ≡ true → a ≡ b
same_number a b e = grind (arith, nat_tests)

-- a name with which nothing is wrong stands with as many arguments as it takes
as_taken : (n : List ℕ) (at : Place) (found : ℕ) (o : Option Taken) (w : Taken) → counted n at found o ≡ None → o ≡ Some w → found ≡ w.needed
as_taken n at found None w c e = absurd (cc)
as_taken n at found (Some k) w c e =
    let same : k ≡ w = cc in
    same_number found k.needed (if_none (found == k.needed) _ c) ∙ ap (λ (x : Taken). x.needed) same

slots_bound : (sc : List Local) (n : List ℕ) → slots (sc ++ Bound n ∷ []) ≡ suc (slots sc)
slots_bound [] n = refl
slots_bound (Bound m ∷ sc) n = ap suc (slots_bound sc n)
slots_bound (Defined m k p ∷ sc) n = slots_bound sc n

slots_defined : (sc : List Local) (n : List ℕ) (k : DefId) (p : ℕ) → slots (sc ++ Defined n k p ∷ []) ≡ slots sc
slots_defined [] n k p = refl
slots_defined (Bound m ∷ sc) n k p = ap suc (slots_defined sc n k p)
slots_defined (Defined m j q ∷ sc) n k p = slots_defined sc n k p

-- in the body of a definition of a LET
pub slots_own : (own : Own) (sc : List Local) (n : List ℕ) (k : DefId) (p : ℕ) → slots (with_own own sc n k p) ≡ slots sc
slots_own owns.Apart sc n k p = refl
slots_own owns.Itself sc n k p = slots_defined sc n k p
slots_own owns.Function sc n k p = slots_defined sc n k p

pub slots_bind : (sc : List Local) (ns : List (List ℕ)) → slots (bind sc ns) ≡ slots sc + length ns
slots_bind sc [] = omega arith
slots_bind sc (n ∷ ns) =
    let r : slots (bind (sc ++ Bound n ∷ []) ns) ≡ slots (sc ++ Bound n ∷ []) + length ns = slots_bind (sc ++ Bound n ∷ []) ns in
    omega (arith, r, slots_bound sc n)

module _ (names : List Entry) (ops : List Operator) (S : List Local → Type 0) (Q : ℕ → Type 0) (P : ℕ → Place → Level → Meaning → Type 0) (rows : Rows names ops S Q P) where
  abbrev Here : Takes → List Local → ℕ → Type 0
  Here g sc i = IsHere names ops S g sc i

  here_bound : (g : Takes) (sc : List Local) (i : ℕ) (n : List ℕ) → Here g sc i → Here (with_name g n bound_name) (sc ++ Bound n ∷ []) (suc i)
  here_bound g sc i n h = record { holds = rows.bound sc n h.holds; takes = takes_bound ops names sc n ∙ ap (λ (f : Takes). with_name f n bound_name) h.takes; taken = slots_bound sc n ∙ ap suc h.taken }

  holds_bind : (sc : List Local) (ns : List (List ℕ)) → S sc → S (bind sc ns)
  holds_bind sc [] h = h
  holds_bind sc (n ∷ ns) h = holds_bind (sc ++ Bound n ∷ []) ns (rows.bound sc n h)

  here_bind : (g : Takes) (sc : List Local) (i : ℕ) (ns : List (List ℕ)) → Here g sc i → Here (with_names g ns) (bind sc ns) (i + length ns)
  here_bind g sc i ns h =
      record { holds = holds_bind sc ns h.holds; takes = takes_bind ops names sc ns ∙ ap (λ (f : Takes). with_names f ns) h.takes; taken = slots_bind sc ns ∙ ap (λ j. j + length ns) h.taken }

  here_at : (g : Takes) (sc : List Local) (i j : ℕ) → i ≡ j → Here g sc i → Here g sc j
  here_at g sc i j e h = record { holds = h.holds; takes = h.takes; taken = h.taken ∙ e }

  -- where the names of bounds are bound, whatever stands around the bounds
  here_bounds : (out : List Local) (g : Takes) (sc : List Local) (i : ℕ) (bs : tree.Bounds) (ys : term.Bounds) → Here g sc i → MeansBounds names ops out bs ys → Here (with_bounds g bs) (bind_bounds sc bs) (i + width ys)
  here_bounds out g sc i tree.NoBounds ys h m = let e : width ys ≡ 0 = ap width m in here_at g sc i (i + width ys) (omega (arith, e)) h
  here_bounds out g sc i (tree.MoreBounds bs ns e) ys h m =
      let q : width ys ≡ width m.0 + length ns = ap width m.2 in
      here_at (with_names (with_bounds g bs) ns) (bind (bind_bounds sc bs) ns) (i + width m.0 + length ns) (i + width ys) (omega (arith, q))
      (here_bind (with_bounds g bs) (bind_bounds sc bs) (i + width m.0) ns (here_bounds out g sc i bs m.0 h m.3))

  -- one row

  at_row : (t : Tree) (m : Meaning) (e : Term) (i : ℕ) → Stands names ops t m e → P i (place_of t) (level_for ops m) m → Inside P i m → Everywhere P i e
  at_row t m e i q p h = subst (λ (y : Term). Everywhere P i y) (sym q) (p, h)

  plain : (t : Tree) (m : Meaning) (e : Term) (i : ℕ) → Stands names ops t m e → IsPlain m → HasParts m → Inside P i m → Everywhere P i e
  plain t m e i q k p h = at_row t m e i q (rows.of_plain i m (place_of t) k p) h

  inside_used : (i : ℕ) (w : Meant) (ts : Terms) → InTerms P i ts → Inside P i (scopes.used w ts)
  inside_used i (meant.Slot j) ts h = tt
  inside_used i (meant.Variable x) ts h = tt
  inside_used i (meant.Known v) ts h = tt
  inside_used i (meant.Set s) ts h = tt
  inside_used i (meant.Standard o) ts h = h
  inside_used i (meant.Definition d) ts h = h

  as_needed : (g : Takes) (sc : List Local) (i : ℕ) (n : List ℕ) (at : Place) (found : ℕ) (w : Named) → Here g sc i → counted n at found (g n) ≡ None → meaning_in names sc n ≡ Some w → found ≡ needed_by w
  as_needed g sc i n at found w h c q =
      let r : g n ≡ Some (taken_by ops w) = sym (ap (λ (f : Takes). f n) h.takes) ∙ ap (λ (o : Option Named). option_map (taken_by ops) o) q in
      as_taken n at found (g n) (taken_by ops w) c r

  of_use : (g : Takes) (sc : List Local) (i : ℕ) (t : Tree) (n : List ℕ) (at : Place) (found : ℕ) (ts : Terms) (m : Meaning) (e : Term) → Here g sc i → counted n at found (g n) ≡ None → count ts ≡ found → Uses names sc n ts m → InTerms P i ts → Stands names ops t m e → Everywhere P i e
  of_use g sc i t n at found ts m e h c k u terms q =
      let w : Named = u.0 in
      let p : P (slots sc) (place_of t) (level_for ops (scopes.used w.meant ts)) (scopes.used w.meant ts) = rows.of_name sc n w ts (place_of t) h.holds u.1 (k ∙ as_needed g sc i n at found w h c u.1) in
      let here : P i (place_of t) (level_for ops (scopes.used w.meant ts)) (scopes.used w.meant ts) = subst (λ j. P j (place_of t) (level_for ops (scopes.used w.meant ts)) (scopes.used w.meant ts)) h.taken p in
      at_row t (scopes.used w.meant ts) e i (subst (λ (y : Meaning). Stands names ops t y e) u.2 q) here (inside_used i w.meant ts terms)

  of_junction : (i : ℕ) (t : Tree) (b : Bullet) (ts : Terms) (e : Term) → Stands names ops t (junction b ts) e → 0 < count ts → InTerms P i ts → Everywhere P i e
  of_junction i t bullet.And ts e q n h = plain t (term.All ts) e i q tt n h
  of_junction i t bullet.Or ts e q n h = plain t (term.Any ts) e i q tt n h

  in_operands : (i : ℕ) (os : term.Operands) → InOperands P i os → InTerms P i (operands_list os)
  in_operands i (term.First e) h = (tt, h)
  in_operands i (term.Next os at e) h = (in_operands i os h.0, h.1)

  of_chain : (i : ℕ) (t : Tree) (o : InfixOperator) (os : term.Operands) (x e : Term) → Stands names ops t (chain o os x) e → AreOperands o os → InOperands P i os → Everywhere P i x → Everywhere P i e
  of_chain i t infix_operator.And os x e q a h k = plain t (term.All (term.MoreTerms (operands_list os) x)) e i q tt (omega arith) (in_operands i os h, k)
  of_chain i t infix_operator.Or os x e q a h k = plain t (term.Any (term.MoreTerms (operands_list os) x)) e i q tt (omega arith) (in_operands i os h, k)
  of_chain i t o os x e q a h k = plain t (term.Infix o os x) e i q tt (refl, a) (h, k)

  mutual
    in_order : (g : Takes) (sc : List Local) (i : ℕ) (t : Tree) (y : Term) → Here g sc i → IsFormed t → complaint g t ≡ None → Means names ops sc t y → Everywhere P i y
    in_order g sc i (tree.Number at z) y w f c h = plain (tree.Number at z) (term.Known (integer z)) y i h tt tt tt
    in_order g sc i (tree.Str at s) y w f c h = plain (tree.Str at s) (term.Known (string s)) y i h tt tt tt
    in_order g sc i (tree.Truth at b) y w f c h = plain (tree.Truth at b) (term.Known (truth b)) y i h tt tt tt
    in_order g sc i (tree.Builtin at b) y w f c h = plain (tree.Builtin at b) (term.Named (builtin_set b)) y i h tt tt tt
    in_order g sc i (tree.Name at n) y w f c h = of_use g sc i (tree.Name at n) n at 0 term.NoTerms h.0 y w c refl h.1 tt h.2
    in_order g sc i (tree.Call at n es) y w f c h =
        of_use g sc i (tree.Call at n es) n at (number_of es) h.0 h.1 y w (none_first (counted n at (number_of es) (g n)) (complaints g es) c) (as_many names ops sc es h.0 h.2) h.3
        (each_in g sc i es h.0 w f.1 (none_second (counted n at (number_of es) (g n)) (complaints g es) c) h.2) h.4
    in_order g sc i (tree.Qualified at n es) y w f c h =
        of_use g sc i (tree.Qualified at n es) n at (number_of es) h.0 h.1 y w (none_first (counted n at (number_of es) (g n)) (complaints g es) c) (as_many names ops sc es h.0 h.2) h.3
        (each_in g sc i es h.0 w f (none_second (counted n at (number_of es) (g n)) (complaints g es) c) h.2) h.4
    in_order g sc i (tree.At at) y w f c h = of_use g sc i (tree.At at) at_sign at 0 term.NoTerms h.0 y w c refl h.1 tt h.2
    in_order g sc i (tree.Parenthesized at a) y w f c h = plain (tree.Parenthesized at a) (term.Parenthesized h.0) y i h.2 tt tt (in_order g sc i a h.0 w f c h.1)
    in_order g sc i (tree.Junction at b es) y w f c h = of_junction i (tree.Junction at b es) b h.0 y h.2 (some_terms names ops sc es h.0 f.0 h.1) (each_in g sc i es h.0 w f.1 c h.1)
    in_order g sc i (tree.Prefix at o a) y w f c h = plain (tree.Prefix at o a) (term.Prefix o h.0) y i h.2 tt tt (in_order g sc i a h.0 w f c h.1)
    in_order g sc i (tree.Infix at o os a) y w f c h =
        of_chain i (tree.Infix at o os a) o h.0 h.1 y h.4 (are_operands names ops sc o os h.0 f.0 h.2) (operands_in g sc i o os h.0 w f.0 (none_first (operands_complaint g os) (complaint g a) c) h.2) (in_order g sc i a h.1 w f.1 (none_second (operands_complaint g os) (complaint g a) c) h.3)
    in_order g sc i (tree.Postfix at a ss s) y w f c h =
        let d : or_else (steps_complaint g ss) (step_complaint g s) ≡ None = none_second (complaint g a) (or_else (steps_complaint g ss) (step_complaint g s)) c in
        plain (tree.Postfix at a ss s) (term.Postfix h.0 h.1 h.2) y i h.6 tt (are_steps names ops sc ss h.1 f.1 h.4, is_step names ops sc s h.2 f.2 h.5)
        (in_order g sc i a h.0 w f.0 (none_first (complaint g a) (or_else (steps_complaint g ss) (step_complaint g s)) c) h.3, steps_in g sc i ss h.1 w f.1 (none_first (steps_complaint g ss) (step_complaint g s) d) h.4, step_in g sc i s h.2 w f.2 (none_second (steps_complaint g ss) (step_complaint g s) d) h.5)
    in_order g sc i (tree.SetOf at es) y w f c h = plain (tree.SetOf at es) (term.SetOf h.0) y i h.2 tt tt (each_in g sc i es h.0 w f c h.1)
    in_order g sc i (tree.Filter at n a b) y w f c h =
        plain (tree.Filter at n a b) (term.Filter h.0 h.1) y i h.4 tt tt
        (in_order g sc i a h.0 w f.0 (none_first (complaint g a) (complaint (with_name g n bound_name) b) c) h.2, in_order (with_name g n bound_name) (sc ++ Bound n ∷ []) (suc i) b h.1 (here_bound g sc i n w) f.1 (none_second (complaint g a) (complaint (with_name g n bound_name) b) c) h.3)
    in_order g sc i (tree.Map at a bs) y w f c h =
        plain (tree.Map at a bs) (term.Map h.0 h.1) y i h.4 tt (are_bounds names ops sc bs h.1 f.0 f.1 h.3)
        (in_order (with_bounds g bs) (bind_bounds sc bs) (i + width h.1) a h.0 (here_bounds sc g sc i bs h.1 w h.3) f.2 (none_first (complaint (with_bounds g bs) a) (bounds_complaint g bs) c) h.2, bounds_in g sc i bs h.1 w f.1 (none_second (complaint (with_bounds g bs) a) (bounds_complaint g bs) c) h.3)
    in_order g sc i (tree.Tuple at es) y w f c h = plain (tree.Tuple at es) (term.Tuple h.0) y i h.2 tt tt (each_in g sc i es h.0 w f c h.1)
    in_order g sc i (tree.Function at bs a) y w f c h =
        plain (tree.Function at bs a) (term.Function h.0 h.1) y i h.4 tt (are_bounds names ops sc bs h.0 f.0 f.1 h.2)
        (bounds_in g sc i bs h.0 w f.1 (none_first (bounds_complaint g bs) (complaint (with_bounds g bs) a) c) h.2, in_order (with_bounds g bs) (bind_bounds sc bs) (i + width h.0) a h.1 (here_bounds sc g sc i bs h.0 w h.2) f.2 (none_second (bounds_complaint g bs) (complaint (with_bounds g bs) a) c) h.3)
    in_order g sc i (tree.FunctionSet at a b) y w f c h =
        plain (tree.FunctionSet at a b) (term.FunctionSet h.0 h.1) y i h.4 tt tt (in_order g sc i a h.0 w f.0 (none_first (complaint g a) (complaint g b) c) h.2, in_order g sc i b h.1 w f.1 (none_second (complaint g a) (complaint g b) c) h.3)
    in_order g sc i (tree.Record at fs) y w f c h = plain (tree.Record at fs) (term.Record h.0) y i h.2 tt (are_fields names ops sc fs h.0 f.0 f.1 h.1) (fields_in g sc i fs h.0 w f.2 c h.1)
    in_order g sc i (tree.RecordSet at fs) y w f c h = plain (tree.RecordSet at fs) (term.RecordSet h.0) y i h.2 tt (are_fields names ops sc fs h.0 f.0 f.1 h.1) (fields_in g sc i fs h.0 w f.2 c h.1)
    in_order g sc i (tree.Except at a cs) y w f c h =
        plain (tree.Except at a cs) (term.Except h.0 h.1) y i h.4 tt (some_changes names ops sc cs h.1 f.0 h.3, are_paths names ops sc cs h.1 f.1 h.3)
        (in_order g sc i a h.0 w f.2 (none_first (complaint g a) (changes_complaint g cs) c) h.2, changes_in g sc i cs h.1 w f.1 (none_second (complaint g a) (changes_complaint g cs) c) h.3)
    in_order g sc i (tree.Quantified at q bs a) y w f c h =
        plain (tree.Quantified at q bs a) (term.Quantified q h.0 h.1) y i h.4 tt (are_bounds names ops sc bs h.0 f.0 f.1 h.2)
        (bounds_in g sc i bs h.0 w f.1 (none_first (bounds_complaint g bs) (complaint (with_bounds g bs) a) c) h.2, in_order (with_bounds g bs) (bind_bounds sc bs) (i + width h.0) a h.1 (here_bounds sc g sc i bs h.0 w h.2) f.2 (none_second (bounds_complaint g bs) (complaint (with_bounds g bs) a) c) h.3)
    in_order g sc i (tree.Choose at n a b) y w f c h =
        plain (tree.Choose at n a b) (term.Choose h.0 h.1) y i h.4 tt tt
        (in_order g sc i a h.0 w f.0 (none_first (complaint g a) (complaint (with_name g n bound_name) b) c) h.2, in_order (with_name g n bound_name) (sc ++ Bound n ∷ []) (suc i) b h.1 (here_bound g sc i n w) f.1 (none_second (complaint g a) (complaint (with_name g n bound_name) b) c) h.3)
    in_order g sc i (tree.If at p a b) y w f c h =
        let d : or_else (complaint g a) (complaint g b) ≡ None = none_second (complaint g p) (or_else (complaint g a) (complaint g b)) c in
        plain (tree.If at p a b) (term.If h.0 h.1 h.2) y i h.6 tt tt
        (in_order g sc i p h.0 w f.0 (none_first (complaint g p) (or_else (complaint g a) (complaint g b)) c) h.3, in_order g sc i a h.1 w f.1 (none_first (complaint g a) (complaint g b) d) h.4, in_order g sc i b h.2 w f.2 (none_second (complaint g a) (complaint g b) d) h.5)
    in_order g sc i (tree.Case at arms) y w f c h = plain (tree.Case at arms) (term.Case h.0) y i h.2 tt (some_arms names ops sc arms h.0 f.0 h.1) (arms_in g sc i arms h.0 w f.1 c h.1)
    in_order g sc i (tree.CaseOther at arms a) y w f c h =
        plain (tree.CaseOther at arms a) (term.CaseOther h.0 h.1) y i h.4 tt (some_arms names ops sc arms h.0 f.0 h.2)
        (arms_in g sc i arms h.0 w f.1 (none_first (arms_complaint g arms) (complaint g a) c) h.2, in_order g sc i a h.1 w f.2 (none_second (arms_complaint g arms) (complaint g a) c) h.3)
    in_order g sc i (tree.Let at ds a) y w f c h =
        let d : All Q h.0 × Here (with_definitions g ds) h.1 i = definitions_in g sc i ds h.0 h.1 w f.1 (none_first (definitions_complaint g ds) (complaint (with_definitions g ds) a) c) h.3 in
        at_row (tree.Let at ds a) (term.Scoped h.0 h.2) y i h.5 (rows.of_let i h.0 h.2 at d.0)
        (in_order (with_definitions g ds) h.1 i a h.2 d.1 f.2 (none_second (definitions_complaint g ds) (complaint (with_definitions g ds) a) c) h.4)
    in_order g sc i (tree.BoxAction at a v) y w f c h =
        plain (tree.BoxAction at a v) (term.BoxAction h.0 h.1) y i h.4 tt tt (in_order g sc i a h.0 w f.0 (none_first (complaint g a) (complaint g v) c) h.2, in_order g sc i v h.1 w f.1 (none_second (complaint g a) (complaint g v) c) h.3)
    in_order g sc i (tree.AngleAction at a v) y w f c h =
        plain (tree.AngleAction at a v) (term.AngleAction h.0 h.1) y i h.4 tt tt (in_order g sc i a h.0 w f.0 (none_first (complaint g a) (complaint g v) c) h.2, in_order g sc i v h.1 w f.1 (none_second (complaint g a) (complaint g v) c) h.3)
    in_order g sc i (tree.Fairness at v a) y w f c h =
        plain (tree.Fairness at v a) (term.Fairness h.0 h.1) y i h.4 tt tt (in_order g sc i v h.0 w f.0 (none_first (complaint g v) (complaint g a) c) h.2, in_order g sc i a h.1 w f.1 (none_second (complaint g v) (complaint g a) c) h.3)

    each_in : (g : Takes) (sc : List Local) (i : ℕ) (es : tree.Trees) (ys : Terms) → Here g sc i → AreFormed es → complaints g es ≡ None → MeansEach names ops sc es ys → InTerms P i ys
    each_in g sc i tree.NoTrees ys w f c h = subst (λ (z : Terms). InTerms P i z) (sym h) tt
    each_in g sc i (tree.MoreTrees es e) ys w f c h =
        subst (λ (z : Terms). InTerms P i z) (sym h.2) (each_in g sc i es h.0 w f.0 (none_first (complaints g es) (complaint g e) c) h.3, in_order g sc i e h.1 w f.1 (none_second (complaints g es) (complaint g e) c) h.4)

    operands_in : (g : Takes) (sc : List Local) (i : ℕ) (o : InfixOperator) (es : tree.Operands) (ys : term.Operands) → Here g sc i → ChainIsFormed o es → operands_complaint g es ≡ None → MeansOperands names ops sc es ys → InOperands P i ys
    operands_in g sc i o (tree.First e) ys w f c h = subst (λ (z : term.Operands). InOperands P i z) (sym h.1) (in_order g sc i e h.0 w f c h.2)
    operands_in g sc i o (tree.Next es at e) ys w f c h =
        subst (λ (z : term.Operands). InOperands P i z) (sym h.2) (operands_in g sc i o es h.0 w f.0 (none_first (operands_complaint g es) (complaint g e) c) h.3, in_order g sc i e h.1 w f.1 (none_second (operands_complaint g es) (complaint g e) c) h.4)

    step_in : (g : Takes) (sc : List Local) (i : ℕ) (s : tree.Step) (ys : term.Step) → Here g sc i → StepIsFormed s → step_complaint g s ≡ None → MeansStep names ops sc s ys → InStep P i ys
    step_in g sc i tree.Prime ys w f c h = subst (λ (z : term.Step). InStep P i z) (sym h) tt
    step_in g sc i (tree.Index es) ys w f c h = subst (λ (z : term.Step). InStep P i z) (sym h.1) (each_in g sc i es h.0 w f.1 c h.2)
    step_in g sc i (tree.Field k) ys w f c h = subst (λ (z : term.Step). InStep P i z) (sym h) tt

    steps_in : (g : Takes) (sc : List Local) (i : ℕ) (ss : tree.Steps) (ys : term.Steps) → Here g sc i → StepsAreFormed ss → steps_complaint g ss ≡ None → MeansSteps names ops sc ss ys → InSteps P i ys
    steps_in g sc i tree.NoSteps ys w f c h = subst (λ (z : term.Steps). InSteps P i z) (sym h) tt
    steps_in g sc i (tree.MoreSteps ss at s) ys w f c h =
        subst (λ (z : term.Steps). InSteps P i z) (sym h.2) (steps_in g sc i ss h.0 w f.0 (none_first (steps_complaint g ss) (step_complaint g s) c) h.3, step_in g sc i s h.1 w f.1 (none_second (steps_complaint g ss) (step_complaint g s) c) h.4)

    bounds_in : (g : Takes) (sc : List Local) (i : ℕ) (bs : tree.Bounds) (ys : term.Bounds) → Here g sc i → BoundsAreFormed bs → bounds_complaint g bs ≡ None → MeansBounds names ops sc bs ys → InBounds P i ys
    bounds_in g sc i tree.NoBounds ys w f c h = subst (λ (z : term.Bounds). InBounds P i z) (sym h) tt
    bounds_in g sc i (tree.MoreBounds bs ns e) ys w f c h =
        subst (λ (z : term.Bounds). InBounds P i z) (sym h.2) (bounds_in g sc i bs h.0 w f.0 (none_first (bounds_complaint g bs) (complaint g e) c) h.3, in_order g sc i e h.1 w f.2 (none_second (bounds_complaint g bs) (complaint g e) c) h.4)

    fields_in : (g : Takes) (sc : List Local) (i : ℕ) (fs : tree.Fields) (ys : term.Fields) → Here g sc i → FieldsAreFormed fs → fields_complaint g fs ≡ None → MeansFields names ops sc fs ys → InFields P i ys
    fields_in g sc i tree.NoFields ys w f c h = subst (λ (z : term.Fields). InFields P i z) (sym h) tt
    fields_in g sc i (tree.MoreFields fs n e) ys w f c h =
        subst (λ (z : term.Fields). InFields P i z) (sym h.2) (fields_in g sc i fs h.0 w f.0 (none_first (fields_complaint g fs) (complaint g e) c) h.3, in_order g sc i e h.1 w f.1 (none_second (fields_complaint g fs) (complaint g e) c) h.4)

    changes_in : (g : Takes) (sc : List Local) (i : ℕ) (cs : tree.Changes) (ys : term.Changes) → Here g sc i → ChangesAreFormed cs → changes_complaint g cs ≡ None → MeansChanges names ops sc cs ys → InChanges P i ys
    changes_in g sc i tree.NoChanges ys w f c h = subst (λ (z : term.Changes). InChanges P i z) (sym h) tt
    changes_in g sc i (tree.MoreChanges cs path e) ys w f c h =
        let d : or_else (steps_complaint g path) (complaint (with_name g at_sign bound_name) e) ≡ None = none_second (changes_complaint g cs) (or_else (steps_complaint g path) (complaint (with_name g at_sign bound_name) e)) c in
        subst (λ (z : term.Changes). InChanges P i z) (sym h.3)
        (changes_in g sc i cs h.0 w f.0 (none_first (changes_complaint g cs) (or_else (steps_complaint g path) (complaint (with_name g at_sign bound_name) e)) c) h.4, steps_in g sc i path h.1 w f.2 (none_first (steps_complaint g path) (complaint (with_name g at_sign bound_name) e) d) h.5, in_order (with_name g at_sign bound_name) (sc ++ Bound at_sign ∷ []) (suc i) e h.2 (here_bound g sc i at_sign w) f.3 (none_second (steps_complaint g path) (complaint (with_name g at_sign bound_name) e) d) h.6)

    arms_in : (g : Takes) (sc : List Local) (i : ℕ) (arms : tree.Arms) (ys : term.Arms) → Here g sc i → ArmsAreFormed arms → arms_complaint g arms ≡ None → MeansArms names ops sc arms ys → InArms P i ys
    arms_in g sc i tree.NoArms ys w f c h = subst (λ (z : term.Arms). InArms P i z) (sym h) tt
    arms_in g sc i (tree.MoreArms arms p e) ys w f c h =
        let d : or_else (complaint g p) (complaint g e) ≡ None = none_second (arms_complaint g arms) (or_else (complaint g p) (complaint g e)) c in
        subst (λ (z : term.Arms). InArms P i z) (sym h.3)
        (arms_in g sc i arms h.0 w f.0 (none_first (arms_complaint g arms) (or_else (complaint g p) (complaint g e)) c) h.4, in_order g sc i p h.1 w f.1 (none_first (complaint g p) (complaint g e) d) h.5, in_order g sc i e h.2 w f.2 (none_second (complaint g p) (complaint g e) d) h.6)

    definitions_in : (g : Takes) (sc : List Local) (i : ℕ) (ds : tree.Definitions) (ks : List ℕ) (inner : List Local) → Here g sc i → DefinitionsAreFormed ds → definitions_complaint g ds ≡ None → Defines names ops sc ds ks inner → All Q ks × Here (with_definitions g ds) inner i
    definitions_in g sc i tree.NoDefinitions ks inner w f c h = (subst (λ (l : List ℕ). All Q l) (sym h.0) (All-nil Q), subst (λ (s : List Local). Here g s i) (sym h.1) w)
    definitions_in g sc i (tree.MoreDefinitions ds n at ps form e) ks inner w f c h =
        let gd : Takes = with_definitions g ds in
        let own : Own = own_of form n ps e in
        let body : Option NameFault = complaint (with_names (with_itself own gd n (length ps)) ps) e in
        let a : All Q h.0 × Here gd h.1 i = definitions_in g sc i ds h.0 h.1 w f.0 (none_first (definitions_complaint g ds) (or_else (itself gd form n at ps e) body) c) h.4 in
        let d : or_else (itself gd form n at ps e) body ≡ None = none_second (definitions_complaint g ds) (or_else (itself gd form n at ps e) body) c in
        let alone : itself gd form n at ps e ≡ None = none_first (itself gd form n at ps e) body d in
        let none : body ≡ None = none_second (itself gd form n at ps e) body d in
        let t : takes_in ops names (bind (with_own own h.1 n h.2 (length ps)) ps) ≡ with_names (with_itself own gd n (length ps)) ps = body_scope names ops h.1 gd n h.2 ps h.3 own a.1.takes h.6 in
        let fine : complaint (takes_in ops names (bind (with_own own h.1 n h.2 (length ps)) ps)) e ≡ None = subst (λ (q : Takes). complaint q e ≡ None) (sym t) none in
        let level : own_level own h.3 ≡ level_of h.3 = level_kept names ops (bind (with_own own h.1 n h.2 (length ps)) ps) gd form n at ps e h.3 own refl alone t none h.5 in
        let r : Q h.2.0 × S (h.1 ++ Defined n h.2 (length ps) ∷ []) = rows.defined h.1 n h.2 own ps e h.3 a.1.holds h.6 level f.1 fine h.5 in (
          subst (λ (l : List ℕ). All Q l) (sym h.7) (All-push Q h.0 h.2.0 a.0 r.0),
          record {
            holds = subst (λ (s : List Local). S s) (sym h.8) r.1;
            takes = made names ops (tree.MoreDefinitions ds n at ps form e) sc g ks inner w.takes c h;
            taken = ap slots h.8 ∙ slots_defined h.1 n h.2 (length ps) ∙ a.1.taken;
          },
        )

  -- of a whole tree
  pub of_tree : (sc : List Local) (t : Tree) (y : Term) → S sc → IsFormed t → complaint (takes_in ops names sc) t ≡ None → Means names ops sc t y → Everywhere P (slots sc) y
  of_tree sc t y s f c h = in_order (takes_in ops names sc) sc (slots sc) t y (record { holds = s; takes = refl; taken = refl }) f c h
