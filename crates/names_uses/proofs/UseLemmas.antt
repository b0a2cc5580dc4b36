-- What is found of the uses of definitions is exact.
use Rattle.std.proofs.Common.{◌≡◌, ◌∙◌, sym, ap, refl, subst, List, [], ◌∷◌, ◌++◌, length, ◌<◌, ◌≤◌, arith, map, ◌⊎◌, inl, inr, append_assoc, append-nil}
use Rattle.std.specs.Prelude.{ℕ, zero, suc, ◌+◌, ◌↔◌, Bool, true, false, if◌then◌else◌, Option, Some, None, slice_get, Contains, drop, get_or}
use Rattle.std.proofs.lemmas.List.{map-append}
use Rattle.std.proofs.lemmas.List.Elements.{Contains-append_left, Contains-append_right, Contains-append_cases}
use Rattle.values_core.specs.Data.{Val}
use Rattle.reading_trees.specs.declared.config.Config.{Config}
use Rattle.reading_trees.specs.declared.expr.Definition.{Definition}
use Rattle.reading_trees.specs.declared.module.Program.{Program}
use Rattle.names_scopes.specs.declared.meant.Entry.{Entry}
use Rattle.names_scopes.specs.declared.meant.Meant.{Meant}
use Rattle.names_scopes.specs.declared.meant.Meant.TheVariants as meant
use Rattle.names_scopes.specs.declared.meant.Named.{Named}
use Rattle.names_scopes.specs.Mentions.{is_one_of, mentions}
use Rattle.names_scopes.specs.Scopes.{among, named}
use Rattle.names_scopes.proofs.LevelLoops.{cut_at, cut_end}
use Rattle.names_program.specs.InUnits.{definitions_in}
use Rattle.names_program.specs.Names.{AreNames, by_index, definition_meant}
use Rattle.names_program.specs.Uses.{UsesDefinition}
use Rattle.base_use_order.specs.Uses.{IsWithin, Uses}
use Rattle.names_uses.specs.UsedNames.{AreUsed, IsUsed, UsesBy, number_in, number_of, used_as, used_over}
use Rattle.names_program.proofs.Values.{means_with_other_values}
use Rattle.names_uses.proofs.Meanings.{meant_within}

pub not_in_none : {A : Type 0} (x : A) → Contains [] x → ⊥
not_in_none x (k, h, e) = absurd (omega arith)

pub only_one : (i j : ℕ) → Contains (i ∷ []) j → i ≡ j
only_one i j (zero, h, e) = e
only_one i j (suc k, h, e) = absurd (omega arith)

pub has_one : (j : ℕ) → Contains (j ∷ []) j
has_one j = let z : 0 < 1 = omega arith in (0, z, refl)

pub in_tail : {A : Type 0} (x y : A) (xs : List A) → Contains xs y → Contains (x ∷ xs) y
in_tail x y xs (k, h, e) = let less : suc k < length (x ∷ xs) = omega (arith, h) in (suc k, less, e)

pub in_head : {A : Type 0} (x : A) (xs : List A) → Contains (x ∷ xs) x
in_head x xs = let less : 0 < length (x ∷ xs) = omega arith in (0, less, refl)

-- What a definition uses.

by_name : (names : List Entry) (d : Definition) (n : List ℕ) (j : ℕ) (o : Option ℕ) → number_in (among names n) ≡ o → (b : Bool) → is_one_of n d.params ≡ b → mentions n d.body ≡ true → Contains (used_as d n o) j → UsesBy names d j
by_name names d n j None e b p m h = absurd (not_in_none j h)
by_name names d n j (Some i) e true p m h =
    absurd (not_in_none j (subst (λ (x : Bool). Contains (if x then [] else i ∷ []) j) p h))
by_name names d n j (Some i) e false p m h =
    let same : i ≡ j = only_one i j (subst (λ (x : Bool). Contains (if x then [] else i ∷ []) j) p h) in
    record { name = n; no_parameter = p; mentioned = m; number = e ∙ ap (λ (k : ℕ). Some k) same }

-- what is found is used by a name
found_used : (names : List Entry) (d : Definition) (j : ℕ) (fs : List (List ℕ)) → ((n : List ℕ) → Contains fs n → mentions n d.body ≡ true) → Contains (used_over names d fs) j → UsesBy names d j
found_used names d j [] m h = absurd (not_in_none j h)
found_used names d j (f ∷ fs) m h =
    one (Contains-append_cases (used_as d f (number_in (among names f))) (used_over names d fs) j h) (found_used names d j fs (λ n k. m n (in_tail f n fs k)))
  where
    one : Contains (used_as d f (number_in (among names f))) j ⊎ Contains (used_over names d fs) j → (Contains (used_over names d fs) j → UsesBy names d j) → UsesBy names d j
    one (inl a) rest = by_name names d f j (number_in (among names f)) refl (is_one_of f d.params) refl (m f (in_head f fs)) a
    one (inr b) rest = rest b

-- what a name adds that is used
used_here : (d : Definition) (u : List ℕ) (j : ℕ) (o : Option ℕ) → is_one_of u d.params ≡ false → o ≡ Some j → Contains (used_as d u o) j
used_here d u j o p e =
    subst (λ (x : Option ℕ). Contains (used_as d u x) j) (sym e) (subst (λ (x : Bool). Contains (if x then [] else j ∷ []) j) (sym p) (has_one j))

-- what is used by one of the names is found
used_found : (names : List Entry) (d : Definition) (u : List ℕ) (j : ℕ) → is_one_of u d.params ≡ false → number_in (among names u) ≡ Some j → (fs : List (List ℕ)) → Contains fs u → Contains (used_over names d fs) j
used_found names d u j p e [] h = absurd (not_in_none u h)
used_found names d u j p e (f ∷ fs) (zero, h, q) =
    Contains-append_left (used_as d f (number_in (among names f))) (used_over names d fs) j (subst (λ (n : List ℕ). Contains (used_as d n (number_in (among names n))) j) (sym q) (used_here d u j (number_in (among names u)) p e))
used_found names d u j p e (f ∷ fs) (suc k, h, q) =
    let less : k < length fs = omega (arith, h) in
    Contains-append_right (used_as d f (number_in (among names f))) (used_over names d fs) j (used_found names d u j p e fs (k, less, q))

pub is_used : (names : List Entry) (d : Definition) (fs : List (List ℕ)) (js : List ℕ) → ((n : List ℕ) → Contains fs n ↔ (mentions n d.body ≡ true)) → js ≡ used_over names d fs → IsUsed names d js
is_used names d fs js free e j =
    (λ h. found_used names d j fs (λ n. (free n).0) (subst (λ (l : List ℕ). Contains l j) e h), λ u. subst (λ (l : List ℕ). Contains l j) (sym e) (used_found names d u.name j u.no_parameter u.number fs ((free u.name).1 u.mentioned)))

-- one more name
pub used_on : (names : List Entry) (d : Definition) (old new target : List ℕ) (items : List (List ℕ)) (i : ℕ) (x : List ℕ) → i < length items → x ≡ get_or items i x → new ≡ old ++ used_as d x (number_in (among names x)) → old ++ used_over names d (drop i items) ≡ target → new ++ used_over names d (drop (i + 1) items) ≡ target
used_on names d old new target items i x lt e n t =
    ap (λ l. l ++ used_over names d (drop (i + 1) items)) n ∙ append_assoc old (used_as d x (number_in (among names x))) (used_over names d (drop (i + 1) items)) ∙ ap (λ l. old ++ l) (sym (ap (used_over names d) (cut_at items i x lt e))) ∙ t

pub used_end : (names : List Entry) (d : Definition) (old target : List ℕ) (items : List (List ℕ)) (i : ℕ) → length items ≤ i → old ++ used_over names d (drop i items) ≡ target → old ≡ target
used_end names d old target items i le t = sym (append-nil old) ∙ ap (λ l. old ++ used_over names d l) (sym (cut_end items i le)) ∙ t

-- What each definition uses.

-- one more definition
pub each_on : {A B : Type 0} (f : A → Definition) (g : B → List ℕ) (names : List Entry) (items : List A) (i : ℕ) (x : A) (old new : List B) (v : B) → i < length items → x ≡ get_or items i x → new ≡ old ++ v ∷ [] → IsUsed names (f x) (g v) → ((rest : List (List ℕ)) → AreUsed names (map f (drop i items)) rest → AreUsed names (map f items) (map g old ++ rest)) → (rest : List (List ℕ)) → AreUsed names (map f (drop (i + 1) items)) rest → AreUsed names (map f items) (map g new ++ rest)
each_on f g names items i x old new v lt e n u h rest r =
    let whole : map g old ++ (g v ∷ rest) ≡ map g new ++ rest = sym (ap (λ l. l ++ rest) (ap (map g) n ∙ map-append g old (v ∷ [])) ∙ append_assoc (map g old) (g v ∷ []) rest) in
    subst (λ (l : List (List ℕ)). AreUsed names (map f items) l) whole (h (g v ∷ rest) (subst (λ l. AreUsed names (map f l) (g v ∷ rest)) (sym (cut_at items i x lt e)) (u, r)))

pub each_end : {A : Type 0} (f : A → Definition) (names : List Entry) (items : List A) (i : ℕ) (uses : List (List ℕ)) → length items ≤ i → ((rest : List (List ℕ)) → AreUsed names (map f (drop i items)) rest → AreUsed names (map f items) (uses ++ rest)) → AreUsed names (map f items) uses
each_end f names items i uses le h =
    subst (λ (l : List (List ℕ)). AreUsed names (map f items) l) (append-nil uses) (h [] (subst (λ l. AreUsed names (map f l) []) (sym (cut_end items i le)) tt))

pub record UsedAt (names : List Entry) (ds : List Definition) (i j : ℕ) : Type 0 where
  pub definition : Definition
  pub stands : slice_get ds i ≡ Some definition
  pub used : UsesBy names definition j

used_at : (names : List Entry) (ds : List Definition) (uses : List (List ℕ)) → AreUsed names ds uses → (i j : ℕ) → Uses uses i j → UsedAt names ds i j
used_at names [] [] h zero j u = absurd (not_in_none j u)
used_at names [] [] h (suc i) j u = absurd (not_in_none j u)
used_at names [] (js ∷ uses) h i j u = absurd h
used_at names (d ∷ ds) [] h i j u = absurd h
used_at names (d ∷ ds) (js ∷ uses) h zero j u = record { definition = d; stands = refl; used = (h.0 j).0 u }
used_at names (d ∷ ds) (js ∷ uses) h (suc i) j u =
    let r : UsedAt names ds i j = used_at names ds uses h.1 i j u in
    record { definition = r.definition; stands = r.stands; used = r.used }

at_used : (names : List Entry) (ds : List Definition) (uses : List (List ℕ)) → AreUsed names ds uses → (i j : ℕ) (d : Definition) → slice_get ds i ≡ Some d → UsesBy names d j → Uses uses i j
at_used names [] [] h zero j d e u = absurd (cc)
at_used names [] [] h (suc i) j d e u = absurd (cc)
at_used names [] (js ∷ uses) h i j d e u = absurd h
at_used names (x ∷ ds) [] h i j d e u = absurd h
at_used names (x ∷ ds) (js ∷ uses) h zero j d e u =
    let same : x ≡ d = cc in
    (h.0 j).1 (subst (λ (y : Definition). UsesBy names y j) (sym same) u)
at_used names (x ∷ ds) (js ∷ uses) h (suc i) j d e u = at_used names ds uses h.1 i j d e u

pub as_many : (names : List Entry) (ds : List Definition) (uses : List (List ℕ)) → AreUsed names ds uses → length uses ≡ length ds
as_many names [] [] h = refl
as_many names [] (js ∷ uses) h = absurd h
as_many names (d ∷ ds) [] h = absurd h
as_many names (d ∷ ds) (js ∷ uses) h = ap suc (as_many names ds uses h.1)

-- In a program.

pub number_meant : (m : Meant) (j : ℕ) → number_of m ≡ Some j → m ≡ definition_meant j
number_meant (meant.Definition k) j e = let q : k.0 ≡ j = cc in ap (λ (i : ℕ). meant.Definition (record { 0 = i })) q
number_meant (meant.Slot i) j e = absurd (cc)
number_meant (meant.Variable x) j e = absurd (cc)
number_meant (meant.Known v) j e = absurd (cc)
number_meant (meant.Set s) j e = absurd (cc)
number_meant (meant.Standard s) j e = absurd (cc)

pub record MeantBy (o : Option Named) (j : ℕ) : Type 0 where
  pub needed : ℕ
  pub is : o ≡ Some (named needed (definition_meant j))

pub meant_by : (o : Option Named) (j : ℕ) → number_in o ≡ Some j → MeantBy o j
meant_by None j e = absurd (cc)
meant_by (Some w) j e = record { needed = w.needed; is = ap (λ (m : Meant). Some (named w.needed m)) (number_meant w.meant j e) }

module _ (p : Program) (c : Config) (values : List Val) (names : List Entry) (are : AreNames p c values by_index names) (uses : List (List ℕ)) (used : AreUsed names (definitions_in p.units) uses) where
  uses_definition : (i j : ℕ) → Uses uses i j → UsesDefinition p c i j
  uses_definition i j h =
      let f : UsedAt names (definitions_in p.units) i j = used_at names (definitions_in p.units) uses used i j h in
      let m : MeantBy (among names f.used.name) j = meant_by (among names f.used.name) j f.used.number in
      record {
        definition = f.definition;
        stands = f.stands;
        name = f.used.name;
        no_parameter = f.used.no_parameter;
        mentioned = f.used.mentioned;
        means = (m.needed, means_with_other_values p c values [] f.used.name m.needed j (sym (are f.used.name) ∙ m.is));
      }

  definition_used : (i j : ℕ) → UsesDefinition p c i j → Uses uses i j
  definition_used i j u =
      let w : among names u.name ≡ Some (named u.means.0 (definition_meant j)) = are u.name ∙ means_with_other_values p c [] values u.name u.means.0 j u.means.1 in
      at_used names (definitions_in p.units) uses used i j u.definition u.stands (record { name = u.name; no_parameter = u.no_parameter; mentioned = u.mentioned; number = ap number_in w })

  pub uses_exact : (i j : ℕ) → Uses uses i j ↔ UsesDefinition p c i j
  uses_exact i j = (uses_definition i j, definition_used i j)

  pub uses_within : IsWithin uses
  uses_within i j h =
      let u : UsesDefinition p c i j = uses_definition i j h in
      let less : j < length (definitions_in p.units) = meant_within p c [] u.name (named u.means.0 (definition_meant j)) u.means.1 in
      let many : length uses ≡ length (definitions_in p.units) = as_many names (definitions_in p.units) uses used in
      omega (arith, less, many)
