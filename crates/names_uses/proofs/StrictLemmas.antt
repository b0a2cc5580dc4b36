-- What is found of the uses that are not allowed is exact.
use Rattle.std.proofs.Common.{◌≡◌, ◌∙◌, sym, ap, refl, subst, List, [], ◌∷◌, ◌++◌, length, ◌<◌, ◌≤◌, arith, map, ◌⊎◌, inl, inr, append_assoc, append-nil}
use Rattle.std.specs.Prelude.{ℕ, zero, suc, ◌+◌, ◌==◌, ◌&&◌, ◌||◌, ◌↔◌, Bool, true, false, if◌then◌else◌, Option, Some, None, slice_get, Contains, drop, get_or}
use Rattle.std.specs.List.{slice_index_or}
use Rattle.std.specs.Str.{bytes_eq}
use Rattle.std.specs.Cmp.Lexicographic.{bytes_decides}
use Rattle.std.proofs.lemmas.Bool.Decides.{nat_tests}
use Rattle.std.proofs.lemmas.List.{map-append}
use Rattle.std.proofs.lemmas.List.Elements.{Contains-append_left, Contains-append_right, Contains-append_cases}
use Rattle.base_core.specs.Texts.{same_bytes}
use Rattle.values_core.specs.Data.{Val}
use Rattle.reading_trees.specs.declared.config.Config.{Config}
use Rattle.reading_trees.specs.declared.expr.Definition.{Definition}
use Rattle.reading_trees.specs.declared.form.DefinitionForm.{DefinitionForm}
use Rattle.reading_trees.specs.declared.form.DefinitionForm.TheVariants as forms
use Rattle.reading_trees.specs.declared.module.Program.{Program}
use Rattle.names_scopes.specs.declared.meant.Entry.{Entry}
use Rattle.names_scopes.specs.Applied.{applies}
use Rattle.names_scopes.specs.Mentions.{is_one_of, mentions}
use Rattle.names_scopes.specs.Scopes.{among, named}
use Rattle.names_scopes.proofs.LevelLoops.{cut_at, cut_end}
use Rattle.names_program.specs.InUnits.{definitions_in, recursive_in}
use Rattle.names_program.specs.Names.{AreNames, by_index, definition_meant}
use Rattle.names_program.specs.Recursion as recursion
use Rattle.names_program.specs.Recursion.{AppliesItself, IsDeclared, LeadsStrictly, UsesStrictly, operators_declared}
use Rattle.base_use_order.specs.Uses as order
use Rattle.base_use_order.specs.Uses.{IsWithin, Leads, Uses}
use Rattle.names_program.proofs.Values.{means_with_other_values}
use Rattle.names_uses.specs.StrictNames.{AreStrict, IsStrict, StrictlyBy, applies_itself, is_allowed, is_function, strictly_as, strictly_over}
use Rattle.names_uses.specs.UsedNames.{number_in}
use Rattle.names_uses.proofs.Meanings.{meant_within}
use Rattle.names_uses.proofs.UseLemmas.{MeantBy, meant_by, not_in_none, only_one, has_one, in_tail, in_head}

-- What a definition uses.

by_number : (ms : List Bool) (names : List Entry) (i : ℕ) (d : Definition) (n : List ℕ) (j k : ℕ) → number_in (among names n) ≡ Some k → (b a : Bool) → is_one_of n d.params ≡ b → is_allowed ms i d n k ≡ a → mentions n d.body ≡ true → Contains (if b then [] else (if a then [] else k ∷ [])) j → StrictlyBy ms names i d j
by_number ms names i d n j k e true a p q m h = absurd (not_in_none j h)
by_number ms names i d n j k e false true p q m h = absurd (not_in_none j h)
by_number ms names i d n j k e false false p q m h =
    let same : k ≡ j = only_one k j h in
    record { name = n; no_parameter = p; mentioned = m; number = e ∙ ap (λ (x : ℕ). Some x) same; not_allowed = subst (λ (x : ℕ). is_allowed ms i d n x ≡ false) same q }

by_name : (ms : List Bool) (names : List Entry) (i : ℕ) (d : Definition) (n : List ℕ) (j : ℕ) (o : Option ℕ) → number_in (among names n) ≡ o → mentions n d.body ≡ true → Contains (strictly_as ms i d n o) j → StrictlyBy ms names i d j
by_name ms names i d n j None e m h = absurd (not_in_none j h)
by_name ms names i d n j (Some k) e m h = by_number ms names i d n j k e (is_one_of n d.params) (is_allowed ms i d n k) refl refl m h

found_strict : (ms : List Bool) (names : List Entry) (i : ℕ) (d : Definition) (j : ℕ) (fs : List (List ℕ)) → ((n : List ℕ) → Contains fs n → mentions n d.body ≡ true) → Contains (strictly_over ms names i d fs) j → StrictlyBy ms names i d j
found_strict ms names i d j [] m h = absurd (not_in_none j h)
found_strict ms names i d j (f ∷ fs) m h =
    one (Contains-append_cases (strictly_as ms i d f (number_in (among names f))) (strictly_over ms names i d fs) j h) (found_strict ms names i d j fs (λ n k. m n (in_tail f n fs k)))
  where
    one : Contains (strictly_as ms i d f (number_in (among names f))) j ⊎ Contains (strictly_over ms names i d fs) j → (Contains (strictly_over ms names i d fs) j → StrictlyBy ms names i d j) → StrictlyBy ms names i d j
    one (inl a) rest = by_name ms names i d f j (number_in (among names f)) refl (m f (in_head f fs)) a
    one (inr b) rest = rest b

strict_here : (ms : List Bool) (i : ℕ) (d : Definition) (u : List ℕ) (j : ℕ) (o : Option ℕ) → is_one_of u d.params ≡ false → is_allowed ms i d u j ≡ false → o ≡ Some j → Contains (strictly_as ms i d u o) j
strict_here ms i d u j o p q e =
    subst (λ (x : Option ℕ). Contains (strictly_as ms i d u x) j) (sym e)
    (subst (λ (b : Bool). Contains (if b then [] else (if is_allowed ms i d u j then [] else j ∷ [])) j) (sym p) (subst (λ (a : Bool). Contains (if a then [] else j ∷ []) j) (sym q) (has_one j)))

strict_found : (ms : List Bool) (names : List Entry) (i : ℕ) (d : Definition) (j : ℕ) (s : StrictlyBy ms names i d j) (fs : List (List ℕ)) → Contains fs s.name → Contains (strictly_over ms names i d fs) j
strict_found ms names i d j s [] h = absurd (not_in_none s.name h)
strict_found ms names i d j s (f ∷ fs) (zero, h, q) =
    Contains-append_left (strictly_as ms i d f (number_in (among names f))) (strictly_over ms names i d fs) j
    (subst (λ (n : List ℕ). Contains (strictly_as ms i d n (number_in (among names n))) j) (sym q) (strict_here ms i d s.name j (number_in (among names s.name)) s.no_parameter s.not_allowed s.number))
strict_found ms names i d j s (f ∷ fs) (suc k, h, q) =
    let less : k < length fs = omega (arith, h) in
    Contains-append_right (strictly_as ms i d f (number_in (among names f))) (strictly_over ms names i d fs) j (strict_found ms names i d j s fs (k, less, q))

pub is_strict : (ms : List Bool) (names : List Entry) (i : ℕ) (d : Definition) (fs : List (List ℕ)) (js : List ℕ) → ((n : List ℕ) → Contains fs n ↔ (mentions n d.body ≡ true)) → js ≡ strictly_over ms names i d fs → IsStrict ms names i d js
is_strict ms names i d fs js free e j =
    (λ h. found_strict ms names i d j fs (λ n. (free n).0) (subst (λ (l : List ℕ). Contains l j) e h), λ s. subst (λ (l : List ℕ). Contains l j) (sym e) (strict_found ms names i d j s fs ((free s.name).1 s.mentioned)))

-- one more name
pub strict_on : (ms : List Bool) (names : List Entry) (j : ℕ) (d : Definition) (old new target : List ℕ) (items : List (List ℕ)) (i : ℕ) (x : List ℕ) → i < length items → x ≡ get_or items i x → new ≡ old ++ strictly_as ms j d x (number_in (among names x)) → old ++ strictly_over ms names j d (drop i items) ≡ target → new ++ strictly_over ms names j d (drop (i + 1) items) ≡ target
strict_on ms names j d old new target items i x lt e n t =
    ap (λ l. l ++ strictly_over ms names j d (drop (i + 1) items)) n ∙ append_assoc old (strictly_as ms j d x (number_in (among names x))) (strictly_over ms names j d (drop (i + 1) items)) ∙ ap (λ l. old ++ l) (sym (ap (strictly_over ms names j d) (cut_at items i x lt e))) ∙ t

pub strict_end : (ms : List Bool) (names : List Entry) (j : ℕ) (d : Definition) (old target : List ℕ) (items : List (List ℕ)) (i : ℕ) → length items ≤ i → old ++ strictly_over ms names j d (drop i items) ≡ target → old ≡ target
strict_end ms names j d old target items i le t = sym (append-nil old) ∙ ap (λ l. old ++ strictly_over ms names j d l) (sym (cut_end items i le)) ∙ t

-- What each definition uses.

pub each_strict_on : {A B : Type 0} (f : A → Definition) (g : B → List ℕ) (ms : List Bool) (names : List Entry) (items : List A) (i : ℕ) (x : A) (old new : List B) (v : B) → i < length items → x ≡ get_or items i x → new ≡ old ++ v ∷ [] → IsStrict ms names i (f x) (g v) → ((rest : List (List ℕ)) → AreStrict ms names i (map f (drop i items)) rest → AreStrict ms names 0 (map f items) (map g old ++ rest)) → (rest : List (List ℕ)) → AreStrict ms names (i + 1) (map f (drop (i + 1) items)) rest → AreStrict ms names 0 (map f items) (map g new ++ rest)
each_strict_on f g ms names items i x old new v lt e n u h rest r =
    let next : i + 1 ≡ suc i = omega arith in
    let whole : map g old ++ (g v ∷ rest) ≡ map g new ++ rest = sym (ap (λ l. l ++ rest) (ap (map g) n ∙ map-append g old (v ∷ [])) ∙ append_assoc (map g old) (g v ∷ []) rest) in
    subst (λ (l : List (List ℕ)). AreStrict ms names 0 (map f items) l) whole
    (h (g v ∷ rest) (subst (λ l. AreStrict ms names i (map f l) (g v ∷ rest)) (sym (cut_at items i x lt e)) (u, subst (λ (k : ℕ). AreStrict ms names k (map f (drop (i + 1) items)) rest) next r)))

pub each_strict_end : {A : Type 0} (f : A → Definition) (ms : List Bool) (names : List Entry) (items : List A) (i : ℕ) (uses : List (List ℕ)) → length items ≤ i → ((rest : List (List ℕ)) → AreStrict ms names i (map f (drop i items)) rest → AreStrict ms names 0 (map f items) (uses ++ rest)) → AreStrict ms names 0 (map f items) uses
each_strict_end f ms names items i uses le h =
    subst (λ (l : List (List ℕ)). AreStrict ms names 0 (map f items) l) (append-nil uses) (h [] (subst (λ l. AreStrict ms names i (map f l) []) (sym (cut_end items i le)) tt))

record StrictAt (ms : List Bool) (names : List Entry) (ds : List Definition) (i k j : ℕ) : Type 0 where
  pub definition : Definition
  pub stands : slice_get ds i ≡ Some definition
  pub used : StrictlyBy ms names k definition j

strict_at : (ms : List Bool) (names : List Entry) (from : ℕ) (ds : List Definition) (uses : List (List ℕ)) → AreStrict ms names from ds uses → (i j k : ℕ) → k ≡ from + i → Uses uses i j → StrictAt ms names ds i k j
strict_at ms names from [] [] h zero j k q u = absurd (not_in_none j u)
strict_at ms names from [] [] h (suc i) j k q u = absurd (not_in_none j u)
strict_at ms names from [] (js ∷ uses) h i j k q u = absurd h
strict_at ms names from (d ∷ ds) [] h i j k q u = absurd h
strict_at ms names from (d ∷ ds) (js ∷ uses) h zero j k q u =
    let here : from ≡ k = omega (arith, q) in
    record { definition = d; stands = refl; used = subst (λ (n : ℕ). StrictlyBy ms names n d j) here ((h.0 j).0 u) }
strict_at ms names from (d ∷ ds) (js ∷ uses) h (suc i) j k q u =
    let next : k ≡ suc from + i = omega (arith, q) in
    let r : StrictAt ms names ds i k j = strict_at ms names (suc from) ds uses h.1 i j k next u in
    record { definition = r.definition; stands = r.stands; used = r.used }

at_strict : (ms : List Bool) (names : List Entry) (from : ℕ) (ds : List Definition) (uses : List (List ℕ)) → AreStrict ms names from ds uses → (i j k : ℕ) (d : Definition) → k ≡ from + i → slice_get ds i ≡ Some d → StrictlyBy ms names k d j → Uses uses i j
at_strict ms names from [] [] h zero j k d q e s = absurd (cc)
at_strict ms names from [] [] h (suc i) j k d q e s = absurd (cc)
at_strict ms names from [] (js ∷ uses) h i j k d q e s = absurd h
at_strict ms names from (x ∷ ds) [] h i j k d q e s = absurd h
at_strict ms names from (x ∷ ds) (js ∷ uses) h zero j k d q e s =
    let same : x ≡ d = cc in
    let here : k ≡ from = omega (arith, q) in
    (h.0 j).1 (subst (λ (n : ℕ). StrictlyBy ms names n x j) here (subst (λ (y : Definition). StrictlyBy ms names k y j) (sym same) s))
at_strict ms names from (x ∷ ds) (js ∷ uses) h (suc i) j k d q e s =
    let next : k ≡ suc from + i = omega (arith, q) in
    at_strict ms names (suc from) ds uses h.1 i j k d next e s

pub as_many_strict : (ms : List Bool) (names : List Entry) (from : ℕ) (ds : List Definition) (uses : List (List ℕ)) → AreStrict ms names from ds uses → length uses ≡ length ds
as_many_strict ms names from [] [] h = refl
as_many_strict ms names from [] (js ∷ uses) h = absurd h
as_many_strict ms names from (d ∷ ds) [] h = absurd h
as_many_strict ms names from (d ∷ ds) (js ∷ uses) h = ap suc (as_many_strict ms names (suc from) ds uses h.1)

-- What is allowed.

left_false : (a b : Bool) → (a || b) ≡ false → a ≡ false
left_false true b q = absurd (cc)
left_false false b q = refl

right_false : (a b : Bool) → (a || b) ≡ false → b ≡ false
right_false true b q = absurd (cc)
right_false false b q = q

neither : (a b : Bool) → (a ≡ true → ⊥) → (b ≡ true → ⊥) → (a || b) ≡ false
neither true b p q = absurd (p refl)
neither false true p q = absurd (q refl)
neither false false p q = refl

left_true : (a b : Bool) → (a && b) ≡ true → a ≡ true
left_true true b q = refl
left_true false b q = absurd (cc)

right_true : (a b : Bool) → (a && b) ≡ true → b ≡ true
right_true true b q = q
right_true false b q = absurd (cc)

both_true : (a b : Bool) → a ≡ true → b ≡ true → (a && b) ≡ true
both_true true b p q = q
both_true false b p q = absurd (cc)

no_both : (b : Bool) → b ≡ true → b ≡ false → ⊥
no_both true p q = cc
no_both false p q = cc

same_index : (i j : ℕ) → i ≡ j → (i == j) ≡ true
same_index i j q = grind (arith, nat_tests)

index_same : (i j : ℕ) → (i == j) ≡ true → i ≡ j
index_same i j q = grind (arith, nat_tests)

form_function : (f : DefinitionForm) → is_function f ≡ true → f ≡ forms.Function
form_function forms.Operator q = absurd (cc)
form_function forms.Constant q = absurd (cc)
form_function forms.Function q = refl

application : (d : Definition) (n : List ℕ) → AppliesItself d n → applies_itself d n ≡ true
application d n a =
    both_true (is_function d.form && bytes_eq n d.name) (applies n d.body) (both_true (is_function d.form) (bytes_eq n d.name) (ap is_function a.0) ((bytes_decides n d.name).1 a.1)) a.2

is_application : (d : Definition) (n : List ℕ) → applies_itself d n ≡ true → AppliesItself d n
is_application d n q =
    let front : (is_function d.form && bytes_eq n d.name) ≡ true = left_true (is_function d.form && bytes_eq n d.name) (applies n d.body) q in
    (form_function d.form (left_true (is_function d.form) (bytes_eq n d.name) front), same_bytes n d.name (right_true (is_function d.form) (bytes_eq n d.name) front), right_true (is_function d.form && bytes_eq n d.name) (applies n d.body) q)

mark_there : (f : Definition → Bool) (ds : List Definition) (j : ℕ) (d : Definition) → slice_get ds j ≡ Some d → slice_index_or (map f ds) j false ≡ f d
mark_there f [] zero d e = absurd (cc)
mark_there f [] (suc j) d e = absurd (cc)
mark_there f (x ∷ ds) zero d e = let same : x ≡ d = cc in ap f same
mark_there f (x ∷ ds) (suc j) d e = mark_there f ds j d e

there_marked : (f : Definition → Bool) (ds : List Definition) (j : ℕ) → slice_index_or (map f ds) j false ≡ true → (d : Definition) × (slice_get ds j ≡ Some d) × (f d ≡ true)
there_marked f [] zero q = absurd (cc)
there_marked f [] (suc j) q = absurd (cc)
there_marked f (x ∷ ds) zero q = (x, refl, q)
there_marked f (x ∷ ds) (suc j) q = there_marked f ds j q

-- In a program.

abbrev pub declares : Program → Definition → Bool
declares p d = is_one_of d.name (operators_declared (recursive_in p.units))

-- as the code has them
pub marks_are : {A : Type 0} (p : Program) (f : A → Definition) (xs : List A) (ds : List Definition) (ms : List Bool) → map f xs ≡ ds → ms ≡ map (λ x. declares p (f x)) xs → ms ≡ map (declares p) ds
marks_are {A = A} p f xs ds ms e q = q ∙ each xs ∙ ap (map (declares p)) e
  where
    each : (ys : List A) → map (λ x. declares p (f x)) ys ≡ map (declares p) (map f ys)
    each [] = refl
    each (y ∷ ys) = ap (λ (l : List Bool). declares p (f y) ∷ l) (each ys)

module _ (p : Program) (c : Config) (values : List Val) (names : List Entry) (are : AreNames p c values by_index names) (ms : List Bool) (marks : ms ≡ map (declares p) (definitions_in p.units)) (uses : List (List ℕ)) (used : AreStrict ms names 0 (definitions_in p.units) uses) where
  not_declared : (j : ℕ) → slice_index_or ms j false ≡ false → IsDeclared p j → ⊥
  not_declared j q d = no_both (declares p d.0) d.2 (sym (mark_there (declares p) (definitions_in p.units) j d.0 d.1) ∙ sym (ap (λ (l : List Bool). slice_index_or l j false) marks) ∙ q)

  is_declared : (j : ℕ) → slice_index_or ms j false ≡ true → IsDeclared p j
  is_declared j q =
      let d : (d : Definition) × (slice_get (definitions_in p.units) j ≡ Some d) × (declares p d ≡ true) = there_marked (declares p) (definitions_in p.units) j (sym (ap (λ (l : List Bool). slice_index_or l j false) marks) ∙ q) in
      (d.0, d.1, d.2)

  uses_strictly : (i j : ℕ) → Uses uses i j → UsesStrictly p c i j
  uses_strictly i j h =
      let at : i ≡ 0 + i = omega arith in
      let f : StrictAt ms names (definitions_in p.units) i i j = strict_at ms names 0 (definitions_in p.units) uses used i j i at h in
      let m : MeantBy (among names f.used.name) j = meant_by (among names f.used.name) j f.used.number in
      let own : Bool = (i == j) && applies_itself f.definition f.used.name in
      record {
        used = record {
          definition = f.definition;
          stands = f.stands;
          name = f.used.name;
          no_parameter = f.used.no_parameter;
          mentioned = f.used.mentioned;
          means = (m.needed, means_with_other_values p c values [] f.used.name m.needed j (sym (are f.used.name) ∙ m.is));
        };
        undeclared = not_declared j (left_false (slice_index_or ms j false) own f.used.not_allowed);
        no_application = λ a. no_both own (both_true (i == j) (applies_itself f.definition f.used.name) (same_index i j a.0) (application f.definition f.used.name a.1)) (right_false (slice_index_or ms j false) own f.used.not_allowed);
      }

  strictly_used : (i j : ℕ) → UsesStrictly p c i j → Uses uses i j
  strictly_used i j s =
      let at : i ≡ 0 + i = omega arith in
      let w : among names s.used.name ≡ Some (named s.used.means.0 (definition_meant j)) = are s.used.name ∙ means_with_other_values p c [] values s.used.name s.used.means.0 j s.used.means.1 in
      let own : Bool = (i == j) && applies_itself s.used.definition s.used.name in
      at_strict ms names 0 (definitions_in p.units) uses used i j i s.used.definition at s.used.stands
      (record {
        name = s.used.name;
        no_parameter = s.used.no_parameter;
        mentioned = s.used.mentioned;
        number = ap number_in w;
        not_allowed = neither (slice_index_or ms j false) own (λ q. s.undeclared (is_declared j q))
            (λ q. s.no_application (index_same i j (left_true (i == j) (applies_itself s.used.definition s.used.name) q), is_application s.used.definition s.used.name (right_true (i == j) (applies_itself s.used.definition s.used.name) q)));
      })

  pub strict_exact : (i j : ℕ) → Uses uses i j ↔ UsesStrictly p c i j
  strict_exact i j = (uses_strictly i j, strictly_used i j)

  pub strict_within : IsWithin uses
  strict_within i j h =
      let u : UsesStrictly p c i j = uses_strictly i j h in
      let less : j < length (definitions_in p.units) = meant_within p c [] u.used.name (named u.used.means.0 (definition_meant j)) u.used.means.1 in
      let many : length uses ≡ length (definitions_in p.units) = as_many_strict ms names 0 (definitions_in p.units) uses used in
      omega (arith, less, many)

-- uses that lead from one definition to another
module _ (p : Program) (c : Config) (uses : List (List ℕ)) (exact : (i j : ℕ) → Uses uses i j ↔ UsesStrictly p c i j) where
  leads_to : (i j : ℕ) → Leads uses i j → LeadsStrictly p c i j
  leads_to _ _ (order.direct i j u) = recursion.at_once i j ((exact i j).0 u)
  leads_to _ _ (order.through i j k u rest) = recursion.through i j k ((exact i j).0 u) (leads_to j k rest)

  led_to : (i j : ℕ) → LeadsStrictly p c i j → Leads uses i j
  led_to _ _ (recursion.at_once i j u) = order.direct i j ((exact i j).1 u)
  led_to _ _ (recursion.through i j k u rest) = order.through i j k ((exact i j).1 u) (led_to j k rest)

  pub strict_leads : (i j : ℕ) → Leads uses i j ↔ LeadsStrictly p c i j
  strict_leads i j = (leads_to i j, led_to i j)
