-- What loops find, item by item.
use Rattle.std.proofs.Common.{◌≡◌, ◌∙◌, ◌⊎◌, ◌↔◌, inl, inr, ℕ, zero, suc, ◌+◌, ◌<◌, ◌≤◌, List, [], ◌∷◌, ◌++◌, length, take, map, get_or, refl, ap, sym, subst, append_assoc, arith}
use Rattle.std.specs.Prelude.{Bool, true, false, Contains, Option, None, Some, option_map, slice_get, IsTrue, All, if◌then◌else◌, drop, IfOk, Result, Ok, Err, Vec}
use Rattle.std.specs.declared.alloc.Global.{Global}
use Rattle.std.specs.List.{list_any}
use Rattle.std.specs.Option.{option_to_list}
use Rattle.std.proofs.lemmas.List.{append-nil, take_all, take_more}
use Rattle.std.proofs.lemmas.List.Elements.{All-push, All-weaker, Contains-append_left, Contains-push, Contains-push_cases}
use Rattle.std.proofs.lemmas.List.Folds.{Any-from_list_any, list_any-from_Any}
use Rattle.std.proofs.lemmas.Option.{slice_get-map, slice_get_within, slice_get_read}
use Rattle.std.specs.Str.{bytes_eq}
use Rattle.reading_trees.specs.declared.expr.Definition.{Definition}
use Rattle.reading_trees.specs.declared.config.Config.{Config}
use Rattle.reading_trees.specs.declared.module.DeclaredOperator.{DeclaredOperator}
use Rattle.reading_trees.specs.declared.module.Program.{Program}
use Rattle.reading_trees.specs.declared.module.Unit.{Unit as ModuleUnit}
use Rattle.reading_trees.specs.declared.module.Unit.TheVariants.{Variables, Constants, Recursive, Define, Instance, Assume, Passed}
use Rattle.reading_trees.specs.Trees.{Tree}
use Rattle.names_scopes.specs.declared.meant.Entry.{Entry}
use Rattle.names_scopes.specs.Mentions.{is_one_of, mentions}
use Rattle.names_program.proofs.Cuts.{cut_at, cut_end}
use Rattle.names_program.specs.Names.{index_among, names_defined}
use Rattle.base_use_order.specs.Reach.{IsReached}
use Rattle.names_pruning.specs.Parts.{AreGone, DeclaresBad, HasBadName, IsNamedAt, IsOver, Lacks, LacksAt, LosesName, is_bad_name, is_bad_operator, is_lost_in}
use Rattle.names_pruning.specs.Pruning.{NeedsBad, behind}

-- ---- one of the free names of a tree

abbrev AreFree : Tree → List (List ℕ) → Type 0
AreFree e free = (n : List ℕ) → Contains free n ↔ (mentions n e ≡ true)

pub loses_by : (names : List Entry) (unread params : List (List ℕ)) (e : Tree) (free : List (List ℕ)) (b : Bool) → AreFree e free → b ≡ list_any (is_lost_in names unread params) free
    → IsTrue b ↔ LosesName names unread params e
loses_by names unread params e free b are is = (
  λ t.
      let found = Any-from_list_any (is_lost_in names unread params) free (sym is ∙ t) in
      record { name = found.1; mentioned = (are found.1).0 (found.0, found.2, found.3); lost = found.4 },
  λ h. let at = (are h.name).1 h.mentioned in is ∙ list_any-from_Any (is_lost_in names unread params) free (at.0, h.name, at.1, at.2, h.lost),
)

pub has_bad_by : (names : List Entry) (unread : List (List ℕ)) (bad : List Bool) (e : Tree) (free : List (List ℕ)) (b : Bool) → AreFree e free → b ≡ list_any (is_bad_name names unread bad) free
    → IsTrue b ↔ HasBadName names unread bad e
has_bad_by names unread bad e free b are is = (
  λ t.
      let found = Any-from_list_any (is_bad_name names unread bad) free (sym is ∙ t) in
      record { name = found.1; mentioned = (are found.1).0 (found.0, found.2, found.3); is_bad = found.4 },
  λ h. let at = (are h.name).1 h.mentioned in is ∙ list_any-from_Any (is_bad_name names unread bad) free (at.0, h.name, at.1, at.2, h.is_bad),
)

-- ---- the definitions that lack something, of the first ones

below_more : (i : ℕ) (xs : List ℕ) → All (λ k. k < i) xs → All (λ k. k < i + 1) xs
below_more i xs h = All-weaker (λ k. k < i) (λ k. k < i + 1) (λ k l. let less : k < i + 1 = omega (arith, l) in less) xs h

pub same_or_less : (k i : ℕ) → k < i + 1 → (k ≡ i) ⊎ (k < i)
same_or_less zero zero l = inl refl
same_or_less zero (suc i) l = let less : 0 < suc i = omega arith in inr less
same_or_less (suc k) zero l = absurd (omega (arith, l))
same_or_less (suc k) (suc i) l = let less : k < i + 1 = omega (arith, l) in elim (same_or_less k i less) [
  | inl e ↦ inl (ap suc e)
  | inr m ↦ let more : suc k < suc i = omega (arith, m) in inr more
]

module _ (names : List Entry) (unread : List (List ℕ)) (ds : List Definition) where
  pub record LackingSoFar (i : ℕ) (found : List ℕ) : Type 0 where
    pub within : All (λ k. k < i) found
    pub exact : (k : ℕ) → Contains found k ↔ ((k < i) × LacksAt names unread ds k)

  pub one_lacking : (i : ℕ) (d : Definition) (old new : List ℕ) → slice_get ds i ≡ Some d → Lacks names unread d → new ≡ old ++ i ∷ [] → LackingSoFar i old → LackingSoFar (i + 1) new
  one_lacking i d old new e lacks n h =
      let here : i < i + 1 = omega arith in
      subst (λ xs. LackingSoFar (i + 1) xs) (sym n) (record {
        within = All-push (λ k. k < i + 1) old i (below_more i old h.within) here;
        exact = λ k. (
          λ c. elim (Contains-push_cases old i k c) [
            | inl o ↦ let s = (h.exact k).0 o in let less : k < i + 1 = omega (arith, s.0) in (less, s.1)
            | inr q ↦ subst (λ j. (j < i + 1) × LacksAt names unread ds j) q (here, record { definition = d; stands = e; lacks = lacks })
          ],
          λ s. elim (same_or_less k i s.0) [
            | inl q ↦ subst (λ j. Contains (old ++ i ∷ []) j) (sym q) (Contains-push old i)
            | inr l ↦ Contains-append_left old (i ∷ []) k ((h.exact k).1 (l, s.1))
          ],
        );
      })

  pub none_lacking : (i : ℕ) (d : Definition) (found : List ℕ) → slice_get ds i ≡ Some d → (Lacks names unread d → ⊥) → LackingSoFar i found → LackingSoFar (i + 1) found
  none_lacking i d found e fine h = record {
    within = below_more i found h.within;
    exact = λ k. (
      λ c. (let s = (h.exact k).0 c in let less : k < i + 1 = omega (arith, s.0) in (less, s.1)),
      λ s. elim (same_or_less k i s.0) [
        | inl q ↦ absurd (
            let at : slice_get ds i ≡ Some s.1.definition = subst (λ j. slice_get ds j ≡ Some s.1.definition) q s.1.stands in
            let same : s.1.definition ≡ d = cc in
            fine (subst (λ x. Lacks names unread x) same s.1.lacks))
        | inr l ↦ (h.exact k).1 (l, s.1)
      ],
    );
  }

  pub no_lacking : LackingSoFar 0 []
  no_lacking = record {
    within = λ k d l. absurd (omega (arith, l));
    exact = λ k. (λ c. absurd (omega (arith, c.1)), λ s. absurd (omega (arith, s.0)));
  }

  pub all_lacking : (i : ℕ) (found : List ℕ) → length ds ≤ i → LackingSoFar i found → (k : ℕ) → Contains found k ↔ LacksAt names unread ds k
  all_lacking i found le h k = (
    λ c. ((h.exact k).0 c).1,
    λ s. (h.exact k).1 (let inside = slice_get_within ds k s.definition s.stands in let less : k < i = omega (arith, inside, le) in less, s),
  )

-- the definition at an index of what is lent
pub lent_at : {A : Type 0} (f : A → Definition) (xs : List A) (i : ℕ) (x : A) → i < length xs → x ≡ get_or xs i x → slice_get (map f xs) i ≡ Some (f x)
lent_at f xs i x l e = slice_get-map f xs i ∙ ap (option_map f) (slice_get_read xs (length xs) i x refl l e)

-- ---- the definitions that have these names

index_step : (ns : List (List ℕ)) (b : Bool) (o : Option ℕ) (i : ℕ) → ((j : ℕ) → o ≡ Some j → j < length ns) → (if b then Some 0 else option_map suc o) ≡ Some i → i < suc (length ns)
index_step ns true o i h e = let zero_is : 0 ≡ i = cc in omega (arith, zero_is)
index_step ns false None i h e = absurd (cc)
index_step ns false (Some j) i h e = let next : suc j ≡ i = cc in omega (arith, next, h j refl)

index_within : (ns : List (List ℕ)) (n : List ℕ) (i : ℕ) → index_among ns n ≡ Some i → i < length ns
index_within [] n i e = absurd (cc)
index_within (m ∷ ns) n i e = index_step ns (bytes_eq m n) (index_among ns n) i (λ j q. index_within ns n j q) e

as_many_names : (ds : List Definition) → length (names_defined ds) ≡ length ds
as_many_names [] = refl
as_many_names (d ∷ ds) = ap suc (as_many_names ds)

module _ (ds : List Definition) (roots : List (List ℕ)) where
  pub record RootsSoFar (r : ℕ) (found : List ℕ) : Type 0 where
    pub within : All (λ k. k < length ds) found
    pub exact : (k : ℕ) → Contains found k ↔ IsNamedAt ds (take r roots) k

  module _ (r : ℕ) (n : List ℕ) (small : r < length roots) (is : n ≡ get_or roots r n) where
    longer : take (r + 1) roots ≡ take r roots ++ n ∷ []
    longer = take_more roots r n small ∙ ap (λ m. take r roots ++ m ∷ []) (sym is)

    -- one more of the names
    named_before : (k : ℕ) → IsNamedAt ds (take r roots) k → IsNamedAt ds (take (r + 1) roots) k
    named_before k h = record { name = h.name; asked = subst (λ xs. Contains xs h.name) (sym longer) (Contains-append_left (take r roots) (n ∷ []) h.name h.asked); defines = h.defines }

    named_now : (k : ℕ) → IsNamedAt ds (take (r + 1) roots) k → (index_among (names_defined ds) n ≡ Some k) ⊎ IsNamedAt ds (take r roots) k
    named_now k h = elim (Contains-push_cases (take r roots) n h.name (subst (λ xs. Contains xs h.name) longer h.asked)) [
      | inl b ↦ inr (record { name = h.name; asked = b; defines = h.defines })
      | inr q ↦ inl (ap (index_among (names_defined ds)) q ∙ h.defines)
    ]

    one_root : (i : ℕ) (old new : List ℕ) → index_among (names_defined ds) n ≡ Some i → new ≡ old ++ i ∷ [] → RootsSoFar r old → RootsSoFar (r + 1) new
    one_root i old new e w h =
        let inside : i < length ds = omega (arith, index_within (names_defined ds) n i e, as_many_names ds) in
        subst (λ xs. RootsSoFar (r + 1) xs) (sym w) (record {
          within = All-push (λ k. k < length ds) old i h.within inside;
          exact = λ k. (
            λ c. elim (Contains-push_cases old i k c) [
              | inl o ↦ named_before k ((h.exact k).0 o)
              | inr q ↦ record { name = n; asked = subst (λ xs. Contains xs n) (sym longer) (Contains-push (take r roots) n); defines = e ∙ ap Some q }
            ],
            λ s. elim (named_now k s) [
              | inl q ↦ (let same : i ≡ k = cc in subst (λ j. Contains (old ++ i ∷ []) j) same (Contains-push old i))
              | inr b ↦ Contains-append_left old (i ∷ []) k ((h.exact k).1 b)
            ],
          );
        })

    no_root : (found : List ℕ) → index_among (names_defined ds) n ≡ None → RootsSoFar r found → RootsSoFar (r + 1) found
    no_root found e h = record {
      within = h.within;
      exact = λ k. (
        λ c. named_before k ((h.exact k).0 c),
        λ s. elim (named_now k s) [ inl q ↦ absurd (cc) | inr b ↦ (h.exact k).1 b ],
      );
    }

    pub root_on : (o : Option ℕ) (old new : List ℕ) → index_among (names_defined ds) n ≡ o → new ≡ old ++ option_to_list o → RootsSoFar r old → RootsSoFar (r + 1) new
    root_on None old new e w h = subst (λ xs. RootsSoFar (r + 1) xs) (sym (w ∙ append-nil old)) (no_root old e h)
    root_on (Some i) old new e w h = one_root i old new e w h

  pub no_roots : RootsSoFar 0 []
  no_roots = record {
    within = λ k d l. absurd (omega (arith, l));
    exact = λ k. (λ c. absurd (omega (arith, c.1)), λ s. absurd (omega (arith, s.asked.1)));
  }

  pub all_roots : (r : ℕ) (found : List ℕ) → length roots ≤ r → RootsSoFar r found → (k : ℕ) → Contains found k ↔ IsNamedAt ds roots k
  all_roots r found le h k = subst (λ xs. Contains found k ↔ IsNamedAt ds xs k) (take_all r roots le) (h.exact k)

pub true_or_false : (b : Bool) → b ≡ true → b ≡ false → ⊥
true_or_false b t f = let e : true ≡ false = sym t ∙ f in absurd (cc)

-- ---- what is true of both at an index

pub one_both : (needed bad : List Bool) (i : ℕ) → IsReached needed i → IsReached bad i → (j : ℕ) × IsReached needed j × IsReached bad j
one_both needed bad i a b = (i, a, b)

abbrev pub NoneBoth : List Bool → List Bool → ℕ → Type 0
NoneBoth needed bad i = (k : ℕ) → k < i → IsReached needed k → IsReached bad k → ⊥

pub none_both : (needed bad : List Bool) (i : ℕ) → (IsReached needed i → IsReached bad i → ⊥) → NoneBoth needed bad i → NoneBoth needed bad (i + 1)
none_both needed bad i here before k l a b = elim (same_or_less k i l) [
  | inl q ↦ here (subst (λ j. IsReached needed j) q a) (subst (λ j. IsReached bad j) q b)
  | inr m ↦ before k m a b
]

-- ---- for each unit whether it goes

pub behind_next : (i : ℕ) (u : ModuleUnit) → behind i u ≤ i + 1
behind_next i (Variables ds) = omega arith
behind_next i (Constants ds) = omega arith
behind_next i (Define d) = omega arith
behind_next i (Assume e) = omega arith
behind_next i (Recursive rs) = omega arith
behind_next i (Instance m) = omega arith
behind_next i Passed = omega arith

pub one_flag : (Goes : ℕ → ModuleUnit → Type 0) (items : List ModuleUnit) (k i j : ℕ) (u : ModuleUnit) (old new : List Bool) (b : Bool) → k < length items → u ≡ get_or items k u
    → new ≡ old ++ b ∷ [] → (IsTrue b ↔ Goes i u) → j ≡ behind i u → ((rest : List Bool) → AreGone Goes i (drop k items) rest → AreGone Goes 0 items (old ++ rest))
    → (rest : List Bool) → AreGone Goes j (drop (k + 1) items) rest → AreGone Goes 0 items (new ++ rest)
one_flag Goes items k i j u old new b small is n exact e h rest r =
    let behind_it : AreGone Goes (behind i u) (drop (k + 1) items) rest = subst (λ (m : ℕ). AreGone Goes m (drop (k + 1) items) rest) e r in
    let here : AreGone Goes i (drop k items) (b ∷ rest) = subst (λ us. AreGone Goes i us (b ∷ rest)) (sym (cut_at items k u small is)) (exact, behind_it) in
    subst (λ xs. AreGone Goes 0 items xs) (sym (ap (λ xs. xs ++ rest) n ∙ append_assoc old (b ∷ []) rest)) (h (b ∷ rest) here)

pub all_flags : (Goes : ℕ → ModuleUnit → Type 0) (items units : List ModuleUnit) (k i : ℕ) (flags : List Bool) → length items ≤ k → items ≡ units
    → ((rest : List Bool) → AreGone Goes i (drop k items) rest → AreGone Goes 0 items (flags ++ rest)) → AreGone Goes 0 units flags
all_flags Goes items units k i flags le e h =
    subst (λ us. AreGone Goes 0 us flags) e
    (subst (λ xs. AreGone Goes 0 items xs) (append-nil flags) (h [] (subst (λ us. AreGone Goes i us []) (sym (cut_end items k le)) tt)))

-- ---- what is found of definitions

pub if_reached : {E : Type 0} (P Q : ℕ → Type 0) (r : Result (Vec Bool Global) E) → ((i : ℕ) → P i ↔ Q i) → IfOk r (λ v. (i : ℕ) → IsReached v.items i ↔ P i)
    → IfOk r (λ v. (i : ℕ) → IsReached v.items i ↔ Q i)
if_reached P Q (Ok v) same h = λ i. (λ x. (same i).0 ((h i).0 x), λ x. (h i).1 ((same i).1 x))
if_reached P Q (Err e) same h = tt

pub some_unread_needs : (p : Program) (c : Config) (unread roots : List (List ℕ)) (b : Bool) → b ≡ list_any (λ n. is_one_of n unread) roots → b ≡ true → NeedsBad p c unread roots
some_unread_needs p c unread roots b e t =
    let found = Any-from_list_any (λ n. is_one_of n unread) roots (sym e ∙ t) in
    inl (found.1, (found.0, found.2, found.3), found.4)

-- an assumption is passed over as its text says
pub assumed_over : {E : Type 0} (names : List Entry) (unread : List (List ℕ)) (bad : List Bool) (i : ℕ) (u : ModuleUnit) (e : Tree) (r : Result Bool E) → u ≡ Assume e
    → IfOk r (λ b. IsTrue b ↔ HasBadName names unread bad e) → IfOk r (λ b. IsTrue b ↔ IsOver names unread bad i u)
assumed_over names unread bad i u e r is h = subst (λ v. IfOk r (λ b. IsTrue b ↔ IsOver names unread bad i v)) (sym is) h

-- and a declaration as the names behind it say
declares_by : (names : List Entry) (unread : List (List ℕ)) (bad : List Bool) (rs : List DeclaredOperator) (b : Bool) → b ≡ list_any (is_bad_operator names unread bad) rs
    → IsTrue b ↔ DeclaresBad names unread bad rs
declares_by names unread bad rs b is = (
  λ t.
      let found = Any-from_list_any (is_bad_operator names unread bad) rs (sym is ∙ t) in
      record { operator = found.1; declared = (found.0, found.2, found.3); is_bad = found.4 },
  λ h. is ∙ list_any-from_Any (is_bad_operator names unread bad) rs (h.declared.0, h.operator, h.declared.1, h.declared.2, h.is_bad),
)

pub declared_over : (names : List Entry) (unread : List (List ℕ)) (bad : List Bool) (i : ℕ) (u : ModuleUnit) (rs : List DeclaredOperator) (b : Bool) → u ≡ Recursive rs
    → b ≡ list_any (is_bad_operator names unread bad) rs → IsTrue b ↔ IsOver names unread bad i u
declared_over names unread bad i u rs b is e = subst (λ v. IsTrue b ↔ IsOver names unread bad i v) (sym is) (declares_by names unread bad rs b e)

pub if_ok_so : {A E : Type 0} (P Q : A → Type 0) (r : Result A E) → ((a : A) → P a → Q a) → IfOk r P → IfOk r Q
if_ok_so P Q (Ok a) so h = so a h
if_ok_so P Q (Err e) so h = tt
