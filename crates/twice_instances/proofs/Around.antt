-- The names that are bound around a tree, as the instance's maker counts them and as the scope has them. What the maker counts as bound is bound there, or the
-- tree does not use it; what is bound there it counts, but for `@`; and no name of an instance is bound.
use Rattle.std.proofs.Common.{◌≡◌, ◌∙◌, sym, ap, ap₂, refl, subst, arith, List, [], ◌∷◌, ◌++◌, inl, inr}
use Rattle.std.specs.Prelude.{◌≢◌, ◌⊎◌, ◌||◌, ◌&&◌, ℕ, Bool, true, false, not, length, suc, if◌then◌else◌}
use Rattle.std.specs.Str.{bytes_eq}
use Rattle.std.specs.Cmp.Lexicographic.{bytes_decides}
use Rattle.std.proofs.Math.Bool.{or-false}
use Rattle.std.proofs.lemmas.List.Folds.{list_any-append}
use Rattle.base_core.specs.Texts.{same_bytes}
use Rattle.reading_trees.specs.Grammar.{qualified}
use Rattle.reading_trees.specs.Trees as tree
use Rattle.reading_trees.specs.Trees.{Tree}
use Rattle.reading_trees.specs.declared.form.DefinitionForm.{DefinitionForm}
use Rattle.reading_trees.specs.declared.form.DefinitionForm.TheVariants as forms
use Rattle.names_terms.specs.declared.ids.DefId.{DefId}
use Rattle.names_terms.specs.declared.operator.Own.{Own}
use Rattle.names_terms.specs.declared.operator.Own.TheVariants as owns
use Rattle.names_scopes.specs.declared.scope.Local.{Local}
use Rattle.names_scopes.specs.declared.scope.Local.TheVariants.{Bound, Defined}
use Rattle.names_scopes.specs.Mentions.{binds, defines, is_one_of, mentions}
use Rattle.names_scopes.specs.Scopes.{at_sign, bind, bind_bounds}
use Rattle.names_meanings.specs.Means.{with_own}
use Rattle.names_meanings.specs.Owning.{own_of}
use Rattle.names_instances.specs.Made.{StandIns, bound_by, defined_by, made_bounds}
use Rattle.twice_instances.specs.Trees.{ArePlain, BoundsFit, DefinitionsFit, IsPlain, uses_own_name}

-- Bool

pub no_clash : true ≡ false → ⊥
no_clash e = cc

pub left_false : (a b : Bool) → (a || b) ≡ false → a ≡ false
left_false true b e = absurd (no_clash e)
left_false false b e = refl

pub right_false : (a b : Bool) → (a || b) ≡ false → b ≡ false
right_false true b e = absurd (no_clash e)
right_false false b e = e

pub both_false : (a b : Bool) → a ≡ false → b ≡ false → (a || b) ≡ false
both_false true b e f = absurd (no_clash e)
both_false false b e f = f

pub left_true : (a b : Bool) → a ≡ true → (a || b) ≡ true
left_true true b e = refl
left_true false b e = absurd (no_clash (sym e))

pub right_true : (a b : Bool) → b ≡ true → (a || b) ≡ true
right_true true b e = refl
right_true false b e = e

unhidden : (a b : Bool) → a ≡ false → (not a && b) ≡ false → b ≡ false
unhidden true b e f = absurd (no_clash e)
unhidden false b e f = f

pub by_cases : (a : Bool) → (a ≡ true) ⊎ (a ≡ false)
by_cases true = inl refl
by_cases false = inr refl

one_of_two : (a b : Bool) → (a || b) ≡ true → (a ≡ true) ⊎ (b ≡ true)
one_of_two true b e = inl refl
one_of_two false b e = inr e

-- lists of names

pub one_of_both : (n : List ℕ) (xs ys : List (List ℕ)) → is_one_of n (xs ++ ys) ≡ (is_one_of n xs || is_one_of n ys)
one_of_both n xs ys = list_any-append (λ k. bytes_eq k n) xs ys

pub one_of_one : (n m : List ℕ) → is_one_of n (m ∷ []) ≡ bytes_eq m n
one_of_one n m = or-false (bytes_eq m n)

abbrev pub name_of : Local → List ℕ
name_of (Bound n) = n
name_of (Defined n k p) = n

-- the names of a scope, the outermost first
abbrev pub names_in : List Local → List (List ℕ)
names_in [] = []
names_in (l ∷ sc) = name_of l ∷ names_in sc

names_of_both : (sc tc : List Local) → names_in (sc ++ tc) ≡ names_in sc ++ names_in tc
names_of_both [] tc = refl
names_of_both (l ∷ sc) tc = ap (λ (ns : List (List ℕ)). name_of l ∷ ns) (names_of_both sc tc)

append_nothing : {A : Type 0} (xs : List A) → xs ++ [] ≡ xs
append_nothing [] = refl
append_nothing (x ∷ xs) = ap (λ ys. x ∷ ys) (append_nothing xs)

append_grouped : {A : Type 0} (xs ys zs : List A) → xs ++ ys ++ zs ≡ xs ++ (ys ++ zs)
append_grouped [] ys zs = refl
append_grouped (x ∷ xs) ys zs = ap (λ us. x ∷ us) (append_grouped xs ys zs)

pub names_bound : (sc : List Local) (ns : List (List ℕ)) → names_in (bind sc ns) ≡ names_in sc ++ ns
names_bound sc [] = sym (append_nothing (names_in sc))
names_bound sc (n ∷ ns) =
    names_bound (sc ++ Bound n ∷ []) ns ∙ ap (λ (ms : List (List ℕ)). ms ++ ns) (names_of_both sc (Bound n ∷ [])) ∙ append_grouped (names_in sc) (n ∷ []) ns

names_bounds : (sc : List Local) (bs : tree.Bounds) → names_in (bind_bounds sc bs) ≡ names_in sc ++ bound_by bs
names_bounds sc tree.NoBounds = sym (append_nothing (names_in sc))
names_bounds sc (tree.MoreBounds bs ns e) =
    names_bound (bind_bounds sc bs) ns ∙ ap (λ (ms : List (List ℕ)). ms ++ ns) (names_bounds sc bs) ∙ append_grouped (names_in sc) (bound_by bs) ns

binds_is : (bs : tree.Bounds) (n : List ℕ) → binds bs n ≡ is_one_of n (bound_by bs)
binds_is tree.NoBounds n = refl
binds_is (tree.MoreBounds bs ns e) n = ap (λ (b : Bool). b || is_one_of n ns) (binds_is bs n) ∙ sym (one_of_both n (bound_by bs) ns)

defines_is : (ds : tree.Definitions) (n : List ℕ) → defines ds n ≡ is_one_of n (defined_by ds)
defines_is tree.NoDefinitions n = refl
defines_is (tree.MoreDefinitions ds m at ps form e) n =
    ap (λ (b : Bool). b || bytes_eq m n) (defines_is ds n) ∙ ap (λ (b : Bool). is_one_of n (defined_by ds) || b) (sym (one_of_one n m)) ∙ sym (one_of_both n (defined_by ds) (m ∷ []))

bounds_plain : (bs : tree.Bounds) → BoundsFit bs → ArePlain (bound_by bs)
bounds_plain tree.NoBounds h = tt
bounds_plain (tree.MoreBounds bs ns e) h = both_plain (bound_by bs) ns (bounds_plain bs h.0) h.1
  where
    both_plain : (xs ys : List (List ℕ)) → ArePlain xs → ArePlain ys → ArePlain (xs ++ ys)
    both_plain [] ys p q = q
    both_plain (x ∷ xs) ys p q = (p.0, both_plain xs ys p.1 q)

defined_plain : (ds : tree.Definitions) → DefinitionsFit ds → ArePlain (defined_by ds)
defined_plain tree.NoDefinitions h = tt
defined_plain (tree.MoreDefinitions ds m at ps form e) h = both_plain (defined_by ds) (m ∷ []) (defined_plain ds h.0) (h.1, tt)
  where
    both_plain : (xs ys : List (List ℕ)) → ArePlain xs → ArePlain ys → ArePlain (xs ++ ys)
    both_plain [] ys p q = q
    both_plain (x ∷ xs) ys p q = (p.0, both_plain xs ys p.1 q)

-- two names that differ
pub differ : (a b : List ℕ) → a ≢ b → bytes_eq a b ≡ false
differ a b h = elim (by_cases (bytes_eq a b)) [ inl e ↦ absurd (h (same_bytes a b e)) | inr e ↦ e ]

pub itself_is : (n : List ℕ) → bytes_eq n n ≡ true
itself_is n = (bytes_decides n n).1 refl

none_plain : (ns : List (List ℕ)) → ArePlain ns → (i m : List ℕ) → is_one_of (qualified i m) ns ≡ false
none_plain [] h i m = refl
none_plain (n ∷ ns) h i m = both_false (bytes_eq n (qualified i m)) (is_one_of (qualified i m) ns) (differ n (qualified i m) (h.0 i m)) (none_plain ns h.1 i m)

abbrev first_of_text : List ℕ → ℕ
first_of_text [] = 0
first_of_text (x ∷ xs) = x

not_at_sign : (i m : List ℕ) → at_sign ≢ qualified i m
not_at_sign [] m e = let c : 64 ≡ 33 = ap first_of_text e in omega (arith, c)
not_at_sign (x ∷ []) m e = let c : 1 ≡ suc (suc (length m)) = ap length e in omega (arith, c)
not_at_sign (x ∷ y ∷ i) m e = let c : 1 ≡ suc (suc (length (i ++ 33 ∷ m))) = ap length e in omega (arith, c)

pub record Around (counted : List (List ℕ)) (sc : List Local) (uses : List ℕ → Bool) : Type 0 where
  pub free : (n : List ℕ) → is_one_of n counted ≡ false → n ≢ at_sign → is_one_of n (names_in sc) ≡ false
  pub kept : (n : List ℕ) → is_one_of n counted ≡ true → (is_one_of n (names_in sc) ≡ true) ⊎ (uses n ≡ false)
  pub clear : (i m : List ℕ) → is_one_of (qualified i m) (names_in sc) ≡ false

pub around_nothing : (uses : List ℕ → Bool) → Around [] [] uses
around_nothing uses = record { free = λ n e h. refl; kept = λ n e. absurd (no_clash (sym e)); clear = λ i m. refl }

module _ (counted : List (List ℕ)) (sc : List Local) where
  pub left_part : (A B : List ℕ → Bool) → Around counted sc (λ n. A n || B n) → Around counted sc A
  left_part A B a = record {
    free = a.free;
    kept = λ n e. elim (a.kept n e) [ inl h ↦ inl h | inr h ↦ inr (left_false (A n) (B n) h) ];
    clear = a.clear;
  }

  pub right_part : (A B : List ℕ → Bool) → Around counted sc (λ n. A n || B n) → Around counted sc B
  right_part A B a = record {
    free = a.free;
    kept = λ n e. elim (a.kept n e) [ inl h ↦ inl h | inr h ↦ inr (right_false (A n) (B n) h) ];
    clear = a.clear;
  }

  -- names that are bound further in
  further : (xs : List (List ℕ)) (tc : List Local) (H E : List ℕ → Bool) → names_in tc ≡ names_in sc ++ xs → ArePlain xs → ((n : List ℕ) → H n ≡ is_one_of n xs) → Around counted sc (λ n. not (H n) && E n) → Around (counted ++ xs) tc E
  further xs tc H E q plain hides a =
      let among : (n : List ℕ) → is_one_of n (names_in tc) ≡ (is_one_of n (names_in sc) || is_one_of n xs) = λ n. ap (is_one_of n) q ∙ one_of_both n (names_in sc) xs in
      record {
        free = λ n e h.
            let w : (is_one_of n counted || is_one_of n xs) ≡ false = sym (one_of_both n counted xs) ∙ e in
            among n ∙ both_false (is_one_of n (names_in sc)) (is_one_of n xs) (a.free n (left_false (is_one_of n counted) (is_one_of n xs) w) h) (right_false (is_one_of n counted) (is_one_of n xs) w);
        kept = λ n e.
            let w : (is_one_of n counted || is_one_of n xs) ≡ true = sym (one_of_both n counted xs) ∙ e in
            elim (by_cases (is_one_of n xs)) [
              | inl y ↦ inl (among n ∙ right_true (is_one_of n (names_in sc)) (is_one_of n xs) y)
              | inr z ↦ elim (one_of_two (is_one_of n counted) (is_one_of n xs) w) [
                | inl c ↦ elim (a.kept n c) [
                  | inl h ↦ inl (among n ∙ left_true (is_one_of n (names_in sc)) (is_one_of n xs) h)
                  | inr h ↦ inr (unhidden (H n) (E n) (hides n ∙ z) h)
                ]
                | inr y ↦ absurd (no_clash (sym y ∙ z))
              ]
            ];
        clear = λ i m. among (qualified i m) ∙ both_false (is_one_of (qualified i m) (names_in sc)) (is_one_of (qualified i m) xs) (a.clear i m) (none_plain xs plain i m);
      }

  pub under_one : (x : List ℕ) (E : List ℕ → Bool) → IsPlain x → Around counted sc (λ n. not (bytes_eq x n) && E n) → Around (counted ++ x ∷ []) (sc ++ Bound x ∷ []) E
  under_one x E plain a = further (x ∷ []) (sc ++ Bound x ∷ []) (λ n. bytes_eq x n) E (names_of_both sc (Bound x ∷ [])) (plain, tt) (λ n. sym (one_of_one n x)) a

  pub under_bounds : (bs : tree.Bounds) (E : List ℕ → Bool) → BoundsFit bs → Around counted sc (λ n. not (binds bs n) && E n) → Around (counted ++ bound_by bs) (bind_bounds sc bs) E
  under_bounds bs E plain a = further (bound_by bs) (bind_bounds sc bs) (binds bs) E (names_bounds sc bs) (bounds_plain bs plain) (binds_is bs) a

  -- `@` is bound in the scope alone
  pub under_at_sign : (E : List ℕ → Bool) → Around counted sc (λ n. not (bytes_eq at_sign n) && E n) → Around counted (sc ++ Bound at_sign ∷ []) E
  under_at_sign E a =
      let among : (n : List ℕ) → is_one_of n (names_in (sc ++ Bound at_sign ∷ [])) ≡ (is_one_of n (names_in sc) || bytes_eq at_sign n) =
      λ n. ap (is_one_of n) (names_of_both sc (Bound at_sign ∷ [])) ∙ one_of_both n (names_in sc) (at_sign ∷ []) ∙ ap (λ (b : Bool). is_one_of n (names_in sc) || b) (one_of_one n at_sign) in
      record {
        free = λ n e h. among n ∙ both_false (is_one_of n (names_in sc)) (bytes_eq at_sign n) (a.free n e h) (differ at_sign n (λ q. h (sym q)));
        kept = λ n e. elim (a.kept n e) [
          | inl h ↦ inl (among n ∙ left_true (is_one_of n (names_in sc)) (bytes_eq at_sign n) h)
          | inr h ↦ elim (by_cases (bytes_eq at_sign n)) [
            | inl y ↦ inl (among n ∙ right_true (is_one_of n (names_in sc)) (bytes_eq at_sign n) y)
            | inr z ↦ inr (unhidden (bytes_eq at_sign n) (E n) z h)
          ]
        ];
        clear = λ i m. among (qualified i m) ∙ both_false (is_one_of (qualified i m) (names_in sc)) (bytes_eq at_sign (qualified i m)) (a.clear i m) (differ at_sign (qualified i m) (not_at_sign i m));
      }

-- in the scope behind the definitions of a LET
pub behind_definitions : (counted : List (List ℕ)) (sc inner : List Local) (ds : tree.Definitions) (E : List ℕ → Bool) → DefinitionsFit ds → names_in inner ≡ names_in sc ++ defined_by ds → Around counted sc (λ n. not (defines ds n) && E n) → Around (counted ++ defined_by ds) inner E
behind_definitions counted sc inner ds E plain q a = further counted sc (defined_by ds) inner (defines ds) E q (defined_plain ds plain) (defines_is ds) a

-- a definition of a LET that does not use itself does not mention its own name, unless a parameter hides it
own_unused : (form : DefinitionForm) (m : List ℕ) (ps : List (List ℕ)) (e : Tree) → own_of form m ps e ≡ owns.Apart → uses_own_name form m ps e ≡ false → is_one_of m ps ≡ false → mentions m e ≡ false
own_unused forms.Operator m ps e q u h = unhidden (is_one_of m ps) (mentions m e) h u
own_unused forms.Constant m ps e q u h = unhidden (is_one_of m ps) (mentions m e) h u
own_unused forms.Function m ps e q u h = by_both (is_one_of m ps) (mentions m e) h q
  where
    by_both : (a b : Bool) → a ≡ false → (if a then owns.Apart else (if b then owns.Function else owns.Apart)) ≡ owns.Apart → b ≡ false
    by_both true b h q = absurd (no_clash h)
    by_both false true h q = absurd (cc)
    by_both false false h q = refl

one_defined_more : (mid : List Local) (m : List ℕ) (k : DefId) (count : ℕ) (n : List ℕ) → is_one_of n (names_in (mid ++ Defined m k count ∷ [])) ≡ (is_one_of n (names_in mid) || bytes_eq m n)
one_defined_more mid m k count n =
    ap (is_one_of n) (names_of_both mid (Defined m k count ∷ [])) ∙ one_of_both n (names_in mid) (m ∷ []) ∙ ap (λ (b : Bool). is_one_of n (names_in mid) || b) (one_of_one n m)

-- the scope of the body of a definition of a LET, but for its parameters: it has the names before, and its own name unless it does not use itself
own_names : (own : Own) (mid : List Local) (m : List ℕ) (k : DefId) (count : ℕ) (n : List ℕ) → is_one_of n (names_in (with_own own mid m k count)) ≡ true → (is_one_of n (names_in mid) ≡ true) ⊎ (bytes_eq m n ≡ true)
own_names owns.Apart mid m k count n h = inl h
own_names owns.Itself mid m k count n h = one_of_two (is_one_of n (names_in mid)) (bytes_eq m n) (sym (one_defined_more mid m k count n) ∙ h)
own_names owns.Function mid m k count n h = one_of_two (is_one_of n (names_in mid)) (bytes_eq m n) (sym (one_defined_more mid m k count n) ∙ h)

own_more : (own : Own) (mid : List Local) (m : List ℕ) (k : DefId) (count : ℕ) (n : List ℕ) → is_one_of n (names_in mid) ≡ true → is_one_of n (names_in (with_own own mid m k count)) ≡ true
own_more owns.Apart mid m k count n h = h
own_more owns.Itself mid m k count n h = one_defined_more mid m k count n ∙ left_true (is_one_of n (names_in mid)) (bytes_eq m n) h
own_more owns.Function mid m k count n h = one_defined_more mid m k count n ∙ left_true (is_one_of n (names_in mid)) (bytes_eq m n) h

own_or_apart : (own : Own) (mid : List Local) (m : List ℕ) (k : DefId) (count : ℕ) → (is_one_of m (names_in (with_own own mid m k count)) ≡ true) ⊎ (own ≡ owns.Apart)
own_or_apart owns.Apart mid m k count = inr refl
own_or_apart owns.Itself mid m k count = inl (one_defined_more mid m k count m ∙ right_true (is_one_of m (names_in mid)) (bytes_eq m m) (itself_is m))
own_or_apart owns.Function mid m k count = inl (one_defined_more mid m k count m ∙ right_true (is_one_of m (names_in mid)) (bytes_eq m m) (itself_is m))

module _ (counted : List (List ℕ)) (sc mid : List Local) (ds : tree.Definitions) (m : List ℕ) (ps : List (List ℕ)) (form : DefinitionForm) (e : Tree) (k : DefId) (plain : DefinitionsFit ds × IsPlain m × ArePlain ps) (right : uses_own_name form m ps e ≡ false) (q : names_in mid ≡ names_in sc ++ defined_by ds) (a : Around counted sc (λ n. not (defines ds n || bytes_eq m n || is_one_of n ps) && mentions n e)) where
  abbrev own : Own
  own = own_of form m ps e

  abbrev whole : List Local
  whole = with_own own mid m k (length ps)

  counts : (n : List ℕ) → is_one_of n (counted ++ defined_by ds ++ m ∷ [] ++ ps) ≡ (((is_one_of n counted || is_one_of n (defined_by ds)) || bytes_eq m n) || is_one_of n ps)
  counts n =
      one_of_both n (counted ++ defined_by ds ++ m ∷ []) ps ∙ ap (λ (b : Bool). b || is_one_of n ps)
      (one_of_both n (counted ++ defined_by ds) (m ∷ []) ∙ ap₂ (λ (b c : Bool). b || c) (one_of_both n counted (defined_by ds)) (one_of_one n m))

  before : (n : List ℕ) → is_one_of n (names_in mid) ≡ (is_one_of n (names_in sc) || is_one_of n (defined_by ds))
  before n = ap (is_one_of n) q ∙ one_of_both n (names_in sc) (defined_by ds)

  among : (n : List ℕ) → is_one_of n (names_in (bind whole ps)) ≡ (is_one_of n (names_in whole) || is_one_of n ps)
  among n = ap (is_one_of n) (names_bound whole ps) ∙ one_of_both n (names_in whole) ps

  not_whole : (n : List ℕ) → is_one_of n (names_in sc) ≡ false → is_one_of n (defined_by ds) ≡ false → bytes_eq m n ≡ false → is_one_of n (names_in whole) ≡ false
  not_whole n x y z = elim (by_cases (is_one_of n (names_in whole))) [
    | inl h ↦ elim (own_names own mid m k (length ps) n h) [
      | inl u ↦ absurd (no_clash (sym u ∙ before n ∙ both_false (is_one_of n (names_in sc)) (is_one_of n (defined_by ds)) x y))
      | inr u ↦ absurd (no_clash (sym u ∙ z))
    ]
    | inr h ↦ h
  ]

  not_before : (n : List ℕ) → is_one_of n (names_in whole) ≡ false → (is_one_of n (names_in sc) || is_one_of n (defined_by ds)) ≡ false
  not_before n h = elim (by_cases (is_one_of n (names_in sc) || is_one_of n (defined_by ds))) [
    | inl u ↦ absurd (no_clash (sym (own_more own mid m k (length ps) n (before n ∙ u)) ∙ h))
    | inr u ↦ u
  ]

  -- a name that is counted, and neither a parameter nor in the scope around them
  unbound : (n : List ℕ) → ((is_one_of n counted || is_one_of n (defined_by ds)) || bytes_eq m n) ≡ true → is_one_of n ps ≡ false → is_one_of n (names_in whole) ≡ false → mentions n e ≡ false
  unbound n h p w =
      let none : (is_one_of n (names_in sc) || is_one_of n (defined_by ds)) ≡ false = not_before n w in
      let outside : is_one_of n (names_in sc) ≡ false = left_false (is_one_of n (names_in sc)) (is_one_of n (defined_by ds)) none in
      let undefined : is_one_of n (defined_by ds) ≡ false = right_false (is_one_of n (names_in sc)) (is_one_of n (defined_by ds)) none in
      elim (by_cases (bytes_eq m n)) [
        | inl y ↦
            let same : m ≡ n = same_bytes m n y in
            let there : is_one_of m (names_in whole) ≡ false = subst (λ (x : List ℕ). is_one_of x (names_in whole) ≡ false) (sym same) w in
            let free : is_one_of m ps ≡ false = subst (λ (x : List ℕ). is_one_of x ps ≡ false) (sym same) p in
            elim (own_or_apart own mid m k (length ps)) [
              | inl u ↦ absurd (no_clash (sym u ∙ there))
              | inr u ↦ subst (λ (x : List ℕ). mentions x e ≡ false) same (own_unused form m ps e u right free)
            ]
        | inr z ↦ elim (one_of_two (is_one_of n counted || is_one_of n (defined_by ds)) (bytes_eq m n) h) [
          | inl u ↦ elim (one_of_two (is_one_of n counted) (is_one_of n (defined_by ds)) u) [
            | inl c ↦ elim (a.kept n c) [
              | inl v ↦ absurd (no_clash (sym v ∙ outside))
              | inr v ↦ unhidden (defines ds n || bytes_eq m n || is_one_of n ps) (mentions n e) (both_false (defines ds n || bytes_eq m n) (is_one_of n ps) (both_false (defines ds n) (bytes_eq m n) (defines_is ds n ∙ undefined) z) p) v
            ]
            | inr d ↦ absurd (no_clash (sym d ∙ undefined))
          ]
          | inr y ↦ absurd (no_clash (sym y ∙ z))
        ]
      ]

  pub in_body : Around (counted ++ defined_by ds ++ m ∷ [] ++ ps) (bind whole ps) (λ n. mentions n e)
  in_body = record {
    free = λ n h u.
        let w : (((is_one_of n counted || is_one_of n (defined_by ds)) || bytes_eq m n) || is_one_of n ps) ≡ false = sym (counts n) ∙ h in
        let x : ((is_one_of n counted || is_one_of n (defined_by ds)) || bytes_eq m n) ≡ false = left_false ((is_one_of n counted || is_one_of n (defined_by ds)) || bytes_eq m n) (is_one_of n ps) w in
        let y : (is_one_of n counted || is_one_of n (defined_by ds)) ≡ false = left_false (is_one_of n counted || is_one_of n (defined_by ds)) (bytes_eq m n) x in
        among n ∙ both_false (is_one_of n (names_in whole)) (is_one_of n ps)
        (not_whole n (a.free n (left_false (is_one_of n counted) (is_one_of n (defined_by ds)) y) u) (right_false (is_one_of n counted) (is_one_of n (defined_by ds)) y) (right_false (is_one_of n counted || is_one_of n (defined_by ds)) (bytes_eq m n) x))
        (right_false ((is_one_of n counted || is_one_of n (defined_by ds)) || bytes_eq m n) (is_one_of n ps) w);
    kept = λ n h.
        let w : (((is_one_of n counted || is_one_of n (defined_by ds)) || bytes_eq m n) || is_one_of n ps) ≡ true = sym (counts n) ∙ h in
        elim (by_cases (is_one_of n ps)) [
          | inl p ↦ inl (among n ∙ right_true (is_one_of n (names_in whole)) (is_one_of n ps) p)
          | inr p ↦ elim (by_cases (is_one_of n (names_in whole))) [
            | inl v ↦ inl (among n ∙ left_true (is_one_of n (names_in whole)) (is_one_of n ps) v)
            | inr v ↦ elim (one_of_two ((is_one_of n counted || is_one_of n (defined_by ds)) || bytes_eq m n) (is_one_of n ps) w) [
              | inl x ↦ inr (unbound n x p v)
              | inr x ↦ absurd (no_clash (sym x ∙ p))
            ]
          ]
        ];
    clear = λ i n.
        among (qualified i n) ∙ both_false (is_one_of (qualified i n) (names_in whole)) (is_one_of (qualified i n) ps)
        (not_whole (qualified i n) (a.clear i n) (none_plain (defined_by ds) (defined_plain ds plain.0) i n) (differ m (qualified i n) (plain.1 i n))) (none_plain ps plain.2 i n);
  }

-- what definitions name

pub none_defined : (ns : List (List ℕ)) → ns ≡ ns ++ defined_by tree.NoDefinitions
none_defined ns = sym (append_nothing ns)

pub one_defined_names : (sc mid : List Local) (ds : tree.Definitions) (m : List ℕ) (k : DefId) (count : ℕ) → names_in mid ≡ names_in sc ++ defined_by ds → names_in (mid ++ Defined m k count ∷ []) ≡ names_in sc ++ (defined_by ds ++ m ∷ [])
one_defined_names sc mid ds m k count q =
    names_of_both mid (Defined m k count ∷ []) ∙ ap (λ (ns : List (List ℕ)). ns ++ m ∷ []) q ∙ append_grouped (names_in sc) (defined_by ds) (m ∷ [])

-- the parameters of a definition
pub around_params : (ps : List (List ℕ)) (uses : List ℕ → Bool) → ArePlain ps → Around ps (bind [] ps) uses
around_params ps uses plain = further [] [] ps (bind [] ps) (λ n. is_one_of n ps) uses (names_bound [] ps) plain (λ n. refl) (around_nothing (λ n. not (is_one_of n ps) && uses n))

-- the bounds of an instance bind the same names
pub bounds_same : (by : StandIns) (counted : List (List ℕ)) (sc : List Local) (bs : tree.Bounds) → bind_bounds sc (made_bounds by counted bs) ≡ bind_bounds sc bs
bounds_same by counted sc tree.NoBounds = refl
bounds_same by counted sc (tree.MoreBounds bs ns e) = ap (λ (inner : List Local). bind inner ns) (bounds_same by counted sc bs)
