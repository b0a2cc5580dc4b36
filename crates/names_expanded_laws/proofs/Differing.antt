-- Names that differ: of lists that are joined, and of names with a mark.
use Rattle.std.proofs.Common.{◌≡◌, ◌≢◌, ℕ, Bool, true, false, List, [], ◌∷◌, ◌++◌, refl, sym, ap, subst, ◌∙◌}
use Rattle.std.proofs.lemmas.List.Elements.{All-cons, All-nil}
use Rattle.std.specs.Prelude.{All, if◌then◌else◌}
use Rattle.reading_trees.specs.Grammar.{mark, qualified}
use Rattle.reading_trees.specs.declared.module.Declared.{Declared}
use Rattle.reading_trees.specs.declared.module.Unit.{Unit as ModuleUnit}
use Rattle.reading_trees.specs.declared.module.Unit.TheVariants.{Variables, Constants, Recursive, Define, Instance, Assume, Passed}
use Rattle.reading_modules.specs.Twice.{declared_in}
use Rattle.names_program.specs.InUnits.{constants_in, definitions_in}
use Rattle.names_program.specs.Names.{names_declared, names_defined}
use Rattle.reading_tokens.specs.Shapes.{each, is_word}
use Rattle.names_load_laws.proofs.NamesDiffer.{NoneIs, Differ, IsPart, nothing_left, also, but}

-- ---- lists

none_middle : (k : List ℕ) (xs : List (List ℕ)) (n : List ℕ) (ys : List (List ℕ)) → k ≢ n → NoneIs k (xs ++ ys) → NoneIs k (xs ++ n ∷ ys)
none_middle k [] n ys q h = (q, h)
none_middle k (x ∷ xs) n ys q h = (h.0, none_middle k xs n ys q h.1)

differ_middle : (xs : List (List ℕ)) (n : List ℕ) (ys : List (List ℕ)) → NoneIs n (xs ++ ys) → Differ (xs ++ ys) → Differ (xs ++ n ∷ ys)
differ_middle [] n ys h d = (h, d)
differ_middle (x ∷ xs) n ys h d = (none_middle x xs n ys (λ q. h.0 (sym q)) d.0, differ_middle xs n ys h.1 d.1)

pub none_join : (k : List ℕ) (xs ys : List (List ℕ)) → NoneIs k xs → NoneIs k ys → NoneIs k (xs ++ ys)
none_join k [] ys h g = g
none_join k (x ∷ xs) ys h g = (h.0, none_join k xs ys h.1 g)

-- each of the first is none of the second
abbrev pub Apart : List (List ℕ) → List (List ℕ) → Type 0
Apart [] ys = Unit {0}
Apart (x ∷ xs) ys = NoneIs x ys × Apart xs ys

pub part_join : (ns ms ks ls : List (List ℕ)) → IsPart ns ms → IsPart ks ls → IsPart (ns ++ ks) (ms ++ ls)
part_join _ _ ks ls nothing_left q = q
part_join _ _ ks ls (also n ns ms p) q = also n _ _ (part_join ns ms ks ls p q)
part_join _ _ ks ls (but n ns ms p) q = but n _ _ (part_join ns ms ks ls p q)

pub differ_join : (xs ys : List (List ℕ)) → Differ xs → Differ ys → Apart xs ys → Differ (xs ++ ys)
differ_join [] ys d e h = e
differ_join (x ∷ xs) ys d e h = (none_join x xs ys d.0 h.0, differ_join xs ys d.1 e h.1)

-- ---- constants and definitions of units

pub none_behind : (k : List ℕ) (ds es : List Declared) → NoneIs k (names_declared (ds ++ es)) → NoneIs k (names_declared es)
none_behind k [] es h = h
none_behind k (d ∷ ds) es h = none_behind k ds es h.1

-- the names of the constants, and then those of the definitions
abbrev pub own_names : List ModuleUnit → List (List ℕ)
own_names us = names_declared (constants_in us) ++ names_defined (definitions_in us)

none_also : (k : List ℕ) (ds : List Declared) (us : List ModuleUnit) → (NoneIs k (names_declared (declared_in us)) → NoneIs k (own_names us)) → NoneIs k (names_declared (ds ++ declared_in us)) → NoneIs k (names_declared (ds ++ constants_in us) ++ names_defined (definitions_in us))
none_also k [] us f h = f h
none_also k (d ∷ ds) us f h = (h.0, none_also k ds us f h.1)

none_own : (us : List ModuleUnit) (k : List ℕ) → NoneIs k (names_declared (declared_in us)) → NoneIs k (own_names us)
none_own [] k h = tt
none_own (Variables ds ∷ us) k h = none_own us k (none_behind k ds (declared_in us) h)
none_own (Constants ds ∷ us) k h = none_also k ds us (none_own us k) h
none_own (Define d ∷ us) k h = none_middle k (names_declared (constants_in us)) d.name (names_defined (definitions_in us)) h.0 (none_own us k h.1)
none_own (Instance m ∷ us) k h = none_own us k h.1
none_own (Assume e ∷ us) k h = none_own us k h
none_own (Recursive rs ∷ us) k h = none_own us k h
none_own (Passed ∷ us) k h = none_own us k h

pub differ_behind : (ds es : List Declared) → Differ (names_declared (ds ++ es)) → Differ (names_declared es)
differ_behind [] es h = h
differ_behind (d ∷ ds) es h = differ_behind ds es h.1

differ_also : (ds : List Declared) (us : List ModuleUnit) → (Differ (names_declared (declared_in us)) → Differ (own_names us)) → Differ (names_declared (ds ++ declared_in us)) → Differ (names_declared (ds ++ constants_in us) ++ names_defined (definitions_in us))
differ_also [] us f h = f h
differ_also (d ∷ ds) us f h = (none_also d.name ds us (none_own us d.name) h.0, differ_also ds us f h.1)

pub own_differ : (us : List ModuleUnit) → Differ (names_declared (declared_in us)) → Differ (own_names us)
own_differ [] h = tt
own_differ (Variables ds ∷ us) h = own_differ us (differ_behind ds (declared_in us) h)
own_differ (Constants ds ∷ us) h = differ_also ds us (own_differ us) h
own_differ (Define d ∷ us) h = differ_middle (names_declared (constants_in us)) d.name (names_defined (definitions_in us)) (none_own us d.name h.0) (own_differ us h.1)
own_differ (Instance m ∷ us) h = own_differ us h.1
own_differ (Assume e ∷ us) h = own_differ us h
own_differ (Recursive rs ∷ us) h = own_differ us h
own_differ (Passed ∷ us) h = own_differ us h

-- ---- names with a mark

-- a name of a text: some letters, digits and `_`
abbrev pub IsName : List ℕ → Type 0
IsName n = (n ≢ []) × (each is_word n ≡ true)

first_true : (b c : Bool) → (if b then c else false) ≡ true → (b ≡ true) × (c ≡ true)
first_true true c e = (refl, e)
first_true false c e = cc

each_parts : (b : ℕ) (bs : List ℕ) → each is_word (b ∷ bs) ≡ true → (is_word b ≡ true) × (each is_word bs ≡ true)
each_parts b bs e = first_true (is_word b) (each is_word bs) e

mark_no_word : is_word mark ≡ true → ⊥
mark_no_word e = cc

abbrev head_or : ℕ → List ℕ → ℕ
head_or u [] = u
head_or u (b ∷ bs) = b

-- no word has a mark
pub no_mark : (i n w : List ℕ) → w ≡ qualified i n → each is_word w ≡ true → ⊥
no_mark i n w q e = marked i n (subst (λ v. each is_word v ≡ true) q e)
  where
    marked : (i n : List ℕ) → each is_word (i ++ mark ∷ n) ≡ true → ⊥
    marked [] n e = mark_no_word (each_parts mark n e).0
    marked (b ∷ i) n e = marked i n (each_parts b (i ++ mark ∷ n) e).1

abbrev tail_of : List ℕ → List ℕ
tail_of [] = []
tail_of (b ∷ bs) = bs

-- before the first mark stand the same words
pub same_before : (i j n k : List ℕ) → each is_word i ≡ true → each is_word j ≡ true → qualified i n ≡ qualified j k → i ≡ j
same_before [] [] n k d e q = refl
same_before [] (c ∷ j) n k d e q = absurd (let same : mark ≡ c = ap (head_or 0) q in mark_no_word (subst (λ v. is_word v ≡ true) (sym same) (each_parts c j e).0))
same_before (b ∷ i) [] n k d e q = absurd (let same : b ≡ mark = ap (head_or 0) q in mark_no_word (subst (λ v. is_word v ≡ true) same (each_parts b i d).0))
same_before (b ∷ i) (c ∷ j) n k d e q =
    let head : b ≡ c = ap (head_or 0) q in
    let rest : i ≡ j = same_before i j n k (each_parts b i d).1 (each_parts c j e).1 (ap tail_of q) in
    ap (λ v. v ∷ i) head ∙ ap (λ v. c ∷ v) rest

-- behind the same words and a mark stand the same names
pub same_behind : (i n k : List ℕ) → qualified i n ≡ qualified i k → n ≡ k
same_behind [] n k q = ap tail_of q
same_behind (b ∷ i) n k q = same_behind i n k (ap tail_of q)

pub qualified_named : (i n : List ℕ) → qualified i n ≢ []
qualified_named [] n = λ q. cc
qualified_named (b ∷ i) n = λ q. cc

-- the names of an instance
abbrev pub qualified_each : List ℕ → List (List ℕ) → List (List ℕ)
qualified_each i [] = []
qualified_each i (n ∷ ns) = qualified i n ∷ qualified_each i ns

pub qualified_join : (i : List ℕ) (ns ms : List (List ℕ)) → qualified_each i (ns ++ ms) ≡ qualified_each i ns ++ qualified_each i ms
qualified_join i [] ms = refl
qualified_join i (n ∷ ns) ms = ap (λ v. qualified i n ∷ v) (qualified_join i ns ms)

none_qualified : (i n : List ℕ) (ms : List (List ℕ)) → NoneIs n ms → NoneIs (qualified i n) (qualified_each i ms)
none_qualified i n [] h = tt
none_qualified i n (m ∷ ms) h = (λ q. h.0 (same_behind i n m q), none_qualified i n ms h.1)

pub qualified_differ : (i : List ℕ) (ns : List (List ℕ)) → Differ ns → Differ (qualified_each i ns)
qualified_differ i [] h = tt
qualified_differ i (n ∷ ns) h = (none_qualified i n ns h.0, qualified_differ i ns h.1)

-- a word is none of them, and no name of another instance is
pub word_apart : (w i : List ℕ) (ns : List (List ℕ)) → each is_word w ≡ true → NoneIs w (qualified_each i ns)
word_apart w i [] e = tt
word_apart w i (n ∷ ns) e = (λ q. no_mark i n w q e, word_apart w i ns e)

pub other_apart : (i k j : List ℕ) (ns : List (List ℕ)) → each is_word i ≡ true → each is_word j ≡ true → i ≢ j → NoneIs (qualified i k) (qualified_each j ns)
other_apart i k j [] d e q = tt
other_apart i k j (n ∷ ns) d e q = (λ r. q (same_before i j k n d e r), other_apart i k j ns d e q)

-- ---- names that are there

abbrev pub AreThere : List (List ℕ) → Type 0
AreThere [] = Unit {0}
AreThere (n ∷ ns) = (n ≢ []) × AreThere ns

pub all_there : (ns : List (List ℕ)) → AreThere ns → All (λ n. n ≢ []) ns
all_there [] h = All-nil _
all_there (n ∷ ns) h = All-cons (λ n. n ≢ []) n ns h.0 (all_there ns h.1)

pub there_join : (xs ys : List (List ℕ)) → AreThere xs → AreThere ys → AreThere (xs ++ ys)
there_join [] ys h g = g
there_join (x ∷ xs) ys h g = (h.0, there_join xs ys h.1 g)

pub part_there : (ns ms : List (List ℕ)) → IsPart ns ms → AreThere ms → AreThere ns
part_there _ _ nothing_left h = tt
part_there _ _ (also n ns ms p) h = (h.0, part_there ns ms p h.1)
part_there _ _ (but n ns ms p) h = part_there ns ms p h.1

pub qualified_there : (i : List ℕ) (ns : List (List ℕ)) → AreThere (qualified_each i ns)
qualified_there i [] = tt
qualified_there i (n ∷ ns) = (qualified_named i n, qualified_there i ns)
