-- Names that get numbers, and the names that mean each definition.
use Rattle.std.proofs.Common.{◌≡◌, ◌∙◌, sym, ap, refl, subst, List, [], ◌∷◌, ◌++◌, ◌<◌, ◌≤◌, arith}
use Rattle.std.specs.Prelude.{ℕ, zero, suc, ◌==◌, Bool, true, false, if◌then◌else◌, Option, Some, None, option_map, get_or}
use Rattle.std.specs.Str.{bytes_eq}
use Rattle.std.proofs.lemmas.Bool.Decides.{nat_tests}
use Rattle.std.proofs.lemmas.List.Elements.{All-append, All-cons, All-head, All-nil, All-tail}
use Rattle.base_core.specs.Texts.{same_bytes}
use Rattle.values_core.specs.Data.{Val}
use Rattle.reading_trees.specs.declared.config.Config.{Config}
use Rattle.reading_trees.specs.declared.module.Program.{Program}
use Rattle.names_scopes.specs.declared.meant.Entry.{Entry}
use Rattle.names_scopes.specs.declared.meant.Meant.{Meant}
use Rattle.names_scopes.specs.declared.meant.Meant.TheVariants as meant
use Rattle.names_scopes.specs.declared.meant.Named.{Named}
use Rattle.names_scopes.specs.Scopes.{among, named}
use Rattle.names_scopes.specs.Standing.{AreIn, IsIn}
use Rattle.names_program.specs.Names.{AreByDefinition, AreNames, Numbers, by_index, declared_meaning, definition_meant, first_of, meant_if, numbered, numbered_meant, only_definition, with_number}
use Rattle.names_program.specs.Told.{defined_by, entry_if, told}
use Rattle.names_program.proofs.NameLemmas.{among_append, by_index_is}

nothing : (b : Bool) (o : Option Named) → o ≡ None → o ≡ (if b then o else None)
nothing true o e = refl
nothing false o e = e

among_if : (m n : List ℕ) (o : Option Named) → among (entry_if m o) n ≡ (if bytes_eq m n then o else None)
among_if m n None = nothing (bytes_eq m n) None refl
among_if m n (Some w) = refl

-- whether an entry has the name
abbrev has : List Entry → List ℕ → Bool
has [] n = false
has (e ∷ es) n = if bytes_eq e.name n then true else has es n

twice : (o : Option Named) (h : Bool) → first_of o (if h then o else None) ≡ o
twice (Some w) h = refl
twice None true = refl
twice None false = refl

told_step : (f : Option Named → Option Named) (all : List Entry) (m n : List ℕ) (b h : Bool) → bytes_eq m n ≡ b → first_of (if b then f (among all m) else None) (if h then f (among all n) else None) ≡ (if (if b then true else h) then f (among all n) else None)
told_step f all m n true h e =
    ap (λ (x : List ℕ). first_of (f (among all x)) (if h then f (among all n) else None)) (same_bytes m n e) ∙ twice (f (among all n)) h
told_step f all m n false h e = refl

told_among : (f : Option Named → Option Named) (all xs : List Entry) (n : List ℕ) → among (told f all xs) n ≡ (if has xs n then f (among all n) else None)
told_among f all [] n = refl
told_among f all (x ∷ xs) n =
    among_append (entry_if x.name (f (among all x.name))) (told f all xs) n
    ∙ ap (λ (o : Option Named). first_of o (among (told f all xs) n)) (among_if x.name n (f (among all x.name)))
    ∙ ap (λ (o : Option Named). first_of (if bytes_eq x.name n then f (among all x.name) else None) o) (told_among f all xs n)
    ∙ told_step f all x.name n (bytes_eq x.name n) (has xs n) refl

has_none : (es : List Entry) (n : List ℕ) → has es n ≡ false → among es n ≡ None
has_none [] n e = refl
has_none (x ∷ xs) n e = one (bytes_eq x.name n) (has_none xs n) e
  where
    one : (b : Bool) → (has xs n ≡ false → among xs n ≡ None) → (if b then true else has xs n) ≡ false → (if b then Some x.is else among xs n) ≡ None
    one true h q = absurd (cc)
    one false h q = h q

-- each name means what becomes of its meaning
told_all : (f : Option Named → Option Named) → f None ≡ None → (all : List Entry) (n : List ℕ) → among (told f all all) n ≡ f (among all n)
told_all f z all n = told_among f all all n ∙ one (has all n) refl
  where
    one : (b : Bool) → has all n ≡ b → (if b then f (among all n) else None) ≡ f (among all n)
    one true e = refl
    one false e = sym (ap f (has_none all n e) ∙ z)

pub told_behind : (f : Option Named → Option Named) (all xs ys : List Entry) → told f all (xs ++ ys) ≡ told f all xs ++ told f all ys
told_behind f all [] ys = refl
told_behind f all (x ∷ xs) ys = one (f (among all x.name)) (told_behind f all xs ys)
  where
    one : (o : Option Named) → told f all (xs ++ ys) ≡ told f all xs ++ told f all ys → entry_if x.name o ++ told f all (xs ++ ys) ≡ (entry_if x.name o ++ told f all xs) ++ told f all ys
    one None h = h
    one (Some w) h = ap (λ (l : List Entry). record { name = x.name; is = w } ∷ l) h

-- the names under numbers
pub numbered_are : (number : Numbers) (all found : List Entry) → found ≡ told (numbered number) all all → (p : Program) (c : Config) (values : List Val) → AreNames p c values by_index all → AreNames p c values number found
numbered_are number all found e p c values h n =
    ap (λ (l : List Entry). among l n) e ∙ told_all (numbered number) refl all n ∙ ap (numbered number) (h n ∙ by_index_is (declared_meaning p c values n))

-- the names that mean each definition
pub by_definition_are : (all : List Entry) (lists : List (List Entry)) → ((i : ℕ) → get_or lists i [] ≡ told (only_definition i) all all) → (p : Program) (c : Config) (values : List Val) → AreNames p c values by_index all → AreByDefinition p c values lists
by_definition_are all lists e p c values h i n =
    ap (λ (l : List Entry). among l n) (e i) ∙ told_all (only_definition i) refl all n ∙ ap (only_definition i) (h n ∙ by_index_is (declared_meaning p c values n))

number_in : (number : Numbers) (count needed : ℕ) (n : List ℕ) → ((i k : ℕ) → number i ≡ Some k → k < count) → (i : ℕ) (o : Option ℕ) → number i ≡ o → AreIn count (entry_if n (option_map (named needed) (option_map definition_meant o)))
number_in number count needed n below i None e = All-nil (λ (x : Entry). IsIn count x.is.meant)
number_in number count needed n below i (Some k) e = All-cons (λ (x : Entry). IsIn count x.is.meant) _ [] (below i k e) (All-nil (λ (x : Entry). IsIn count x.is.meant))

meant_in : (number : Numbers) (count needed : ℕ) (n : List ℕ) → ((i k : ℕ) → number i ≡ Some k → k < count) → (m : Meant) → AreIn count (entry_if n (option_map (named needed) (numbered_meant number m)))
meant_in number count needed n below (meant.Definition i) = number_in number count needed n below i.0 (number i.0) refl
meant_in number count needed n below (meant.Slot i) = All-cons (λ (x : Entry). IsIn count x.is.meant) _ [] tt (All-nil (λ (x : Entry). IsIn count x.is.meant))
meant_in number count needed n below (meant.Variable x) = All-cons (λ (x : Entry). IsIn count x.is.meant) _ [] tt (All-nil (λ (x : Entry). IsIn count x.is.meant))
meant_in number count needed n below (meant.Known v) = All-cons (λ (x : Entry). IsIn count x.is.meant) _ [] tt (All-nil (λ (x : Entry). IsIn count x.is.meant))
meant_in number count needed n below (meant.Set s) = All-cons (λ (x : Entry). IsIn count x.is.meant) _ [] tt (All-nil (λ (x : Entry). IsIn count x.is.meant))
meant_in number count needed n below (meant.Standard o) = All-cons (λ (x : Entry). IsIn count x.is.meant) _ [] tt (All-nil (λ (x : Entry). IsIn count x.is.meant))

one_in : (number : Numbers) (count : ℕ) (n : List ℕ) → ((i k : ℕ) → number i ≡ Some k → k < count) → (o : Option Named) → AreIn count (entry_if n (numbered number o))
one_in number count n below None = All-nil (λ (x : Entry). IsIn count x.is.meant)
one_in number count n below (Some w) = meant_in number count w.needed n below w.meant

told_in : (number : Numbers) (count : ℕ) (all xs : List Entry) → ((i k : ℕ) → number i ≡ Some k → k < count) → AreIn count (told (numbered number) all xs)
told_in number count all [] below = All-nil (λ (x : Entry). IsIn count x.is.meant)
told_in number count all (x ∷ xs) below =
    All-append (λ (x : Entry). IsIn count x.is.meant) (entry_if x.name (numbered number (among all x.name))) (told (numbered number) all xs) (one_in number count x.name below (among all x.name)) (told_in number count all xs below)

pub numbered_within : (number : Numbers) (all found : List Entry) → found ≡ told (numbered number) all all → (count : ℕ) → ((i k : ℕ) → number i ≡ Some k → k < count) → AreIn count found
numbered_within number all found e count below = subst (λ (l : List Entry). AreIn count l) (sym e) (told_in number count all all below)

-- a definition that gets its number
abbrev retold : ℕ → Named → Named
retold k w = named w.needed (definition_meant k)

defined_among : (k : ℕ) (es : List Entry) (n : List ℕ) → among (defined_by k es) n ≡ option_map (retold k) (among es n)
defined_among k [] n = refl
defined_among k (x ∷ xs) n = one (bytes_eq x.name n) (defined_among k xs n)
  where
    one : (b : Bool) → among (defined_by k xs) n ≡ option_map (retold k) (among xs n) → (if b then Some (named x.is.needed (definition_meant k)) else among (defined_by k xs) n) ≡ option_map (retold k) (if b then Some x.is else among xs n)
    one true h = refl
    one false h = h

first_none : (o : Option Named) → first_of o None ≡ o
first_none None = refl
first_none (Some w) = refl

grown_number : (before : Numbers) (i k needed j : ℕ) (m : Named) → before i ≡ None → m.needed ≡ needed → (b : Bool) → (i == j) ≡ b → first_of (option_map (named needed) (option_map definition_meant (before j))) (option_map (retold k) (if b then Some m else None)) ≡ option_map (named needed) (option_map definition_meant (if b then Some k else before j))
grown_number before i k needed j m none e true same =
    let at : i ≡ j = grind (arith, nat_tests) in
    ap (λ (o : Option ℕ). first_of (option_map (named needed) (option_map definition_meant o)) (Some (retold k m))) (ap before (sym at) ∙ none) ∙ ap (λ (x : ℕ). Some (named x (definition_meant k))) e
grown_number before i k needed j m none e false other = first_none (option_map (named needed) (option_map definition_meant (before j)))

grown_meant : (before : Numbers) (i k : ℕ) (w : Named) (m : Meant) → before i ≡ None → first_of (option_map (named w.needed) (numbered_meant before m)) (option_map (retold k) (meant_if i m w)) ≡ option_map (named w.needed) (numbered_meant (with_number before i k) m)
grown_meant before i k w (meant.Definition j) none = grown_number before i k w.needed j.0 w none refl (i == j.0) refl
grown_meant before i k w (meant.Slot j) none = refl
grown_meant before i k w (meant.Variable x) none = refl
grown_meant before i k w (meant.Known v) none = refl
grown_meant before i k w (meant.Set s) none = refl
grown_meant before i k w (meant.Standard o) none = refl

grown_one : (before : Numbers) (i k : ℕ) (o : Option Named) → before i ≡ None → first_of (numbered before o) (option_map (retold k) (only_definition i o)) ≡ numbered (with_number before i k) o
grown_one before i k None none = refl
grown_one before i k (Some w) none = grown_meant before i k w w.meant none

pub grown_are : (old new list : List Entry) (lists : List (List Entry)) (i k : ℕ) → new ≡ old ++ defined_by k list → list ≡ get_or lists i [] → (p : Program) (c : Config) (values : List Val) (before : Numbers) → AreByDefinition p c values lists → before i ≡ None → AreNames p c values before old → AreNames p c values (with_number before i k) new
grown_are old new list lists i k e at p c values before mean none h n =
    let listed : among list n ≡ only_definition i (declared_meaning p c values n) = ap (λ (l : List Entry). among l n) at ∙ mean i n in
    ap (λ (l : List Entry). among l n) e ∙ among_append old (defined_by k list) n
    ∙ ap (λ (o : Option Named). first_of o (among (defined_by k list) n)) (h n)
    ∙ ap (λ (o : Option Named). first_of (numbered before (declared_meaning p c values n)) o) (defined_among k list n ∙ ap (option_map (retold k)) listed)
    ∙ grown_one before i k (declared_meaning p c values n) none

defined_in : (count k : ℕ) (es : List Entry) → k < count → AreIn count (defined_by k es)
defined_in count k [] lt = All-nil (λ (x : Entry). IsIn count x.is.meant)
defined_in count k (x ∷ xs) lt = All-cons (λ (x : Entry). IsIn count x.is.meant) _ (defined_by k xs) lt (defined_in count k xs lt)

in_more : (before count : ℕ) → before ≤ count → (m : Meant) → IsIn before m → IsIn count m
in_more before count le (meant.Definition k) h = omega arith
in_more before count le (meant.Slot i) h = tt
in_more before count le (meant.Variable x) h = tt
in_more before count le (meant.Known v) h = tt
in_more before count le (meant.Set s) h = tt
in_more before count le (meant.Standard o) h = tt

pub grown_within : (old new list : List Entry) (k : ℕ) → new ≡ old ++ defined_by k list → (before count : ℕ) → AreIn before old → before ≤ count → k < count → AreIn count new
grown_within old new list k e before count h le lt =
    let kept : AreIn count old = λ i d within. in_more before count le (get_or old i d).is.meant (h i d within) in
    subst (λ (l : List Entry). AreIn count l) (sym e) (All-append (λ (x : Entry). IsIn count x.is.meant) old (defined_by k list) kept (defined_in count k list lt))

-- what a name means stands in range
pub among_in : (count : ℕ) (es : List Entry) (n : List ℕ) (x : Named) → AreIn count es → among es n ≡ Some x → IsIn count x.meant
among_in count [] n x h q = absurd (cc)
among_in count (e ∷ es) n x h q = one (bytes_eq e.name n) (among_in count es n x (All-tail (λ (y : Entry). IsIn count y.is.meant) e es h)) q
  where
    one : (b : Bool) → (among es n ≡ Some x → IsIn count x.meant) → (if b then Some e.is else among es n) ≡ Some x → IsIn count x.meant
    one true k r = (let same : e.is ≡ x = cc in subst (λ (w : Named). IsIn count w.meant) same (All-head (λ (y : Entry). IsIn count y.is.meant) e es h))
    one false k r = k r

-- one more list without a name
pub empty_behind : (lists : List (List Entry)) → ((i : ℕ) → get_or lists i [] ≡ []) → (i : ℕ) → get_or (lists ++ [] ∷ []) i [] ≡ []
empty_behind [] h zero = refl
empty_behind [] h (suc i) = refl
empty_behind (x ∷ xs) h zero = h 0
empty_behind (x ∷ xs) h (suc i) = empty_behind xs (λ j. h (suc j)) i
