-- From no mark on to the least ones, turn by turn.
use Rattle.std.proofs.Common.{◌≡◌, ◌∙◌, refl, sym, ap, subst, arith, List, [], ◌∷◌, ◌++◌, length, map, get_or, slice_set}
use Rattle.std.specs.Bool.{beq}
use Rattle.std.specs.Cmp.Lexicographic.{pointwise, pointwise_decides}
use Rattle.std.specs.Prelude.{◌<◌, ℕ, zero, suc, Bool, true, false, replicate, Decides, IsTrue}
use Rattle.reading_trees.specs.declared.expr.Definition.{Definition}
use Rattle.names_found_levels.specs.OnTheWay.{Stands}
use Rattle.names_found_levels.specs.Raised.{Marks, names_marked, own, raise}
use Rattle.names_found_levels.proofs.Raising.{raised}
use Rattle.names_found_levels.proofs.Telling.{told_bound}
use Rattle.names_least_levels.specs.declared.told.NameLevel.{NameLevel}
use Rattle.names_least_levels.specs.Levels.{names_rise, body_rises, each_rises, AtMost, AreLeast, none_of}
use Rattle.names_least_levels.specs.Rising.{Rising, rises, with_own, without}
use Rattle.names_least_levels.proofs.Monotone.{marks_below, no_true}
use Rattle.names_least_levels.proofs.Walking.{missing, missing_less, none_least, each_length, same_are_one}

pub none_stands : (names : List NameLevel) (ds : List Definition) → Stands names ds (none_of ds)
none_stands names ds = record {
  up = none_least ds (each_rises names (none_of ds) ds) (each_length names (none_of ds) ds);
  under = λ xs l. none_least ds xs (sym (ap (λ (z : List Bool). length z) l) ∙ each_length names xs ds);
}

pub next_stands : (names : List NameLevel) (ds : List Definition) (bs : List Bool) → Stands names ds bs → Stands names ds (each_rises names bs ds)
next_stands names ds bs s = record {
  up = marks_below names bs (each_rises names bs ds) s.up ds;
  under = λ xs l. subst (λ (z : List Bool). AtMost (each_rises names bs ds) z) l (marks_below names bs xs (s.under xs l) ds);
}

pub least_found : (names : List NameLevel) (ds : List Definition) (bs : List Bool) → Stands names ds bs → each_rises names bs ds ≡ bs → AreLeast names ds bs
least_found names ds bs s q = record { levels = q; least = s.under }

pub fewer_missing : (names : List NameLevel) (ds : List Definition) (bs : List Bool) → Stands names ds bs → (each_rises names bs ds ≡ bs → ⊥) → missing (each_rises names bs ds) < missing bs
fewer_missing names ds bs s n = missing_less bs (each_rises names bs ds) s.up (λ h. n (same_are_one (each_rises names bs ds) bs h))

-- a body whose parameters are bound
pub body_found : (names : List NameLevel) (bs : List Bool) (d : Definition) → raise (names_rise names bs) (names_marked d.params) false d.body ≡ body_rises names bs d
body_found names bs d = raised d.body (names_rise names bs) (names_marked d.params) false ∙ ap (λ (g : Rising). rises g d.body) (told_bound (names_rise names bs) d.params)

-- as many marks as definitions, none of them true
pub none_marked : {A : Type 0} (f : A → Definition) (xs : List A) → replicate (length xs) false ≡ none_of (map f xs)
none_marked f [] = refl
none_marked f (x ∷ xs) = ap (λ (z : List Bool). false ∷ z) (none_marked f xs)

-- ---- the steps of the functions that find them

-- a body in what its walk begins with
pub body_turned : (names : List NameLevel) (bs : List Bool) (d : Definition) (a0 a1 : Marks) (ps : List (List ℕ)) (r : Bool) → a0 ≡ [] → ps ≡ d.params → a1 ≡ a0 ++ names_marked ps → r ≡ raise (names_rise names bs) a1 false d.body → r ≡ body_rises names bs d
body_turned names bs d a0 a1 ps r z p m e =
    let around : a1 ≡ names_marked d.params = m ∙ ap (λ (l : Marks). l ++ names_marked ps) z ∙ ap (λ (l : List (List ℕ)). names_marked l) p in
    e ∙ ap (λ (l : Marks). raise (names_rise names bs) l false d.body) around ∙ body_found names bs d

-- the body of a definition of a LET in what its walk begins with
pub local_turned : (names : List NameLevel) (d : Definition) (a0 a1 a2 : Marks) (ps : List (List ℕ)) (r : Bool) → a0 ≡ [] → a1 ≡ a0 ++ own d.name → ps ≡ d.params → a2 ≡ a1 ++ names_marked ps → r ≡ raise (names_rise names []) a2 false d.body
    → r ≡ rises (without (with_own (names_rise names []) d.name) d.params) d.body
local_turned names d a0 a1 a2 ps r z o p m e =
    let g : Rising = names_rise names [] in
    let around : a2 ≡ own d.name ++ names_marked d.params = m ∙ ap (λ (l : Marks). l ++ names_marked ps) (o ∙ ap (λ (l : Marks). l ++ own d.name) z) ∙ ap (λ (l : List (List ℕ)). own d.name ++ names_marked l) p in
    e ∙ ap (λ (l : Marks). raise g l false d.body) around ∙ raised d.body g (own d.name ++ names_marked d.params) false ∙ ap (λ (h : Rising). rises h d.body) (told_bound (with_own g d.name) d.params)

-- two lists of marks, mark by mark
bools_decide : (a b : Bool) → Decides (beq a b) (a ≡ b)
bools_decide true true = (λ h. refl, λ e. refl)
bools_decide true false = (λ h. sym h, λ e. sym e)
bools_decide false true = (λ h. h, λ e. e)
bools_decide false false = (λ h. refl, λ e. refl)

pub marks_decide : (bs cs : List Bool) (t : Bool) → t ≡ pointwise beq bs cs → Decides t (bs ≡ cs)
marks_decide bs cs t e = subst (λ (b : Bool). Decides b (bs ≡ cs)) (sym e) (pointwise_decides bools_decide bs cs)

pub marks_begun : {A : Type 0} (f : A → Definition) (names : List NameLevel) (xs : List A) (bs : List Bool) → bs ≡ replicate (length xs) false → Stands names (map f xs) bs
marks_begun f names xs bs e = subst (λ (l : List Bool). Stands names (map f xs) l) (sym (e ∙ none_marked f xs)) (none_stands names (map f xs))

pub marks_turned : (names : List NameLevel) (ds : List Definition) (bs ms ns : List Bool) → ms ≡ bs → ns ≡ each_rises names ms ds → Stands names ds bs → Stands names ds ns
marks_turned names ds bs ms ns m n s = subst (λ (l : List Bool). Stands names ds l) (sym (n ∙ ap (λ (l : List Bool). each_rises names l ds) m)) (next_stands names ds bs s)

pub marks_fewer : (names : List NameLevel) (ds : List Definition) (bs ms ns : List Bool) → ms ≡ bs → ns ≡ each_rises names ms ds → Stands names ds bs → (ns ≡ bs → ⊥) → missing ns < missing bs
marks_fewer names ds bs ms ns m n s differ =
    let is : ns ≡ each_rises names bs ds = n ∙ ap (λ (l : List Bool). each_rises names l ds) m in
    subst (λ (l : List Bool). missing l < missing bs) (sym is) (fewer_missing names ds bs s (λ h. differ (is ∙ h)))

pub marks_not : (bs cs xs ys : List Bool) (t : Bool) → (bs ≡ cs → IsTrue t) → t ≡ false → bs ≡ xs → cs ≡ ys → xs ≡ ys → ⊥
marks_not bs cs xs ys t f n p q h = no_true (subst IsTrue n (f (p ∙ h ∙ sym q)))

pub marks_found : (names : List NameLevel) (ds : List Definition) (bs ms ns : List Bool) → ms ≡ bs → ns ≡ each_rises names ms ds → Stands names ds bs → ns ≡ bs → AreLeast names ds bs
marks_found names ds bs ms ns m n s same = least_found names ds bs s (sym (n ∙ ap (λ (l : List Bool). each_rises names l ds) m) ∙ same)

-- ---- one mark raised in place

all_at_most : (bs : List Bool) → AtMost bs bs
all_at_most [] = tt
all_at_most (b ∷ bs) = (λ t. t, all_at_most bs)

at_most_trans : (xs ys zs : List Bool) → AtMost xs ys → AtMost ys zs → AtMost xs zs
at_most_trans [] [] zs f g = g
at_most_trans [] (y ∷ ys) zs f g = absurd f
at_most_trans (x ∷ xs) [] zs f g = absurd f
at_most_trans (x ∷ xs) (y ∷ ys) [] f g = absurd g
at_most_trans (x ∷ xs) (y ∷ ys) (z ∷ zs) f g = (λ t. g.0 (f.0 t), at_most_trans xs ys zs f.1 g.1)

at_most_length : (xs ys : List Bool) → AtMost xs ys → length xs ≡ length ys
at_most_length [] [] h = refl
at_most_length [] (y ∷ ys) h = absurd h
at_most_length (x ∷ xs) [] h = absurd h
at_most_length (x ∷ xs) (y ∷ ys) h = ap suc (at_most_length xs ys h.1)

set_between : (bs es : List Bool) (i : ℕ) (r : Bool) → AtMost bs es → i < length bs → r ≡ get_or es i r → AtMost bs (slice_set bs i r) × AtMost (slice_set bs i r) es
set_between [] [] i r h lt q = absurd (omega (arith, lt))
set_between [] (e ∷ es) i r h lt q = absurd h
set_between (b ∷ bs) [] i r h lt q = absurd h
set_between (b ∷ bs) (e ∷ es) zero r h lt q = ((λ t. subst IsTrue (sym q) (h.0 t), all_at_most bs), (λ t. subst IsTrue q t, h.1))
set_between (b ∷ bs) (e ∷ es) (suc i) r h lt q =
    let less : i < length bs = omega (arith, lt) in
    let rest : AtMost bs (slice_set bs i r) × AtMost (slice_set bs i r) es = set_between bs es i r h.1 less q in
    ((λ t. t, rest.0), (h.0, rest.1))

each_at : (names : List NameLevel) (bs : List Bool) (ds : List Definition) (i : ℕ) (d : Definition) (r : Bool) → i < length ds → d ≡ get_or ds i d → r ≡ body_rises names bs d → r ≡ get_or (each_rises names bs ds) i r
each_at names bs [] i d r lt e q = absurd (omega (arith, lt))
each_at names bs (x ∷ ds) zero d r lt e q = q ∙ ap (λ (y : Definition). body_rises names bs y) e
each_at names bs (x ∷ ds) (suc i) d r lt e q = let less : i < length ds = omega (arith, lt) in each_at names bs ds i d r less e q

pub stands_length : (names : List NameLevel) (ds : List Definition) (bs : List Bool) → Stands names ds bs → length bs ≡ length ds
stands_length names ds bs s = at_most_length bs (each_rises names bs ds) s.up ∙ each_length names bs ds

stands_between : (names : List NameLevel) (ds : List Definition) (bs cs : List Bool) → Stands names ds bs → AtMost bs cs → AtMost cs (each_rises names bs ds) → Stands names ds cs
stands_between names ds bs cs s f g = record {
  up = at_most_trans cs (each_rises names bs ds) (each_rises names cs ds) g (marks_below names bs cs f ds);
  under = λ xs l. at_most_trans cs (each_rises names bs ds) xs g (subst (λ (z : List Bool). AtMost (each_rises names bs ds) z) l (marks_below names bs xs (s.under xs l) ds));
}

pub raised_one : (names : List NameLevel) (ds : List Definition) (bs ms : List Bool) (i : ℕ) (d : Definition) (r : Bool) → Stands names ds bs → i < length ds → d ≡ get_or ds i d → ms ≡ bs → r ≡ body_rises names ms d → Stands names ds (slice_set bs i r)
raised_one names ds bs ms i d r s lt e m q =
    let there : r ≡ get_or (each_rises names bs ds) i r = each_at names bs ds i d r lt e (q ∙ ap (λ (l : List Bool). body_rises names l d) m) in
    let long : i < length bs = omega (arith, lt, stands_length names ds bs s) in
    let both : AtMost bs (slice_set bs i r) × AtMost (slice_set bs i r) (each_rises names bs ds) = set_between bs (each_rises names bs ds) i r s.up long there in
    stands_between names ds bs (slice_set bs i r) s both.0 both.1

pub read_there : {A : Type 0} (f : A → Definition) (xs : List A) (i : ℕ) (x : A) → i < length xs → x ≡ get_or xs i x → f x ≡ get_or (map f xs) i (f x)
read_there f [] i x lt e = absurd (omega (arith, lt))
read_there f (y ∷ ys) zero x lt e = ap f e
read_there f (y ∷ ys) (suc i) x lt e = let less : i < length ys = omega (arith, lt) in read_there f ys i x less e
