-- What LETs list while a table is filled: each definition without a name that comes into it is listed once.
use Rattle.std.proofs.Common.{◌≡◌, ◌≢◌, ◌∙◌, sym, ap, refl, subst, arith, inl, inr, ℕ, zero, suc, ◌+◌, ◌<◌, ◌≤◌, ◌⊎◌, List, [], ◌∷◌, ◌++◌, length, set, length-set, length-append, append-nil, append_assoc}
use Rattle.std.specs.Prelude.{◌==◌, true, false, Contains, Some, slice_get}
use Rattle.std.proofs.lemmas.Bool.Decides.{nat_tests}
use Rattle.std.proofs.lemmas.List.Elements.{Contains-append_left, Contains-append_right}
use Rattle.std.proofs.lemmas.Option.{slice_get_within}
use Rattle.base_use_order.proofs.Lists.{head_in, none_in, same_or_not, within_or_past}
use Rattle.names_terms.specs.declared.operator.Operator.{Operator}
use Rattle.names_terms.specs.Terms.{Term}
use Rattle.names_meanings.proofs.StandingOn.{at_end, in_front, set_elsewhere, set_there, stands_at}
use Rattle.names_outcome_laws.specs.Lets.{EachIsOfOneLet, IsOfLet, in_a_definition, in_an_assumption, in_another, is_empty, is_nameless, lets, lets_of_bodies, lets_of_terms, one_if, times}

-- ---- counting

pub times_append : (k : ℕ) (xs ys : List ℕ) → times k (xs ++ ys) ≡ times k xs + times k ys
times_append k [] ys = omega arith
times_append k (x ∷ xs) ys = omega (arith, times_append k xs ys)

abbrev pub nameless_at : List Operator → ℕ → ℕ
nameless_at ops k = one_if (is_nameless (slice_get ops k))

eq_self : (a : ℕ) → (a == a) ≡ true
eq_self a = grind (arith, nat_tests)

eq_no : (a b : ℕ) → a ≢ b → (a == b) ≡ false
eq_no a b n = grind (arith, nat_tests)

eq_next : (a b : ℕ) → (suc a == suc b) ≡ (a == b)
eq_next a b = elim (same_or_not a b) [
  | inl e ↦ (let next : suc a ≡ suc b = ap suc e in subst (λ (x : ℕ). (suc a == x) ≡ true) next (eq_self (suc a)) ∙ sym (subst (λ (x : ℕ). (a == x) ≡ true) e (eq_self a)))
  | inr n ↦ eq_no (suc a) (suc b) (λ e. n (omega (arith, e))) ∙ sym (eq_no a b n)
]

no_row : (k : ℕ) (o : Operator) → slice_get [] k ≡ Some o → ⊥
no_row zero o e = cc
no_row (suc k) o e = cc

-- one row more at the end
nameless_end : (ops : List Operator) (o : Operator) (k : ℕ) → is_empty o.name ≡ true → nameless_at (ops ++ o ∷ []) k ≡ nameless_at ops k + one_if (length ops == k)
nameless_end [] o zero e = ap one_if e
nameless_end [] o (suc k) e = (let no : (0 == suc k) ≡ false = eq_no 0 (suc k) (λ q. omega (arith, q)) in let none : one_if (0 == suc k) ≡ 0 = ap one_if no in omega (arith, none))
nameless_end (x ∷ ops) o zero e = (let no : (suc (length ops) == 0) ≡ false = eq_no (suc (length ops)) 0 (λ q. omega (arith, q)) in let none : one_if (suc (length ops) == 0) ≡ 0 = ap one_if no in omega (arith, none))
nameless_end (x ∷ ops) o (suc k) e = (let next : one_if (suc (length ops) == suc k) ≡ one_if (length ops == k) = ap one_if (eq_next (length ops) k) in omega (arith, nameless_end ops o k e, next))

named_end : (ops : List Operator) (o : Operator) (k : ℕ) → is_empty o.name ≡ false → nameless_at (ops ++ o ∷ []) k ≡ nameless_at ops k
named_end [] o zero e = ap one_if e
named_end [] o (suc k) e = refl
named_end (x ∷ ops) o zero e = refl
named_end (x ∷ ops) o (suc k) e = named_end ops o k e

-- another row of the same name in place of one
nameless_set : (ops : List Operator) (n : ℕ) (o r : Operator) (k : ℕ) → slice_get ops n ≡ Some o → r.name ≡ o.name → nameless_at (set ops n r) k ≡ nameless_at ops k
nameless_set [] n o r k at e = absurd (no_row n o at)
nameless_set (x ∷ ops) zero o r zero at e = (let same : x ≡ o = cc in ap (λ (n : List ℕ). one_if (is_empty n)) (e ∙ sym (ap (λ (q : Operator). q.name) same)))
nameless_set (x ∷ ops) zero o r (suc k) at e = refl
nameless_set (x ∷ ops) (suc n) o r zero at e = refl
nameless_set (x ∷ ops) (suc n) o r (suc k) at e = nameless_set ops n o r k at e

bodies_end : (k : ℕ) (ops : List Operator) (o : Operator) → times k (lets_of_bodies (ops ++ o ∷ [])) ≡ times k (lets_of_bodies ops) + times k (lets o.body)
bodies_end k [] o = omega (arith, times_append k (lets o.body) [])
bodies_end k (x ∷ ops) o =
    omega (arith, bodies_end k ops o, times_append k (lets x.body) (lets_of_bodies (ops ++ o ∷ [])), times_append k (lets x.body) (lets_of_bodies ops))

bodies_set : (k : ℕ) (ops : List Operator) (n : ℕ) (o r : Operator) → slice_get ops n ≡ Some o → lets o.body ≡ []
    → times k (lets_of_bodies (set ops n r)) ≡ times k (lets_of_bodies ops) + times k (lets r.body)
bodies_set k [] n o r at e = absurd (no_row n o at)
bodies_set k (x ∷ ops) zero o r at e =
    let same : x ≡ o = cc in
    let none : times k (lets x.body) ≡ 0 = ap (λ (q : Operator). times k (lets q.body)) same ∙ ap (times k) e in
    omega (arith, none, times_append k (lets r.body) (lets_of_bodies ops), times_append k (lets x.body) (lets_of_bodies ops))
bodies_set k (x ∷ ops) (suc n) o r at e =
    omega (arith, bodies_set k ops n o r at e, times_append k (lets x.body) (lets_of_bodies (set ops n r)), times_append k (lets x.body) (lets_of_bodies ops))

-- ---- what stays

-- each row stays one of its name, and its body lists what it did
abbrev pub KeepsLets : List Operator → List Operator → Type 0
KeepsLets a b = (j : ℕ) (o : Operator) → slice_get a j ≡ Some o → (q : Operator) × (slice_get b j ≡ Some q) × (q.name ≡ o.name) × ((k : ℕ) → Contains (lets o.body) k → Contains (lets q.body) k)

pub keeps_same : (a : List Operator) → KeepsLets a a
keeps_same a j o at = (o, at, refl, λ k c. c)

pub keeps_on : (a b c : List Operator) → KeepsLets a b → KeepsLets b c → KeepsLets a c
keeps_on a b c f g j o at =
    let one = f j o at in
    let two = g j one.0 one.1 in
    (two.0, two.1, two.2 ∙ one.2, λ k h. two.3 k (one.3 k h))

keeps_end : (a : List Operator) (o : Operator) → KeepsLets a (a ++ o ∷ [])
keeps_end a o j q at = (q, in_front a (o ∷ []) j q at, refl, λ k c. c)

keeps_set : (a : List Operator) (n : ℕ) (o r : Operator) → slice_get a n ≡ Some o → r.name ≡ o.name → lets o.body ≡ [] → KeepsLets a (set a n r)
keeps_set a n o r there named none j q at = elim (same_or_not j n) [
  | inl e ↦
      let here : Some q ≡ Some o = sym at ∙ ap (λ (x : ℕ). slice_get a x) e ∙ there in
      let same : q ≡ o = cc in (
        r,
        ap (λ (x : ℕ). slice_get (set a n r) x) e ∙ set_there a n r o there,
        named ∙ sym (ap (λ (x : Operator). x.name) same),
        λ k c. absurd (none_in k (subst (λ (l : List ℕ). Contains l k) (ap (λ (x : Operator). lets x.body) same ∙ none) c)),
      )
  | inr other ↦ (q, set_elsewhere a n j r q other at, refl, λ k c. c)
]

-- ---- what comes of lists

-- the number is in the list, or a body lists it whose definition comes so
pub data Comes (ops : List Operator) (xs : List ℕ) : ℕ → Type 0 where
  at_once : (k : ℕ) → Contains xs k → Comes ops xs k
  through : (j k : ℕ) (o : Operator) → Comes ops xs j → slice_get ops j ≡ Some o → Contains (lets o.body) k → Comes ops xs k

comes_on : (a b : List Operator) (xs ys : List ℕ) → KeepsLets a b → ((k : ℕ) → Contains xs k → Comes b ys k) → (k : ℕ) → Comes a xs k → Comes b ys k
comes_on a b xs ys keeps f _ (at_once k c) = f k c
comes_on a b xs ys keeps f _ (through j k o r at c) =
    let q = keeps j o at in
    through j k q.0 (comes_on a b xs ys keeps f j r) q.1 (q.3 k c)

-- ---- one part after another

-- Behind the first table more definitions stand in the second, of which the list names some, and bodies the others, each once.
pub record AddsLets (a b : List Operator) (xs : List ℕ) : Type 0 where
  pub counted : (k : ℕ) → times k (lets_of_bodies b) + times k xs + nameless_at a k ≡ times k (lets_of_bodies a) + nameless_at b k
  pub comes : (k : ℕ) → length a ≤ k → k < length b → Comes b xs k
  pub keeps : KeepsLets a b

pub adds_none : (a : List Operator) → AddsLets a a []
adds_none a = record { counted = λ k. omega arith; comes = λ k le lt. absurd (omega (arith, le, lt)); keeps = keeps_same a }

pub adds_both : (a b c : List Operator) (xs ys : List ℕ) → AddsLets a b xs → AddsLets b c ys → AddsLets a c (xs ++ ys)
adds_both a b c xs ys p q = record {
  counted = λ k. omega (arith, p.counted k, q.counted k, times_append k xs ys);
  comes = λ k le lt. by_row k le lt (within_or_past k (length b));
  keeps = keeps_on a b c p.keeps q.keeps;
}
  where
    by_row : (k : ℕ) → length a ≤ k → k < length c → (k < length b) ⊎ (length b ≤ k) → Comes c (xs ++ ys) k
    by_row k le lt (inl less) = comes_on b c xs (xs ++ ys) q.keeps (λ j h. at_once j (Contains-append_left xs ys j h)) k (p.comes k le less)
    by_row k le lt (inr past) = comes_on c c ys (xs ++ ys) (keeps_same c) (λ j h. at_once j (Contains-append_right xs ys j h)) k (q.comes k past lt)

one_time : (k n : ℕ) → times k (n ∷ []) ≡ one_if (n == k)
one_time k n = omega arith

in_end : (a : List Operator) (o : Operator) (k : ℕ) → k < length (a ++ o ∷ []) → (k < length a) ⊎ (k ≡ length a)
in_end a o k lt = elim (within_or_past k (length a)) [
  | inl less ↦ inl less
  | inr past ↦ inr (omega (arith, past, lt, length-append a (o ∷ [])))
]

-- a definition of a LET that does not use itself comes behind those of its body
pub adds_row : (a b : List Operator) (o : Operator) → is_empty o.name ≡ true → AddsLets a b (lets o.body) → AddsLets a (b ++ o ∷ []) (length b ∷ [])
adds_row a b o none p = record {
  counted = λ k. omega (arith, p.counted k, bodies_end k b o, nameless_end b o k none, one_time k (length b));
  comes = λ k le lt. by_row k le (in_end b o k lt);
  keeps = keeps_on a b (b ++ o ∷ []) p.keeps (keeps_end b o);
}
  where
    by_row : (k : ℕ) → length a ≤ k → (k < length b) ⊎ (k ≡ length b) → Comes (b ++ o ∷ []) (length b ∷ []) k
    by_row k le (inl less) =
        comes_on b (b ++ o ∷ []) (lets o.body) (length b ∷ []) (keeps_end b o) (λ j h. through (length b) j o (at_once (length b) (head_in (length b) [])) (at_end b o) h) k
        (p.comes k le less)
    by_row k le (inr same) = subst (λ (n : ℕ). Comes (b ++ o ∷ []) (length b ∷ []) n) (sym same) (at_once (length b) (head_in (length b) []))

-- one that uses itself has its place before them, and gets its body then
pub adds_function : (a b : List Operator) (o q r : Operator) → is_empty o.name ≡ true → lets o.body ≡ [] → AddsLets (a ++ o ∷ []) b (lets r.body) → slice_get b (length a) ≡ Some q
    → r.name ≡ q.name → lets q.body ≡ [] → AddsLets a (set b (length a) r) (length a ∷ [])
adds_function a b o q r none nothing p there named empty = record {
  counted = λ k.
      let nothing_more : times k (lets o.body) ≡ 0 = ap (times k) nothing in
      omega (arith, p.counted k, bodies_end k a o, nothing_more, nameless_end a o k none, bodies_set k b (length a) q r there empty, nameless_set b (length a) q r k there named, one_time k (length a));
  comes = λ k le lt. by_row k le lt (same_or_not k (length a));
  keeps = keeps_on a (a ++ o ∷ []) (set b (length a) r) (keeps_end a o) (keeps_on (a ++ o ∷ []) b (set b (length a) r) p.keeps kept);
}
  where
    kept : KeepsLets b (set b (length a) r)
    kept = keeps_set b (length a) q r there named empty

    by_row : (k : ℕ) → length a ≤ k → k < length (set b (length a) r) → (k ≡ length a) ⊎ (k ≢ length a) → Comes (set b (length a) r) (length a ∷ []) k
    by_row k le lt (inl same) = subst (λ (n : ℕ). Comes (set b (length a) r) (length a ∷ []) n) (sym same) (at_once (length a) (head_in (length a) []))
    by_row k le lt (inr other) =
        let past : length (a ++ o ∷ []) ≤ k = omega (arith, le, other, length-append a (o ∷ [])) in
        let less : k < length b = omega (arith, lt, length-set b (length a) r) in
        comes_on b (set b (length a) r) (lets r.body) (length a ∷ []) kept
        (λ j h. through (length a) j r (at_once (length a) (head_in (length a) [])) (set_there b (length a) r q there) h) k (p.comes k past less)

-- ---- the table of a program, while it is filled

pub record LetsSoFar (ops : List Operator) : Type 0 where
  pub counted : (k : ℕ) → times k (lets_of_bodies ops) ≡ nameless_at ops k
  pub of_let : (k : ℕ) (o : Operator) → slice_get ops k ≡ Some o → o.name ≡ [] → IsOfLet ops [] k

pub none_so_far : LetsSoFar []
none_so_far = record { counted = none_counted; of_let = λ k o at none. absurd (no_row k o at) }
  where
    none_counted : (k : ℕ) → times k (lets_of_bodies []) ≡ nameless_at [] k
    none_counted zero = refl
    none_counted (suc k) = refl

-- what is of a LET stays so
of_let_on : (a b : List Operator) (assumes : List Term) → KeepsLets a b → (k : ℕ) → IsOfLet a [] k → IsOfLet b assumes k
of_let_on a b assumes keeps _ (in_a_definition j k o at named c) =
    let q = keeps j o at in
    in_a_definition j k q.0 q.1 (λ e. named (sym q.2 ∙ e)) (q.3 k c)
of_let_on a b assumes keeps _ (in_an_assumption k c) = absurd (none_in k c)
of_let_on a b assumes keeps _ (in_another j k o r at c) =
    let q = keeps j o at in
    in_another j k q.0 (of_let_on a b assumes keeps j r) q.1 (q.3 k c)

-- and so is what comes of such
of_comes : (a b : List Operator) (assumes : List Term) (xs : List ℕ) → KeepsLets a b → ((k : ℕ) → Contains xs k → IsOfLet b assumes k) → (k : ℕ) → Comes a xs k → IsOfLet b assumes k
of_comes a b assumes xs keeps f _ (at_once k c) = f k c
of_comes a b assumes xs keeps f _ (through j k o r at c) =
    let q = keeps j o at in
    in_another j k q.0 (of_comes a b assumes xs keeps f j r) q.1 (q.3 k c)

one_row : (o q : Operator) → Some o ≡ Some q → o ≡ q
one_row o q e = cc

-- each row without a name, whether it stood there before or came later
all_of_let : (ops mid end : List Operator) (assumes : List Term) (xs : List ℕ) → LetsSoFar ops → AddsLets ops mid xs → KeepsLets mid end → ((k : ℕ) → Contains xs k → IsOfLet end assumes k)
    → (k : ℕ) (o : Operator) → slice_get mid k ≡ Some o → o.name ≡ [] → IsOfLet end assumes k
all_of_let ops mid end assumes xs so adds keeps f k o at none = elim (within_or_past k (length ops)) [
  | inl less ↦
      let before = stands_at ops k less in
      let later = adds.keeps k before.0 before.1 in
      let same : later.0 ≡ o = one_row later.0 o (sym later.1 ∙ at) in
      of_let_on ops end assumes (keeps_on ops mid end adds.keeps keeps) k (so.of_let k before.0 before.1 (sym later.2 ∙ ap (λ (q : Operator). q.name) same ∙ none))
  | inr past ↦ of_comes mid end assumes xs keeps f k (adds.comes k past (slice_get_within mid k o at))
]

not_empty : (n : List ℕ) → n ≢ [] → is_empty n ≡ false
not_empty [] h = absurd (h refl)
not_empty (c ∷ cs) h = refl

at_the_end : (a : List Operator) (o q : Operator) (k : ℕ) → slice_get (a ++ o ∷ []) k ≡ Some q → (slice_get a k ≡ Some q) ⊎ (o ≡ q)
at_the_end [] o q zero at = (let same : o ≡ q = cc in inr same)
at_the_end [] o q (suc k) at = absurd (no_row k q at)
at_the_end (x ∷ a) o q zero at = inl at
at_the_end (x ∷ a) o q (suc k) at = at_the_end a o q k at

-- a definition of the program was added behind those of its LETs
pub named_so_far : (ops mid : List Operator) (o : Operator) → o.name ≢ [] → LetsSoFar ops → AddsLets ops mid (lets o.body) → LetsSoFar (mid ++ o ∷ [])
named_so_far ops mid o named so adds = record {
  counted = λ k. omega (arith, so.counted k, adds.counted k, bodies_end k mid o, named_end mid o k (not_empty o.name named));
  of_let = λ k q at none. elim (at_the_end mid o q k at) [
    | inl before ↦ all_of_let ops mid (mid ++ o ∷ []) [] (lets o.body) so adds (keeps_end mid o) (λ j c. in_a_definition (length mid) j o (at_end mid o) named c) k q before none
    | inr same ↦ absurd (named (ap (λ (x : Operator). x.name) same ∙ none))
  ];
}

-- it got its body later
pub settled_so_far : (ops mid : List Operator) (n : ℕ) (o r : Operator) → o.name ≢ [] → lets o.body ≡ [] → r.name ≡ o.name → slice_get mid n ≡ Some o → LetsSoFar ops
    → AddsLets ops mid (lets r.body) → LetsSoFar (set mid n r)
settled_so_far ops mid n o r named nothing same there so adds = record {
  counted = λ k. omega (arith, so.counted k, adds.counted k, bodies_set k mid n o r there nothing, nameless_set mid n o r k there same);
  of_let = λ k q at none. by_row k q at none (same_or_not k n);
}
  where
    placed : slice_get (set mid n r) n ≡ Some r
    placed = set_there mid n r o there

    has_name : r.name ≢ []
    has_name e = named (sym same ∙ e)

    elsewhere : (xs : List Operator) (m k : ℕ) (x q : Operator) → k ≢ m → slice_get (set xs m x) k ≡ Some q → slice_get xs k ≡ Some q
    elsewhere [] m k x q ne at = at
    elsewhere (y ∷ ys) zero zero x q ne at = absurd (ne refl)
    elsewhere (y ∷ ys) zero (suc k) x q ne at = at
    elsewhere (y ∷ ys) (suc m) zero x q ne at = at
    elsewhere (y ∷ ys) (suc m) (suc k) x q ne at = elsewhere ys m k x q (λ e. ne (ap suc e)) at

    by_row : (k : ℕ) (q : Operator) → slice_get (set mid n r) k ≡ Some q → q.name ≡ [] → (k ≡ n) ⊎ (k ≢ n) → IsOfLet (set mid n r) [] k
    by_row k q at none (inl e) =
        let is : r ≡ q = one_row r q (sym placed ∙ sym (ap (λ (x : ℕ). slice_get (set mid n r) x) e) ∙ at) in
        absurd (has_name (ap (λ (x : Operator). x.name) is ∙ none))
    by_row k q at none (inr other) =
        all_of_let ops mid (set mid n r) [] (lets r.body) so adds (keeps_set mid n o r there same nothing) (λ j c. in_a_definition n j r placed has_name c) k q (elsewhere mid n k r q other at) none

-- and what is assumed was read behind the table
pub each_is_of_one : (ops all : List Operator) (assumes : List Term) → LetsSoFar ops → AddsLets ops all (lets_of_terms assumes) → EachIsOfOneLet all assumes
each_is_of_one ops all assumes so adds = record {
  is = all_of_let ops all all assumes (lets_of_terms assumes) so adds (keeps_same all) (λ k c. in_an_assumption k c);
  once = λ k. omega (arith, so.counted k, adds.counted k, times_append k (lets_of_bodies all) (lets_of_terms assumes));
}

pub lets_more : (es : List Term) (e : Term) → lets_of_terms (es ++ e ∷ []) ≡ lets_of_terms es ++ lets e
lets_more [] e = append-nil (lets e)
lets_more (x ∷ es) e = ap (λ (l : List ℕ). lets x ++ l) (lets_more es e) ∙ sym (append_assoc (lets x) (lets_of_terms es) (lets e))
