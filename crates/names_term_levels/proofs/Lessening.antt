-- Where a note is told more, less is left to tell.
use Rattle.std.proofs.Common.{◌≡◌, ◌∙◌, List, [], ◌∷◌, inl, inr, subst, arith, refl, sym, ap, length, set, ◌<◌, ◌≤◌}
use Rattle.std.specs.Prelude.{◌⊎◌, ◌||◌, ℕ, zero, suc, Bool, true, false, if◌then◌else◌, Contains, IsTrue, Option, Some, None, slice_get}
use Rattle.names_term_parts.specs.declared.fault.LevelFault.{LevelFault}
use Rattle.names_term_parts.specs.FaultOrder.{is_before}
use Rattle.names_term_parts.specs.Marks.{has}
use Rattle.names_term_parts.proofs.Contained.{contains_cons, contains_nothing}
use Rattle.names_term_levels.specs.declared.note.Note.{Note}
use Rattle.names_term_levels.specs.Findings.{Reaches, Standing, Under, Wrong}
use Rattle.names_term_levels.specs.Telling.{count_before, earlier_left, GoesBefore, is_fair, goes_before, Learns, left_of, more_occur, more_primed, sum_of, TellsMore, unmarked}
use Rattle.names_term_levels.proofs.Order.{before_trans, not_before_itself, not_before_on}

pub by_test : (b : Bool) → (b ≡ true) ⊎ (b ≡ false)
by_test true = inl refl
by_test false = inr refl

-- marks
abbrev left_at : Bool → ℕ
left_at b = if b then 0 else 1

abbrev one_if : Bool → ℕ
one_if b = if b then 1 else 0

one_less : (a b : Bool) → (a ≡ true → b ≡ true) → (if b then 0 else 1) ≤ (if a then 0 else 1)
one_less true b h = let q : b ≡ true = h refl in subst (λ (c : Bool). (if c then 0 else 1) ≤ 0) (sym q) (omega arith)
one_less false true h = omega arith
one_less false false h = omega arith

unmarked_less : (n : ℕ) (old new : List Bool) → ((i : ℕ) → has old i ≡ true → has new i ≡ true) → unmarked n new ≤ unmarked n old
unmarked_less zero old new h = omega arith
unmarked_less (suc n) old new h = omega (arith, one_less (has old n) (has new n) (h n), unmarked_less n old new h)

unmarked_falls : (n i : ℕ) (old new : List Bool) → ((j : ℕ) → has old j ≡ true → has new j ≡ true) → i < n → has old i ≡ false → has new i ≡ true → unmarked n new < unmarked n old
unmarked_falls zero i old new h lt off on = absurd (omega (arith, lt))
unmarked_falls (suc n) i old new h lt off on = elim (last i n lt) [
  | inl e ↦
      let here : left_at (has new n) ≡ left_at true = ap left_at (ap (has new) (sym e) ∙ on) in
      let there : left_at (has old n) ≡ left_at false = ap left_at (ap (has old) (sym e) ∙ off) in
      omega (arith, here, there, unmarked_less n old new h)
  | inr below ↦ omega (arith, one_less (has old n) (has new n) (h n), unmarked_falls n i old new h below off on)
]
  where
    last : (i n : ℕ) → i < suc n → (i ≡ n) ⊎ (i < n)
    last i n lt = grind arith

-- faults
number_before : (b c : Bool) → (b ≡ true → c ≡ true) → (if b then 1 else 0) ≤ (if c then 1 else 0)
number_before true c h = let q : c ≡ true = h refl in subst (λ (d : Bool). 1 ≤ (if d then 1 else 0)) (sym q) (omega arith)
number_before false true h = omega arith
number_before false false h = omega arith

-- what goes before one that is not later goes before the other
before_on : (f g h : LevelFault) → is_before g f ≡ false → is_before h f ≡ true → is_before h g ≡ true
before_on f g h not_later before = elim (by_test (is_before h g)) [
  | inl held ↦ held
  | inr lost ↦ absurd (let q : true ≡ false = sym before ∙ not_before_on h g f lost not_later in cc)
]

count_less : (f g : LevelFault) (all : List LevelFault) → is_before g f ≡ false → count_before f all ≤ count_before g all
count_less f g [] h = omega arith
count_less f g (x ∷ all) h = omega (arith, number_before (is_before x f) (is_before x g) (before_on f g x h), count_less f g all h)

count_falls : (f g : LevelFault) (all : List LevelFault) → is_before f g ≡ true → is_before g f ≡ false → Contains all f → count_before f all < count_before g all
count_falls f g [] before later c = absurd (contains_nothing f c)
count_falls f g (x ∷ all) before later c = elim (contains_cons x all f c) [
  | inl e ↦
      let here : one_if (is_before x f) ≡ one_if false = ap one_if (ap (λ (y : LevelFault). is_before y f) e ∙ not_before_itself f) in
      let there : one_if (is_before x g) ≡ one_if true = ap one_if (ap (λ (y : LevelFault). is_before y g) e ∙ before) in
      omega (arith, here, there, count_less f g all later)
  | inr k ↦ omega (arith, number_before (is_before x f) (is_before x g) (before_on f g x later), count_falls f g all before later k)
]

count_few : (f : LevelFault) (all : List LevelFault) → count_before f all ≤ length all
count_few f [] = omega arith
count_few f (x ∷ all) = omega (arith, at_most_one (is_before x f), count_few f all)
  where
    at_most_one : (b : Bool) → (if b then 1 else 0) ≤ 1
    at_most_one true = omega arith
    at_most_one false = omega arith

-- what was found is kept, or something earlier
earlier_less : (all : List LevelFault) (old new : Option LevelFault) → ((f : LevelFault) → old ≡ Some f → Reaches new f) → earlier_left all new ≤ earlier_left all old
earlier_less all None None h = omega arith
earlier_less all None (Some g) h = omega (arith, count_few g all)
earlier_less all (Some f) None h = let r : Reaches None f = h f refl in absurd (let q : None ≡ Some r.0 = r.1 in cc)
earlier_less all (Some f) (Some g) h =
    let r : Reaches (Some g) f = h f refl in
    let same : g ≡ r.0 = cc (r.1) in
    count_less g f all (ap (λ y. is_before f y) same ∙ r.2)

earlier_falls : (all : List LevelFault) (old told new : Option LevelFault) → GoesBefore old told → ((f : LevelFault) → told ≡ Some f → Reaches new f) → ((f : LevelFault) → new ≡ Some f → Contains all f) → earlier_left all new < earlier_left all old
earlier_falls all old None new before h among = absurd before
earlier_falls all old (Some f) None before h among = let r : Reaches None f = h f refl in absurd (let q : None ≡ Some r.0 = r.1 in cc)
earlier_falls all None (Some f) (Some g) before h among = omega (arith, count_few g all)
earlier_falls all (Some e) (Some f) (Some g) before h among =
    let r : Reaches (Some g) f = h f refl in
    let same : g ≡ r.0 = cc (r.1) in
    let not_later : is_before f g ≡ false = ap (λ y. is_before f y) same ∙ r.2 in
    -- g is before e, since f is
    let first : is_before g e ≡ true = elim (by_test (is_before g e)) [ inl held ↦ held | inr lost ↦ absurd (let q : true ≡ false = sym before ∙ not_before_on f g e not_later lost in cc) ] in
    let back : is_before e g ≡ false = elim (by_test (is_before e g)) [ inl held ↦ absurd (let q : true ≡ false = sym (before_trans g e g first held) ∙ not_before_itself g in cc) | inr lost ↦ lost ] in
    count_falls g e all first back (among g refl)

-- one note
fair_less : (old told new : Bool) → new ≡ (old || told) → (if new then 0 else 1) ≤ (if old then 0 else 1)
fair_less true told new q = subst (λ (b : Bool). (if b then 0 else 1) ≤ 0) (sym q) (omega arith)
fair_less false told true q = omega arith
fair_less false told false q = omega arith

fair_falls : (old told new : Bool) → new ≡ (old || told) → told ≡ true → old ≡ false → (if new then 0 else 1) < (if old then 0 else 1)
fair_falls true told new q on off = absurd (cc)
fair_falls false false new q on off = absurd (cc)
fair_falls false true new q on off = subst (λ (b : Bool). (if b then 0 else 1) < 1) (sym q) (omega arith)

pub left_falls : (bound : ℕ) (all : List LevelFault) (old told new : Note) → Learns old told new → TellsMore old told → ((i : ℕ) → IsTrue (has told.occurs i) → i < bound) → ((i : ℕ) → IsTrue (has told.primed i) → i < bound) → ((f : LevelFault) → new.fault ≡ Some f → Contains all f) → left_of bound all new < left_of bound all old
left_falls bound all old told new learns more few few_primed among =
    let occurs_kept : (i : ℕ) → has old.occurs i ≡ true → has new.occurs i ≡ true = λ i h. learns.adds.kept (Standing i) h in
    let primed_kept : (i : ℕ) → has old.primed i ≡ true → has new.primed i ≡ true = λ i h. learns.adds.kept (Under i) h in
    let fault_kept : (f : LevelFault) → old.fault ≡ Some f → Reaches new.fault f = λ f h. learns.adds.kept (Wrong f) (f, h, not_before_itself f) in
    let a = unmarked_less bound old.occurs new.occurs occurs_kept in
    let b = unmarked_less bound old.primed new.primed primed_kept in
    let c = earlier_less all old.fault new.fault fault_kept in
    let d = fair_less old.fair told.fair new.fair learns.fair in
    by_more more a b c d
  where
    by_more : TellsMore old told → unmarked bound new.occurs ≤ unmarked bound old.occurs → unmarked bound new.primed ≤ unmarked bound old.primed → earlier_left all new.fault ≤ earlier_left all old.fault → (if new.fair then 0 else 1) ≤ (if old.fair then 0 else 1) → left_of bound all new < left_of bound all old
    by_more (more_occur l) a b c d = omega (arith, b, c, d, unmarked_falls bound l.0 old.occurs new.occurs (λ i h. learns.adds.kept (Standing i) h) (few l.0 l.1) l.2 (learns.adds.told (Standing l.0) l.1))
    by_more (more_primed l) a b c d = omega (arith, a, c, d, unmarked_falls bound l.0 old.primed new.primed (λ i h. learns.adds.kept (Under i) h) (few_primed l.0 l.1) l.2 (learns.adds.told (Under l.0) l.1))
    by_more (goes_before g) a b c d = omega (arith, a, b, d, earlier_falls all old.fault told.fault new.fault g (λ f h. learns.adds.told (Wrong f) h) among)
    by_more (is_fair on off) a b c d = omega (arith, a, b, c, fair_falls old.fair told.fair new.fair learns.fair on off)

-- one of a list
pub sum_set : {A : Type 0} (of : A → ℕ) (xs : List A) (k : ℕ) (x y : A) → slice_get xs k ≡ Some x → of y < of x → sum_of of (set xs k y) < sum_of of xs
sum_set of [] k x y is lt = absurd (cc)
sum_set of (z ∷ xs) zero x y is lt = let same : z ≡ x = cc in let e : of z ≡ of x = ap of same in omega (arith, lt, e)
sum_set of (z ∷ xs) (suc k) x y is lt = let rest : sum_of of (set xs k y) < sum_of of xs = sum_set of xs k x y is lt in omega (arith, rest)
