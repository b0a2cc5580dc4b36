-- The order of faults in a text, and the first of several.
use Rattle.std.proofs.Common.{◌≡◌, ◌∙◌, sym, ap, refl, List, inl, inr}
use Rattle.std.specs.Prelude.{◌⊎◌, ℕ, Bool, true, false, Option, Some, None, if◌then◌else◌}
use Rattle.std.specs.Ordering.{nat_cmp, is_lt, is_gt, ordering_reverse}
use Rattle.std.specs.Cmp.Lexicographic.{slice_cmp}
use Rattle.std.specs.declared.cmp.Ordering.{Ordering}
use Rattle.std.specs.declared.cmp.Ordering.TheVariants.{Less, Equal, Greater}
use Rattle.std.proofs.lemmas.Cmp.{nat_list_cmp_total, tied_itself, upto}
use Rattle.names_term_parts.specs.declared.fault.LevelFault.{LevelFault}
use Rattle.names_term_parts.specs.FaultOrder.{is_before, standing, earlier}
use Rattle.names_term_levels.specs.Findings.{Reaches}

less : (o : Ordering) → is_lt o ≡ true → o ≡ Less
less Less h = refl
less Equal h = cc
less Greater h = cc

is_less : (o : Ordering) → o ≡ Less → is_lt o ≡ true
is_less o h = ap is_lt h

-- the order of lists of numbers, with the lists as they are
list_trans : (x y z : List ℕ) → is_lt (slice_cmp nat_cmp x y) ≡ true → is_lt (slice_cmp nat_cmp y z) ≡ true → is_lt (slice_cmp nat_cmp x z) ≡ true
list_trans x y z h k = is_less (slice_cmp nat_cmp x z) (nat_list_cmp_total.trans x y z (less (slice_cmp nat_cmp x y) h) (less (slice_cmp nat_cmp y z) k))

list_itself : (x : List ℕ) → is_lt (slice_cmp nat_cmp x x) ≡ false
list_itself x = ap is_lt (tied_itself nat_list_cmp_total x)

pub before_trans : (f g h : LevelFault) → is_before f g ≡ true → is_before g h ≡ true → is_before f h ≡ true
before_trans f g h a b = list_trans (standing f) (standing g) (standing h) a b

pub not_before_itself : (f : LevelFault) → is_before f f ≡ false
not_before_itself f = list_itself (standing f)

by_cases : (b : Bool) → (b ≡ true) ⊎ (b ≡ false)
by_cases true = inl refl
by_cases false = inr refl

-- what is not before one that another precedes is not before that other
pub not_before : (f g h : LevelFault) → is_before f g ≡ false → is_before h g ≡ true → is_before f h ≡ false
not_before f g h a b = elim (by_cases (is_before f h)) [
  | inl c ↦ absurd (let q : true ≡ false = sym (before_trans f h g c b) ∙ a in cc)
  | inr c ↦ c
]

-- the earlier of two reaches what either did
earlier_test : (b : Bool) (f g h : LevelFault) → is_before h g ≡ b → is_before f g ≡ false → Reaches (if b then Some h else Some g) f
earlier_test true f g h t k = (h, refl, not_before f g h k t)
earlier_test false f g h t k = (g, refl, k)

pub earlier_keeps : (o : Option LevelFault) (f h : LevelFault) → Reaches o f → Reaches (earlier o h) f
earlier_keeps None f h r = absurd (let q : None ≡ Some r.0 = r.1 in cc)
earlier_keeps (Some g) f h r =
    let e : g ≡ r.0 = cc (r.1) in
    earlier_test (is_before h g) f g h refl (ap (λ y. is_before f y) e ∙ r.2)

told_test : (b : Bool) (g h : LevelFault) → is_before h g ≡ b → Reaches (if b then Some h else Some g) h
told_test true g h t = (h, refl, not_before_itself h)
told_test false g h t = (g, refl, t)

pub earlier_tells : (o : Option LevelFault) (h : LevelFault) → Reaches (earlier o h) h
earlier_tells None h = (h, refl, not_before_itself h)
earlier_tells (Some g) h = told_test (is_before h g) g h refl

sound_test : (b : Bool) (f g h : LevelFault) → (if b then Some h else Some g) ≡ Some f → (Some g ≡ Some f) ⊎ (f ≡ h)
sound_test true f g h q = inr (cc (q))
sound_test false f g h q = inl q

pub earlier_sound : (o : Option LevelFault) (f h : LevelFault) → earlier o h ≡ Some f → (o ≡ Some f) ⊎ (f ≡ h)
earlier_sound None f h q = inr (cc (q))
earlier_sound (Some g) f h q = sound_test (is_before h g) f g h q

reversed : (o : Ordering) → is_lt (ordering_reverse o) ≡ is_gt o
reversed Less = refl
reversed Equal = refl
reversed Greater = refl

turned : (x y : List ℕ) → is_lt (slice_cmp nat_cmp x y) ≡ is_gt (slice_cmp nat_cmp y x)
turned x y = ap is_lt (nat_list_cmp_total.antisymm x y) ∙ reversed (slice_cmp nat_cmp y x)

list_reaches : (x y z : List ℕ) → is_lt (slice_cmp nat_cmp x y) ≡ false → is_lt (slice_cmp nat_cmp y z) ≡ false → is_lt (slice_cmp nat_cmp x z) ≡ false
list_reaches x y z a b = turned x z ∙ upto nat_list_cmp_total z y x (sym (turned y z) ∙ b) (sym (turned x y) ∙ a)

pub not_before_on : (f g h : LevelFault) → is_before f g ≡ false → is_before g h ≡ false → is_before f h ≡ false
not_before_on f g h a b = list_reaches (standing f) (standing g) (standing h) a b

-- what reaches one fault reaches those that are not before it
pub reaches_on : (o : Option LevelFault) (f g : LevelFault) → is_before f g ≡ false → Reaches o g → Reaches o f
reaches_on o f g k r = (r.0, r.1, not_before_on f g r.0 k r.2)
