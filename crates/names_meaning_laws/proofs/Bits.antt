-- Complaints one behind the other, and tests of names.
use Rattle.std.proofs.Common.{◌≡◌, refl, List}
use Rattle.std.specs.Prelude.{ℕ, Bool, true, false, not, ◌&&◌, ◌||◌, Option, Some, None}
use Rattle.std.specs.Str.{bytes_eq}
use Rattle.std.specs.Cmp.Lexicographic.{bytes_decides}
use Rattle.base_core.specs.Texts.{same_bytes}
use Rattle.names_meanings.specs.declared.fault.NameFault.{NameFault}
use Rattle.names_meanings.specs.Complaints.{or_else}

pub or_none : (a b : Option NameFault) → a ≡ None → b ≡ None → or_else a b ≡ None
or_none None b p q = q
or_none (Some x) b p q = absurd (cc)

pub left_none : (a b : Option NameFault) → or_else a b ≡ None → a ≡ None
left_none None b h = refl
left_none (Some x) b h = absurd (cc)

pub right_none : (a b : Option NameFault) → or_else a b ≡ None → b ≡ None
right_none None b h = h
right_none (Some x) b h = absurd (cc)

pub or_same : (a a' b b' : Option NameFault) → a ≡ a' → b ≡ b' → or_else a b ≡ or_else a' b'
or_same a a' b b' p q = λ i. or_else (p i) (q i)

pub or_equal : (a c c' : Option NameFault) → (a ≡ None → c ≡ c') → or_else a c ≡ or_else a c'
or_equal None c c' h = h refl
or_equal (Some x) c c' h = refl

pub or_left : (a b : Bool) → a ≡ true → (a || b) ≡ true
or_left true b h = refl
or_left false b h = absurd (cc)

pub or_right : (a b : Bool) → b ≡ true → (a || b) ≡ true
or_right true b h = refl
or_right false b h = h

pub or_elim : {C : Type 0} (a b : Bool) → (a ≡ true → C) → (b ≡ true → C) → (a || b) ≡ true → C
or_elim true b f g h = f refl
or_elim false b f g h = g h

pub and_elim : {C : Type 0} (a b : Bool) → (a ≡ false → b ≡ true → C) → (not a && b) ≡ true → C
and_elim true b f h = absurd (cc)
and_elim false b f h = f refl h

pub hidden_and : (a b : Bool) → a ≡ false → b ≡ true → (not a && b) ≡ true
hidden_and true b q m = absurd (cc)
hidden_and false b q m = m

pub or_false : (a b : Bool) → a ≡ false → b ≡ false → (a || b) ≡ false
or_false true b p q = p
or_false false b p q = q

pub none_of : (a b c : Bool) → a ≡ false → b ≡ false → c ≡ false → (a || b || c) ≡ false
none_of a b c p q r = or_false (a || b) c (or_false a b p q) r

pub head_false : (a b : Bool) → (a || b) ≡ false → a ≡ false
head_false true b h = h
head_false false b h = refl

pub rest_false : (a b : Bool) → (a || b) ≡ false → b ≡ false
rest_false true b h = absurd (cc)
rest_false false b h = h

pub left_false : (a b c : Bool) → (a || b || c) ≡ false → a ≡ false
left_false a b c h = head_false a b (head_false (a || b) c h)

pub middle_false : (a b c : Bool) → (a || b || c) ≡ false → b ≡ false
middle_false a b c h = rest_false a b (head_false (a || b) c h)

pub right_false : (a b c : Bool) → (a || b || c) ≡ false → c ≡ false
right_false a b c h = rest_false (a || b) c h

pub not_true : (b : Bool) → (b ≡ true → ⊥) → b ≡ false
not_true true h = absurd (h refl)
not_true false h = refl

pub same_name : (m n : List ℕ) → bytes_eq m n ≡ true → m ≡ n
same_name m n e = same_bytes m n e

pub itself_is : (n : List ℕ) → bytes_eq n n ≡ true
itself_is n = (bytes_decides n n).1 refl
