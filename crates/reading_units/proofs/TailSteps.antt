-- The first token of a unit, and what stands behind it in the rest of a module.
use Rattle.std.proofs.Common.{◌≡◌, ℕ, zero, suc, Bool, false, List, [], ◌∷◌, Option, Some, None, inl, inr, refl, sym, ap, subst, ◌∙◌}
use Rattle.base_core.specs.declared.place.Place.{Place}
use Rattle.reading_trees.specs.declared.laid.Laid.{Laid}
use Rattle.reading_trees.specs.declared.laid.Laid.TheVariants.{Plain}
use Rattle.reading_tokens.specs.declared.token.Kind.TheVariants as kinds
use Rattle.reading_trees.specs.Grammar.{nothing}
use Rattle.reading_expressions.specs.declared.fault.ParseFault.{ParseFault}
use Rattle.reading_expressions.specs.Refused.{IsRefusedAt}
use Rattle.reading_units.specs.Marks.{mark_of, kind_mark, first_mark}
use Rattle.reading_units.specs.Rests.{Rest, ◌▹◌, Then, Marked, Listed, Operators, Titled, Definition, InstancePart, NamePart, Behind, UnitPart, Last, UnitsLeft, Tail}
use Rattle.reading_units.specs.Reads.{SameHead, Leads, RefusedIn, BegunBy}
use Rattle.reading_units.specs.declared.marks.Mark.{Mark}
use Rattle.reading_units.specs.declared.marks.Mark.TheVariants as marks
use Rattle.reading_units.proofs.Extents.{Ending}
use Rattle.reading_units.proofs.Leading.{leads_on}
use Rattle.reading_units.proofs.MarksTold.{BeginsUnit, mark_ends, plain, has_mark}
use Rattle.reading_units.proofs.OneModuleTokens.{TextEnds}
use Rattle.reading_units.proofs.RestSteps.{Avoids, refused_first, same_first}

-- ---- what a rest of units begins with

record Begins (xs : List Laid) : Type 0 where
  first : Laid
  rest : List Laid
  mark : Mark
  whole : xs ≡ first ∷ rest
  of_unit : BeginsUnit mark
  is : mark_of first ≡ Some mark

abbrev IsUnitMark : Option Mark → Type 0
IsUnitMark o = (m : Mark) × (o ≡ Some m) × BeginsUnit m

unit_mark : (fit : Bool) (o : Option Mark) (x : Laid) (xs ys : List Laid) → Behind fit o x xs ys → IsUnitMark o
unit_mark fit (Some marks.Variables) x xs ys h = (marks.Variables, refl, tt)
unit_mark fit (Some marks.Constants) x xs ys h = (marks.Constants, refl, tt)
unit_mark fit (Some marks.Recursive) x xs ys h = (marks.Recursive, refl, tt)
unit_mark fit (Some marks.Assume) x xs ys h = (marks.Assume, refl, tt)
unit_mark fit (Some marks.Theorem) x xs ys h = (marks.Theorem, refl, tt)
unit_mark fit (Some marks.Dashes) x xs ys h = (marks.Dashes, refl, tt)
unit_mark fit (Some marks.Name) x xs ys h = (marks.Name, refl, tt)
unit_mark fit _ x xs ys h = absurd h

last_begins : (xs ys : List Laid) → Marked marks.Equals xs ys → Begins xs
last_begins [] ys h = absurd h
last_begins (x ∷ xs) ys h = record { first = x; rest = xs; mark = marks.Equals; whole = refl; of_unit = tt; is = h.0 }

unit_begins : (fit : Bool) (xs ys : List Laid) → UnitPart fit xs ys → Begins xs
unit_begins fit [] ys h = absurd h
unit_begins fit (x ∷ xs) ys h = let m = unit_mark fit (mark_of x) x xs ys h in record { first = x; rest = xs; mark = m.0; whole = refl; of_unit = m.2; is = m.1 }

left_begins : (n : ℕ) (fit : Bool) (xs : List Laid) → UnitsLeft n fit xs → Begins xs
left_begins zero fit xs h = last_begins xs h.0 h.1
left_begins (suc n) fit xs h = unit_begins fit xs h.0 h.1

tail_begins : (fit : Bool) (xs : List Laid) → Tail fit xs → Begins xs
tail_begins fit xs h = left_begins h.0 fit xs h.1

pub tail_ending : Ending Tail
tail_ending fit xs h = let b = tail_begins fit xs h in subst TextEnds (sym b.whole) (mark_ends b.mark b.first b.of_unit b.is)

same_some : (m n : Mark) → Some m ≡ Some n → m ≡ n
same_some m n e = cc

pub tail_avoids : (m : Mark) → (BeginsUnit m → ⊥) → Avoids m Tail
tail_avoids m other fit xs h e =
    let b = tail_begins fit xs h in
    let there : mark_of b.first ≡ Some m = ap first_mark (sym b.whole) ∙ e in
    other (subst BeginsUnit (same_some b.mark m (sym b.is ∙ there)) b.of_unit)

-- ---- the first token of a unit

behind_first : (m : Mark) (n : ℕ) (fit : Bool) (x : Laid) (zs : List Laid) → mark_of x ≡ Some m → (m ≡ marks.Equals → ⊥) → UnitsLeft n fit (x ∷ zs) → Then (λ f. Behind f (Some m) x) Tail fit zs
behind_first m zero fit x zs e other h = absurd (other (same_some m marks.Equals (sym e ∙ h.1.0)))
behind_first m (suc n) fit x zs e other h = (h.0, subst (λ o. Behind fit o x zs h.0) e h.1, (n, h.2))

tail_token : (m : Mark) (x : Laid) (xs : List Laid) → mark_of x ≡ Some m → (m ≡ marks.Equals → ⊥) → Leads Tail (Then (λ f. Behind f (Some m) x) Tail) (x ∷ xs) xs
tail_token m x xs e other = record {
  text = x ∷ [];
  whole = refl;
  goes = λ fit zs u. (suc u.2.0, (u.0, subst (λ o. Behind fit o x zs u.0) (sym e) u.1, u.2.1));
  comes = λ fit zs s t. behind_first m t.0 fit x zs e other t.1;
}

pub tail_variables : (xs ws : List Laid) → Marked marks.Variables xs ws → Leads Tail (Listed ▹ Tail) xs ws
tail_variables [] ws h = absurd h
tail_variables (x ∷ xs) ws h = subst (λ v. Leads Tail (Listed ▹ Tail) (x ∷ xs) v) h.1 (tail_token marks.Variables x xs h.0 (λ q. cc))

pub tail_constants : (xs ws : List Laid) → Marked marks.Constants xs ws → Leads Tail (Listed ▹ Tail) xs ws
tail_constants [] ws h = absurd h
tail_constants (x ∷ xs) ws h = subst (λ v. Leads Tail (Listed ▹ Tail) (x ∷ xs) v) h.1 (tail_token marks.Constants x xs h.0 (λ q. cc))

pub tail_recursive : (xs ws : List Laid) → Marked marks.Recursive xs ws → Leads Tail (Operators ▹ Tail) xs ws
tail_recursive [] ws h = absurd h
tail_recursive (x ∷ xs) ws h = subst (λ v. Leads Tail (Operators ▹ Tail) (x ∷ xs) v) h.1 (tail_token marks.Recursive x xs h.0 (λ q. cc))

pub tail_assume : (xs ws : List Laid) → Marked marks.Assume xs ws → Leads Tail (Then Titled Tail) xs ws
tail_assume [] ws h = absurd h
tail_assume (x ∷ xs) ws h = subst (λ v. Leads Tail (Then Titled Tail) (x ∷ xs) v) h.1 (tail_token marks.Assume x xs h.0 (λ q. cc))

pub tail_theorem : (xs ws : List Laid) → Marked marks.Theorem xs ws → Leads Tail (Then Titled Tail) xs ws
tail_theorem [] ws h = absurd h
tail_theorem (x ∷ xs) ws h = subst (λ v. Leads Tail (Then Titled Tail) (x ∷ xs) v) h.1 (tail_token marks.Theorem x xs h.0 (λ q. cc))

nothing_leads : (T : Rest) (xs : List Laid) → Leads (nothing ▹ T) T xs xs
nothing_leads T xs = record { text = []; whole = refl; goes = λ fit zs t. (zs, refl, t); comes = λ fit zs s t. subst (T fit) (sym t.1) t.2 }

pub tail_dashes : (xs ws : List Laid) → Marked marks.Dashes xs ws → Leads Tail Tail xs ws
tail_dashes [] ws h = absurd h
tail_dashes (x ∷ xs) ws h = subst (λ v. Leads Tail Tail (x ∷ xs) v) h.1 (leads_on Tail (nothing ▹ Tail) Tail (x ∷ xs) xs xs (tail_token marks.Dashes x xs h.0 (λ q. cc)) (nothing_leads Tail xs))

-- ---- what begins with a name

plain_name : (n : List ℕ) (at : Place) → mark_of (Plain (record { kind = kinds.Name n; place = at })) ≡ Some marks.Name
unfolding mark_of kind_mark
plain_name n at = refl

abbrev first_or : Laid → List Laid → Laid
first_or u [] = u
first_or u (x ∷ xs) = x

abbrev IsSomething : List Laid → Type 0
IsSomething [] = ⊥
IsSomething (x ∷ xs) = Unit {0}

pub definition_part : (fit : Bool) (zs ys : List Laid) → Definition fit zs ys → UnitPart fit zs ys
definition_part fit [] ys d = absurd (subst IsSomething (sym d.5.1) tt)
definition_part fit (z ∷ zs) ys d =
    let e : mark_of z ≡ Some marks.Name = ap (λ v. mark_of (first_or z v)) d.5.1 ∙ plain_name d.0 d.1 in
    subst (λ o. Behind fit o z zs ys) (sym e) (inl d)

pub instance_part : (fit : Bool) (zs ys : List Laid) → InstancePart fit zs ys → UnitPart fit zs ys
instance_part fit [] ys i = absurd i.1
instance_part fit (z ∷ zs) ys i = subst (λ o. Behind fit o z zs ys) (sym i.1.0) (inr i)

name_part : (fit : Bool) (zs ys : List Laid) → NamePart fit zs ys → UnitPart fit zs ys
name_part fit zs ys (inl d) = definition_part fit zs ys d
name_part fit zs ys (inr i) = instance_part fit zs ys i

name_first : (n : ℕ) (fit : Bool) (z : Laid) (zs : List Laid) → mark_of z ≡ Some marks.Name → UnitsLeft n fit (z ∷ zs) → Then NamePart Tail fit (z ∷ zs)
name_first zero fit z zs e h = absurd (let q : marks.Name ≡ marks.Equals = same_some marks.Name marks.Equals (sym e ∙ h.1.0) in cc)
name_first (suc n) fit z zs e h = (h.0, subst (λ o. Behind fit o z zs h.0) e h.1, (n, h.2))

name_comes : (xs : List Laid) → first_mark xs ≡ Some marks.Name → (fit : Bool) (zs : List Laid) → SameHead xs zs → Tail fit zs → Then NamePart Tail fit zs
name_comes [] e fit zs s t = absurd s
name_comes (x ∷ xs) e fit [] s t = absurd s
name_comes (x ∷ xs) e fit (z ∷ zs) s t = name_first t.0 fit z zs (ap mark_of (sym s) ∙ e) t.1

pub tail_name : (xs : List Laid) → first_mark xs ≡ Some marks.Name → Leads Tail (Then NamePart Tail) xs xs
tail_name xs e = record {
  text = [];
  whole = refl;
  goes = λ fit zs u. (suc u.2.0, (u.0, name_part fit zs u.0 u.1, u.2.1));
  comes = name_comes xs e;
}

-- ---- the end of the units, and another token

equals_last : (n : ℕ) (fit : Bool) (zs : List Laid) → first_mark zs ≡ Some marks.Equals → UnitsLeft n fit zs → Last fit zs
equals_last zero fit zs e h = h
equals_last (suc n) fit [] e h = absurd h.1
equals_last (suc n) fit (z ∷ zs) e h = absurd (subst (λ o. Behind fit o z zs h.0) e h.1)

pub tail_last : (xs : List Laid) → first_mark xs ≡ Some marks.Equals → Leads Tail Last xs xs
tail_last xs e = record {
  text = [];
  whole = refl;
  goes = λ fit zs u. (zero, u);
  comes = λ fit zs s t. equals_last t.0 fit zs (sym (same_first xs zs s) ∙ e) t.1;
}

abbrev pub NoUnit : Option Mark → Type 0
NoUnit None = Unit {0}
NoUnit (Some m) = BeginsUnit m → ⊥

no_unit : (o : Option Mark) (m : Mark) → NoUnit o → o ≡ Some m → BeginsUnit m → ⊥
no_unit o m h e b = subst NoUnit e h b

-- equals signs and the End
abbrev pub last_tokens : List Laid
last_tokens = plain kinds.Equals ∷ plain kinds.End ∷ []

pub some_last : (fit : Bool) → Last fit last_tokens
some_last fit = (plain kinds.End ∷ [], (has_mark marks.Equals, refl), (record { file = 0; line = 0; col = 0 }, refl))

pub some_tail : (fit : Bool) → Tail fit last_tokens
some_tail fit = (zero, some_last fit)

pub tail_begun : (fit : Bool) → BegunBy Tail fit []
tail_begun fit = (last_tokens, some_tail fit)

-- a token begins no unit, and is no equals signs
pub unit_refused : (D : Place → Type 0) (H : List Laid → Type 0) (xs : List Laid) (e : ParseFault) → H [] → NoUnit (first_mark xs) → IsRefusedAt xs e → RefusedIn Tail D H xs e
unit_refused D H xs e held h r = refused_first Tail D H xs e held tail_begun (λ zs s t. let b = tail_begins false zs t in no_unit (first_mark xs) b.mark h (same_first xs zs s ∙ ap first_mark b.whole ∙ b.is) b.of_unit) r
