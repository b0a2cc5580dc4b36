-- That a set has one outcome, want of memory apart.
use Rattle.std.proofs.Common.{◌≡◌, ◌⊎◌, inl, inr, Bool, true, false, Result, Ok, Err, ap, sym, ◌∙◌, refl, arith}
use Rattle.std.specs.Prelude.{MatchBool}
use Rattle.values_core.specs.Data.{Val}
use Rattle.values_core.specs.Integers.{the_term}
use Rattle.values_core.specs.Sets.{items_of}
use Rattle.values_core.specs.SetLaws.{same_members, member_shallow}
use Rattle.values_core.specs.SetOperations.{GivesSet, IsSetWith, AreTooMany, IsOneTooDeep}
use Rattle.values_core.specs.declared.fault.EvalKind.TheVariants.{NotBoolean, NotInteger, NotSet, NotFunction, NotSequence, OutsideDomain, Overflow, BadDivisor, BadPower, NoChoice, NoCase, EmptySequence, BadRange, TooLarge, TooDeep, Nested, NotFinite}
use Rattle.values_core.specs.declared.fault.OpFault.{OpFault}
use Rattle.values_core.specs.declared.fault.OpFault.TheVariants.{Refused, NoMemory}
use Rattle.values_operations.proofs.Listing.{no_longer}
use Rattle.values_operations.proofs.Taking.{few_items}
use Rattle.values_sets.specs.DescribedSets.{Described, Nat, Int, Strings, Booleans, SeqOf, PowerOf, Interval, Functions, Records, Product, Union, Inter, Minus, Listed, Fields, NoFields, MoreFields, Parts, NoParts, MoreParts}
use Rattle.values_sets.specs.Membership.{IsMember}
use Rattle.values_sets.specs.Listings.{Collects, Before, Listing, BeforeFields, BeforeParts, is_finite}
use Rattle.values_sets.specs.OneOutcome.{HasOneOutcome, ListsOneWay}

-- what a set gives, by its four outcomes
abbrev OfSet : (Val → Type 0) → Result Val OpFault → Type 0
OfSet P r =
    (r ≡ Err NoMemory)
    ⊎ (((s : Val) × (r ≡ Ok s) × IsSetWith P s)
    ⊎ (((r ≡ Err (Refused TooLarge the_term)) × AreTooMany P)
    ⊎ ((r ≡ Err (Refused TooDeep the_term)) × ¬ AreTooMany P × IsOneTooDeep P)))

of_set : (P : Val → Type 0) (r : Result Val OpFault) → GivesSet P r → OfSet P r
of_set P (Ok s) g = inr (inl (s, refl, g))
of_set P (Err NoMemory) g = inl refl
of_set P (Err (Refused TooLarge n)) g = inr (inr (inl (ap (λ k. Err (Refused TooLarge k)) g.0, g.1)))
of_set P (Err (Refused TooDeep n)) g = inr (inr (inr (ap (λ k. Err (Refused TooDeep k)) g.0, g.1, g.2)))
of_set P (Err (Refused NotBoolean n)) g = absurd g
of_set P (Err (Refused NotInteger n)) g = absurd g
of_set P (Err (Refused NotSet n)) g = absurd g
of_set P (Err (Refused NotFunction n)) g = absurd g
of_set P (Err (Refused NotSequence n)) g = absurd g
of_set P (Err (Refused OutsideDomain n)) g = absurd g
of_set P (Err (Refused Overflow n)) g = absurd g
of_set P (Err (Refused BadDivisor n)) g = absurd g
of_set P (Err (Refused BadPower n)) g = absurd g
of_set P (Err (Refused NoChoice n)) g = absurd g
of_set P (Err (Refused NoCase n)) g = absurd g
of_set P (Err (Refused EmptySequence n)) g = absurd g
of_set P (Err (Refused BadRange n)) g = absurd g
of_set P (Err (Refused Nested n)) g = absurd g
of_set P (Err (Refused NotFinite n)) g = absurd g

not_many : (P : Val → Type 0) (s : Val) → IsSetWith P s → AreTooMany P → ⊥
not_many P s o m = omega (arith, m.many, few_items s o.valid, no_longer m.some (items_of s) m.different (λ v h. (o.same v).1 (m.each v h)))

not_deep : (P : Val → Type 0) (s : Val) → IsSetWith P s → IsOneTooDeep P → ⊥
not_deep P s o d = omega (arith, d.deep, member_shallow s d.one o.valid ((o.same d.one).1 d.meets))

one_set : (P : Val → Type 0) (s t : Val) → IsSetWith P s → IsSetWith P t → s ≡ t
one_set P s t o p = same_members s t o.valid p.valid o.is_set p.is_set (λ v. (λ h. (p.same v).1 ((o.same v).0 h), λ h. (o.same v).1 ((p.same v).0 h)))

two_of_set : (P : Val → Type 0) (q r : Result Val OpFault) → OfSet P q → OfSet P r → (q ≡ Err NoMemory) ⊎ ((r ≡ Err NoMemory) ⊎ (q ≡ r))
two_of_set P q r (inl a) b = inl a
two_of_set P q r (inr a) (inl b) = inr (inl b)
two_of_set P q r (inr (inl a)) (inr (inl b)) = inr (inr (a.1 ∙ ap Ok (one_set P a.0 b.0 a.2 b.2) ∙ sym b.1))
two_of_set P q r (inr (inl a)) (inr (inr (inl b))) = absurd (not_many P a.0 a.2 b.1)
two_of_set P q r (inr (inl a)) (inr (inr (inr b))) = absurd (not_deep P a.0 a.2 b.2)
two_of_set P q r (inr (inr (inl a))) (inr (inl b)) = absurd (not_many P b.0 b.2 a.1)
two_of_set P q r (inr (inr (inl a))) (inr (inr (inl b))) = inr (inr (a.0 ∙ sym b.0))
two_of_set P q r (inr (inr (inl a))) (inr (inr (inr b))) = absurd (b.1 a.1)
two_of_set P q r (inr (inr (inr a))) (inr (inl b)) = absurd (not_deep P b.0 b.2 a.2)
two_of_set P q r (inr (inr (inr a))) (inr (inr (inl b))) = absurd (a.1 b.1)
two_of_set P q r (inr (inr (inr a))) (inr (inr (inr b))) = inr (inr (a.0 ∙ sym b.0))

collects_once : (d : Described) → HasOneOutcome (Collects d)
collects_once d q r g h = two_of_set (IsMember d) q r (of_set (IsMember d) q g) (of_set (IsMember d) r h)

before_once : (P Q : Result Val OpFault → Type 0) → HasOneOutcome P → HasOneOutcome Q → HasOneOutcome (Before P Q)
before_once P Q f g q r (inl a) (inl b) = elim (f (Err a.0) (Err b.0) a.1 b.1) [
  | inl e ↦ inl (a.2 ∙ e)
  | inr w ↦ elim w [
    | inl e ↦ inr (inl (b.2 ∙ e))
    | inr e ↦ inr (inr (a.2 ∙ e ∙ sym b.2))
  ]
]
before_once P Q f g q r (inl a) (inr b) = elim (f (Err a.0) (Ok b.0) a.1 b.1) [
  | inl e ↦ inl (a.2 ∙ e)
  | inr w ↦ elim w [
    | inl e ↦ absurd (unlike b.0 NoMemory e)
    | inr e ↦ absurd (unlike b.0 a.0 (sym e))
  ]
]
  where
    unlike : (s : Val) (e : OpFault) → Ok s ≡ Err e → ⊥
    unlike s e h = cc
before_once P Q f g q r (inr a) (inl b) = elim (f (Ok a.0) (Err b.0) a.1 b.1) [
  | inl e ↦ absurd (unlike a.0 NoMemory e)
  | inr w ↦ elim w [
    | inl e ↦ inr (inl (b.2 ∙ e))
    | inr e ↦ absurd (unlike a.0 b.0 e)
  ]
]
  where
    unlike : (s : Val) (e : OpFault) → Ok s ≡ Err e → ⊥
    unlike s e h = cc
before_once P Q f g q r (inr a) (inr b) = g q r a.2 b.2

-- each field, and each part, has one outcome
abbrev FieldsOnce : Fields → Type 0
FieldsOnce NoFields = Unit {0}
FieldsOnce (MoreFields n d fs) = HasOneOutcome (Listing d) × FieldsOnce fs

abbrev PartsOnce : Parts → Type 0
PartsOnce NoParts = Unit {0}
PartsOnce (MoreParts d ps) = HasOneOutcome (Listing d) × PartsOnce ps

fields_once : (fs : Fields) (Q : Result Val OpFault → Type 0) → FieldsOnce fs → HasOneOutcome Q → HasOneOutcome (BeforeFields fs Q)
fields_once NoFields Q f g = g
fields_once (MoreFields n d fs) Q f g = before_once (Listing d) (BeforeFields fs Q) f.0 (fields_once fs Q f.1 g)

parts_once : (ps : Parts) (Q : Result Val OpFault → Type 0) → PartsOnce ps → HasOneOutcome Q → HasOneOutcome (BeforeParts ps Q)
parts_once NoParts Q f g = g
parts_once (MoreParts d ps) Q f g = before_once (Listing d) (BeforeParts ps Q) f.0 (parts_once ps Q f.1 g)

mutual
  listing_once : (d : Described) → HasOneOutcome (Listing d)
  listing_once Nat = collects_once Nat
  listing_once Int = collects_once Int
  listing_once Strings = collects_once Strings
  listing_once Booleans = collects_once Booleans
  listing_once (SeqOf d) = collects_once (SeqOf d)
  listing_once (PowerOf d) = before_once (Listing d) (Collects (PowerOf d)) (listing_once d) (collects_once (PowerOf d))
  listing_once (Interval y z) = collects_once (Interval y z)
  listing_once (Functions a d) = before_once (Listing d) (Collects (Functions a d)) (listing_once d) (collects_once (Functions a d))
  listing_once (Records fs) = fields_once fs (Collects (Records fs)) (each_field_once fs) (collects_once (Records fs))
  listing_once (Product ps) = parts_once ps (Collects (Product ps)) (each_part_once ps) (collects_once (Product ps))
  listing_once (Union c d) = before_once (Listing c) (Before (Listing d) (Collects (Union c d))) (listing_once c) (before_once (Listing d) (Collects (Union c d)) (listing_once d) (collects_once (Union c d)))
  listing_once (Inter c d) = before_once (Listing c) (Collects (Inter c d)) (listing_once c) (collects_once (Inter c d))
  listing_once (Minus c d) = before_once (Listing c) (Collects (Minus c d)) (listing_once c) (collects_once (Minus c d))
  listing_once (Listed s) = collects_once (Listed s)

  each_field_once : (fs : Fields) → FieldsOnce fs
  each_field_once NoFields = tt
  each_field_once (MoreFields n d fs) = (listing_once d, each_field_once fs)

  each_part_once : (ps : Parts) → PartsOnce ps
  each_part_once NoParts = tt
  each_part_once (MoreParts d ps) = (listing_once d, each_part_once ps)

pub lists_one_way : ListsOneWay
lists_one_way d q r l m = by_end (is_finite d) l m
  where
    by_end : (b : Bool) → MatchBool b (Listing d q) (q ≡ Err (Refused NotFinite 0)) → MatchBool b (Listing d r) (r ≡ Err (Refused NotFinite 0)) → (q ≡ Err NoMemory) ⊎ ((r ≡ Err NoMemory) ⊎ (q ≡ r))
    by_end true g h = listing_once d q r g h
    by_end false g h = inr (inr (g ∙ sym h))
