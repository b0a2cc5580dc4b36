-- What is wrong with an assumption.
use Rattle.std.proofs.Common.{◌≡◌, ◌∙◌, sym, ap, refl, inl, inr, subst}
use Rattle.std.specs.Prelude.{◌⊎◌, Bool, true, false, Option, Some, None, List, MatchOption, if◌then◌else◌}
use Rattle.base_core.specs.declared.place.Place.{Place}
use Rattle.names_terms.specs.declared.level.Level.{Level}
use Rattle.names_terms.specs.declared.level.Level.TheVariants.{Constant}
use Rattle.names_terms.specs.declared.operator.Operator.{Operator}
use Rattle.names_terms.specs.Terms.{Term, Placed, Meaning}
use Rattle.names_term_parts.specs.declared.fault.LevelFault.{LevelFault}
use Rattle.names_term_parts.specs.declared.fault.LevelFault.TheVariants.{TooHigh}
use Rattle.names_term_parts.specs.FaultOrder.{is_before, earlier, held}
use Rattle.names_term_levels.specs.Faults.{IsFault, IsFirst, IsAssumptionFault, in_term, no_constant}
use Rattle.names_term_levels.specs.Findings.{Reaches}
use Rattle.names_term_parts.specs.Limits.{is_above, limit}
use Rattle.names_term_levels.proofs.Order.{earlier_keeps, earlier_tells, earlier_sound}

note_reaches : (ops : List Operator) (e : Term) (found : Option LevelFault) (f : LevelFault) → MatchOption found ((g : LevelFault) → ¬ IsFault ops e g) (IsFirst (IsFault ops e)) → IsFault ops e f → Reaches found f
note_reaches ops e None f h w = absurd (h f w)
note_reaches ops e (Some g) f h w = (g, refl, h.none_before f w)

note_sound : (ops : List Operator) (e : Term) (found : Option LevelFault) (f : LevelFault) → MatchOption found ((g : LevelFault) → ¬ IsFault ops e g) (IsFirst (IsFault ops e)) → found ≡ Some f → IsFault ops e f
note_sound ops e None f h q = absurd (cc)
note_sound ops e (Some g) f h q = let P : LevelFault → Type 0 = IsFault ops e in let same : g ≡ f = cc in subst P same h.is_such

-- the first of those that are reached
told_match : (r : Option LevelFault) (IsSuch : LevelFault → Type 0) → ((f : LevelFault) → r ≡ Some f → IsSuch f) → ((g : LevelFault) → IsSuch g → Reaches r g) → MatchOption r ((f : LevelFault) → ¬ IsSuch f) (IsFirst IsSuch)
told_match None S sound reaches = λ f w. let r : Reaches None f = reaches f w in let q : None ≡ Some r.0 = r.1 in absurd (cc)
told_match (Some f) S sound reaches = record {
  is_such = sound f refl;
  none_before = λ g w. let r : Reaches (Some f) g = reaches g w in let same : r.0 ≡ f = cc (r.1) in ap (λ y. is_before g y) (sym same) ∙ r.2;
}

keeps_by : (b : Bool) (o : Option LevelFault) (h g : LevelFault) → Reaches o g → Reaches (if b then earlier o h else o) g
keeps_by true o h g r = earlier_keeps o g h r
keeps_by false o h g r = r

tells_by : (b : Bool) (o : Option LevelFault) (h : LevelFault) → b ≡ true → Reaches (if b then earlier o h else o) h
tells_by true o h t = earlier_tells o h
tells_by false o h t = absurd (cc)

sound_by : (b : Bool) (o : Option LevelFault) (h f : LevelFault) → (if b then earlier o h else o) ≡ Some f → (o ≡ Some f) ⊎ ((b ≡ true) × (f ≡ h))
sound_by true o h f q = elim (earlier_sound o f h q) [ inl e ↦ inl e | inr e ↦ inr (refl, e) ]
sound_by false o h f q = inl q

pub assumption_told : (ops : List Operator) (at : Place) (l : Level) (m : Meaning) (e : Term) (o : Option LevelFault) → Placed at l m ≡ e → MatchOption o ((f : LevelFault) → ¬ IsFault ops e f) (IsFirst (IsFault ops e)) → MatchOption (held o (limit at Constant l)) ((f : LevelFault) → ¬ IsAssumptionFault ops e f) (IsFirst (IsAssumptionFault ops e))
assumption_told ops at l m e o q h = told_match (held o (limit at Constant l)) (IsAssumptionFault ops e) sound (λ g w. reaches e g q h w)
  where
    sound : (f : LevelFault) → held o (limit at Constant l) ≡ Some f → IsAssumptionFault ops e f
    sound f k = elim (sound_by (is_above l Constant) o (TooHigh l Constant at) f k) [
      | inl s ↦ in_term e f (note_sound ops e o f h s)
      | inr s ↦ let P : LevelFault → Type 0 = IsAssumptionFault ops e in subst P (sym s.1) (subst (λ (t : Term). IsAssumptionFault ops t (TooHigh l Constant at)) q (no_constant at l m s.0))
    ]

    reaches : (e : Term) (g : LevelFault) → Placed at l m ≡ e → MatchOption o ((f : LevelFault) → ¬ IsFault ops e f) (IsFirst (IsFault ops e)) → IsAssumptionFault ops e g → Reaches (held o (limit at Constant l)) g
    reaches _ _ q h (in_term e f w) = keeps_by (is_above l Constant) o (TooHigh l Constant at) f (note_reaches ops e o f h w)
    reaches _ _ q h (no_constant at_e l_e m_e t) =
        let same_level : l ≡ l_e = cc in
        let same_place : at ≡ at_e = cc in
        let P : Place → Type 0 = λ y. Reaches (held o (limit at Constant l)) (TooHigh l_e Constant y) in
        let Q : Level → Type 0 = λ y. Reaches (held o (limit at Constant l)) (TooHigh y Constant at) in
        subst P same_place (subst Q same_level (tells_by (is_above l Constant) o (TooHigh l Constant at) (ap (λ y. is_above y Constant) same_level ∙ t)))
