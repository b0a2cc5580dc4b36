-- What fixes every variable does so where more is fixed before.
use Rattle.std.proofs.Common.{◌≡◌, ◌∙◌, ◌⊎◌, inl, inr, ap, sym, refl, subst, arith}
use Rattle.std.specs.Prelude.{ℕ, zero, suc, ◌<◌, Bool, true, false, not, Option, Some, None, Ok}
use Rattle.base_core.specs.declared.place.Place.{Place}
use Rattle.names_terms.specs.Terms.{place_of}
use Rattle.actions_meanings.specs.declared.fault.FormFault.{FormFault}
use Rattle.actions_meanings.specs.Reads.{VariableSet}
use Rattle.actions_meanings.specs.Outcomes.{FormOutcome, IsOutcome, least, unless, not_fixed}
use Rattle.actions_form_laws.specs.Growth.{Within, IsUnion, WholeStays}
use Rattle.actions_form_laws.proofs.Steps.{ok-same, next-ok, unless-ok, unless-is}
use Rattle.actions_form_laws.proofs.Timely.{least-step, least-stays}
use Rattle.actions_form_laws.proofs.Staying.{forms-stay, union-within}

at-or-below : (x v : ℕ) → x < suc v → (x ≡ v) ⊎ (x < v)
at-or-below x v h = grind arith

not-in : (b : Bool) → not b ≡ false → b ≡ true
not-in true h = refl
not-in false h = sym h

no-least : (v : ℕ) (P : VariableSet) → least v P ≡ None → (x : ℕ) → x < v → P x ≡ false
no-least zero P h x lt = absurd (omega arith)
no-least (suc v) P h x lt =
    let p : (least v P ≡ None) × (P v ≡ false) = least-step v P h in
    elim (at-or-below x v lt) [
      | inl q ↦ subst (λ (z : ℕ). P z ≡ false) (sym q) p.1
      | inr l ↦ no-least v P p.0 x l
    ]

none-fixed : (at : Place) (o : Option ℕ) → not_fixed at o ≡ None → o ≡ None
none-fixed at None h = refl
none-fixed at (Some x) h = absurd (cc)

abbrev unfixed : VariableSet → VariableSet
unfixed C x = not (C x)

less-unfixed : (c d : Bool) → (c ≡ true → d ≡ true) → not d ≡ true → not c ≡ true
less-unfixed false d s h = refl
less-unfixed true true s h = h
less-unfixed true false s h = absurd (let q : false ≡ true = s refl in cc)

pub whole-stays : WholeStays
whole-stays g a B C D h within =
    let lack : VariableSet → Option FormFault = λ z. not_fixed (place_of a) (least g.variables (unfixed z)) in
    let last : VariableSet → FormOutcome = λ z. unless (lack z) (Ok z) in
    let p : (C1 : VariableSet) × (h.0 ≡ Ok C1) × (last C1 ≡ Ok C) = next-ok h.0 last C h.2 in
    let r : (lack p.0 ≡ None) × (Ok p.0 ≡ Ok C) = unless-ok (lack p.0) (Ok p.0) C p.2 in
    let same : p.0 ≡ C = ok-same (Ok p.0) p.0 C refl r.1 in
    let fixes : IsOutcome g a B (Ok C) = subst (IsOutcome g a B) (p.1 ∙ ap Ok same) h.1 in
    let none : lack C ≡ None = ap lack (sym same) ∙ r.0 in
    let s : (E : VariableSet) × IsOutcome g a D (Ok E) × IsUnion E C D = forms-stay g a B C D fixes within in
    let grown : Within C s.0 = union-within s.0 C D s.2 in
    let left : least g.variables (unfixed s.0) ≡ None =
    least-stays g.variables (unfixed C) (unfixed s.0) (λ x q. less-unfixed (C x) (s.0 x) (grown x) q) (none-fixed (place_of a) (least g.variables (unfixed C)) none) in (
      s.0,
      (Ok s.0, s.1, unless-is (lack s.0) (Ok s.0) (Ok s.0) (ap (not_fixed (place_of a)) left) refl),
      s.2,
      λ x lt. not-in (s.0 x) (no-least g.variables (unfixed s.0) left x lt),
    )
