-- What was fixed before an action stays fixed, and none is fixed beside but those of which it speaks.
use Rattle.std.proofs.Common.{◌≡◌, ◌⊎◌, inl, inr, subst}
use Rattle.std.specs.Prelude.{ℕ, ◌<◌, true, ◌==◌, Ok}
use Rattle.std.proofs.lemmas.Bool.{eqb-true, or_cases, or_left}
use Rattle.names_terms.specs.Terms.{Term}
use Rattle.actions_meanings.specs.Forms.{Setting}
use Rattle.actions_meanings.specs.Reads.{VariableSet}
use Rattle.actions_meanings.specs.Outcomes.{outcome_within}
use Rattle.actions_form_laws.specs.Spoken.{Speaks}
use Rattle.actions_form_laws.specs.Growth.{Within, FormsGrow, FormsSpeak, FormsWithin}
use Rattle.actions_form_laws.proofs.Steps.{Doing}
use Rattle.actions_form_laws.proofs.Keeping.{Holds, outcome-keeps}

abbrev AnyVariable : ℕ → Type 0
AnyVariable x = Unit {0}

holds-within : Holds AnyVariable Within
holds-within = record {
  same = λ B x h. h;
  further = λ B C D s t x h. t x (s x h);
  added = λ B x s y h. or_left (B y) (x == y) h;
}

abbrev pub Grow : Doing → Type 0
Grow part = (e : Term) (B C : VariableSet) → part e B ≡ Ok C → Within B C

pub outcome-grows : (g : Setting) (k : ℕ) → Grow (outcome_within g k)
outcome-grows g k a B C h = outcome-keeps g AnyVariable Within holds-within k a B C (λ x s. tt) h

pub forms-grow : FormsGrow
forms-grow g a B C h = outcome-grows g h.0 a B C h.2

-- the second has beside the first only such variables
abbrev Bounded : (ℕ → Type 0) → VariableSet → VariableSet → Type 0
Bounded T B C = (x : ℕ) → C x ≡ true → (B x ≡ true) ⊎ T x

holds-bounded : (T : ℕ → Type 0) → Holds T (Bounded T)
holds-bounded T = record {
  same = λ B x h. inl h;
  further = λ B C D s t x h. elim (t x h) [
    | inl q ↦ s x q
    | inr l ↦ inr l
  ];
  added = λ B x s y h. elim (or_cases (B y) (x == y) h) [
    | inl b ↦ inl b
    | inr e ↦ inr (subst T (eqb-true x y e) s)
  ];
}

pub forms-speak : FormsSpeak
forms-speak g a B C h = outcome-keeps g (Speaks g.table a) (Bounded (Speaks g.table a)) (holds-bounded (Speaks g.table a)) h.0 a B C (λ x s. s) h.2

pub forms-within : FormsWithin
forms-within g a B C s h = outcome-keeps g (λ x. x < g.variables) (Bounded (λ x. x < g.variables)) (holds-bounded (λ x. x < g.variables)) h.0 a B C s h.2
