use Rattle.std.proofs.Common.{ℕ, ◌≡◌, inl, inr, List, [], ◌∷◌, get_or, length, ap, sym, subst, ◌∙◌, arith}
use Rattle.values_core.specs.Ascending.{cons_cases, none_in}
use Rattle.values_core.specs.SetOperations.{AreDifferent}
use Rattle.states_tests.proofs.operations_tests.records.Goals as goal

different : (a b : List ℕ) → ¬ (b ≡ a) → AreDifferent (a ∷ b ∷ [])
different a b d = (λ h. elim (cons_cases b [] a h) [ inl e ↦ d e | inr g ↦ none_in a g ], (λ h. none_in b h, tt))

pub record_set-requires-clause-few : goal.record_set-requires-clause-few
record_set-requires-clause-few c = omega (arith, ap (λ vs. length vs) (c.as_slice-2.ensures.value ∙ c.in_ok-parts.ensures))

pub record_set-requires-clause-as_many : goal.record_set-requires-clause-as_many
record_set-requires-clause-as_many c =
    omega (arith, ap (λ vs. length vs) (c.as_slice.ensures.value ∙ c.in_ok-names.ensures), ap (λ vs. length vs) (c.as_slice-2.ensures.value ∙ c.in_ok-parts.ensures))

pub record_set-requires-clause-different : goal.record_set-requires-clause-different
record_set-requires-clause-different c =
    subst (λ (ns : List (List ℕ)). AreDifferent ns) (sym (c.as_slice.ensures.value ∙ c.in_ok-names.ensures)) (different (98 ∷ []) (97 ∷ []) (λ e. let f : 97 ≡ 98 = ap (λ (ns : List ℕ). get_or ns 0 0) e in omega (arith, f)))
