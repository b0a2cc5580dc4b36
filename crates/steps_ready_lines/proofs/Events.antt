-- An event of which a reader of logs was told can be taken.
use Rattle.std.proofs.Common.{◌≡◌, ◌≢◌, ◌<◌, ℕ, List, [], length, Option, Some, None, Result, Ok, Err, ap, sym, ◌∙◌, subst, arith, inl, inr}
use Rattle.std.specs.Prelude.{slice_get}
use Rattle.std.proofs.lemmas.Bool.{cases_eq}
use Rattle.std.proofs.lemmas.Option.{same_Some, slice_get_within}
use Rattle.values_core.specs.Data.{Val}
use Rattle.names_terms.specs.declared.operator.Operator.{Operator}
use Rattle.names_terms.specs.declared.spec.Spec.{Spec}
use Rattle.names_terms.specs.Terms.{Term}
use Rattle.eval_meanings.specs.Laws.{AreValues}
use Rattle.names_specification_laws.specs.IsSpec.{IsSpec}
use Rattle.actions_meanings.specs.declared.fault.FormFault.{FormFault}
use Rattle.actions_meanings.specs.declared.which.Which.TheVariants as which
use Rattle.actions_meanings.specs.Outcomes.{Fixes, FormOutcome, IsOutcome}
use Rattle.actions_meanings.specs.Reads.{VariableSet}
use Rattle.actions_forms.specs.Laws.{HasFormOutcome, HasOneFormOutcome}
use Rattle.actions_form_laws.specs.Sound.{OperatorsAreSound}
use Rattle.logs_updates.specs.declared.update.Update.{Update}
use Rattle.steps_lines_defs.specs.Says.{Act, setting}
use Rattle.steps_lines_defs.specs.Asks.{act_of, updated}
use Rattle.logs_lines.specs.Lines.{EventIs, HasNoForm, event_with, params_of}
use Rattle.steps_names.specs.Names.{HasFormWith, IsTold, names_of}
use Rattle.steps_names.proofs.ToldLemmas.{told_so}
use Rattle.names_term_parts.proofs.Ordering.{body_within}
use Rattle.steps_ready_lines.specs.Lines.{HasValues}
use Rattle.steps_ready_defs.specs.Ready.{IsReadyAct}

-- laws of forms
pub record FormLaws : Type 0 where
  pub some : HasFormOutcome
  pub one : HasOneFormOutcome
  pub sound : OperatorsAreSound

abbrev Form : Spec → Term → List Update → Type 0
Form s body us = (C : VariableSet) × Fixes (setting which.Action s) body (updated us) C

-- another outcome leaves no form
other_outcome : (s : Spec) (k : ℕ) (us : List Update) (o : Operator) (f : FormFault) → FormLaws → IsSpec s → slice_get s.operators k ≡ Some o → o.name ≢ []
    → IsOutcome (setting which.Action s) o.body (updated us) (Err f) → ¬ HasFormWith s k us
other_outcome s k us o f laws is q named out h =
    let same : h.operator ≡ o = same_Some h.operator o (sym h.is ∙ q) in
    let here : Fixes (setting which.Action s) o.body (updated us) h.leaves = subst (λ (p : Operator). Fixes (setting which.Action s) p.body (updated us) h.leaves) same h.form in
    apart h.leaves (laws.one (setting which.Action s) o.body (updated us) (Ok h.leaves) (Err f) (laws.sound s is k o q named) here out)
  where
    apart : (C : VariableSet) → ◌≡◌ {A = Result VariableSet FormFault} (Ok C) (Err f) → ⊥
    apart C e = cc

form_by : (s : Spec) (k : ℕ) (us : List Update) (o : Operator) (r : FormOutcome) → FormLaws → IsSpec s → slice_get s.operators k ≡ Some o → o.name ≢ []
    → IsOutcome (setting which.Action s) o.body (updated us) r → ¬ (¬ HasFormWith s k us) → Form s o.body us
form_by s k us o (Ok C) laws is q named out h = (C, out)
form_by s k us o (Err f) laws is q named out h = absurd (h (other_outcome s k us o f laws is q named out))

has_form : (s : Spec) (k : ℕ) (us : List Update) (o : Operator) → FormLaws → IsSpec s → slice_get s.operators k ≡ Some o → o.name ≢ [] → ¬ (¬ HasFormWith s k us) → Form s o.body us
has_form s k us o laws is q named h =
    let out = laws.some (setting which.Action s) o.body (updated us) is.smaller (body_within s.operators k o is.smaller q) in
    form_by s k us o out.0 laws is q named out.1 h

equal_unless : (a b : ℕ) → ¬ (a ≡ b → ⊥) → a ≡ b
equal_unless a b h = elim (cases_eq a b) [
  | inl e ↦ e
  | inr n ↦ absurd (h n)
]

-- the event with these arguments
ready_told : (s : Spec) (name : List ℕ) (k n : ℕ) (args : List Val) (us : List Update) → FormLaws → IsSpec s → (names_of s).operator name ≡ Some (k, n) → ¬ (length args ≡ n → ⊥) → AreValues args
    → ¬ (¬ HasFormWith s k us) → IsReadyAct s (updated us) (record { operator = k; arguments = args })
ready_told s name k n args us laws is told count values form =
    let t : IsTold s name k n = told_so s name k n told in
    let named : t.operator.name ≢ [] = λ e. t.some (sym t.named ∙ e) in (
      t.operator,
      t.is,
      record {
        named = named;
        level = t.level;
        arguments = equal_unless (length args) n count ∙ sym t.takes;
        values = values;
        form = has_form s k us t.operator laws is t.is named form;
      },
    )

act_is : (a b : Act) → ◌≡◌ {A = Option Act} (Some a) (Some b) → a ≡ b
act_is a b e = same_Some a b e

pub ready_event : (s : Spec) (name : Option (List ℕ)) (e : Option (ℕ × ℕ)) (args : List Val) (us : List Update) → FormLaws → IsSpec s → EventIs (names_of s) name e → ¬ (length args ≡ params_of e → ⊥)
    → HasValues (event_with e args) → ¬ HasNoForm (names_of s) e us → (a : Act) → act_of (event_with e args) ≡ Some a → IsReadyAct s (updated us) a
ready_event s name None args us laws is told count values form a q = absurd (cc)
ready_event s None (Some e) args us laws is told count values form a q = absurd (cc)
ready_event s (Some name) (Some e) args us laws is told count values form a q =
    let same : told.0 ≡ e = same_Some told.0 e (sym told.2) in
    let here : (names_of s).operator name ≡ Some e = told.1 ∙ ap (λ (p : ℕ × ℕ). Some p) same in
    subst (IsReadyAct s (updated us)) (act_is (record { operator = e.0; arguments = args }) a q) (ready_told s name e.0 e.1 args us laws is here count values form)
