-- The variables of updates, gathered one after the other; and whether a body has a form.
use Rattle.std.proofs.Common.{◌≡◌, ◌<◌, ◌≤◌, ◌+◌, ℕ, List, ◌∷◌, length, get_or, drop, Bool, true, false, Result, Ok, Err, ap, sym, ◌∙◌, subst, refl, arith, inl, inr}
use Rattle.std.specs.Prelude.{◌||◌, ◌==◌, IfOk, MatchBool}
use Rattle.std.specs.declared.alloc.AllocError.{AllocError}
use Rattle.std.proofs.lemmas.Bool.{cases_lt}
use Rattle.std.proofs.lemmas.List.{at_drop_all, at_drop_more, get_or_default}
use Rattle.std.proofs.lemmas.Option.{same_Some}
use mathlib.Core.Path.{fun_ext}
use Rattle.names_terms.specs.declared.operator.Operator.{Operator}
use Rattle.actions_meanings.specs.declared.which.Which.TheVariants as which
use Rattle.steps_lines_defs.specs.Says.{setting}
use Rattle.names_terms.specs.declared.spec.Spec.{Spec}
use Rattle.names_terms.specs.Terms.{Term}
use Rattle.actions_meanings.specs.declared.fault.FormFault.{FormFault}
use Rattle.actions_meanings.specs.Reads.{VariableSet, Ends, in_none, with_variable}
use Rattle.actions_meanings.specs.Outcomes.{Fixes, IsOutcome, outcome_within}
use Rattle.logs_updates.specs.declared.update.Update.{Update}
use Rattle.steps_lines_defs.specs.Asks.{updated}
use Rattle.actions_early_reads.specs.declared.walking.Walk.{Walk}
use Rattle.actions_early_reads.specs.Ready.{IsWalked, setting_of, table_of}
use Rattle.actions_early_reads.specs.Sets.{shown}
use Rattle.actions_forms.specs.Laws.{HasFormOutcome, HasOneFormOutcome}
use Rattle.actions_forms.specs.Says.{SaysFixed}
use Rattle.steps_names.specs.Names.{AreOf, HasFormWith}
use Rattle.steps_names.specs.Walks.{HasForm, HasNoName, IsBodyInOrder, IsNamedBody}

-- UPDATES

-- the variables of the first i updates are in the set, and are in range
pub record Gathers (variables : ℕ) (us : List Update) (i set : ℕ) : Type 0 where
  pub within : (k : ℕ) (d : Update) → k < i → k < length us → (get_or us k d).path.variable.0 < variables
  pub ahead : (x : ℕ) → (shown set x || updated (drop i us) x) ≡ updated us x

pub gathers-begins : (variables : ℕ) (us : List Update) (set : ℕ) → shown set ≡ in_none → Gathers variables us 0 set
gathers-begins variables us set none = record {
  within = λ k d below l. absurd (omega (arith, below));
  ahead = λ x. ap (λ (B : VariableSet). B x || updated us x) none;
}

or_moved : (a b c : Bool) → ((a || b) || c) ≡ (a || (b || c))
or_moved true b c = refl
or_moved false b c = refl

or_none : (a : Bool) → (a || false) ≡ a
or_none true = refl
or_none false = refl

pub gathers-more : (variables : ℕ) (us : List Update) (i : ℕ) (u : Update) (set more : ℕ) → variables ≤ 64 → i < length us → u ≡ get_or us i u → u.path.variable.0 < variables
    → (u.path.variable.0 < 64 → shown more ≡ with_variable (shown set) u.path.variable.0) → Gathers variables us i set → Gathers variables us (i + 1) more
gathers-more variables us i u set more few inside is below adds h = record {
  within = λ k d earlier l. elim (cases_lt k i) [
    | inl lt ↦ h.within k d lt l
    | inr past ↦ last k d (omega (arith, earlier, past)) l
  ];
  ahead = λ x.
      ap (λ (B : VariableSet). B x || updated (drop (i + 1) us) x) (adds (omega (arith, below, few)))
      ∙ or_moved (shown set x) (u.path.variable.0 == x) (updated (drop (i + 1) us) x)
      ∙ sym (ap (λ (b : Bool). shown set x || b) (at_drop_more (λ vs. updated vs x) us i u inside ∙ ap (λ (v : Update). updated (v ∷ drop (i + 1) us) x) (sym is)))
      ∙ h.ahead x;
}
  where
    at_same : (d : Update) → get_or us i d ≡ u
    at_same d = get_or_default us i d u inside ∙ sym is

    last : (k : ℕ) (d : Update) → k ≡ i → k < length us → (get_or us k d).path.variable.0 < variables
    last k d e l = subst (λ (j : ℕ). (get_or us j d).path.variable.0 < variables) (sym e) (subst (λ (v : Update). v.path.variable.0 < variables) (sym (at_same d)) below)

pub gathers-ends : (variables : ℕ) (us : List Update) (i set : ℕ) → length us ≤ i → Gathers variables us i set → AreOf variables us × (shown set ≡ updated us)
gathers-ends variables us i set end h = (
  (λ k d l. h.within k d (omega (arith, l, end)) l),
  fun_ext (λ x. sym (or_none (shown set x)) ∙ sym (ap (λ (b : Bool). shown set x || b) (at_drop_all (λ vs. updated vs x) us i end)) ∙ h.ahead x),
)

pub gathers-stops : (variables : ℕ) (us : List Update) (i : ℕ) (u : Update) → i < length us → u ≡ get_or us i u → variables ≤ u.path.variable.0 → ¬ AreOf variables us
gathers-stops variables us i u inside is past all =
    let below : u.path.variable.0 < variables = subst (λ (v : Update). v.path.variable.0 < variables) (sym is) (all i u inside) in
    omega (arith, below, past)

-- FORMS

-- where the body has an outcome at so many levels
pub record AtLevels (w : Walk) (bound : ℕ) (body : Term) (B : VariableSet) : Type 0 where
  pub levels : ℕ
  pub ends : Ends (table_of w) levels body
  pub walked : IsWalked w bound levels body

pub at_levels : (w : Walk) (bound : ℕ) (body : Term) (B : VariableSet) → HasFormOutcome → IsBodyInOrder w bound body → AtLevels w bound body B
at_levels w bound body B some h =
    let out : (r : _) × IsOutcome (setting_of w) body B r = some (setting_of w) body B h.ready.smaller h.uses in
    record { levels = out.1.0; ends = out.1.1; walked = record { ready = h.ready; within = h.within; fits = record { below = h.below; orderly = h.sound; ends = out.1.1 } } }

pub has_one : (w : Walk) (bound : ℕ) (body : Term) (B : VariableSet) (c : ℕ) → HasFormOutcome → IsBodyInOrder w bound body → SaysFixed w bound B body (Ok c) → HasForm w body B
has_one w bound body B c some h says = let at = at_levels w bound body B some h in (shown c, (at.levels, at.ends, says at.levels at.walked))

pub has_none : (w : Walk) (bound : ℕ) (body : Term) (B : VariableSet) (f : FormFault) → HasFormOutcome → HasOneFormOutcome → IsBodyInOrder w bound body
    → ((k : ℕ) → IsWalked w bound k body → outcome_within (setting_of w) k body B ≡ Err f) → ¬ HasForm w body B
has_none w bound body B f some one h says form =
    let at = at_levels w bound body B some h in
    let same : Ok form.0 ≡ Err f = one (setting_of w) body B (Ok form.0) (Err f) h.sound form.1 (at.levels, at.ends, says at.levels at.walked) in
    apart form.0 same
  where
    apart : (C : VariableSet) → ◌≡◌ {A = Result VariableSet FormFault} (Ok C) (Err f) → ⊥
    apart C e = cc

-- THE SPECIFICATION'S FORMS

-- the set is of the variables that the updates change
abbrev AreUpdated : Spec → List Update → ℕ → Type 0
AreUpdated s us B = AreOf (length s.variables) us × (shown B ≡ updated us)

form_given : (s : Spec) (w : Walk) (k B : ℕ) (us : List Update) (body : Term) → setting_of w ≡ setting which.Action s → AreUpdated s us B → IsNamedBody s.operators k body → HasForm w body (shown B) → HasFormWith s k us
form_given s w k B us body same u n form = record {
  operator = n.operator;
  is = n.is;
  named = n.named;
  within = u.0;
  leaves = form.0;
  form = subst (λ g. Fixes g n.operator.body (updated us) form.0) same (subst (λ (D : VariableSet). Fixes (setting_of w) n.operator.body D form.0) u.1 (subst (λ (b : Term). Fixes (setting_of w) b (shown B) form.0) (sym n.same) form.1));
}

form_taken : (s : Spec) (w : Walk) (k B : ℕ) (us : List Update) (body : Term) → setting_of w ≡ setting which.Action s → AreUpdated s us B → IsNamedBody s.operators k body → HasFormWith s k us → HasForm w body (shown B)
form_taken s w k B us body same u n h =
    let here : h.operator.body ≡ body = ap (λ (o : Operator). o.body) (same_Some h.operator n.operator (sym h.is ∙ n.is)) ∙ n.same in
    (h.leaves, subst (λ g. Fixes g body (shown B) h.leaves) (sym same) (subst (λ (D : VariableSet). Fixes (setting which.Action s) body D h.leaves) (sym u.1) (subst (λ (b : Term). Fixes (setting which.Action s) b (updated us) h.leaves) here h.form)))

pub form_said : (s : Spec) (w : Walk) (k B : ℕ) (us : List Update) (body : Term) (r : Result Bool AllocError) → setting_of w ≡ setting which.Action s → AreUpdated s us B → IsNamedBody s.operators k body
    → IfOk r (λ b. MatchBool b (HasForm w body (shown B)) (¬ HasForm w body (shown B))) → IfOk r (λ b. MatchBool b (HasFormWith s k us) (¬ HasFormWith s k us))
form_said s w k B us body (Ok true) same u n h = form_given s w k B us body same u n h
form_said s w k B us body (Ok false) same u n h = λ f. h (form_taken s w k B us body same u n f)
form_said s w k B us body (Err e) same u n h = tt

pub unnamed : (s : Spec) (k : ℕ) (us : List Update) → HasNoName s.operators k → ¬ HasFormWith s k us
unnamed s k us h f = f.named (h f.operator f.is)
