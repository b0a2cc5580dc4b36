-- Where the actions of a specification have their forms, no other that is alike has a fault in them.
use Rattle.std.proofs.Common.{◌≡◌, ℕ, [], length, Option, Some, Result, Ok, Err, refl, sym, ap, ◌∙◌, subst}
use Rattle.std.specs.Prelude.{◌≢◌, IfSome, slice_get}
use Rattle.names_terms.specs.declared.ids.DefId.{DefId}
use Rattle.names_terms.specs.declared.operator.Operator.{Operator}
use Rattle.names_terms.specs.declared.spec.Spec.{Spec}
use Rattle.names_terms.specs.Terms.{Term}
use Rattle.actions_early_reads.specs.Orderly.{IsSoundThroughout}
use Rattle.names_specification_laws.specs.IsSpec.{IsSilent, IsSpec}
use Rattle.actions_form_laws.specs.Sound.{OperatorsAreSound, SpecsAreSound}
use Rattle.actions_meanings.specs.declared.fault.FormFault.{FormFault}
use Rattle.actions_meanings.specs.declared.which.Which.{Which}
use Rattle.actions_meanings.specs.declared.which.Which.TheVariants as which
use Rattle.actions_meanings.specs.Forms.{Setting}
use Rattle.actions_meanings.specs.Outcomes.{IsOutcome, IsWholeOutcome, wholly}
use Rattle.actions_meanings.specs.Reads.{VariableSet, in_none}
use Rattle.actions_forms.specs.Laws.{HasOneFormOutcome}
use Rattle.steps_lines_defs.specs.Says.{setting}
use Rattle.twice_terms.specs.Alike.{AlikeRows}
use Rattle.twice_terms.specs.Laws.{AreOne}
use Rattle.twice_terms.proofs.Inverted.{row_is}
use Rattle.twice_outcomes.specs.AlikeSettings.{AreAlikeIn, AreAlikeSettings}
use Rattle.twice_outcomes.specs.Actions.{OutcomesAlike, WholeAlike}
use Rattle.twice_tables.specs.Outcome.{AlikeSilent, AreAlike, both_silent, none_silent}
use Rattle.steps_forms.specs.Forms.{AreWhole, HasSilentForm, IsFirstFault, IsWhole, SilentOutcome, in_init, in_next, in_silent}

ok_no_err : {A E : Type 0} (a : A) (e : E) (r q : Result A E) → r ≡ Ok a → q ≡ Err e → r ≡ q → ⊥
ok_no_err a e r q h k same = let there : Ok a ≡ Err e = sym h ∙ same ∙ k in cc

some_same : {A : Type 0} (a b : A) (x y : Option A) → x ≡ Some a → y ≡ Some b → x ≡ y → a ≡ b
some_same a b x y h k e = cc

-- What is known of forms.
pub record FormsKnown : Type 0 where
  pub one : HasOneFormOutcome
  pub outcomes : OutcomesAlike
  pub whole : WholeAlike
  pub sound : SpecsAreSound
  pub sound_operators : OperatorsAreSound

module _ (known : FormsKnown) where
  -- what fixes every variable has no fault
  whole_alone : (g : Setting) (e : Term) (f : FormFault) → IsSoundThroughout g.table g.variables e → IsWhole g e → IsWholeOutcome g e in_none (Err f) → ⊥
  whole_alone g e f sound h k =
      let same : h.1.0 ≡ k.0 = known.one g e in_none h.1.0 k.0 sound h.1.1 k.1 in
      ok_no_err h.0 f (wholly g.variables e h.1.0) (wholly g.variables e k.0) h.1.2 k.2 (ap (wholly g.variables e) same)

  module _ (s t : Spec) (first : IsSpec s) (second : IsSpec t) (alike : AreAlike s t) where
    settings : (w : Which) → AreAlikeSettings (setting w s) (setting w t)
    settings w = record { which = refl; variables = ap length alike.variables; smaller = first.smaller; smaller_other = second.smaller }

    whole_there : (w : Which) (a b : Term) → AreAlikeIn (setting w s) (setting w t) a b → IsWhole (setting w s) a → IsWhole (setting w t) b
    whole_there w a b terms h = (h.0, known.whole (setting w s) (setting w t) (settings w) a b terms in_none (Ok h.0) h.1)

    -- ---- the operator of the steps that no line shows

    abbrev HasForm : Spec → DefId → Type 0
    HasForm g d = (C : VariableSet) × SilentOutcome g d (Ok C)

    row_there : (k j : ℕ) → AlikeRows AreOne s.operators t.operators k j → (C : VariableSet) (o : Operator) → slice_get s.operators k ≡ Some o
        → IsOutcome (setting which.Action s) o.body in_none (Ok C) → (q : Operator) × (slice_get t.operators j ≡ Some q) × IsOutcome (setting which.Action t) q.body in_none (Ok C)
    row_there k j row C o is h =
        let r = row_is AreOne s.operators t.operators k j o row is in
        (r.0, r.1, known.outcomes (setting which.Action s) (setting which.Action t) (settings which.Action) o.body r.0.body r.2.body in_none (Ok C) h)

    silent_there : (x y : Option DefId) → AlikeSilent s.operators t.operators x y → IfSome x (HasForm s) → IfSome y (HasForm t)
    silent_there _ _ none_silent h = tt
    silent_there _ _ (both_silent k j rows) h = (h.0, row_there k.0 j.0 rows h.0 h.1.0 h.1.1 h.1.2)

    silent_alone : (d : DefId) (f : FormFault) → t.silent ≡ Some d → HasSilentForm t → SilentOutcome t d (Err f) → ⊥
    silent_alone d f is h k =
        let form : HasForm t d = subst (λ (x : Option DefId). IfSome x (HasForm t)) is h in
        let named : IsSilent t.operators d.0 = subst (λ (x : Option DefId). IfSome x (λ (i : DefId). IsSilent t.operators i.0)) is second.silent in
        let same : form.1.0 ≡ k.0 = some_same form.1.0 k.0 _ _ form.1.1 k.1 refl in
        let called : named.operator ≡ k.0 = some_same named.operator k.0 _ _ named.is k.1 refl in
        let body : IsOutcome (setting which.Action t) k.0.body in_none (Ok form.0) =
        subst (λ (x : Operator). IsOutcome (setting which.Action t) x.body in_none (Ok form.0)) same form.1.2 in
        let sound = known.sound_operators t second d.0 k.0 k.1 (subst (λ (x : Operator). x.name ≢ []) called named.named) in
        ok_no_err form.0 f (Ok form.0) (Err f) refl refl (known.one (setting which.Action t) k.0.body in_none (Ok form.0) (Err f) sound body k.2)

    -- ---- the whole

    all_there : AreWhole s → AreWhole t
    all_there h = record {
      init = whole_there which.Init s.init t.init alike.init h.init;
      next = whole_there which.Action s.next t.next alike.next h.next;
      silent = silent_there s.silent t.silent alike.silent h.silent;
    }

    never_first : (f : FormFault) → AreWhole t → IsFirstFault t f → ⊥
    never_first _ h (in_init f k) = whole_alone (setting which.Init t) t.init f (known.sound t second).0 h.init k
    never_first _ h (in_next f a k) = whole_alone (setting which.Action t) t.next f (known.sound t second).1 h.next k
    never_first _ h (in_silent d f a b is k) = silent_alone d f is h.silent k

    pub forms_accepted : (f : FormFault) → AreWhole s → IsFirstFault t f → ⊥
    forms_accepted f h k = never_first f (all_there h) k
