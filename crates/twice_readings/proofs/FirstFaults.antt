-- The first fault in the forms of two specifications that are alike is one.
use Rattle.std.proofs.Common.{◌≡◌, ◌∙◌, [], length, Option, Some, Result, Ok, Err, ap, refl, subst, sym}
use Rattle.std.specs.Prelude.{◌≢◌, IfSome}
use Rattle.names_terms.specs.declared.ids.DefId.{DefId}
use Rattle.names_terms.specs.declared.operator.Operator.{Operator}
use Rattle.names_terms.specs.declared.spec.Spec.{Spec}
use Rattle.names_terms.specs.Terms.{Term}
use Rattle.actions_early_reads.specs.Orderly.{IsSoundThroughout}
use Rattle.names_specification_laws.specs.IsSpec.{IsSilent, IsSpec}
use Rattle.actions_meanings.specs.declared.fault.FormFault.{FormFault}
use Rattle.actions_meanings.specs.declared.which.Which.{Which}
use Rattle.actions_meanings.specs.declared.which.Which.TheVariants as which
use Rattle.actions_meanings.specs.Forms.{Setting}
use Rattle.actions_meanings.specs.Outcomes.{IsOutcome, IsWholeOutcome, wholly}
use Rattle.actions_meanings.specs.Reads.{in_none}
use Rattle.steps_lines_defs.specs.Says.{setting}
use Rattle.twice_terms.specs.Laws.{AreOne}
use Rattle.twice_terms.proofs.Inverted.{row_is}
use Rattle.twice_outcomes.specs.AlikeSettings.{AreAlikeIn, AreAlikeSettings}
use Rattle.twice_tables.specs.Outcome.{AlikeSilent, AreAlike, both_silent, none_silent}
use Rattle.steps_forms.specs.Forms.{IsFirstFault, IsWhole, SilentOutcome, in_init, in_next, in_silent}
use Rattle.twice_readings.proofs.Stages.{none_is_some, some_is}
use Rattle.twice_readings.proofs.Forms.{FormsKnown}

ok_no_err : {A E : Type 0} (a : A) (e : E) (r q : Result A E) → r ≡ Ok a → q ≡ Err e → r ≡ q → ⊥
ok_no_err a e r q h k same = let there : Ok a ≡ Err e = sym h ∙ same ∙ k in cc

err_same : {A E : Type 0} (d e : E) (r q : Result A E) → r ≡ Err d → q ≡ Err e → r ≡ q → d ≡ e
err_same d e r q h k same = let there : Err d ≡ Err e = sym h ∙ same ∙ k in cc

module _ (known : FormsKnown) where
  one_fault : (g : Setting) (e : Term) (f h : FormFault) → IsSoundThroughout g.table g.variables e → IsWholeOutcome g e in_none (Err f) → IsWholeOutcome g e in_none (Err h) → f ≡ h
  one_fault g e f h sound a b =
      let same : a.0 ≡ b.0 = known.one g e in_none a.0 b.0 sound a.1 b.1 in
      err_same f h (wholly g.variables e a.0) (wholly g.variables e b.0) a.2 b.2 (ap (wholly g.variables e) same)

  no_fault : (g : Setting) (e : Term) (f : FormFault) → IsSoundThroughout g.table g.variables e → IsWhole g e → IsWholeOutcome g e in_none (Err f) → ⊥
  no_fault g e f sound h k =
      let same : h.1.0 ≡ k.0 = known.one g e in_none h.1.0 k.0 sound h.1.1 k.1 in
      ok_no_err h.0 f (wholly g.variables e h.1.0) (wholly g.variables e k.0) h.1.2 k.2 (ap (wholly g.variables e) same)

  module _ (s t : Spec) (first : IsSpec s) (second : IsSpec t) (alike : AreAlike s t) where
    settings : (w : Which) → AreAlikeSettings (setting w s) (setting w t)
    settings w = record { which = refl; variables = ap length alike.variables; smaller = first.smaller; smaller_other = second.smaller }

    whole_there : (w : Which) (a b : Term) → AreAlikeIn (setting w s) (setting w t) a b → IsWhole (setting w s) a → IsWhole (setting w t) b
    whole_there w a b terms h = (h.0, known.whole (setting w s) (setting w t) (settings w) a b terms in_none (Ok h.0) h.1)

    fault_there : (w : Which) (a b : Term) (f : FormFault) → AreAlikeIn (setting w s) (setting w t) a b → IsWholeOutcome (setting w s) a in_none (Err f)
        → IsWholeOutcome (setting w t) b in_none (Err f)
    fault_there w a b f terms h = known.whole (setting w s) (setting w t) (settings w) a b terms in_none (Err f) h

    -- ---- Init and Next

    init_alone : (f g : FormFault) → IsWholeOutcome (setting which.Init s) s.init in_none (Err f) → IsWholeOutcome (setting which.Init t) t.init in_none (Err g) → f ≡ g
    init_alone f g a b = one_fault (setting which.Init t) t.init f g (known.sound t second).0 (fault_there which.Init s.init t.init f alike.init a) b

    next_alone : (f g : FormFault) → IsWholeOutcome (setting which.Action s) s.next in_none (Err f) → IsWholeOutcome (setting which.Action t) t.next in_none (Err g) → f ≡ g
    next_alone f g a b = one_fault (setting which.Action t) t.next f g (known.sound t second).1 (fault_there which.Action s.next t.next f alike.next a) b

    init_never : (f : FormFault) → IsWholeOutcome (setting which.Init s) s.init in_none (Err f) → IsWhole (setting which.Init t) t.init → ⊥
    init_never f a b = no_fault (setting which.Init t) t.init f (known.sound t second).0 b (fault_there which.Init s.init t.init f alike.init a)

    never_init : (g : FormFault) → IsWhole (setting which.Init s) s.init → IsWholeOutcome (setting which.Init t) t.init in_none (Err g) → ⊥
    never_init g a b = no_fault (setting which.Init t) t.init g (known.sound t second).0 (whole_there which.Init s.init t.init alike.init a) b

    next_never : (f : FormFault) → IsWholeOutcome (setting which.Action s) s.next in_none (Err f) → IsWhole (setting which.Action t) t.next → ⊥
    next_never f a b = no_fault (setting which.Action t) t.next f (known.sound t second).1 b (fault_there which.Action s.next t.next f alike.next a)

    never_next : (g : FormFault) → IsWhole (setting which.Action s) s.next → IsWholeOutcome (setting which.Action t) t.next in_none (Err g) → ⊥
    never_next g a b = no_fault (setting which.Action t) t.next g (known.sound t second).1 (whole_there which.Action s.next t.next alike.next a) b

    -- ---- the operator of the steps that no line shows

    silent_there : (x y : Option DefId) (d : DefId) (f : FormFault) → AlikeSilent s.operators t.operators x y → x ≡ Some d → SilentOutcome s d (Err f)
        → (e : DefId) × (y ≡ Some e) × SilentOutcome t e (Err f)
    silent_there _ _ d f none_silent is h = absurd (none_is_some d is)
    silent_there _ _ d f (both_silent k j rows) is h =
        let same : d ≡ k = sym (some_is k d is) in
        let here : SilentOutcome s k (Err f) = subst (λ (x : DefId). SilentOutcome s x (Err f)) same h in
        let r = row_is AreOne s.operators t.operators k.0 j.0 here.0 rows here.1 in
        (j, refl, (r.0, r.1, known.outcomes (setting which.Action s) (setting which.Action t) (settings which.Action) here.0.body r.0.body r.2.body in_none (Err f) here.2))

    silent_alone : (d e : DefId) (f g : FormFault) → t.silent ≡ Some d → t.silent ≡ Some e → SilentOutcome t d (Err f) → SilentOutcome t e (Err g) → f ≡ g
    silent_alone d e f g is also a b =
        let same : d ≡ e = some_is d e (sym is ∙ also) in
        let here : SilentOutcome t e (Err f) = subst (λ (x : DefId). SilentOutcome t x (Err f)) same a in
        let named : IsSilent t.operators e.0 = subst (λ (x : Option DefId). IfSome x (λ (i : DefId). IsSilent t.operators i.0)) also second.silent in
        let one : here.0 ≡ b.0 = some_is here.0 b.0 (sym here.1 ∙ b.1) in
        let called : named.operator ≡ b.0 = some_is named.operator b.0 (sym named.is ∙ b.1) in
        let body : IsOutcome (setting which.Action t) b.0.body in_none (Err f) = subst (λ (x : Operator). IsOutcome (setting which.Action t) x.body in_none (Err f)) one here.2 in
        let sound = known.sound_operators t second e.0 b.0 b.1 (subst (λ (x : Operator). x.name ≢ []) called named.named) in
        err_same f g (Err f) (Err g) refl refl (known.one (setting which.Action t) b.0.body in_none (Err f) (Err g) sound body b.2)

    -- ---- the first of all

    pub one_first : (f g : FormFault) → IsFirstFault s f → IsFirstFault t g → f ≡ g
    one_first _ _ (in_init f a) (in_init g b) = init_alone f g a b
    one_first _ _ (in_init f a) (in_next g w b) = absurd (init_never f a w)
    one_first _ _ (in_init f a) (in_silent e g w v also b) = absurd (init_never f a w)
    one_first _ _ (in_next f w a) (in_init g b) = absurd (never_init g w b)
    one_first _ _ (in_next f w a) (in_next g v b) = next_alone f g a b
    one_first _ _ (in_next f w a) (in_silent e g u v also b) = absurd (next_never f a v)
    one_first _ _ (in_silent d f w v is a) (in_init g b) = absurd (never_init g w b)
    one_first _ _ (in_silent d f w v is a) (in_next g u b) = absurd (never_next g v b)
    one_first _ _ (in_silent d f w v is a) (in_silent e g u x also b) =
        let there = silent_there s.silent t.silent d f alike.silent is a in
        silent_alone there.0 e f g there.1 also there.2 b
