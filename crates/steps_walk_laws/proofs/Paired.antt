-- Two facts that hold everywhere in a term hold together everywhere in it.
use Rattle.std.specs.Prelude.{◌+◌, ℕ, suc}
use Rattle.base_core.specs.declared.place.Place.{Place}
use Rattle.names_terms.specs.declared.level.Level.{Level}
use Rattle.names_terms.specs.Terms as term
use Rattle.names_terms.specs.Terms.{Term, Placed, Meaning, Terms, Operands, Step, Steps, Bounds, Fields, Changes, Arms, width}
use Rattle.names_specification_laws.specs.Everywhere.{Everywhere, Inside, InTerms, InOperands, InStep, InSteps, InBounds, InFields, InChanges, InArms}

module _ (P Q : ℕ → Place → Level → Meaning → Type 0) where
  abbrev Both : ℕ → Place → Level → Meaning → Type 0
  Both n at l m = P n at l m × Q n at l m

  mutual
    paired : (n : ℕ) (e : Term) → Everywhere P n e → Everywhere Q n e → Everywhere Both n e
    paired n (Placed at l m) h k = ((h.0, k.0), inside n m h.1 k.1)

    inside : (n : ℕ) (m : Meaning) → Inside P n m → Inside Q n m → Inside Both n m
    inside n (term.Known v) h k = tt
    inside n (term.Named s) h k = tt
    inside n (term.Variable x) h k = tt
    inside n (term.Slot i) h k = tt
    inside n (term.Use j ts) h k = terms n ts h k
    inside n (term.Standard o ts) h k = terms n ts h k
    inside n (term.Parenthesized e) h k = paired n e h k
    inside n (term.Scoped ks e) h k = paired n e h k
    inside n (term.All ts) h k = terms n ts h k
    inside n (term.Any ts) h k = terms n ts h k
    inside n (term.Prefix o e) h k = paired n e h k
    inside n (term.Infix o os e) h k = (operands n os h.0 k.0, paired n e h.1 k.1)
    inside n (term.Postfix e ss s) h k = (paired n e h.0 k.0, steps n ss h.1 k.1, step n s h.2 k.2)
    inside n (term.SetOf ts) h k = terms n ts h k
    inside n (term.Filter s e) h k = (paired n s h.0 k.0, paired (suc n) e h.1 k.1)
    inside n (term.Map e bs) h k = (paired (n + width bs) e h.0 k.0, bounds n bs h.1 k.1)
    inside n (term.Tuple ts) h k = terms n ts h k
    inside n (term.Function bs e) h k = (bounds n bs h.0 k.0, paired (n + width bs) e h.1 k.1)
    inside n (term.FunctionSet s e) h k = (paired n s h.0 k.0, paired n e h.1 k.1)
    inside n (term.Record fs) h k = fields n fs h k
    inside n (term.RecordSet fs) h k = fields n fs h k
    inside n (term.Except e cs) h k = (paired n e h.0 k.0, changes n cs h.1 k.1)
    inside n (term.Quantified q bs e) h k = (bounds n bs h.0 k.0, paired (n + width bs) e h.1 k.1)
    inside n (term.Choose s e) h k = (paired n s h.0 k.0, paired (suc n) e h.1 k.1)
    inside n (term.If p e f) h k = (paired n p h.0 k.0, paired n e h.1 k.1, paired n f h.2 k.2)
    inside n (term.Case cs) h k = arms n cs h k
    inside n (term.CaseOther cs e) h k = (arms n cs h.0 k.0, paired n e h.1 k.1)
    inside n (term.BoxAction e v) h k = (paired n e h.0 k.0, paired n v h.1 k.1)
    inside n (term.AngleAction e v) h k = (paired n e h.0 k.0, paired n v h.1 k.1)
    inside n (term.Fairness v e) h k = (paired n v h.0 k.0, paired n e h.1 k.1)

    terms : (n : ℕ) (ts : Terms) → InTerms P n ts → InTerms Q n ts → InTerms Both n ts
    terms n term.NoTerms h k = tt
    terms n (term.MoreTerms ts e) h k = (terms n ts h.0 k.0, paired n e h.1 k.1)

    operands : (n : ℕ) (os : Operands) → InOperands P n os → InOperands Q n os → InOperands Both n os
    operands n (term.First e) h k = paired n e h k
    operands n (term.Next os at e) h k = (operands n os h.0 k.0, paired n e h.1 k.1)

    step : (n : ℕ) (s : Step) → InStep P n s → InStep Q n s → InStep Both n s
    step n term.Prime h k = tt
    step n (term.Index ts) h k = terms n ts h k
    step n (term.Field f) h k = tt

    steps : (n : ℕ) (ss : Steps) → InSteps P n ss → InSteps Q n ss → InSteps Both n ss
    steps n term.NoSteps h k = tt
    steps n (term.MoreSteps ss at s) h k = (steps n ss h.0 k.0, step n s h.1 k.1)

    bounds : (n : ℕ) (bs : Bounds) → InBounds P n bs → InBounds Q n bs → InBounds Both n bs
    bounds n term.NoBounds h k = tt
    bounds n (term.MoreBounds bs i e) h k = (bounds n bs h.0 k.0, paired n e h.1 k.1)

    fields : (n : ℕ) (fs : Fields) → InFields P n fs → InFields Q n fs → InFields Both n fs
    fields n term.NoFields h k = tt
    fields n (term.MoreFields fs f e) h k = (fields n fs h.0 k.0, paired n e h.1 k.1)

    changes : (n : ℕ) (cs : Changes) → InChanges P n cs → InChanges Q n cs → InChanges Both n cs
    changes n term.NoChanges h k = tt
    changes n (term.MoreChanges cs path e) h k = (changes n cs h.0 k.0, steps n path h.1 k.1, paired (suc n) e h.2 k.2)

    arms : (n : ℕ) (cs : Arms) → InArms P n cs → InArms Q n cs → InArms Both n cs
    arms n term.NoArms h k = tt
    arms n (term.MoreArms cs p e) h k = (arms n cs h.0 k.0, paired n p h.1 k.1, paired n e h.2 k.2)

  pub everywhere_both : (n : ℕ) (e : Term) → Everywhere P n e → Everywhere Q n e → Everywhere Both n e
  everywhere_both n e h k = paired n e h k
