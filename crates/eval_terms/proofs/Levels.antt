-- One level of evaluation, at a depth above 0.
use Rattle.std.proofs.Common.{◌≡◌, ℕ, zero, suc, ◌-◌, ◌<◌, sym, subst, arith}
use Rattle.std.specs.Prelude.{Result}
use Rattle.base_core.specs.declared.place.Place.{Place}
use Rattle.values_core.specs.Data.{Val}
use Rattle.names_terms.specs.declared.level.Level.{Level}
use Rattle.names_terms.specs.Terms.{Term, Placed, Meaning}
use Rattle.values_sets.specs.DescribedSets.{Described}
use Rattle.eval_meanings.specs.declared.fault.EvalFault.{EvalFault}
use Rattle.eval_meanings.specs.Answers.{Tells}
use Rattle.eval_meanings.specs.Contexts.{Context, Table}
use Rattle.eval_meanings.specs.Evaluates.{Evaluates, Describes}
use Rattle.eval_meanings.specs.Meanings.{MeaningEvaluates, MeaningDescribes}
use Rattle.eval_meanings.specs.Reads.{MeaningReads, Reads}

less_one : (d : ℕ) → suc d - 1 ≡ d
less_one d = omega arith

reads_below : (ops : Table) (d : ℕ) (c : Context) (at : Place) (l : Level) (m : Meaning) → 0 < d → Reads ops d c (Placed at l m) → MeaningReads ops (Reads ops (d - 1)) c at m
reads_below ops zero c at l m p h = absurd (omega (arith, p))
reads_below ops (suc d) c at l m p h = subst (λ n. MeaningReads ops (Reads ops n) c at m) (sym (less_one d)) h

pub reads_node : (ops : Table) (d : ℕ) (c : Context) (at : Place) (l : Level) (m : Meaning) (e : Term) → Placed at l m ≡ e → 0 < d → Reads ops d c e → MeaningReads ops (Reads ops (d - 1)) c at m
reads_node ops d c at l m e q p h = reads_below ops d c at l m p (subst (λ (x : Term). Reads ops d c x) (sym q) h)

evaluates_above : (ops : Table) (d : ℕ) (c : Context) (at : Place) (l : Level) (m : Meaning) (r : Result Val EvalFault) → 0 < d → Tells r (MeaningEvaluates ops (Evaluates ops (d - 1)) (Describes ops (d - 1)) c at m) → Tells r (Evaluates ops d c (Placed at l m))
evaluates_above ops zero c at l m r p h = absurd (omega (arith, p))
evaluates_above ops (suc d) c at l m r p h = subst (λ n. Tells r (MeaningEvaluates ops (Evaluates ops n) (Describes ops n) c at m)) (less_one d) h

pub evaluates_node : (ops : Table) (d : ℕ) (c : Context) (at : Place) (l : Level) (m : Meaning) (e : Term) (r : Result Val EvalFault) → Placed at l m ≡ e → 0 < d → Tells r (MeaningEvaluates ops (Evaluates ops (d - 1)) (Describes ops (d - 1)) c at m) → Tells r (Evaluates ops d c e)
evaluates_node ops d c at l m e r q p h = subst (λ (x : Term). Tells r (Evaluates ops d c x)) q (evaluates_above ops d c at l m r p h)

describes_above : (ops : Table) (d : ℕ) (c : Context) (at : Place) (l : Level) (m : Meaning) (r : Result Described EvalFault) → 0 < d → Tells r (MeaningDescribes ops (Evaluates ops (d - 1)) (Describes ops (d - 1)) c at m) → Tells r (Describes ops d c (Placed at l m))
describes_above ops zero c at l m r p h = absurd (omega (arith, p))
describes_above ops (suc d) c at l m r p h = subst (λ n. Tells r (MeaningDescribes ops (Evaluates ops n) (Describes ops n) c at m)) (less_one d) h

pub describes_node : (ops : Table) (d : ℕ) (c : Context) (at : Place) (l : Level) (m : Meaning) (e : Term) (r : Result Described EvalFault) → Placed at l m ≡ e → 0 < d → Tells r (MeaningDescribes ops (Evaluates ops (d - 1)) (Describes ops (d - 1)) c at m) → Tells r (Describes ops d c e)
describes_node ops d c at l m e r q p h = subst (λ (x : Term). Tells r (Describes ops d c x)) q (describes_above ops d c at l m r p h)
