-- UNCHANGED of a term behind which stands no variable and no tuple.
use Rattle.std.proofs.Common.{◌≡◌, sym, subst, ℕ, length}
use Rattle.std.specs.Prelude.{Bool, Result}
use Rattle.base_core.specs.declared.place.Place.{Place}
use Rattle.names_terms.specs.Terms as term
use Rattle.names_terms.specs.Terms.{Term, Placed}
use Rattle.eval_meanings.specs.declared.fault.EvalFault.{EvalFault}
use Rattle.eval_meanings.specs.Answers.{Tells}
use Rattle.eval_meanings.specs.Contexts.{Context, Evaluate, Table, within}
use Rattle.eval_meanings.specs.Unchanged.{IsUnchanged, MeansUnchanged, StaysSame, behind}
use Rattle.actions_meanings.specs.Forms.{Form, test, unchanged_form}
use Rattle.eval_meanings.specs.Reads.{MeansUnchangedReads, Reading, SameReads, UnchangedReads}

abbrev IsTest : Form → Type 0
IsTest test = Unit {0}
IsTest f = ⊥

no_assignment : (f : Form) → f ≡ test → IsTest f
no_assignment f e = subst IsTest (sym e) tt

means_same : (ev : Evaluate) (c d : Context) (at : Place) (e : Term) (m : ℕ) (f : Term) (r : Result Bool EvalFault) → unchanged_form at (m, f) ≡ test → Tells r (StaysSame ev c at e) → Tells r (MeansUnchanged ev c at e d f)
means_same ev c d at e m (Placed p l (term.Variable x)) r q h = absurd (no_assignment _ q)
means_same ev c d at e m (Placed p l (term.Tuple ts)) r q h = absurd (no_assignment _ q)
means_same ev c d at e m (Placed p l f) r q h = h

reads_same : (part : Reading) (c d : Context) (at : Place) (e : Term) (m : ℕ) (f : Term) → unchanged_form at (m, f) ≡ test → MeansUnchangedReads part c at e d f → SameReads part c at e
reads_same part c d at e m (Placed p l (term.Variable x)) q h = absurd (no_assignment _ q)
reads_same part c d at e m (Placed p l (term.Tuple ts)) q h = absurd (no_assignment _ q)
reads_same part c d at e m (Placed p l f) q h = h

pub tested_same : (ops : Table) (ev : Evaluate) (c : Context) (at : Place) (e : Term) (r : Result Bool EvalFault) → unchanged_form at (behind ops (length ops) (length c.slots) e) ≡ test → Tells r (StaysSame ev c at e) → Tells r (IsUnchanged ops ev c at e)
tested_same ops ev c at e r q h = let found = behind ops (length ops) (length c.slots) e in means_same ev c (within found.0 c) at e found.0 found.1 r q h

pub tested_reads : (ops : Table) (part : Reading) (c : Context) (at : Place) (e : Term) → unchanged_form at (behind ops (length ops) (length c.slots) e) ≡ test → UnchangedReads ops part c at e → SameReads part c at e
tested_reads ops part c at e q h = let found = behind ops (length ops) (length c.slots) e in reads_same part c (within found.0 c) at e found.0 found.1 q h
