-- What UNCHANGED follows: one name at a time; and the rows of UNCHANGED and of `[A]_v`.
use Rattle.std.proofs.Common.{◌≡◌, inl, inr, refl, ap, sym, ◌∙◌, subst, List, [], ◌∷◌, length, drop, map, ◌<◌, ◌≤◌, ◌+◌, ◌-◌, ℕ, zero, suc, min, arith}
use Rattle.std.specs.Prelude.{◌↔◌, Bool, true, false, Option, Some, None, Result, Ok, Err, IsTrue, slice_get}
use Rattle.base_core.specs.declared.place.Place.{Place}
use Rattle.states_core.specs.declared.fault.Fault.{Fault}
use Rattle.values_core.specs.Data.{Val, truth}
use Rattle.values_core.specs.Order.{val_eq}
use Rattle.values_core.specs.OrderLaws.{val_same, val_eq_equiv}
use Rattle.values_core.specs.declared.fault.EvalKind.TheVariants.{Nested}
use Rattle.states_core.specs.declared.var_id.VarId.{VarId}
use Rattle.names_terms.specs.declared.ids.DefId.{DefId}
use Rattle.names_terms.specs.declared.level.Level.{Level}
use Rattle.names_terms.specs.declared.level.Level.TheVariants as levels
use Rattle.names_terms.specs.declared.operator.Operator.{Operator}
use Rattle.names_terms.specs.Terms as term
use Rattle.names_terms.specs.Terms.{Term, Placed, Meaning, Terms, place_of}
use Rattle.names_terms.specs.TermViews.{node_view}
use Rattle.names_terms.specs.declared.term.TermNode.{TermNode}
use Rattle.names_terms.specs.declared.term.TermNode.TheVariants as node
use Rattle.eval_meanings.specs.declared.fault.EvalFault.{EvalFault}
use Rattle.eval_meanings.specs.declared.fault.EvalFault.TheVariants.{Refused, NoMemory}
use Rattle.eval_meanings.specs.Answers.{Tells}
use Rattle.eval_meanings.specs.Contexts.{Context, Evaluate, Table, within}
use Rattle.eval_meanings.specs.Evaluates.{Evaluates}
use Rattle.eval_meanings.specs.Outcomes.{Outcome, Decides, Gives, IsTruth, SomeTrue, Then, fault, truth_at}
use Rattle.eval_meanings.specs.Unchanged.{IsUnchanged, MeansUnchanged, StaysSame, TruthOf, behind, unchanged_of}
use Rattle.eval_parts.specs.Following.{followed, variable_at}
use Rattle.eval_parts.proofs.Loops.{Cut}
use Rattle.eval_meanings.specs.Reads.{Knows, MeansUnchangedReads, Reading, Reads, ReadsEach, SameReads, UnchangedReads}

-- a term that stands for no definition
pub behind_stops : (ops : Table) (n m : ℕ) (e : Term) → followed ops e ≡ None → behind ops n m e ≡ (m, e)
behind_stops ops zero m e h = refl
behind_stops ops (suc n) m (Placed at levels.Constant x) h = refl
behind_stops ops (suc n) m (Placed at levels.Action x) h = refl
behind_stops ops (suc n) m (Placed at levels.Temporal x) h = refl
behind_stops ops (suc n) m (Placed at levels.State (term.Known v)) h = refl
behind_stops ops (suc n) m (Placed at levels.State (term.Named s)) h = refl
behind_stops ops (suc n) m (Placed at levels.State (term.Variable x)) h = refl
behind_stops ops (suc n) m (Placed at levels.State (term.Slot i)) h = refl
behind_stops ops (suc n) m (Placed at levels.State (term.Use k term.NoTerms)) h =
    let pick : Option Operator → ℕ × Term = λ r. elim r [
      | None ↦ (m, Placed at levels.State (term.Use k term.NoTerms))
      | Some o ↦ behind ops n (min o.outer m) o.body
    ] in
    ap pick h
behind_stops ops (suc n) m (Placed at levels.State (term.Use k (term.MoreTerms ts t))) h = refl
behind_stops ops (suc n) m (Placed at levels.State (term.Standard op ts)) h = refl
behind_stops ops (suc n) m (Placed at levels.State (term.Parenthesized e)) h = refl
behind_stops ops (suc n) m (Placed at levels.State (term.Scoped ks e)) h = refl
behind_stops ops (suc n) m (Placed at levels.State (term.All ts)) h = refl
behind_stops ops (suc n) m (Placed at levels.State (term.Any ts)) h = refl
behind_stops ops (suc n) m (Placed at levels.State (term.Prefix op e)) h = refl
behind_stops ops (suc n) m (Placed at levels.State (term.Infix op os e)) h = refl
behind_stops ops (suc n) m (Placed at levels.State (term.Postfix e ss s)) h = refl
behind_stops ops (suc n) m (Placed at levels.State (term.SetOf ts)) h = refl
behind_stops ops (suc n) m (Placed at levels.State (term.Filter a b)) h = refl
behind_stops ops (suc n) m (Placed at levels.State (term.Map a bs)) h = refl
behind_stops ops (suc n) m (Placed at levels.State (term.Tuple ts)) h = refl
behind_stops ops (suc n) m (Placed at levels.State (term.Function bs a)) h = refl
behind_stops ops (suc n) m (Placed at levels.State (term.FunctionSet a b)) h = refl
behind_stops ops (suc n) m (Placed at levels.State (term.Record fs)) h = refl
behind_stops ops (suc n) m (Placed at levels.State (term.RecordSet fs)) h = refl
behind_stops ops (suc n) m (Placed at levels.State (term.Except a cs)) h = refl
behind_stops ops (suc n) m (Placed at levels.State (term.Quantified q bs a)) h = refl
behind_stops ops (suc n) m (Placed at levels.State (term.Choose a b)) h = refl
behind_stops ops (suc n) m (Placed at levels.State (term.If p a b)) h = refl
behind_stops ops (suc n) m (Placed at levels.State (term.Case arms)) h = refl
behind_stops ops (suc n) m (Placed at levels.State (term.CaseOther arms e)) h = refl
behind_stops ops (suc n) m (Placed at levels.State (term.BoxAction a v)) h = refl
behind_stops ops (suc n) m (Placed at levels.State (term.AngleAction a v)) h = refl
behind_stops ops (suc n) m (Placed at levels.State (term.Fairness v a)) h = refl

-- a name that stands for a definition
behind_goes : (ops : Table) (n m : ℕ) (e : Term) (o : Operator) → followed ops e ≡ Some o → behind ops (suc n) m e ≡ behind ops n (min o.outer m) o.body
behind_goes ops n m (Placed at levels.Constant x) o h = cc
behind_goes ops n m (Placed at levels.Action x) o h = cc
behind_goes ops n m (Placed at levels.Temporal x) o h = cc
behind_goes ops n m (Placed at levels.State (term.Known v)) o h = cc
behind_goes ops n m (Placed at levels.State (term.Named s)) o h = cc
behind_goes ops n m (Placed at levels.State (term.Variable x)) o h = cc
behind_goes ops n m (Placed at levels.State (term.Slot i)) o h = cc
behind_goes ops n m (Placed at levels.State (term.Use k term.NoTerms)) o h =
    let pick : Option Operator → ℕ × Term = λ r. elim r [
      | None ↦ (m, Placed at levels.State (term.Use k term.NoTerms))
      | Some o ↦ behind ops n (min o.outer m) o.body
    ] in
    ap pick h
behind_goes ops n m (Placed at levels.State (term.Use k (term.MoreTerms ts t))) o h = cc
behind_goes ops n m (Placed at levels.State (term.Standard op ts)) o h = cc
behind_goes ops n m (Placed at levels.State (term.Parenthesized e)) o h = cc
behind_goes ops n m (Placed at levels.State (term.Scoped ks e)) o h = cc
behind_goes ops n m (Placed at levels.State (term.All ts)) o h = cc
behind_goes ops n m (Placed at levels.State (term.Any ts)) o h = cc
behind_goes ops n m (Placed at levels.State (term.Prefix op e)) o h = cc
behind_goes ops n m (Placed at levels.State (term.Infix op os e)) o h = cc
behind_goes ops n m (Placed at levels.State (term.Postfix e ss s)) o h = cc
behind_goes ops n m (Placed at levels.State (term.SetOf ts)) o h = cc
behind_goes ops n m (Placed at levels.State (term.Filter a b)) o h = cc
behind_goes ops n m (Placed at levels.State (term.Map a bs)) o h = cc
behind_goes ops n m (Placed at levels.State (term.Tuple ts)) o h = cc
behind_goes ops n m (Placed at levels.State (term.Function bs a)) o h = cc
behind_goes ops n m (Placed at levels.State (term.FunctionSet a b)) o h = cc
behind_goes ops n m (Placed at levels.State (term.Record fs)) o h = cc
behind_goes ops n m (Placed at levels.State (term.RecordSet fs)) o h = cc
behind_goes ops n m (Placed at levels.State (term.Except a cs)) o h = cc
behind_goes ops n m (Placed at levels.State (term.Quantified q bs a)) o h = cc
behind_goes ops n m (Placed at levels.State (term.Choose a b)) o h = cc
behind_goes ops n m (Placed at levels.State (term.If p a b)) o h = cc
behind_goes ops n m (Placed at levels.State (term.Case arms)) o h = cc
behind_goes ops n m (Placed at levels.State (term.CaseOther arms e)) o h = cc
behind_goes ops n m (Placed at levels.State (term.BoxAction a v)) o h = cc
behind_goes ops n m (Placed at levels.State (term.AngleAction a v)) o h = cc
behind_goes ops n m (Placed at levels.State (term.Fairness v a)) o h = cc

-- so many names have been followed
pub behind_more : (ops : Table) (i m : ℕ) (e : Term) (o : Operator) → i < length ops → followed ops e ≡ Some o → behind ops (length ops - (i + 1)) (min m o.outer) o.body ≡ behind ops (length ops - i) m e
behind_more ops i m e o l h =
    let less : length ops - i ≡ suc (length ops - (i + 1)) = omega (arith, l) in
    let least : min m o.outer ≡ min o.outer m = omega arith in
    ap (λ k. behind ops (length ops - (i + 1)) k o.body) least ∙ sym (behind_goes ops (length ops - (i + 1)) m e o h) ∙ ap (λ k. behind ops k m e) (sym less)

pub behind_all : (ops : Table) (i m : ℕ) (e : Term) → length ops ≤ i → behind ops (length ops - i) m e ≡ (m, e)
behind_all ops i m e l =
    let none : length ops - i ≡ 0 = omega (arith, l) in ap (λ k. behind ops k m e) none

-- a term that is no such name
not_state : (ops : Table) (at : Place) (l : Level) (x : Meaning) → (l ≡ levels.State → ⊥) → followed ops (Placed at l x) ≡ None
not_state ops at levels.Constant x n = refl
not_state ops at levels.State x n = absurd (n refl)
not_state ops at levels.Action x n = refl
not_state ops at levels.Temporal x n = refl

pub follows_state : (ops : Table) (at : Place) (l : Level) (x : Meaning) (e : Term) → Placed at l x ≡ e → (l ≡ levels.State → ⊥) → followed ops e ≡ None
follows_state ops at l x e q n = ap (followed ops) (sym q) ∙ not_state ops at l x n

follows_node : (ops : Table) (at : Place) (l : Level) (n : TermNode) → ((k : DefId) (ts : Terms) → n ≡ node.Use k ts → ⊥) → followed ops (Placed at l (node_view n)) ≡ None
follows_node ops at levels.Constant n u = refl
follows_node ops at levels.Action n u = refl
follows_node ops at levels.Temporal n u = refl
follows_node ops at levels.State (node.Known v) u = refl
follows_node ops at levels.State (node.Named s) u = refl
follows_node ops at levels.State (node.Variable x) u = refl
follows_node ops at levels.State (node.Slot i) u = refl
follows_node ops at levels.State (node.Use k ts) u = absurd (u k ts refl)
follows_node ops at levels.State (node.Standard op ts) u = refl
follows_node ops at levels.State (node.Parenthesized e) u = refl
follows_node ops at levels.State (node.Scoped ks e) u = refl
follows_node ops at levels.State (node.All ts) u = refl
follows_node ops at levels.State (node.Any ts) u = refl
follows_node ops at levels.State (node.Prefix op e) u = refl
follows_node ops at levels.State (node.Infix op os e) u = refl
follows_node ops at levels.State (node.Postfix e ss s) u = refl
follows_node ops at levels.State (node.SetOf ts) u = refl
follows_node ops at levels.State (node.Filter a b) u = refl
follows_node ops at levels.State (node.Map a bs) u = refl
follows_node ops at levels.State (node.Tuple ts) u = refl
follows_node ops at levels.State (node.Function bs a) u = refl
follows_node ops at levels.State (node.FunctionSet a b) u = refl
follows_node ops at levels.State (node.Record fs) u = refl
follows_node ops at levels.State (node.RecordSet fs) u = refl
follows_node ops at levels.State (node.Except a cs) u = refl
follows_node ops at levels.State (node.Quantified q bs a) u = refl
follows_node ops at levels.State (node.Choose a b) u = refl
follows_node ops at levels.State (node.If p a b) u = refl
follows_node ops at levels.State (node.Case arms None) u = refl
follows_node ops at levels.State (node.Case arms (Some e)) u = refl
follows_node ops at levels.State (node.BoxAction a v) u = refl
follows_node ops at levels.State (node.AngleAction a v) u = refl
follows_node ops at levels.State (node.Fairness v a) u = refl

pub follows_none : (ops : Table) (at : Place) (l : Level) (n : TermNode) (e : Term) → Placed at l (node_view n) ≡ e → ((k : DefId) (ts : Terms) → n ≡ node.Use k ts → ⊥) → followed ops e ≡ None
follows_none ops at l n e q u = ap (followed ops) (sym q) ∙ follows_node ops at l n u

-- of what is no variable and no tuple that its value stays the same
stays_node : (ev : Evaluate) (c d : Context) (at p : Place) (l : Level) (e : Term) (n : TermNode) → ((x : VarId) → n ≡ node.Variable x → ⊥) → ((ts : Terms) → n ≡ node.Tuple ts → ⊥) → MeansUnchanged ev c at e d (Placed p l (node_view n)) ≡ StaysSame ev c at e
stays_node ev c d at p l e (node.Known v) no_var no_tuple = refl
stays_node ev c d at p l e (node.Named s) no_var no_tuple = refl
stays_node ev c d at p l e (node.Variable x) no_var no_tuple = absurd (no_var x refl)
stays_node ev c d at p l e (node.Slot i) no_var no_tuple = refl
stays_node ev c d at p l e (node.Use k ts) no_var no_tuple = refl
stays_node ev c d at p l e (node.Standard op ts) no_var no_tuple = refl
stays_node ev c d at p l e (node.Parenthesized t) no_var no_tuple = refl
stays_node ev c d at p l e (node.Scoped ks t) no_var no_tuple = refl
stays_node ev c d at p l e (node.All ts) no_var no_tuple = refl
stays_node ev c d at p l e (node.Any ts) no_var no_tuple = refl
stays_node ev c d at p l e (node.Prefix op t) no_var no_tuple = refl
stays_node ev c d at p l e (node.Infix op os t) no_var no_tuple = refl
stays_node ev c d at p l e (node.Postfix t ss s) no_var no_tuple = refl
stays_node ev c d at p l e (node.SetOf ts) no_var no_tuple = refl
stays_node ev c d at p l e (node.Filter a b) no_var no_tuple = refl
stays_node ev c d at p l e (node.Map a bs) no_var no_tuple = refl
stays_node ev c d at p l e (node.Tuple ts) no_var no_tuple = absurd (no_tuple ts refl)
stays_node ev c d at p l e (node.Function bs a) no_var no_tuple = refl
stays_node ev c d at p l e (node.FunctionSet a b) no_var no_tuple = refl
stays_node ev c d at p l e (node.Record fs) no_var no_tuple = refl
stays_node ev c d at p l e (node.RecordSet fs) no_var no_tuple = refl
stays_node ev c d at p l e (node.Except a cs) no_var no_tuple = refl
stays_node ev c d at p l e (node.Quantified q bs a) no_var no_tuple = refl
stays_node ev c d at p l e (node.Choose a b) no_var no_tuple = refl
stays_node ev c d at p l e (node.If g a b) no_var no_tuple = refl
stays_node ev c d at p l e (node.Case arms None) no_var no_tuple = refl
stays_node ev c d at p l e (node.Case arms (Some t)) no_var no_tuple = refl
stays_node ev c d at p l e (node.BoxAction a v) no_var no_tuple = refl
stays_node ev c d at p l e (node.AngleAction a v) no_var no_tuple = refl
stays_node ev c d at p l e (node.Fairness v a) no_var no_tuple = refl

pub stays_else : (ev : Evaluate) (c d : Context) (at p : Place) (l : Level) (e : Term) (n : TermNode) (f : Term) (r : Result Bool EvalFault) → Placed p l (node_view n) ≡ f → ((x : VarId) → n ≡ node.Variable x → ⊥) → ((ts : Terms) → n ≡ node.Tuple ts → ⊥) → Tells r (StaysSame ev c at e) → Tells r (MeansUnchanged ev c at e d f)
stays_else ev c d at p l e n f r q u v h = subst (λ (g : Term). Tells r (MeansUnchanged ev c at e d g)) q (subst (λ (P : Outcome Bool). Tells r P) (sym (stays_node ev c d at p l e n u v)) h)

reads_same_node : (part : Reading) (c d : Context) (at p : Place) (l : Level) (e : Term) (n : TermNode) → ((x : VarId) → n ≡ node.Variable x → ⊥) → ((ts : Terms) → n ≡ node.Tuple ts → ⊥) → MeansUnchangedReads part c at e d (Placed p l (node_view n)) → SameReads part c at e
reads_same_node part c d at p l e (node.Known v) no_var no_tuple h = h
reads_same_node part c d at p l e (node.Named s) no_var no_tuple h = h
reads_same_node part c d at p l e (node.Variable x) no_var no_tuple h = absurd (no_var x refl)
reads_same_node part c d at p l e (node.Slot i) no_var no_tuple h = h
reads_same_node part c d at p l e (node.Use k ts) no_var no_tuple h = h
reads_same_node part c d at p l e (node.Standard op ts) no_var no_tuple h = h
reads_same_node part c d at p l e (node.Parenthesized t) no_var no_tuple h = h
reads_same_node part c d at p l e (node.Scoped ks t) no_var no_tuple h = h
reads_same_node part c d at p l e (node.All ts) no_var no_tuple h = h
reads_same_node part c d at p l e (node.Any ts) no_var no_tuple h = h
reads_same_node part c d at p l e (node.Prefix op t) no_var no_tuple h = h
reads_same_node part c d at p l e (node.Infix op os t) no_var no_tuple h = h
reads_same_node part c d at p l e (node.Postfix t ss s) no_var no_tuple h = h
reads_same_node part c d at p l e (node.SetOf ts) no_var no_tuple h = h
reads_same_node part c d at p l e (node.Filter a b) no_var no_tuple h = h
reads_same_node part c d at p l e (node.Map a bs) no_var no_tuple h = h
reads_same_node part c d at p l e (node.Tuple ts) no_var no_tuple h = absurd (no_tuple ts refl)
reads_same_node part c d at p l e (node.Function bs a) no_var no_tuple h = h
reads_same_node part c d at p l e (node.FunctionSet a b) no_var no_tuple h = h
reads_same_node part c d at p l e (node.Record fs) no_var no_tuple h = h
reads_same_node part c d at p l e (node.RecordSet fs) no_var no_tuple h = h
reads_same_node part c d at p l e (node.Except a cs) no_var no_tuple h = h
reads_same_node part c d at p l e (node.Quantified q bs a) no_var no_tuple h = h
reads_same_node part c d at p l e (node.Choose a b) no_var no_tuple h = h
reads_same_node part c d at p l e (node.If g a b) no_var no_tuple h = h
reads_same_node part c d at p l e (node.Case arms None) no_var no_tuple h = h
reads_same_node part c d at p l e (node.Case arms (Some t)) no_var no_tuple h = h
reads_same_node part c d at p l e (node.BoxAction a v) no_var no_tuple h = h
reads_same_node part c d at p l e (node.AngleAction a v) no_var no_tuple h = h
reads_same_node part c d at p l e (node.Fairness v a) no_var no_tuple h = h

pub reads_same : (part : Reading) (c d : Context) (at p : Place) (l : Level) (e : Term) (n : TermNode) (f : Term) → Placed p l (node_view n) ≡ f → ((x : VarId) → n ≡ node.Variable x → ⊥) → ((ts : Terms) → n ≡ node.Tuple ts → ⊥) → MeansUnchangedReads part c at e d f → SameReads part c at e
reads_same part c d at p l e n f q u v h = reads_same_node part c d at p l e n u v (subst (λ (g : Term). MeansUnchangedReads part c at e d g) (sym q) h)

-- a variable
pub stays_nested : (ops : Table) (d : ℕ) (c : Context) (at : Place) (x : ℕ) → d < 2 → StaysSame (Evaluates ops d) c at (variable_at at x) (Err (fault Nested at))
stays_nested ops zero c at x l = inr (fault Nested at, refl, refl)
stays_nested ops (suc zero) c at x l = inr (fault Nested at, refl, refl)
stays_nested ops (suc (suc d)) c at x l = absurd (omega (arith, l))

pub same_value : (v w : Val) → Decides (v ≡ w) (Ok (val_eq v w))
same_value v w = (val_eq v w, ((λ e. val_same v w e), (λ e. subst (λ (u : Val). IsTrue (val_eq v u)) e (val_eq_equiv.refl v))), refl)

pub stays_known : (ops : Table) (d : ℕ) (c : Context) (at : Place) (x : ℕ) (v w : Val) → 2 ≤ d → slice_get c.next x ≡ Some (Some v) → slice_get c.now x ≡ Some (Some w) → StaysSame (Evaluates ops d) c at (variable_at at x) (Ok (val_eq v w))
stays_known ops zero c at x v w l a b = absurd (omega (arith, l))
stays_known ops (suc zero) c at x v w l a b = absurd (omega (arith, l))
stays_known ops (suc (suc d)) c at x v w l a b = inl (v, (v, a, refl), inl (w, (w, b, refl), same_value v w))

pub reads_known : (ops : Table) (d : ℕ) (c : Context) (at : Place) (x : ℕ) → 2 ≤ d → SameReads (Reads ops d) c at (variable_at at x) → Knows c.next x × Knows c.now x
reads_known ops zero c at x l h = absurd (omega (arith, l))
reads_known ops (suc zero) c at x l h = absurd (omega (arith, l))
reads_known ops (suc (suc d)) c at x l h = h

-- UNCHANGED as a term of its own
pub unchanged_told : (P : Outcome Bool) (at : Place) (r : Result Bool EvalFault) → Tells r P → Tells r (Then (IsTruth P) (truth_at at))
unchanged_told P at (Ok b) h = inl (truth b, inl (b, h, refl), refl)
unchanged_told P at (Err (Refused kind p)) h = inr (fault kind p, inr (fault kind p, h, refl), refl)
unchanged_told P at (Err NoMemory) h = tt

less_one : (d : ℕ) → suc d - 1 ≡ d
less_one d = omega arith

pub unchanged_above : (ops : Table) (d : ℕ) (c : Context) (at : Place) (e : Term) (r : Result Bool EvalFault) → 0 < d → Tells r (IsUnchanged ops (Evaluates ops (d - 1)) c at e) → Tells r (TruthOf (Evaluates ops d) c (unchanged_of at e))
unchanged_above ops zero c at e r l h = absurd (omega (arith, l))
unchanged_above ops (suc d) c at e r l h =
    unchanged_told (IsUnchanged ops (Evaluates ops d) c at e) at r (subst (λ k. Tells r (IsUnchanged ops (Evaluates ops k) c at e)) (less_one d) h)

pub unchanged_nested : (ops : Table) (d : ℕ) (c : Context) (at : Place) (e : Term) → d ≡ 0 → TruthOf (Evaluates ops d) c (unchanged_of at e) (Err (fault Nested at))
unchanged_nested ops zero c at e z = inr (fault Nested at, refl, refl)
unchanged_nested ops (suc d) c at e z = absurd (omega (arith, z))

-- UNCHANGED by what stands behind its term
pub unchanged_behind : (ops : Table) (ev : Evaluate) (c : Context) (at : Place) (e : Term) (kept : ℕ) (f : Term) (r : Result Bool EvalFault) → (kept, f) ≡ behind ops (length ops) (length c.slots) e → Tells r (MeansUnchanged ev c at e (within kept c) f) → Tells r (IsUnchanged ops ev c at e)
unchanged_behind ops ev c at e kept f r q h = subst (λ (p : ℕ × Term). Tells r (MeansUnchanged ev c at e (within p.0 c) p.1)) q h

pub reads_behind : (ops : Table) (part : Reading) (c : Context) (at : Place) (e : Term) (kept : ℕ) (f : Term) → (kept, f) ≡ behind ops (length ops) (length c.slots) e → UnchangedReads ops part c at e → MeansUnchangedReads part c at e (within kept c) f
reads_behind ops part c at e kept f q h = subst (λ (p : ℕ × Term). MeansUnchangedReads part c at e (within p.0 c) p.1) (sym q) h

-- the second of two, where the first is false
pub else_true : {A : Type 0} (P : A → Outcome Bool) (x y : A) (r : Result Bool EvalFault) → P x (Ok false) → Tells r (P y) → Tells r (SomeTrue P (x ∷ y ∷ []))
else_true P x y (Ok true) f h = inl (false, f, inl (true, h, refl))
else_true P x y (Ok false) f h = inl (false, f, inl (false, h, refl))
else_true P x y (Err (Refused kind at)) f h = inl (false, f, inr (fault kind at, h, refl))
else_true P x y (Err NoMemory) f h = tt

pub unchanged_parts : (part : Reading) (c : Context) (at : Place) (xs : List Term) (i : ℕ) (x : Term) → Cut xs i x → ReadsEach part c (map (unchanged_of at) (drop i xs)) → part c (unchanged_of at x) × ReadsEach part c (map (unchanged_of at) (drop (i + 1) xs))
unchanged_parts part c at xs i x k h = subst (λ (us : List Term). ReadsEach part c (map (unchanged_of at) us)) k h
