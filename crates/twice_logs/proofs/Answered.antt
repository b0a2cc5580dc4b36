-- Runs, layers and answers over systems that say the same.
use Rattle.std.proofs.Common.{◌≡◌, ap, ap₂, inl, inr, subst, sym, ◌∙◌, List, [], ◌∷◌, ◌++◌}
use Rattle.std.specs.Prelude.{◌⊎◌, ℕ, suc, ◌<◌}
use Rattle.base_core.specs.declared.place.LineAt.{LineAt}
use Rattle.base_core.specs.declared.place.Place.{Place}
use Rattle.states_core.specs.States.{Values, shown}
use Rattle.states_core.specs.System.{System, Begins}
use Rattle.states_core.specs.Sets.{AreOf, HasAtMost, HasMoreThan, HasSome}
use Rattle.states_core.specs.Runs.{Run, start, wait, go, IsBehaviour, Layer, Faults, Faulty, FaultyInit, Entry, Upto}
use Rattle.states_core.specs.declared.fault.Fault.{Fault}
use Rattle.states_core.specs.declared.state.Mark.TheVariants.{Init, Silent, Line}
use Rattle.states_core.specs.declared.state.Shown.{Shown}
use Rattle.states_layers.specs.Answers.{AllAssumed, Clear, IsAnswer, IsAssumeFalse, IsAssumeFault, IsExplained, HasLayer, IsNoInitial, IsNotExplained, IsStateFault, IsTotalLimit, fault}
use Rattle.states_layers.specs.Says.{IsUnassumed}
use Rattle.states_layers.specs.declared.answer.Answer.{Answer}
use Rattle.states_layers.specs.declared.answer.Answer.TheVariants.{Explained, NotExplained, NoInitial, InitFault, Fault as StateFault, AssumeFault, AssumeFalse, LayerLimit, TotalLimit}
use Rattle.twice_logs.specs.Same.{SaySame}
use Rattle.twice_logs.specs.Steps.{AnswerSame}
use Rattle.twice_logs.proofs.Turns.{turned}

module _ {A : Type 0} (P Q : A → Type 0) (through : (x : A) → P x → Q x) where
  are_of : (xs : List A) → AreOf P xs → AreOf Q xs
  are_of xs a = record { distinct = a.distinct; members = λ x c. through x (a.members x c) }

  at_most : (k : ℕ) → HasAtMost Q k → HasAtMost P k
  at_most k h xs a = h xs (are_of xs a)

  more_than : (k : ℕ) → HasMoreThan P k → HasMoreThan Q k
  more_than k h = (h.0, are_of h.0 h.1, h.2)

  has_some : (k : ℕ) → HasSome P k → HasSome Q k
  has_some k h = (h.0, are_of h.0 h.1, h.2)

module _ {A : Type 0} (y z : System A) (same : SaySame y z) where
  below_count : (n : ℕ) → n < y.count → n < z.count
  below_count n h = subst (λ (c : ℕ). n < c) same.count h

  below_within : (j : ℕ) → j < y.within → j < z.within
  below_within j h = subst (λ (c : ℕ). j < c) same.within h

  first_shown : (s : A) → shown Init (z.state_of s) ≡ shown Init (y.state_of s)
  first_shown s = ap (λ (v : Values). shown Init v) (sym (same.state_of s))

  silent_shown : (t : A) → shown Silent (z.state_of t) ≡ shown Silent (y.state_of t)
  silent_shown t = ap (λ (v : Values). shown Silent v) (sym (same.state_of t))

  line_shown : (n : ℕ) (s t : A) → shown (Line (z.at n s t)) (z.state_of t) ≡ shown (Line (y.at n s t)) (y.state_of t)
  line_shown n s t = ap₂ (λ (at : LineAt) (v : Values). shown (Line at) v) (sym (same.at n s t)) (sym (same.state_of t))

  pub run_same : (n j : ℕ) (s : A) (w : List Shown) → Run y n j s w → Run z n j s w
  run_same _ _ _ _ (start s i e) = subst (λ (x : Shown). Run z 0 0 s (x ∷ [])) (first_shown s) (start s ((same.init s).0 i) ((same.init_seen s).0 e))
  run_same _ _ _ _ (wait n j s t w r lt le h) =
      subst (λ (x : Shown). Run z n (suc j) t (w ++ x ∷ [])) (silent_shown t)
      (wait n j s t w (run_same n j s w r) (below_count n lt) (below_within (suc j) le) ((same.silent s t).0 h))
  run_same _ _ _ _ (go n j s t w r lt h) =
      subst (λ (x : Shown). Run z (suc n) 0 t (w ++ x ∷ [])) (line_shown n s t) (go n j s t w (run_same n j s w r) (below_count n lt) ((same.step n s t).0 h))

  pub behaves_same : (w : List Shown) → IsBehaviour y y.count w → IsBehaviour z z.count w
  behaves_same w b = (b.0, subst (λ (n : ℕ). Run z n 0 b.0 w) same.count (run_same y.count 0 b.0 w b.1))

  layer_same : (n j : ℕ) (s : A) → Layer y n j s → Layer z n j s
  layer_same n j s l = record { states = l.states; run = run_same n j s l.states l.run }

  upto_same : (n j : ℕ) (p : Entry A) → Upto y n j p → Upto z n j p
  upto_same n j p u = record { layer = layer_same p.line p.silents p.member u.layer; upto = u.upto }

  faults_same : (n j : ℕ) (s t : A) (f : Fault) → Faults y n j s t f → Faults z n j s t f
  faults_same n j s t f (inl h) = inl ((same.fault_step n s t f).0 h)
  faults_same n j s t f (inr h) = inr (below_within (suc j) h.0, (same.fault_silent s t f).0 h.1)

  ways_same : (n j : ℕ) (s t : A) (f : Fault) → (y.FaultStep n s t f × y.Seen n s t) ⊎ ((suc j < y.within) × y.FaultSilent s t f)
      → (z.FaultStep n s t f × z.Seen n s t) ⊎ ((suc j < z.within) × z.FaultSilent s t f)
  ways_same n j s t f (inl h) = inl ((same.fault_step n s t f).0 h.0, (same.seen n s t).0 h.1)
  ways_same n j s t f (inr h) = inr (below_within (suc j) h.0, (same.fault_silent s t f).0 h.1)

  faulty_same : (n j : ℕ) → Faulty y n j → Faulty z n j
  faulty_same n j h = (h.0, h.1, h.2, layer_same n j h.0 h.3, below_count n h.4, ways_same n j h.0 h.1 h.2 h.5)

  faulty_init_same : FaultyInit y → FaultyInit z
  faulty_init_same h = (h.0, h.1, (same.fault_init h.0 h.1).0 h.2, (same.init_seen h.0).0 h.3)

  begins_same : (s : A) → Begins y s → Begins z s
  begins_same s b = ((same.init s).0 b.0, (same.init_seen s).0 b.1)

module _ {A : Type 0} (y z : System A) (same : SaySame y z) where
  other : SaySame z y
  other = turned y z same

  clear_same : (n : ℕ) → Clear y n → Clear z n
  clear_same n c = record {
    init = λ h. c.init (faulty_init_same z y other h);
    steps = λ m j lt h. c.steps m j lt (faulty_same z y other m j h);
    layers = λ m j le. subst (λ (k : ℕ). HasAtMost (Layer z m j) k) same.limit (at_most (Layer z m j) (Layer y m j) (layer_same z y other m j) y.limit (c.layers m j le));
    together = λ j. subst (λ (k : ℕ). HasAtMost (Upto z n j) k) same.total (at_most (Upto z n j) (Upto y n j) (upto_same z y other n j) y.total (c.together j));
  }

  all_assumed : AllAssumed y → AllAssumed z
  all_assumed all k lt = (same.assumed k).0 (all k (subst (λ (n : ℕ). k < n) (sym same.assumes) lt))

  explained : (w : List Shown) (widest : ℕ) → IsExplained y w widest → IsExplained z w widest
  explained w widest e = record {
    behaves = behaves_same y z same w e.behaves;
    clear = subst (λ (n : ℕ). Clear z n) same.count (clear_same y.count e.clear);
    at_most = λ n j. at_most (Layer z n j) (Layer y n j) (layer_same z y other n j) widest (e.at_most n j);
    reached = (e.reached.0, e.reached.1, has_some (Layer y e.reached.0 e.reached.1) (Layer z e.reached.0 e.reached.1) (layer_same y z same e.reached.0 e.reached.1) widest e.reached.2);
  }

  not_explained : (n of : ℕ) (after : LineAt) (w : List Shown) → IsNotExplained y n of after w → IsNotExplained z n of after w
  not_explained n of after w e = record {
    some_left = below_count y z same n e.some_left;
    all = e.all ∙ same.count;
    behaves = (e.behaves.0, run_same y z same n 0 e.behaves.0 w e.behaves.1, (same.expected n e.behaves.0 after).0 e.behaves.2);
    no_more = λ v b. e.no_more v (b.0, run_same z y other (suc n) 0 b.0 v b.1);
    clear = clear_same n e.clear;
    no_fault = λ j h. e.no_fault j (faulty_same z y other n j h);
  }

  no_initial : IsNoInitial y → IsNoInitial z
  no_initial e = record { none = λ s b. e.none s (begins_same z y other s b); init = λ h. e.init (faulty_init_same z y other h) }

  state_fault : (n j : ℕ) (state : Values) (f : Fault) → IsStateFault y n j state f → IsStateFault z n j state f
  state_fault n j state f e = record {
    before = below_count y z same n e.before;
    member = e.member;
    reached = layer_same y z same n j e.member e.reached;
    shows = sym (same.state_of e.member) ∙ e.shows;
    faults = (e.faults.0, faults_same y z same n j e.member e.faults.0 f e.faults.1);
  }

  earlier_assumed : (i : ℕ) → ((k : ℕ) → k < i → y.IsAssumed k) → (k : ℕ) → k < i → z.IsAssumed k
  earlier_assumed i h k lt = (same.assumed k).0 (h k lt)

  assume_fault : (f : Fault) → IsAssumeFault y f → IsAssumeFault z f
  assume_fault f e = record {
    index = e.index;
    below = subst (λ (n : ℕ). e.index < n) same.assumes e.below;
    earlier = earlier_assumed e.index e.earlier;
    faults = (same.fault_assume e.index f).0 e.faults;
  }

  assume_false : (at : Place) → IsAssumeFalse y at → IsAssumeFalse z at
  assume_false at e = record {
    index = e.index;
    below = subst (λ (n : ℕ). e.index < n) same.assumes e.below;
    earlier = earlier_assumed e.index e.earlier;
    is_false = (same.is_false e.index at).0 e.is_false;
  }

  unassumed : (answer : Answer) → IsUnassumed y answer → IsUnassumed z answer
  unassumed (AssumeFault kind at) h = assume_fault (fault kind at) h
  unassumed (AssumeFalse at) h = assume_false at h
  unassumed (Explained w widest) h = absurd h
  unassumed (NotExplained n of after w) h = absurd h
  unassumed NoInitial h = absurd h
  unassumed (InitFault kind at) h = absurd h
  unassumed (StateFault n j state kind at) h = absurd h
  unassumed (LayerLimit n j) h = absurd h
  unassumed (TotalLimit n j) h = absurd h

  layer_limit : (n j : ℕ) → HasMoreThan (Layer y n j) y.limit → HasMoreThan (Layer z n j) z.limit
  layer_limit n j h = subst (λ (k : ℕ). HasMoreThan (Layer z n j) k) same.limit (more_than (Layer y n j) (Layer z n j) (layer_same y z same n j) y.limit h)

  has_layer : (n j : ℕ) → HasLayer y n j → HasLayer z n j
  has_layer n j (inl h) = inl (below_count y z same n h.0, below_within y z same j h.1)
  has_layer n j (inr h) = inr (h.0 ∙ same.count, h.1)

  total_limit : (n j : ℕ) → IsTotalLimit y n j → IsTotalLimit z n j
  total_limit n j h = record {
    layer = has_layer n j h.layer;
    more = subst (λ (k : ℕ). HasMoreThan (Upto z n j) k) same.total (more_than (Upto y n j) (Upto z n j) (upto_same y z same n j) y.total h.more);
  }

  answered : (answer : Answer) → IsAnswer y answer → IsAnswer z answer
  answered (Explained w widest) h = (all_assumed h.0, explained w widest h.1)
  answered (NotExplained n of after w) h = (all_assumed h.0, not_explained n of after w h.1)
  answered NoInitial h = (all_assumed h.0, no_initial h.1)
  answered (InitFault kind at) h = (all_assumed h.0, (h.1.0, (same.fault_init h.1.0 (fault kind at)).0 h.1.1))
  answered (StateFault n j state kind at) h = (all_assumed h.0, state_fault n j state (fault kind at) h.1)
  answered (AssumeFault kind at) h = assume_fault (fault kind at) h
  answered (AssumeFalse at) h = assume_false at h
  answered (LayerLimit n j) h = (all_assumed h.0, layer_limit n j h.1)
  answered (TotalLimit n j) h = (all_assumed h.0, total_limit n j h.1)

  pub answers_same : AnswerSame y z
  answers_same = record { assumed = all_assumed; unassumed = unassumed; answer = answered }
