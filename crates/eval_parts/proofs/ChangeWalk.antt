-- A change of EXCEPT, in the midst of its path and on the way back; and changes one after another.
use Rattle.std.proofs.Common.{◌≡◌, inl, inr, refl, ap, sym, ◌∙◌, subst, List, [], ◌∷◌, ◌++◌, length, drop, ◌≤◌, ◌+◌, ℕ, map, arith}
use Rattle.std.specs.Prelude.{Option, Some, None, Result, Ok, Err, option_copied, option_map}
use denote.Ref.{Bor}
use Rattle.base_core.specs.declared.place.Place.{Place}
use Rattle.states_core.specs.declared.fault.Fault.{Fault}
use Rattle.values_core.specs.Data.{Val}
use Rattle.values_core.specs.Functions.{Applies, HasPair, IsFunction}
use Rattle.values_core.specs.FunctionOperations.{Excepts}
use Rattle.names_terms.specs.Lists.{changes_list, steps_list}
use Rattle.names_terms.specs.Terms as term
use Rattle.names_terms.specs.Terms.{Changes, Term, Step, Steps}
use Rattle.names_terms.specs.TermViews.{change_item, changes_of, step_item, step_view, steps_of}
use Rattle.names_terms.specs.declared.term.Change.{Change}
use Rattle.names_terms.specs.declared.term.StepAt.{StepAt}
use Rattle.eval_meanings.specs.declared.fault.EvalFault.{EvalFault}
use Rattle.eval_meanings.specs.declared.fault.EvalFault.TheVariants.{Refused, NoMemory}
use Rattle.eval_meanings.specs.Answers.{Tells}
use Rattle.eval_meanings.specs.Contexts.{Context, Evaluate, bind}
use Rattle.eval_meanings.specs.Functions.{AllChanged, Changed, StepKey}
use Rattle.values_core.specs.declared.fault.EvalKind.{EvalKind}
use Rattle.values_core.specs.declared.fault.EvalKind.TheVariants.{NotFunction}
use Rattle.eval_meanings.specs.Outcomes.{Outcome, Fails, Gives, Then, Operated, fault}
use Rattle.eval_parts.proofs.Listed.{changes_listed, steps_listed}
use Rattle.eval_parts.proofs.Loops.{Cut, cut_end}
use Rattle.eval_meanings.specs.Reads.{ChangesRead, PathReads, Reading, ReadsUnder}
use Rattle.eval_parts.specs.Scenes.{Stops}
use Rattle.eval_parts.specs.ChangePaths.{HasKey, InsideAt, Rebuilt, StepReads}
use Rattle.eval_parts.specs.declared.changing.Layer.{Layer}

-- a step without its place
abbrev pub bare : StepAt → Step
bare x = step_view x.step

bare_items : (xs : List StepAt) → map (λ (s : Place × Step). s.1) (map step_item xs) ≡ map bare xs
bare_items [] = refl
bare_items (x ∷ xs) = ap (λ (ss : List Step). step_view x.step ∷ ss) (bare_items xs)

pub path_is : (xs : List StepAt) (ss : Steps) → steps_of xs ≡ ss → map bare xs ≡ map (λ (s : Place × Step). s.1) (steps_list ss)
path_is xs ss e = sym (bare_items xs) ∙ ap (λ (ys : List (Place × Step)). map (λ (s : Place × Step). s.1) ys) (sym (steps_listed xs) ∙ ap steps_list e)

pub changes_are : (xs : List Change) (cs : Changes) → changes_of xs ≡ cs → map change_item xs ≡ changes_list cs
changes_are xs cs e = sym (changes_listed xs) ∙ ap changes_list e

-- functions within one another
weaker : (at : Place) (ls : List Layer) (P Q : Outcome Val) → ((r : Result Val Fault) → P r → Q r) → (r : Result Val Fault) → Rebuilt at ls P r → Rebuilt at ls Q r
weaker at [] P Q i r h = i r h
weaker at (l ∷ ls) P Q i r (inl (v, h, g)) = inl (v, weaker at ls P Q i (Ok v) h, g)
weaker at (l ∷ ls) P Q i r (inr (f, h, g)) = inr (f, weaker at ls P Q i (Err f) h, g)

abbrev pub Around : Place → Layer → Outcome Val → Outcome Val
Around at l P = Then P (λ v. Operated (Excepts l.function.now l.key v) (λ n. at))

one_more : (at : Place) (ls : List Layer) (l : Layer) (P : Outcome Val) (r : Result Val Fault) → Rebuilt at (ls ++ l ∷ []) P r → Rebuilt at ls (Around at l P) r
one_more at [] l P r h = h
one_more at (k ∷ ls) l P r (inl (v, h, g)) = inl (v, one_more at ls l P (Ok v) h, g)
one_more at (k ∷ ls) l P r (inr (f, h, g)) = inr (f, one_more at ls l P (Err f) h, g)

one_less : (at : Place) (ls : List Layer) (l : Layer) (P : Outcome Val) (r : Result Val Fault) → Rebuilt at ls (Around at l P) r → Rebuilt at (ls ++ l ∷ []) P r
one_less at [] l P r h = h
one_less at (k ∷ ls) l P r (inl (v, h, g)) = inl (v, one_less at ls l P (Ok v) h, g)
one_less at (k ∷ ls) l P r (inr (f, h, g)) = inr (f, one_less at ls l P (Err f) h, g)

faulted : (at : Place) (ls : List Layer) (P : Outcome Val) (f : Fault) → P (Err f) → Rebuilt at ls P (Err f)
faulted at [] P f h = h
faulted at (l ∷ ls) P f h = inr (f, faulted at ls P f h, refl)

-- on the way back
abbrev pub BackSoFar : Place → List Layer → Val → List Layer → Val → Type 0
BackSoFar at ls v ks w = (r : Result Val Fault) → Rebuilt at ks (Gives w) r → Rebuilt at ls (Gives v) r

pub back_goes_on : (at : Place) (ls : List Layer) (v : Val) (ks : List Layer) (l : Layer) (w u : Val) → Operated (Excepts l.function.now l.key w) (λ n. at) (Ok u) → BackSoFar at ls v (ks ++ l ∷ []) w → BackSoFar at ls v ks u
back_goes_on at ls v ks l w u p s r h =
    s r (one_less at ks l (Gives w) r (weaker at ks (Gives u) (Around at l (Gives w)) (λ q e. inl (w, refl, subst (λ (x : Result Val Fault). Operated (Excepts l.function.now l.key w) (λ n. at) x) (sym e) p)) r h))

pub back_stops : (at : Place) (ls : List Layer) (v : Val) (ks : List Layer) (l : Layer) (w : Val) (f : EvalFault) → Tells {A = Val} (Err f) (Operated (Excepts l.function.now l.key w) (λ n. at)) → BackSoFar at ls v (ks ++ l ∷ []) w → Tells {A = Val} (Err f) (Rebuilt at ls (Gives v))
back_stops at ls v ks l w (Refused kind p) t s = s (Err (fault kind p)) (one_less at ks l (Gives w) (Err (fault kind p)) (faulted at ks (Around at l (Gives w)) (fault kind p) (inl (w, refl, t))))
back_stops at ls v ks l w NoMemory t s = tt

pub back_ends : (at : Place) (ls : List Layer) (v : Val) (ks : List Layer) (w : Val) → length ks ≡ 0 → BackSoFar at ls v ks w → Rebuilt at ls (Gives v) (Ok w)
back_ends at ls v [] w e s = s (Ok w) refl
back_ends at ls v (k ∷ ks) w e s = absurd (omega (arith, e))

-- what stands at a key
pub inside_told : (base : Place) (f key : Val) (found : Option (Bor Val)) → IsFunction f → Applies f key (option_map (λ v. v.now) found) → InsideAt base f key (Ok (option_copied found))
inside_told base f key None i a = inr (inl (i, a, refl))
inside_told base f key (Some v) i a = inr (inr (v.now, a, refl))

pub inside_refused : (at base : Place) (f key : Val) (x : EvalFault) → at ≡ base → x ≡ Refused NotFunction at → ¬ IsFunction f → Stops (InsideAt base f key) x
inside_refused at base f key x p e n =
    subst (λ (y : EvalFault). Stops (InsideAt base f key) y) (sym e) (subst (λ (b : Place). Stops (InsideAt b f key) (Refused NotFunction at)) p (inl (n, refl)))

-- the rest of a path in functions within one another
module _ (ev : Evaluate) (c : Context) (at base : Place) (new : Term) where
  abbrev pub ChangeSoFar : List Step → Val → ℕ → List Layer → Val → Type 0
  ChangeSoFar xs f i ls v = (r : Result Val Fault) → Rebuilt at ls (Changed ev c at base (drop i xs) new v) r → Changed ev c at base xs new f r

  some_is : (v old : Val) → Gives (Some old) (Ok (Some v)) → v ≡ old
  some_is v old e = cc

  inside : (s : Step) (xs : List Step) (f key v : Val) (r : Result Val Fault) → StepKey ev c at s (Ok key) → InsideAt base f key (Ok (Some v)) → Then (Changed ev c at base xs new v) (λ w. Operated (Excepts f key w) (λ n. at)) r → Changed ev c at base (s ∷ xs) new f r
  inside s xs f key v r k (inl (n, e)) h = cc
  inside s xs f key v r k (inr (inl (i, n, e))) h = cc
  inside s xs f key v r k (inr (inr (old, p, e))) h = inl (key, k, inr (inr (v, subst (λ (u : Val). HasPair f key u) (sym (some_is v old e)) p, h)))

  outside : (s : Step) (xs : List Step) (f key : Val) → StepKey ev c at s (Ok key) → InsideAt base f key (Ok None) → Changed ev c at base (s ∷ xs) new f (Ok f)
  outside s xs f key k (inl (n, e)) = cc
  outside s xs f key k (inr (inl (i, n, e))) = inl (key, k, inr (inl (i, n, refl)))
  outside s xs f key k (inr (inr (old, p, e))) = cc

  refused : (s : Step) (xs : List Step) (f key : Val) (x : Fault) → StepKey ev c at s (Ok key) → InsideAt base f key (Err x) → Changed ev c at base (s ∷ xs) new f (Err x)
  refused s xs f key x k (inl (n, e)) = inl (key, k, inl (n, same NotFunction base x e))
    where
      same : (kind : EvalKind) (p : Place) (y : Fault) → Fails {A = Option Val} kind p (Err y) → Fails {A = Val} kind p (Err y)
      same kind p y e = cc
  refused s xs f key x k (inr (inl (i, n, e))) = cc
  refused s xs f key x k (inr (inr (old, p, e))) = cc

  pub change_goes_on : (xs : List Step) (f : Val) (i : ℕ) (ls ks : List Layer) (v : Val) (s : Step) (l : Layer) (w : Val) → Cut xs i s → StepKey ev c at s (Ok l.key) → InsideAt base v l.key (Ok (Some w)) → l.function.now ≡ v → ks ≡ ls ++ l ∷ [] → ChangeSoFar xs f i ls v → ChangeSoFar xs f (i + 1) ks w
  change_goes_on xs f i ls ks v s l w cut k p same grown so r h =
      let rest = drop (i + 1) xs in
      let P : Outcome Val = Changed ev c at base (drop (i + 1) xs) new w in
      let below = one_more at ls l P r (subst (λ (js : List Layer). Rebuilt at js P r) grown h) in
      let Q : Outcome Val = Changed ev c at base (s ∷ drop (i + 1) xs) new v in
      let step = λ (q : Result Val Fault) (g : Around at l P q). inside s (drop (i + 1) xs) v l.key w q k p (subst (λ (u : Val). Then P (λ w. Operated (Excepts u l.key w) (λ n. at)) q) same g) in
      so r (subst (λ (ys : List Step). Rebuilt at ls (Changed ev c at base ys new v) r) (sym cut) (weaker at ls (Around at l P) Q step r below))

  -- where nothing changes
  pub change_stays : (xs : List Step) (f : Val) (i : ℕ) (ls : List Layer) (v : Val) (s : Step) (key : Val) (r : Result Val EvalFault) → Cut xs i s → StepKey ev c at s (Ok key) → InsideAt base v key (Ok None) → Tells r (Rebuilt at ls (Gives v)) → ChangeSoFar xs f i ls v → Tells r (Changed ev c at base xs new f)
  change_stays xs f i ls v s key r cut k p t so = told r t
    where
      back : (q : Result Val Fault) → Rebuilt at ls (Gives v) q → Changed ev c at base xs new f q
      back q h =
          let Q : Outcome Val = Changed ev c at base (s ∷ drop (i + 1) xs) new v in
          let step = λ (q : Result Val Fault) (g : Gives v q). subst (λ (x : Result Val Fault). Changed ev c at base (s ∷ drop (i + 1) xs) new v x) (sym g) (outside s (drop (i + 1) xs) v key k p) in
          so q (subst (λ (ys : List Step). Rebuilt at ls (Changed ev c at base ys new v) q) (sym cut) (weaker at ls (Gives v) Q step q h))

      told : (q : Result Val EvalFault) → Tells q (Rebuilt at ls (Gives v)) → Tells q (Changed ev c at base xs new f)
      told (Ok u) h = back (Ok u) h
      told (Err (Refused kind place)) h = back (Err (fault kind place)) h
      told (Err NoMemory) h = tt

  pub change_refused : (xs : List Step) (f : Val) (i : ℕ) (ls : List Layer) (v : Val) (s : Step) (key : Val) (x : EvalFault) → Cut xs i s → StepKey ev c at s (Ok key) → Tells {A = Option Val} (Err x) (InsideAt base v key) → ChangeSoFar xs f i ls v → Tells {A = Val} (Err x) (Changed ev c at base xs new f)
  change_refused xs f i ls v s key (Refused kind place) cut k p so =
      so (Err (fault kind place)) (subst (λ (ys : List Step). Rebuilt at ls (Changed ev c at base ys new v) (Err (fault kind place))) (sym cut) (faulted at ls (Changed ev c at base (s ∷ drop (i + 1) xs) new v) (fault kind place) (refused s (drop (i + 1) xs) v key (fault kind place) k p)))
  change_refused xs f i ls v s key NoMemory cut k p so = tt

  pub change_stops : (xs : List Step) (f : Val) (i : ℕ) (ls : List Layer) (v : Val) (s : Step) (x : EvalFault) → Cut xs i s → Tells {A = Val} (Err x) (StepKey ev c at s) → ChangeSoFar xs f i ls v → Tells {A = Val} (Err x) (Changed ev c at base xs new f)
  change_stops xs f i ls v s (Refused kind place) cut k so =
      so (Err (fault kind place)) (subst (λ (ys : List Step). Rebuilt at ls (Changed ev c at base ys new v) (Err (fault kind place))) (sym cut) (faulted at ls (Changed ev c at base (s ∷ drop (i + 1) xs) new v) (fault kind place) (inr (fault kind place, k, refl))))
  change_stops xs f i ls v s NoMemory cut k so = tt

  -- at the end of the path
  pub change_made : (xs : List Step) (f : Val) (i : ℕ) (ls : List Layer) (v w : Val) (r : Result Val EvalFault) → length xs ≤ i → ev (bind c (v ∷ [])) new (Ok w) → Tells r (Rebuilt at ls (Gives w)) → ChangeSoFar xs f i ls v → Tells r (Changed ev c at base xs new f)
  change_made xs f i ls v w r l p t so = told r t
    where
      back : (q : Result Val Fault) → Rebuilt at ls (Gives w) q → Changed ev c at base xs new f q
      back q h =
          let Q : Outcome Val = Changed ev c at base [] new v in
          let step = λ (q : Result Val Fault) (g : Gives w q). subst (λ (x : Result Val Fault). ev (bind c (v ∷ [])) new x) (sym g) p in
          so q (subst (λ (ys : List Step). Rebuilt at ls (Changed ev c at base ys new v) q) (sym (cut_end xs i l)) (weaker at ls (Gives w) Q step q h))

      told : (q : Result Val EvalFault) → Tells q (Rebuilt at ls (Gives w)) → Tells q (Changed ev c at base xs new f)
      told (Ok u) h = back (Ok u) h
      told (Err (Refused kind place)) h = back (Err (fault kind place)) h
      told (Err NoMemory) h = tt

  pub change_unmade : (xs : List Step) (f : Val) (i : ℕ) (ls : List Layer) (v : Val) (x : EvalFault) → length xs ≤ i → Tells {A = Val} (Err x) (ev (bind c (v ∷ [])) new) → ChangeSoFar xs f i ls v → Tells {A = Val} (Err x) (Changed ev c at base xs new f)
  change_unmade xs f i ls v (Refused kind place) l p so =
      so (Err (fault kind place)) (subst (λ (ys : List Step). Rebuilt at ls (Changed ev c at base ys new v) (Err (fault kind place))) (sym (cut_end xs i l)) (faulted at ls (Changed ev c at base [] new v) (fault kind place) p))
  change_unmade xs f i ls v NoMemory l p so = tt

-- what a path reads
step_reads : (part : Reading) (c : Context) (s : Step) (path : List Step) → PathReads part c (s ∷ path) → HasKey s × StepReads part c s × PathReads part c path
step_reads part c term.Prime path h = absurd h
step_reads part c (term.Index ts) path h = (tt, h.0, h.1)
step_reads part c (term.Field s) path h = (tt, tt, h)

pub path_reads : (part : Reading) (c : Context) (xs : List Step) (i : ℕ) (s : Step) → Cut xs i s → PathReads part c (drop i xs) → HasKey s × StepReads part c s × PathReads part c (drop (i + 1) xs)
path_reads part c xs i s k h = step_reads part c s (drop (i + 1) xs) (subst (λ (ys : List Step). PathReads part c ys) k h)

-- changes before the index have been made
module _ (ev : Evaluate) (c : Context) (at base : Place) where
  abbrev pub ChangesSoFar : List (Steps × Term) → Val → ℕ → Val → Type 0
  ChangesSoFar xs f i v = (r : Result Val Fault) → AllChanged ev c at base (drop i xs) v r → AllChanged ev c at base xs f r

  abbrev OneChanged : (Steps × Term) → Val → Outcome Val
  OneChanged x v = Changed ev c at base (map (λ s. s.1) (steps_list x.0)) x.1 v

  pub changes_go_on : (xs : List (Steps × Term)) (f : Val) (i : ℕ) (v : Val) (x : Steps × Term) (w : Val) → Cut xs i x → OneChanged x v (Ok w) → ChangesSoFar xs f i v → ChangesSoFar xs f (i + 1) w
  changes_go_on xs f i v x w k p s r h = s r (subst (λ (ys : List (Steps × Term)). AllChanged ev c at base ys v r) (sym k) (inl (w, p, h)))

  pub changes_stop : (xs : List (Steps × Term)) (f : Val) (i : ℕ) (v : Val) (x : Steps × Term) (e : EvalFault) → Cut xs i x → Tells {A = Val} (Err e) (OneChanged x v) → ChangesSoFar xs f i v → Tells {A = Val} (Err e) (AllChanged ev c at base xs f)
  changes_stop xs f i v x (Refused kind p) k t s = s (Err (fault kind p)) (subst (λ (ys : List (Steps × Term)). AllChanged ev c at base ys v (Err (fault kind p))) (sym k) (inr (fault kind p, t, refl)))
  changes_stop xs f i v x NoMemory k t s = tt

  pub changes_end : (xs : List (Steps × Term)) (f : Val) (i : ℕ) (v : Val) → length xs ≤ i → ChangesSoFar xs f i v → AllChanged ev c at base xs f (Ok v)
  changes_end xs f i v l s = s (Ok v) (subst (λ (ys : List (Steps × Term)). AllChanged ev c at base ys v (Ok v)) (sym (cut_end xs i l)) refl)

pub changes_read : (part : Reading) (c : Context) (xs : List (Steps × Term)) (i : ℕ) (x : Steps × Term) → Cut xs i x → ChangesRead part c (drop i xs) → PathReads part c (map (λ s. s.1) (steps_list x.0)) × ReadsUnder part c 1 x.1 × ChangesRead part c (drop (i + 1) xs)
changes_read part c xs i x k h = subst (λ (ys : List (Steps × Term)). ChangesRead part c ys) k h
