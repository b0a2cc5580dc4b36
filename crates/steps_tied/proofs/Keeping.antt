-- What is explained over cuts is a behaviour over the order that its marks name, whatever a language says.
use Rattle.std.proofs.Common.{◌≡◌, ◌⊎◌, inl, inr, ℕ, zero, suc, ◌<◌, ◌≤◌, List, [], ◌∷◌, ◌++◌, length, length-append, take, Option, Some, ap, sym, ◌∙◌, subst, refl, arith}
use Rattle.std.specs.List.{slice_get}
use Rattle.base_core.specs.declared.place.LineAt.{LineAt}
use Rattle.states_core.specs.Runs.{Faulty, FaultyInit, IsBehaviour, Layer, Run, start as first, wait, go}
use Rattle.states_core.specs.States.{Values, shown}
use Rattle.states_core.specs.declared.state.Mark.{Mark}
use Rattle.states_core.specs.declared.state.Mark.TheVariants.{Init, Silent, Line as LineMark}
use Rattle.states_core.specs.declared.state.Shown.{Shown}
use Rattle.base_clock_order.specs.declared.order.LineRef.{LineRef}
use Rattle.logs_updates.specs.declared.line.Line.{Line}
use Rattle.steps_lines_defs.specs.Logs.{place_of_line}
use Rattle.base_cuts.specs.Cuts.{after, total}
use Rattle.base_cuts.specs.Orders.{IsAllowed, IsMade, Order, sizes, sizes_of, start}
use Rattle.base_cuts.proofs.Rules.{inside}
use Rattle.logs_tied.specs.Lines.{IsLined, StandsIn}
use Rattle.logs_tied.specs.Named.{KeepsTo, name_of, names}
use Rattle.logs_tied.proofs.Zips.{take_split, zip_at}
use Rattle.states_verdicts.specs.Laws.{IsFaultless}
use Rattle.steps_tied.specs.InOrder.{in_order}
use Rattle.steps_tied.specs.Languages.{Language}
use Rattle.steps_tied.specs.Tied.{by_cuts}
use Rattle.steps_tied.proofs.Ties.{from_order, lines_long, takes, to_orders}

-- the first n that are named are the first n of the lines
abbrev pub AreNamed : List Shown → List Line → ℕ → Type 0
AreNamed w lines n = (k : ℕ) → k < n → slice_get (names w) k ≡ Some (place_of_line (slice_get lines k))

some_place : (a b : LineAt) → ◌≡◌ {A = Option LineAt} (Some a) (Some b) → a ≡ b
some_place a b e = cc

name_more : (m : Mark) (ns ms : List LineAt) → name_of m ns ++ ms ≡ name_of m (ns ++ ms)
name_more Init ns ms = refl
name_more Silent ns ms = refl
name_more (LineMark at) ns ms = refl

named_more : (w : List Shown) (x : Shown) → names (w ++ x ∷ []) ≡ names w ++ name_of x.mark []
named_more [] x = refl
named_more (y ∷ w) x = ap (name_of y.mark) (named_more w x) ∙ sym (name_more y.mark (names w) (name_of x.mark []))

nil_end : (xs : List LineAt) → xs ++ [] ≡ xs
nil_end [] = refl
nil_end (x ∷ xs) = ap (λ (zs : List LineAt). x ∷ zs) (nil_end xs)

at_seam : (xs : List LineAt) (l : LineAt) → slice_get (xs ++ l ∷ []) (length xs) ≡ Some l
at_seam [] l = refl
at_seam (x ∷ xs) l = at_seam xs l

before_seam : (xs ys : List LineAt) (i : ℕ) → i < length xs → slice_get (xs ++ ys) i ≡ slice_get xs i
before_seam [] ys i h = absurd (omega (arith, h))
before_seam (x ∷ xs) ys zero h = refl
before_seam (x ∷ xs) ys (suc i) h = before_seam xs ys i (omega (arith, h))

split_suc : (g k : ℕ) → g < suc k → (g < k) ⊎ (g ≡ k)
split_suc g k h = grind arith

-- a run names as many lines as it goes over, and these
pub record Names (lines : List Line) (w : List Shown) (n : ℕ) : Type 0 where
  pub long : length (names w) ≡ n
  pub named : AreNamed w lines n

silent_names : (lines : List Line) (w : List Shown) (n : ℕ) (t : Values) → Names lines w n → Names lines (w ++ shown Silent t ∷ []) n
silent_names lines w n t h =
    let e : names (w ++ shown Silent t ∷ []) ≡ names w = named_more w (shown Silent t) ∙ nil_end (names w) in
    record { long = ap length e ∙ h.long; named = λ k l. ap (λ (ns : List LineAt). slice_get ns k) e ∙ h.named k l }

line_names : (lines : List Line) (w : List Shown) (n : ℕ) (t : Values) → Names lines w n → Names lines (w ++ shown (LineMark (place_of_line (slice_get lines n))) t ∷ []) (suc n)
line_names lines w n t h =
    let at = place_of_line (slice_get lines n) in
    let e : names (w ++ shown (LineMark at) t ∷ []) ≡ names w ++ at ∷ [] = named_more w (shown (LineMark at) t) in
    let long : length (names w) ≡ n = h.long in
    record {
      long = ap length e ∙ (let l = length-append (names w) (at ∷ []) in omega (arith, l, long));
      named = λ k l. elim (split_suc k n l) [
        | inl less ↦ ap (λ (ns : List LineAt). slice_get ns k) e ∙ before_seam (names w) (at ∷ []) k (omega (arith, less, long)) ∙ h.named k less
        | inr same ↦ subst (λ (i : ℕ). slice_get (names (w ++ shown (LineMark at) t ∷ [])) i ≡ Some (place_of_line (slice_get lines i))) (sym same)
            (ap (λ (ns : List LineAt). slice_get ns n) e ∙ subst (λ (i : ℕ). slice_get (names w ++ at ∷ []) i ≡ Some at) long (at_seam (names w) at))
      ];
    }

pub run_names : (k : Language) (lines : List Line) (n j : ℕ) (s : Values) (w : List Shown) → Run (in_order k lines) n j s w → Names lines w n
run_names k lines n j s w (first u i seen) = record { long = refl; named = λ m l. absurd (omega (arith, l)) }
run_names k lines n j s w (wait m i u t v r less le h) = silent_names lines v m t (run_names k lines m i u v r)
run_names k lines n j s w (go m i u t v r less h) = line_names lines v m t (run_names k lines m i u v r)

inside_places : (xs : List LineAt) (i : ℕ) (x : LineAt) → slice_get xs i ≡ Some x → i < length xs
inside_places [] i x e = cc
inside_places (y ∷ ys) zero x e = omega arith
inside_places (y ∷ ys) (suc i) x e = let r = inside_places ys i x e in omega (arith, r)

-- the marks of a run over all lines name these lines
pub run_keeps : (k : Language) (files : List (List Line)) (o : Order) (order : List LineRef) (lines : List Line) → IsLined files o order lines → (n j : ℕ) (s : Values) (w : List Shown)
    → length lines ≤ n → Run (in_order k lines) n j s w → KeepsTo files o w order
run_keeps k files o order lines lined n j s w all r m l e =
    let h = run_names k lines n j s w r in
    let line = zip_at (StandsIn files) order lines m l lined.stand e in
    let b : m < n = let i = inside lines m line.0 line.1 in omega (arith, i, all) in
    let split = take_split order m l e in
    ((take m order, refl, (split.1.0, subst (IsAllowed o) split.1.1 lined.allowed)), inl (line.0, line.2, h.named m b ∙ ap (λ (x : Option Line). Some (place_of_line x)) line.1))

module _ (k : Language) (files : List (List Line)) (o : Order) (made : IsMade o) (are : sizes o ≡ sizes_of files) (order : List LineRef) (lines : List Line) (lined : IsLined files o order lines) where
  init_faultless : (FaultyInit (by_cuts k files o) → ⊥) → FaultyInit (in_order k lines) → ⊥
  init_faultless h f = h (record { cut = start o; state = f.0 }, f.1, (refl, f.2), f.3)

  entry_layer : (m j : ℕ) (s : Values) → Layer (in_order k lines) m j s → Layer (by_cuts k files o) m j (record { cut = after (start o) (take m order); state = s })
  entry_layer m j s l = record { states = l.states; run = from_order k files o made are order lines lined m j s l.states l.run }

  step_faulty : (m j : ℕ) → m < total (sizes o) → Faulty (in_order k lines) m j → Faulty (by_cuts k files o) m j
  step_faulty m j less (s, t, f, layer, b, inl h) = (
    record { cut = after (start o) (take m order); state = s },
    record { cut = after (start o) (take (suc m) order); state = t },
    f,
    entry_layer m j s layer,
    less,
    inl (
      takes k files o made are order lines lined m h.0.0 h.0.1 (λ l. k.FaultStep l s t f) h.0.2,
      takes k files o made are order lines lined m h.1.0 h.1.1 (λ l. k.Seen l t) h.1.2,
    ),
  )
  step_faulty m j less (s, t, f, layer, b, inr h) = (
    record { cut = after (start o) (take m order); state = s },
    record { cut = after (start o) (take m order); state = t },
    f,
    entry_layer m j s layer,
    less,
    inr (h.0, (refl, h.1)),
  )

  -- where nothing faults over cuts, nothing faults over an allowed order
  pub orders_faultless : IsFaultless (by_cuts k files o) (total (sizes o)) → IsFaultless (in_order k lines) (length lines)
  orders_faultless h = record {
    init = init_faultless h.init;
    steps = λ m j less f. let l = lines_long k files o made are order lines lined.allowed lined.stand in
        let b : m < total (sizes o) = omega (arith, l, less) in h.steps m j b (step_faulty m j b f);
  }

-- it is a behaviour over the order that its marks name, in which nothing faults
pub record BehavesNamed (k : Language) (files : List (List Line)) (o : Order) (w : List Shown) : Type 0 where
  pub order : List LineRef
  pub lines : List Line
  pub lined : IsLined files o order lines
  pub keeps : KeepsTo files o w order
  pub faultless : IsFaultless (in_order k lines) (length lines)
  pub behaves : IsBehaviour (in_order k lines) (length lines) w

pub behaviours_named : (k : Language) (files : List (List Line)) (o : Order) → IsMade o → sizes o ≡ sizes_of files → (w : List Shown)
    → IsFaultless (by_cuts k files o) (total (sizes o)) → IsBehaviour (by_cuts k files o) (total (sizes o)) w → BehavesNamed k files o w
behaviours_named k files o made are w quiet b =
    let r = to_orders k files o made are (total (sizes o)) 0 b.0 w b.1 in
    let long = lines_long k files o made are r.order r.lines r.lined.allowed r.lined.stand in
    record {
      order = r.order;
      lines = r.lines;
      lined = r.lined;
      keeps = run_keeps k files o r.order r.lines r.lined (total (sizes o)) 0 b.0.state w (omega (arith, long)) r.run;
      faultless = orders_faultless k files o made are r.order r.lines r.lined quiet;
      behaves = subst (λ (n : ℕ). IsBehaviour (in_order k r.lines) n w) (sym long) (b.0.state, r.run);
    }
