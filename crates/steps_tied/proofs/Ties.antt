-- Runs over cuts are runs over the orders that are allowed, whatever a language says.
use Rattle.std.proofs.Common.{◌≡◌, ℕ, zero, suc, ◌<◌, ◌==◌, Bool, true, false, List, [], ◌∷◌, ◌++◌, length, length-append, take, Some, ap, sym, ◌∙◌, subst, refl, arith, if◌then◌else◌}
use Rattle.std.proofs.lemmas.Bool.Decides.{nat_tests}
use Rattle.std.specs.List.{AllZip, slice_get}
use Rattle.base_core.specs.declared.place.LineAt.{LineAt}
use Rattle.states_core.specs.Runs.{Run, start as first, wait, go}
use Rattle.states_core.specs.States.{Values, shown}
use Rattle.states_core.specs.declared.state.Mark.TheVariants.{Line as LineMark}
use Rattle.states_core.specs.declared.state.Shown.{Shown}
use Rattle.base_clock_order.specs.declared.order.LineRef.{LineRef}
use Rattle.logs_updates.specs.declared.line.Line.{Line}
use Rattle.steps_lines_defs.specs.Logs.{place_of_line}
use Rattle.base_cuts.specs.Cuts.{Cut, IsLineOf, after, next, total, with_one}
use Rattle.base_cuts.specs.Orders.{Begins, IsAllowed, IsCut, IsMade, IsReadyAt, Order, sizes, sizes_of, start}
use Rattle.base_cuts.proofs.Ends.{are_lines, beginning_long, cut_long}
use Rattle.base_cuts.proofs.Growing.{after_more}
use Rattle.base_cuts.proofs.Lengths.{as_long, next_is}
use Rattle.base_cuts.proofs.Ready.{goes_on, more_one, some_allowed}
use Rattle.logs_tied.specs.Lines.{IsLined, StandsIn}
use Rattle.logs_tied.proofs.Zips.{line_stands, one_line, stands_log, take_split, zip_at, zip_back, zip_long, zip_made}
use Rattle.steps_tied.specs.InOrder.{in_order}
use Rattle.steps_tied.specs.Languages.{Language}
use Rattle.steps_tied.specs.Tied.{CutState, TakesLine, by_cuts, line_at, line_in, moved}

-- over some order that is allowed it is a run, to the cut of the first lines of that order
pub record RunsSome (k : Language) (files : List (List Line)) (o : Order) (n j : ℕ) (e : CutState) (w : List Shown) : Type 0 where
  pub order : List LineRef
  pub lines : List Line
  pub lined : IsLined files o order lines
  pub cut : e.cut ≡ after (start o) (take n order)
  pub run : Run (in_order k lines) n j e.state w

same_nat : (n : ℕ) → (n == n) ≡ true
same_nat n = grind (arith, nat_tests)

more_nat : (n : ℕ) → (n == suc n) ≡ false
more_nat n = grind (arith, nat_tests)

pub moved_one : (c : Cut) (f : ℕ) → f < length c → moved c (with_one c f) ≡ f
moved_one [] f h = absurd (omega (arith, h))
moved_one (n ∷ ns) zero h = ap (λ (b : Bool). if b then suc (moved ns ns) else 0) (more_nat n)
moved_one (n ∷ ns) (suc f) h = ap (λ (b : Bool). if b then suc (moved ns (with_one ns f)) else 0) (same_nat n) ∙ ap suc (moved_one ns f (omega (arith, h)))

pub stands_line : (files : List (List Line)) (l : LineRef) (line : Line) → StandsIn files l line → line_at files l ≡ Some line
stands_line files l line s = ap (λ z. line_in z l.index) s.1 ∙ s.2

at_seam : (xs : List LineRef) (l : LineRef) (ys : List LineRef) → slice_get (xs ++ l ∷ ys) (length xs) ≡ Some l
at_seam [] l ys = refl
at_seam (x ∷ xs) l ys = at_seam xs l ys

take_seam : (xs ys : List LineRef) → take (length xs) (xs ++ ys) ≡ xs
take_seam [] ys = refl
take_seam (x ∷ xs) ys = ap (λ (zs : List LineRef). x ∷ zs) (take_seam xs ys)

module _ (k : Language) (files : List (List Line)) (o : Order) (made : IsMade o) (are : sizes o ≡ sizes_of files) where
  -- where a line stands that is taken
  taken_at : (c d : Cut) (l : LineRef) (line : Line) → length c ≡ length (sizes o) → d ≡ with_one c l.file → l ≡ next c l.file → StandsIn files l line → place_of_line (line_at files (next c (moved c d))) ≡ line.at
  taken_at c d l line long e is stands =
      let b : l.file < length c = let h = stands_log files l line stands in let s : length (sizes o) ≡ length (sizes_of files) = ap length are in omega (arith, h, s, long) in
      let f : moved c d ≡ l.file = ap (moved c) e ∙ moved_one c l.file b in
      ap (λ (x : LineRef). place_of_line (line_at files x)) (ap (next c) f ∙ sym is) ∙ ap place_of_line (stands_line files l line stands)

  -- what a run over cuts goes through
  pub record Follows (n j : ℕ) (e : CutState) (w : List Shown) : Type 0 where
    pub xs : List LineRef
    pub long : length xs ≡ n
    pub begins : Begins o xs
    pub cut : e.cut ≡ after (start o) xs
    pub runs : (ys : List LineRef) (lines : List Line) → IsAllowed o (xs ++ ys) → AllZip (StandsIn files) (xs ++ ys) lines → Run (in_order k lines) n j e.state w

  pub lines_long : (xs : List LineRef) (lines : List Line) → IsAllowed o xs → AllZip (StandsIn files) xs lines → length lines ≡ total (sizes o)
  lines_long xs lines a z = zip_long (StandsIn files) xs lines z ∙ as_long o made xs a

  go_run : (n j : ℕ) (e f : CutState) (w : List Shown) → (r : Follows n j e w) → n < total (sizes o) → (step : TakesLine files o e.cut f.cut (λ l. k.Step l e.state f.state))
      → (by_cuts k files o).at n e f ≡ step.line.at → (ys : List LineRef) (lines : List Line) → IsAllowed o ((r.xs ++ step.place ∷ []) ++ ys) → AllZip (StandsIn files) ((r.xs ++ step.place ∷ []) ++ ys) lines
      → Run (in_order k lines) (suc n) 0 f.state (w ++ shown (LineMark ((by_cuts k files o).at n e f)) f.state ∷ [])
  go_run n j e f w r less step at ys lines a z =
      let seam : (r.xs ++ step.place ∷ []) ++ ys ≡ r.xs ++ step.place ∷ ys = sym (more_one r.xs step.place ys) in
      let allowed : IsAllowed o (r.xs ++ step.place ∷ ys) = subst (IsAllowed o) seam a in
      let zipped : AllZip (StandsIn files) (r.xs ++ step.place ∷ ys) lines = subst (λ (xs : List LineRef). AllZip (StandsIn files) xs lines) seam z in
      let here : slice_get (r.xs ++ step.place ∷ ys) n ≡ Some step.place = subst (λ (i : ℕ). slice_get (r.xs ++ step.place ∷ ys) i ≡ Some step.place) r.long (at_seam r.xs step.place ys) in
      let line = zip_at (StandsIn files) (r.xs ++ step.place ∷ ys) lines n step.place zipped here in
      let same : line.0 ≡ step.line = one_line files step.place line.0 step.line line.2 step.stands in
      let there : slice_get lines n ≡ Some step.line = line.1 ∙ ap Some same in
      let place : place_of_line (slice_get lines n) ≡ (by_cuts k files o).at n e f = ap place_of_line there ∙ sym at in
      let count : n < length lines = let l = lines_long (r.xs ++ step.place ∷ ys) lines allowed zipped in omega (arith, l, less) in
      subst (λ (p : LineAt). Run (in_order k lines) (suc n) 0 f.state (w ++ shown (LineMark p) f.state ∷ [])) place
      (go n j e.state f.state w (r.runs (step.place ∷ ys) lines allowed zipped) count (step.line, there, step.holds))

  go_follows : (n j : ℕ) (e f : CutState) (w : List Shown) → Follows n j e w → n < total (sizes o) → (step : TakesLine files o e.cut f.cut (λ l. k.Step l e.state f.state))
      → Follows (suc n) 0 f (w ++ shown (LineMark ((by_cuts k files o).at n e f)) f.state ∷ [])
  go_follows n j e f w r less step =
      let ready : IsReadyAt o (after (start o) r.xs) step.place = subst (λ (c : Cut). IsReadyAt o c step.place) r.cut step.ready in
      let long : length e.cut ≡ length (sizes o) = ap length r.cut ∙ cut_long o r.xs in
      let at = taken_at e.cut f.cut step.place step.line long step.further (next_is o made e.cut step.place step.ready) step.stands in
      let old = r.long in
      record {
        xs = r.xs ++ step.place ∷ [];
        long = let l = length-append r.xs (step.place ∷ []) in omega (arith, l, old);
        begins = goes_on o made r.xs step.place r.begins ready;
        cut = step.further ∙ ap (λ (c : Cut). with_one c step.place.file) r.cut ∙ sym (after_more (start o) r.xs (step.place ∷ []));
        runs = λ ys lines a z. go_run n j e f w r less step at ys lines a z;
      }

  pub follows : (n j : ℕ) (e : CutState) (w : List Shown) → Run (by_cuts k files o) n j e w → Follows n j e w
  follows n j e w (first s i seen) = record {
    xs = [];
    long = refl;
    begins = some_allowed o made;
    cut = i.0;
    runs = λ ys lines a z. first s.state i.1 seen;
  }
  follows n j e w (wait m i s t v r less le h) =
      let old = follows m i s v r in
      record {
        xs = old.xs;
        long = old.long;
        begins = old.begins;
        cut = h.0 ∙ old.cut;
        runs = λ ys lines a z. wait m i s.state t.state v (old.runs ys lines a z) (let l = lines_long (old.xs ++ ys) lines a z in omega (arith, l, less)) le h.1;
      }
  follows n j e w (go m i s t v r less h) = go_follows m i s t v (follows m i s v r) less h

  pub to_orders : (n j : ℕ) (e : CutState) (w : List Shown) → Run (by_cuts k files o) n j e w → RunsSome k files o n j e w
  to_orders n j e w r =
      let f = follows n j e w r in
      let order = f.xs ++ f.begins.0 in
      let lines = zip_made (StandsIn files) order (λ l h. line_stands files l (subst (λ (s : Cut). IsLineOf s l) are (are_lines o made order f.begins.1 l h))) in
      record {
        order = order;
        lines = lines.0;
        lined = record { allowed = f.begins.1; stand = lines.1 };
        cut = f.cut ∙ ap (after (start o)) (sym (subst (λ (i : ℕ). take i order ≡ f.xs) f.long (take_seam f.xs f.begins.0)));
        run = f.runs f.begins.0 lines.0 f.begins.1 lines.1;
      }

  module _ (order : List LineRef) (lines : List Line) (lined : IsLined files o order lines) where
    -- the entry behind the first n lines of the order
    abbrev behind : ℕ → Values → CutState
    behind n s = record { cut = after (start o) (take n order); state = s }

    pub takes : (n : ℕ) (line : Line) → slice_get lines n ≡ Some line → (P : Line → Type 0) → P line → TakesLine files o (after (start o) (take n order)) (after (start o) (take (suc n) order)) P
    takes n line e P p =
        let l = zip_back (StandsIn files) order lines n line lined.stand e in
        let split = take_split order n l.0 l.1 in
        record {
          place = l.0;
          ready = (take n order, refl, (split.1.0, subst (IsAllowed o) split.1.1 lined.allowed));
          further = ap (after (start o)) split.0 ∙ after_more (start o) (take n order) (l.0 ∷ []);
          line = line;
          stands = l.2;
          holds = p;
        }

    takes_at : (n : ℕ) (s t : Values) (line : Line) → slice_get lines n ≡ Some line → (by_cuts k files o).at n (behind n s) (behind (suc n) t) ≡ place_of_line (slice_get lines n)
    unfolding takes
    takes_at n s t line e =
        let h = takes n line e (λ l. Unit {0}) tt in
        taken_at (after (start o) (take n order)) (after (start o) (take (suc n) order)) h.place h.line (cut_long o (take n order)) h.further (next_is o made (after (start o) (take n order)) h.place h.ready) h.stands
        ∙ sym (ap place_of_line e)

    all_long : length lines ≡ total (sizes o)
    all_long = lines_long order lines lined.allowed lined.stand

    pub from_order : (n j : ℕ) (s : Values) (w : List Shown) → Run (in_order k lines) n j s w → Run (by_cuts k files o) n j (behind n s) w
    from_order n j s w (first u i seen) = first (behind 0 u) (refl, i) seen
    from_order n j s w (wait m i u t v r less le h) =
        wait m i (behind m u) (behind m t) v (from_order m i u v r) (let l = all_long in omega (arith, l, less)) le (refl, h)
    from_order n j s w (go m i u t v r less h) =
        subst (λ (p : LineAt). Run (by_cuts k files o) (suc m) 0 (behind (suc m) t) (v ++ shown (LineMark p) t ∷ [])) (takes_at m u t h.0 h.1)
        (go m i (behind m u) (behind (suc m) t) v (from_order m i u v r) (let l = all_long in omega (arith, l, less)) (takes m h.0 h.1 (λ l. k.Step l u t) h.2))

  pub from_orders : (n j : ℕ) (e : CutState) (w : List Shown) → RunsSome k files o n j e w → Run (by_cuts k files o) n j e w
  from_orders n j e w r =
      subst (λ (c : Cut). Run (by_cuts k files o) n j (record { cut = c; state = e.state }) w) (sym r.cut) (from_order r.order r.lines r.lined n j e.state w r.run)

-- what a run comes to has a cut of the order
pub cuts_reached : (k : Language) (files : List (List Line)) (o : Order) → IsMade o → sizes o ≡ sizes_of files → (n j : ℕ) (e : CutState) (w : List Shown)
    → Run (by_cuts k files o) n j e w → IsCut o e.cut × (total e.cut ≡ n)
cuts_reached k files o made are n j e w r =
    let f = follows k files o made are n j e w r in
    ((f.xs, sym f.cut, f.begins), ap total f.cut ∙ beginning_long o made f.xs f.begins.0 f.begins.1 ∙ f.long)
