-- The lines that may be taken at a cut, as the code finds them.
use Rattle.std.proofs.Common.{◌≡◌, inl, inr, ◌↔◌, ℕ, ◌+◌, ◌<◌, ◌≤◌, Bool, true, false, IsTrue, List, length, map, Option, Some, None, ap, sym, ◌∙◌, subst, arith}
use Rattle.std.specs.Prelude.{MatchOption, slice_get}
use Rattle.std.proofs.lemmas.List.{length-map}
use Rattle.base_clock_order.specs.declared.order.LineRef.{LineRef}
use Rattle.logs_updates.specs.declared.line.Line.{Line}
use Rattle.base_cuts.specs.Cuts.{Cut, IsLineOf, next, taken, total}
use Rattle.base_cuts.specs.Orders.{IsCut, IsReadyAt, sizes}
use Rattle.base_cuts.proofs.Ends.{ready_line, some_ready}
use Rattle.base_cuts.proofs.Growing.{nat_lt_or}
use Rattle.base_cuts.proofs.Lengths.{next_is}
use Rattle.base_cuts.proofs.Rules.{inside, some_is}
use Rattle.logs_tied.specs.Lines.{AreTied, StandsIn}
use Rattle.logs_tied.specs.declared.logs.Logs.{Logs}
use Rattle.logs_tied.proofs.Zips.{line_stands, stands_log}

-- THE NEXT LINE OF A LOG

module _ (files : List (List Line)) (c : Cut) (f : ℕ) where
  pub no_log : length files ≤ f → (line : Line) → StandsIn files (next c f) line → ⊥
  no_log h line s = let b = inside files f s.0 s.1 in omega (arith, b, h)

  pub no_line : (log : List Line) → slice_get files f ≡ Some log → length log ≤ taken c f → (line : Line) → StandsIn files (next c f) line → ⊥
  no_line log e h line s =
      let same : s.0 ≡ log = some_is (sym s.1 ∙ e) in
      let b = inside s.0 (taken c f) line s.2 in
      let long = ap length same in
      omega (arith, b, long, h)

  pub has_line : (log : List Line) (line : Line) → slice_get files f ≡ Some log → slice_get log (taken c f) ≡ Some line → StandsIn files (next c f) line
  has_line log line e h = (log, e, h)

-- READY LINES

-- none of the first n logs has a line that is ready
abbrev pub NoneReady : Logs → Cut → ℕ → Type 0
NoneReady logs c n = (i : ℕ) → i < n → IsReadyAt logs.order c (next c i) → ⊥

pub not_off : {P : Type 0} (b : Bool) → (IsTrue b ↔ P) → b ≡ false → P → ⊥
not_off {P} b h e p = no_both b (h.1 p) e
  where
    no_both : (b : Bool) → IsTrue b → b ≡ false → ⊥
    no_both b h e = cc

module _ (logs : Logs) (tied : AreTied logs) (c : Cut) where
  -- the line that is ready stands in its log
  pub ready_stands : (f : ℕ) → IsReadyAt logs.order c (next c f) → (line : Line) × StandsIn logs.files.items (next c f) line
  ready_stands f r =
      line_stands logs.files.items (next c f) (subst (λ (s : Cut). IsLineOf s (next c f)) tied.sizes (ready_line logs.order tied.made c (next c f) r))

  -- what is ready has its line, and what is not has none that is told of
  pub told_ready : {R : Type 0} (f : ℕ) (r : Option R) (now : R → Line) → IsReadyAt logs.order c (next c f)
      → MatchOption r ((line : Line) → StandsIn logs.files.items (next c f) line → ⊥) (λ x. StandsIn logs.files.items (next c f) (now x))
      → MatchOption r (IsReadyAt logs.order c (next c f) → ⊥) (λ x. IsReadyAt logs.order c (next c f) × StandsIn logs.files.items (next c f) (now x))
  told_ready f None now ready h = λ r. let s = ready_stands f r in h s.0 s.1
  told_ready f (Some x) now ready h = (ready, h)

  pub one_more : (n : ℕ) → NoneReady logs c n → (IsReadyAt logs.order c (next c n) → ⊥) → NoneReady logs c (n + 1)
  one_more n h last i l r = elim (nat_lt_or i n) [
    | inl less ↦ h i less r
    | inr over ↦ let same : i ≡ n = omega (arith, l, over) in last (subst (λ (k : ℕ). IsReadyAt logs.order c (next c k)) same r)
  ]

  -- what is ready is the next line of its log
  is_next : (l : LineRef) → IsReadyAt logs.order c l → IsReadyAt logs.order c (next c l.file)
  is_next l r = subst (IsReadyAt logs.order c) (next_is logs.order tied.made c l r) r

  pub is_first : (n : ℕ) → NoneReady logs c n → (other : LineRef) → IsReadyAt logs.order c other → n ≤ other.file
  is_first n none other h = elim (nat_lt_or other.file n) [ inl less ↦ absurd (none other.file less (is_next other h)) | inr over ↦ over ]

  pub some_left : IsCut logs.order c → total c < total (sizes logs.order) → (n : ℕ) → length logs.files.items ≤ n → NoneReady logs c n → ⊥
  some_left cut left n over none =
      let l = some_ready logs.order tied.made c cut left in
      let s = ready_stands l.0.file (is_next l.0 l.1) in
      let b : l.0.file < length (map length logs.files.items) = stands_log logs.files.items (next c l.0.file) s.0 s.1 in
      let long = length-map logs.files.items length in
      none l.0.file (omega (arith, b, long, over)) (is_next l.0 l.1)
