-- Clocks that do not fall, as numbers and as vectors.
use Rattle.std.proofs.Common.{◌≡◌, ◌≤◌, ◌<◌, ◌≤ℤ◌, ℕ, pos, List, [], ◌∷◌, length, map, option_map, Some, ap, subst, sym, ◌∙◌, refl, arith}
use Rattle.std.specs.List.{slice_get}
use Rattle.std.specs.Int.Signed.{≤ℤ_refl}
use Rattle.std.proofs.lemmas.List.{length-map}
use Rattle.std.proofs.lemmas.Option.{slice_get-map}
use Rattle.logs_updates.specs.Clocks.{MayFollow, number_in, vector_in}
use Rattle.logs_updates.specs.declared.clock.Clock.{Clock}
use Rattle.logs_updates.specs.declared.clock.Clock.TheVariants.{Number, Vector}
use Rattle.logs_updates.specs.declared.line.Line.{Line}
use Rattle.base_clocks.specs.Stamps.{IsAtMost}
use Rattle.base_clock_order.specs.Orders as merged
use Rattle.base_clock_order.specs.Orders.{line}
use Rattle.base_clock_order.specs.declared.order.LineRef.{LineRef}
use Rattle.base_cuts.specs.Orders.{Carries, NoneFallsBy}
use Rattle.logs_lines.specs.declared.file.FileLines.{FileLines}
use Rattle.logs_files.specs.Logs.{AreFew, NoneFalls, clocks_in, numbers_in, vectors_in}
use Rattle.logs_files.proofs.PlaceLemmas.{mapped}

numbers_follow : (a b : Clock) → MayFollow a b → number_in a ≤ℤ number_in b
numbers_follow (Number a) (Number b) h = h
numbers_follow (Number a) (Vector v) h = h
numbers_follow (Vector u) (Vector v) h = ≤ℤ_refl (pos 0)
numbers_follow (Vector u) (Number b) h = absurd h

vectors_follow : (a b : Clock) → MayFollow a b → IsAtMost (vector_in a) (vector_in b)
vectors_follow (Number a) (Number b) h node = omega arith
vectors_follow (Number a) (Vector v) h node = omega arith
vectors_follow (Vector u) (Vector v) h node = h node
vectors_follow (Vector u) (Number b) h node = absurd h

at_map : {X Y : Type 0} (f : X → Y) (xs : List X) (i : ℕ) (x : X) → slice_get xs i ≡ Some x → slice_get (map f xs) i ≡ Some (f x)
at_map f xs i x e = slice_get-map f xs i ∙ ap (option_map f) e

module _ {K : Type 0} (of : Clock → K) where
  -- what a line carries of that kind is so of its clock
  carried : (fs : List FileLines) (l : LineRef) (k : K) → Carries (map (λ f. map (λ s. of s.clock) f.steps) fs) l k → (c : Clock) × Carries (clocks_in fs) l c × (of c ≡ k)
  carried fs l k h =
      let f = mapped (λ (f : FileLines). map (λ s. of s.clock) f.steps) fs l.file h.0 h.1 in
      let s = mapped (λ (s : Line). of s.clock) f.0.steps l.index k (subst (λ (log : List K). slice_get log l.index ≡ Some k) (sym f.2) h.2) in
      let file = at_map (λ (f : FileLines). map (λ s. s.clock) f.steps) fs l.file f.0 f.1 in
      let clock = at_map (λ (s : Line). s.clock) f.0.steps l.index s.0 s.1 in
      (s.0.clock, (map (λ s. s.clock) f.0.steps, file, clock), s.2)

  of_kind : (AtMost : K → K → Type 0) → ((a b : Clock) → MayFollow a b → AtMost (of a) (of b)) → (fs : List FileLines) → NoneFalls (clocks_in fs)
      → NoneFallsBy AtMost (map (λ f. map (λ s. of s.clock) f.steps) fs)
  of_kind AtMost follow fs none l i c d less p q =
      let a = carried fs l c p in
      let b = carried fs (line l.file i) d q in
      subst (λ (x : K). AtMost c x) b.2 (subst (λ (x : K). AtMost x (of b.0)) a.2 (follow a.0 b.0 (none l i a.0 b.0 less a.1 b.1)))

pub no_number_falls : (fs : List FileLines) → NoneFalls (clocks_in fs) → merged.NoneFalls (numbers_in fs)
no_number_falls fs none = of_kind number_in (λ a b. a ≤ℤ b) numbers_follow fs none

pub no_node_falls : (fs : List FileLines) → NoneFalls (clocks_in fs) → NoneFallsBy IsAtMost (vectors_in fs)
no_node_falls fs none = of_kind vector_in IsAtMost vectors_follow fs none

pub few_numbers : (fs : List FileLines) → AreFew (clocks_in fs) → merged.AreFew (numbers_in fs)
few_numbers [] h = tt
few_numbers (f ∷ fs) h = (omega (arith, h.0, length-map f.steps (λ l. l.clock), length-map f.steps (λ l. number_in l.clock)), few_numbers fs h.1)
