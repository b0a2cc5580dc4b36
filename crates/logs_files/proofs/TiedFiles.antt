-- Logs of several files are made as their order asks.
use Rattle.std.proofs.Common.{◌≡◌, ◌≤◌, ◌<◌, ◌∷◌, ℕ, List, [], map, length, ap, sym, ◌∙◌, subst, refl, arith}
use Rattle.std.specs.Prelude.{Bool, true, false, if◌then◌else◌}
use Rattle.std.proofs.lemmas.List.{length-map}
use Rattle.logs_updates.specs.declared.line.Line.{Line}
use Rattle.base_clock_order.specs.Orders as merged
use Rattle.base_clock_order.specs.Orders.{Clocks}
use Rattle.base_cuts.specs.Cuts.{Cut}
use Rattle.base_cuts.specs.Orders.{IsMade, NoneFallsBy, Order, by_clock, by_vectors, sizes, sizes_of}
use Rattle.base_clocks.specs.Stamps.{IsAtMost}
use Rattle.base_clocks.specs.declared.stamp.Stamp.{Stamp}
use Rattle.logs_lines.specs.declared.file.FileLines.{FileLines}
use Rattle.logs_tied.specs.Lines.{AreTied}
use Rattle.logs_tied.specs.declared.logs.Logs.{Logs}
use Rattle.logs_updates.specs.Clocks.{number_in, vector_in}
use Rattle.logs_tied.specs.declared.logs.Lined.TheVariants.{Sequence, Tied}
use Rattle.logs_updates.specs.declared.line.Log.{Log}
use Rattle.logs_files.specs.Lined.{AreLogsOf, IsLinedOf, are_open, order_of}
use Rattle.logs_files.specs.Logs.{IsLogOf, NoneFalls, are_vectors, clocks_in, numbers_in, vectors_in}
use Rattle.logs_files.proofs.ClockKinds.{no_node_falls, no_number_falls}

-- a file has as many clocks as steps
same_sizes : {K : Type 0} (of : Line → K) (files : List FileLines) → sizes_of (map (λ f. map of f.steps) files) ≡ sizes_of (map (λ f. f.steps) files)
same_sizes of [] = refl
same_sizes of (f ∷ fs) = λ i. length-map f.steps of i ∷ same_sizes of fs i

abbrev IsMadeOf : List FileLines → Order → Type 0
IsMadeOf files o = IsMade o × (sizes o ≡ sizes_of (map (λ f. f.steps) files))

by_either : (files : List FileLines) (b : Bool) → merged.NoneFalls (numbers_in files) → NoneFallsBy IsAtMost (vectors_in files)
    → IsMadeOf files (if b then by_vectors (vectors_in files) else by_clock (numbers_in files))
by_either files true numbers vectors = (vectors, same_sizes (λ l. vector_in l.clock) files)
by_either files false numbers vectors = (numbers, same_sizes (λ l. number_in l.clock) files)

pub tied_files : (files : List FileLines) (logs : Logs) → NoneFalls (clocks_in files) → AreLogsOf files logs → AreTied logs
tied_files files logs none are =
    let made = by_either files (are_vectors files) (no_number_falls files none) (no_node_falls files none) in
    record {
      made = subst IsMade (sym are.order) made.0;
      sizes = ap sizes are.order ∙ made.1 ∙ ap sizes_of (sym are.lines);
    }

pub lined_tied : (ties : Bool) (files slice : List FileLines) (logs : Logs) → slice ≡ files → (are_open ties slice ≡ true) × (1 < length slice) → AreLogsOf files logs
    → IsLinedOf ties files (Tied logs)
lined_tied ties files slice logs e h are = (subst (λ (fs : List FileLines). are_open ties fs ≡ true) e h.0, subst (λ (fs : List FileLines). 1 < length fs) e h.1, are)

at_most_one : (n : ℕ) → ¬ (1 < n) → n ≤ 1
at_most_one n h = omega (arith, h)

pub lined_one : (ties : Bool) (files slice : List FileLines) (log : Log) → slice ≡ files → ¬ ((are_open ties slice ≡ true) × (1 < length slice)) → IsLogOf files log
    → IsLinedOf ties files (Sequence log)
lined_one ties files slice log e not_open is = (
  λ open_so. at_most_one (length files) (λ more. not_open (subst (λ (fs : List FileLines). (are_open ties fs ≡ true) × (1 < length fs)) (sym e) (open_so, more))),
  is,
)

pub order_of_vectors : (files : List FileLines) (o : Order) (v : List (List (List Stamp))) → true ≡ are_vectors files → o ≡ by_vectors v → v ≡ vectors_in files → o ≡ order_of files
order_of_vectors files o v t e w = subst (λ (b : Bool). o ≡ (if b then by_vectors (vectors_in files) else by_clock (numbers_in files))) t (e ∙ ap by_vectors w)

pub order_of_numbers : (files : List FileLines) (o : Order) (v : Clocks) → false ≡ are_vectors files → o ≡ by_clock v → v ≡ numbers_in files → o ≡ order_of files
order_of_numbers files o v t e w = subst (λ (b : Bool). o ≡ (if b then by_vectors (vectors_in files) else by_clock (numbers_in files))) t (e ∙ ap by_clock w)
