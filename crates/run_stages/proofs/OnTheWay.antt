-- The logs are read one behind the other.
use Rattle.std.proofs.Common.{◌≡◌, ◌≤◌, ◌<◌, ◌+◌, ◌-◌, ◌∙◌, refl, sym, subst, ap, ℕ, suc, List, map, [], ◌∷◌, ◌++◌, length, length-append, All, AllPairs, Option, Result, Ok, Err, Bool, nat_lt, arith}
use Rattle.std.specs.Prelude.{true, false, if◌then◌else◌}
use Rattle.std.specs.List.{AllZip}
use Rattle.std.proofs.lemmas.List.{length-map}
use Rattle.std.proofs.lemmas.List.Elements.{All-nil, All-push, All-weaker}
use Rattle.base_core.specs.Device.{File}
use Rattle.logs_lines.specs.Files.{FileSays, first_line}
use Rattle.logs_lines.specs.Laws.{Precedes, StepsKeep}
use Rattle.logs_lines.specs.declared.clocks.ClockForm.TheVariants.{Free}
use Rattle.logs_lines.specs.declared.file.FileLines.{FileLines}
use Rattle.logs_lines.specs.declared.file.Refusal.{Refusal}
use Rattle.logs_updates.specs.Clocks.{number_in, vector_in}
use Rattle.logs_updates.specs.declared.line.Line.{Line}
use Rattle.base_clock_order.specs.declared.order.LineRef.{LineRef}
use Rattle.base_clock_order.specs.Orders.{Clocks, lines_in}
use Rattle.base_clock_order.proofs.Counting.{as_long}
use Rattle.base_cuts.specs.Cuts.{total}
use Rattle.base_cuts.specs.Orders.{Order, by_clock, by_vectors, sizes, sizes_of}
use Rattle.logs_tied.specs.declared.logs.Lined.{Lined}
use Rattle.logs_tied.specs.declared.logs.Lined.TheVariants.{Sequence, Tied}
use Rattle.steps_lined.specs.Beside.{lines_of}
use Rattle.logs_files.specs.Lined.{IsLinedOf}
use Rattle.logs_files.specs.Logs.{AreFew, NoneFalls, StandsAt, are_vectors, clocks_in, numbers_in, vectors_in}
use Rattle.logs_files.proofs.KeptFiles as kept
use Rattle.steps_names.specs.Names.{names_of}
use Rattle.run_reading_defs.specs.Texts.{HasText, no_logs}
use Rattle.run_reading_defs.specs.Reaches.{Reaches, Wants, log_next, logged, reads_log}
use Rattle.run_stages.specs.declared.logs.Course.{Course}
use Rattle.run_stages.specs.declared.logs.LogsSoFar.{LogsSoFar}
use Rattle.run_stages.specs.Logs.{AreKept, IsOnTheWay, read_of}

-- one file more has its steps more
lines_more : (files : List FileLines) (f : FileLines) → lines_in (numbers_in (files ++ f ∷ [])) ≡ lines_in (numbers_in files) + length f.steps
lines_more [] f = let size : length (map (λ (l : Line). number_in l.clock) f.steps) ≡ length f.steps = length-map f.steps (λ l. number_in l.clock) in omega (arith, size)
lines_more (g ∷ gs) f = let h = lines_more gs f in omega (arith, h)

-- as many lines as places
as_many : (files : List FileLines) (order : List LineRef) (lines : List Line) → AllZip (StandsAt files) order lines → length lines ≡ length order
as_many files [] [] h = refl
as_many files [] (y ∷ ys) h = absurd h
as_many files (x ∷ xs) [] h = absurd h
as_many files (x ∷ xs) (y ∷ ys) h = ap suc (as_many files xs ys h.1)

-- vectors are as many as numbers
vector_sizes : (files : List FileLines) → sizes_of (vectors_in files) ≡ sizes_of (numbers_in files)
vector_sizes [] = refl
vector_sizes (f ∷ fs) = λ i. (length-map f.steps (λ l. vector_in l.clock) ∙ sym (length-map f.steps (λ l. number_in l.clock))) i ∷ vector_sizes fs i

either_sizes : (files : List FileLines) (b : Bool) → sizes (if b then by_vectors (vectors_in files) else by_clock (numbers_in files)) ≡ sizes_of (numbers_in files)
either_sizes files true = vector_sizes files
either_sizes files false = refl

-- a cut of all lines counts them
counted : (clocks : Clocks) → total (sizes_of clocks) ≡ lines_in clocks
counted [] = refl
counted (cs ∷ clocks) = ap (λ (n : ℕ). length cs + n) (counted clocks)

abbrev pub IsKept : FileLines → Type 0
IsKept f = AllPairs Precedes f.steps × (length f.steps ≤ 200000)

module _ (holds : Option (List File)) (course : Course) where
  pub wants_next : (so : LogsSoFar) (name : List ℕ) (rest : List (List ℕ)) → IsOnTheWay holds course so (name ∷ rest) → Wants holds course.job.now name (67108864 - so.bytes)
  wants_next so name rest way = record {
    stage = logged course.program.now course.config.now course.spec.now (read_of so) (name ∷ rest);
    reaches = way.reaches;
    is_next = log_next course.program.now course.config.now course.spec.now (read_of so) name rest;
  }

  -- what the next log says, by its number
  pub log_said : (so : LogsSoFar) (name text : List ℕ) (rest : List (List ℕ)) (r : Result FileLines Refusal) → IsOnTheWay holds course so (name ∷ rest)
      → FileSays (names_of course.spec.now) (first_line so.number (nat_lt 1 (length course.job.now.logs)) (200000 - so.steps) so.form) text r
      → FileSays (names_of course.spec.now) (first_line (1 + length so.found.items) (nat_lt 1 (length course.job.now.logs)) (200000 - so.steps) so.form) text r
  log_said so name text rest r way says =
      subst (λ (n : ℕ). FileSays (names_of course.spec.now) (first_line n (nat_lt 1 (length course.job.now.logs)) (200000 - so.steps) so.form) text r) way.number says

  -- one log more
  pub next_way : (so next : LogsSoFar) (name text : List ℕ) (rest : List (List ℕ)) (f : FileLines) → StepsKeep (names_of course.spec.now) → IsOnTheWay holds course so (name ∷ rest)
      → HasText holds name (67108864 - so.bytes) text
      → FileSays (names_of course.spec.now) (first_line so.number (nat_lt 1 (length course.job.now.logs)) (200000 - so.steps) so.form) text (Ok f)
      → next.number ≡ so.number + 1 → next.bytes ≡ so.bytes + length text → next.steps ≡ so.steps + length f.steps → next.form ≡ f.form → next.found.items ≡ so.found.items ++ f ∷ []
      → IsOnTheWay holds course next rest
  next_way so next name text rest f law way has says en eb es fo ef =
      let keep = law so.number (nat_lt 1 (length course.job.now.logs)) (200000 - so.steps) so.form text f says in
      let few : length f.steps ≤ 200000 - so.steps = keep.1 in
      let short : length text ≤ 67108864 - so.bytes = has.short in
      let at = log_said so name text rest (Ok f) way says in
      let all = All-push IsKept so.found.items f way.kept.each (keep.0, omega (arith, few)) in
      let bound : so.steps ≤ 200000 = way.kept.few in
      let bytes : so.bytes ≤ 67108864 = way.bytes in
      record {
        reaches = rw (eb, es, fo, ef) (reads_log course.program.now course.config.now course.spec.now (read_of so) name rest text f way.reaches has at);
        kept = record {
          each = subst (λ (fs : List FileLines). All IsKept fs) (sym ef) all;
          total = rw ef (omega (arith, es, way.kept.total, lines_more so.found.items f));
          few = omega (arith, few, bound, es);
        };
        number = rw ef (omega (arith, en, way.number, length-append so.found.items (f ∷ [])));
        bytes = omega (arith, eb, short, bytes);
        count = rw ef (omega (arith, way.count, length-append so.found.items (f ∷ [])));
      }

  -- before the first
  pub first_way : (so : LogsSoFar) → Reaches holds course.job.now (logged course.program.now course.config.now course.spec.now no_logs course.job.now.logs) → length course.job.now.logs ≤ 64
      → so.number ≡ 1 → so.bytes ≡ 0 → so.steps ≡ 0 → so.form ≡ Free → so.found.items ≡ [] → IsOnTheWay holds course so course.job.now.logs
  first_way so reaches few en eb es fo ef = record {
    reaches = rw (eb, es, fo, ef) reaches;
    kept = record { each = rw ef (All-nil IsKept); total = rw ef es; few = omega (arith, es) };
    number = rw (en, ef) refl;
    bytes = omega (arith, eb);
    count = rw ef (omega (arith, few));
  }

  as_kept : (so : LogsSoFar) (names : List (List ℕ)) → IsOnTheWay holds course so names → kept.AreKept (length so.found.items) so.found.items
  as_kept so names way = record { each = All-weaker IsKept kept.IsKept (λ f h. (h.0, omega (arith, h.1))) so.found.items way.kept.each; count = refl }

  pub none_falls : (so : LogsSoFar) (names : List (List ℕ)) → IsOnTheWay holds course so names → NoneFalls (clocks_in so.found.items)
  none_falls so names way = kept.none_falls (length so.found.items) so.found.items (as_kept so names way)

  pub are_few : (so : LogsSoFar) (names : List (List ℕ)) → IsOnTheWay holds course so names → AreFew (clocks_in so.found.items)
  are_few so names way = kept.are_few (length so.found.items) so.found.items (as_kept so names way)

  -- what was read has no more lines than all files may have
  pub few_lines : (so : LogsSoFar) (names : List (List ℕ)) → IsOnTheWay holds course so names → (ties : Bool) (lined : Lined) → IsLinedOf ties so.found.items lined
      → lines_of lined ≤ 200000
  few_lines so names way ties (Sequence log) is =
      let lines = as_many so.found.items is.1.order log.lines is.1.lines in
      let long = as_long (numbers_in so.found.items) is.1.order is.1.merged in
      omega (arith, lines, long, way.kept.total, way.kept.few)
  few_lines so names way ties (Tied logs) is =
      let all : total (sizes logs.order) ≡ total (sizes_of (numbers_in so.found.items)) = ap (λ (o : Order). total (sizes o)) is.2.order ∙ ap total (either_sizes so.found.items (are_vectors so.found.items)) in
      omega (arith, all, counted (numbers_in so.found.items), way.kept.total, way.kept.few)
