-- Where the steps of the files stand, and in which order they come.
use Rattle.std.proofs.Common.{◌≡◌, ◌≤◌, ◌<◌, ◌+◌, ℕ, zero, suc, ℤ, List, [], ◌∷◌, ◌++◌, length, map, take, drop, get_or, All, Some, Vec, Global, ap, subst, sym, ◌∙◌, refl, arith, append_assoc, add-one}
use Rattle.std.specs.List.{slice_get, AllZip, Contains}
use Rattle.std.proofs.lemmas.List.{map-append}
use Rattle.std.proofs.lemmas.Option.{get_or_from_slice_get, slice_get-get_or, slice_get_within}
use Rattle.std.proofs.lemmas.List.Elements.{All-contains_itself, All-weaker}
use Rattle.logs_updates.specs.declared.line.Line.{Line}
use Rattle.logs_updates.specs.declared.update.See.{See}
use Rattle.base_clock_order.specs.Orders.{IsLine, IsMerged, clocks_of}
use Rattle.base_clock_order.specs.declared.order.LineRef.{LineRef}
use Rattle.logs_lines.specs.declared.file.FileLines.{FileLines}
use Rattle.logs_updates.specs.Clocks.{number_in, vector_in}
use Rattle.base_clocks.specs.declared.stamp.Stamp.{Stamp}
use Rattle.base_cuts.specs.Views.{logs_of}
use Rattle.logs_files.specs.Logs.{StandsAt, numbers_in, first_sees, sees_of, vectors_in}
use Rattle.logs_files.proofs.ListSteps.{rest_at, take_more}

pub some_is : {X : Type 0} (x y : X) → Some x ≡ Some y → x ≡ y
some_is x y e = cc

pub mapped : {X Y : Type 0} (f : X → Y) (xs : List X) (i : ℕ) (y : Y) → slice_get (map f xs) i ≡ Some y → (x : X) × (slice_get xs i ≡ Some x) × (f x ≡ y)
mapped f [] i y e = absurd cc
mapped f (x ∷ xs) zero y e = (x, refl, some_is (f x) y e)
mapped f (x ∷ xs) (suc i) y e = mapped f xs i y e

-- a line of the clocks is a step of a file
step_of : (fs : List FileLines) (place : LineRef) → IsLine (numbers_in fs) place → (line : Line) × StandsAt fs place line
step_of fs place h =
    let f = mapped (λ (f : FileLines). map (λ l. number_in l.clock) f.steps) fs place.file h.1.0 h.1.1 in
    let l = mapped (λ (l : Line). number_in l.clock) f.0.steps place.index h.0 (subst (λ (log : List ℤ). slice_get log place.index ≡ Some h.0) (sym f.2) h.1.2) in
    (l.0, (f.0, f.1, l.1))

pub file_within : (fs : List FileLines) (place : LineRef) → IsLine (numbers_in fs) place → place.file < length fs
file_within fs place h = let s = step_of fs place h in slice_get_within fs place.file s.1.0 s.1.1

pub not_past : (fs : List FileLines) (place : LineRef) (f : FileLines) → IsLine (numbers_in fs) place → slice_get fs place.file ≡ Some f → length f.steps ≤ place.index → ⊥
not_past fs place f h e past =
    let s = step_of fs place h in
    let same : s.1.0 ≡ f = some_is s.1.0 f (sym s.1.1 ∙ e) in
    let here : slice_get f.steps place.index ≡ Some s.0 = subst (λ (x : FileLines). slice_get x.steps place.index ≡ Some s.0) same s.1.2 in
    omega (arith, past, slice_get_within f.steps place.index s.0 here)

zip_push : {A B : Type 0} (R : A → B → Type 0) (xs : List A) (i : ℕ) (x : A) (ys : List B) (y : B) → i < length xs → x ≡ get_or xs i x
    → AllZip R (take i xs) ys → R x y → AllZip R (take (suc i) xs) (ys ++ y ∷ [])
zip_push R [] i x ys y h e p r = absurd (omega (arith, h))
zip_push {A = A} R (z ∷ zs) zero x [] y h e p r = (subst (λ (w : A). R w y) e r, tt)
zip_push R (z ∷ zs) zero x (w ∷ ws) y h e p r = absurd p
zip_push R (z ∷ zs) (suc i) x [] y h e p r = absurd p
zip_push R (z ∷ zs) (suc i) x (w ∷ ws) y h e p r = (p.0, zip_push R zs i x ws y (omega (arith, h)) e p.1 r)

-- one more place, one more line
pub placed_more : (fs : List FileLines) (order : List LineRef) (i : ℕ) (place : LineRef) (old new : List Line) → i < length order → place ≡ get_or order i place
    → AllZip (StandsAt fs) (take i order) old → (line : Line) × StandsAt fs place line × (new ≡ old ++ line ∷ []) → AllZip (StandsAt fs) (take (i + 1) order) new
placed_more fs order i place old new h e p s =
    rw (add-one i) (subst (λ (ls : List Line). AllZip (StandsAt fs) (take (suc i) order) ls) (sym s.2) (zip_push (StandsAt fs) order i place old s.0 h e p s.1))

pub each_line : (fs : List FileLines) (order : List LineRef) → IsMerged (numbers_in fs) order → All (IsLine (numbers_in fs)) order
each_line fs order m = All-weaker (Contains order) (IsLine (numbers_in fs)) (λ place h. m.lines.lines place h) order (All-contains_itself order)

pub clocks_more : (fs : List FileLines) (i : ℕ) (f : FileLines) (old new : List (Vec ℤ Global)) (log : Vec ℤ Global) → i < length fs → f ≡ get_or fs i f → log.items ≡ map (λ l. number_in l.clock) f.steps
    → clocks_of old ≡ numbers_in (take i fs) → new ≡ old ++ log ∷ [] → clocks_of new ≡ numbers_in (take (i + 1) fs)
clocks_more fs i f old new log h e q w n =
    let pushed : clocks_of (old ++ log ∷ []) ≡ clocks_of old ++ log.items ∷ [] = map-append (λ (v : Vec ℤ Global). v.items) old (log ∷ []) in
    let more : numbers_in (take i fs ++ f ∷ []) ≡ numbers_in (take i fs) ++ map (λ l. number_in l.clock) f.steps ∷ [] = map-append (λ (x : FileLines). map (λ l. number_in l.clock) x.steps) (take i fs) (f ∷ []) in
    let same : clocks_of old ++ log.items ∷ [] ≡ numbers_in (take i fs) ++ map (λ l. number_in l.clock) f.steps ∷ [] = λ j. w j ++ q j ∷ [] in
    ap clocks_of n ∙ pushed ∙ same ∙ sym more ∙ ap numbers_in (sym (take_more fs i f h e))

pub sees_more : (fs : List FileLines) (i : ℕ) (f : FileLines) (old new : List See) → i < length fs → f ≡ get_or fs i f → new ≡ old ++ sees_of f.init
    → old ++ first_sees (drop i fs) ≡ first_sees fs → new ++ first_sees (drop (i + 1) fs) ≡ first_sees fs
sees_more fs i f old new h e n w =
    let rest = first_sees (drop (i + 1) fs) in
    ap (λ (s : List See). s ++ rest) n ∙ append_assoc old (sees_of f.init) rest ∙ ap (λ (gs : List FileLines). old ++ first_sees gs) (sym (rest_at fs i f h e)) ∙ w

-- the same at what the order has there, whatever stands for what it has not
pub placed_at : (fs : List FileLines) (order : List LineRef) (i : ℕ) (d : LineRef) (old new : List Line) → i < length order → AllZip (StandsAt fs) (take i order) old
    → (line : Line) × StandsAt fs (get_or order i d) line × (new ≡ old ++ line ∷ []) → AllZip (StandsAt fs) (take (i + 1) order) new
placed_at fs order i d old new h p s =
    let here = slice_get-get_or order i d h in
    placed_more fs order i (get_or order i d) old new h (sym (get_or_from_slice_get order i (get_or order i d) (get_or order i d) here)) p s

pub vectors_more : (fs : List FileLines) (i : ℕ) (f : FileLines) (old new : List (Vec (List Stamp) Global)) (log : Vec (List Stamp) Global) → i < length fs → f ≡ get_or fs i f
    → log.items ≡ map (λ l. vector_in l.clock) f.steps → logs_of old ≡ vectors_in (take i fs) → new ≡ old ++ log ∷ [] → logs_of new ≡ vectors_in (take (i + 1) fs)
vectors_more fs i f old new log h e q w n =
    let pushed : logs_of (old ++ log ∷ []) ≡ logs_of old ++ log.items ∷ [] = map-append (λ (v : Vec (List Stamp) Global). v.items) old (log ∷ []) in
    let more : vectors_in (take i fs ++ f ∷ []) ≡ vectors_in (take i fs) ++ map (λ l. vector_in l.clock) f.steps ∷ [] =
    map-append (λ (x : FileLines). map (λ l. vector_in l.clock) x.steps) (take i fs) (f ∷ []) in
    let same : logs_of old ++ log.items ∷ [] ≡ vectors_in (take i fs) ++ map (λ l. vector_in l.clock) f.steps ∷ [] = λ j. w j ++ q j ∷ [] in
    ap logs_of n ∙ pushed ∙ same ∙ sym more ∙ ap vectors_in (sym (take_more fs i f h e))
