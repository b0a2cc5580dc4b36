-- What the reader counts, in the words of open rows.
use Rattle.std.proofs.Common.{◌≡◌, ℕ, ◌≤◌, Bool, List, [], ◌∷◌, ◌++◌, refl, sym, ap, subst, ◌∙◌, arith}
use Rattle.std.proofs.lemmas.List.{append-nil}
use Rattle.reading_trees.specs.declared.laid.Laid.{Laid}
use Rattle.reading_machine.specs.Machine.{StopsAt, run}
use Rattle.reading_open_rows.specs.Unfinished.{unfinished}
use Rattle.reading_expressions.specs.Nesting.{AreOpen, IsShallow, AreShallow, deepest}
use Rattle.reading_expressions.specs.Refused.{ShallowIn}
use Rattle.reading_machine.specs.declared.frame.Frame.{Frame}
use Rattle.reading_machine.specs.declared.frame.Mode.{Mode}
use Rattle.reading_expressions.proofs.Counting.{Within, counter, count_least}
use Rattle.reading_machine.proofs.FittingEnds.{first_mode, first_state, path_state, State}
use Rattle.reading_machine.proofs.Paths.{Path, All, all_read}
use Rattle.reading_machine.proofs.Runner as runner
use Rattle.reading_expressions.proofs.ShallowRuns.{shallow_on, shallow_there}

-- a path through a state behind some of its tokens
record Through (before after : List Laid) (fs : List Frame) (m : Mode) (gs : List Frame) (n : Mode) : Type 0 where
  frames : List Frame
  expects : Mode
  up_to : Path before fs m frames expects
  from_there : Path after frames expects gs n

through : (before after : List Laid) (fs : List Frame) (m : Mode) (gs : List Frame) (n : Mode) → Path (before ++ after) fs m gs n → Through before after fs m gs n
through [] after fs m gs n p = record { frames = fs; expects = m; up_to = (refl, refl); from_there = p }
through (y ∷ before) after fs m gs n p =
    let t : Through before after p.0 p.1 gs n = through before after p.0 p.1 gs n p.3 in
    record { frames = t.frames; expects = t.expects; up_to = (p.0, p.1, p.2, t.up_to); from_there = t.from_there }

-- the rows of a state that the reader comes to are open
reached_open : (unit : Bool) (read : List Laid) (gs : List Frame) (n : Mode) → Path read [] (first_mode unit) gs n → AreOpen unit read gs n
reached_open unit read gs n p =
    let s : State unit (read ++ []) gs n [] = path_state unit read [] (read ++ []) [] (first_mode unit) gs n p (first_state unit (read ++ [])) in
    let t : State unit read gs n [] = subst (λ v. State unit v gs n []) (append-nil read) s in
    record { text = t.0.0; fit = (t.0.1, t.0.2); stand = (t.1.1, t.1.0); outermost = t.2 }

-- where it counts few enough before each token, each is shallow
pub shallow_so : (unit : Bool) (read : List Laid) → run read [] (first_mode unit) ≡ StopsAt [] → ShallowIn [] (first_mode unit) read → AreShallow unit read
shallow_so unit read q h before after x w =
    let a : All read [] (first_mode unit) = all_read read [] (first_mode unit) q in
    let t : Through before (x ∷ after) [] (first_mode unit) a.frames a.expects =
    through before (x ∷ after) [] (first_mode unit) a.frames a.expects (subst (λ v. Path v [] (first_mode unit) a.frames a.expects) w a.path) in (
      t.frames,
      t.expects,
      reached_open unit before t.frames t.expects t.up_to,
      shallow_there before after x [] t.frames (first_mode unit) t.expects t.up_to (subst (λ v. ShallowIn [] (first_mode unit) v) w h),
    )

-- what it counts behind the last token
counted : (read : List Laid) (fs : List Frame) (m : Mode) (gs : List Frame) (n : Mode) → Path read fs m gs n → runner.run counter read fs m ≡ Within (unfinished gs n)
counted [] fs m gs n p = ap (λ v. Within (unfinished v m)) p.0 ∙ ap (λ v. Within (unfinished gs v)) p.1
counted (y ∷ read) fs m gs n p = ap (λ s. runner.after counter s (y ∷ read) (runner.run counter read)) p.2 ∙ counted read p.0 p.1 gs n p.3

same_count : (a b : ℕ) → Within a ≡ Within b → a ≡ b
same_count a b q = cc

-- where it counts too many before the last token, that is too deep
pub deep_so : (unit : Bool) (read : List Laid) (here : Laid) → run (read ++ here ∷ []) [] (first_mode unit) ≡ StopsAt [] → ShallowIn [] (first_mode unit) read → ¬ (ShallowIn [] (first_mode unit) (read ++ here ∷ []))
    → ¬ (AreShallow unit (read ++ here ∷ []))
deep_so unit read here q h d s =
    let a : All (read ++ here ∷ []) [] (first_mode unit) = all_read (read ++ here ∷ []) [] (first_mode unit) q in
    let t : Through read (here ∷ []) [] (first_mode unit) a.frames a.expects = through read (here ∷ []) [] (first_mode unit) a.frames a.expects a.path in
    let i : IsShallow unit read = s read [] here refl in
    let l = count_least unit read i.0 i.1 i.2 in
    let e : l.0 ≡ unfinished t.frames t.expects = same_count l.0 (unfinished t.frames t.expects) (sym l.1 ∙ counted read [] (first_mode unit) t.frames t.expects t.up_to) in
    let few : l.0 ≤ deepest = at_most l.0 (unfinished i.0 i.1) deepest l.2 i.3 in
    d (shallow_on read here [] t.frames (first_mode unit) t.expects t.up_to h (subst (λ v. v ≤ deepest) e few))
  where
    at_most : (a b c : ℕ) → a ≤ b → b ≤ c → a ≤ c
    at_most a b c p q = omega (arith, p, q)
