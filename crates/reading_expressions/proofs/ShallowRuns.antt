-- The counts of the states that the reader goes through.
use Rattle.std.proofs.Common.{◌≤◌, List, [], ◌∷◌, ◌++◌, sym, subst}
use Rattle.reading_trees.specs.declared.laid.Laid.{Laid}
use Rattle.reading_machine.specs.Machine.{Stepped, Reads, Stops, Clashes, Ends, EndsDefinition, step}
use Rattle.reading_open_rows.specs.Unfinished.{unfinished}
use Rattle.reading_expressions.specs.Nesting.{deepest}
use Rattle.reading_expressions.specs.Refused.{ShallowBehind, ShallowIn}
use Rattle.reading_machine.specs.declared.frame.Frame.{Frame}
use Rattle.reading_machine.specs.declared.frame.Mode.{Mode}
use Rattle.reading_machine.proofs.Paths.{Path}

nothing_behind : (s : Stepped) → ShallowBehind s (λ gs n. ShallowIn gs n [])
nothing_behind (Reads fs m) = tt
nothing_behind Stops = tt
nothing_behind (Clashes p q) = tt
nothing_behind (Ends e) = tt
nothing_behind (EndsDefinition n p ns form e) = tt

-- one more token, before which few enough are unfinished
pub shallow_on : (read : List Laid) (x : Laid) (fs gs : List Frame) (m n : Mode) → Path read fs m gs n → ShallowIn fs m read → unfinished gs n ≤ deepest → ShallowIn fs m (read ++ x ∷ [])
shallow_on [] x fs gs m n p h u =
    (subst (λ v. unfinished v m ≤ deepest) (sym p.0) (subst (λ v. unfinished gs v ≤ deepest) (sym p.1) u), nothing_behind (step x fs m))
shallow_on (y ∷ ys) x fs gs m n p h u =
    let k : ShallowIn p.0 p.1 ys = subst (λ s. ShallowBehind s (λ v w. ShallowIn v w ys)) p.2 h.1 in
    (h.0, subst (λ s. ShallowBehind s (λ v w. ShallowIn v w (ys ++ x ∷ []))) (sym p.2) (shallow_on ys x p.0 gs p.1 n p.3 k u))

-- before a token few enough are unfinished
pub shallow_there : (read rest : List Laid) (x : Laid) (fs gs : List Frame) (m n : Mode) → Path read fs m gs n → ShallowIn fs m (read ++ x ∷ rest) → unfinished gs n ≤ deepest
shallow_there [] rest x fs gs m n p h = subst (λ v. unfinished gs v ≤ deepest) p.1 (subst (λ v. unfinished v m ≤ deepest) p.0 h.0)
shallow_there (y ∷ ys) rest x fs gs m n p h =
    let k : ShallowIn p.0 p.1 (ys ++ x ∷ rest) = subst (λ s. ShallowBehind s (λ v w. ShallowIn v w (ys ++ x ∷ rest))) p.2 h.1 in
    shallow_there ys rest x p.0 gs p.1 n p.3 k
