-- No more branches are listed than were asked for.
use Rattle.std.proofs.Common.{◌≡◌, ◌∙◌, ℕ, ◌≤◌, Bool, List, [], ◌∷◌, length, refl, ap, suc, arith}
use Rattle.std.proofs.lemmas.Slice.Zip.{AllZip-long}
use Rattle.states_core.specs.States.{Values}
use Rattle.names_terms.specs.declared.spec.Spec.{Spec}
use Rattle.logs_updates.specs.declared.line.Line.{Line}
use Rattle.steps_why_branches.specs.Traces.{Trace}
use Rattle.steps_why_branches.specs.declared.why.Why.{Why}
use Rattle.steps_why_walk.specs.Ends.{kept}
use Rattle.steps_why_not.specs.Lines.{EndsFor}
use Rattle.steps_why_not.specs.Whys.{AreWhys, are_ended, are_stuck}

kept_long : (xs : List Trace) → length (kept xs) ≡ length xs
kept_long [] = refl
kept_long (x ∷ xs) = ap suc (kept_long xs)

pub whys_few : (g : Spec) (line : Line) (s : Values) (most : ℕ) (ws : List Why) (more : Bool) → 1 ≤ most → AreWhys g line s most ws more → length ws ≤ most
whys_few g line s most _ _ some (are_stuck x stuck) = some
whys_few g line s most _ _ some (are_ended xs ws more have firsts reasons later) =
    let long : length ws ≡ length xs = AllZip-long (EndsFor line.sees) (kept xs) ws reasons ∙ kept_long xs in
    let few = firsts.few in
    omega arith
