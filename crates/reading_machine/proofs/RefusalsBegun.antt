-- What was read before the reader stops is the beginning of a text.
use Rattle.std.proofs.Common.{◌≡◌, List, [], ◌∷◌, ◌++◌, append_assoc, refl, sym, subst}
use Rattle.std.proofs.lemmas.List.{append_cancel_right}
use Rattle.reading_trees.specs.declared.laid.Laid.{Laid}
use Rattle.reading_trees.specs.Begun.{Begun}
use Rattle.reading_trees.specs.Fits.{Spells}
use Rattle.reading_trees.specs.Grammar.{Text}
use Rattle.reading_machine.specs.LawsOfRefusals.{StoppedBegun, ClashedBegun, EndsBegun}
use Rattle.reading_machine.specs.declared.frame.Frame.{Frame}
use Rattle.reading_machine.specs.declared.frame.Mode.{Mode}
use Rattle.reading_machine.specs.declared.frame.Mode.TheVariants as mode
use Rattle.reading_machine.specs.Machine.{StopsAt, ClashesAt}
use Rattle.reading_machine.proofs.Reading.{read_spells}
use Rattle.reading_machine.proofs.UniqueSpans.{Front, tree_local}
use Rattle.reading_machine.proofs.Flat as flat
use Rattle.reading_machine.proofs.FlatStates.{rows, expected, Same}
use Rattle.reading_machine.proofs.FlatSteps.{Goes, steps_same}
use Rattle.reading_machine.proofs.OpenEnds.{Ending}
use Rattle.reading_machine.proofs.Finishing.{State, next_state, Finish, finish}
use Rattle.reading_machine.proofs.Paths.{Path, Reach, reach, reach_clashes}

pub path_state : (read r xs : List Laid) (fs : List Frame) (m : Mode) (gs : List Frame) (n : Mode) → Path read fs m gs n → State xs fs m (read ++ r) → State xs gs n r
path_state [] r xs fs m gs n p s = subst (λ v. State xs gs v r) p.1 (subst (λ v. State xs v m r) p.0 s)
path_state (y ∷ read) r xs fs m gs n p s = path_state read r xs p.0 p.1 gs n p.3 (next_state xs (read ++ r) y fs m p.0 p.1 p.2 s)

-- the state before the first token
pub first_state : (xs : List Laid) → State xs [] mode.Want xs
first_state xs = (((xs, refl, refl), tt, tt), tt, (tt, tt))

pub begun : (read c : List Laid) → Ending (read ++ c) → Begun read
begun read c e = record { tree = e.tree; rest = c; whole = e.text }

pub stopped_begun : StoppedBegun
stopped_begun read rest x q =
    let h : Reach read [] mode.Want x rest (StopsAt (x ∷ rest)) = reach read x rest [] mode.Want (StopsAt (x ∷ rest)) q refl in
    let f : Finish h.frames h.expects = finish h.frames h.expects in
    begun read f.0 (f.1 (read ++ f.0) (path_state read f.0 (read ++ f.0) [] mode.Want h.frames h.expects h.path (first_state (read ++ f.0))))

pub clashed_begun : ClashedBegun
clashed_begun read rest x p q i =
    let h : Reach read [] mode.Want x rest (ClashesAt p q (x ∷ rest)) = reach read x rest [] mode.Want (ClashesAt p q (x ∷ rest)) i refl in
    let state : (r : List Laid) → State (read ++ r) h.frames h.expects r = λ r. path_state read r (read ++ r) [] mode.Want h.frames h.expects h.path (first_state (read ++ r)) in
    let kept = state [] in
    let g : Goes x h.frames h.expects =
    subst (λ v. Same (Goes x h.frames h.expects) v (flat.step x (rows h.frames) (expected h.expects))) (reach_clashes read [] mode.Want x rest (x ∷ rest) p q h) (steps_same x h.frames h.expects kept.1 kept.2) in
    let s = state (x ∷ g.0) in
    begun (read ++ x ∷ []) g.0 (subst Ending (sym (append_assoc read (x ∷ []) g.0)) (g.1 (read ++ x ∷ g.0) s.0 s.1 s.2))

pub ends_begun : EndsBegun
ends_begun read rest x e q =
    let s : Spells e (read ++ x ∷ rest) (x ∷ rest) = read_spells (read ++ x ∷ rest) (x ∷ rest) e q in
    let f : Front (Text e) (read ++ x ∷ rest) (x ∷ rest) = tree_local e (read ++ x ∷ rest) (x ∷ rest) s.text in
    let k : read ≡ f.front = append_cancel_right read f.front (x ∷ rest) f.here in
    record { tree = e; rest = []; whole = subst (λ v. Text e (v ++ []) []) (sym k) (f.anywhere []) }
