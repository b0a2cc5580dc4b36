-- No text goes on through the token at which the reader stops or ends.
use Rattle.std.proofs.Common.{◌≡◌, List, [], ◌∷◌, ◌++◌, append_assoc, refl, sym, ap, subst, ◌∙◌}
use Rattle.reading_trees.specs.declared.laid.Laid.{Laid}
use Rattle.reading_trees.specs.Begun.{Begun}
use Rattle.reading_trees.specs.Grammar.{Text}
use Rattle.reading_trees.specs.Trees.{Tree}
use Rattle.reading_machine.specs.LawsOfRefusals.{StoppedThere, EndsThere}
use Rattle.reading_machine.specs.declared.frame.Frame.{Frame}
use Rattle.reading_machine.specs.declared.frame.Mode.{Mode}
use Rattle.reading_machine.specs.declared.frame.Mode.TheVariants as mode
use Rattle.reading_machine.specs.Machine.{Reads, StopsAt, EndsAt}
use Rattle.reading_machine.proofs.Flat as flat
use Rattle.reading_machine.proofs.FlatStates.{rows, expected, FramesKept, ModeKept, Same}
use Rattle.reading_machine.proofs.FlatSteps.{Goes, steps_same}
use Rattle.reading_machine.proofs.FlatGoes.{Reached}
use Rattle.reading_machine.proofs.FlatTrees.{good}
use Rattle.reading_machine.proofs.Paths.{Path, Reach, reach, reach_stops, reach_ends}

-- the flat reader goes the same way, and what is kept is kept
record FlatPath (read r : List Laid) (fs : List Frame) (m : Mode) (gs : List Frame) (n : Mode) : Type 0 where
  pub runs : flat.run (read ++ r) (rows fs) (expected m) ≡ flat.run r (rows gs) (expected n)
  pub frames : FramesKept gs
  pub mode : ModeKept n gs

flat_path : (read r : List Laid) (fs : List Frame) (m : Mode) (gs : List Frame) (n : Mode) → Path read fs m gs n → FramesKept fs → ModeKept m fs → FlatPath read r fs m gs n
flat_path [] r fs m gs n p k h =
    record {
      runs = ap (λ v. flat.run r (rows v) (expected m)) p.0 ∙ ap (λ v. flat.run r (rows gs) (expected v)) p.1;
      frames = subst FramesKept p.0 k;
      mode = subst (λ v. ModeKept v gs) p.1 (subst (λ v. ModeKept m v) p.0 h);
    }
flat_path (y ∷ read) r fs m gs n p k h =
    let s : Same (Goes y fs m) (Reads p.0 p.1) (flat.step y (rows fs) (expected m)) = subst (λ v. Same (Goes y fs m) v (flat.step y (rows fs) (expected m))) p.2 (steps_same y fs m k h) in
    let q = flat_path read r p.0 p.1 gs n p.3 s.1 s.2 in
    record { runs = ap (λ v. flat.after v (y ∷ read ++ r) (flat.run (read ++ r))) s.0 ∙ q.runs; frames = q.frames; mode = q.mode }

-- the flat reader goes through a whole text
text_through : (e : Tree) (xs : List Laid) → Text e xs [] → flat.run xs [] flat.Want ≡ flat.StopsAt []
text_through e xs h = let r : Reached (flat.run xs [] flat.Want) [] [] = (good e).goes [] tt xs [] h in r.runs

no_stop : (x : Laid) (r : List Laid) → flat.StopsAt (x ∷ r) ≡ flat.StopsAt [] → ⊥
no_stop x r q = cc

no_end : (x : Laid) (r : List Laid) → flat.EndsAt (x ∷ r) ≡ flat.StopsAt [] → ⊥
no_end x r q = cc

-- what is begun through x, from the token on
whole_text : (read : List Laid) (x : Laid) → (b : Begun (read ++ x ∷ [])) → flat.run (read ++ x ∷ b.rest) [] flat.Want ≡ flat.StopsAt []
whole_text read x b = text_through b.tree (read ++ x ∷ b.rest) (subst (λ v. Text b.tree v []) (append_assoc read (x ∷ []) b.rest) b.whole)

pub stopped_there : StoppedThere
stopped_there read rest x q b =
    let h : Reach read [] mode.Want x rest (StopsAt (x ∷ rest)) = reach read x rest [] mode.Want (StopsAt (x ∷ rest)) q refl in
    let p : FlatPath read (x ∷ b.rest) [] mode.Want h.frames h.expects = flat_path read (x ∷ b.rest) [] mode.Want h.frames h.expects h.path tt (tt, tt) in
    let s : flat.step x (rows h.frames) (expected h.expects) ≡ flat.Stops =
    subst (λ v. Same (Goes x h.frames h.expects) v (flat.step x (rows h.frames) (expected h.expects))) (reach_stops read [] mode.Want x rest (x ∷ rest) h) (steps_same x h.frames h.expects p.frames p.mode) in
    no_stop x b.rest (sym (p.runs ∙ ap (λ v. flat.after v (x ∷ b.rest) (flat.run b.rest)) s) ∙ whole_text read x b)

pub ends_there : EndsThere
ends_there read rest x e q b =
    let h : Reach read [] mode.Want x rest (EndsAt e (x ∷ rest)) = reach read x rest [] mode.Want (EndsAt e (x ∷ rest)) q refl in
    let p : FlatPath read (x ∷ b.rest) [] mode.Want h.frames h.expects = flat_path read (x ∷ b.rest) [] mode.Want h.frames h.expects h.path tt (tt, tt) in
    let s : flat.step x (rows h.frames) (expected h.expects) ≡ flat.Ends =
    subst (λ v. Same (Goes x h.frames h.expects) v (flat.step x (rows h.frames) (expected h.expects))) (reach_ends read [] mode.Want x rest (x ∷ rest) e h) (steps_same x h.frames h.expects p.frames p.mode) in
    no_end x b.rest (sym (p.runs ∙ ap (λ v. flat.after v (x ∷ b.rest) (flat.run b.rest)) s) ∙ whole_text read x b)
