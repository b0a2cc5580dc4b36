-- What is seen, one after the other.
use Rattle.std.proofs.Common.{◌≡◌, sym, ℕ, ◌+◌, List, [], ◌∷◌, ◌++◌, take, drop}
use Rattle.std.specs.Prelude.{All}
use Rattle.eval_meanings.specs.Contexts.{Places}
use Rattle.logs_updates.specs.declared.update.See.{See}
use Rattle.steps_walk.proofs.Loops.{Apart}
use Rattle.steps_why_branches.specs.declared.why.Ended.{Ended}
use Rattle.steps_why_branches.specs.declared.why.Why.{Why}
use Rattle.steps_why_not.specs.Lines.{EndsFor, IsUnseen, StandsIn}
use Rattle.steps_why_not.specs.Whys.{AreReasons}

pub first_unseen : (sees : List See) (q : Places) (i : ℕ) (see : See) (x : ℕ) → Apart sees i see → All (StandsIn q) (take i sees) → x ≡ see.path.variable.0 → ¬ StandsIn q see → IsUnseen sees q x
first_unseen sees q i see x c h e n = record {
  before = take i sees;
  see = see;
  behind = drop (i + 1) sees;
  all = sym c.whole;
  is = sym e;
  earlier = h;
  lacks = n;
}

-- one reason more
pub reasons_more : (sees : List See) (ns : List Ended) (ws : List Why) (n : Ended) (w : Why) → AreReasons sees ns ws → EndsFor sees n w → AreReasons sees (ns ++ n ∷ []) (ws ++ w ∷ [])
reasons_more sees [] [] n w h k = (k, tt)
reasons_more sees [] (v ∷ ws) n w h k = absurd h
reasons_more sees (m ∷ ns) [] n w h k = absurd h
reasons_more sees (m ∷ ns) (v ∷ ws) n w h k = (h.0, reasons_more sees ns ws n w h.1 k)
