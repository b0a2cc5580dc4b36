-- Reading a file line by line.
use Rattle.std.proofs.Common.{◌≡◌, ◌≤◌, ◌<◌, ◌+◌, ℕ, List, [], ◌∷◌, ◌++◌, length, Option, Some, None, MatchOption, Result, Ok, Err, Bor, arith, refl, sym, subst}
use Rattle.logs_lines.specs.Setting.{Setting}
use Rattle.logs_updates.specs.declared.line.Line.{Line}
use Rattle.logs_updates.specs.declared.update.See.{See}
use Rattle.logs_lines.specs.Lines.{LineSays}
use Rattle.logs_lines.specs.Files.{FileSays, LinesSay, behind_init, behind_step, pieces_of}
use Rattle.logs_lines.specs.Walks.{IsCounted, WalksOn}
use Rattle.logs_lines.specs.declared.clocks.ClockForm.{ClockForm}
use Rattle.logs_lines.specs.declared.position.Position.{Position}
use Rattle.logs_lines.specs.declared.kind.Outcome.TheVariants.{Init, Step}
use Rattle.logs_lines.specs.declared.file.FileLines.{FileLines}
use Rattle.logs_lines.specs.declared.file.Refusal.{Refusal}
use Rattle.logs_lines.specs.declared.file.Walk.{Walk}

-- what the rest says behind the walk, the file says
pub record IsWalked (g : Setting) (from : Position) (all : List ℕ) (walk : Walk) (rest : List ℕ) : Type 0 where
  pub said : (r : Result FileLines Refusal) → LinesSay g walk.at walk.found (pieces_of rest) r → FileSays g from all r
  pub room : walk.at.line + length rest ≤ 4294967294
  pub steps : walk.at.steps < walk.at.line

pub walked_on : (g : Setting) (from : Position) (all : List ℕ) (walk next : Walk) (rest piece more : List ℕ) → IsWalked g from all walk rest
    → pieces_of rest ≡ piece ∷ pieces_of more → length more < length rest → WalksOn g walk piece (Ok next) → IsCounted walk next → IsWalked g from all next more
walked_on g from all walk next rest piece more w e l on n = record {
  said = λ r h. w.said r (subst (λ (ps : List (List ℕ)). LinesSay g walk.at walk.found ps r) (sym e) (on (pieces_of more) r h));
  room = let room : walk.at.line + length rest ≤ 4294967294 = w.room in omega (arith, n.0, l, room);
  steps = let steps : walk.at.steps < walk.at.line = w.steps in omega (arith, n.0, n.1, steps);
}

pub ended : (g : Setting) (from : Position) (all : List ℕ) (walk next : Walk) (rest piece : List ℕ) → IsWalked g from all walk rest
    → pieces_of rest ≡ piece ∷ [] → WalksOn g walk piece (Ok next) → FileSays g from all (Ok next.found)
ended g from all walk next rest piece w e on =
    w.said (Ok next.found) (subst (λ (ps : List (List ℕ)). LinesSay g walk.at walk.found ps (Ok next.found)) (sym e) (on [] (Ok next.found) refl))

pub stopped : (g : Setting) (from : Position) (all : List ℕ) (walk : Walk) (rest piece : List ℕ) (o : Option (Bor (List ℕ))) (refusal : Refusal) → IsWalked g from all walk rest
    → MatchOption o (pieces_of rest ≡ piece ∷ []) (λ r. (pieces_of rest ≡ piece ∷ pieces_of r.now) × (length r.now < length rest)) → WalksOn g walk piece (Err refusal)
    → FileSays g from all (Err refusal)
stopped g from all walk rest piece None refusal w e on =
    w.said (Err refusal) (subst (λ (ps : List (List ℕ)). LinesSay g walk.at walk.found ps (Err refusal)) (sym e) (on []))
stopped g from all walk rest piece (Some r) refusal w e on =
    w.said (Err refusal) (subst (λ (ps : List (List ℕ)). LinesSay g walk.at walk.found ps (Err refusal)) (sym e.0) (on (pieces_of r.now)))

-- one more step
pub step_taken : (g : Setting) (walk next : Walk) (piece : List ℕ) (line : Line) (form : ClockForm) → LineSays g walk.at piece (Step line form) → next.at ≡ behind_step walk.at form line.clock
    → next.found ≡ record { init = walk.found.init; steps = walk.found.steps ++ line ∷ []; form = form } → WalksOn g walk piece (Ok next)
step_taken g walk next piece line form says at found = λ rest r h. (
  Step line form,
  says,
  subst (λ (x : Position). LinesSay g x (record { init = walk.found.init; steps = walk.found.steps ++ line ∷ []; form = form }) rest r) at
      (subst (λ (x : FileLines). LinesSay g next.at x rest r) found h),
)

-- what holds at first
pub init_taken : (g : Setting) (walk next : Walk) (piece : List ℕ) (sees : List See) → LineSays g walk.at piece (Init sees) → next.at ≡ behind_init walk.at
    → next.found ≡ record { init = Some sees; steps = walk.found.steps; form = walk.found.form } → WalksOn g walk piece (Ok next)
init_taken g walk next piece sees says at found = λ rest r h. (
  Init sees,
  says,
  subst (λ (x : Position). LinesSay g x (record { init = Some sees; steps = walk.found.steps; form = walk.found.form }) rest r) at
      (subst (λ (x : FileLines). LinesSay g next.at x rest r) found h),
)
