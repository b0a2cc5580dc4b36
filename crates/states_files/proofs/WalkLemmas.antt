-- Reading a file line by line.
use Rattle.std.proofs.Common.{◌≡◌, ◌≤◌, ◌<◌, ◌+◌, ℕ, List, [], ◌∷◌, ◌++◌, length, Option, Some, None, MatchOption, Result, Ok, Err, Bor, arith, refl, sym, subst}
use Rattle.states_core.specs.declared.state.Shown.{Shown}
use Rattle.states_files.specs.Files.{StateFileSays, StateLinesSay, pieces_of}
use Rattle.states_files.specs.Lines.{StateLineSays}
use Rattle.states_files.specs.Walks.{WalksOn}
use Rattle.states_files.specs.declared.kind.StateKind.{StateKind}
use Rattle.states_files.specs.declared.kind.StateLine.TheVariants.{Skipped, State, Refused}
use Rattle.states_files.specs.declared.refusal.StateRefusal.{StateRefusal}

-- what the rest says behind the states that were found, the file says
pub record IsWalked (names : List (List ℕ)) (all : List ℕ) (number : ℕ) (found : List Shown) (rest : List ℕ) : Type 0 where
  pub said : (r : Result (List Shown) StateRefusal) → StateLinesSay names number found (pieces_of rest) r → StateFileSays names all r
  pub room : number + length rest ≤ 4294967295

pub walked_on : (names : List (List ℕ)) (all : List ℕ) (number : ℕ) (found next : List Shown) (rest piece more : List ℕ) → IsWalked names all number found rest
    → pieces_of rest ≡ piece ∷ pieces_of more → length more < length rest → WalksOn names number found piece (Ok next) → IsWalked names all (number + 1) next more
walked_on names all number found next rest piece more w e l on = record {
  said = λ r h. w.said r (subst (λ (ps : List (List ℕ)). StateLinesSay names number found ps r) (sym e) (on (pieces_of more) r h));
  room = let room : number + length rest ≤ 4294967295 = w.room in omega (arith, l, room);
}

pub ended : (names : List (List ℕ)) (all : List ℕ) (number : ℕ) (found next : List Shown) (rest piece : List ℕ) → IsWalked names all number found rest
    → pieces_of rest ≡ piece ∷ [] → WalksOn names number found piece (Ok next) → StateFileSays names all (Ok next)
ended names all number found next rest piece w e on =
    w.said (Ok next) (subst (λ (ps : List (List ℕ)). StateLinesSay names number found ps (Ok next)) (sym e) (on [] (Ok next) refl))

pub stopped : (names : List (List ℕ)) (all : List ℕ) (number : ℕ) (found : List Shown) (rest piece : List ℕ) (o : Option (Bor (List ℕ))) (refusal : StateRefusal) → IsWalked names all number found rest
    → MatchOption o (pieces_of rest ≡ piece ∷ []) (λ r. (pieces_of rest ≡ piece ∷ pieces_of r.now) × (length r.now < length rest)) → WalksOn names number found piece (Err refusal)
    → StateFileSays names all (Err refusal)
stopped names all number found rest piece None refusal w e on =
    w.said (Err refusal) (subst (λ (ps : List (List ℕ)). StateLinesSay names number found ps (Err refusal)) (sym e) (on []))
stopped names all number found rest piece (Some r) refusal w e on =
    w.said (Err refusal) (subst (λ (ps : List (List ℕ)). StateLinesSay names number found ps (Err refusal)) (sym e.0) (on (pieces_of r.now)))

-- the line tells of one more state
pub state_taken : (names : List (List ℕ)) (number : ℕ) (found next : List Shown) (piece : List ℕ) (shown : Shown) → StateLineSays names piece (State shown) → next ≡ found ++ shown ∷ []
    → WalksOn names number found piece (Ok next)
state_taken names number found next piece shown says e = λ rest r h. (State shown, says, subst (λ (x : List Shown). StateLinesSay names (number + 1) x rest r) e h)

pub line_skipped : (names : List (List ℕ)) (number : ℕ) (found : List Shown) (piece : List ℕ) → StateLineSays names piece Skipped → WalksOn names number found piece (Ok found)
line_skipped names number found piece says = λ rest r h. (Skipped, says, h)

pub line_refused : (names : List (List ℕ)) (number : ℕ) (found : List Shown) (piece : List ℕ) (why : StateKind) → StateLineSays names piece (Refused why)
    → WalksOn names number found piece (Err (record { kind = why; line = number }))
line_refused names number found piece why says = λ rest. (Refused why, says, refl)
