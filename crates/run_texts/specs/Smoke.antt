-- The report of the smoke test: its numbers, and the first and the last line of the states.
use Rattle.std.specs.Prelude.{ℕ, List, [], ◌∷◌, ◌++◌, codes, decimal}
use Rattle.states_core.specs.declared.state.Shown.{Shown}
use Rattle.run_texts.specs.States.{states_text}

-- the last of states, the first of which is this one
abbrev pub last_behind : Shown → List Shown → Shown
last_behind x [] = x
last_behind x (y ∷ w) = last_behind y w

-- the lines of the first and of the last state
abbrev pub ends_text : List (List ℕ) → List Shown → List ℕ
ends_text names [] = []
ends_text names (x ∷ w) = states_text names (x ∷ last_behind x w ∷ [])

-- so many lines are explained, with so many states in the widest layer, and the states are valid
abbrev pub smoke_text : ℕ → ℕ → List (List ℕ) → List Shown → List ℕ
smoke_text lines widest names w = codes "SELFRUN " ++ decimal lines ++ codes " widest=" ++ decimal widest ++ codes " check=valid\n" ++ ends_text names w
