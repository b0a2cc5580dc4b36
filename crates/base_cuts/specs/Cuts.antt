-- How far several logs are taken.
use Rattle.std.specs.Prelude.{◌+◌, ◌<◌, ℕ, zero, suc, List, [], ◌∷◌, get_or, map}
use Rattle.base_clock_order.specs.Orders.{line}
use Rattle.base_clock_order.specs.declared.order.LineRef.{LineRef}

-- how many lines of each log are taken
abbrev pub Cut : Type 0
Cut = List ℕ

-- how many lines of the log f are taken: none past the last log
abbrev pub taken : Cut → ℕ → ℕ
taken c f = get_or c f 0

-- how many lines of all logs together
abbrev pub total : Cut → ℕ
total [] = 0
total (n ∷ ns) = n + total ns

-- one more line of the log f
abbrev pub with_one : Cut → ℕ → Cut
with_one [] f = []
with_one (n ∷ ns) zero = suc n ∷ ns
with_one (n ∷ ns) (suc f) = n ∷ with_one ns f

-- nothing is taken of as many logs
abbrev pub nothing : Cut → Cut
nothing c = map (λ n. 0) c

-- the next line of the log f
abbrev pub next : Cut → ℕ → LineRef
next c f = line f (taken c f)

-- the cut behind these lines, taken one after the other
abbrev pub after : Cut → List LineRef → Cut
after c [] = c
after c (l ∷ ls) = after (with_one c l.file) ls

-- Logs of so many lines have this line. The numbers of lines that logs have are a cut themselves: that of all lines.
abbrev pub IsLineOf : Cut → LineRef → Type 0
IsLineOf sizes l = l.index < taken sizes l.file
