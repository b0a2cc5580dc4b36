-- For the prover: the texts that JSON writes as they are.
use Rattle.std.specs.Prelude.{◌≡◌, ◌≤◌, ℕ, List, All}

-- no control character, no quote and no backslash
abbrev pub IsPlain : List ℕ → Type 0
IsPlain text = All (λ b. (32 ≤ b) × (¬ (b ≡ 34)) × (¬ (b ≡ 92))) text
