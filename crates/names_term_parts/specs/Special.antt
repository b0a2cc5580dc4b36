-- The terms that are read in a way of their own: slots, uses of definitions, and LETs.
use Rattle.std.specs.Prelude.{◌≡◌, ◌<◌, ℕ, Contains}
use Rattle.names_terms.specs.Terms as term
use Rattle.names_terms.specs.Terms.{Term, Meaning}
use Rattle.names_term_parts.specs.declared.special.Special.{Special}
use Rattle.names_term_parts.specs.declared.special.Special.TheVariants as special

abbrev pub IsOther : Meaning → Type 0
IsOther (term.Slot i) = ⊥
IsOther (term.Use k ts) = ⊥
IsOther (term.Scoped ks e) = ⊥
IsOther m = Unit {0}

abbrev pub IsSpecial : Meaning → Special → Type 0
IsSpecial m (special.Slot i) = m ≡ term.Slot i
IsSpecial m (special.Use k ts) = m ≡ term.Use k ts.now
IsSpecial m (special.Let ks) = (e : Term) × (m ≡ term.Scoped ks.now e)
IsSpecial m special.Other = IsOther m

-- a term's own uses of definitions are below a number
abbrev pub IsOwnBelow : ℕ → Meaning → Type 0
IsOwnBelow n (term.Use k ts) = k < n
IsOwnBelow n (term.Scoped ks e) = (k : ℕ) → Contains ks k → k < n
IsOwnBelow n m = Unit {0}
