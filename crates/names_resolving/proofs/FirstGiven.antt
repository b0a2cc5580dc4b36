-- The first of several things that are wrong with what is given.
use Rattle.std.proofs.Common.{◌≡◌, ◌∙◌, sym, ap, refl, List, length, ◌<◌, ◌≤◌}
use Rattle.std.specs.Prelude.{ℕ, ◌+◌, true, false, drop, get_or, Option, Some, None}
use Rattle.std.specs.Option.{is_some}
use Rattle.reading_trees.specs.declared.config.GivenAt.{GivenAt}
use Rattle.reading_trees.specs.declared.module.Program.{Program}
use Rattle.names_terms.specs.declared.operator.Operator.{Operator}
use Rattle.names_program.specs.Names.{Numbers, first_of}
use Rattle.names_scopes.proofs.LevelLoops.{cut_at, cut_end}
use Rattle.names_resolving.specs.declared.fault.ResolveFault.{ResolveFault}
use Rattle.names_resolving.specs.Givens.{given_fault, first_given_fault}

first_is : (o rest : Option ResolveFault) → is_some o ≡ true → o ≡ first_of o rest
first_is (Some f) rest e = refl
first_is None rest e = absurd (cc)

rest_is : (o rest : Option ResolveFault) → is_some o ≡ false → rest ≡ first_of o rest
rest_is None rest e = refl
rest_is (Some f) rest e = absurd (cc)

module _ (p : Program) (number : Numbers) (ops : List Operator) (gs : List GivenAt) (i : ℕ) where
  abbrev first : List GivenAt → Option ResolveFault
  first l = first_given_fault p number ops l

  here : (g : GivenAt) (o : Option ResolveFault) → i < length gs → g ≡ get_or gs i g → first (drop i gs) ≡ first gs → o ≡ given_fault p number ops g → first_of o (first (drop (i + 1) gs)) ≡ first gs
  here g o lt at h e = ap (λ x. first_of x (first (drop (i + 1) gs))) e ∙ ap first (sym (cut_at gs i g lt at)) ∙ h

  pub found : (g : GivenAt) (o : Option ResolveFault) → i < length gs → g ≡ get_or gs i g → first (drop i gs) ≡ first gs → o ≡ given_fault p number ops g → is_some o ≡ true → o ≡ first gs
  found g o lt at h e s = first_is o (first (drop (i + 1) gs)) s ∙ here g o lt at h e

  pub passed : (g : GivenAt) (o : Option ResolveFault) → i < length gs → g ≡ get_or gs i g → first (drop i gs) ≡ first gs → o ≡ given_fault p number ops g → is_some o ≡ false → first (drop (i + 1) gs) ≡ first gs
  passed g o lt at h e s = rest_is o (first (drop (i + 1) gs)) s ∙ here g o lt at h e

  pub ended : length gs ≤ i → first (drop i gs) ≡ first gs → None ≡ first gs
  ended le h = ap first (sym (cut_end gs i le)) ∙ h
