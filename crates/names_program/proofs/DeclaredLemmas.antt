-- What one more unit declares, defines and assumes.
use Rattle.std.proofs.Common.{◌≡◌, ◌∙◌, sym, ap, refl, List, [], ◌∷◌, ◌++◌, append_assoc}
use Rattle.reading_trees.specs.Trees.{Tree}
use Rattle.reading_trees.specs.declared.expr.Definition.{Definition}
use Rattle.reading_trees.specs.declared.module.Declared.{Declared}
use Rattle.reading_trees.specs.declared.module.Unit.{Unit as ModuleUnit}
use Rattle.reading_trees.specs.declared.module.Unit.TheVariants.{Variables, Constants, Recursive, Define, Instance, Assume, Passed}
use Rattle.names_program.specs.InUnits.{variables_in, constants_in, definitions_in, assumptions_in}

pub variables_behind : (us vs : List ModuleUnit) → variables_in (us ++ vs) ≡ variables_in us ++ variables_in vs
variables_behind [] vs = refl
variables_behind (Variables ds ∷ us) vs = ap (λ (xs : List Declared). ds ++ xs) (variables_behind us vs) ∙ sym (append_assoc ds (variables_in us) (variables_in vs))
variables_behind (Constants ds ∷ us) vs = variables_behind us vs
variables_behind (Define d ∷ us) vs = variables_behind us vs
variables_behind (Assume e ∷ us) vs = variables_behind us vs
variables_behind (Recursive rs ∷ us) vs = variables_behind us vs
variables_behind (Instance m ∷ us) vs = variables_behind us vs
variables_behind (Passed ∷ us) vs = variables_behind us vs

pub constants_behind : (us vs : List ModuleUnit) → constants_in (us ++ vs) ≡ constants_in us ++ constants_in vs
constants_behind [] vs = refl
constants_behind (Variables ds ∷ us) vs = constants_behind us vs
constants_behind (Constants ds ∷ us) vs = ap (λ (xs : List Declared). ds ++ xs) (constants_behind us vs) ∙ sym (append_assoc ds (constants_in us) (constants_in vs))
constants_behind (Define d ∷ us) vs = constants_behind us vs
constants_behind (Assume e ∷ us) vs = constants_behind us vs
constants_behind (Recursive rs ∷ us) vs = constants_behind us vs
constants_behind (Instance m ∷ us) vs = constants_behind us vs
constants_behind (Passed ∷ us) vs = constants_behind us vs

pub definitions_behind : (us vs : List ModuleUnit) → definitions_in (us ++ vs) ≡ definitions_in us ++ definitions_in vs
definitions_behind [] vs = refl
definitions_behind (Variables ds ∷ us) vs = definitions_behind us vs
definitions_behind (Constants ds ∷ us) vs = definitions_behind us vs
definitions_behind (Define d ∷ us) vs = ap (λ (xs : List Definition). d ∷ xs) (definitions_behind us vs)
definitions_behind (Assume e ∷ us) vs = definitions_behind us vs
definitions_behind (Recursive rs ∷ us) vs = definitions_behind us vs
definitions_behind (Instance m ∷ us) vs = definitions_behind us vs
definitions_behind (Passed ∷ us) vs = definitions_behind us vs

pub assumptions_behind : (us vs : List ModuleUnit) → assumptions_in (us ++ vs) ≡ assumptions_in us ++ assumptions_in vs
assumptions_behind [] vs = refl
assumptions_behind (Variables ds ∷ us) vs = assumptions_behind us vs
assumptions_behind (Constants ds ∷ us) vs = assumptions_behind us vs
assumptions_behind (Define d ∷ us) vs = assumptions_behind us vs
assumptions_behind (Assume e ∷ us) vs = ap (λ (xs : List Tree). e ∷ xs) (assumptions_behind us vs)
assumptions_behind (Recursive rs ∷ us) vs = assumptions_behind us vs
assumptions_behind (Instance m ∷ us) vs = assumptions_behind us vs
assumptions_behind (Passed ∷ us) vs = assumptions_behind us vs
