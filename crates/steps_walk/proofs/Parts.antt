-- Terms in a sense as actions in their contexts.
use Rattle.std.proofs.Common.{◌≡◌, refl, ap, List, [], ◌∷◌, map}
use Rattle.names_terms.specs.Terms.{Term}
use Rattle.eval_meanings.specs.Contexts.{Context}
use Rattle.steps_found_states.specs.Parts.{Parts}
use Rattle.steps_walk.specs.Walking.{in_sense, parts_of}
use Rattle.steps_walk.specs.declared.sense.Sense.{Sense}

pub parts_are : (c : Context) (s : Sense) (es : List Term) → parts_of c s es ≡ map (λ e. (c, e)) (map (in_sense s) es)
parts_are c s [] = refl
parts_are c s (e ∷ es) = ap (λ (us : Parts). (c, in_sense s e) ∷ us) (parts_are c s es)
