-- The items of a list of a term, in their order.
use Rattle.std.specs.Prelude.{ℕ, List, [], ◌∷◌, ◌++◌}
use Rattle.base_core.specs.declared.place.Place.{Place}
use Rattle.names_terms.specs.Terms.{Term, Terms, NoTerms, MoreTerms, Operands, First, Next, Step, Steps, NoSteps, MoreSteps, Bounds, NoBounds, MoreBounds, Fields, NoFields, MoreFields, Changes, NoChanges, MoreChanges, Arms, NoArms, MoreArms}

abbrev pub terms_list : Terms → List (Term)
terms_list NoTerms = []
terms_list (MoreTerms xs t) = terms_list xs ++ t ∷ []

abbrev pub steps_list : Steps → List (Place × Step)
steps_list NoSteps = []
steps_list (MoreSteps xs at s) = steps_list xs ++ (at, s) ∷ []

abbrev pub bounds_list : Bounds → List (ℕ × Term)
bounds_list NoBounds = []
bounds_list (MoreBounds xs n t) = bounds_list xs ++ (n, t) ∷ []

abbrev pub fields_list : Fields → List (List ℕ × Term)
fields_list NoFields = []
fields_list (MoreFields xs n t) = fields_list xs ++ (n, t) ∷ []

abbrev pub changes_list : Changes → List (Steps × Term)
changes_list NoChanges = []
changes_list (MoreChanges xs p t) = changes_list xs ++ (p, t) ∷ []

abbrev pub arms_list : Arms → List (Term × Term)
arms_list NoArms = []
arms_list (MoreArms xs p t) = arms_list xs ++ (p, t) ∷ []

-- the operands of a chain but its last
abbrev pub operands_list : Operands → List Term
operands_list (First t) = t ∷ []
operands_list (Next xs at t) = operands_list xs ++ t ∷ []
