-- Levels and shapes are decided.
use Rattle.std.proofs.Common.{inl, inr}
use Rattle.names_term_levels.specs.Faults.{IsFault}
use Rattle.names_outcome_laws.specs.Levels.{FaultsHaveFirst, ShapesAreDecided, SlotsAreDecided}
use Rattle.names_outcome_laws.proofs.Shapes.{fair_or_not, shape_or_none}
use Rattle.names_outcome_laws.proofs.Slots.{occurs_or_not, primed_or_not}
use Rattle.names_outcome_laws.proofs.TermFaults.{among, candidates, fault_or_not, first_or_nothing}

pub slots_are_decided : SlotsAreDecided
slots_are_decided ops e i = (occurs_or_not ops e i, primed_or_not ops e i)

pub faults_have_first : FaultsHaveFirst
faults_have_first ops e = first_or_nothing (IsFault ops e) (fault_or_not ops e) (candidates ops e) (among ops e)

pub shapes_are_decided : ShapesAreDecided
shapes_are_decided ops e = (fair_or_not ops e, elim (shape_or_none ops e) [ inl none ↦ inl (λ init next h. none (init, next) h) | inr r ↦ inr (r.0.0, r.0.1, r.1) ])
