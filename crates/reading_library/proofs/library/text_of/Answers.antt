use Rattle.std.proofs.Common.{None, codes, refl}
use Rattle.reading_library.specs.Texts.{library, bags, bags_ext, bags_theorems, finite_set_theorems, finite_sets_ext, finite_sets_ext_theorems, folds, function_theorems, functions, jections, naturals_induction, sequence_theorems, sequences_ext, sequences_ext_theorems, tlaps, well_founded_induction}
use Rattle.reading_library.proofs.Missing.{missing}
use Rattle.reading_library.proofs.library.text_of.Goals as goal

pub returns-in_default : goal.returns-in_default
unfolding library
returns-in_default c =
    let name = c.args.name.now in
    missing (codes "Bags") name bags _ c.in_default.not-Bags
    (missing (codes "BagsExt") name bags_ext _ c.in_default.not-BagsExt
    (missing (codes "BagsTheorems") name bags_theorems _ c.in_default.not-BagsTheorems
    (missing (codes "FiniteSetTheorems") name finite_set_theorems _ c.in_default.not-FiniteSetTheorems
    (missing (codes "FiniteSetsExt") name finite_sets_ext _ c.in_default.not-FiniteSetsExt
    (missing (codes "FiniteSetsExtTheorems") name finite_sets_ext_theorems _ c.in_default.not-FiniteSetsExtTheorems
    (missing (codes "Folds") name folds _ c.in_default.not-Folds
    (missing (codes "FunctionTheorems") name function_theorems _ c.in_default.not-FunctionTheorems
    (missing (codes "Functions") name functions _ c.in_default.not-Functions
    (missing (codes "Jections") name jections _ c.in_default.not-Jections
    (missing (codes "NaturalsInduction") name naturals_induction _ c.in_default.not-NaturalsInduction
    (missing (codes "SequenceTheorems") name sequence_theorems _ c.in_default.not-SequenceTheorems
    (missing (codes "SequencesExt") name sequences_ext _ c.in_default.not-SequencesExt
    (missing (codes "SequencesExtTheorems") name sequences_ext_theorems _ c.in_default.not-SequencesExtTheorems
    (missing (codes "TLAPS") name tlaps _ c.in_default.not-TLAPS
    (missing (codes "WellFoundedInduction") name well_founded_induction None c.in_default.not-WellFoundedInduction refl)))))))))))))))
