-- Alike terms evaluate to the same and describe the same, each over its table.
use Rattle.std.specs.Prelude.{ℕ, zero, suc}
use Rattle.names_terms.specs.Terms.{Term}
use Rattle.twice_terms.specs.Alike.{placed_alike}
use Rattle.eval_meanings.specs.Contexts.{Context, Table}
use Rattle.eval_meanings.specs.Evaluates.{Evaluates, Describes}
use Rattle.eval_laws.proofs.Keeping.{Keeps}
use Rattle.twice_outcomes.specs.Alikes.{AreOrdered, AreAlikeTerms}
use Rattle.twice_outcomes.specs.Outcomes.{EvaluatesAlike, DescribesAlike}
use Rattle.twice_outcomes.proofs.Behind.{behind_alike}
use Rattle.twice_outcomes.proofs.Rows.{meaning_same, description_same}

module _ (ops all : Table) (here : AreOrdered ops) (there : AreOrdered all) where
  mutual
    evaluates_same : (d : ℕ) (c : Context) (e f : Term) → AreAlikeTerms ops all e f → Keeps (Evaluates ops d c e) (Evaluates all d c f)
    evaluates_same zero c _ _ (placed_alike at l m n a) r k = k
    evaluates_same (suc d) c _ _ (placed_alike at l m n a) r k =
        meaning_same ops all (behind_alike ops all here there) (Evaluates ops d) (Evaluates all d) (Describes ops d) (Describes all d) (evaluates_same d) (describes_same d) c at m n a r k

    describes_same : (d : ℕ) (c : Context) (e f : Term) → AreAlikeTerms ops all e f → Keeps (Describes ops d c e) (Describes all d c f)
    describes_same zero c _ _ (placed_alike at l m n a) r k = k
    describes_same (suc d) c _ _ (placed_alike at l m n a) r k =
        description_same ops all (behind_alike ops all here there) (Evaluates ops d) (Evaluates all d) (Describes ops d) (Describes all d) (evaluates_same d) (describes_same d) c at m n a r k

pub evaluates_alike : EvaluatesAlike
evaluates_alike ops all here there e f a d c r k = evaluates_same ops all here there d c e f a r k

pub describes_alike : DescribesAlike
describes_alike ops all here there e f a d c r k = describes_same ops all here there d c e f a r k
