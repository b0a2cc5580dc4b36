-- Alike terms evaluate to the same and describe the same, each over its table and in the state as it is seen there.
use Rattle.std.specs.Prelude.{ℕ, zero, suc}
use Rattle.names_terms.specs.Terms.{Term}
use Rattle.names_term_parts.specs.Slots.{UsesSmaller}
use Rattle.twice_terms.specs.Alike.{placed_alike}
use Rattle.eval_meanings.specs.Contexts.{Context, Places, Table}
use Rattle.eval_meanings.specs.Evaluates.{Evaluates, Describes}
use Rattle.eval_laws.proofs.Keeping.{Keeps}
use Rattle.twice_instances.specs.Alikeness.{Like}
use Rattle.twice_instances.specs.Seen.{seen_in}
use Rattle.twice_instances.proofs.Behind.{behind_alike}
use Rattle.twice_instances.proofs.Rows.{meaning_same, description_same}
use Rattle.twice_instances.proofs.Sight.{AreSeen}

module _ (Stands : ℕ → ℕ → Type 0) (see look : Places → Places) (seen : AreSeen Stands see look) (ops all : Table) (here : UsesSmaller ops) (there : UsesSmaller all) where
  mutual
    pub evaluates_same : (d : ℕ) (c : Context) (e f : Term) → Like Stands ops all e f → Keeps (Evaluates ops d (seen_in see c) e) (Evaluates all d (seen_in look c) f)
    evaluates_same zero c _ _ (placed_alike at l m n a) r k = k
    evaluates_same (suc d) c _ _ (placed_alike at l m n a) r k =
        meaning_same Stands see look seen ops all (behind_alike Stands ops all here there) (Evaluates ops d) (Evaluates all d) (Describes ops d) (Describes all d) (evaluates_same d) (describes_same d) c at m n a r k

    pub describes_same : (d : ℕ) (c : Context) (e f : Term) → Like Stands ops all e f → Keeps (Describes ops d (seen_in see c) e) (Describes all d (seen_in look c) f)
    describes_same zero c _ _ (placed_alike at l m n a) r k = k
    describes_same (suc d) c _ _ (placed_alike at l m n a) r k =
        description_same Stands see look seen ops all (behind_alike Stands ops all here there) (Evaluates ops d) (Evaluates all d) (Describes ops d) (Describes all d) (evaluates_same d) (describes_same d) c at m n a r k
