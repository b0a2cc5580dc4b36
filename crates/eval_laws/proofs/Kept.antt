-- A term keeps its outcome, and what it describes, where more values are known.
use Rattle.std.specs.Prelude.{ℕ, zero, suc}
use Rattle.names_terms.specs.Terms.{Term, Placed}
use Rattle.eval_meanings.specs.Contexts.{Context, Table}
use Rattle.eval_meanings.specs.Evaluates.{Evaluates, Describes}
use Rattle.eval_meanings.specs.Laws.{KeepsOutcome}
use Rattle.eval_laws.specs.Laws.{KeepsDescription}
use Rattle.eval_laws.proofs.Keeping.{Keeps}
use Rattle.eval_laws.proofs.KeptContexts.{KnowsMore}
use Rattle.eval_laws.proofs.KeptRows.{meaning_more, description_more}

module _ (ops : Table) where
  mutual
    evaluates_more : (d : ℕ) (c b : Context) → KnowsMore c b → (e : Term) → Keeps (Evaluates ops d c e) (Evaluates ops d b e)
    evaluates_more zero c b h e r k = k
    evaluates_more (suc d) c b h (Placed at l m) r k = meaning_more (Evaluates ops d) (Describes ops d) (evaluates_more d) (describes_more d) ops c b h at m r k

    describes_more : (d : ℕ) (c b : Context) → KnowsMore c b → (e : Term) → Keeps (Describes ops d c e) (Describes ops d b e)
    describes_more zero c b h e r k = k
    describes_more (suc d) c b h (Placed at l m) r k = description_more (Evaluates ops d) (Describes ops d) (evaluates_more d) (describes_more d) ops c b h at m r k

pub keeps_outcome : KeepsOutcome
keeps_outcome ops d c b e s p q r k = evaluates_more ops d c b (record { slots = s; now = p; next = q }) e r k

pub keeps_description : KeepsDescription
keeps_description ops d c b e s p q r k = describes_more ops d c b (record { slots = s; now = p; next = q }) e r k
