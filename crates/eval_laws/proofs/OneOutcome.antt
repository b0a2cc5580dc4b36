-- A term has at most one outcome, and one description, and what it has is a value.
use Rattle.std.specs.Prelude.{ℕ, zero, suc}
use Rattle.values_core.specs.IsValue.{IsValue}
use Rattle.values_core.specs.declared.fault.EvalKind.TheVariants.{Nested}
use Rattle.names_terms.specs.Terms.{Term, Placed, place_of}
use Rattle.eval_meanings.specs.Contexts.{Context, Table}
use Rattle.eval_meanings.specs.Evaluates.{Evaluates, Describes}
use Rattle.eval_meanings.specs.Laws.{KnowsValues, ReadsValues, HasOneOutcome, HasOneDescription, GivesOnlyValues}
use Rattle.eval_laws.proofs.Fine.{IsFine, fine_fails}
use Rattle.eval_laws.proofs.FineContexts.{HoldsValues, BodiesKnow}
use Rattle.eval_laws.proofs.FineRows.{IsDescription, fine_meaning, fine_description}

module _ (ops : Table) (bodies : BodiesKnow ops) where
  mutual
    fine_evaluates : (d : ℕ) (c : Context) → HoldsValues c → (e : Term) → KnowsValues e → IsFine IsValue (Evaluates ops d c e)
    fine_evaluates zero c h e k = fine_fails IsValue Nested (place_of e)
    fine_evaluates (suc d) c h (Placed at l m) k = fine_meaning ops bodies (Evaluates ops d) (Describes ops d) (fine_evaluates d) (fine_describes d) c h at m k.0 k.1

    fine_describes : (d : ℕ) (c : Context) → HoldsValues c → (e : Term) → KnowsValues e → IsFine IsDescription (Describes ops d c e)
    fine_describes zero c h e k = fine_fails IsDescription Nested (place_of e)
    fine_describes (suc d) c h (Placed at l m) k = fine_description ops bodies (Evaluates ops d) (Describes ops d) (fine_evaluates d) (fine_describes d) c h at m k.0 k.1

holds : (ops : Table) (c : Context) (e : Term) → ReadsValues ops c e → HoldsValues c
holds ops c e p = record { slots = p.slots; now = p.now; next = p.next }

pub has_one_outcome : HasOneOutcome
has_one_outcome ops d c e p = (fine_evaluates ops p.definitions d c (holds ops c e p) e p.known).one

pub has_one_description : HasOneDescription
has_one_description ops d c e p = (fine_describes ops p.definitions d c (holds ops c e p) e p.known).one

pub gives_only_values : GivesOnlyValues
gives_only_values ops d c e p = (fine_evaluates ops p.definitions d c (holds ops c e p) e p.known).good
