-- A term that can be read has an outcome, and a description.
use Rattle.std.specs.Prelude.{ℕ, zero, suc}
use Rattle.values_core.specs.IsValue.{IsValue}
use Rattle.values_core.specs.declared.fault.EvalKind.TheVariants.{Nested}
use Rattle.names_terms.specs.Terms.{Term, Placed, place_of}
use Rattle.eval_meanings.specs.Contexts.{Context, Table}
use Rattle.eval_meanings.specs.Evaluates.{Evaluates, Describes}
use Rattle.eval_meanings.specs.Reads.{Reads}
use Rattle.eval_laws.proofs.FineContexts.{HoldsValues}
use Rattle.eval_some_outcome_laws.specs.Laws.{HasSomeDescription, HasSomeOutcome}
use Rattle.eval_some_outcome_laws.specs.OfValues.{IsOfValues}
use Rattle.eval_some_outcome_laws.proofs.Some.{IsSome, some_fails}
use Rattle.eval_some_outcome_laws.proofs.Pieces.{IsGood}
use Rattle.eval_some_outcome_laws.proofs.Rows.{some_description, some_meaning}
use Rattle.eval_some_outcome_laws.proofs.Written.{AreBodiesWritten, IsWritten, is_written}

module _ (ops : Table) (bodies : AreBodiesWritten ops) where
  mutual
    some_evaluates : (d : ℕ) (c : Context) → HoldsValues c → (e : Term) → IsWritten e → Reads ops d c e → IsSome IsValue (Evaluates ops d c e)
    some_evaluates zero c h e k r = some_fails IsValue Nested (place_of e)
    some_evaluates (suc d) c h (Placed at l m) k r = some_meaning ops bodies (Reads ops d) (Evaluates ops d) (Describes ops d) (some_evaluates d) (some_describes d) c h at m k.0 k.1 r

    some_describes : (d : ℕ) (c : Context) → HoldsValues c → (e : Term) → IsWritten e → Reads ops d c e → IsSome IsGood (Describes ops d c e)
    some_describes zero c h e k r = some_fails IsGood Nested (place_of e)
    some_describes (suc d) c h (Placed at l m) k r = some_description ops bodies (Reads ops d) (Evaluates ops d) (Describes ops d) (some_evaluates d) (some_describes d) c h at m k.0 k.1 r

holds : (ops : Table) (c : Context) (e : Term) → IsOfValues ops c e → HoldsValues c
holds ops c e p = record { slots = p.reads.slots; now = p.reads.now; next = p.reads.next }

bodies : (ops : Table) (c : Context) (e : Term) → IsOfValues ops c e → AreBodiesWritten ops
bodies ops c e p k o h = is_written o.body (p.reads.definitions k o h) (p.definitions k o h)

pub has_some_outcome : HasSomeOutcome
has_some_outcome ops d c e p r = (some_evaluates ops (bodies ops c e p) d c (holds ops c e p) e (is_written e p.reads.known p.names) r).some

pub has_some_description : HasSomeDescription
has_some_description ops d c e p r = (some_describes ops (bodies ops c e p) d c (holds ops c e p) e (is_written e p.reads.known p.names) r).some
