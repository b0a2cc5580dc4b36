-- A value that stands in a term itself is the same in each context.
use Rattle.std.proofs.Common.{◌≡◌, sym, subst, ℕ, zero, suc}
use Rattle.std.specs.Prelude.{Result}
use Rattle.base_core.specs.declared.place.Place.{Place}
use Rattle.values_core.specs.Data.{Val}
use Rattle.names_terms.specs.declared.level.Level.{Level}
use Rattle.names_terms.specs.Terms.{Term, Placed, Known}
use Rattle.eval_meanings.specs.declared.fault.EvalFault.{EvalFault}
use Rattle.eval_meanings.specs.Answers.{Tells}
use Rattle.eval_meanings.specs.Contexts.{Context, Table}
use Rattle.eval_meanings.specs.Evaluates.{Evaluates}
use Rattle.eval_meanings.specs.Reads.{Reads}

read : (ops : Table) (d : ℕ) (c : Context) (at : Place) (l : Level) (v : Val) → Reads ops d c (Placed at l (Known v))
read ops zero c at l v = tt
read ops (suc d) c at l v = tt

pub known_reads : (ops : Table) (d : ℕ) (c : Context) (at : Place) (l : Level) (v : Val) (e : Term) → Placed at l (Known v) ≡ e → Reads ops d c e
known_reads ops d c at l v e q = subst (λ (x : Term). Reads ops d c x) q (read ops d c at l v)

told : (ops : Table) (d : ℕ) (c b : Context) (at : Place) (l : Level) (v : Val) (r : Result Val EvalFault) → Tells r (Evaluates ops d c (Placed at l (Known v))) → Tells r (Evaluates ops d b (Placed at l (Known v)))
told ops zero c b at l v r h = h
told ops (suc d) c b at l v r h = h

pub known_told : (ops : Table) (d : ℕ) (c b : Context) (at : Place) (l : Level) (v : Val) (e : Term) (r : Result Val EvalFault) → Placed at l (Known v) ≡ e → Tells r (Evaluates ops d c e) → Tells r (Evaluates ops d b e)
known_told ops d c b at l v e r q h =
    subst (λ (x : Term). Tells r (Evaluates ops d b x)) q (told ops d c b at l v r (subst (λ (x : Term). Tells r (Evaluates ops d c x)) (sym q) h))
