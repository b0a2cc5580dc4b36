-- A context with a next state: what is known of it where more of the next state is known.
use Rattle.std.proofs.Common.{◌≡◌, refl, ℕ, List}
use Rattle.values_core.specs.Data.{Val}
use Rattle.values_core.specs.IsValue.{IsValue}
use Rattle.names_terms.specs.declared.operator.Operator.{Operator}
use Rattle.names_terms.specs.Terms.{Term, place_of}
use Rattle.eval_meanings.specs.Contexts.{Context, Places, Table, bind, enter, within}
use Rattle.eval_meanings.specs.Evaluates.{Evaluates, Describes}
use Rattle.eval_meanings.specs.Laws.{IsWithin, KnowsValues, ReadsValues}
use Rattle.eval_meanings.specs.Unchanged.{TruthOf}
use Rattle.eval_meanings.proofs.AtMostOne.{One}
use Rattle.eval_laws.proofs.Keeping.{Keeps, keeps_first}
use Rattle.eval_laws.proofs.KeptContexts.{KnowsMore}
use Rattle.eval_laws.proofs.Kept.{keeps_outcome, keeps_description}
use Rattle.eval_laws.proofs.Fine.{IsFine, fine_then, fine_truth_at}
use Rattle.eval_laws.proofs.Fine as fine
use Rattle.eval_laws.proofs.FineContexts.{HoldsValues, BodiesKnow}
use Rattle.eval_laws.proofs.OneOutcome.{has_one_outcome, has_one_description, gives_only_values}
use Rattle.actions_meanings.specs.declared.which.Which.{Which}
use Rattle.actions_meanings.specs.declared.which.Which.TheVariants as which
use Rattle.actions_meanings.specs.Filled.{at_next}
use Rattle.steps_found_states.proofs.Finding.{within_itself}

pub at_slots : (w : Which) (c : Context) (p : Places) → (at_next w c p).slots ≡ c.slots
at_slots which.Init c p = refl
at_slots which.Action c p = refl

pub at_more : (w : Which) (c : Context) (p q : Places) → IsWithin p q → KnowsMore (at_next w c p) (at_next w c q)
at_more which.Init c p q h = record { slots = refl; now = h; next = h }
at_more which.Action c p q h = record { slots = refl; now = within_itself c.now; next = h }

pub at_bind : (w : Which) (c : Context) (vs : List Val) (p : Places) → at_next w (bind c vs) p ≡ bind (at_next w c p) vs
at_bind which.Init c vs p = refl
at_bind which.Action c vs p = refl

pub at_within : (w : Which) (n : ℕ) (c : Context) (p : Places) → at_next w (within n c) p ≡ within n (at_next w c p)
at_within which.Init n c p = refl
at_within which.Action n c p = refl

pub at_enter : (w : Which) (o : Operator) (vs : List Val) (c : Context) (p : Places) → at_next w (enter o vs c) p ≡ enter o vs (at_next w c p)
at_enter which.Init o vs c p = refl
at_enter which.Action o vs c p = refl

-- outcomes are kept

pub term_keeps : (ops : Table) (d : ℕ) (c b : Context) → KnowsMore c b → (e : Term) → Keeps (Evaluates ops d c e) (Evaluates ops d b e)
term_keeps ops d c b h e r k = keeps_outcome ops d c b e h.slots h.now h.next r k

pub set_keeps : (ops : Table) (d : ℕ) (c b : Context) → KnowsMore c b → (e : Term) → Keeps (Describes ops d c e) (Describes ops d b e)
set_keeps ops d c b h e r k = keeps_description ops d c b e h.slots h.now h.next r k

pub truth_keeps : (ops : Table) (d : ℕ) (c b : Context) → KnowsMore c b → (e : Term) → Keeps (TruthOf (Evaluates ops d) c e) (TruthOf (Evaluates ops d) b e)
truth_keeps ops d c b h e = keeps_first (Evaluates ops d c e) (Evaluates ops d b e) _ (term_keeps ops d c b h e)

-- and there is one

pub holds_values : (ops : Table) (c : Context) (e : Term) → ReadsValues ops c e → HoldsValues c
holds_values ops c e h = record { slots = h.slots; now = h.now; next = h.next }

pub reads_values : (ops : Table) (c : Context) (e : Term) → BodiesKnow ops → HoldsValues c → KnowsValues e → ReadsValues ops c e
reads_values ops c e b h k = record { slots = h.slots; now = h.now; next = h.next; known = k; definitions = b }

pub term_fine : (ops : Table) (d : ℕ) (c : Context) (e : Term) → ReadsValues ops c e → IsFine IsValue (Evaluates ops d c e)
term_fine ops d c e h = record { one = has_one_outcome ops d c e h; good = gives_only_values ops d c e h }

pub set_one : (ops : Table) (d : ℕ) (c : Context) (e : Term) → ReadsValues ops c e → One (Describes ops d c e)
set_one ops d c e h = has_one_description ops d c e h

pub truth_fine : (ops : Table) (d : ℕ) (c : Context) (e : Term) → ReadsValues ops c e → IsFine fine.Any (TruthOf (Evaluates ops d) c e)
truth_fine ops d c e h = fine_then IsValue fine.Any (Evaluates ops d c e) _ (term_fine ops d c e h) (λ v p. fine_truth_at (place_of e) v)
