-- Contexts in which more values are known: those of the parts of a term know more where that of the term does.
use Rattle.std.proofs.Common.{◌≡◌, ap, subst, List, ◌++◌}
use Rattle.std.specs.Prelude.{ℕ, take}
use Rattle.values_core.specs.Data.{Val}
use Rattle.names_terms.specs.declared.operator.Operator.{Operator}
use Rattle.eval_meanings.specs.Contexts.{Context, bind, within, primed, enter, IsAt, IsKnown, Places}
use Rattle.eval_meanings.specs.Laws.{IsWithin}
use Rattle.eval_laws.proofs.Keeping.{Keeps}

-- the same slots, and all that is known in the one is known in the other
pub record KnowsMore (c b : Context) : Type 0 where
  pub slots : c.slots ≡ b.slots
  pub now : IsWithin c.now b.now
  pub next : IsWithin c.next b.next

pub bind_more : (c b : Context) (vs : List Val) → KnowsMore c b → KnowsMore (bind c vs) (bind b vs)
bind_more c b vs h = record { slots = ap (λ us. us ++ vs) h.slots; now = h.now; next = h.next }

pub within_more : (c b : Context) (n : ℕ) → KnowsMore c b → KnowsMore (within n c) (within n b)
within_more c b n h = record { slots = ap (take n) h.slots; now = h.now; next = h.next }

pub primed_more : (c b : Context) → KnowsMore c b → KnowsMore (primed c) (primed b)
primed_more c b h = record { slots = h.slots; now = h.next; next = h.next }

pub enter_more : (c b : Context) (o : Operator) (vs : List Val) → KnowsMore c b → KnowsMore (enter o vs c) (enter o vs b)
enter_more c b o vs h = record { slots = ap (λ us. take o.outer us ++ vs) h.slots; now = h.now; next = h.next }

pub keeps_known : (p q : Places) (x : ℕ) → IsWithin p q → Keeps (IsKnown p x) (IsKnown q x)
keeps_known p q x h r k = (k.0, h x k.0 k.1, k.2)

pub keeps_slot : (us vs : List Val) (i : ℕ) → us ≡ vs → Keeps (IsAt us i) (IsAt vs i)
keeps_slot us vs i e r k = subst (λ (ws : List Val). IsAt ws i r) e k
