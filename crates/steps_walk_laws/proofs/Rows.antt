-- A term in order row by row, with the limits of its levels and with the definitions that it uses.
use Rattle.std.proofs.Common.{◌≡◌, ℕ, List, [], ◌∷◌}
use Rattle.std.specs.Prelude.{◌+◌, false, Contains, Some, slice_get}
use Rattle.std.specs.List.{AllByRecursion}
use Rattle.base_core.specs.declared.place.Place.{Place}
use Rattle.names_terms.specs.declared.level.Level.{Level}
use Rattle.names_terms.specs.declared.operator.Operator.{Operator}
use Rattle.names_terms.specs.Terms as term
use Rattle.names_terms.specs.Terms.{Term, Placed, Meaning, level_of}
use Rattle.names_term_parts.specs.declared.fault.LevelFault.{LevelFault}
use Rattle.names_term_parts.specs.Limits.{Limit, limits, is_above}
use Rattle.names_term_parts.specs.Parts.{Part, parts}
use Rattle.names_term_parts.specs.Slots.{Mentions, used, mentioned_in_part}
use Rattle.names_term_parts.proofs.Contained.{contains_head, contains_tail}
use Rattle.names_term_levels.specs.Faults.{IsFault, too_high, in_part}
use Rattle.eval_meanings.specs.Contexts.{Table}
use Rattle.names_specification_laws.specs.Everywhere.{Everywhere}
use Rattle.names_specification_laws.specs.IsSpec.{IsRow, IsTerm}
use Rattle.names_specification_laws.proofs.Throughout.{throughout}
use Rattle.steps_walk_laws.specs.Stable.{Reaches, in_term, in_reached, IsOrderly}
use Rattle.steps_walk_laws.proofs.Paired.{everywhere_both}
use Rattle.steps_walk_laws.proofs.PartLists.{not_true}

-- the limits of a row are kept
abbrev pub AreKept : List Limit → Type 0
AreKept xs = AllByRecursion (λ x. is_above x.found x.allowed ≡ false) xs

each_limit : (xs : List Limit) → ((x : Limit) → Contains xs x → is_above x.found x.allowed ≡ false) → AreKept xs
each_limit [] h = tt
each_limit (x ∷ xs) h = (h x (contains_head x xs), each_limit xs (λ y c. h y (contains_tail x xs y c)))

-- the definition that a row uses is such
abbrev pub UseIs : (ℕ → Type 0) → Meaning → Type 0
UseIs Q (term.Use k ts) = Q k
UseIs Q m = Unit {0}

-- beside the row itself: its limits are kept, and the definition that it uses is such
abbrev pub Side : (ℕ → Type 0) → ℕ → Place → Level → Meaning → Type 0
Side Q n at l m = AreKept (limits at m) × UseIs Q m

abbrev pub Row : ℕ → Table → (ℕ → Type 0) → ℕ → Place → Level → Meaning → Type 0
Row variables ops Q n at l m = IsRow variables ops n at l m × Side Q n at l m

abbrev pub Rows : ℕ → Table → (ℕ → Type 0) → ℕ → Term → Type 0
Rows variables ops Q n e = Everywhere (Row variables ops Q) n e

-- the definitions of the set are in order
abbrev pub Bodies : ℕ → Table → (ℕ → Type 0) → Type 0
Bodies variables ops Q = (k : ℕ) (o : Operator) → Q k → slice_get ops k ≡ Some o → Rows variables ops Q (o.outer + o.params) o.body × (o.level ≡ level_of o.body)

-- of a term in which no limit is passed, and which mentions only such definitions
abbrev IsSuch : Table → (ℕ → Type 0) → Term → Type 0
IsSuch ops Q e = ((f : LevelFault) → IsFault ops e f → ⊥) × ((k : ℕ) → Mentions e k → Q k)

uses_such : (Q : ℕ → Type 0) (at : Place) (l : Level) (m : Meaning) → ((k : ℕ) → Mentions (Placed at l m) k → Q k) → UseIs Q m
uses_such Q at l (term.Use k ts) h = h k (used at l k ts)
uses_such Q at l m h = tt

such_row : (ops : Table) (Q : ℕ → Type 0) (n : ℕ) (at : Place) (l : Level) (m : Meaning) → IsSuch ops Q (Placed at l m) → Side Q n at l m
such_row ops Q n at l m h =
    (each_limit (limits at m) (λ x c. not_true (is_above x.found x.allowed) (λ above. h.0 _ (too_high at l m x c above))), uses_such Q at l m h.1)

such_goes : (ops : Table) (Q : ℕ → Type 0) (at : Place) (l : Level) (m : Meaning) → IsSuch ops Q (Placed at l m) → (p : Part) → Contains (parts false m) p → IsSuch ops Q p.term
such_goes ops Q at l m h p c = (λ f w. h.0 f (in_part at l m p f c w), λ k w. h.1 k (mentioned_in_part at l m p k c w))

term_rows : (variables : ℕ) (ops : Table) (Q : ℕ → Type 0) (n : ℕ) (e : Term) → IsTerm variables ops n e → ((k : ℕ) → Mentions e k → Q k) → Rows variables ops Q n e
term_rows variables ops Q n e t q =
    everywhere_both (IsRow variables ops) (Side Q) n e t.rows
    (throughout (IsSuch ops Q) (Side Q) (such_goes ops Q) (such_row ops Q) n e (t.bounded, q))

-- a term in order, and the definitions that it reaches
pub orderly_rows : (variables : ℕ) (ops : Table) (n : ℕ) (e : Term) → IsOrderly variables ops n e → Rows variables ops (Reaches ops e) n e
orderly_rows variables ops n e h = term_rows variables ops (Reaches ops e) n e h.term (λ k m. in_term k m)

pub orderly_bodies : (variables : ℕ) (ops : Table) (n : ℕ) (e : Term) → IsOrderly variables ops n e → Bodies variables ops (Reaches ops e)
orderly_bodies variables ops n e h k o r q =
    let b : IsTerm variables ops (o.outer + o.params) o.body × (o.level ≡ level_of o.body) = h.bodies k o r q in
    (term_rows variables ops (Reaches ops e) (o.outer + o.params) o.body b.0 (λ j m. in_reached k o j r q m), b.1)
