-- A name that has an operator stands in the table.
use Rattle.std.proofs.Common.{◌≡◌, ◌∙◌, sym, ap, refl, subst, ℕ, List, length, ◌<◌}
use Rattle.std.specs.Prelude.{Option, Some, None, slice_get}
use Rattle.std.proofs.lemmas.Option.{slice_get_within}
use Rattle.reading_trees.specs.declared.expr.Definition.{Definition}
use Rattle.reading_trees.specs.declared.module.Program.{Program}
use Rattle.names_terms.specs.declared.operator.Operator.{Operator}
use Rattle.names_term_parts.specs.Slots.{MentionsBelow, UsesSmaller}
use Rattle.names_term_parts.proofs.Ordering.{body_within}
use Rattle.names_program.specs.InUnits.{definitions_in}
use Rattle.names_program.specs.Names.{Numbers, definition_index, numbers_of}
use Rattle.names_tables.specs.declared.table.Table.{Table}
use Rattle.names_resolving.specs.Givens.{row_of}
use Rattle.names_resolving.specs.Configured.{definition_of, if_alone, missing, operator_for, operator_named, row_named, unless_there}
use Rattle.names_resolving.specs.Standing.{IsComplete}

there : (n : List ℕ) (d : Option Definition) → unless_there n d ≡ None → (x : Definition) × (d ≡ Some x)
there n (Some d) e = (d, refl)
there n None e = absurd (cc)

was_there : (o : Option Definition) (x : Definition) → if_alone o ≡ Some x → (d : Definition) × (o ≡ Some d)
was_there None x e = absurd (cc)
was_there (Some d) x e = (d, refl)

indexed : (p : Program) (o : Option ℕ) (d : Definition) → definition_of p o ≡ Some d → (i : ℕ) × (o ≡ Some i) × (slice_get (definitions_in p.units) i ≡ Some d)
indexed p None d e = absurd (cc)
indexed p (Some i) d e = (i, refl, e)

-- the index of a name that is not missing
pub named_index : (p : Program) (n : List ℕ) → missing p (Some n) ≡ None → (i : ℕ) × (definition_index p n ≡ Some i) × (i < length (definitions_in p.units))
named_index p n e =
    let a : (x : Definition) × (operator_named p n ≡ Some x) = there n (operator_named p n) e in
    let b : (d : Definition) × (definition_of p (definition_index p n) ≡ Some d) = was_there (definition_of p (definition_index p n)) a.0 a.1 in
    let k : (i : ℕ) × (definition_index p n ≡ Some i) × (slice_get (definitions_in p.units) i ≡ Some b.0) = indexed p (definition_index p n) b.0 b.1 in
    (k.0, k.1, slice_get_within (definitions_in p.units) k.0 b.0 k.2)

pub has_operator : (p : Program) (t : Table) (n : List ℕ) → IsComplete p t → missing p (Some n) ≡ None → (o : Operator) × (operator_for p (numbers_of t.numbers.items) t.operators n ≡ Some o)
has_operator p t n h e =
    let k : (i : ℕ) × (definition_index p n ≡ Some i) × (i < length (definitions_in p.units)) = named_index p n e in
    let r : (r : ℕ) × (o : Operator) × (numbers_of t.numbers.items k.0 ≡ Some r) × (slice_get t.operators r ≡ Some o) = h.rows k.0 k.2 in
    (r.1, ap (row_named (numbers_of t.numbers.items) t.operators) k.1 ∙ ap (row_of t.operators) r.2 ∙ r.3)

pub not_none : (p : Program) (t : Table) (n : List ℕ) → IsComplete p t → missing p (Some n) ≡ None → operator_for p (numbers_of t.numbers.items) t.operators n ≡ None → ⊥
not_none p t n h e q =
    let x : (o : Operator) × (operator_for p (numbers_of t.numbers.items) t.operators n ≡ Some o) = has_operator p t n h e in
    let bad : None ≡ Some x.0 = sym q ∙ x.1 in
    absurd (cc)

-- the definition that has the name has a number
pub not_unnumbered : (p : Program) (t : Table) (n : List ℕ) (i : ℕ) → IsComplete p t → missing p (Some n) ≡ None → definition_index p n ≡ Some i → numbers_of t.numbers.items i ≡ None → ⊥
not_unnumbered p t n i h e at q =
    let k : (i : ℕ) × (definition_index p n ≡ Some i) × (i < length (definitions_in p.units)) = named_index p n e in
    let both : Some k.0 ≡ Some i = sym k.1 ∙ at in
    let same : k.0 ≡ i = cc in
    let r : (r : ℕ) × (o : Operator) × (numbers_of t.numbers.items k.0 ≡ Some r) × (slice_get t.operators r ≡ Some o) = h.rows k.0 k.2 in
    let there : numbers_of t.numbers.items i ≡ Some r.0 = subst (λ (x : ℕ). numbers_of t.numbers.items x ≡ Some r.0) same r.2 in
    let bad : None ≡ Some r.0 = sym q ∙ there in
    absurd (cc)

-- the body of an operator that is found uses definitions of the table alone
pub operator_within : (p : Program) (number : Numbers) (ops : List Operator) (n : List ℕ) (o : Operator) → UsesSmaller ops → operator_for p number ops n ≡ Some o
    → MentionsBelow (length ops) o.body
operator_within p number ops n o ordered found = of_index (definition_index p n) found
  where
    of_row : (row : Option ℕ) → row_of ops row ≡ Some o → MentionsBelow (length ops) o.body
    of_row None e = absurd (cc)
    of_row (Some k) e = body_within ops k o ordered e

    of_index : (index : Option ℕ) → row_named number ops index ≡ Some o → MentionsBelow (length ops) o.body
    of_index None e = absurd (cc)
    of_index (Some i) e = of_row (number i) e
