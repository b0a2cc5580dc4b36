-- A program in which every name means something.
use Rattle.std.proofs.Common.{◌≡◌, ◌∙◌, sym, subst, ℕ, zero, suc, List, [], ◌∷◌, length, ◌<◌, ◌≤◌, arith}
use Rattle.std.specs.Prelude.{◌↔◌, All, Some, None, Vec, get_or, slice_get}
use Rattle.std.specs.declared.alloc.Global.{Global}
use Rattle.std.proofs.lemmas.List.{length-map}
use Rattle.values_core.specs.Data.{Val}
use Rattle.reading_trees.specs.declared.config.Config.{Config}
use Rattle.reading_trees.specs.declared.expr.Definition.{Definition}
use Rattle.reading_trees.specs.declared.module.Program.{Program}
use Rattle.names_terms.specs.declared.operator.Operator.{Operator}
use Rattle.names_terms.specs.Lists.{terms_list}
use Rattle.names_terms.specs.Terms.{Terms}
use Rattle.names_term_parts.specs.Slots.{MentionsBelow, UsesSmaller}
use Rattle.names_meanings.specs.Outcomes.{Grows, named_in}
use Rattle.names_term_parts.proofs.Lists.{item_within, item_at, some_item}
use Rattle.base_use_order.specs.Uses as order
use Rattle.names_program.specs.InUnits.{assumptions_in, definitions_in}
use Rattle.names_program.specs.Names.{Numbers, numbers_of}
use Rattle.names_program.specs.Uses.{UsesDefinition, LeadsTo}
use Rattle.names_tables.specs.declared.table.Table.{Table}
use Rattle.names_tables.specs.Tables.{AreMeant, IsTable, IsTabled, StaysTable}
use Rattle.names_tables.specs.NameFaults.{HasFineNames}
use Rattle.names_tables.specs.Values.{AreValues, HasAllValues}
use Rattle.names_resolving.specs.Resolved.{HasFewVariables, IsNamed}
use Rattle.names_tables.specs.UnitComplaints.{AreUses}
use Rattle.names_resolving.specs.Standing.{AreBelow, IsComplete}

pub few : {A : Type 0} (xs : List A) (n : ℕ) → slice_get xs n ≡ None → length xs ≤ n
few [] n e = omega arith
few (x ∷ xs) zero e = absurd (cc)
few (x ∷ xs) (suc n) e = let le : length xs ≤ n = few xs n e in omega (arith, le)

pub are_uses : (p : Program) (c : Config) (us xs : List (Vec ℕ Global)) → xs ≡ us → length us ≡ length (definitions_in p.units) → order.IsWithin (order.table_of us) → ((i j : ℕ) → order.Uses (order.table_of us) i j ↔ UsesDefinition p c i j) → ((i j : ℕ) → order.Leads (order.table_of us) i j ↔ LeadsTo p c i j) → AreUses p c (order.table_of xs)
are_uses p c us xs q n w e l =
    subst (λ (ys : List (Vec ℕ Global)). AreUses p c (order.table_of ys)) (sym q) (record { as_many = length-map us (λ u. u.items) ∙ n; exact = e; leads = l; within = w })

pub complete : (p : Program) (c : Config) (values : List Val) (t : Table) → IsTable p c values (numbers_of t.numbers.items) t.operators → IsComplete p t
complete p c values t h = record {
  rows = λ i lt.
      let x : (d : Definition) × (slice_get (definitions_in p.units) i ≡ Some d) = some_item (definitions_in p.units) i lt in
      let r : IsTabled p c values (numbers_of t.numbers.items) t.operators i x.0 = h.definitions i x.0 x.1 in
      (r.row, _, r.numbered, r.stands);
}

pub are_below : (n : ℕ) (ts : Terms) → All (MentionsBelow n) (terms_list ts) → AreBelow n ts
are_below n ts h j e s =
    let lt : j < length (terms_list ts) = item_within (terms_list ts) j e s in
    let both : Some e ≡ Some (get_or (terms_list ts) j e) = sym s ∙ item_at (terms_list ts) j e lt in
    let same : e ≡ get_or (terms_list ts) j e = cc in
    subst (MentionsBelow n) (sym same) (h j e lt)

-- a table that stands with what is assumed
pub is_named : (p : Program) (c : Config) (values : List Val) (number after : Numbers) (old ops : List Operator) (ts : Terms) → HasFewVariables p → HasFineNames p c → HasAllValues p c → AreValues p c values → StaysTable p c values number old → Grows old ops → named_in ops ≡ named_in old → UsesSmaller ops → AreMeant p c values number ops (assumptions_in p.units) (terms_list ts) → after ≡ number → IsNamed p c values after ops (terms_list ts)
is_named p c values number after old ops ts few fine valued are stays grown unnamed smaller meant q =
    subst (λ (n : Numbers). IsNamed p c values n ops (terms_list ts)) (sym q) (record {
      few = few;
      fine = fine;
      valued = valued;
      values_are = are;
      table = stays ops grown unnamed smaller;
      assumed = meant;
    })
