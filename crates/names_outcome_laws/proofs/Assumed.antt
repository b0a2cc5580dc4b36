-- The assumptions of a program have their terms, over its table with the definitions of their LETs behind it.
use Rattle.std.proofs.Common.{◌≡◌, ◌≢◌, sym, refl, subst, arith, ℕ, zero, suc, ◌+◌, List, [], ◌∷◌, length, ◌<◌, ◌≤◌}
use Rattle.std.specs.Prelude.{◌^◌, None, Some, slice_get}
use Rattle.values_core.specs.Data.{Val}
use Rattle.reading_trees.specs.Trees.{Tree}
use Rattle.reading_trees.specs.declared.expr.Definition.{Definition}
use Rattle.reading_trees.specs.declared.form.DefinitionForm.TheVariants.{Operator as Plain}
use Rattle.reading_trees.specs.declared.config.Config.{Config}
use Rattle.reading_trees.specs.declared.module.Program.{Program}
use Rattle.names_terms.specs.declared.operator.Operator.{Operator}
use Rattle.names_terms.specs.Terms.{Terms, NoTerms, MoreTerms}
use Rattle.names_term_parts.specs.Parts.{listed}
use Rattle.names_scopes.specs.Standing.{AreIn}
use Rattle.names_meanings.specs.Complaints.{complaint, with_names}
use Rattle.names_meanings.specs.Outcomes.{takes_of}
use Rattle.names_meanings.proofs.StandingOn.{grown_stands}
use Rattle.names_program.specs.InUnits.{assumptions_in, definitions_in}
use Rattle.names_program.specs.Names.{AreNames, Numbers, numbers_of}
use Rattle.names_tables.specs.declared.table.Table.{Table}
use Rattle.names_tables.specs.Assumed.{AreAssumed}
use Rattle.names_tables.specs.NameFaults.{HasFineNames}
use Rattle.names_tables.specs.Tables.{AreMeant, IsTable}
use Rattle.names_tables.proofs.Assuming.{assumed_on, assumed_so, known_still, none_assumed}
use Rattle.names_tables.proofs.Places.{grows_none}
use Rattle.names_outcome_laws.specs.Lets.{EachIsOfOneLet, lets, lets_of_terms}
use Rattle.names_outcome_laws.proofs.Lets.{AddsLets, adds_both, adds_none, each_is_of_one, lets_more}
use Rattle.names_outcome_laws.proofs.Filled.{SomeTable, some_table}
use Rattle.names_outcome_laws.proofs.Placing.{SomeMeant, some_meant}

tree_at : (ts : List Tree) (k : ℕ) → k < length ts → (t : Tree) × (slice_get ts k ≡ Some t)
tree_at [] k lt = absurd (omega (arith, lt))
tree_at (t ∷ ts) zero lt = (t, refl)
tree_at (t ∷ ts) (suc k) lt = tree_at ts k (omega (arith, lt))

-- an assumption as a definition without parameters
abbrev as_definition : Tree → Definition
as_definition t = record { name = []; at = record { file = 0; line = 0; col = 0 }; params = []; form = Plain; body = t }

module _ (p : Program) (c : Config) (values : List Val) (fine : HasFineNames p c) (old : Table) (are : AreNames p c values (numbers_of old.numbers.items) old.names) (known : AreIn (length old.operators) old.names) (table : IsTable p c values (numbers_of old.numbers.items) old.operators) where
  abbrev trees : List Tree
  trees = assumptions_in p.units

  -- so many of them have their terms
  pub record SomeAssumed (i : ℕ) : Type 0 where
    pub new : Table
    pub terms : Terms
    pub are_assumed : AreAssumed old new trees i terms
    pub lets : AddsLets old.operators new.operators (lets_of_terms (listed terms))

  pub some_assumed : (i : ℕ) → i ≤ length trees → SomeAssumed i
  some_assumed zero le = record { new = old; terms = NoTerms; are_assumed = none_assumed old trees NoTerms table.smaller refl; lets = adds_none old.operators }
  some_assumed (suc i) le = one_more (some_assumed i (omega (arith, le)))
    where
      t : (t : Tree) × (slice_get trees i ≡ Some t)
      t = tree_at trees i (omega (arith, le))

      one_more : SomeAssumed i → SomeAssumed (suc i)
      one_more r =
          let mid : Table = r.new in
          let h : AreAssumed old mid trees i r.terms = r.are_assumed in
          let there : AreIn (length mid.operators) mid.names = known_still old mid trees i r.terms h known in
          let right : complaint (with_names (takes_of mid.operators mid.names) []) t.0 ≡ None = assumed_so p c values (numbers_of old.numbers.items) old.names mid.names old.operators mid.operators [] fine are table known h.grown h.names refl i t.0 t.1 in
          let m : SomeMeant mid (as_definition t.0) = some_meant mid (as_definition t.0) there h.smaller right in
          let next : i + 1 ≡ suc i = omega arith in
          let after : Table = record mid { operators = m.middle } in
          record {
            new = after;
            terms = MoreTerms r.terms m.body;
            are_assumed = subst (λ (k : ℕ). AreAssumed old after trees k (MoreTerms r.terms m.body)) next
                (assumed_on old mid after trees i r.terms (MoreTerms r.terms m.body) [] t.0 m.body refl refl m.meant.grown m.meant.smaller m.meant.unnamed m.meant.below (λ all g. m.meant.means all (grown_stands (length mid.operators) m.middle g)) refl t.1 refl h);
            lets = subst (λ (ks : List ℕ). AddsLets old.operators m.middle ks) (sym (lets_more (listed r.terms) m.body)) (adds_both old.operators mid.operators m.middle (lets_of_terms (listed r.terms)) (lets m.body) r.lets m.adds);
          }

  pub all_meant : (r : SomeAssumed (length trees)) → AreMeant p c values (numbers_of old.numbers.items) r.new.operators trees (listed r.terms)
  all_meant r = record {
    as_many = r.are_assumed.as_many;
    each = λ j t x at there. record { names = old.names; are = are; means = r.are_assumed.meant j t x at there r.new.operators (grows_none r.new.operators) };
  }

-- ---- the whole

-- each definition of the program has a name
abbrev pub HasNames : Program → Type 0
HasNames p = (i : ℕ) (d : Definition) → slice_get (definitions_in p.units) i ≡ Some d → d.name ≢ []

pub record SomeNamed (p : Program) (c : Config) (values : List Val) : Type 0 where
  pub number : Numbers
  pub table : List Operator
  pub assumes : Terms
  pub is_table : IsTable p c values number table
  pub assumed : AreMeant p c values number table (assumptions_in p.units) (listed assumes)
  pub lets : HasNames p → EachIsOfOneLet table (listed assumes)

pub some_named : (p : Program) (c : Config) (values : List Val) → HasFineNames p c → length (definitions_in p.units) < 2 ^ 63 → SomeNamed p c values
some_named p c values fine few =
    let t : SomeTable p c values fine few = some_table p c values fine few in
    let le : length (assumptions_in p.units) ≤ length (assumptions_in p.units) = omega arith in
    let r : SomeAssumed p c values fine t.table t.are t.known t.is_table (length (assumptions_in p.units)) = some_assumed p c values fine t.table t.are t.known t.is_table (length (assumptions_in p.units)) le in
    record {
      number = numbers_of t.table.numbers.items;
      table = r.new.operators;
      assumes = r.terms;
      is_table = t.stays r.new.operators r.are_assumed.grown r.are_assumed.unnamed r.are_assumed.smaller;
      assumed = all_meant p c values fine t.table t.are t.known t.is_table r;
      lets = λ named. each_is_of_one t.table.operators r.new.operators (listed r.terms) (t.so_far (λ i d at. named i d at)) r.lets;
    }
