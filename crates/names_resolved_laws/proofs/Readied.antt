-- The definitions of a program whose names and levels are fine have meanings, with which nothing is wrong.
use Rattle.std.proofs.Common.{◌≡◌, ◌∙◌, sym, ap, refl, subst, ℕ, zero, suc, List, [], ◌∷◌, length, ◌<◌, ◌+◌, inl, inr, arith}
use Rattle.std.specs.Prelude.{Bool, Some, option_map, slice_get}
use Rattle.std.proofs.lemmas.Option.{slice_get_cases}
use Rattle.values_core.specs.Data.{Val}
use Rattle.reading_trees.specs.declared.config.Config.{Config}
use Rattle.reading_trees.specs.declared.expr.Definition.{Definition}
use Rattle.reading_trees.specs.declared.module.Program.{Program}
use Rattle.reading_trees.specs.declared.module.Unit.{Unit as ModuleUnit}
use Rattle.reading_trees.specs.declared.module.Unit.TheVariants.{Variables, Constants, Recursive, Define, Instance, Assume, Passed}
use Rattle.names_terms.specs.declared.operator.Operator.{Operator}
use Rattle.names_terms.specs.Terms.{Term, level_of}
use Rattle.names_term_parts.specs.Slots.{Mentions}
use Rattle.names_scopes.specs.Scopes.{bind, named}
use Rattle.names_meanings.specs.Outcomes.{taken_by}
use Rattle.names_program.specs.InUnits.{definitions_in, variables_in}
use Rattle.names_program.specs.Names.{Numbers, declared_meaning, definition_meant, names_declared, program_meaning}
use Rattle.names_program.specs.Recursion.{AreLevelsOf}
use Rattle.names_program.proofs.NameLemmas.{by_index_is}
use Rattle.names_uses.proofs.Meanings.{meant_within}
use Rattle.names_tables.specs.NameFaults.{takes_in_program}
use Rattle.names_tables.specs.Tables.{IsTable, IsTabled, unit_operator}
use Rattle.names_uses.proofs.ProgramLevels.{levels_exist}
use Rattle.names_tables.proofs.ProgramTakes.{numbered_taken, taken_here}
use Rattle.names_tables.proofs.UnitPlaces.{DefinedAt, defined_at, fine_definition}
use Rattle.names_resolving.specs.Resolved.{IsLevelled}
use Rattle.names_resolving.specs.UnitLevels.{IsBodyFault}
use Rattle.names_resolving.proofs.Levels.{in_form}
use Rattle.names_specification_laws.specs.Faultless.{HasNoFault, IsFaultless, NamesAreFaultless}
use Rattle.names_specification_laws.specs.Formed.{IsFormed, UnitsAreFormed}
use Rattle.names_specification_laws.specs.IsSpec.{IsTerm}
use Rattle.names_specification_laws.specs.Meanings.{HasMeaning, HasTerm, NamesHaveMeaning}
use Rattle.names_specification_laws.proofs.Faults.{bodies_are_faultless, definitions_are_faultless}
use Rattle.names_specification_laws.proofs.Program.{definitions_have_meaning, trees_have_terms}
use Rattle.names_specification_laws.proofs.Reached.{bodies_mention_meant, meant_are_in_order, same_row}
use Rattle.names_resolved_laws.specs.InOrder.{IsWellFormed}
use Rattle.names_resolved_laws.proofs.Fitting.{IsNumbered, meant_definition, names_fit}

-- a program of the reader whose names and levels are fine
pub record Ready (p : Program) (c : Config) (values : List Val) (number : Numbers) (ops : List Operator) (assumes : List Term) : Type 0 where
  pub well : IsWellFormed p
  pub levelled : IsLevelled p c values number ops assumes

formed_at : (us : List ModuleUnit) (i : ℕ) (d : Definition) → UnitsAreFormed us → slice_get (definitions_in us) i ≡ Some d → IsFormed d.body
formed_at [] zero d h e = absurd (cc)
formed_at [] (suc i) d h e = absurd (cc)
formed_at (Define x ∷ us) zero d h e = let same : x ≡ d = cc in subst (λ (y : Definition). IsFormed y.body) same h.0
formed_at (Define x ∷ us) (suc i) d h e = formed_at us i d h.1 e
formed_at (Variables x ∷ us) i d h e = formed_at us i d h.1 e
formed_at (Constants x ∷ us) i d h e = formed_at us i d h.1 e
formed_at (Assume x ∷ us) i d h e = formed_at us i d h.1 e
formed_at (Recursive rs ∷ us) i d h e = formed_at us i d h.1 e
formed_at (Instance m ∷ us) i d h e = formed_at us i d h.1 e
formed_at (Passed ∷ us) i d h e = formed_at us i d h.1 e

module _ (p : Program) (c : Config) (values : List Val) (number : Numbers) (ops : List Operator) (assumes : List Term) where
  -- each definition that a name means has a number
  pub takes_same : (bs : List Bool) → AreLevelsOf p c bs → IsTable p c values number ops → (n : List ℕ) → option_map (taken_by ops) (program_meaning p c values number n) ≡ takes_in_program p c bs n
  takes_same bs l table n =
      numbered_taken bs number ops (table.leveled bs l) (declared_meaning p c values n) (λ needed j e. has j (meant_within p c values n (named needed (definition_meant j)) (by_index_is (declared_meaning p c values n) ∙ e)))
      ∙ taken_here bs p c values n
    where
      has : (j : ℕ) → j < length (definitions_in p.units) → (k : ℕ) × (number j ≡ Some k)
      has j lt = elim (slice_get_cases (definitions_in p.units) j).1 [
        | inl w ↦ let r = table.definitions j w.0 w.2 in (r.row, r.numbered)
        | inr w ↦ absurd (omega (arith, lt, w.0))
      ]

  pub body_term : Ready p c values number ops assumes → (i : ℕ) (d : Definition) → slice_get (definitions_in p.units) i ≡ Some d → (r : IsTabled p c values number ops i d) → HasTerm (program_meaning p c values number) ops (bind [] d.params) d.body r.body
  body_term g i d e r =
      let l : (bs : List Bool) × AreLevelsOf p c bs = levels_exist p c in
      trees_have_terms (program_meaning p c values number) ops r.means.names (takes_in_program p c l.0) d.params d.body r.body r.means.are (takes_same l.0 l.1 g.levelled.named.table) (formed_at p.units i d g.well.formed e) (fine_definition p c l.0 l.1 g.levelled.named.fine i d e) r.means.means

  pub body_fine : Ready p c values number ops assumes → (i : ℕ) (d : Definition) → slice_get (definitions_in p.units) i ≡ Some d → (r : IsTabled p c values number ops i d) → HasNoFault ops r.body
  body_fine g i d e r f x =
      let a : DefinedAt p.units i d = defined_at p.units i d e in
      let b : IsBodyFault number ops d.form i f = record { row = r.row; operator = unit_operator d r.own r.body; numbered = r.numbered; stands = r.stands; wrong = in_form d.form ops r.body f x } in
      g.levelled.levels a.place f (record { unit = Define d; stands = a.stands; wrong = subst (λ (j : ℕ). IsBodyFault number ops d.form j f) (sym a.before) b })

  -- a definition has a meaning, with which nothing is wrong
  pub record Good (k : ℕ) : Type 0 where
    pub meant : HasMeaning (program_meaning p c values number) ops k
    pub faultless : IsFaultless (program_meaning p c values number) ops k

  tabled_good : Ready p c values number ops assumes → (i : ℕ) (d : Definition) → slice_get (definitions_in p.units) i ≡ Some d → (r : IsTabled p c values number ops i d) → Good r.row
  tabled_good g i d e r = record {
    meant = definitions_have_meaning (program_meaning p c values number) ops r.row (unit_operator d r.own r.body) d.params d.body r.stands refl refl refl (body_term g i d e r);
    faultless = definitions_are_faultless (program_meaning p c values number) ops r.row (unit_operator d r.own r.body) d.params d.body r.means.names r.stands (body_fine g i d e r) r.means.are r.means.means;
  }

  pub numbered_good : Ready p c values number ops assumes → (k : ℕ) → IsNumbered p number k → Good k
  numbered_good g k h =
      let r : IsTabled p c values number ops h.index h.definition = g.levelled.named.table.definitions h.index h.definition h.stands in
      let both : Some r.row ≡ Some k = sym r.numbered ∙ h.numbered in
      let same : r.row ≡ k = cc in
      subst (λ (j : ℕ). Good j) same (tabled_good g h.index h.definition h.stands r)

  pub names_meant : Ready p c values number ops assumes → NamesHaveMeaning (program_meaning p c values number) ops
  names_meant g n w d e m = (numbered_good g d.0 (meant_definition p c values number n w d e m)).meant

  pub names_faultless : Ready p c values number ops assumes → NamesAreFaultless (program_meaning p c values number) ops
  names_faultless g n w d e m = (numbered_good g d.0 (meant_definition p c values number n w d e m)).faultless

  pub mentioned_good : Ready p c values number ops assumes → (k : ℕ) (o : Operator) (j : ℕ) → Good k → slice_get ops k ≡ Some o → Mentions o.body j → Good j
  mentioned_good g k o j h e m = record {
    meant = bodies_mention_meant (program_meaning p c values number) ops k o j (names_meant g) h.meant e m;
    faultless = bodies_are_faultless (program_meaning p c values number) ops k o j (names_faultless g) h.faultless e m;
  }

  -- the body of a definition that has a number is in order
  pub body_in_order : Ready p c values number ops assumes → (k : ℕ) (o : Operator) → IsNumbered p number k → slice_get ops k ≡ Some o → IsTerm (length (names_declared (variables_in p.units))) ops (o.outer + o.params) o.body × (o.level ≡ level_of o.body)
  body_in_order g k o h e =
      let r : IsTabled p c values number ops h.index h.definition = g.levelled.named.table.definitions h.index h.definition h.stands in
      let both : Some r.row ≡ Some k = sym r.numbered ∙ h.numbered in
      let same : r.row ≡ k = cc in
      let there : slice_get ops k ≡ Some (unit_operator h.definition r.own r.body) = ap (slice_get ops) (sym same) ∙ r.stands in
      let q = meant_are_in_order (program_meaning p c values number) (length (names_declared (variables_in p.units))) ops k o (names_fit p c values number ops g.levelled.named.table) (numbered_good g k h).meant e in
      (record { rows = q.0; bounded = same_row (λ (x : Operator). HasNoFault ops x.body) ops k (unit_operator h.definition r.own r.body) o there e (body_fine g h.index h.definition h.stands r) }, q.1)
