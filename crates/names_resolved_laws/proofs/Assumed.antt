-- The assumptions are in order.
use Rattle.std.proofs.Common.{◌≡◌, ◌∙◌, sym, ap, refl, subst, ℕ, zero, suc, List, [], ◌∷◌, length, arith}
use Rattle.std.specs.Prelude.{Bool, true, false, Contains, Option, Some, None, slice_get}
use Rattle.std.proofs.lemmas.Option.{slice_get-get_or}
use Rattle.values_core.specs.Data.{Val}
use Rattle.reading_trees.specs.Trees.{Tree}
use Rattle.reading_trees.specs.declared.config.Config.{Config}
use Rattle.reading_trees.specs.declared.module.Program.{Program}
use Rattle.reading_trees.specs.declared.module.Unit.{Unit as ModuleUnit}
use Rattle.reading_trees.specs.declared.module.Unit.TheVariants.{Variables, Constants, Recursive, Define, Instance, Assume, Passed}
use Rattle.names_meanings.specs.declared.fault.NameFault.{NameFault}
use Rattle.names_meanings.specs.Complaints.{complaint}
use Rattle.names_terms.specs.declared.level.Level.TheVariants.{Constant}
use Rattle.names_terms.specs.declared.operator.Operator.{Operator}
use Rattle.names_terms.specs.Terms.{Term, Placed}
use Rattle.names_term_parts.proofs.Lists.{some_item}
use Rattle.names_term_parts.proofs.Contained.{contains_nothing}
use Rattle.names_term_parts.specs.declared.fault.LevelFault.{LevelFault}
use Rattle.names_term_parts.specs.declared.fault.LevelFault.TheVariants.{TooHigh}
use Rattle.names_term_parts.specs.Limits.{is_above}
use Rattle.names_term_parts.specs.Slots.{Mentions}
use Rattle.names_term_levels.specs.Faults.{IsAssumptionFault, in_term, no_constant}
use Rattle.names_scopes.specs.declared.scope.Local.TheVariants.{Defined}
use Rattle.names_program.specs.InUnits.{assumptions_in, variables_in}
use Rattle.names_program.specs.Names.{Numbers, names_declared, program_meaning}
use Rattle.names_program.specs.Recursion.{AreLevelsOf}
use Rattle.names_uses.proofs.ProgramLevels.{levels_exist}
use Rattle.names_tables.specs.NameFaults.{HasFineNames, takes_in_program}
use Rattle.names_tables.specs.Tables.{MeansThere}
use Rattle.names_resolving.specs.UnitLevels.{IsAssumedFault, assumptions_before}
use Rattle.names_specification_laws.specs.Faultless.{HasNoFault}
use Rattle.names_specification_laws.specs.Formed.{IsFormed, UnitsAreFormed}
use Rattle.names_specification_laws.specs.IsSpec.{IsAtMost, IsTerm}
use Rattle.names_specification_laws.specs.Meanings.{HasTerm}
use Rattle.names_specification_laws.proofs.Faults.{mentioned_are_faultless}
use Rattle.names_specification_laws.proofs.Mentioned.{mentioned_have_meaning}
use Rattle.names_specification_laws.proofs.Ordered.{meanings_are_in_order}
use Rattle.names_specification_laws.proofs.Program.{trees_have_terms}
use Rattle.names_resolved_laws.proofs.Fitting.{names_fit}
use Rattle.names_resolved_laws.proofs.Readied.{Good, Ready, names_faultless, names_meant, takes_same}

record AssumedAt (us : List ModuleUnit) (j : ℕ) (t : Tree) : Type 0 where
  place : ℕ
  stands : slice_get us place ≡ Some (Assume t)
  before : assumptions_before us place ≡ j
  formed : UnitsAreFormed us → IsFormed t

assumed_at : (us : List ModuleUnit) (j : ℕ) (t : Tree) → slice_get (assumptions_in us) j ≡ Some t → AssumedAt us j t
assumed_at [] zero t e = absurd (cc)
assumed_at [] (suc j) t e = absurd (cc)
assumed_at (Assume x ∷ us) zero t e = let same : x ≡ t = cc in record { place = 0; stands = ap (λ (y : Tree). Some (Assume y)) same; before = refl; formed = λ h. subst IsFormed same h.0 }
assumed_at (Assume x ∷ us) (suc j) t e = (let r : AssumedAt us j t = assumed_at us j t e in record { place = suc r.place; stands = r.stands; before = ap suc r.before; formed = λ h. r.formed h.1 })
assumed_at (Define d ∷ us) j t e = (let r : AssumedAt us j t = assumed_at us j t e in record { place = suc r.place; stands = r.stands; before = r.before; formed = λ h. r.formed h.1 })
assumed_at (Variables ds ∷ us) j t e = (let r : AssumedAt us j t = assumed_at us j t e in record { place = suc r.place; stands = r.stands; before = r.before; formed = λ h. r.formed h.1 })
assumed_at (Constants ds ∷ us) j t e = (let r : AssumedAt us j t = assumed_at us j t e in record { place = suc r.place; stands = r.stands; before = r.before; formed = λ h. r.formed h.1 })
assumed_at (Recursive rs ∷ us) j t e = (let r : AssumedAt us j t = assumed_at us j t e in record { place = suc r.place; stands = r.stands; before = r.before; formed = λ h. r.formed h.1 })
assumed_at (Instance m ∷ us) j t e = (let r : AssumedAt us j t = assumed_at us j t e in record { place = suc r.place; stands = r.stands; before = r.before; formed = λ h. r.formed h.1 })
assumed_at (Passed ∷ us) j t e = (let r : AssumedAt us j t = assumed_at us j t e in record { place = suc r.place; stands = r.stands; before = r.before; formed = λ h. r.formed h.1 })

fine_assumption : (p : Program) (c : Config) (bs : List Bool) → AreLevelsOf p c bs → HasFineNames p c → (j : ℕ) (t : Tree) → AssumedAt p.units j t → complaint (takes_in_program p c bs) t ≡ None
fine_assumption p c bs l fine j t r = one (complaint (takes_in_program p c bs) t) refl
  where
    one : (o : Option NameFault) → complaint (takes_in_program p c bs) t ≡ o → o ≡ None
    one None q = refl
    one (Some f) q = absurd (fine r.place f (record { unit = Assume t; stands = r.stands; known = takes_in_program p c bs; are = (bs, l, refl); wrong = q }))

constant : (ops : List Operator) (e : Term) → ((f : LevelFault) → IsAssumptionFault ops e f → ⊥) → IsAtMost Constant e
constant ops (Placed at l m) h = one (is_above l Constant) refl
  where
    one : (b : Bool) → is_above l Constant ≡ b → b ≡ false
    one true q = absurd (h (TooHigh l Constant at) (no_constant at l m q))
    one false q = refl

module _ (p : Program) (c : Config) (values : List Val) (number : Numbers) (ops : List Operator) (assumes : List Term) where
  -- the tree that an assumption is the meaning of
  record Meant (e : Term) : Type 0 where
    index : ℕ
    tree : Tree
    is : slice_get assumes index ≡ Some e
    assumed : AssumedAt p.units index tree
    term : HasTerm (program_meaning p c values number) ops [] tree e

  meant : Ready p c values number ops assumes → (e : Term) → Contains assumes e → Meant e
  meant g e h =
      let is : slice_get assumes h.0 ≡ Some e = slice_get-get_or assumes h.0 e h.1 ∙ ap Some h.2 in
      let many : length assumes ≡ length (assumptions_in p.units) = g.levelled.named.assumed.as_many in
      let x : (t : Tree) × (slice_get (assumptions_in p.units) h.0 ≡ Some t) = some_item (assumptions_in p.units) h.0 (omega (arith, h.1, many)) in
      let a : AssumedAt p.units h.0 x.0 = assumed_at p.units h.0 x.0 x.1 in
      let m : MeansThere p c values number ops [] x.0 e = g.levelled.named.assumed.each h.0 x.0 e x.1 is in
      let l : (bs : List Bool) × AreLevelsOf p c bs = levels_exist p c in
      record {
        index = h.0;
        tree = x.0;
        is = is;
        assumed = a;
        term = trees_have_terms (program_meaning p c values number) ops m.names (takes_in_program p c l.0) [] x.0 e m.are (takes_same p c values number ops assumes l.0 l.1 g.levelled.named.table) (a.formed g.well.formed) (fine_assumption p c l.0 l.1 g.levelled.named.fine h.0 x.0 a) m.means;
      }

  no_fault : Ready p c values number ops assumes → (e : Term) → Meant e → (f : LevelFault) → IsAssumptionFault ops e f → ⊥
  no_fault g e r f w =
      let b : IsAssumedFault ops assumes r.index f = record { term = e; stands = r.is; wrong = w } in
      g.levelled.levels r.assumed.place f (record { unit = Assume r.tree; stands = r.assumed.stands; wrong = subst (λ (j : ℕ). IsAssumedFault ops assumes j f) (sym r.assumed.before) b })

  faultless : Ready p c values number ops assumes → (e : Term) → Meant e → HasNoFault ops e
  faultless g e r f w = no_fault g e r f (in_term e f w)

  pub assumes_in_order : Ready p c values number ops assumes → (e : Term) → Contains assumes e → IsTerm (length (names_declared (variables_in p.units))) ops 0 e × IsAtMost Constant e
  assumes_in_order g e h =
      let r : Meant e = meant g e h in (
        record {
          rows = meanings_are_in_order (program_meaning p c values number) (length (names_declared (variables_in p.units))) ops [] r.tree e (names_fit p c values number ops g.levelled.named.table) tt r.term;
          bounded = faultless g e r;
        },
        constant ops e (no_fault g e r),
      )

  pub assumed_good : Ready p c values number ops assumes → (e : Term) → Contains assumes e → (k : ℕ) → Mentions e k → Good p c values number ops assumes k
  assumed_good g e h k w =
      let r : Meant e = meant g e h in
      record {
        meant = mentioned_have_meaning (program_meaning p c values number) ops [] r.tree e (names_meant p c values number ops assumes g) tt (λ n d i x. absurd (contains_nothing (Defined n d i) x)) r.term k w;
        faultless = mentioned_are_faultless (program_meaning p c values number) ops [] r.tree e r.term.names (names_faultless p c values number ops assumes g) (λ n d i x. absurd (contains_nothing (Defined n d i) x)) r.term.are r.term.means (faultless g e r) k w;
      }
