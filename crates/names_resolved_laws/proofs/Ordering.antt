-- What resolving gives is a specification in order.
use Rattle.std.proofs.Common.{◌≡◌, ◌∙◌, sym, ap, refl, subst, ℕ, zero, suc, List, [], ◌∷◌, length, ◌<◌, ◌≤◌, inl, inr, arith}
use Rattle.std.specs.Prelude.{◌≢◌, Bool, true, false, nat_lt, AllPairs, Option, Some, None, Result, Ok, IfOk, slice_get}
use Rattle.std.proofs.lemmas.Bool.Decides.{nat_tests}
use Rattle.std.proofs.lemmas.Option.{slice_get_cases, slice_get_within, get_or_from_slice_get}
use Rattle.values_core.specs.Data.{Val}
use Rattle.reading_trees.specs.declared.config.Config.{Config}
use Rattle.reading_trees.specs.declared.expr.Definition.{Definition}
use Rattle.reading_trees.specs.declared.module.Declared.{Declared}
use Rattle.reading_trees.specs.declared.module.Program.{Program}
use Rattle.names_terms.specs.declared.level.Level.TheVariants.{State, Action}
use Rattle.names_terms.specs.declared.operator.Operator.{Operator}
use Rattle.names_terms.specs.declared.operator.Own.{Own}
use Rattle.names_terms.specs.declared.spec.Spec.{Spec}
use Rattle.names_terms.specs.Lists.{terms_list}
use Rattle.names_terms.specs.Terms.{Term}
use Rattle.names_program.specs.InUnits.{definitions_in, variables_in}
use Rattle.names_program.specs.Names.{Numbers, first_of, names_declared, names_defined, program_meaning}
use Rattle.names_tables.specs.Tables.{IsTable, IsTabled, unit_operator}
use Rattle.names_resolving.specs.declared.fault.ResolveFault.{ResolveFault}
use Rattle.names_resolving.specs.Configured.{AreSteps, IsSilentOf, first_too_high, missing, too_high}
use Rattle.names_resolving.specs.Resolved.{IsConfigured, Resolved, accepted, no_operator, no_shape, no_value, too_high as level_too_high, too_many_variables, wrong_given, wrong_level, wrong_name}
use Rattle.names_specification_laws.specs.IsSpec.{IsNeeded, IsSpec, IsTerm, has_name, in_assumption, in_init, in_next, is_silent}
use Rattle.names_specification_laws.specs.Meanings.{HasMeaning, NameMeanings, NamesFit, meaning}
use Rattle.names_specification_laws.proofs.Faults.{reached_are_faultless}
use Rattle.names_specification_laws.proofs.Reached.{reached_are_in_order}
use Rattle.names_resolved_laws.specs.InOrder.{IsWellFormed, ResolvedAreInOrder}
use Rattle.names_resolved_laws.proofs.Assumed.{assumed_good, assumes_in_order}
use Rattle.names_resolved_laws.proofs.Fitting.{names_fit}
use Rattle.names_resolved_laws.proofs.Readied.{Good, Ready, names_faultless, names_meant, numbered_good}
use Rattle.names_resolved_laws.proofs.Stepping.{IsStep, neither, silent_good, silent_in_order, steps_in_order}

name_at : (ds : List Definition) (i : ℕ) (d : Definition) → slice_get ds i ≡ Some d → slice_get (names_defined ds) i ≡ Some d.name
name_at [] i d e = absurd (cc)
name_at (x ∷ xs) zero d e = let same : x ≡ d = cc in ap (λ (y : Definition). Some y.name) same
name_at (x ∷ xs) (suc i) d e = name_at xs i d e

differ : (xs : List (List ℕ)) → AllPairs (λ a b. a ≢ b) xs → (i j : ℕ) (x : List ℕ) → slice_get xs i ≡ Some x → slice_get xs j ≡ Some x → i < j → ⊥
differ xs h i j x a b lt =
    h i j x lt (slice_get_within xs j x b) (get_or_from_slice_get xs i x x a ∙ sym (get_or_from_slice_get xs j x x b))

same_index : (xs : List (List ℕ)) → AllPairs (λ a b. a ≢ b) xs → (i j : ℕ) (x : List ℕ) → slice_get xs i ≡ Some x → slice_get xs j ≡ Some x → i ≡ j
same_index xs h i j x a b = one (nat_lt i j) (nat_lt j i) refl refl
  where
    one : (s t : Bool) → nat_lt i j ≡ s → nat_lt j i ≡ t → i ≡ j
    one true t q r = (let lt : i < j = grind (arith, nat_tests) in absurd (differ xs h i j x a b lt))
    one false true q r = (let lt : j < i = grind (arith, nat_tests) in absurd (differ xs h j i x b a lt))
    one false false q r = grind (arith, nat_tests)

few : (xs : List Declared) (n : ℕ) → slice_get xs n ≡ None → length xs ≤ n
few xs n e = elim (slice_get_cases xs n).1 [
  | inl w ↦ (let bad : None ≡ Some w.0 = sym e ∙ w.2 in absurd (cc))
  | inr w ↦ w.0
]

as_many : (ds : List Declared) → length (names_declared ds) ≡ length ds
as_many [] = refl
as_many (d ∷ ds) = ap suc (as_many ds)

named_at : (p : Program) → IsWellFormed p → (i : ℕ) (d : Definition) → slice_get (definitions_in p.units) i ≡ Some d → d.name ≢ []
named_at p well i d e z =
    let at : slice_get (names_defined (definitions_in p.units)) i ≡ Some d.name = name_at (definitions_in p.units) i d e in
    well.definitions_named i d.name (slice_get_within (names_defined (definitions_in p.units)) i d.name at) (get_or_from_slice_get (names_defined (definitions_in p.units)) i d.name d.name at ∙ z)

within : (known : NameMeanings) (ops : List Operator) (k : ℕ) → HasMeaning known ops k → k < length ops
within known ops _ (meaning k o sc t is level taken fit s h) = slice_get_within ops k o is

module _ (p : Program) (c : Config) (values : List Val) (number : Numbers) (ops : List Operator) (assumes : List Term) where
  row_of : IsTable p c values number ops → (i k : ℕ) (d : Definition) (o : Operator) → slice_get (definitions_in p.units) i ≡ Some d → number i ≡ Some k → slice_get ops k ≡ Some o → (own : Own) × (body : Term) × (unit_operator d own body ≡ o)
  row_of table i k d o at n e =
      let r : IsTabled p c values number ops i d = table.definitions i d at in
      let both : Some r.row ≡ Some k = sym r.numbered ∙ n in
      let row : r.row ≡ k = cc in
      let rows : Some (unit_operator d r.own r.body) ≡ Some o = sym r.stands ∙ ap (slice_get ops) row ∙ e in
      let same : unit_operator d r.own r.body ≡ o = cc in
      (r.own, r.body, same)

  row_name : IsTable p c values number ops → (i k : ℕ) (d : Definition) (o : Operator) → slice_get (definitions_in p.units) i ≡ Some d → number i ≡ Some k → slice_get ops k ≡ Some o → o.name ≡ d.name
  row_name table i k d o at n e = sym (ap (λ (x : Operator). x.name) (row_of table i k d o at n e).2)

  outermost : IsTable p c values number ops → (k : ℕ) (o : Operator) → slice_get ops k ≡ Some o → o.name ≢ [] → o.outer ≡ 0
  outermost table k o e named =
      let x : (i : ℕ) × (d : Definition) × (slice_get (definitions_in p.units) i ≡ Some d) × (number i ≡ Some k) = table.named k o e named in
      sym (ap (λ (y : Operator). y.outer) (row_of table x.0 k x.1 o x.2 x.3 e).2)

  operators_differ : IsWellFormed p → IsTable p c values number ops → (j k : ℕ) (o q : Operator) → slice_get ops j ≡ Some o → slice_get ops k ≡ Some q → o.name ≢ [] → o.name ≡ q.name → j ≡ k
  operators_differ well table j k o q a b named same =
      let x : (i : ℕ) × (d : Definition) × (slice_get (definitions_in p.units) i ≡ Some d) × (number i ≡ Some j) = table.named j o a named in
      let y : (i : ℕ) × (d : Definition) × (slice_get (definitions_in p.units) i ≡ Some d) × (number i ≡ Some k) = table.named k q b (λ z. named (same ∙ z)) in
      let names : y.1.name ≡ x.1.name = sym (row_name table y.0 k y.1 q y.2 y.3 b) ∙ sym same ∙ row_name table x.0 j x.1 o x.2 x.3 a in
      let i : x.0 ≡ y.0 = same_index (names_defined (definitions_in p.units)) well.definitions_differ x.0 y.0 x.1.name (name_at (definitions_in p.units) x.0 x.1 x.2) (name_at (definitions_in p.units) y.0 y.1 y.2 ∙ ap Some names) in
      let both : Some j ≡ Some k = sym x.3 ∙ ap number i ∙ y.3 in
      cc

needed_good : (p : Program) (c : Config) (silent : Option (List ℕ)) (values : List Val) (number : Numbers) (s : Spec) → Ready p c values number s.operators (terms_list s.assumes) → IsStep p c values number s.operators (terms_list s.assumes) State s.init → IsStep p c values number s.operators (terms_list s.assumes) Action s.next → missing p silent ≡ None → IsSilentOf p number silent s.silent → (k : ℕ) → IsNeeded s k → Good p c values number s.operators (terms_list s.assumes) k
needed_good p c silent values number s g init next there is _ (has_name k o e n) =
    let a : (i : ℕ) × (d : Definition) × (slice_get (definitions_in p.units) i ≡ Some d) × (number i ≡ Some k) = g.levelled.named.table.named k o e n in
    numbered_good p c values number s.operators (terms_list s.assumes) g k (record { index = a.0; definition = a.1; stands = a.2; numbered = a.3 })
needed_good p c silent values number s g init next there is _ (in_init k m) = init.mentioned k m
needed_good p c silent values number s g init next there is _ (in_next k m) = next.mentioned k m
needed_good p c silent values number s g init next there is _ (in_assumption e k h m) =
    assumed_good p c values number s.operators (terms_list s.assumes) g e h k m
needed_good p c silent values number s g init next there is _ (is_silent d h) =
    silent_good p c values number s.operators (terms_list s.assumes) g silent there d (subst (λ o. IsSilentOf p number silent o) h is)

spec_in_order : (p : Program) (c : Config) (silent : Option (List ℕ)) (values : List Val) (number : Numbers) (s : Spec) → IsWellFormed p → IsConfigured p c silent values number s.operators (terms_list s.assumes) → first_too_high p c silent number s.operators ≡ None → AreSteps p c number s.operators s.init s.next → IsSilentOf p number silent s.silent → s.variables ≡ names_declared (variables_in p.units) → IsSpec s
spec_in_order p c silent values number s well h levels steps is vars =
    let g : Ready p c values number s.operators (terms_list s.assumes) = record { well = well; levelled = h.levelled } in
    let x = neither (missing p c.init) (first_of (missing p c.next) (first_of (missing p c.specification) (missing p silent))) h.operators in
    let y = neither (missing p c.next) (first_of (missing p c.specification) (missing p silent)) x.1 in
    let there : missing p silent ≡ None = (neither (missing p c.specification) (missing p silent) y.1).1 in
    let u = neither (too_high p number s.operators State c.init) (first_of (too_high p number s.operators Action c.next) (too_high p number s.operators Action silent)) levels in
    let low : too_high p number s.operators Action silent ≡ None = (neither (too_high p number s.operators Action c.next) (too_high p number s.operators Action silent) u.1).1 in
    let both = steps_in_order p c values number s.operators (terms_list s.assumes) g silent s.init s.next h.operators levels steps in
    let term : (e : Term) → IsTerm (length (names_declared (variables_in p.units))) s.operators 0 e → IsTerm (length s.variables) s.operators 0 e = λ e w. subst (λ (l : List (List ℕ)). IsTerm (length l) s.operators 0 e) (sym vars) w in
    let fit : NamesFit (program_meaning p c values number) (length s.variables) s.operators = subst (λ (l : List (List ℕ)). NamesFit (program_meaning p c values number) (length l) s.operators) (sym vars) (names_fit p c values number s.operators h.levelled.named.table) in
    let good : (k : ℕ) → IsNeeded s k → Good p c values number s.operators (terms_list s.assumes) k = needed_good p c silent values number s g both.0 both.1 there is in
    record {
      few = subst (λ (l : List (List ℕ)). length l ≤ 64) (sym vars) (subst (λ (n : ℕ). n ≤ 64) (sym (as_many (variables_in p.units))) (few (variables_in p.units) 64 h.levelled.named.few));
      variables_differ = subst (λ (l : List (List ℕ)). AllPairs (λ a b. a ≢ b) l) (sym vars) well.variables_differ;
      operators_differ = operators_differ p c values number s.operators (terms_list s.assumes) well h.levelled.named.table;
      outermost = outermost p c values number s.operators (terms_list s.assumes) h.levelled.named.table;
      smaller = h.levelled.named.table.smaller;
      bodies = λ k o r q. (let z = reached_are_in_order s (program_meaning p c values number) fit (names_meant p c values number s.operators (terms_list s.assumes) g) (λ j n. (good j n).meant) k o r q in (record { rows = z.0; bounded = reached_are_faultless s (program_meaning p c values number) (names_faultless p c values number s.operators (terms_list s.assumes) g) (λ j n. (good j n).faultless) k o r q }, z.1));
      init = (term s.init both.0.term, both.0.level);
      next = (term s.next both.1.term, both.1.level);
      uses = ((λ k m. within (program_meaning p c values number) s.operators k (both.0.mentioned k m).meant), (λ k m. within (program_meaning p c values number) s.operators k (both.1.mentioned k m).meant));
      silent = silent_in_order p c values number s.operators (terms_list s.assumes) g silent there low s.silent is (named_at p well);
      assumes = λ e w. (let z = assumes_in_order p c values number s.operators (terms_list s.assumes) g e w in (term e z.0, z.1));
    }

accepted_in_order : (p : Program) (c : Config) (silent : Option (List ℕ)) (r : Result Spec ResolveFault) → IsWellFormed p → Resolved p c silent r → IfOk r IsSpec
accepted_in_order p c silent _ well (too_many_variables d e) = tt
accepted_in_order p c silent _ well (wrong_name f a b) = tt
accepted_in_order p c silent _ well (no_value d a b e) = tt
accepted_in_order p c silent _ well (wrong_given values number ops assumes f a b) = tt
accepted_in_order p c silent _ well (wrong_level values number ops assumes f a b e) = tt
accepted_in_order p c silent _ well (no_operator values number ops assumes n a b) = tt
accepted_in_order p c silent _ well (no_shape values number ops assumes at a b) = tt
accepted_in_order p c silent _ well (level_too_high values number ops assumes f a b e) = tt
accepted_in_order p c silent _ well (accepted values number ops assumes s conf low is) =
    let here : IsConfigured p c silent values number s.operators (terms_list s.assumes) = subst (λ (l : List Term). IsConfigured p c silent values number s.operators l) (sym is.assumes_are) (subst (λ (l : List Operator). IsConfigured p c silent values number l assumes) (sym is.operators) conf) in
    spec_in_order p c silent values number s well here (ap (first_too_high p c silent number) is.operators ∙ low) (subst (λ (l : List Operator). AreSteps p c number l s.init s.next) (sym is.operators) is.steps) is.silent_is is.variables

pub resolved_are_in_order : ResolvedAreInOrder
resolved_are_in_order p c silent s well h = accepted_in_order p c silent (Ok s) well h
