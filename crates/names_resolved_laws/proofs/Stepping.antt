-- Init, Next and the operator of the steps without a line.
use Rattle.std.proofs.Common.{◌≡◌, ◌∙◌, sym, ap, refl, subst, ℕ, List, [], length, ◌+◌, arith}
use Rattle.std.specs.Prelude.{◌==◌, ◌≢◌, Bool, true, false, if◌then◌else◌, Option, Some, None, IfSome, slice_get}
use Rattle.std.proofs.lemmas.Bool.Decides.{nat_tests}
use Rattle.values_core.specs.Data.{Val}
use Rattle.reading_trees.specs.declared.config.Config.{Config}
use Rattle.reading_trees.specs.declared.expr.Definition.{Definition}
use Rattle.reading_trees.specs.declared.module.Program.{Program}
use Rattle.names_terms.specs.declared.ids.DefId.{DefId}
use Rattle.names_terms.specs.declared.level.Level.{Level}
use Rattle.names_terms.specs.declared.level.Level.TheVariants.{State, Action}
use Rattle.names_terms.specs.declared.operator.Operator.{Operator}
use Rattle.names_terms.specs.declared.operator.Own.{Own}
use Rattle.names_terms.specs.Terms.{Term, level_of}
use Rattle.names_term_parts.specs.Limits.{is_above}
use Rattle.names_term_parts.specs.Slots.{Mentions}
use Rattle.names_program.specs.InUnits.{definitions_in, variables_in}
use Rattle.names_program.specs.Names.{Numbers, definition_index, first_of, names_declared}
use Rattle.names_tables.specs.Tables.{IsTable, IsTabled, unit_operator}
use Rattle.names_resolving.specs.declared.fault.ResolveFault.TheVariants.{LevelTooHigh}
use Rattle.names_resolving.specs.Configured.{AreSteps, HasBody, IsSilentOf, above, by_names, by_specification, definition_of, first_too_high, first_without_operator, if_alone, level_named, missing, number_named, operator_for, operator_named, row_named, too_high, unless_there}
use Rattle.names_resolving.specs.Givens.{level_in, row_of}
use Rattle.names_specification_laws.specs.IsSpec.{IsAtMost, IsSilent, IsTerm}
use Rattle.names_specification_laws.proofs.Shaped.{shapes_are_in_order, shapes_mention}
use Rattle.names_resolved_laws.proofs.Fitting.{IsNumbered}
use Rattle.names_resolved_laws.proofs.Readied.{Good, Ready, body_in_order, mentioned_good, numbered_good}

-- neither is there, where the first of both is not
pub neither : {A : Type 0} (a b : Option A) → first_of a b ≡ None → (a ≡ None) × (b ≡ None)
neither None b e = (refl, e)
neither (Some x) b e = absurd (cc)

-- the definition behind a name that has an operator, and its row
pub record IsFound (p : Program) (number : Numbers) (ops : List Operator) (n : List ℕ) : Type 0 where
  pub index : ℕ
  pub definition : Definition
  pub row : ℕ
  pub own : Own
  pub body : Term
  pub named : operator_named p n ≡ Some definition
  pub at : definition_index p n ≡ Some index
  pub stands : slice_get (definitions_in p.units) index ≡ Some definition
  pub alone : length definition.params ≡ 0
  pub numbered : number index ≡ Some row
  pub is : slice_get ops row ≡ Some (unit_operator definition own body)

there : (n : List ℕ) (d : Option Definition) → unless_there n d ≡ None → (x : Definition) × (d ≡ Some x)
there n (Some d) e = (d, refl)
there n None e = absurd (cc)

was_alone : (o : Option Definition) (x : Definition) → if_alone o ≡ Some x → (o ≡ Some x) × (length x.params ≡ 0)
was_alone None x e = absurd (cc)
was_alone (Some d) x e = one (length d.params == 0) refl e
  where
    one : (b : Bool) → (length d.params == 0) ≡ b → (if b then Some d else None) ≡ Some x → (Some d ≡ Some x) × (length x.params ≡ 0)
    one true q r =
        let same : d ≡ x = cc in
        let zero_is : length d.params ≡ 0 = grind (arith, nat_tests) in
        (r, subst (λ (y : Definition). length y.params ≡ 0) same zero_is)
    one false q r = absurd (cc)

indexed : (p : Program) (o : Option ℕ) (d : Definition) → definition_of p o ≡ Some d → (i : ℕ) × (o ≡ Some i) × (slice_get (definitions_in p.units) i ≡ Some d)
indexed p None d e = absurd (cc)
indexed p (Some i) d e = (i, refl, e)

pub found : (p : Program) (c : Config) (values : List Val) (number : Numbers) (ops : List Operator) (n : List ℕ) → IsTable p c values number ops → missing p (Some n) ≡ None → IsFound p number ops n
found p c values number ops n table e =
    let a : (x : Definition) × (operator_named p n ≡ Some x) = there n (operator_named p n) e in
    let b : (definition_of p (definition_index p n) ≡ Some a.0) × (length a.0.params ≡ 0) = was_alone (definition_of p (definition_index p n)) a.0 a.1 in
    let k : (i : ℕ) × (definition_index p n ≡ Some i) × (slice_get (definitions_in p.units) i ≡ Some a.0) = indexed p (definition_index p n) a.0 b.0 in
    let r : IsTabled p c values number ops k.0 a.0 = table.definitions k.0 a.0 k.2 in
    record { index = k.0; definition = a.0; row = r.row; own = r.own; body = r.body; named = a.1; at = k.1; stands = k.2; alone = b.1; numbered = r.numbered; is = r.stands }

not_above : (found limit : Level) (d : Definition) → above found limit (Some d) ≡ None → is_above found limit ≡ false
not_above found limit d e = one (is_above found limit) e
  where
    one : (b : Bool) → (if b then Some (LevelTooHigh found limit d.at) else None) ≡ None → b ≡ false
    one true q = absurd (cc)
    one false q = refl

module _ (p : Program) (c : Config) (values : List Val) (number : Numbers) (ops : List Operator) (assumes : List Term) where
  pub found_is : (n : List ℕ) (f : IsFound p number ops n) → operator_for p number ops n ≡ Some (unit_operator f.definition f.own f.body)
  found_is n f = ap (row_named number ops) f.at ∙ ap (row_of ops) f.numbered ∙ f.is

  pub found_numbered : (n : List ℕ) (f : IsFound p number ops n) → IsNumbered p number f.row
  found_numbered n f = record { index = f.index; definition = f.definition; stands = f.stands; numbered = f.numbered }

  body_of : (n : List ℕ) (f : IsFound p number ops n) (body : Term) → HasBody p number ops n body → f.body ≡ body
  body_of n f body h =
      let both : Some (unit_operator f.definition f.own f.body) ≡ Some h.operator = sym (found_is n f) ∙ h.is in
      let same : unit_operator f.definition f.own f.body ≡ h.operator = cc in
      ap (λ (o : Operator). o.body) same ∙ h.body_is

  pub level_found : (n : List ℕ) (limit : Level) (f : IsFound p number ops n) → too_high p number ops limit (Some n) ≡ None → is_above (level_of f.body) limit ≡ false
  level_found n limit f e =
      let level : level_named number ops (definition_index p n) ≡ level_of f.body = ap (level_named number ops) f.at ∙ ap level_in (ap (row_of ops) f.numbered ∙ f.is) in
      not_above (level_of f.body) limit f.definition (ap (λ (l : Level). above l limit (Some f.definition)) (sym level) ∙ ap (above (level_named number ops (definition_index p n)) limit) (sym f.named) ∙ e)

  -- the body behind a name is in order, and what it mentions is good
  term_found : Ready p c values number ops assumes → (n : List ℕ) (f : IsFound p number ops n) → IsTerm (length (names_declared (variables_in p.units))) ops 0 f.body
  term_found g n f =
      let none : 0 + length f.definition.params ≡ 0 = omega (arith, f.alone) in
      subst (λ (k : ℕ). IsTerm (length (names_declared (variables_in p.units))) ops k f.body) none (body_in_order p c values number ops assumes g f.row (unit_operator f.definition f.own f.body) (found_numbered n f) f.is).0

  good_found : Ready p c values number ops assumes → (n : List ℕ) (f : IsFound p number ops n) (k : ℕ) → Mentions f.body k → Good p c values number ops assumes k
  good_found g n f k m =
      mentioned_good p c values number ops assumes g f.row (unit_operator f.definition f.own f.body) k (numbered_good p c values number ops assumes g f.row (found_numbered n f)) f.is m

  -- a term in order, of that level at most, which mentions what is good
  pub record IsStep (limit : Level) (e : Term) : Type 0 where
    pub term : IsTerm (length (names_declared (variables_in p.units))) ops 0 e
    pub level : IsAtMost limit e
    pub mentioned : (k : ℕ) → Mentions e k → Good p c values number ops assumes k

  by_name : Ready p c values number ops assumes → (o : Option (List ℕ)) (n : List ℕ) (limit : Level) (e : Term) → o ≡ Some n → missing p o ≡ None → too_high p number ops limit o ≡ None → HasBody p number ops n e → IsStep limit e
  by_name g o n limit e is m h b =
      let f : IsFound p number ops n = found p c values number ops n g.levelled.named.table (ap (missing p) (sym is) ∙ m) in
      subst (λ (x : Term). IsStep limit x) (body_of n f e b) (record {
        term = term_found g n f;
        level = level_found n limit f (ap (too_high p number ops limit) (sym is) ∙ h);
        mentioned = good_found g n f;
      })

  pub steps_in_order : Ready p c values number ops assumes → (silent : Option (List ℕ)) (init next : Term) → first_without_operator p c silent ≡ None → first_too_high p c silent number ops ≡ None → AreSteps p c number ops init next → IsStep State init × IsStep Action next
  steps_in_order g silent _ _ operators levels (by_names m n init next a b i j) =
      let x = neither (missing p c.init) (first_of (missing p c.next) (first_of (missing p c.specification) (missing p silent))) operators in
      let y = neither (missing p c.next) (first_of (missing p c.specification) (missing p silent)) x.1 in
      let u = neither (too_high p number ops State c.init) (first_of (too_high p number ops Action c.next) (too_high p number ops Action silent)) levels in
      let v = neither (too_high p number ops Action c.next) (too_high p number ops Action silent) u.1 in
      (by_name g c.init m State init a x.0 u.0 i, by_name g c.next n Action next b y.0 v.0 j)
  steps_in_order g silent _ _ operators levels (by_specification n body init next a b shape) =
      let x = neither (missing p c.init) (first_of (missing p c.next) (first_of (missing p c.specification) (missing p silent))) operators in
      let y = neither (missing p c.next) (first_of (missing p c.specification) (missing p silent)) x.1 in
      let z = neither (missing p c.specification) (missing p silent) y.1 in
      let f : IsFound p number ops n = found p c values number ops n g.levelled.named.table (ap (missing p) (sym a) ∙ z.0) in
      let same : f.body ≡ body = body_of n f body b in
      let whole : IsTerm (length (names_declared (variables_in p.units))) ops 0 body = subst (λ (e : Term). IsTerm (length (names_declared (variables_in p.units))) ops 0 e) same (term_found g n f) in
      let good : (k : ℕ) → Mentions body k → Good p c values number ops assumes k = subst (λ (e : Term). (k : ℕ) → Mentions e k → Good p c values number ops assumes k) same (good_found g n f) in
      let r = shapes_are_in_order (length (names_declared (variables_in p.units))) ops 0 body init next shape whole in
      (record { term = r.0; level = r.1; mentioned = λ k m. good k ((shapes_mention ops body init next shape k).0 m) }, record { term = r.2; level = r.3; mentioned = λ k m. good k ((shapes_mention ops body init next shape k).1 m) })

  silent_found : Ready p c values number ops assumes → (n : List ℕ) (k : DefId) (f : IsFound p number ops n) → number_named number (definition_index p n) ≡ Some k.0 → k.0 ≡ f.row
  silent_found g n k f e =
      let both : Some k.0 ≡ Some f.row = sym e ∙ ap (number_named number) f.at ∙ f.numbered in
      cc

  pub silent_good : Ready p c values number ops assumes → (silent : Option (List ℕ)) → missing p silent ≡ None → (k : DefId) → IsSilentOf p number silent (Some k) → Good p c values number ops assumes k.0
  silent_good g None m k h = absurd h
  silent_good g (Some n) m k h =
      let f : IsFound p number ops n = found p c values number ops n g.levelled.named.table m in
      subst (λ (j : ℕ). Good p c values number ops assumes j) (sym (silent_found g n k f h)) (numbered_good p c values number ops assumes g f.row (found_numbered n f))

  pub silent_in_order : Ready p c values number ops assumes → (silent : Option (List ℕ)) → missing p silent ≡ None → too_high p number ops Action silent ≡ None → (o : Option DefId) → IsSilentOf p number silent o → ((i : ℕ) (d : Definition) → slice_get (definitions_in p.units) i ≡ Some d → d.name ≢ []) → IfSome o (λ d. IsSilent ops d.0)
  silent_in_order g silent m l None h named = tt
  silent_in_order g None m l (Some k) h named = absurd h
  silent_in_order g (Some n) m l (Some k) h named =
      let f : IsFound p number ops n = found p c values number ops n g.levelled.named.table m in
      record {
        operator = unit_operator f.definition f.own f.body;
        is = ap (slice_get ops) (silent_found g n k f h) ∙ f.is;
        named = named f.index f.definition f.stands;
        alone = f.alone;
        level = level_found n Action f l;
      }
