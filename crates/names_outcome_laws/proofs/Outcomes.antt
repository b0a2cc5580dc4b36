-- Something comes of each program with its configuration.
use Rattle.std.proofs.Common.{◌≡◌, ◌≢◌, ◌∙◌, sym, ap, refl, subst, inl, inr, ℕ, List, [], ◌∷◌, ◌++◌, length, append-nil, append_assoc, ◌⊎◌, Result, Ok, Err}
use Rattle.std.specs.Prelude.{◌==◌, All, Bool, true, false, if◌then◌else◌, IfOk, Option, Some, None, option_map, slice_get, zero, suc}
use Rattle.std.proofs.lemmas.List.Elements.{All-head, All-tail}
use Rattle.base_core.specs.declared.place.Place.{Place}
use Rattle.values_core.specs.Data.{Val}
use Rattle.reading_trees.specs.declared.config.Config.{Config}
use Rattle.reading_trees.specs.declared.expr.Definition.{Definition}
use Rattle.reading_trees.specs.declared.module.Declared.{Declared}
use Rattle.reading_trees.specs.declared.module.DeclaredOperator.{DeclaredOperator}
use Rattle.reading_trees.specs.declared.module.Program.{Program}
use Rattle.reading_trees.specs.declared.module.Unit.{Unit as ModuleUnit}
use Rattle.reading_trees.specs.declared.module.Unit.TheVariants.{Variables, Constants, Recursive, Define, Assume, Instance, Passed}
use Rattle.names_terms.specs.declared.ids.DefId.{DefId}
use Rattle.names_terms.specs.declared.operator.Operator.{Operator}
use Rattle.names_terms.specs.declared.spec.Spec.{Spec}
use Rattle.names_terms.specs.Lists.{terms_list}
use Rattle.names_terms.specs.Terms.{Term, Terms, NoTerms, MoreTerms}
use Rattle.names_term_parts.specs.declared.fault.LevelFault.{LevelFault}
use Rattle.names_term_parts.specs.declared.fault.LevelFault.TheVariants.{TooHigh, PrimedArgument}
use Rattle.names_term_parts.specs.Parts.{listed}
use Rattle.names_term_levels.specs.Shape.{HasShape}
use Rattle.names_meanings.specs.Complaints.{Takes, with_names}
use Rattle.names_meanings.specs.declared.fault.NameFault.{NameFault}
use Rattle.names_meanings.specs.declared.fault.NameFault.TheVariants as name
use Rattle.names_program.specs.InUnits.{definitions_in, variables_in}
use Rattle.names_program.specs.Names.{Numbers, first_of, index_among, names_declared, names_defined}
use Rattle.names_tables.specs.NameFaults.{HasFineNames, IsFirstNameFault, UnitFault, declared_complaint, declared_complaints, definitions_before, params_complaint}
use Rattle.names_tables.specs.Values.{AreValues, HasAllValues, IsFirstWithoutValue}
use Rattle.names_resolving.specs.declared.fault.ResolveFault.{ResolveFault}
use Rattle.names_resolving.specs.declared.fault.ResolveFault.TheVariants.{NoMemory, NoOperator, NoValue, NotTheShape, TooManyVariables}
use Rattle.names_resolving.specs.Configured.{AreSteps, HasBody, HasNoShape, IsSilentOf, by_names, by_specification, first_too_high, first_without_operator, missing, operator_named}
use Rattle.names_resolving.specs.Givens.{first_given_fault}
use Rattle.names_resolving.specs.Refusals.{instance_names, of_level, of_name}
use Rattle.names_resolving.specs.Resolved as outcome
use Rattle.names_resolving.specs.Resolved.{HasFewVariables, IsConfigured, IsLevelled, IsNamed, IsOneForm, IsSpecOf, Resolved}
use Rattle.names_resolving.specs.Standing.{GivesShape}
use Rattle.names_resolving.specs.UnitLevels.{HasFineLevels, IsFirstLevelFault}
use Rattle.names_resolving.proofs.Shapes.{not_shapeless}
use Rattle.names_specification.specs.Behind.{looked_through, specification_of}
use Rattle.names_specification.specs.Resolving as wide
use Rattle.names_specification.specs.Resolving.{ResolvedBy, by_the_one_behind, refused_twice}
use Rattle.names_outcome_laws.specs.Programs as programs
use Rattle.names_outcome_laws.specs.Lets.{EachIsOfOneLet}
use Rattle.names_outcome_laws.specs.Programs.{IsGiven, NamedProgramsHaveOne, NamesAlwaysCome, NamesCome, ProgramsHaveAnOutcome}
use Rattle.names_outcome_laws.proofs.Assumed.{HasNames, SomeNamed, some_named}
use Rattle.names_outcome_laws.proofs.LevelFaults.{levels_fine_or_not}
use Rattle.names_outcome_laws.proofs.NameFaults.{names_fine_or_not}
use Rattle.names_outcome_laws.proofs.NoMemory.{IsReal, complaint_real, either_real}
use Rattle.names_outcome_laws.proofs.Operators.{HasRow, definition_named, first_none, givens_true, has_body, has_row, limits_true, some_silent}
use Rattle.names_outcome_laws.proofs.Searching.{AtMostFound}
use Rattle.names_outcome_laws.proofs.Shapes.{shape_or_none}
use Rattle.names_outcome_laws.proofs.Valuing.{all_values_or_not, some_values}

-- ---- names

params_real : (b : Bool) (r : DeclaredOperator) (n : ℕ) → IsReal (if b then None else Some (name.WrongArity r.name r.parameters n r.at))
params_real true r n = λ e. cc
params_real false r n = λ e. cc

defined_real : (r : DeclaredOperator) (d : Option Definition) → IsReal (params_complaint r d)
defined_real r None = λ e. cc
defined_real r (Some d) = params_real (r.parameters == length d.params) r (length d.params)

declared_real : (ds : List Definition) (r : DeclaredOperator) (i : Option ℕ) → IsReal (declared_complaint ds r i)
declared_real ds r None = λ e. cc
declared_real ds r (Some i) = defined_real r (slice_get ds i)

all_declared_real : (ds : List Definition) (rs : List DeclaredOperator) → IsReal (declared_complaints ds rs)
all_declared_real ds [] = λ e. cc
all_declared_real ds (r ∷ rs) =
    either_real (declared_complaint ds r (index_among (names_defined ds) r.name)) (declared_complaints ds rs) (declared_real ds r (index_among (names_defined ds) r.name)) (all_declared_real ds rs)

unit_real : (p : Program) (c : Config) (g : Takes) (i : ℕ) (u : ModuleUnit) (f : NameFault) → UnitFault p c g i u f → f ≢ name.NoMemory
unit_real p c g i (Define d) f (inl w) q = (let bad : name.Recursion d.name d.at ≡ name.NoMemory = sym w.1 ∙ q in cc)
unit_real p c g i (Define d) f (inr w) q = complaint_real d.body (with_names g d.params) (w.1 ∙ ap (λ (x : NameFault). Some x) q)
unit_real p c g i (Recursive rs) f w q = all_declared_real (definitions_in p.units) rs (w ∙ ap (λ (x : NameFault). Some x) q)
unit_real p c g i (Assume e) f w q = complaint_real e g (w ∙ ap (λ (x : NameFault). Some x) q)
unit_real p c g i (Variables ds) f w q = absurd w
unit_real p c g i (Constants ds) f w q = absurd w
unit_real p c g i Passed f w q = absurd w
unit_real p c g i (Instance x) f w q = absurd w

-- where a table comes in which every name means something, each row without a name is of one LET, if each definition of the program has a name
abbrev LetsOf : (p : Program) (c : Config) → NamesCome p c → Type 0
LetsOf p c (programs.too_many_variables d e) = Unit {0}
LetsOf p c (programs.wrong_name f few w real) = Unit {0}
LetsOf p c (programs.no_value d few fine w) = Unit {0}
LetsOf p c (programs.named values number ops assumes h) = HasNames p → EachIsOfOneLet ops assumes

abbrev NamesComeSo : Program → Config → Type 0
NamesComeSo p c = (n : NamesCome p c) × LetsOf p c n

names_come : (p : Program) (c : Config) → IsGiven p c → HasFewVariables p → HasFineNames p c ⊎ ((f : NameFault) × IsFirstNameFault p c f) → HasAllValues p c ⊎ ((d : Declared) × IsFirstWithoutValue p c d) → NamesComeSo p c
names_come p c g few (inr w) v = (programs.wrong_name w.0 few w.1 (unit_real p c w.1.is.known (definitions_before p.units w.1.index) w.1.is.unit w.0 w.1.is.wrong), tt)
names_come p c g few (inl fine) (inr w) = (programs.no_value w.0 few fine w.1, tt)
names_come p c g few (inl fine) (inl valued) =
    let v : (values : List Val) × AreValues p c values = some_values p c g.spelled in
    let n : SomeNamed p c v.0 = some_named p c v.0 fine g.few in
    (programs.named v.0 n.number n.table (listed n.assumes) (record { few = few; fine = fine; valued = valued; values_are = v.1; table = n.is_table; assumed = n.assumed }), n.lets)

names_come_so : (p : Program) (c : Config) → IsGiven p c → NamesComeSo p c
names_come_so p c g = by_variables (slice_get (variables_in p.units) 64) refl
  where
    by_variables : (o : Option Declared) → slice_get (variables_in p.units) 64 ≡ o → NamesComeSo p c
    by_variables (Some d) e = (programs.too_many_variables d e, tt)
    by_variables None e = names_come p c g e (names_fine_or_not p c) (all_values_or_not p c)

pub names_always_come : NamesAlwaysCome
names_always_come p c g = (names_come_so p c g).0

-- ---- the whole

some_terms : (done : Terms) (xs : List Term) → (ts : Terms) × (terms_list ts ≡ terms_list done ++ xs)
some_terms done [] = (done, sym (append-nil (terms_list done)))
some_terms done (x ∷ xs) =
    let r : (ts : Terms) × (terms_list ts ≡ (terms_list done ++ x ∷ []) ++ xs) = some_terms (MoreTerms done x) xs in
    (r.0, r.1 ∙ append_assoc (terms_list done) (x ∷ []) xs)

name_true : (is : List (List ℕ)) (f : NameFault) → f ≢ name.NoMemory → of_name is f ≢ NoMemory
name_true is (name.UnknownName n at) h q = cc
name_true is (name.WrongArity n found needed at) h q = cc
name_true is (name.Recursion n at) h q = cc
name_true is name.NoMemory h q = h refl

level_true : (f : LevelFault) → of_level f ≢ NoMemory
level_true (TooHigh found allowed at) q = cc
level_true (PrimedArgument at) q = cc

abbrev the_error : (A : Type 0) → ResolveFault → Result A ResolveFault
the_error A f = Err f

one_fault : {A : Type 0} (f g : ResolveFault) → the_error A f ≡ the_error A g → f ≡ g
one_fault f g e = cc

-- an outcome, and what is told of its table if it is a specification
abbrev HasOutcomeSo : Bool → Program → Config → Option (List ℕ) → Type 0
HasOutcomeSo wide p c silent =
    (r : Result Spec ResolveFault) × (r ≢ Err NoMemory) × ResolvedBy wide p c silent r × IfOk r (λ s. HasNames p → EachIsOfOneLet s.operators (terms_list s.assumes))

module _ (p : Program) (c : Config) (silent : Option (List ℕ)) where
  abbrev Outcome : Type 0
  Outcome = HasOutcomeSo false p c silent

  refused : (f : ResolveFault) → f ≢ NoMemory → Resolved p c silent (Err f) → Outcome
  refused f h r = (Err f, (λ e. h (one_fault f NoMemory e)), r, tt)

  module _ (values : List Val) (number : Numbers) (ops : List Operator) (assumes : List Term) (lets : HasNames p → EachIsOfOneLet ops assumes) where
    accepted : IsConfigured p c silent values number ops assumes → (init next : Term) → AreSteps p c number ops init next → first_too_high p c silent number ops ≡ None → missing p silent ≡ None → Outcome
    accepted h init next steps low there =
        let d : (d : Option DefId) × IsSilentOf p number silent d = some_silent p c values number ops h.levelled.named.table silent there in
        let ts : (ts : Terms) × (terms_list ts ≡ assumes) = some_terms NoTerms assumes in
        let s : Spec = record { files = p.files; variables = names_declared (variables_in p.units); operators = ops; init = init; next = next; silent = d.0; assumes = ts.0; unchecked = c.unchecked } in
        (Ok s, (λ e. cc), outcome.accepted values number ops assumes s h low (record { files = refl; variables = refl; operators = refl; steps = steps; silent_is = d.1; assumes_are = ts.1; unchecked = refl }), λ named. subst (λ (es : List Term). EachIsOfOneLet ops es) (sym ts.1) (lets named))

    by_limits : IsConfigured p c silent values number ops assumes → ((at : Place) → ¬ HasNoShape p c number ops at) → (init next : Term) → AreSteps p c number ops init next → missing p silent ≡ None → (o : Option ResolveFault) → first_too_high p c silent number ops ≡ o → Outcome
    by_limits h shaped init next steps there None e = accepted h init next steps e there
    by_limits h shaped init next steps there (Some f) e = refused f (λ q. limits_true p c silent number ops (e ∙ ap (λ (x : ResolveFault). Some x) q)) (outcome.too_high values number ops assumes f h shaped e)

    by_shape : IsConfigured p c silent values number ops assumes → missing p silent ≡ None → (n : List ℕ) → c.specification ≡ Some n → missing p (Some n) ≡ None → (r : HasRow p number ops n) → AtMostFound (λ (x : Term × Term). HasShape ops r.operator.body x.0 x.1) → Outcome
    by_shape h there n named at r (inl no_shape) =
        let d : (d : Definition) × (operator_named p n ≡ Some d) = definition_named p n at in
        refused (NotTheShape d.0.at) (λ e. cc)
        (outcome.no_shape values number ops assumes d.0.at h
        (record { name = n; named = named; definition = d.0; is = d.1; at_is = refl; body = r.operator.body; has = has_body p number ops n r; none = λ init next s. no_shape (init, next) s }))
    by_shape h there n named at r (inr found) =
        let body : HasBody p number ops n r.operator.body = has_body p number ops n r in
        let gives : GivesShape p number ops n found.0.0 found.0.1 = (r.operator.body, body, found.1) in
        by_limits h (not_shapeless p c number ops n named (Ok (record { init = found.0.0; next = found.0.1 })) gives) found.0.0 found.0.1 (by_specification n r.operator.body found.0.0 found.0.1 named body found.1) there (first_too_high p c silent number ops) refl

    by_form : IsConfigured p c silent values number ops assumes → missing p c.init ≡ None → missing p c.next ≡ None → missing p c.specification ≡ None → missing p silent ≡ None → IsOneForm c → Outcome
    by_form h init next specification there (inl f) =
        let at : missing p (Some f.0) ≡ None = subst (λ (o : Option (List ℕ)). missing p o ≡ None) f.1 specification in
        let r : HasRow p number ops f.0 = has_row p c values number ops h.levelled.named.table f.0 at in
        by_shape h there f.0 f.1 at r (shape_or_none ops r.operator.body)
    by_form h init next specification there (inr f) =
        let i : HasRow p number ops f.0 = has_row p c values number ops h.levelled.named.table f.0 (subst (λ (o : Option (List ℕ)). missing p o ≡ None) f.3 init) in
        let n : HasRow p number ops f.1 = has_row p c values number ops h.levelled.named.table f.1 (subst (λ (o : Option (List ℕ)). missing p o ≡ None) f.4 next) in
        by_limits h (λ at w. (let bad : None ≡ Some w.name = sym f.2 ∙ w.named in cc)) i.operator.body n.operator.body
        (by_names f.0 f.1 i.operator.body n.operator.body f.3 f.4 (has_body p number ops f.0 i) (has_body p number ops f.1 n)) there (first_too_high p c silent number ops) refl

    by_operators : IsLevelled p c values number ops assumes → IsOneForm c → (o : Option (List ℕ)) → first_without_operator p c silent ≡ o → Outcome
    by_operators h form (Some n) e = refused (NoOperator n) (λ q. cc) (outcome.no_operator values number ops assumes n h e)
    by_operators h form None e =
        let a : (missing p c.init ≡ None) × (first_of (missing p c.next) (first_of (missing p c.specification) (missing p silent)) ≡ None) = first_none (missing p c.init) (first_of (missing p c.next) (first_of (missing p c.specification) (missing p silent))) e in
        let b : (missing p c.next ≡ None) × (first_of (missing p c.specification) (missing p silent) ≡ None) = first_none (missing p c.next) (first_of (missing p c.specification) (missing p silent)) a.1 in
        let d : (missing p c.specification ≡ None) × (missing p silent ≡ None) = first_none (missing p c.specification) (missing p silent) b.1 in
        by_form (record { levelled = h; operators = e }) a.0 b.0 d.0 d.1 form

    by_levels : IsNamed p c values number ops assumes → first_given_fault p number ops c.givens ≡ None → IsOneForm c → HasFineLevels p number ops assumes ⊎ ((f : LevelFault) × IsFirstLevelFault p number ops assumes f) → Outcome
    by_levels h given form (inl fine) = by_operators (record { named = h; givens = given; levels = fine }) form (first_without_operator p c silent) refl
    by_levels h given form (inr w) = refused (of_level w.0) (level_true w.0) (outcome.wrong_level values number ops assumes w.0 h given w.1)

    by_givens : IsNamed p c values number ops assumes → IsOneForm c → (o : Option ResolveFault) → first_given_fault p number ops c.givens ≡ o → Outcome
    by_givens h form None e = by_levels h e form (levels_fine_or_not p number ops assumes)
    by_givens h form (Some f) e = refused f (λ q. givens_true p number ops c.givens (e ∙ ap (λ (x : ResolveFault). Some x) q)) (outcome.wrong_given values number ops assumes f h e)

  by_names_come : IsOneForm c → (n : NamesCome p c) → LetsOf p c n → Outcome
  by_names_come form (programs.too_many_variables d e) l = refused (TooManyVariables d.at) (λ q. cc) (outcome.too_many_variables d e)
  by_names_come form (programs.wrong_name f few w real) l = refused (of_name (instance_names p.units) f) (name_true (instance_names p.units) f real) (outcome.wrong_name f few w)
  by_names_come form (programs.no_value d few fine w) l = refused (NoValue d.name d.at) (λ q. cc) (outcome.no_value d few fine w)
  by_names_come form (programs.named values number ops assumes h) l = by_givens values number ops assumes l h form (first_given_fault p number ops c.givens) refl

as_it_stands : (p : Program) (c : Config) (silent : Option (List ℕ)) → IsGiven p c → HasOutcomeSo false p c silent
as_it_stands p c silent g = (let n : NamesComeSo p c = names_come_so p c g in by_names_come p c silent g.form n.0 n.1)

-- ---- with the word `--wide`

looked_form : (p : Program) (c : Config) → IsOneForm c → IsOneForm (looked_through p c)
looked_form p c (inl f) = inl (specification_of p c f.0, ap (option_map (specification_of p c)) f.1, f.2, f.3)
looked_form p c (inr f) = inr (f.0, f.1, ap (option_map (specification_of p c)) f.2, f.3, f.4)

looked_given : (p : Program) (c : Config) → IsGiven p c → IsGiven p (looked_through p c)
looked_given p c g = record { few = g.few; spelled = g.spelled; form = looked_form p c g.form }

behind : (p : Program) (c : Config) (silent : Option (List ℕ)) (f : ResolveFault) → the_error Spec f ≢ Err NoMemory → Resolved p c silent (Err f) → HasOutcomeSo false p (looked_through p c) silent → HasOutcomeSo true p c silent
behind p c silent f h w (Ok s, real, r, lets) = (Ok s, (λ e. cc), by_the_one_behind f s w r, lets)
behind p c silent f h w (Err g, real, r, lets) = (Err f, h, refused_twice f g w r, tt)

widely : (p : Program) (c : Config) (silent : Option (List ℕ)) → IsGiven p c → HasOutcomeSo false p c silent → HasOutcomeSo true p c silent
widely p c silent g (Ok s, real, r, lets) = (Ok s, real, wide.as_it_stands s r, lets)
widely p c silent g (Err f, real, r, lets) = behind p c silent f real r (as_it_stands p (looked_through p c) silent (looked_given p c g))

some_outcome : (wide : Bool) (p : Program) (c : Config) (silent : Option (List ℕ)) → IsGiven p c → HasOutcomeSo wide p c silent
some_outcome false p c silent g = as_it_stands p c silent g
some_outcome true p c silent g = widely p c silent g (as_it_stands p c silent g)

pub programs_have_an_outcome : ProgramsHaveAnOutcome
programs_have_an_outcome wide p c silent g = (let o : HasOutcomeSo wide p c silent = some_outcome wide p c silent g in (o.0, o.1, o.2))

-- ---- rows without a name

all_named : (ds : List Definition) → All (λ n. n ≢ []) (names_defined ds) → (i : ℕ) (d : Definition) → slice_get ds i ≡ Some d → d.name ≢ []
all_named [] h zero d at = absurd (cc)
all_named [] h (suc i) d at = absurd (cc)
all_named (x ∷ ds) h zero d at = (let same : x ≡ d = cc in λ e. All-head (λ n. n ≢ []) x.name (names_defined ds) h (ap (λ (y : Definition). y.name) same ∙ e))
all_named (x ∷ ds) h (suc i) d at = all_named ds (All-tail (λ n. n ≢ []) x.name (names_defined ds) h) i d at

if_named : (A : Type 0) (Q : Spec → Type 0) (r : Result Spec ResolveFault) → IfOk r (λ s. A → Q s) → A → IfOk r Q
if_named A Q (Ok s) h a = h a
if_named A Q (Err f) h a = tt

pub named_programs_have_one : NamedProgramsHaveOne
named_programs_have_one wide p c silent g named =
    let o : HasOutcomeSo wide p c silent = some_outcome wide p c silent g in
    (o.0, o.1, o.2, if_named (HasNames p) (λ s. EachIsOfOneLet s.operators (terms_list s.assumes)) o.0 o.3 (all_named (definitions_in p.units) named))
