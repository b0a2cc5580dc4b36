-- The definitions of a LET, one behind the other: some term is meant by each body, and each gets its row.
use Rattle.std.proofs.Common.{◌≡◌, ◌∙◌, ap, refl, subst, List, [], ◌∷◌, ◌++◌, length}
use Rattle.std.specs.Prelude.{ℕ, Bool, true, false, if◌then◌else◌, Some, None, set, take}
use Rattle.values_core.specs.Data.{truth}
use Rattle.reading_trees.specs.declared.expr.Definition.{Definition}
use Rattle.reading_trees.specs.declared.form.DefinitionForm.{DefinitionForm}
use Rattle.reading_trees.specs.declared.form.DefinitionForm.TheVariants as forms
use Rattle.reading_trees.specs.Trees as tree
use Rattle.reading_trees.specs.Trees.{Tree}
use Rattle.names_terms.specs.declared.ids.DefId.{DefId}
use Rattle.names_terms.specs.declared.operator.Operator.{Operator}
use Rattle.names_terms.specs.declared.operator.Own.{Own}
use Rattle.names_terms.specs.declared.operator.Own.TheVariants as owns
use Rattle.names_terms.specs.Terms.{Term}
use Rattle.names_scopes.specs.declared.scope.Local.TheVariants.{Defined}
use Rattle.names_scopes.specs.Mentions.{is_one_of, mentions}
use Rattle.names_scopes.specs.Scopes.{bind, slots}
use Rattle.names_meanings.specs.Around.{Around, takes}
use Rattle.names_meanings.specs.Complaints.{Takes, complaint, with_names, with_itself, with_definitions, definitions_complaint}
use Rattle.names_meanings.specs.Means.{local_operator, no_body}
use Rattle.names_meanings.specs.Owned.{own_in, own_complaint, body_complaint, one_complaint, DefinitionRead, IsBegun, IsEnded, IsKept, Reserves}
use Rattle.names_meanings.specs.Owning.{own_of}
use Rattle.names_meanings.specs.Reads.{ResolvesTo, ResolvesDefinitions, cut}
use Rattle.names_meanings.proofs.AroundLemmas.{around_cut, around_defined, around_settled, known_below, order_kept, order_reserved, order_settled, takes_grown}
use Rattle.names_meanings.proofs.Defining.{definition_kept, definition_read}
use Rattle.names_meanings.proofs.MeansBelow.{inside_below}
use Rattle.names_meanings.proofs.Reading.{grows_same}
use Rattle.names_meanings.proofs.Risen.{body_scope}
use Rattle.names_meanings.proofs.StandingOn.{at_end}
use Rattle.std.proofs.lemmas.Option.{slice_get_within}
use Rattle.names_outcome_laws.proofs.Lets.{AddsLets, adds_both, adds_function, adds_none, adds_row}
use Rattle.names_outcome_laws.proofs.Named.{SomeTerm}
use Rattle.names_outcome_laws.proofs.Reading.{Stands, around_grown, cut_back, fine_names, left_none, right_none, scoped, stands_names}

-- one definition was read
pub record SomeDefinition (m : Around) (d : Definition) : Type 0 where
  pub behind : Around
  pub number : DefId
  pub read : DefinitionRead m behind d number
  pub stands : Stands behind
  pub lets : AddsLets m.table behind.table (number.0 ∷ [])

-- definitions were read
pub record SomeDefinitions (w : Around) (ds : tree.Definitions) : Type 0 where
  pub behind : Around
  pub numbers : List ℕ
  pub read : ResolvesDefinitions w behind ds numbers
  pub stands : Stands behind
  pub lets : AddsLets w.table behind.table numbers

pub no_definitions : (w : Around) → Stands w → SomeDefinitions w tree.NoDefinitions
no_definitions w s = record {
  behind = w;
  numbers = [];
  read = record { kept = refl; grown = grows_same w.table; unnamed = refl; ordered = λ o. o; taken = refl; means = λ all g. (refl, refl); fine = refl };
  stands = s;
  lets = adds_none w.table;
}

-- some term is meant by a body, wherever nothing is wrong with its names
abbrev Body : Definition → Type 0
Body d = (w : Around) → Stands w → complaint (takes w) d.body ≡ None → SomeTerm w d.body

abbrev ParamsBound : Around → Definition → Around
ParamsBound p d = scoped p (bind p.here.scope d.params)

-- behind its body the scope is as it was before
abbrev behind_body : (m p : Around) (d : Definition) → SomeTerm (ParamsBound p d) d.body → Around
behind_body m p d r = record { here = cut (length m.here.scope) (ParamsBound p d).here; table = r.behind.table }

read_there : (m p : Around) (d : Definition) (r : SomeTerm (ParamsBound p d) d.body) → Stands (ParamsBound p d) → ResolvesTo (ParamsBound p d) (behind_body m p d r) (length m.here.scope) d.body r.what
read_there m p d r s = cut_back (ParamsBound p d) r.behind (length m.here.scope) d.body r.what s r.read

stands_there : (m p : Around) (d : Definition) (r : SomeTerm (ParamsBound p d) d.body) → Stands (ParamsBound p d) → Stands (behind_body m p d r)
stands_there m p d r s =
    around_grown p.here.names (take (length m.here.scope) (bind p.here.scope d.params)) p.table r.behind.table
    (around_cut p.here.names (bind p.here.scope d.params) p.table (length m.here.scope) s) r.read.grown

-- one that does not use itself: its row comes behind those of its own LETs
abbrev added_row : Around → Definition → Term → Operator
added_row w d x = local_operator (slots w.here.scope) (length d.params) owns.Apart x

abbrev added : Around → Definition → Term → Around
added w d x = record {
  here = record { names = w.here.names; scope = w.here.scope ++ Defined d.name (record { 0 = length w.table }) (length d.params) ∷ [] };
  table = w.table ++ added_row w d x ∷ [];
}

ends_apart : (w : Around) (d : Definition) (x : Term) → Stands w → IsKept w d x None → IsEnded w (added w d x) d x None (record { 0 = length w.table })
ends_apart w d x s k = record {
  number = refl;
  names = refl;
  scope = refl;
  table = refl;
  ordered = order_kept w w.here.names w.here.scope w.table (w.table ++ added_row w d x ∷ []) (added_row w d x) refl refl refl (inside_below w.here.names w.here.scope w.table w k.0 k.1 x s refl k.2);
}

-- a function that uses itself: its place is kept before its body is read
abbrev reserved_row : Around → Definition → Operator
reserved_row m d = local_operator (slots m.here.scope) (length d.params) owns.Function no_body

abbrev reserved : Around → Definition → Around
reserved m d = record {
  here = record { names = m.here.names; scope = m.here.scope ++ Defined d.name (record { 0 = length m.table }) (length d.params) ∷ [] };
  table = m.table ++ reserved_row m d ∷ [];
}

reserves : (m : Around) (d : Definition) → Reserves m (reserved m d) d.name (length d.params) (record { 0 = length m.table })
reserves m d = record {
  number = refl;
  names = refl;
  scope = refl;
  table = refl;
  ordered = order_reserved m m.here.names m.here.scope m.table (m.table ++ reserved_row m d ∷ []) (reserved_row m d) refl refl refl refl (known_below no_body (truth false) refl (length (m.table ++ reserved_row m d ∷ [])));
}

abbrev settled_row : Around → Definition → Term → Operator
settled_row w d x = local_operator (slots w.here.scope) (length d.params) owns.Function x

abbrev settled : Around → Definition → Term → DefId → Around
settled w d x k = record {
  here = record { names = w.here.names; scope = w.here.scope ++ Defined d.name k (length d.params) ∷ [] };
  table = set w.table k.0 (settled_row w d x);
}

ends_function : (w : Around) (d : Definition) (x : Term) (k : DefId) → Stands w → IsKept w d x (Some k) → IsEnded w (settled w d x k) d x (Some k) k
ends_function w d x k s h = (
  refl,
  record {
    names = refl;
    scope = refl;
    table = refl;
    ordered = order_settled w w.here.names w.here.scope w.table (set w.table k.0 (settled_row w d x)) k.0 (settled_row w d x) refl refl refl h.1 h.2;
  },
)

-- the names that the body of such a function sees
function_takes : (m : Around) (d : Definition) → Stands m → takes (ParamsBound (reserved m d) d) ≡ with_names (with_itself owns.Function (takes m) d.name (length d.params)) d.params
function_takes m d s =
    body_scope m.here.names (reserved m d).table m.here.scope (takes m) d.name (record { 0 = length m.table }) d.params no_body owns.Function
    (takes_grown m.here.names m.here.scope m.table (reserved m d).table s (reserved_row m d ∷ [], refl)) (at_end m.table (reserved_row m d))

-- ---- one definition

some_apart : (m : Around) (d : Definition) → own_in d ≡ owns.Apart → Stands m → own_complaint (takes m) d ≡ None → body_complaint (takes m) d ≡ None → Body d → SomeDefinition m d
some_apart m d apart s i q body =
    let known : complaint (with_names (takes m) d.params) d.body ≡ None =
    subst (λ (o : Own). complaint (with_names (with_itself o (takes m) d.name (length d.params)) d.params) d.body ≡ None) apart q in
    let here : Stands (ParamsBound m d) = stands_names m d.params s in
    let r : SomeTerm (ParamsBound m d) d.body = body (ParamsBound m d) here (fine_names m d.params d.body known) in
    let begun : IsBegun m m d None = (apart, refl) in
    let read : ResolvesTo (ParamsBound m d) (behind_body m m d r) (length m.here.scope) d.body r.what = read_there m m d r here in
    let there : Stands (behind_body m m d r) = stands_there m m d r here in
    let kept : IsKept (behind_body m m d r) d r.what None = definition_kept m m (ParamsBound m d) (behind_body m m d r) (length m.here.scope) d r.what None s i refl begun refl read in
    record {
      behind = added (behind_body m m d r) d r.what;
      number = record { 0 = length (behind_body m m d r).table };
      read = definition_read m m (ParamsBound m d) (behind_body m m d r) (added (behind_body m m d r) d r.what) (length m.here.scope) d r.what None (record { 0 = length (behind_body m m d r).table }) s i refl begun refl read (ends_apart (behind_body m m d r) d r.what there kept);
      stands = around_defined (behind_body m m d r).here.names (behind_body m m d r).here.scope (behind_body m m d r).table (added_row (behind_body m m d r) d r.what) d.name (record { 0 = length (behind_body m m d r).table }) (length d.params) refl there;
      lets = adds_row m.table r.behind.table (added_row (behind_body m m d r) d r.what) refl r.lets;
    }

some_function : (m : Around) (d : Definition) → own_in d ≡ owns.Function → Stands m → own_complaint (takes m) d ≡ None → body_complaint (takes m) d ≡ None → Body d → SomeDefinition m d
some_function m d own s i q body =
    let k : DefId = record { 0 = length m.table } in
    let p : Around = reserved m d in
    let known : complaint (with_names (with_itself owns.Function (takes m) d.name (length d.params)) d.params) d.body ≡ None =
    subst (λ (o : Own). complaint (with_names (with_itself o (takes m) d.name (length d.params)) d.params) d.body ≡ None) own q in
    let kept_place : Stands p = around_defined m.here.names m.here.scope m.table (reserved_row m d) d.name k (length d.params) refl s in
    let here : Stands (ParamsBound p d) = stands_names p d.params kept_place in
    let r : SomeTerm (ParamsBound p d) d.body = body (ParamsBound p d) here (ap (λ (g : Takes). complaint g d.body) (function_takes m d s) ∙ known) in
    let w : Around = behind_body m p d r in
    let begun : IsBegun m p d (Some k) = (own, reserves m d) in
    let read : ResolvesTo (ParamsBound p d) w (length m.here.scope) d.body r.what = read_there m p d r here in
    let there : Stands w = stands_there m p d r here in
    let kept : IsKept w d r.what (Some k) = definition_kept m p (ParamsBound p d) w (length m.here.scope) d r.what (Some k) s i refl begun refl read in
    record {
      behind = settled w d r.what k;
      number = k;
      read = definition_read m p (ParamsBound p d) w (settled w d r.what k) (length m.here.scope) d r.what (Some k) k s i refl begun refl read (ends_function w d r.what k there kept);
      stands = around_settled w.here.names w.here.scope w.table (settled_row w d r.what) d.name k (length d.params) (slice_get_within w.table k.0 (local_operator (slots w.here.scope) (length d.params) owns.Function no_body) kept.0) there;
      lets = adds_function m.table w.table (reserved_row m d) (local_operator (slots w.here.scope) (length d.params) owns.Function no_body) (settled_row w d r.what) refl refl r.lets kept.0 refl refl;
    }

if_itself : (b c : Bool) → (if b then owns.Apart else (if c then owns.Function else owns.Apart)) ≡ owns.Itself → ⊥
if_itself true c o = cc
if_itself false false o = cc
if_itself false true o = cc

no_itself : (form : DefinitionForm) (n : List ℕ) (ps : List (List ℕ)) (e : Tree) → own_of form n ps e ≡ owns.Itself → ⊥
no_itself forms.Operator n ps e o = cc
no_itself forms.Constant n ps e o = cc
no_itself forms.Function n ps e o = if_itself (is_one_of n ps) (mentions n e) o

some_definition : (m : Around) (d : Definition) → Stands m → one_complaint (takes m) d ≡ None → Body d → SomeDefinition m d
some_definition m d s q body = by_own (own_in d) refl
  where
    i : own_complaint (takes m) d ≡ None
    i = left_none (own_complaint (takes m) d) (body_complaint (takes m) d) q

    inner : body_complaint (takes m) d ≡ None
    inner = right_none (own_complaint (takes m) d) (body_complaint (takes m) d) q

    by_own : (o : Own) → own_in d ≡ o → SomeDefinition m d
    by_own owns.Apart e = some_apart m d e s i inner body
    by_own owns.Function e = some_function m d e s i inner body
    by_own owns.Itself e = absurd (no_itself d.form d.name d.params d.body e)

-- one more definition, behind any that were read
pub one_more : (w : Around) (ds : tree.Definitions) (d : Definition) → definitions_complaint (takes w) (tree.MoreDefinitions ds d.name d.at d.params d.form d.body) ≡ None → (definitions_complaint (takes w) ds ≡ None → SomeDefinitions w ds) → Body d → SomeDefinitions w (tree.MoreDefinitions ds d.name d.at d.params d.form d.body)
one_more w ds d q before body =
    let b : SomeDefinitions w ds = before (left_none (definitions_complaint (takes w) ds) (one_complaint (with_definitions (takes w) ds) d) q) in
    let known : one_complaint (takes b.behind) d ≡ None =
    ap (λ (g : Takes). one_complaint g d) b.read.taken ∙ right_none (definitions_complaint (takes w) ds) (one_complaint (with_definitions (takes w) ds) d) q in
    let r : SomeDefinition b.behind d = some_definition b.behind d b.stands known body in
    record {
      behind = r.behind;
      numbers = b.numbers ++ r.number.0 ∷ [];
      read = r.read.added w ds b.numbers b.read;
      stands = r.stands;
      lets = adds_both w.table b.behind.table r.behind.table b.numbers (r.number.0 ∷ []) b.lets r.lets;
    }
