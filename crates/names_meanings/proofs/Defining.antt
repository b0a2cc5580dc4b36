-- The definitions of a LET, one behind the other.
use Rattle.std.proofs.Common.{◌≡◌, ◌∙◌, sym, ap, refl, subst, List, [], ◌∷◌, ◌++◌, length, ◌<◌, ◌≤◌, arith, append_assoc}
use Rattle.std.proofs.lemmas.List.{length-append}
use Rattle.std.specs.Prelude.{ℕ, suc, ◌+◌, drop, get_or, Option, Some, None, set, slice_get}
use Rattle.base_core.specs.declared.place.Place.{Place}
use Rattle.reading_trees.specs.declared.form.DefinitionForm.{DefinitionForm}
use Rattle.reading_trees.specs.Trees as tree
use Rattle.reading_trees.specs.Trees.{Tree}
use Rattle.reading_trees.specs.TreeViews.{definitions_from, definitions_of}
use Rattle.reading_trees.specs.declared.expr.Definition.{Definition}
use Rattle.names_terms.specs.declared.ids.DefId.{DefId}
use Rattle.names_terms.specs.declared.level.Level.TheVariants as levels
use Rattle.names_terms.specs.declared.operator.Operator.{Operator}
use Rattle.names_terms.specs.declared.operator.Own.{Own}
use Rattle.names_terms.specs.declared.operator.Own.TheVariants as owns
use Rattle.names_terms.specs.Terms.{Term, level_of}
use Rattle.names_scopes.specs.declared.meant.Entry.{Entry}
use Rattle.names_scopes.specs.declared.scope.Local.{Local}
use Rattle.names_scopes.specs.declared.scope.Local.TheVariants.{Defined}
use Rattle.names_scopes.specs.Scopes.{bind, slots}
use Rattle.names_scopes.proofs.LevelLoops.{cut_at, cut_end}
use Rattle.names_least_levels.specs.Rising.{without, rises, with_own as rising_own}
use Rattle.names_meanings.specs.declared.fault.NameFault.{NameFault}
use Rattle.names_meanings.specs.Around.{Here, Around, IsAround, takes}
use Rattle.names_meanings.specs.Complaints.{Takes, told, or_else, with_names, with_definitions, with_itself, complaint, definitions_complaint, itself}
use Rattle.names_meanings.specs.Means.{Means, local_operator, no_body, own_level, with_own}
use Rattle.names_meanings.specs.Outcomes.{above, takes_in, Complains, Grows, named_in, KeepsOrder, Lasts, StandsOn}
use Rattle.names_meanings.specs.Owned.{own_complaint, body_complaint, one_complaint, Reserves, IsBegun, IsKept, IsEnded, DefinitionRead}
use Rattle.names_meanings.specs.Owning.{own_of}
use Rattle.names_meanings.specs.Reads.{ResolvesTo, ResolvesDefinitions}
use Rattle.names_meanings.proofs.Takes.{takes_bind}
use Rattle.std.proofs.lemmas.Option.{slice_get_within}
use Rattle.names_meanings.proofs.AroundLemmas.{defined_in, in_more, more_locals, named_pushed, named_between, set_behind, takes_grown}
use Rattle.names_meanings.proofs.MeansBelow.{body_below}
use Rattle.names_meanings.proofs.Reading.{complains_first, complains_later, none_both, grows_same, grows_on}
use Rattle.names_meanings.proofs.Risen.{risen, own_scope, body_scope, behind, apart_rises, own_rises, own_constant}
use Rattle.names_meanings.proofs.StandingOn.{at_end, at_middle, longer, stands_same, stands_grown, stands_later, stands_settled}
use Rattle.names_meanings.proofs.Within.{ReadIn, bind_adds, read_back}

-- the names that a definition's body sees are known as its tree says
body_takes : (w m : Around) (ds : tree.Definitions) (ks : List ℕ) (ps : List (List ℕ)) → ResolvesDefinitions w m ds ks → takes_in m.table m.here.names (bind m.here.scope ps) ≡ with_names (with_definitions (takes w) ds) ps
body_takes w m ds ks ps d = takes_bind m.table m.here.names m.here.scope ps ∙ ap (λ (g : Takes). with_names g ps) d.taken

-- over a table that has grown, too
grown_takes : (w m : Around) (ds : tree.Definitions) (ks : List ℕ) (table : List Operator) → ResolvesDefinitions w m ds ks → IsAround m.here.names m.here.scope m.table → Grows m.table table → takes_in table w.here.names m.here.scope ≡ with_definitions (takes w) ds
grown_takes w m ds ks table d s g =
    ap (λ (x : List Entry). takes_in table x m.here.scope) (sym d.kept) ∙ takes_grown m.here.names m.here.scope m.table table s g ∙ d.taken

-- what a body means, where its parameters are bound no more
pub defined_means : (m m1 m2 : Around) (depth : ℕ) (ps : List (List ℕ)) (a : Tree) (x : Term) → depth ≡ length m.here.scope → m1 ≡ record { here = record { names = m.here.names; scope = bind m.here.scope ps }; table = m.table } → ResolvesTo m1 m2 depth a x → Means m2.here.names m2.table (bind m2.here.scope ps) a x
defined_means m m1 m2 depth ps a x dp b r =
    let more : (more : List Local) × (bind m.here.scope ps ≡ m.here.scope ++ more) = bind_adds m.here.scope ps in
    let in_it : ReadIn m m2 (bind m.here.scope ps) a x = read_back m m1 m2 depth (bind m.here.scope ps) more.0 a x b dp more.1 r in
    subst (λ (h : Here). Means h.names m2.table (bind h.scope ps) a x) (sym in_it.kept) (in_it.means m2.table (stands_same (length m.table) m2.table))

-- What is told of one more definition, which uses itself so. Its row is that of the number, and its body means that where it sees itself if it uses itself.
record NewDefinition (w m v : Around) (ds : tree.Definitions) (n : List ℕ) (at : Place) (ps : List (List ℕ)) (form : DefinitionForm) (a : Tree) (x : Term) (k : DefId) (o : Own) : Type 0 where
  names : v.here.names ≡ w.here.names
  scope : v.here.scope ≡ m.here.scope ++ Defined n k (length ps) ∷ []
  grown : Grows m.table v.table
  unnamed : named_in v.table ≡ named_in m.table
  ordered : KeepsOrder m.table v.table
  row : slice_get v.table k.0 ≡ Some (local_operator (slots m.here.scope) (length ps) o x)
  late : length m.table ≤ k.0
  body : Lasts (length w.table) v.table (λ all. Means w.here.names all (bind (with_own o m.here.scope n k (length ps)) ps) a x)
  level : above (own_level o x) ≡ rises (without (rising_own (told (with_definitions (takes w) ds)) n) ps) a
  known : complaint (with_names (with_itself o (with_definitions (takes w) ds) n (length ps)) ps) a ≡ None

-- one more definition
one_more : (w m v : Around) (ds : tree.Definitions) (ks : List ℕ) (n : List ℕ) (at : Place) (ps : List (List ℕ)) (form : DefinitionForm) (a : Tree) (x : Term) (k : DefId) (o : Own) → own_of form n ps a ≡ o → ResolvesDefinitions w m ds ks → IsAround m.here.names m.here.scope m.table → itself (takes m) form n at ps a ≡ None → NewDefinition w m v ds n at ps form a x k o → ResolvesDefinitions w v (tree.MoreDefinitions ds n at ps form a) (ks ++ k.0 ∷ [])
one_more w m v ds ks n at ps form a x k o q d s i t =
    let g : Takes = with_definitions (takes w) ds in
    let fine : itself g form n at ps a ≡ None = subst (λ (h : Takes). itself h form n at ps a ≡ None) d.taken i in
    let body : Option NameFault = complaint (with_names (with_itself (own_of form n ps a) g n (length ps)) ps) a in
    let known : body ≡ None = ap (λ (y : Own). complaint (with_names (with_itself y g n (length ps)) ps) a) q ∙ t.known in
    record {
      kept = t.names;
      grown = grows_on w.table d.grown t.grown;
      unnamed = t.unnamed ∙ d.unnamed;
      ordered = λ h. t.ordered (d.ordered h);
      taken = ap (λ (x : List Entry). takes_in v.table x v.here.scope) t.names ∙ behind w.here.names v.table m.here.scope v.here.scope g n ps a k o x (grown_takes w m ds ks v.table d s t.grown) t.row t.scope t.level;
      means = λ all h. (
        ks,
        m.here.scope,
        k,
        x,
        d.means all (stands_grown m.table t.grown h),
        subst (λ (y : Own). Means w.here.names all (bind (with_own y m.here.scope n k (length ps)) ps) a x) (sym q) (t.body all h),
        subst (λ (y : Own). slice_get all k.0 ≡ Some (local_operator (slots m.here.scope) (length ps) y x)) (sym q) (h.bodies k.0 (local_operator (slots m.here.scope) (length ps) o x) (omega (arith, longer w.table d.grown, t.late)) t.row),
        refl,
        t.scope,
      );
      fine = none_both (definitions_complaint (takes w) ds) (or_else (itself g form n at ps a) body) d.fine (none_both (itself g form n at ps a) body fine known);
    }

-- one that does not use itself: it stands at the end of the table, behind those of its own LETs
pub definition_on : (w m m1 m2 v : Around) (depth : ℕ) (ds : tree.Definitions) (ks : List ℕ) (n : List ℕ) (at : Place) (ps : List (List ℕ)) (form : DefinitionForm) (a : Tree) (x : Term) (k : DefId) (count : ℕ) → own_of form n ps a ≡ owns.Apart → ResolvesDefinitions w m ds ks → IsAround m.here.names m.here.scope m.table → itself (takes m) form n at ps a ≡ None → depth ≡ length m.here.scope → m1 ≡ record { here = record { names = m.here.names; scope = bind m.here.scope ps }; table = m.table } → ResolvesTo m1 m2 depth a x → count ≡ length ps → k.0 ≡ length m2.table → v.here.names ≡ m2.here.names → v.here.scope ≡ m2.here.scope ++ Defined n k count ∷ [] → v.table ≡ m2.table ++ local_operator (slots m2.here.scope) count owns.Apart x ∷ [] → KeepsOrder m2.table v.table → ResolvesDefinitions w v (tree.MoreDefinitions ds n at ps form a) (ks ++ k.0 ∷ [])
definition_on w m m1 m2 v depth ds ks n at ps form a x k count apart d s i dp b r ct ke vn vs vt vo =
    let g : Takes = with_definitions (takes w) ds in
    let more : (more : List Local) × (bind m.here.scope ps ≡ m.here.scope ++ more) = bind_adds m.here.scope ps in
    let in_it : ReadIn m m2 (bind m.here.scope ps) a x = read_back m m1 m2 depth (bind m.here.scope ps) more.0 a x b dp more.1 r in
    let o : Operator = local_operator (slots m.here.scope) (length ps) owns.Apart x in
    let row : local_operator (slots m2.here.scope) count owns.Apart x ≡ o =
    ap (λ (h : Here). local_operator (slots h.scope) count owns.Apart x) in_it.kept ∙ ap (λ (j : ℕ). local_operator (slots m.here.scope) j owns.Apart x) ct in
    let table : v.table ≡ m2.table ++ o ∷ [] = vt ∙ ap (λ (y : Operator). m2.table ++ y ∷ []) row in
    let one : Grows m2.table v.table = (o ∷ [], table) in
    let fine : itself g form n at ps a ≡ None = subst (λ (h : Takes). itself h form n at ps a ≡ None) d.taken i in
    let known : complaint (with_names g ps) a ≡ None = ap (λ (h : Takes). complaint h a) (sym (body_takes w m ds ks ps d)) ∙ in_it.fine in
    let scope : takes_in m2.table w.here.names (bind m.here.scope ps) ≡ with_names g ps =
    takes_bind m2.table w.here.names m.here.scope ps ∙ ap (λ (h : Takes). with_names h ps) (grown_takes w m ds ks m2.table d s in_it.grown) in
    let there : Means w.here.names m2.table (bind m.here.scope ps) a x = subst (λ (y : List Entry). Means y m2.table (bind m.here.scope ps) a x) d.kept (in_it.means m2.table (stands_same (length m.table) m2.table)) in
    one_more w m v ds ks n at ps form a x k owns.Apart apart d s i
    (record {
      names = vn ∙ ap (λ (h : Here). h.names) in_it.kept ∙ d.kept;
      scope = vs ∙ ap (λ (h : Here). h.scope ++ Defined n k count ∷ []) in_it.kept ∙ ap (λ (j : ℕ). m.here.scope ++ Defined n k j ∷ []) ct;
      grown = grows_on m.table in_it.grown one;
      unnamed = ap named_in table ∙ named_pushed m2.table o refl ∙ in_it.unnamed;
      ordered = λ h. vo (in_it.ordered h);
      row = ap (λ (j : ℕ). slice_get v.table j) ke ∙ ap (λ (y : List Operator). slice_get y (length m2.table)) table ∙ at_end m2.table o;
      late = omega (arith, longer m.table in_it.grown, ke);
      body = λ all h. subst (λ (y : List Entry). Means y all (bind m.here.scope ps) a x) d.kept (in_it.means all (stands_later w.table d.grown (stands_grown m2.table one h)));
      level = risen w.here.names m2.table a (bind m.here.scope ps) (with_names g ps) x scope known there ∙ apart_rises form g n at ps a apart fine;
      known = known;
    })

-- What was read in the body of a function that sees the place that is kept for it.
record InFunction (m p m2 : Around) (n : List ℕ) (k : DefId) (ps : List (List ℕ)) (a : Tree) (x : Term) : Type 0 where
  kept : m2.here ≡ m.here
  place : p.table ≡ m.table ++ local_operator (slots m.here.scope) (length ps) owns.Function no_body ∷ []
  more : List Operator
  table : m2.table ≡ m.table ++ local_operator (slots m.here.scope) (length ps) owns.Function no_body ∷ more
  unnamed : named_in m2.table ≡ named_in m.table
  ordered : KeepsOrder p.table m2.table
  later : suc k.0 ≡ length p.table
  means : Lasts (length p.table) m2.table (λ all. Means m.here.names all (bind (with_own owns.Function m.here.scope n k (length ps)) ps) a x)
  fine : complaint (takes_in p.table m.here.names (bind (with_own owns.Function m.here.scope n k (length ps)) ps)) a ≡ None

in_function : (m p m1 m2 : Around) (depth : ℕ) (n : List ℕ) (k : DefId) (count : ℕ) (ps : List (List ℕ)) (a : Tree) (x : Term) → depth ≡ length m.here.scope → count ≡ length ps → k.0 ≡ length m.table → p.here.names ≡ m.here.names → p.here.scope ≡ m.here.scope ++ Defined n k count ∷ [] → p.table ≡ m.table ++ local_operator (slots m.here.scope) count owns.Function no_body ∷ [] → m1 ≡ record { here = record { names = p.here.names; scope = bind p.here.scope ps }; table = p.table } → ResolvesTo m1 m2 depth a x → InFunction m p m2 n k ps a x
in_function m p m1 m2 depth n k count ps a x dp ct ke pn pc pt b r =
    let q : Around = record { here = m.here; table = p.table } in
    let own : List Local = Defined n k (length ps) ∷ [] in
    let res : Operator = local_operator (slots m.here.scope) (length ps) owns.Function no_body in
    let place : p.table ≡ m.table ++ res ∷ [] = pt ∙ ap (λ (j : ℕ). m.table ++ local_operator (slots m.here.scope) j owns.Function no_body ∷ []) ct in
    let here : m1 ≡ record { here = record { names = m.here.names; scope = bind (m.here.scope ++ own) ps }; table = p.table } =
    b ∙ ap (λ (y : List Entry). record { here = record { names = y; scope = bind p.here.scope ps }; table = p.table }) pn
    ∙ ap (λ (y : List Local). record { here = record { names = m.here.names; scope = bind y ps }; table = p.table }) (pc ∙ ap (λ (j : ℕ). m.here.scope ++ Defined n k j ∷ []) ct) in
    let more : (more : List Local) × (bind (m.here.scope ++ own) ps ≡ (m.here.scope ++ own) ++ more) = bind_adds (m.here.scope ++ own) ps in
    let in_it : ReadIn q m2 (bind (m.here.scope ++ own) ps) a x = read_back q m1 m2 depth (bind (m.here.scope ++ own) ps) (own ++ more.0) a x here dp (more.1 ∙ append_assoc m.here.scope own more.0) r in
    record {
      kept = in_it.kept;
      place = place;
      more = in_it.grown.0;
      table = in_it.grown.1 ∙ ap (λ (y : List Operator). y ++ in_it.grown.0) place ∙ append_assoc m.table (res ∷ []) in_it.grown.0;
      unnamed = in_it.unnamed ∙ ap named_in place ∙ named_pushed m.table res refl;
      ordered = in_it.ordered;
      later = let many : length p.table ≡ length m.table + 1 = ap length place ∙ length-append m.table (res ∷ []) in omega (arith, ke, many);
      means = in_it.means;
      fine = in_it.fine;
    }

-- A function that applies itself: its place was kept before its body was read, and is the row that gets the body.
pub function_on : (w m p m1 m2 v : Around) (depth : ℕ) (ds : tree.Definitions) (ks : List ℕ) (n : List ℕ) (at : Place) (ps : List (List ℕ)) (form : DefinitionForm) (a : Tree) (x : Term) (k : DefId) (count : ℕ) → own_of form n ps a ≡ owns.Function → ResolvesDefinitions w m ds ks → IsAround m.here.names m.here.scope m.table → itself (takes m) form n at ps a ≡ None → depth ≡ length m.here.scope → count ≡ length ps → k.0 ≡ length m.table → p.here.names ≡ m.here.names → p.here.scope ≡ m.here.scope ++ Defined n k count ∷ [] → p.table ≡ m.table ++ local_operator (slots m.here.scope) count owns.Function no_body ∷ [] → KeepsOrder m.table p.table → m1 ≡ record { here = record { names = p.here.names; scope = bind p.here.scope ps }; table = p.table } → ResolvesTo m1 m2 depth a x → v.here.names ≡ m2.here.names → v.here.scope ≡ m2.here.scope ++ Defined n k count ∷ [] → v.table ≡ set m2.table k.0 (local_operator (slots m2.here.scope) count owns.Function x) → KeepsOrder m2.table v.table → ResolvesDefinitions w v (tree.MoreDefinitions ds n at ps form a) (ks ++ k.0 ∷ [])
function_on w m p m1 m2 v depth ds ks n at ps form a x k count own d s i dp ct ke pn pc pt po b r vn vs vt vo =
    let g : Takes = with_definitions (takes w) ds in
    let inner : InFunction m p m2 n k ps a x = in_function m p m1 m2 depth n k count ps a x dp ct ke pn pc pt b r in
    let kept_row : Operator = local_operator (slots m.here.scope) (length ps) owns.Function no_body in
    let o : Operator = local_operator (slots m.here.scope) (length ps) owns.Function x in
    let row : local_operator (slots m2.here.scope) count owns.Function x ≡ o =
    ap (λ (h : Here). local_operator (slots h.scope) count owns.Function x) inner.kept ∙ ap (λ (j : ℕ). local_operator (slots m.here.scope) j owns.Function x) ct in
    let before : m2.table ≡ m.table ++ kept_row ∷ inner.more = inner.table in
    let table : v.table ≡ m.table ++ o ∷ inner.more =
    vt ∙ ap (λ (y : Operator). set m2.table k.0 y) row ∙ ap (λ (y : List Operator). set y k.0 o) before ∙ ap (λ (j : ℕ). set (m.table ++ kept_row ∷ inner.more) j o) ke ∙ set_behind m.table kept_row o inner.more in
    let fine : itself g form n at ps a ≡ None = subst (λ (h : Takes). itself h form n at ps a ≡ None) d.taken i in
    let there : slice_get m2.table k.0 ≡ Some kept_row = ap (λ (j : ℕ). slice_get m2.table j) ke ∙ ap (λ (y : List Operator). slice_get y (length m.table)) before ∙ at_middle m.table kept_row inner.more in
    let known : complaint (with_names (with_itself owns.Function g n (length ps)) ps) a ≡ None =
    ap (λ (h : Takes). complaint h a) (sym (body_scope w.here.names p.table m.here.scope g n k ps no_body owns.Function (grown_takes w m ds ks p.table d s (kept_row ∷ [], inner.place)) (ap (λ (j : ℕ). slice_get p.table j) ke ∙ ap (λ (y : List Operator). slice_get y (length m.table)) inner.place ∙ at_middle m.table kept_row [])))
    ∙ ap (λ (y : List Entry). complaint (takes_in p.table y (bind (with_own owns.Function m.here.scope n k (length ps)) ps)) a) (sym d.kept) ∙ inner.fine in
    one_more w m v ds ks n at ps form a x k owns.Function own d s i
    (record {
      names = vn ∙ ap (λ (h : Here). h.names) inner.kept ∙ d.kept;
      scope = vs ∙ ap (λ (h : Here). h.scope ++ Defined n k count ∷ []) inner.kept ∙ ap (λ (j : ℕ). m.here.scope ++ Defined n k j ∷ []) ct;
      grown = (o ∷ inner.more, table);
      unnamed = ap named_in table ∙ named_between m.table o inner.more kept_row refl refl ∙ sym (ap named_in before) ∙ inner.unnamed;
      ordered = λ h. vo (inner.ordered (po h));
      row = ap (λ (j : ℕ). slice_get v.table j) ke ∙ ap (λ (y : List Operator). slice_get y (length m.table)) table ∙ at_middle m.table o inner.more;
      late = omega (arith, ke);
      body = λ all h.
          subst (λ (y : List Entry). Means y all (bind (with_own owns.Function m.here.scope n k (length ps)) ps) a x) d.kept
          (inner.means all (subst (λ (j : ℕ). StandsOn j m2.table all) inner.later (stands_settled (length w.table) k.0 m2.table kept_row o x (omega (arith, longer w.table d.grown, ke)) there refl (subst (λ (y : List Operator). StandsOn (length w.table) y all) (vt ∙ ap (λ (y : Operator). set m2.table k.0 y) row) h))));
      level = sym (own_rises form g n at ps a own fine);
      known = known;
    })

complain_on : (g : Takes) (l : tree.Definitions) (xs : List Definition) (f : NameFault) → Complains (definitions_complaint g l) f → Complains (definitions_complaint g (definitions_from l xs)) f
complain_on g l [] f c = c
complain_on g l (x ∷ xs) f c =
    complain_on g (tree.MoreDefinitions l x.name x.at x.params x.form x.body) xs f (complains_first (definitions_complaint g l) (or_else (own_complaint (with_definitions g l) x) (body_complaint (with_definitions g l) x)) f c)

pub record DefinitionsRead (w v : Around) (items : List Definition) (i : ℕ) (ks : List ℕ) : Type 0 where
  pub so_far : tree.Definitions
  pub whole : definitions_from so_far (drop i items) ≡ definitions_of items
  pub read : ResolvesDefinitions w v so_far ks

pub definitions_begin : (w : Around) (items : List Definition) → DefinitionsRead w w items 0 []
definitions_begin w items =
    record { so_far = tree.NoDefinitions; whole = refl; read = record { kept = refl; grown = grows_same w.table; unnamed = refl; ordered = λ o. o; taken = refl; means = λ all g. (refl, refl); fine = refl } }

pub definitions_pushed : (w m v : Around) (items : List Definition) (i : ℕ) (ks new : List ℕ) (d : Definition) (k : DefId) → new ≡ ks ++ k.0 ∷ [] → i < length items → d ≡ get_or items i d → DefinitionsRead w m items i ks → DefinitionRead m v d k → DefinitionsRead w v items (i + 1) new
definitions_pushed w m v items i ks new d k e lt at h r =
    record {
      so_far = tree.MoreDefinitions h.so_far d.name d.at d.params d.form d.body;
      whole = ap (λ ts. definitions_from h.so_far ts) (sym (cut_at items i d lt at)) ∙ h.whole;
      read = subst (λ (y : List ℕ). ResolvesDefinitions w v (tree.MoreDefinitions h.so_far d.name d.at d.params d.form d.body) y) (sym e) (r.added w h.so_far ks h.read);
    }

pub definitions_end : (w v : Around) (items : List Definition) (all : tree.Definitions) (i : ℕ) (ks : List ℕ) → definitions_of items ≡ all → length items ≤ i → DefinitionsRead w v items i ks → ResolvesDefinitions w v all ks
definitions_end w v items all i ks e le h =
    subst (λ (l : tree.Definitions). ResolvesDefinitions w v l ks) (ap (λ ts. definitions_from h.so_far ts) (sym (cut_end items i le)) ∙ h.whole ∙ e) h.read

-- a definition is refused
pub refused : (w m : Around) (items : List Definition) (all : tree.Definitions) (i : ℕ) (ks : List ℕ) (d : Definition) (f : NameFault) → definitions_of items ≡ all → i < length items → d ≡ get_or items i d → DefinitionsRead w m items i ks → Complains (one_complaint (takes m) d) f → Complains (definitions_complaint (takes w) all) f
refused w m items all i ks d f e lt at h c =
    let g : Takes = with_definitions (takes w) h.so_far in
    subst (λ (l : tree.Definitions). Complains (definitions_complaint (takes w) l) f) (ap (λ ts. definitions_from h.so_far ts) (sym (cut_at items i d lt at)) ∙ h.whole ∙ e)
    (complain_on (takes w) (tree.MoreDefinitions h.so_far d.name d.at d.params d.form d.body) (drop (i + 1) items) f
    (complains_later (definitions_complaint (takes w) h.so_far) (one_complaint g d) f h.read.fine (subst (λ (x : Takes). Complains (one_complaint x d) f) h.read.taken c)))

-- ---- what the calls answer that read one definition

-- its own name is wrong
pub itself_refused : (m : Around) (d : Definition) (f : NameFault) → Complains (own_complaint (takes m) d) f → Complains (one_complaint (takes m) d) f
itself_refused m d f c = complains_first (own_complaint (takes m) d) (body_complaint (takes m) d) f c

-- one that does not use itself
pub plain_read : (m m1 m2 v : Around) (depth count : ℕ) (d : Definition) (x : Term) (k : DefId) → own_of d.form d.name d.params d.body ≡ owns.Apart → IsAround m.here.names m.here.scope m.table → own_complaint (takes m) d ≡ None → depth ≡ length m.here.scope → m1 ≡ record { here = record { names = m.here.names; scope = bind m.here.scope d.params }; table = m.table } → ResolvesTo m1 m2 depth d.body x → count ≡ length d.params → k.0 ≡ length m2.table → v.here.names ≡ m2.here.names → v.here.scope ≡ m2.here.scope ++ Defined d.name k count ∷ [] → v.table ≡ m2.table ++ local_operator (slots m2.here.scope) count owns.Apart x ∷ [] → KeepsOrder m2.table v.table → DefinitionRead m v d k
plain_read m m1 m2 v depth count d x k apart s i dp b r ct ke vn vs vt vo =
    record { added = λ w ds ks read. definition_on w m m1 m2 v depth ds ks d.name d.at d.params d.form d.body x k count apart read s i dp b r ct ke vn vs vt vo }

pub plain_refused : (m m1 : Around) (d : Definition) (f : NameFault) → own_of d.form d.name d.params d.body ≡ owns.Apart → own_complaint (takes m) d ≡ None → m1 ≡ record { here = record { names = m.here.names; scope = bind m.here.scope d.params }; table = m.table } → Complains (complaint (takes m1) d.body) f → Complains (one_complaint (takes m) d) f
plain_refused m m1 d f apart own b c =
    complains_later (own_complaint (takes m) d) (body_complaint (takes m) d) f own
    (subst (λ (o : Own). Complains (complaint (with_names (with_itself o (takes m) d.name (length d.params)) d.params) d.body) f) (sym apart)
    (subst (λ (g : Takes). Complains (complaint g d.body) f) (ap takes b ∙ takes_bind m.table m.here.names m.here.scope d.params) c))

-- a function that applies itself
pub function_read : (m p m1 m2 v : Around) (depth count : ℕ) (d : Definition) (x : Term) (k : DefId) → own_of d.form d.name d.params d.body ≡ owns.Function → IsAround m.here.names m.here.scope m.table → own_complaint (takes m) d ≡ None → depth ≡ length m.here.scope → count ≡ length d.params → k.0 ≡ length m.table → p.here.names ≡ m.here.names → p.here.scope ≡ m.here.scope ++ Defined d.name k count ∷ [] → p.table ≡ m.table ++ local_operator (slots m.here.scope) count owns.Function no_body ∷ [] → KeepsOrder m.table p.table → m1 ≡ record { here = record { names = p.here.names; scope = bind p.here.scope d.params }; table = p.table } → ResolvesTo m1 m2 depth d.body x → v.here.names ≡ m2.here.names → v.here.scope ≡ m2.here.scope ++ Defined d.name k count ∷ [] → v.table ≡ set m2.table k.0 (local_operator (slots m2.here.scope) count owns.Function x) → KeepsOrder m2.table v.table → DefinitionRead m v d k
function_read m p m1 m2 v depth count d x k own s i dp ct ke pn pc pt po b r vn vs vt vo =
    record { added = λ w ds ks read. function_on w m p m1 m2 v depth ds ks d.name d.at d.params d.form d.body x k count own read s i dp ct ke pn pc pt po b r vn vs vt vo }

-- the names that the body of such a function sees
function_takes : (m p m1 : Around) (count : ℕ) (d : Definition) (k : DefId) → IsAround m.here.names m.here.scope m.table → count ≡ length d.params → k.0 ≡ length m.table → p.here.names ≡ m.here.names → p.here.scope ≡ m.here.scope ++ Defined d.name k count ∷ [] → p.table ≡ m.table ++ local_operator (slots m.here.scope) count owns.Function no_body ∷ [] → m1 ≡ record { here = record { names = p.here.names; scope = bind p.here.scope d.params }; table = p.table } → takes m1 ≡ with_names (with_itself owns.Function (takes m) d.name (length d.params)) d.params
function_takes m p m1 count d k s ct ke pn pc pt b =
    let res : Operator = local_operator (slots m.here.scope) count owns.Function no_body in
    ap takes b
    ∙ ap (λ (y : List Entry). takes_in p.table y (bind p.here.scope d.params)) pn
    ∙ ap (λ (y : List Local). takes_in p.table m.here.names (bind y d.params)) pc
    ∙ takes_bind p.table m.here.names (m.here.scope ++ Defined d.name k count ∷ []) d.params
    ∙ ap (λ (g : Takes). with_names g d.params) (own_scope m.here.names p.table m.here.scope (takes m) d.name k count no_body owns.Function (takes_grown m.here.names m.here.scope m.table p.table s (res ∷ [], pt)) (ap (λ (j : ℕ). slice_get p.table j) ke ∙ ap (λ (y : List Operator). slice_get y (length m.table)) pt ∙ at_end m.table res))
    ∙ ap (λ (j : ℕ). with_names (with_itself owns.Function (takes m) d.name j) d.params) ct

pub function_refused : (m p m1 : Around) (count : ℕ) (d : Definition) (k : DefId) (f : NameFault) → own_of d.form d.name d.params d.body ≡ owns.Function → own_complaint (takes m) d ≡ None → IsAround m.here.names m.here.scope m.table → count ≡ length d.params → k.0 ≡ length m.table → p.here.names ≡ m.here.names → p.here.scope ≡ m.here.scope ++ Defined d.name k count ∷ [] → p.table ≡ m.table ++ local_operator (slots m.here.scope) count owns.Function no_body ∷ [] → m1 ≡ record { here = record { names = p.here.names; scope = bind p.here.scope d.params }; table = p.table } → Complains (complaint (takes m1) d.body) f → Complains (one_complaint (takes m) d) f
function_refused m p m1 count d k f own fine s ct ke pn pc pt b c =
    complains_later (own_complaint (takes m) d) (body_complaint (takes m) d) f fine
    (subst (λ (o : Own). Complains (complaint (with_names (with_itself o (takes m) d.name (length d.params)) d.params) d.body) f) (sym own)
    (subst (λ (g : Takes). Complains (complaint g d.body) f) (function_takes m p m1 count d k s ct ke pn pc pt b) c))

-- the body of such a function is constant
pub function_constant : (m p m1 m2 : Around) (depth count : ℕ) (d : Definition) (x : Term) (k : DefId) → own_of d.form d.name d.params d.body ≡ owns.Function → IsAround m.here.names m.here.scope m.table → own_complaint (takes m) d ≡ None → depth ≡ length m.here.scope → count ≡ length d.params → k.0 ≡ length m.table → p.here.names ≡ m.here.names → p.here.scope ≡ m.here.scope ++ Defined d.name k count ∷ [] → p.table ≡ m.table ++ local_operator (slots m.here.scope) count owns.Function no_body ∷ [] → m1 ≡ record { here = record { names = p.here.names; scope = bind p.here.scope d.params }; table = p.table } → ResolvesTo m1 m2 depth d.body x → level_of x ≡ levels.Constant
function_constant m p m1 m2 depth count d x k own s i dp ct ke pn pc pt b r =
    let inner : InFunction m p m2 d.name k d.params d.body x = in_function m p m1 m2 depth d.name k count d.params d.body x dp ct ke pn pc pt b r in
    let res : Operator = local_operator (slots m.here.scope) (length d.params) owns.Function no_body in
    let sc : List Local = with_own owns.Function m.here.scope d.name k (length d.params) in
    let grown : Grows m.table m2.table = (res ∷ inner.more, inner.table) in
    let scope : takes_in m2.table m.here.names (bind sc d.params) ≡ with_names (with_itself owns.Function (takes m) d.name (length d.params)) d.params =
    body_scope m.here.names m2.table m.here.scope (takes m) d.name k d.params no_body owns.Function (takes_grown m.here.names m.here.scope m.table m2.table s grown)
    (ap (λ (j : ℕ). slice_get m2.table j) ke ∙ ap (λ (y : List Operator). slice_get y (length m.table)) inner.table ∙ at_middle m.table res inner.more) in
    let known : complaint (with_names (with_itself owns.Function (takes m) d.name (length d.params)) d.params) d.body ≡ None =
    subst (λ (g : Takes). complaint g d.body ≡ None) (function_takes m p m1 count d k s ct ke pn pc pt b) r.fine in
    own_constant m.here.names m2.table (bind sc d.params) (takes m) d.form d.name d.at d.params d.body x own i scope known (inner.means m2.table (stands_same (length p.table) m2.table))

-- ---- a place is kept, or not

-- the scope in which the parameters are bound
abbrev ParamsBound : Around → Definition → Around
ParamsBound p d = record { here = record { names = p.here.names; scope = bind p.here.scope d.params }; table = p.table }

pub definition_read : (m p m1 m2 v : Around) (depth : ℕ) (d : Definition) (x : Term) (o : Option DefId) (k : DefId) → IsAround m.here.names m.here.scope m.table → own_complaint (takes m) d ≡ None → depth ≡ length m.here.scope → IsBegun m p d o → m1 ≡ ParamsBound p d → ResolvesTo m1 m2 depth d.body x → IsEnded m2 v d x o k → DefinitionRead m v d k
definition_read m p m1 m2 v depth d x None k s i dp b e r n =
    plain_read m m1 m2 v depth (length d.params) d x k b.0 s i dp (e ∙ ap (λ (u : Around). ParamsBound u d) b.1) r refl n.number n.names n.scope n.table n.ordered
definition_read m p m1 m2 v depth d x (Some j) k s i dp b e r n =
    let z : Reserves m p d.name (length d.params) k = subst (λ (y : DefId). Reserves m p d.name (length d.params) y) (sym n.0) b.1 in
    function_read m p m1 m2 v depth (length d.params) d x k b.0 s i dp refl z.number z.names z.scope z.table z.ordered e r n.1.names n.1.scope n.1.table n.1.ordered

pub definition_refused : (m p m1 : Around) (d : Definition) (o : Option DefId) (f : NameFault) → IsAround m.here.names m.here.scope m.table → own_complaint (takes m) d ≡ None → IsBegun m p d o → m1 ≡ ParamsBound p d → Complains (complaint (takes m1) d.body) f → Complains (one_complaint (takes m) d) f
definition_refused m p m1 d None f s i b e c = plain_refused m m1 d f b.0 i (e ∙ ap (λ (u : Around). ParamsBound u d) b.1) c
definition_refused m p m1 d (Some k) f s i b e c = function_refused m p m1 (length d.params) d k f b.0 i s refl b.1.number b.1.names b.1.scope b.1.table e c

around_grown : (names : List Entry) (sc : List Local) (a b : List Operator) → IsAround names sc a → Grows a b → IsAround names sc b
around_grown names sc a b s g =
    let le : length a ≤ length b = longer a g in
    record { program = λ j d lt. in_more (length a) (length b) _ le (s.program j d lt); around = more_locals (length a) (length b) sc le s.around }

pub definition_kept : (m p m1 m2 : Around) (depth : ℕ) (d : Definition) (x : Term) (o : Option DefId) → IsAround m.here.names m.here.scope m.table → own_complaint (takes m) d ≡ None → depth ≡ length m.here.scope → IsBegun m p d o → m1 ≡ ParamsBound p d → ResolvesTo m1 m2 depth d.body x → IsKept m2 d x o
definition_kept m p m1 m2 depth d x None s i dp b e r =
    (d.params, d.body, defined_means m m1 m2 depth d.params d.body x dp (e ∙ ap (λ (u : Around). ParamsBound u d) b.1) r)
definition_kept m p m1 m2 depth d x (Some k) s i dp b e r =
    let z : Reserves m p d.name (length d.params) k = b.1 in
    let inner : InFunction m p m2 d.name k d.params d.body x = in_function m p m1 m2 depth d.name k (length d.params) d.params d.body x dp refl z.number z.names z.scope z.table e r in
    let res : Operator = local_operator (slots m.here.scope) (length d.params) owns.Function no_body in
    let here : IsAround m.here.names m.here.scope m2.table = around_grown m.here.names m.here.scope m.table m2.table s (res ∷ inner.more, inner.table) in
    let row : slice_get m2.table k.0 ≡ Some res = ap (λ (j : ℕ). slice_get m2.table j) z.number ∙ ap (λ (y : List Operator). slice_get y (length m.table)) inner.table ∙ at_middle m.table res inner.more in (
      row ∙ ap (λ (h : Here). Some (local_operator (slots h.scope) (length d.params) owns.Function no_body)) (sym inner.kept),
      function_constant m p m1 m2 depth (length d.params) d x k b.0 s i dp refl z.number z.names z.scope z.table e r,
      body_below m.here.names m2.table here.program (with_own owns.Function m.here.scope d.name k (length d.params)) d.params d.body x
          (defined_in (length m2.table) m.here.scope d.name k (length d.params) (slice_get_within m2.table k.0 res row) here.around)
          (inner.means m2.table (stands_same (length p.table) m2.table)),
    )

-- the names that are bound, as the code has them
pub bound_params : (p v : Around) (ns : List (List ℕ)) (d : Definition) → ns ≡ d.params → v ≡ record { here = record { names = p.here.names; scope = bind p.here.scope ns }; table = p.table } → v ≡ ParamsBound p d
bound_params p v ns d e b = b ∙ ap (λ (x : List (List ℕ)). record { here = record { names = p.here.names; scope = bind p.here.scope x }; table = p.table }) e
