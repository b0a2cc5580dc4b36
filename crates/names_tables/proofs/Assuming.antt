-- What the assumptions mean.
use Rattle.std.proofs.Common.{◌≡◌, ◌∙◌, sym, ap, refl, subst, ℕ, zero, suc, List, [], ◌∷◌, ◌++◌, length, ◌<◌, ◌≤◌, ◌+◌, inl, inr, arith, map, length-append}
use Rattle.std.specs.Borrow.{Bor}
use Rattle.std.specs.Prelude.{All, Bool, Option, Some, None, option_map, slice_get}
use Rattle.std.proofs.Math.Path.{fun_ext}
use Rattle.std.proofs.lemmas.List.{length-map}
use Rattle.std.proofs.lemmas.List.Elements.{All-append, All-cons, All-nil}
use Rattle.std.proofs.lemmas.Option.{slice_get_cases}
use Rattle.values_core.specs.Data.{Val}
use Rattle.reading_trees.specs.Trees.{Tree}
use Rattle.reading_trees.specs.declared.config.Config.{Config}
use Rattle.reading_trees.specs.declared.module.Program.{Program}
use Rattle.reading_trees.specs.declared.module.Unit.{Unit as ModuleUnit}
use Rattle.reading_trees.specs.declared.module.Unit.TheVariants.{Variables, Constants, Recursive, Define, Instance, Assume, Passed}
use Rattle.names_terms.specs.declared.operator.Operator.{Operator}
use Rattle.names_terms.specs.Terms.{Term, Terms, NoTerms, MoreTerms}
use Rattle.names_term_parts.specs.Parts.{listed}
use Rattle.names_term_parts.specs.Slots.{MentionsBelow, UsesSmaller}
use Rattle.names_scopes.specs.declared.meant.Entry.{Entry}
use Rattle.names_scopes.specs.Scopes.{bind, named}
use Rattle.names_scopes.specs.Standing.{AreIn}
use Rattle.names_meanings.specs.declared.fault.NameFault.{NameFault}
use Rattle.names_meanings.specs.Complaints.{Takes, complaint, with_names}
use Rattle.names_meanings.specs.Means.{Means}
use Rattle.names_meanings.specs.Outcomes.{Always, Grows, named_in, taken_by, takes_of}
use Rattle.names_program.specs.InUnits.{assumptions_in, definitions_in}
use Rattle.names_program.specs.Names.{AreNames, Numbers, declared_meaning, definition_meant, numbers_of}
use Rattle.names_program.specs.Recursion.{AreLevelsOf}
use Rattle.names_program.proofs.NameLemmas.{by_index_is}
use Rattle.names_uses.proofs.Meanings.{meant_within}
use Rattle.names_uses.proofs.ProgramLevels.{levels_exist}
use Rattle.names_tables.specs.declared.table.Table.{Table}
use Rattle.names_tables.specs.Assumed.{AreAssumed}
use Rattle.names_tables.specs.NameFaults.{HasFineNames, takes_in_program}
use Rattle.names_tables.specs.Tables.{AreMeant, IsTable}
use Rattle.names_tables.proofs.Faults.{still_in, takes_still}
use Rattle.names_tables.proofs.Places.{counted_on, grows_none, grows_on, pushed_at}
use Rattle.names_tables.proofs.ProgramTakes.{numbered_taken, taken_here}

pub record AssumedAt (us : List ModuleUnit) (t : Tree) : Type 0 where
  pub place : ℕ
  pub stands : slice_get us place ≡ Some (Assume t)

assumed_at : (us : List ModuleUnit) (j : ℕ) (t : Tree) → slice_get (assumptions_in us) j ≡ Some t → AssumedAt us t
assumed_at [] zero t e = absurd (cc)
assumed_at [] (suc j) t e = absurd (cc)
assumed_at (Assume x ∷ us) zero t e = let same : x ≡ t = cc in record { place = 0; stands = ap (λ (y : Tree). Some (Assume y)) same }
assumed_at (Assume x ∷ us) (suc j) t e = (let r : AssumedAt us t = assumed_at us j t e in record { place = suc r.place; stands = r.stands })
assumed_at (Define d ∷ us) j t e = (let r : AssumedAt us t = assumed_at us j t e in record { place = suc r.place; stands = r.stands })
assumed_at (Variables ds ∷ us) j t e = (let r : AssumedAt us t = assumed_at us j t e in record { place = suc r.place; stands = r.stands })
assumed_at (Constants ds ∷ us) j t e = (let r : AssumedAt us t = assumed_at us j t e in record { place = suc r.place; stands = r.stands })
assumed_at (Recursive rs ∷ us) j t e = (let r : AssumedAt us t = assumed_at us j t e in record { place = suc r.place; stands = r.stands })
assumed_at (Instance m ∷ us) j t e = (let r : AssumedAt us t = assumed_at us j t e in record { place = suc r.place; stands = r.stands })
assumed_at (Passed ∷ us) j t e = (let r : AssumedAt us t = assumed_at us j t e in record { place = suc r.place; stands = r.stands })

fine_assumption : (p : Program) (c : Config) (bs : List Bool) → AreLevelsOf p c bs → HasFineNames p c → (j : ℕ) (t : Tree) → slice_get (assumptions_in p.units) j ≡ Some t → complaint (takes_in_program p c bs) t ≡ None
fine_assumption p c bs h fine j t e = one (complaint (takes_in_program p c bs) t) refl
  where
    one : (o : Option NameFault) → complaint (takes_in_program p c bs) t ≡ o → o ≡ None
    one None q = refl
    one (Some f) q =
        let r : AssumedAt p.units t = assumed_at p.units j t e in
        absurd (fine r.place f (record { unit = Assume t; stands = r.stands; known = takes_in_program p c bs; are = (bs, h, refl); wrong = q }))

-- each definition that a name means has a number
takes_tabled : (p : Program) (c : Config) (bs : List Bool) → AreLevelsOf p c bs → (values : List Val) (number : Numbers) (names : List Entry) (ops : List Operator) → AreNames p c values number names → IsTable p c values number ops → takes_of ops names ≡ takes_in_program p c bs
takes_tabled p c bs h values number names ops are table =
    fun_ext (λ (n : List ℕ).
    ap (option_map (taken_by ops)) (are n)
    ∙ numbered_taken bs number ops (table.leveled bs h) (declared_meaning p c values n) (λ needed j e. has j (meant_within p c values n (named needed (definition_meant j)) (by_index_is (declared_meaning p c values n) ∙ e)))
    ∙ taken_here bs p c values n)
  where
    has : (j : ℕ) → j < length (definitions_in p.units) → (k : ℕ) × (number j ≡ Some k)
    has j lt = elim (slice_get_cases (definitions_in p.units) j).1 [
      | inl w ↦ let r = table.definitions j w.0 w.2 in (r.row, r.numbered)
      | inr w ↦ absurd (omega (arith, lt, w.0))
    ]

assumed_fine : (p : Program) (c : Config) (bs : List Bool) → AreLevelsOf p c bs → (values : List Val) (number : Numbers) (names now : List Entry) (ops grown : List Operator) (params : List (List ℕ)) → HasFineNames p c → AreNames p c values number names → IsTable p c values number ops → AreIn (length ops) names → Grows ops grown → now ≡ names → params ≡ [] → (j : ℕ) (t : Tree) → slice_get (assumptions_in p.units) j ≡ Some t → complaint (with_names (takes_of grown now) params) t ≡ None
assumed_fine p c bs h values number names now ops grown params fine are table known g same none j t at =
    ap (λ (ps : List (List ℕ)). complaint (with_names (takes_of grown now) ps) t) none
    ∙ ap (λ (l : List Entry). complaint (takes_of grown l) t) same
    ∙ ap (λ (g : Takes). complaint g t) (takes_still names ops grown known g ∙ takes_tabled p c bs h values number names ops are table)
    ∙ fine_assumption p c bs h fine j t at

pub assumed_so : (p : Program) (c : Config) (values : List Val) (number : Numbers) (names now : List Entry) (ops grown : List Operator) (params : List (List ℕ)) → HasFineNames p c → AreNames p c values number names → IsTable p c values number ops → AreIn (length ops) names → Grows ops grown → now ≡ names → params ≡ [] → (j : ℕ) (t : Tree) → slice_get (assumptions_in p.units) j ≡ Some t → complaint (with_names (takes_of grown now) params) t ≡ None
assumed_so p c values number names now ops grown params fine are table known g same none j t at =
    let l : (bs : List Bool) × AreLevelsOf p c bs = levels_exist p c in
    assumed_fine p c l.0 l.1 values number names now ops grown params fine are table known g same none j t at

pub known_still : (old new : Table) (trees : List Tree) (i : ℕ) (terms : Terms) → AreAssumed old new trees i terms → AreIn (length old.operators) old.names → AreIn (length new.operators) new.names
known_still old new trees i terms h known =
    still_in old.operators new.operators new.names h.grown (subst (λ (l : List Entry). AreIn (length old.operators) l) (sym h.names) known)

pub none_assumed : (t : Table) (trees : List Tree) (terms : Terms) → UsesSmaller t.operators → terms ≡ NoTerms → AreAssumed t t trees 0 terms
none_assumed t trees terms smaller none = record {
  names = refl;
  numbers = refl;
  grown = grows_none t.operators;
  unnamed = refl;
  smaller = smaller;
  as_many = ap (λ (ts : Terms). length (listed ts)) none;
  below = subst (λ (ts : Terms). All (MentionsBelow (length t.operators)) (listed ts)) (sym none) (All-nil (MentionsBelow (length t.operators)));
  meant = λ j x e at there. absurd (none_at j e (subst (λ (ts : Terms). slice_get (listed ts) j ≡ Some e) none there));
}
  where
    none_at : (j : ℕ) (e : Term) → slice_get [] j ≡ Some e → ⊥
    none_at j e h = absurd (cc)

-- one more term
pub assumed_on : (old mid new : Table) (trees : List Tree) (i : ℕ) (terms more : Terms) (params : List (List ℕ)) (x : Tree) (y : Term) → new.names ≡ mid.names → new.numbers ≡ mid.numbers → Grows mid.operators new.operators → UsesSmaller new.operators → named_in new.operators ≡ named_in mid.operators → MentionsBelow (length new.operators) y → Always new.operators (λ all. Means mid.names all (bind [] params) x y) → params ≡ [] → slice_get trees i ≡ Some x → more ≡ MoreTerms terms y → AreAssumed old mid trees i terms → AreAssumed old new trees (i + 1) more
assumed_on old mid new trees i terms more params x y names numbers grown smaller unnamed below means none at pushed h = record {
  names = names ∙ h.names;
  numbers = numbers ∙ h.numbers;
  grown = grows_on old.operators mid.operators new.operators h.grown grown;
  unnamed = unnamed ∙ h.unnamed;
  smaller = smaller;
  as_many = counted_on (listed terms) (listed more) y i list h.as_many;
  below = subst (λ (l : List Term). All (MentionsBelow (length new.operators)) l) (sym list) (All-append (MentionsBelow (length new.operators)) (listed terms) (y ∷ []) kept (All-cons (MentionsBelow (length new.operators)) y [] below (All-nil (MentionsBelow (length new.operators)))));
  meant = meant_on;
}
  where
    list : listed more ≡ listed terms ++ y ∷ []
    list = ap listed pushed

    kept : All (MentionsBelow (length new.operators)) (listed terms)
    kept k d lt j w =
        let longer : length new.operators ≡ length mid.operators + length grown.0 = ap length grown.1 ∙ length-append mid.operators grown.0 in
        let less : j < length mid.operators = h.below k d lt j w in
        omega (arith, longer, less)

    here : Always new.operators (λ all. Means old.names all [] x y)
    here all g =
        subst (λ (l : List Entry). Means l all [] x y) h.names (subst (λ (ps : List (List ℕ)). Means mid.names all (bind [] ps) x y) none (means all g))

    meant_on : (j : ℕ) (t : Tree) (e : Term) → slice_get trees j ≡ Some t → slice_get (listed more) j ≡ Some e → Always new.operators (λ all. Means old.names all [] t e)
    meant_on j t e there is = elim (pushed_at (listed terms) y j e (subst (λ (l : List Term). slice_get l j ≡ Some e) list is)) [
      | inl a ↦ λ all g. h.meant j t e there a all (grows_on mid.operators new.operators all grown g)
      | inr b ↦
          let found : slice_get trees j ≡ Some x = subst (λ (k : ℕ). slice_get trees k ≡ Some x) (sym h.as_many ∙ b.0) at in
          let both : Some x ≡ Some t = sym found ∙ there in
          let same : x ≡ t = cc in
          λ all g. subst (λ (v : Term). Means old.names all [] t v) b.1 (subst (λ (u : Tree). Means old.names all [] u y) same (here all g))
    ]

pub all_meant : (p : Program) (c : Config) (old new : Table) (items : List (Bor Tree)) (i : ℕ) (terms : Terms) → map (λ (d : Bor Tree). d.now) items ≡ assumptions_in p.units → i ≤ length items → length items ≤ i → AreAssumed old new (assumptions_in p.units) i terms → (values : List Val) → AreNames p c values (numbers_of old.numbers.items) old.names → AreMeant p c values (numbers_of old.numbers.items) new.operators (assumptions_in p.units) (listed terms)
all_meant p c old new items i terms e most least h values a = record {
  as_many = (let same : length items ≡ length (assumptions_in p.units) = sym (length-map items (λ (d : Bor Tree). d.now)) ∙ ap length e in omega (arith, same, most, least, h.as_many));
  each = λ j t x at there. record { names = old.names; are = a; means = h.meant j t x at there new.operators (grows_none new.operators) };
}
