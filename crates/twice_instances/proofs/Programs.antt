-- The definitions of an instance whose units stand among those of a program are rows of the program's table.
use Rattle.std.proofs.Common.{◌≡◌, ◌∙◌, sym, ap, subst, List, [], ◌∷◌, ◌++◌, length, arith}
use Rattle.std.specs.Prelude.{◌+◌, ℕ, zero, suc, Some, slice_get}
use Rattle.reading_trees.specs.declared.expr.Definition.{Definition}
use Rattle.reading_trees.specs.declared.module.Unit.{Unit as ModuleUnit}
use Rattle.reading_trees.specs.declared.module.Unit.TheVariants.{Variables, Constants, Recursive, Define, Instance, Assume, Passed}
use Rattle.names_terms.specs.declared.operator.Own.{Own}
use Rattle.names_program.specs.InUnits.{constants_in, definitions_in}
use Rattle.names_program.proofs.DeclaredLemmas.{definitions_behind}
use Rattle.names_tables.specs.Tables.{IsTabled, unit_operator}
use Rattle.names_tables.proofs.OwnMarks.{own_one}
use Rattle.names_instances.specs.Instances.{constants_made, definition_made, instance_units, units_made}
use Rattle.names_instances.specs.Made.{StandIns}
use Rattle.twice_instances.specs.Programs.{AmongIsInstance, IsRow, instance_names, place_of_made}
use Rattle.twice_instances.specs.Rows.{AreRead, row_of}

behind : {A : Type 0} (xs ys : List A) (i : ℕ) → slice_get (xs ++ ys) (length xs + i) ≡ slice_get ys i
behind [] ys i = let e : 0 + i ≡ i = omega arith in ap (slice_get ys) e
behind (x ∷ xs) ys i = let e : suc (length xs) + i ≡ suc (length xs + i) = omega arith in ap (slice_get (x ∷ (xs ++ ys))) e ∙ behind xs ys i

before : {A : Type 0} (xs ys : List A) (i : ℕ) (x : A) → slice_get xs i ≡ Some x → slice_get (xs ++ ys) i ≡ Some x
before [] ys i x e = absurd (cc)
before (y ∷ xs) ys zero x e = e
before (y ∷ xs) ys (suc i) x e = before xs ys i x e

-- what a definition of the module becomes
made_at : (i : List ℕ) (by : StandIns) (us : List ModuleUnit) (x : ℕ) (d : Definition) → slice_get (definitions_in us) x ≡ Some d → slice_get (definitions_in (units_made i by us)) x ≡ Some (definition_made i by d)
made_at i by [] x d e = absurd (cc)
made_at i by (Define u ∷ us) zero d e = let same : u ≡ d = cc in ap (λ (v : Definition). Some (definition_made i by v)) same
made_at i by (Define u ∷ us) (suc x) d e = made_at i by us x d e
made_at i by (Variables ds ∷ us) x d e = made_at i by us x d e
made_at i by (Constants ds ∷ us) x d e = made_at i by us x d e
made_at i by (Recursive ds ∷ us) x d e = made_at i by us x d e
made_at i by (Assume t ∷ us) x d e = made_at i by us x d e
made_at i by (Instance u ∷ us) x d e = made_at i by us x d e
made_at i by (Passed ∷ us) x d e = made_at i by us x d e

pub among_is_instance : AmongIsInstance
among_is_instance substitute variables i m ws own ops number q c values us vs others all renumber among =
    record { smaller = among.read.smaller; smaller_there = among.table.smaller; fit = among.read.fit; read = read; names = among.names }
  where
    by : StandIns
    by = instance_names i m ws

    constants : List Definition
    constants = definitions_in (constants_made i ws (constants_in m.units))

    made_definitions : List Definition
    made_definitions = definitions_in (units_made i by m.units)

    whole : definitions_in q.units ≡ definitions_in us ++ (constants ++ made_definitions) ++ definitions_in vs
    whole =
        ap definitions_in among.units ∙ definitions_behind (us ++ instance_units i m ws) vs ∙ ap (λ (ds : List Definition). ds ++ definitions_in vs) (definitions_behind us (instance_units i m ws) ∙ ap (λ (ds : List Definition). definitions_in us ++ ds) (definitions_behind (constants_made i ws (constants_in m.units)) (units_made i by m.units)))

    placed : (x : ℕ) (d : Definition) → slice_get (definitions_in m.units) x ≡ Some d → slice_get (definitions_in q.units) (place_of_made us i m ws x) ≡ Some (definition_made i by d)
    placed x d e =
        let there : slice_get (definitions_in us ++ (constants ++ made_definitions)) (place_of_made us i m ws x) ≡ Some (definition_made i by d) =
        behind (definitions_in us) (constants ++ made_definitions) (length constants + x) ∙ behind constants made_definitions x ∙ made_at i by m.units x d e in
        ap (λ (ds : List Definition). slice_get ds (place_of_made us i m ws x)) whole ∙ before (definitions_in us ++ (constants ++ made_definitions)) (definitions_in vs) (place_of_made us i m ws x) (definition_made i by d) there

    read : (x : ℕ) (d : Definition) (k j : ℕ) → slice_get (definitions_in m.units) x ≡ Some d → number x ≡ Some k → renumber (place_of_made us i m ws x) ≡ Some j → AreRead by own others ops all d k j
    read x d k j at a b =
        let r : IsRow own ops number x d = among.read.definitions x d at in
        let t : IsTabled q c values renumber all (place_of_made us i m ws x) (definition_made i by d) = among.table.definitions (place_of_made us i m ws x) (definition_made i by d) (placed x d at) in
        let u : Some r.row ≡ Some k = sym r.numbered ∙ a in
        let v : Some t.row ≡ Some j = sym t.numbered ∙ b in
        let left : r.row ≡ k = cc in
        let right : t.row ≡ j = cc in
        let same : t.own ≡ r.uses = own_one q c (place_of_made us i m ws x) (definition_made i by d) t.own r.uses (placed x d at) t.marked (among.marked x d at r) in
        record {
          name = (definition_made i by d).name;
          uses = r.uses;
          body = r.body;
          made_body = t.body;
          here = subst (λ (n : ℕ). slice_get ops n ≡ Some (row_of d.name (length d.params) r.uses r.body)) left r.stands;
          there = subst (λ (o : Own). slice_get all j ≡ Some (unit_operator (definition_made i by d) o t.body)) same (subst (λ (n : ℕ). slice_get all n ≡ Some (unit_operator (definition_made i by d) t.own t.body)) right t.stands);
          means = r.means;
          names = t.means.names;
          are = λ n. t.means.are n ∙ sym (among.are n);
          made_means = t.means.means;
        }
