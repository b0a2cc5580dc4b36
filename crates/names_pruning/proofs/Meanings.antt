-- What is said by the list of what names mean is so of the program and its configuration.
use Rattle.std.proofs.Common.{◌≡◌, ◌∙◌, ◌⊎◌, ◌↔◌, inl, inr, ℕ, List, [], ◌∷◌, refl, sym, ap, subst}
use Rattle.std.specs.Prelude.{Bool, true, false, ◌&&◌, ◌||◌, not, is_none, Option, None, Some, Contains}
use Rattle.values_core.specs.Data.{Val}
use Rattle.reading_trees.specs.declared.config.Config.{Config}
use Rattle.reading_trees.specs.declared.expr.Definition.{Definition}
use Rattle.reading_trees.specs.declared.module.DeclaredOperator.{DeclaredOperator}
use Rattle.reading_trees.specs.declared.module.Program.{Program}
use Rattle.reading_trees.specs.declared.module.Unit.{Unit as ModuleUnit}
use Rattle.reading_trees.specs.declared.module.Unit.TheVariants.{Variables, Constants, Recursive, Define, Instance, Assume, Passed}
use Rattle.reading_trees.specs.Trees.{Tree}
use Rattle.names_scopes.specs.declared.meant.Entry.{Entry}
use Rattle.names_scopes.specs.declared.meant.Meant.{Meant}
use Rattle.names_scopes.specs.declared.meant.Meant.TheVariants as meant
use Rattle.names_scopes.specs.declared.meant.Named.{Named}
use Rattle.names_scopes.specs.Mentions.{is_one_of, mentions}
use Rattle.names_scopes.specs.Scopes.{among, named}
use Rattle.names_program.specs.InUnits.{definitions_in}
use Rattle.names_program.specs.Names.{AreNames, by_index, constant_index, constant_means, declared_meaning, definition_index, definition_means, definition_meant, first_of, program_meaning, standard_means, variable_means, variable_named}
use Rattle.names_program.specs.Standard.{brought}
use Rattle.names_program.specs.Uses.{MeansDefinition, UsesDefinition}
use Rattle.names_program.proofs.NameLemmas.{by_index_is}
use Rattle.names_program.proofs.Values.{means_with_other_values}
use Rattle.names_uses.specs.UsedNames.{number_in, number_of}
use Rattle.base_use_order.specs.Uses.{Table, Uses}
use Rattle.base_use_order.specs.Reach.{IsLeading, IsLedTo, IsReached, is_first, is_last, is_used as is_led, is_user}
use Rattle.names_pruning.specs.Parts.{AreGone, DeclaresBad, HasBadName, IsNamedAt, IsOver, IsWithout, LacksAt, Lacks, is_lost, is_set_at, gone_of, left_of}
use Rattle.names_pruning.specs.Pruning.{DeclaresGone, GoesWith, IsBad, IsLacking, IsLost, IsNeeded, LeansOn, Parted, Without, all_parted, behind, declares_gone, declares_lost, has_gone, has_lost, is_gone, is_left, is_root, is_used, lacks, uses_bad}

-- ---- a name that means nothing means nothing, whatever the constants are

none_of_constants : (p : Program) (c : Config) (vs ws : List Val) (n : List ℕ) (i : Option ℕ) (rest : Option Named) → first_of (constant_means p c vs n i) rest ≡ None
    → first_of (constant_means p c ws n i) rest ≡ None
none_of_constants p c vs ws n None rest h = h
none_of_constants p c vs ws n (Some i) rest h = absurd (cc)

none_of_variables : (p : Program) (c : Config) (vs ws : List Val) (n : List ℕ) (i : Option ℕ) (rest : Option Named) → first_of (variable_means i) (first_of (constant_means p c vs n (constant_index p n)) rest) ≡ None
    → first_of (variable_means i) (first_of (constant_means p c ws n (constant_index p n)) rest) ≡ None
none_of_variables p c vs ws n None rest h = none_of_constants p c vs ws n (constant_index p n) rest h
none_of_variables p c vs ws n (Some i) rest h = absurd (cc)

none_with_other_values : (p : Program) (c : Config) (vs ws : List Val) (n : List ℕ) → program_meaning p c vs by_index n ≡ None → program_meaning p c ws by_index n ≡ None
none_with_other_values p c vs ws n h =
    by_index_is (declared_meaning p c ws n)
    ∙ none_of_variables p c vs ws n (variable_named p n) (first_of (definition_means p c n (definition_index p n)) (standard_means p c n (among (brought p.standard) n)))
    (sym (by_index_is (declared_meaning p c vs n)) ∙ h)

is_none_is : {A : Type 0} (o : Option A) → is_none o ≡ true → o ≡ None
is_none_is None e = refl
is_none_is (Some a) e = absurd (cc)

-- ---- truth values

either : (a b : Bool) → (a || b) ≡ true → (a ≡ true) ⊎ (b ≡ true)
either true b e = inl refl
either false b e = inr e

or_first : (a b : Bool) → a ≡ true → (a || b) ≡ true
or_first true b e = refl
or_first false b e = absurd (cc)

or_second : (a b : Bool) → b ≡ true → (a || b) ≡ true
or_second true b e = refl
or_second false b e = e

both : (a b : Bool) → (not a && b) ≡ true → (a ≡ false) × (b ≡ true)
both true b e = absurd (cc)
both false b e = (refl, e)

as_both : (a b : Bool) → a ≡ false → b ≡ true → (not a && b) ≡ true
as_both true b e f = absurd (cc)
as_both false b e f = f

-- ---- definitions that are meant

number_meant : (m : Meant) (j : ℕ) → number_of m ≡ Some j → m ≡ definition_meant j
number_meant (meant.Definition k) j e = let q : k.0 ≡ j = cc in ap (λ (i : ℕ). meant.Definition (record { 0 = i })) q
number_meant (meant.Slot i) j e = absurd (cc)
number_meant (meant.Variable x) j e = absurd (cc)
number_meant (meant.Known v) j e = absurd (cc)
number_meant (meant.Set s) j e = absurd (cc)
number_meant (meant.Standard s) j e = absurd (cc)

record MeantBy (o : Option Named) (j : ℕ) : Type 0 where
  pub needed : ℕ
  pub is : o ≡ Some (named needed (definition_meant j))

meant_by : (o : Option Named) (j : ℕ) → number_in o ≡ Some j → MeantBy o j
meant_by None j e = absurd (cc)
meant_by (Some w) j e = record { needed = w.needed; is = ap (λ (m : Meant). Some (named w.needed m)) (number_meant w.meant j e) }

module _ (p : Program) (c : Config) (values : List Val) (names : List Entry) (are : AreNames p c values by_index names) where
  pub means_definition : (n : List ℕ) (j : ℕ) → number_in (among names n) ≡ Some j → MeansDefinition p c n j
  means_definition n j e =
      let m : MeantBy (among names n) j = meant_by (among names n) j e in
      (m.needed, means_with_other_values p c values [] n m.needed j (sym (are n) ∙ m.is))

  pub number_is : (n : List ℕ) (j : ℕ) → MeansDefinition p c n j → number_in (among names n) ≡ Some j
  number_is n j h =
      let w : among names n ≡ Some (named h.0 (definition_meant j)) = are n ∙ means_with_other_values p c [] values n h.0 j h.1 in
      ap number_in w

  module _ (unread : List (List ℕ)) where
    lost_in : (n : List ℕ) → is_lost names unread n ≡ true → IsLost p c unread n
    lost_in n e = elim (either (is_one_of n unread) (is_none (among names n)) e) [
      | inl h ↦ inl h
      | inr h ↦ inr (none_with_other_values p c values [] n (sym (are n) ∙ is_none_is (among names n) h))
    ]

    is_in_lost : (n : List ℕ) → IsLost p c unread n → is_lost names unread n ≡ true
    is_in_lost n (inl h) = or_first (is_one_of n unread) (is_none (among names n)) h
    is_in_lost n (inr h) =
        let none : among names n ≡ None = are n ∙ none_with_other_values p c [] values n h in
        or_second (is_one_of n unread) (is_none (among names n)) (ap is_none none)

    lacking_is : (d : Definition) → Lacks names unread d → IsLacking p c unread d
    lacking_is d (inl h) = inl h
    lacking_is d (inr h) =
        let parts = both (is_one_of h.name d.params) (is_lost names unread h.name) h.lost in
        inr (record { name = h.name; mentioned = h.mentioned; no_parameter = parts.0; lost = lost_in h.name parts.1 })

    is_lacking : (d : Definition) → IsLacking p c unread d → Lacks names unread d
    is_lacking d (inl h) = inl h
    is_lacking d (inr h) = inr (record {
      name = h.name;
      mentioned = h.mentioned;
      lost = as_both (is_one_of h.name d.params) (is_lost names unread h.name) h.no_parameter (is_in_lost h.name h.lost);
    })

    module _ (uses : Table) (exact : (i j : ℕ) → Uses uses i j ↔ UsesDefinition p c i j) (found : List ℕ) (lacking : (i : ℕ) → Contains found i ↔ LacksAt names unread (definitions_in p.units) i) where
      leading_bad : (i : ℕ) → IsLeading uses found i → IsBad p c unread i
      leading_bad _ (is_last i h) = let at = (lacking i).0 h in lacks i at.definition at.stands (lacking_is at.definition at.lacks)
      leading_bad _ (is_user i j u l) = uses_bad i j ((exact i j).0 u) (leading_bad j l)

      bad_leading : (i : ℕ) → IsBad p c unread i → IsLeading uses found i
      bad_leading _ (lacks i d e h) = is_last i ((lacking i).1 (record { definition = d; stands = e; lacks = is_lacking d h }))
      bad_leading _ (uses_bad i j u b) = is_user i j ((exact i j).1 u) (bad_leading j b)

      pub bad_exactly : (i : ℕ) → IsLeading uses found i ↔ IsBad p c unread i
      bad_exactly i = (leading_bad i, bad_leading i)

  module _ (roots : List (List ℕ)) (uses : Table) (exact : (i j : ℕ) → Uses uses i j ↔ UsesDefinition p c i j) (found : List ℕ) (asked : (i : ℕ) → Contains found i ↔ IsNamedAt (definitions_in p.units) roots i) where
    led_needed : (i : ℕ) → IsLedTo uses found i → IsNeeded p c roots i
    led_needed _ (is_first i h) = let at = (asked i).0 h in is_root at.name i at.asked at.defines
    led_needed _ (is_led i j l u) = is_used i j (led_needed i l) ((exact i j).0 u)

    needed_led : (i : ℕ) → IsNeeded p c roots i → IsLedTo uses found i
    needed_led _ (is_root n i h m) = is_first i ((asked i).1 (record { name = n; asked = h; defines = m }))
    needed_led _ (is_used i j l u) = is_led i j (needed_led i l) ((exact i j).1 u)

    pub needed_exactly : (i : ℕ) → IsLedTo uses found i ↔ IsNeeded p c roots i
    needed_exactly i = (led_needed i, needed_led i)

  module _ (unread : List (List ℕ)) (flags : List Bool) (Goes : ℕ → Type 0) (exact : (i : ℕ) → IsReached flags i ↔ Goes i) where
    set_at_gone : (n : List ℕ) (e : Tree) (o : Option ℕ) → number_in (among names n) ≡ o → mentions n e ≡ true → is_set_at flags o ≡ true → LeansOn p c unread Goes e
    set_at_gone n e None q m h = absurd (cc)
    set_at_gone n e (Some j) q m h = has_gone n j m (means_definition n j q) ((exact j).0 h)

    leans_on : (e : Tree) → HasBadName names unread flags e → LeansOn p c unread Goes e
    leans_on e h = elim (either (is_lost names unread h.name) (is_set_at flags (number_in (among names h.name))) h.is_bad) [
      | inl l ↦ has_lost h.name h.mentioned (lost_in unread h.name l)
      | inr b ↦ set_at_gone h.name e (number_in (among names h.name)) refl h.mentioned b
    ]

    has_bad_name : (e : Tree) → LeansOn p c unread Goes e → HasBadName names unread flags e
    has_bad_name e (has_lost n m l) =
        record { name = n; mentioned = m; is_bad = or_first (is_lost names unread n) (is_set_at flags (number_in (among names n))) (is_in_lost unread n l) }
    has_bad_name e (has_gone n i m d b) =
        let set : is_set_at flags (number_in (among names n)) ≡ true = ap (is_set_at flags) (number_is n i d) ∙ (exact i).1 b in
        record { name = n; mentioned = m; is_bad = or_second (is_lost names unread n) (is_set_at flags (number_in (among names n))) set }

    declared_at : (rs : List DeclaredOperator) (r : DeclaredOperator) (o : Option ℕ) → number_in (among names r.name) ≡ o → Contains rs r → is_set_at flags o ≡ true → DeclaresGone p c unread Goes rs
    declared_at rs r None q m h = absurd (cc)
    declared_at rs r (Some j) q m h = declares_gone r j m (means_definition r.name j q) ((exact j).0 h)

    declares_one : (rs : List DeclaredOperator) → DeclaresBad names unread flags rs → DeclaresGone p c unread Goes rs
    declares_one rs h =
        let n = h.operator.name in
        elim (either (is_lost names unread n) (is_set_at flags (number_in (among names n))) h.is_bad) [
          | inl l ↦ declares_lost h.operator h.declared (lost_in unread n l)
          | inr b ↦ declared_at rs h.operator (number_in (among names n)) refl h.declared b
        ]

    declares_bad : (rs : List DeclaredOperator) → DeclaresGone p c unread Goes rs → DeclaresBad names unread flags rs
    declares_bad rs (declares_lost r m l) =
        record { operator = r; declared = m; is_bad = or_first (is_lost names unread r.name) (is_set_at flags (number_in (among names r.name))) (is_in_lost unread r.name l) }
    declares_bad rs (declares_gone r i m d b) =
        let set : is_set_at flags (number_in (among names r.name)) ≡ true = ap (is_set_at flags) (number_is r.name i d) ∙ (exact i).1 b in
        record { operator = r; declared = m; is_bad = or_second (is_lost names unread r.name) (is_set_at flags (number_in (among names r.name))) set }

    goes : (i : ℕ) (u : ModuleUnit) → IsOver names unread flags i u → GoesWith p c unread Goes i u
    goes i (Variables ds) h = h
    goes i (Constants ds) h = h
    goes i (Define d) h = (exact i).0 h
    goes i (Assume e) h = leans_on e h
    goes i (Recursive rs) h = declares_one rs h
    goes i (Instance m) h = h
    goes i Passed h = h

    is_to_go : (i : ℕ) (u : ModuleUnit) → GoesWith p c unread Goes i u → IsOver names unread flags i u
    is_to_go i (Variables ds) h = h
    is_to_go i (Constants ds) h = h
    is_to_go i (Define d) h = (exact i).1 h
    is_to_go i (Assume e) h = has_bad_name e h
    is_to_go i (Recursive rs) h = declares_bad rs h
    is_to_go i (Instance m) h = h
    is_to_go i Passed h = h

    pub goes_with : (i : ℕ) (u : ModuleUnit) → IsOver names unread flags i u ↔ GoesWith p c unread Goes i u
    goes_with i u = (goes i u, is_to_go i u)

pub parted_by : (Here Goes : ℕ → ModuleUnit → Type 0) → ((i : ℕ) (u : ModuleUnit) → Here i u ↔ Goes i u) → (i : ℕ) (units : List ModuleUnit) (flags : List Bool) → AreGone Here i units flags
    → Parted Goes i units (left_of flags units) (gone_of flags units)
parted_by Here Goes same i [] [] h = all_parted i
parted_by Here Goes same i [] (b ∷ flags) h = absurd h
parted_by Here Goes same i (u ∷ units) [] h = absurd h
parted_by Here Goes same i (u ∷ units) (true ∷ flags) h =
    is_gone i u units (left_of flags units) (gone_of flags units) ((same i u).0 (h.0.0 refl)) (parted_by Here Goes same (behind i u) units flags h.1)
parted_by Here Goes same i (u ∷ units) (false ∷ flags) h =
    is_left i u units (left_of flags units) (gone_of flags units) (λ g. let set : false ≡ true = h.0.1 ((same i u).1 g) in absurd (cc)) (parted_by Here Goes same (behind i u) units flags h.1)

-- the program that is left without the definitions that are flagged
pub without_by : (p : Program) (c : Config) (unread : List (List ℕ)) (values : List Val) (names : List Entry) → AreNames p c values by_index names → (flags : List Bool) (Goes : ℕ → Type 0)
    → ((i : ℕ) → IsReached flags i ↔ Goes i) → (q : Program) (gone : List ModuleUnit) → IsWithout names unread flags p q gone → Without p c unread Goes q gone
without_by p c unread values names are flags Goes exact q gone h = record {
  files = h.files;
  parted =
      subst (λ us. Parted (GoesWith p c unread Goes) 0 p.units us gone) (sym h.left)
      (subst (λ us. Parted (GoesWith p c unread Goes) 0 p.units (left_of h.over p.units) us) (sym h.passed)
      (parted_by (IsOver names unread flags) (GoesWith p c unread Goes) (goes_with p c values names are unread flags Goes exact) 0 p.units h.over h.are));
  standard = h.standard;
}
