-- The least levels of a program: they are there, and they are the same whichever names tell so.
use Rattle.std.proofs.Common.{◌≡◌, ◌∙◌, sym, ap, refl, subst, List, [], ◌∷◌, ◌++◌, length, ◌<◌, ◌≤◌, append_assoc, append-nil}
use Rattle.std.specs.Prelude.{◌↔◌, ℕ, ◌+◌, Bool, true, false, if◌then◌else◌, Option, Some, None, drop, get_or}
use Rattle.std.specs.Str.{bytes_eq}
use Rattle.std.proofs.Math.Path.{fun_ext}
use Rattle.values_core.specs.Data.{Val}
use Rattle.reading_trees.specs.declared.config.Config.{Config}
use Rattle.reading_trees.specs.declared.expr.Definition.{Definition}
use Rattle.reading_trees.specs.declared.module.Program.{Program}
use Rattle.names_least_levels.specs.declared.told.NameLevel.{NameLevel}
use Rattle.names_least_levels.specs.Levels.{AreLeast, body_rises, each_rises, levels_of, mark, names_rise, told_rises}
use Rattle.names_least_levels.specs.Rising.{Rising, rises, without}
use Rattle.names_least_levels.proofs.Walking.{levels_are}
use Rattle.names_scopes.specs.declared.meant.Entry.{Entry}
use Rattle.names_scopes.specs.declared.meant.Meant.{Meant}
use Rattle.names_scopes.specs.declared.meant.Meant.TheVariants as meant
use Rattle.names_scopes.specs.declared.meant.Named.{Named}
use Rattle.names_scopes.specs.Scopes.{among}
use Rattle.names_scopes.proofs.LevelLoops.{cut_at, cut_end}
use Rattle.names_program.specs.Entries.{variable_entries, constant_entries, definition_entries, standard_entries}
use Rattle.names_program.specs.InUnits.{variables_in, constants_in, definitions_in}
use Rattle.names_program.specs.Names.{AreNames, by_index, constant_index, constant_means, declared_meaning, definition_index, definition_means, first_of, meant_or, replacement, standard_means, value_at, variable_means, variable_named}
use Rattle.names_program.specs.Recursion.{AreLevelsOf, AreTold, IsAbove, meant_rises, named_rises}
use Rattle.names_program.specs.Standard.{brought}
use Rattle.names_program.proofs.NameLemmas.{are_names, by_index_is}
use Rattle.names_uses.specs.ToldLevels.{told_entry, told_meant, told_names}

-- Entries tell when the names are above level 0.

meant_told : (bs : List Bool) (m : Meant) → told_rises bs (told_meant m) ≡ meant_rises bs m
meant_told bs (meant.Variable x) = refl
meant_told bs (meant.Definition k) = refl
meant_told bs (meant.Slot i) = refl
meant_told bs (meant.Known v) = refl
meant_told bs (meant.Set s) = refl
meant_told bs (meant.Standard s) = refl

picked : (bs : List Bool) (w : Named) (x : Bool) (o : Option Named) → x ≡ named_rises bs o → (b : Bool) → (if b then told_rises bs (told_meant w.meant) else x) ≡ named_rises bs (if b then Some w else o)
picked bs w x o q true = meant_told bs w.meant
picked bs w x o q false = q

names_told : (bs : List Bool) (n : List ℕ) (es : List Entry) → names_rise (told_names es) bs n ≡ named_rises bs (among es n)
names_told bs n [] = refl
names_told bs n (e ∷ es) = picked bs e.is (names_rise (told_names es) bs n) (among es n) (names_told bs n es) (bytes_eq e.name n)

-- The values of constants say nothing of it.

replaced_rises : (bs : List Bool) (v w : Val) (r : Option ℕ) → meant_rises bs (meant_or (meant.Known v) r) ≡ meant_rises bs (meant_or (meant.Known w) r)
replaced_rises bs v w None = refl
replaced_rises bs v w (Some j) = refl

constants_rise : (bs : List Bool) (p : Program) (c : Config) (vs ws : List Val) (n : List ℕ) (i : Option ℕ) (rest : Option Named) → named_rises bs (first_of (constant_means p c vs n i) rest) ≡ named_rises bs (first_of (constant_means p c ws n i) rest)
constants_rise bs p c vs ws n None rest = refl
constants_rise bs p c vs ws n (Some i) rest = replaced_rises bs (value_at vs i) (value_at ws i) (replacement p c n 0)

variables_rise : (bs : List Bool) (p : Program) (c : Config) (vs ws : List Val) (n : List ℕ) (i : Option ℕ) (rest : Option Named) → named_rises bs (first_of (variable_means i) (first_of (constant_means p c vs n (constant_index p n)) rest)) ≡ named_rises bs (first_of (variable_means i) (first_of (constant_means p c ws n (constant_index p n)) rest))
variables_rise bs p c vs ws n None rest = constants_rise bs p c vs ws n (constant_index p n) rest
variables_rise bs p c vs ws n (Some i) rest = refl

rises_with_other_values : (bs : List Bool) (p : Program) (c : Config) (vs ws : List Val) (n : List ℕ) → named_rises bs (declared_meaning p c vs n) ≡ named_rises bs (declared_meaning p c ws n)
rises_with_other_values bs p c vs ws n =
    variables_rise bs p c vs ws n (variable_named p n) (first_of (definition_means p c n (definition_index p n)) (standard_means p c n (among (brought p.standard) n)))

pub are_told : (p : Program) (c : Config) (values : List Val) (names : List Entry) → AreNames p c values by_index names → AreTold p c (told_names names)
are_told p c values names are bs n =
    names_told bs n names ∙ ap (named_rises bs) (are n ∙ by_index_is (declared_meaning p c values n)) ∙ rises_with_other_values bs p c values [] n

-- Two lists that tell the same.

same_each : (a b : List NameLevel) → ((bs : List Bool) → names_rise a bs ≡ names_rise b bs) → (bs : List Bool) (ds : List Definition) → each_rises a bs ds ≡ each_rises b bs ds
same_each a b same bs [] = refl
same_each a b same bs (d ∷ ds) =
    ap (λ (g : Rising). rises (without g d.params) d.body ∷ each_rises a bs ds) (same bs) ∙ ap (λ (l : List Bool). body_rises b bs d ∷ l) (same_each a b same bs ds)

same_least : (a b : List NameLevel) → ((bs : List Bool) → names_rise a bs ≡ names_rise b bs) → (ds : List Definition) (bs : List Bool) → AreLeast a ds bs → AreLeast b ds bs
same_least a b same ds bs h = record {
  levels = sym (same_each a b same bs ds) ∙ h.levels;
  least = λ xs l. h.least xs (same_each a b same xs ds ∙ l);
}

tell_the_same : (p : Program) (c : Config) (a b : List NameLevel) → AreTold p c a → AreTold p c b → (bs : List Bool) → names_rise a bs ≡ names_rise b bs
tell_the_same p c a b s t bs = fun_ext (λ (n : List ℕ). s bs n ∙ sym (t bs n))

one_least : (names : List NameLevel) (ds : List Definition) (bs xs : List Bool) → AreLeast names ds bs → AreLeast names ds xs → bs ≡ xs
one_least names ds bs xs h k = (levels_are names ds).only bs h ∙ sym ((levels_are names ds).only xs k)

pub levels_same : (p : Program) (c : Config) (bs xs : List Bool) → AreLevelsOf p c bs → AreLevelsOf p c xs → bs ≡ xs
levels_same p c bs xs h k =
    one_least k.0 (definitions_in p.units) bs xs (same_least h.0 k.0 (tell_the_same p c h.0 k.0 h.1 k.1) (definitions_in p.units) bs h.2) k.2

-- there are least levels
pub levels_there : (p : Program) (c : Config) (values : List Val) (names : List Entry) → AreNames p c values by_index names → (bs : List Bool) × AreLevelsOf p c bs
levels_there p c values names are =
    let told : List NameLevel = told_names names in
    (levels_of told (definitions_in p.units), (told, are_told p c values names are, (levels_are told (definitions_in p.units)).found))

pub levels_exist : (p : Program) (c : Config) → (bs : List Bool) × AreLevelsOf p c bs
levels_exist p c =
    let vs : List Entry = variable_entries 0 (variables_in p.units) in
    let cs : List Entry = constant_entries c.givens (definitions_in p.units) [] 0 (constants_in p.units) in
    let es : List Entry = definition_entries c.givens (definitions_in p.units) 0 (definitions_in p.units) in
    let ss : List Entry = standard_entries c.givens (definitions_in p.units) (brought p.standard) in
    let all : List Entry = ((vs ++ cs) ++ es) ++ ss in
    let are : AreNames p c [] by_index all = are_names p c [] all vs cs es ss refl refl refl refl refl in
    levels_there p c [] all are

-- a definition is above level 0 where its mark says so
pub above_marked : (p : Program) (c : Config) (bs : List Bool) (i : ℕ) → AreLevelsOf p c bs → IsAbove p c i ↔ (mark bs i ≡ true)
above_marked p c bs i h =
    (λ a. subst (λ (l : List Bool). mark l i ≡ true) (levels_same p c a.0 bs a.1 h) a.2, λ m. (bs, h, m))

-- A walk over the entries.

pub told_on : (old new target : List NameLevel) (items : List Entry) (i : ℕ) (x : Entry) → i < length items → x ≡ get_or items i x → new ≡ old ++ told_entry x ∷ [] → old ++ told_names (drop i items) ≡ target → new ++ told_names (drop (i + 1) items) ≡ target
told_on old new target items i x lt e n t =
    ap (λ (l : List NameLevel). l ++ told_names (drop (i + 1) items)) n ∙ append_assoc old (told_entry x ∷ []) (told_names (drop (i + 1) items)) ∙ ap (λ (l : List NameLevel). old ++ l) (sym (ap told_names (cut_at items i x lt e))) ∙ t

pub told_end : (old target : List NameLevel) (items : List Entry) (i : ℕ) → length items ≤ i → old ++ told_names (drop i items) ≡ target → old ≡ target
told_end old target items i le t = sym (append-nil old) ∙ ap (λ (l : List Entry). old ++ told_names l) (sym (cut_end items i le)) ∙ t
