-- Definitions that stand for others, with levels as these are marked.
use Rattle.std.proofs.Common.{◌≡◌, ◌∙◌, sym, ap, refl, subst, List, [], ◌∷◌, ◌++◌, length, ◌<◌, ◌≤◌, ◌+◌, map, take, get_or}
use Rattle.std.specs.Prelude.{ℕ, zero, suc, Bool, false, slice_get}
use Rattle.std.proofs.lemmas.List.{length-map, map-append, take_all, take_more}
use Rattle.values_core.specs.Data.{Val}
use Rattle.reading_trees.specs.declared.config.Config.{Config}
use Rattle.reading_trees.specs.declared.module.Program.{Program}
use Rattle.names_terms.specs.declared.operator.Operator.{Operator}
use Rattle.names_terms.specs.Levels.{of_operator}
use Rattle.names_least_levels.specs.Levels.{mark}
use Rattle.names_least_levels.proofs.Walking.{each_length}
use Rattle.names_scopes.specs.declared.meant.Entry.{Entry}
use Rattle.names_scopes.specs.Standing.{AreIn}
use Rattle.names_meanings.specs.Outcomes.{above, takes_of}
use Rattle.names_program.specs.InUnits.{definitions_in}
use Rattle.names_program.specs.Names.{AreNames, by_index}
use Rattle.names_program.specs.Recursion.{AreLevelsOf}
use Rattle.names_uses.proofs.ProgramLevels.{levels_same}
use Rattle.names_tables.specs.NameFaults.{takes_in_program}
use Rattle.names_tables.proofs.ProgramTakes.{takes_are}

abbrev pub marks_of : List Operator → List Bool
marks_of ops = map (λ (o : Operator). above o.level) ops

pub marked_by : (ops : List Operator) (bs : List Bool) → marks_of ops ≡ bs → (k : ℕ) → above (of_operator (slice_get ops k)) ≡ mark bs k
marked_by ops bs e k = at ops k ∙ ap (λ (l : List Bool). mark l k) e
  where
    at : (xs : List Operator) (k : ℕ) → above (of_operator (slice_get xs k)) ≡ mark (marks_of xs) k
    at [] zero = refl
    at [] (suc k) = refl
    at (x ∷ xs) zero = refl
    at (x ∷ xs) (suc k) = at xs k

pub marks_on : (old new : List Operator) (o : Operator) (bs : List Bool) (i : ℕ) → i < length bs → new ≡ old ++ o ∷ [] → above o.level ≡ get_or bs i false → marks_of old ≡ take i bs → marks_of new ≡ take (i + 1) bs
marks_on old new o bs i lt n l h =
    ap marks_of n ∙ map-append (λ (x : Operator). above x.level) old (o ∷ []) ∙ ap (λ (xs : List Bool). xs ++ above o.level ∷ []) h ∙ ap (λ (x : Bool). take i bs ++ x ∷ []) l ∙ sym (take_more bs i false lt)

pub marks_end : (ops : List Operator) (bs : List Bool) (i : ℕ) → length bs ≤ i → marks_of ops ≡ take i bs → marks_of ops ≡ bs
marks_end ops bs i le h = h ∙ take_all i bs le

pub as_many : (ops : List Operator) (bs : List Bool) → marks_of ops ≡ bs → length ops ≡ length bs
as_many ops bs e = sym (length-map ops (λ (o : Operator). above o.level)) ∙ ap length e

pub levels_as_many : (p : Program) (c : Config) (bs : List Bool) → AreLevelsOf p c bs → length bs ≡ length (definitions_in p.units)
levels_as_many p c bs h = ap length (sym h.2.levels) ∙ each_length h.0 bs (definitions_in p.units)

-- the table at the beginning: as many definitions, with these levels
pub begun_known : (p : Program) (c : Config) (bs : List Bool) → AreLevelsOf p c bs → (ops : List Operator) (names : List Entry) → marks_of ops ≡ bs → AreIn (length (definitions_in p.units)) names → AreIn (length ops) names
begun_known p c bs h ops names e known = subst (λ (n : ℕ). AreIn n names) (sym (as_many ops bs e ∙ levels_as_many p c bs h)) known

pub begun_takes : (p : Program) (c : Config) (values : List Val) (names : List Entry) → AreNames p c values by_index names → (bs : List Bool) → AreLevelsOf p c bs → (ops : List Operator) → marks_of ops ≡ bs → (xs : List Bool) → AreLevelsOf p c xs → takes_of ops names ≡ takes_in_program p c xs
begun_takes p c values names are bs h ops e xs k =
    takes_are bs p c values names ops (marked_by ops bs e) are ∙ ap (takes_in_program p c) (levels_same p c bs xs h k)
