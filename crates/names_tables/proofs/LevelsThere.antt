-- What a definition means has the level that the least levels tell.
use Rattle.std.proofs.Common.{◌≡◌, ◌∙◌, sym, ap, refl, List, [], ◌∷◌}
use Rattle.std.specs.Prelude.{ℕ, zero, suc, Bool, true, false, if◌then◌else◌, Option, Some, None, option_map, slice_get}
use Rattle.std.specs.Str.{bytes_eq}
use Rattle.std.proofs.Math.Path.{fun_ext}
use Rattle.reading_trees.specs.declared.config.Config.{Config}
use Rattle.reading_trees.specs.declared.expr.Definition.{Definition}
use Rattle.reading_trees.specs.declared.module.Program.{Program}
use Rattle.names_terms.specs.declared.operator.Operator.{Operator}
use Rattle.names_terms.specs.Terms.{Term, level_of}
use Rattle.names_least_levels.specs.declared.told.NameLevel.{NameLevel}
use Rattle.names_least_levels.specs.Levels.{body_rises, each_rises, mark, names_rise}
use Rattle.names_least_levels.specs.Rising as rising
use Rattle.names_least_levels.specs.Rising.{Rising, rises, without}
use Rattle.names_found_levels.proofs.Mentioned.{bound, same}
use Rattle.names_scopes.specs.declared.meant.Entry.{Entry}
use Rattle.names_scopes.specs.declared.meant.Named.{Named}
use Rattle.names_scopes.specs.Mentions.{is_one_of, mentions}
use Rattle.names_scopes.specs.Scopes.{bind}
use Rattle.names_meanings.specs.Complaints.{Taken, Takes, bound_name, complaint, taken_rises, told, with_name, with_names}
use Rattle.names_meanings.specs.Means.{Means}
use Rattle.names_meanings.specs.Outcomes.{above, takes_of}
use Rattle.names_meanings.proofs.Risen.{risen}
use Rattle.names_meanings.proofs.Takes.{takes_bind}
use Rattle.names_program.specs.InUnits.{definitions_in}
use Rattle.names_program.specs.Names.{by_index, declared_meaning, program_meaning}
use Rattle.names_program.specs.Recursion.{AreLevelsOf, AreTold, named_rises}
use Rattle.names_program.proofs.NameLemmas.{by_index_is}
use Rattle.names_tables.specs.NameFaults.{taken_with, takes_in_program}

if_told : (b : Bool) (w : Taken) (o : Option Taken) → taken_rises (if b then Some w else o) ≡ (if b then w.is_above else taken_rises o)
if_told true w o = refl
if_told false w o = refl

told_named : (g : Takes) (n : List ℕ) (w : Taken) → told (with_name g n w) ≡ rising.with_name (told g) n w.is_above
told_named g n w = fun_ext (λ (m : List ℕ). if_told (bytes_eq n m) w (g m))

told_names : (g : Takes) (ns : List (List ℕ)) → told (with_names g ns) ≡ without (told g) ns
told_names g [] = refl
told_names g (n ∷ ns) = told_names (with_name g n bound_name) ns ∙ ap (λ (h : Rising). without h ns) (told_named g n bound_name)

taken_named : (bs : List Bool) (o : Option Named) → taken_rises (option_map (taken_with bs) o) ≡ named_rises bs o
taken_named bs None = refl
taken_named bs (Some w) = refl

told_program : (p : Program) (c : Config) (names : List NameLevel) (bs : List Bool) → AreTold p c names → told (takes_in_program p c bs) ≡ names_rise names bs
told_program p c names bs t =
    fun_ext (λ (n : List ℕ). taken_named bs (program_meaning p c [] by_index n) ∙ ap (named_rises bs) (by_index_is (declared_meaning p c [] n)) ∙ sym (t bs n))

mark_at : (names : List NameLevel) (bs : List Bool) (ds : List Definition) (i : ℕ) (d : Definition) → slice_get ds i ≡ Some d → mark (each_rises names bs ds) i ≡ body_rises names bs d
mark_at names bs [] zero d e = absurd (cc)
mark_at names bs [] (suc i) d e = absurd (cc)
mark_at names bs (x ∷ ds) zero d e = let one : x ≡ d = cc in ap (body_rises names bs) one
mark_at names bs (x ∷ ds) (suc i) d e = mark_at names bs ds i d e

pub level_is : (p : Program) (c : Config) (bs : List Bool) → AreLevelsOf p c bs → (i : ℕ) (d : Definition) → slice_get (definitions_in p.units) i ≡ Some d → (names : List Entry) (ops : List Operator) → ((n : List ℕ) → mentions n d.body ≡ true → is_one_of n d.params ≡ false → takes_of ops names n ≡ takes_in_program p c bs n) → complaint (with_names (takes_of ops names) d.params) d.body ≡ None → (e : Term) → Means names ops (bind [] d.params) d.body e → above (level_of e) ≡ mark bs i
level_is p c bs h i d stands names ops agree fine e m =
    risen names ops d.body (bind [] d.params) (with_names (takes_of ops names) d.params) e (takes_bind ops names [] d.params) fine m
    ∙ ap (λ (g : Rising). rises g d.body) (told_names (takes_of ops names) d.params)
    ∙ same d.body (without (told (takes_of ops names)) d.params) (without (told (takes_in_program p c bs)) d.params) (λ n q. bound d.params n (told (takes_of ops names)) (told (takes_in_program p c bs)) (λ hidden. ap taken_rises (agree n q hidden)))
    ∙ ap (λ (g : Rising). rises (without g d.params) d.body) (told_program p c h.0 bs h.1)
    ∙ sym (mark_at h.0 bs (definitions_in p.units) i d stands)
    ∙ ap (λ (l : List Bool). mark l i) h.2.levels
