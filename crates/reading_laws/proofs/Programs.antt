-- Files that tell give one program, and a text one configuration.
use Rattle.std.proofs.Common.{◌≡◌, ◌∙◌, ℕ, List, [], Some, Ok, refl, sym, ap, subst}
use Rattle.reading_trees.specs.declared.module.Instance.{Instance}
use Rattle.reading_trees.specs.declared.module.Program.{Program}
use Rattle.reading_trees.specs.declared.module.Unit.{Unit as ModuleUnit}
use Rattle.reading_trees.specs.declared.module.WholeProgram.{WholeProgram}
use Rattle.reading_modules.specs.declared.so_far.Gathered.{Gathered}
use Rattle.reading_modules.specs.Loads.{IsProgram, IsProgramBy, IsProgramOf}
use Rattle.reading_modules.specs.Readings.{Reading}
use Rattle.reading_modules.specs.Refusals.{strict}
use Rattle.reading_wide_configuration.specs.Laws as read
use Rattle.reading_laws.specs.AnyReading.{OneFlatteningBy, OneLoadingBy, OneProgramBy}
use Rattle.reading_laws.specs.OneReading.{OneConfiguration, OneFlattening, OneLoading, OneProgram}
use Rattle.reading_laws.specs.Readings.{IsReading}
use Rattle.reading_laws.proofs.Flattenings.{flattening_same}
use Rattle.reading_modules.proofs.PathLaws.{path_same}
use Rattle.reading_laws.proofs.Spelling.{module_same, ok_same}

same_alone : (p q : Program) → p.files ≡ q.files → p.units ≡ q.units → p.standard ≡ q.standard → p ≡ q
same_alone p q files units standard =
    let filed : List (List ℕ) → Program = λ v. record { files = v; units = p.units; standard = p.standard } in
    let whole : List ModuleUnit → Program = λ v. record { files = q.files; units = v; standard = p.standard } in
    let extending : List (List ℕ) → Program = λ v. record { files = q.files; units = q.units; standard = v } in
    ap filed files ∙ ap whole units ∙ ap extending standard

same_program : (p q : WholeProgram) → p.program ≡ q.program → p.instances ≡ q.instances → p ≡ q
same_program p q alone instances =
    let having : Program → WholeProgram = λ v. record { program = v; instances = p.instances } in
    let made : List Instance → WholeProgram = λ v. record { program = q.program; instances = v } in
    ap having alone ∙ ap made instances

module _ {N : Type 0} (reading : Reading N) (is : IsReading reading) where
  pub one_flattening_by : OneFlatteningBy reading
  one_flattening_by files folder name a b h g = flattening_same reading (Some files) folder (module_same reading is.one files folder) name a b h g

  of_same : (folder : List ℕ) (all : Gathered N) (p q : WholeProgram) → IsProgramOf folder all p → IsProgramOf folder all q → p ≡ q
  of_same folder all p q h g =
      same_program p q (same_alone p.program q.program (h.files ∙ sym g.files) (h.units ∙ sym g.units) (h.standard ∙ sym g.standard)) (h.instances ∙ sym g.instances)

  pub one_program_by : OneProgramBy reading
  one_program_by files folder name p q notes others h g =
      let same : h.all ≡ g.all = one_flattening_by files folder name h.all g.all h.flattened g.flattened in (
        of_same folder g.all p q (subst (λ (v : Gathered N). IsProgramOf folder v p) same h.program) g.program,
        h.noted ∙ ap (λ (v : Gathered N). v.notes) same ∙ sym g.noted,
      )

  pub one_loading_by : OneLoadingBy reading
  one_loading_by files before now earlier later path l k h g =
      let parts = path_same path h.0 g.0 h.1 g.1 h.2 g.2 in
      one_program_by files g.0 g.1 l.program k.program l.notes k.notes
      (subst (λ v. IsProgramBy reading (Some files) g.0 v l.program l.notes) parts.1
      (subst (λ v. IsProgramBy reading (Some files) v h.1 l.program l.notes) parts.0 h.3)) g.3

-- ---- read strictly

pub one_flattening : OneFlatteningBy strict → OneFlattening
one_flattening one files folder name a b h g = one files folder name a b h g

pub one_program : OneProgramBy strict → OneProgram
one_program one files folder name p q h g = (one files folder name p q [] [] h g).0

pub one_loading : OneProgram → OneLoading
one_loading program files before now earlier later path p q h g =
    let parts = path_same path h.0 g.0 h.1 g.1 h.2 g.2 in
    program files g.0 g.1 p q
    (subst (λ v. IsProgram (Some files) g.0 v p) parts.1 (subst (λ v. IsProgram (Some files) v h.1 p) parts.0 h.3)) g.3

pub one_configuration : read.OneConfiguration → OneConfiguration
one_configuration one wide file name text c d h g = ok_same c d (Ok c) refl (one wide file name text (Ok c) (Ok d) h g)
