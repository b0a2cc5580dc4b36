-- What may be refused where there is a program, or a configuration.
use Rattle.std.proofs.Common.{◌≡◌, ◌∙◌, ℕ, List, [], ◌∷◌, ◌++◌, append_assoc, append-nil, Some, None, Ok, Err, sym, subst}
use Rattle.base_core.specs.Device.{File}
use Rattle.reading_trees.specs.declared.module.Declared.{Declared}
use Rattle.reading_trees.specs.declared.module.Instance.{Instance}
use Rattle.reading_trees.specs.declared.module.Unit.{Unit as ModuleUnit}
use Rattle.reading_trees.specs.declared.module.WholeProgram.{WholeProgram}
use Rattle.reading_modules.specs.declared.fault.LoadWhy.{LoadWhy}
use Rattle.reading_modules.specs.declared.fault.LoadWhy.TheVariants.{Read, Lex, Lay, Parse, Cycle, TooMany, Twice, WrongName, Nested}
use Rattle.reading_modules.specs.declared.notes.Noted.{Noted}
use Rattle.reading_modules.specs.declared.so_far.Gathered.{Gathered}
use Rattle.reading_modules.specs.Loads.{IsProgram, IsProgramBy, IsRefusedBy, in_a_module, in_the_whole}
use Rattle.reading_modules.specs.Readings.{Reading}
use Rattle.reading_modules.specs.Refusals.{strict}
use Rattle.reading_modules.specs.Twice.{AllAreNew, AreNew, AreNewInside, OneRepeats, Repeats, RepeatsInside, declared_as, declared_in, in_instance, in_program, in_this, behind_it, stands}
use Rattle.reading_wide_configuration.specs.Laws as read
use Rattle.reading_laws.specs.AnyReading.{FlatteningMayStopBy, LoadingMayStopBy, NothingRepeatsBy}
use Rattle.reading_laws.specs.OneReading.{FlatteningMayStop, LoadingMayStop, MayStop, NoConfigurationRefused, NothingRepeats}
use Rattle.reading_laws.specs.Readings.{IsReading}
use Rattle.reading_modules.proofs.PathLaws.{path_same}
use Rattle.reading_laws.proofs.Refused.{IsFound, IsOk, module_stop}
use Rattle.reading_laws.proofs.Programs.{one_flattening_by}
use Rattle.reading_laws.proofs.Spelling.{module_same}
use Rattle.reading_laws.proofs.Stopping.{flattening_stops}

-- ---- names that are declared twice

new_at : (standard : List (List ℕ)) (seen before : List Declared) (d : Declared) (rest : List Declared) → AreNew standard seen (before ++ d ∷ rest) → stands standard (seen ++ before) d.name ≡ None
new_at standard seen [] d rest h = subst (λ v. stands standard v d.name ≡ None) (sym (append-nil seen)) h.0
new_at standard seen (b ∷ before) d rest h =
    subst (λ v. stands standard v d.name ≡ None) (append_assoc seen (b ∷ []) before) (new_at standard (seen ++ b ∷ []) before d rest h.1)

no_repeat : (standard : List (List ℕ)) (declared : List Declared) (why : LoadWhy) → AreNew standard [] declared → Repeats standard declared why → ⊥
no_repeat standard declared (Twice name later earlier) n r =
    let new : stands standard r.before name ≡ None = new_at standard [] r.before (declared_as name later) r.rest (subst (AreNew standard []) r.whole n) in
    subst IsFound (sym r.twice ∙ new) tt
no_repeat standard declared (Read file fault) n r = r
no_repeat standard declared (Lex why at) n r = r
no_repeat standard declared (Lay at) n r = r
no_repeat standard declared (Parse fault) n r = r
no_repeat standard declared (Cycle names) n r = r
no_repeat standard declared (TooMany name) n r = r
no_repeat standard declared (WrongName name at) n r = r
no_repeat standard declared (Nested name at) n r = r

none_inside : (is : List Instance) (why : LoadWhy) → AreNewInside is → RepeatsInside is why → ⊥
none_inside _ _ n (in_this i is why r) = no_repeat i.program.standard (declared_in i.program.units) why n.0 r
none_inside _ _ n (behind_it i is why new r) = none_inside is why n.1 r

none_repeats : (standard : List (List ℕ)) (units : List ModuleUnit) (is : List Instance) (why : LoadWhy) → AllAreNew standard units is → OneRepeats standard units is why → ⊥
none_repeats standard units is _ n (in_program why r) = no_repeat standard (declared_in units) why n.here r
none_repeats standard units is _ n (in_instance why new r) = none_inside is why n.inside r

-- ---- any reading

module _ {N : Type 0} (reading : Reading N) (is : IsReading reading) where
  pub flattening_may_stop_by : FlatteningMayStopBy reading
  flattening_may_stop_by files folder name all modules why h g =
      flattening_stops reading (Some files) folder (module_same reading is.one files folder) (module_stop reading is files folder) name all (modules, why) h g

  pub nothing_repeats_by : NothingRepeatsBy reading
  nothing_repeats_by files folder name p notes all why h g r =
      let same : h.all ≡ all = one_flattening_by reading is files folder name h.all all h.flattened g in
      none_repeats all.standard all.units all.instances why (subst (λ (v : Gathered N). AllAreNew v.standard v.units v.instances) same h.names) r

  refused_stops : (files : List File) (earlier later : ℕ) (folder name : List ℕ) (p : WholeProgram) (notes : List (Noted N)) (named : List (List ℕ)) (why : LoadWhy)
      → IsProgramBy reading (Some files) folder name p notes → IsRefusedBy reading (Some files) earlier later folder name named why → MayStop why
  refused_stops files earlier later folder name p notes _ _ h (in_a_module modules why flat caused) =
      flattening_may_stop_by files folder name h.all modules why h.flattened flat
  refused_stops files earlier later folder name p notes _ _ h (in_the_whole all why flat r) = absurd (nothing_repeats_by files folder name p notes all why h flat r)

  pub loading_may_stop_by : LoadingMayStopBy reading
  loading_may_stop_by files before now earlier later path l named why h g =
      let parts = path_same path h.0 g.0 h.1 g.1 h.2 g.2 in
      let program : IsProgramBy reading (Some files) g.0 g.1 l.program l.notes =
      subst (λ v. IsProgramBy reading (Some files) g.0 v l.program l.notes) parts.1
      (subst (λ v. IsProgramBy reading (Some files) v h.1 l.program l.notes) parts.0 h.3) in
      refused_stops files earlier later g.0 g.1 l.program l.notes named why program g.3

-- ---- read strictly

module _ (is : IsReading strict) where
  pub flattening_may_stop : FlatteningMayStop
  flattening_may_stop files folder name all modules why h g = flattening_may_stop_by strict is files folder name all modules why h g

  pub nothing_repeats : NothingRepeats
  nothing_repeats files folder name p all why h g r = nothing_repeats_by strict is files folder name p [] all why h g r

  pub loading_may_stop : LoadingMayStop
  loading_may_stop files before now earlier later path p named why h g =
      let parts = path_same path h.0 g.0 h.1 g.1 h.2 g.2 in
      let program : IsProgram (Some files) g.0 g.1 p =
      subst (λ v. IsProgram (Some files) g.0 v p) parts.1 (subst (λ v. IsProgram (Some files) v h.1 p) parts.0 h.3) in
      refused_stops strict is files earlier later g.0 g.1 p [] named why program g.3

pub no_configuration_refused : read.OneConfiguration → NoConfigurationRefused
no_configuration_refused one wide file name text c why at h g = subst IsOk (one wide file name text (Ok c) (Err (why, at)) h g) tt
