-- Laid tokens that spell a module, none of which stands too deep, are not refused.
use Rattle.std.proofs.Common.{◌≡◌, ◌≢◌, ◌∙◌, List, [], ◌∷◌, ◌++◌, append_assoc, inl, inr, refl, sym, subst}
use Rattle.reading_trees.specs.declared.laid.Laid.{Laid}
use Rattle.reading_trees.specs.declared.module.Module.{Module}
use Rattle.reading_trees.specs.declared.module.Unit.{Unit as ModuleUnit}
use Rattle.reading_trees.specs.declared.module.Unit.TheVariants.{Variables, Constants, Recursive, Define, Instance, Assume, Passed}
use Rattle.reading_trees.specs.Begun.{BegunModule, FittingBegunModule}
use Rattle.reading_trees.specs.Modules.{ModuleText, ModuleTextBy, SomeExpression, SomeText, SpellsModule, UnitTextBy, UnitsTextBy}
use Rattle.reading_expressions.specs.declared.fault.ParseFault.{ParseFault}
use Rattle.reading_expressions.specs.declared.fault.ParseFault.TheVariants.{Expected, Conflict, TooNested, OutOfProfile, NoMemory}
use Rattle.reading_units.specs.LawsOfModules.{ShallowNotRefused}
use Rattle.reading_units.specs.Refusals.{IsRefusedModule, ShallowWholeModule}

-- ---- where ranges play no part

some_text : (xs ys : List Laid) → SomeExpression xs ys → SomeText xs ys
some_text xs ys h = (h.0, h.1.text)

unit_text : (u : ModuleUnit) (xs ys : List Laid) → UnitTextBy SomeExpression u xs ys → UnitTextBy SomeText u xs ys
unit_text (Variables ds) xs ys h = h
unit_text (Constants ds) xs ys h = h
unit_text (Recursive ds) xs ys h = h
unit_text (Define d) xs ys h = h
unit_text (Assume e) xs ys h = h
unit_text (Instance m) xs ys h = h
unit_text Passed xs ys (inl h) = inl h
unit_text Passed xs ys (inr h) = inr (h.0, h.1, (h.2.0, h.2.1, some_text h.2.0 ys h.2.2))

units_text : (us : List ModuleUnit) (xs ys : List Laid) → UnitsTextBy SomeExpression us xs ys → UnitsTextBy SomeText us xs ys
units_text [] xs ys h = h
units_text (u ∷ us) xs ys h = (h.0, unit_text u xs h.0 h.1, units_text us h.0 ys h.2)

module_text : (m : Module) (laid : List Laid) → ModuleText m laid [] → ModuleTextBy SomeText m laid []
module_text m laid h =
    let b = h.2.2.2.2 in
    let units : UnitsTextBy SomeText m.units b.0 b.2.0 = units_text m.units b.0 b.2.0 b.2.1 in
    (h.0, h.1, (h.2.0, h.2.1, (h.2.2.0, h.2.2.1, (h.2.2.2.0, h.2.2.2.1, (b.0, b.1, (b.2.0, units, b.2.2))))))

-- ---- refusals

cut_at : (laid read rest : List Laid) (here : Laid) → laid ≡ read ++ here ∷ rest → laid ≡ (read ++ here ∷ []) ++ rest
cut_at laid read rest here e = e ∙ sym (append_assoc read (here ∷ []) rest)

begun : (m : Module) (laid read rest : List Laid) (here : Laid) → laid ≡ read ++ here ∷ rest → SpellsModule m laid → BegunModule (read ++ here ∷ [])
begun m laid read rest here e s = record { read_as = m; rest = rest; text = subst (λ v. ModuleTextBy SomeText m v []) (cut_at laid read rest here e) (module_text m laid s.text) }

fitting : (m : Module) (laid read rest : List Laid) (here : Laid) → laid ≡ read ++ here ∷ rest → SpellsModule m laid → FittingBegunModule (read ++ here ∷ [])
fitting m laid read rest here e s = record { read_as = m; rest = rest; spelled = subst (SpellsModule m) (cut_at laid read rest here e) s }

pub refused_never : ShallowNotRefused → (m : Module) (laid : List Laid) (fault : ParseFault) → SpellsModule m laid → ShallowWholeModule laid → IsRefusedModule laid fault → fault ≢ NoMemory → ⊥
refused_never deep m laid (Expected p) s w r n = r.there (begun m laid r.read r.rest r.here r.whole s)
refused_never deep m laid (OutOfProfile f p) s w r n = r.there (begun m laid r.read r.rest r.here r.whole s)
refused_never deep m laid (Conflict p q) s w r n = r.none (fitting m laid r.read r.rest r.here r.whole s)
refused_never deep m laid (TooNested p) s w r n = deep laid p w r
refused_never deep m laid NoMemory s w r n = n refl
