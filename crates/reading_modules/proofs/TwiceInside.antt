-- Names that are declared twice in the programs of instances.
use Rattle.std.proofs.Common.{◌≡◌, refl, sym, ap, ◌∙◌, subst, ℕ, ◌+◌, ◌<◌, suc, add-one, List, [], ◌∷◌, length, drop, get_or}
use Rattle.std.proofs.Math.Seq.{drop-cons}
use Rattle.std.specs.Prelude.{Option, Some, None, Result, Ok, Err, IfOk, MatchOption}
use Rattle.reading_trees.specs.declared.module.Instance.{Instance as ModuleInstance}
use Rattle.reading_trees.specs.declared.module.Unit.{Unit as ModuleUnit}
use Rattle.reading_modules.specs.declared.fault.LoadWhy.{LoadWhy}
use Rattle.reading_modules.specs.Twice.{AllAreNew, AreNew, AreNewInside, IsNewInside, OneRepeats, Repeats, RepeatsInside, in_program, in_instance, in_this, behind_it, declared_in}

pub said_some : (A : Type 0) (P : LoadWhy → Type 0) (o : Option LoadWhy) (why : LoadWhy) → o ≡ Some why → MatchOption o A P → P why
said_some A P o why e m = subst (λ (v : Option LoadWhy). MatchOption v A P) e m

pub said_none : (A : Type 0) (P : LoadWhy → Type 0) (o : Option LoadWhy) → o ≡ None → MatchOption o A P → A
said_none A P o e m = subst (λ (v : Option LoadWhy). MatchOption v A P) e m

-- the program itself has no name twice
pub behind_program : {E : Type 0} (standard : List (List ℕ)) (units : List ModuleUnit) (is items : List ModuleInstance) (r : Result (Option LoadWhy) E) → items ≡ is
    → AreNew standard [] (declared_in units) → IfOk r (λ o. MatchOption o (AreNewInside items) (RepeatsInside items))
    → IfOk r (λ o. MatchOption o (AllAreNew standard units is) (OneRepeats standard units is))
behind_program standard units is items (Err e) same new h = tt
behind_program standard units is items (Ok (Some why)) same new h = in_instance why new (subst (λ (v : List ModuleInstance). RepeatsInside v why) same h)
behind_program standard units is items (Ok None) same new h = record { here = new; inside = subst (λ (v : List ModuleInstance). AreNewInside v) same h }

-- the list of instances from an index on
pub instances_at : (is : List ModuleInstance) (k : ℕ) (i : ModuleInstance) → k < length is → i ≡ get_or is k i → drop k is ≡ i ∷ drop (k + 1) is
instances_at is k i lt e = rw add-one (drop-cons is k i lt ∙ ap (λ (y : ModuleInstance). y ∷ drop (suc k) is) (sym e))

pub repeats_here : (is rest behind : List ModuleInstance) (i : ModuleInstance) (why : LoadWhy) → rest ≡ i ∷ behind
    → ((why : LoadWhy) → RepeatsInside rest why → RepeatsInside is why) → Repeats i.program.standard (declared_in i.program.units) why → RepeatsInside is why
repeats_here is rest behind i why cut before r = before why (subst (λ (v : List ModuleInstance). RepeatsInside v why) (sym cut) (in_this i behind why r))

pub new_behind : (is rest behind : List ModuleInstance) (i : ModuleInstance) → rest ≡ i ∷ behind → (AreNewInside rest → AreNewInside is) → IsNewInside i
    → AreNewInside behind → AreNewInside is
new_behind is rest behind i cut before new others = before (subst (λ (v : List ModuleInstance). AreNewInside v) (sym cut) (new, others))

pub repeats_behind : (is rest behind : List ModuleInstance) (i : ModuleInstance) → rest ≡ i ∷ behind
    → ((why : LoadWhy) → RepeatsInside rest why → RepeatsInside is why) → IsNewInside i → (why : LoadWhy) → RepeatsInside behind why → RepeatsInside is why
repeats_behind is rest behind i cut before new why r =
    before why (subst (λ (v : List ModuleInstance). RepeatsInside v why) (sym cut) (behind_it i behind why new r))
