use Rattle.std.proofs.Common.{◌≡◌, refl, Bool, true, false, sym, subst}
use Rattle.reading_wide_modules.specs.Wide.{reading_by}
use Rattle.reading_wide_modules.proofs.loading.TextReaderModuleReader.refuses_nested.Goals as goal

pub returns-then-self : goal.returns-then-self
returns-then-self c = subst (λ (w : Bool). false ≡ (reading_by w).refuses_nested) (sym c.if-self.true) refl

pub returns : goal.returns
returns c = subst (λ (w : Bool). true ≡ (reading_by w).refuses_nested) (sym c.if-self.false) refl
