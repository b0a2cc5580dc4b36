-- The bytes of a file spell one module.
use Rattle.std.proofs.Common.{◌≡◌, ◌∙◌, ℕ, true, List, Option, Some, None, Result, Ok, Err, refl, sym, ap, subst}
use Rattle.base_core.specs.Device.{File}
use Rattle.reading_trees.specs.declared.laid.Laid.{Laid}
use Rattle.reading_trees.specs.declared.module.Module.{Module}
use Rattle.reading_trees.specs.Laid.{IsLaid, OneLaid}
use Rattle.reading_trees.specs.Modules.{SpellsModule}
use Rattle.reading_tokens.specs.Tokens.{OneOutcome}
use Rattle.reading_modules.specs.Readings.{Reading}
use Rattle.reading_modules.specs.Refusals.{IsModule, LaidAs, SpelledBy, strict}
use Rattle.reading_units.specs.LawsOfModules.{OneModule}
use Rattle.reading_laws.specs.OneReading.{OneText}
use Rattle.reading_laws.specs.Readings.{IsOne}

abbrev some_or : {A : Type 0} → A → Option A → A
some_or a None = a
some_or a (Some b) = b

abbrev ok_or_this : {A E : Type 0} → A → Result A E → A
ok_or_this a (Err e) = a
ok_or_this a (Ok b) = b

some_same : {A : Type 0} (a b : A) → Some a ≡ Some b → a ≡ b
some_same a b e = ap (some_or a) e

pub ok_same : {A E : Type 0} (a b : A) (r : Result A E) → r ≡ Ok a → r ≡ Ok b → a ≡ b
ok_same a b r h g = ap (ok_or_this a) (sym h ∙ g)

pub text_same : OneText
text_same files name a b h g = some_same a b (sym h ∙ g)

pub laid_same : OneOutcome → OneLaid → (number : ℕ) (bytes : List ℕ) (a b : List Laid) → LaidAs number bytes a → LaidAs number bytes b → a ≡ b
laid_same outcome laid number bytes a b h g =
    let tokens : h.tokens ≡ g.tokens = ok_same h.tokens g.tokens (Ok h.tokens) refl (outcome true number bytes (Ok h.tokens) (Ok g.tokens) h.lexed g.lexed) in
    laid g.tokens a b (subst (λ v. IsLaid v a) tokens h.marked) g.marked

pub spelled_same : OneOutcome → OneLaid → OneModule → (number : ℕ) (bytes : List ℕ) (m n : Module) → SpelledBy number bytes m → SpelledBy number bytes n → m ≡ n
spelled_same outcome laid one number bytes m n h g =
    let same : h.laid ≡ g.laid = laid_same outcome laid number bytes h.laid g.laid h.laid_as g.laid_as in
    one g.laid m n (subst (SpellsModule m) same h.spells) g.spells

pub strict_one : OneOutcome → OneLaid → OneModule → IsOne strict
strict_one outcome laid one number bytes m n notes others h g = (spelled_same outcome laid one number bytes m n h.0 g.0, h.1 ∙ sym g.1)

-- a file gives one module
pub module_same : {N : Type 0} (reading : Reading N) → IsOne reading → (files : List File) (folder : List ℕ) (number : ℕ) (name : List ℕ) (m n : Module) (notes others : List N)
    → IsModule reading (Some files) folder number name m notes → IsModule reading (Some files) folder number name n others → (m ≡ n) × (notes ≡ others)
module_same reading one files folder number name m n notes others h g =
    let bytes : h.bytes ≡ g.bytes = text_same files _ h.bytes g.bytes h.text.whole g.text.whole in
    one number g.bytes m n notes others (subst (λ v. reading.Spells number v m notes) bytes h.spelled) g.spelled
