-- Beginnings of which none is that of an expression, or of a unit's definition: no rows of the grammar are open behind them.
use Rattle.std.proofs.Common.{◌≡◌, ℕ, Bool, true, false, List, [], ◌∷◌, refl, sym, ◌∙◌, arith}
use Rattle.base_core.specs.declared.place.Place.{Place}
use Rattle.reading_trees.specs.declared.laid.Laid.{Laid}
use Rattle.reading_trees.specs.declared.laid.Laid.TheVariants.{Plain}
use Rattle.reading_tokens.specs.declared.token.Kind.TheVariants as kinds
use Rattle.reading_tokens.specs.declared.token.Word.{Word}
use Rattle.reading_tokens.specs.declared.token.Symbol.TheVariants as symbols
use Rattle.reading_tokens.specs.declared.token.Foreign.TheVariants as foreign
use Rattle.reading_machine.specs.declared.frame.Mode.TheVariants as mode
use Rattle.reading_machine.specs.OpenFits.{in_mode}
use Rattle.reading_machine.proofs.FittingEnds.{first_mode}
use Rattle.reading_machine.proofs.Runner.{model, model_runs, run}
use Rattle.reading_machine.specs.Beginnings.{FittingBegun}
use Rattle.reading_machine.specs.Machine as machine
use Rattle.reading_machine.proofs.FittingEnds.{ran_fits}
use Rattle.reading_expressions.specs.Nesting.{IsShallow, ShallowDefinition}
use Rattle.reading_expressions.proofs.Counting.{Within, Elsewhere, counter, count_least}
use Rattle.reading_expressions.proofs.OpenCounts.{shallow_so}
use Rattle.reading_expressions.proofs.ReadingModes.{mode_ended}
use Rattle.reading_expressions.proofs.ReadingOperators.{rows_go}

abbrev pub name_token : List ℕ → Place → Laid
name_token n p = Plain (record { kind = kinds.Name n; place = p })

abbrev pub defined_token : Place → Laid
defined_token p = Plain (record { kind = kinds.Symbol symbols.Defined; place = p })

abbrev pub word_token : Word → Place → Laid
word_token w p = Plain (record { kind = kinds.Word w; place = p })

elsewhere : (k : ℕ) → Elsewhere ≡ Within k → ⊥
elsewhere k q = cc

not_open : (unit : Bool) (read : List Laid) → run counter read [] (first_mode unit) ≡ Elsewhere → IsShallow unit read → ⊥
not_open unit read q i =
    let l = count_least unit read i.0 i.1 i.2 in
    elsewhere l.0 (sym q ∙ l.1)

-- no expression begins with a name and `==`
pub no_title_open : (n : List ℕ) (p q : Place) → IsShallow false (name_token n p ∷ defined_token q ∷ []) → ⊥
no_title_open n p q = not_open false (name_token n p ∷ defined_token q ∷ []) refl

-- no unit's definition begins with a word
pub no_word_open : (w : Word) (p : Place) → IsShallow true (word_token w p ∷ []) → ⊥
no_word_open w p = not_open true (word_token w p ∷ []) refl

-- before an expression nothing is unfinished
pub nothing_open : IsShallow false []
nothing_open = ([], mode.Want, record { text = ([], refl, refl); fit = (tt, tt); stand = (tt, tt); outermost = refl }, omega arith)

abbrev pub instance_token : Place → Laid
instance_token p = Plain (record { kind = kinds.Foreign foreign.Instance; place = p })

-- nor with a name, `==` and INSTANCE
pub no_instance_open : (n : List ℕ) (p q r : Place) → IsShallow true (name_token n p ∷ defined_token q ∷ instance_token r ∷ []) → ⊥
no_instance_open n p q r = not_open true (name_token n p ∷ defined_token q ∷ instance_token r ∷ []) refl

-- a name and `==` begin a definition, in which nothing is unfinished before them
pub names_shallow : (n : List ℕ) (p q : Place) → ShallowDefinition (name_token n p ∷ defined_token q ∷ [])
names_shallow n p q = shallow_so true (name_token n p ∷ defined_token q ∷ []) refl (omega arith, (omega arith, tt))

-- where rows are open behind some tokens, an expression begins with these
pub open_begun : (read : List Laid) → IsShallow false read → FittingBegun read
open_begun read i =
    let o = i.2 in
    let s = rows_go model false i.0 (in_mode i.1) o.fit.0 o.stand.0 o.outermost read o.text.0 o.text.1 in
    let t = mode_ended model false i.0 s.rows s.like i.1 o.fit.1 o.stand.1 o.outermost o.text.0 o.text.2 in
    let runs : run model read [] mode.Want ≡ machine.StopsAt [] = s.runs ∙ t.runs in
    ran_fits read (model_runs read [] mode.Want ∙ runs)
