-- proofs/standard/is_brought/Answers.antt
use Rattle.std.proofs.Common.{◌≡◌, sym, ◌∙◌, subst, ℕ, List, true}
use Rattle.reading_modules.specs.Standard.{is_brought}
use Rattle.reading_modules.proofs.Tables.{by_first, by_second, by_third, by_fourth}
use Rattle.reading_modules.proofs.standard.is_brought.Goals as goal

pub returns-then-brings : goal.returns-then-brings
returns-then-brings c =
    let e = c.args.extended.now in
    let same : c.as_bytes-name.result.now ≡ c.args.name.now = c.as_bytes-name.ensures.value ∙ c.as_str.ensures in
    subst (λ (n : List ℕ). true ≡ is_brought e n) same (by_first e _ (sym c.brings.ensures ∙ c.if-brings.true))

pub returns-then-brings-2 : goal.returns-then-brings-2
returns-then-brings-2 c =
    let e = c.args.extended.now in
    let same : c.as_bytes-name.result.now ≡ c.args.name.now = c.as_bytes-name.ensures.value ∙ c.as_str.ensures in
    subst (λ (n : List ℕ). true ≡ is_brought e n) same (by_second e _ (sym c.brings-2.ensures ∙ c.if-brings-2.true))

pub returns-then-brings-3 : goal.returns-then-brings-3
returns-then-brings-3 c =
    let e = c.args.extended.now in
    let same : c.as_bytes-name.result.now ≡ c.args.name.now = c.as_bytes-name.ensures.value ∙ c.as_str.ensures in
    subst (λ (n : List ℕ). true ≡ is_brought e n) same (by_third e _ (sym c.brings-3.ensures ∙ c.if-brings-3.true))

pub returns : goal.returns
returns c =
    let e = c.args.extended.now in
    let r = c.brings-4.result in
    let same : c.as_bytes-name.result.now ≡ c.args.name.now = c.as_bytes-name.ensures.value ∙ c.as_str.ensures in
    subst (λ (n : List ℕ). r ≡ is_brought e n) same
    (by_fourth e _ r c.brings-4.ensures (sym c.brings.ensures ∙ c.if-brings.false) (sym c.brings-2.ensures ∙ c.if-brings-2.false)
    (sym c.brings-3.ensures ∙ c.if-brings-3.false))
