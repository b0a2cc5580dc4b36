-- proofs/meeting/cycle_of/Answers.antt
use Rattle.std.proofs.Common.{◌≡◌, sym, ◌∙◌, subst, ℕ, List, get_or}
use Rattle.std.proofs.lemmas.List.{take_rest}
use Rattle.base_core.specs.Texts.{same_bytes}
use Rattle.reading_modules.proofs.Walks.{cycle_at}
use Rattle.reading_modules.proofs.meeting.cycle_of.Goals as goal

pub returns-then-eq : goal.returns-then-eq
returns-then-eq c =
    let path = c.args.path.now in
    let name = c.args.name.now in
    let i = c.loop-i.i in
    let text : c.as_str.result.now ≡ c.as_str-in-loop-i.result.now = same_bytes _ _ (sym c.eq.ensures ∙ c.if-eq.true) in
    let same : c.index-path-i.result ≡ name = sym c.as_str.ensures ∙ text ∙ c.as_str-in-loop-i.ensures in
    let at : get_or path i name ≡ name = sym (subst (λ (x : List ℕ). x ≡ get_or path i x) same c.index-path-i.is) in
    cycle_at path name c.in_ok-names.names i c.loop-i-test.true at (rw (take_rest path i) at c.in_ok-names.ensures)
