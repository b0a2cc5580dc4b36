use Rattle.std.proofs.Common.{◌∙◌, sym, ap}
use Rattle.std.specs.List.{list_all}
use Rattle.std.specs.Borrow.{Bor}
use Rattle.std.proofs.lemmas.List.Folds.{list_all-map}
use Rattle.run_words.specs.Line.{Text, is_given}
use Rattle.run_words.proofs.line.has_given_alone.Goals as goal

pub returns-in-Some : goal.returns-in-Some
returns-in-Some c = c.all_given.ensures ∙ sym (list_all-map is_given (λ (t : Bor Text). t.now) c.in-Some.words.now) ∙ ap (list_all is_given) c.in-Some.ensures
