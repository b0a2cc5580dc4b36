use Rattle.std.proofs.Common.{sym, ◌∙◌}
use Rattle.std.proofs.lemmas.List.{take_rest}
use Rattle.reading_lexer.proofs.Starts.{heading_is}
use Rattle.reading_lexer.proofs.start.begins_module.Goals as goal

pub returns : goal.returns
returns c =
    c.begins_heading.ensures
    ∙ heading_is c.args.text.now _ _ c.args.dashes c.spaces.result (sym c.begins_four.ensures ∙ c.if-not-begins_four.false) c.requires.run (take_rest c.args.text.now c.args.dashes) c.spaces.ensures.size (take_rest _ c.spaces.result)
