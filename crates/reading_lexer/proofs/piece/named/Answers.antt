use Rattle.reading_lexer.proofs.Fronts.{words_utf8}
use Rattle.reading_lexer.proofs.piece.named.Goals as goal

pub text_of-requires : goal.text_of-requires
text_of-requires c = words_utf8 c.args.word.now c.requires
