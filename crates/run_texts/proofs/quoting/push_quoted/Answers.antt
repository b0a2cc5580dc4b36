use Rattle.run_texts.proofs.quoting.push_quoted.Goals as goal

pub push_plain-requires : goal.push_plain-requires
push_plain-requires c = c.is_plain.ensures.0 c.if-is_plain.true
