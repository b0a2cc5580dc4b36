use Rattle.std.proofs.Common.{string_bytes}
use Rattle.run_texts.proofs.QuoteLemmas.{quotes_pushed}
use Rattle.run_texts.proofs.quoting.push_plain.Goals as goal

pub returns : goal.returns
returns c = quotes_pushed c.push_str-3.result (string_bytes c.args.text.now) (string_bytes c.push_str.new.self) (string_bytes c.push_str-2.new.self)
    (string_bytes c.push_str-3.new.self) c.args.inner.now c.requires c.in_ok-push_str.ensures.bytes c.in_ok-push_str-2.ensures.bytes c.push_str-3.ensures.bytes
