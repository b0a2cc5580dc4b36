use Rattle.run_words.specs.Parsers.{given_by}
use Rattle.run_words.proofs.ReadLaws.{tied_alone}
use Rattle.run_words.proofs.options.tied_alone.Goals as goal

pub returns : goal.returns
returns c = tied_alone (given_by c.args.matches.now) c.stands.result c.stands-2.result c.requires c.stands.ensures c.if-stands.false c.stands-2.ensures c.if-stands-2.false
