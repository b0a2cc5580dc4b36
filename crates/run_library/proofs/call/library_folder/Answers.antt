use Rattle.run_words.specs.Line.{words_of}
use Rattle.run_library.proofs.Standing.{stands_by, stands_nowhere}
use Rattle.run_library.proofs.call.library_folder.Goals as goal

pub returns-in-Some : goal.returns-in-Some
returns-in-Some c = stands_by (words_of c.args.words.now) c.in_ok-read.read c.in-Some.command c.folder_of.result c.in-Some.is c.in_ok-read.ensures.reads c.folder_of.ensures

pub returns-in-None : goal.returns-in-None
returns-in-None c = stands_nowhere (words_of c.args.words.now) c.in_ok-read.read c.in-None.is c.in_ok-read.ensures.reads
