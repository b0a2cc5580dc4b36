use Rattle.std.proofs.Common.{rules}
use Rattle.base_core.proofs.Filling.{found_open}
use Rattle.base_core.proofs.memory.MemoryFilesFiles.open.Goals as goal
use Rattle.base_core.proofs.memory.MemoryFilesFiles.open.Goals.{then-found, else-found}

pub returns-clause-answer : goal.returns-clause-answer
returns-clause-answer c = elim c.if-found.branch [
  | then-found w ↦
      let finds = found_open _ _ _ _ _ _ c.as_str.ensures c.close.ensures.files w.if-found.true c.open-found.ensures.finds in
      rw w.result-is (search rules, finds.0, search rules, finds.2, search rules)
  | else-found w ↦ search rules
]
