-- For the prover: the path that its two forms stand for.
use Rattle.std.specs.Prelude.{[]}
use Rattle.logs_updates.specs.Paths.{KeyPath}
use Rattle.logs_updates.specs.declared.path.PathNode.{PathNode}
use Rattle.logs_updates.specs.declared.path.PathNode.TheVariants.{Whole, Inner}

-- a variable alone has no keys
abbrev pub path_at : PathNode → KeyPath
path_at (Whole variable) = record { variable = variable; keys = [] }
path_at (Inner variable keys) = record { variable = variable; keys = keys.value }
