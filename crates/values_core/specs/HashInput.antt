-- What a value feeds to a hasher: its hash.
use Rattle.std.specs.Hash as fed
use Rattle.std.specs.Hash.{HashWrites}
use Rattle.values_core.specs.Data.{Val}
use Rattle.values_core.specs.HashOf.{hash_of}

abbrev pub hash_input : Val → HashWrites
hash_input v = fed.u64 (hash_of v)
