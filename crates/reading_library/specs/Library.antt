-- Whether a module is one of the library.
use Rattle.std.specs.Prelude.{ℕ, Bool, List, is_some}
use Rattle.base_core.specs.Device.{found}
use Rattle.reading_library.specs.Texts.{library}

abbrev pub is_library : List ℕ → Bool
is_library name = is_some (found name library)
