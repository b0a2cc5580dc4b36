-- Sets that are described and not listed, one constructor for each kind of set. The name of a field is a value; that it is a string
-- is a part of being sound.
use Rattle.std.specs.Prelude.{ℤ, List, [], ◌∷◌}
use Rattle.values_core.specs.Data.{Val}

mutual
  pub data Described : Type 0 where
    Nat : Described
    Int : Described
    Strings : Described
    Booleans : Described
    SeqOf : Described → Described
    PowerOf : Described → Described
    Interval : ℤ → ℤ → Described
    Functions : Val → Described → Described
    Records : Fields → Described
    Product : Parts → Described
    Union : Described → Described → Described
    Inter : Described → Described → Described
    Minus : Described → Described → Described
    Listed : Val → Described

  pub data Fields : Type 0 where
    NoFields : Fields
    MoreFields : Val → Described → Fields → Fields

  pub data Parts : Type 0 where
    NoParts : Parts
    MoreParts : Described → Parts → Parts

-- the fields of a set of records, each with its name, as a list
abbrev pub fields_list : Fields → List (Val × Described)
fields_list NoFields = []
fields_list (MoreFields n d fs) = (n, d) ∷ fields_list fs

-- the parts of a set of tuples, as a list
abbrev pub parts_list : Parts → List Described
parts_list NoParts = []
parts_list (MoreParts d ps) = d ∷ parts_list ps
