-- What a value of TLA+ is: a model value or a string with its bytes, a truth value, an integer,
-- a set with the list of its members, or a function with the list of its pairs of key and value.
-- Which of these trees are values, and in which order lists stand, says IsValue.
use Rattle.std.specs.Prelude.{ℕ, suc, max, ℤ, List, [], ◌∷◌, Bool, Option, Some, None}

mutual
  pub data Val : Type 0 where
    model : List ℕ → Val
    truth : Bool → Val
    integer : ℤ → Val
    string : List ℕ → Val
    set : Vals → Val
    function : Pairs → Val

  pub data Vals : Type 0 where
    no_vals : Vals
    more_vals : Val → Vals → Vals

  pub data Pairs : Type 0 where
    no_pairs : Pairs
    more_pairs : Val → Val → Pairs → Pairs

-- the members of a set's tree, as a list
abbrev pub members : Vals → List Val
members no_vals = []
members (more_vals v vs) = v ∷ members vs

-- the tree of a list of members
abbrev pub vals_of : List Val → Vals
vals_of [] = no_vals
vals_of (v ∷ vs) = more_vals v (vals_of vs)

-- the pairs of a function's tree, as a list
abbrev pub entries : Pairs → List (Val × Val)
entries no_pairs = []
entries (more_pairs k v ps) = (k, v) ∷ entries ps

-- the tree of a list of pairs
abbrev pub pairs_of : List (Val × Val) → Pairs
pairs_of [] = no_pairs
pairs_of (p ∷ ps) = more_pairs p.0 p.1 (pairs_of ps)

-- how deep sets and functions stand inside each other: one more than the greatest depth inside a set
-- or a function, hence 1 for an empty one, and 0 for all else
abbrev mutual
  pub depth : Val → ℕ
  depth (model s) = 0
  depth (truth b) = 0
  depth (integer z) = 0
  depth (string s) = 0
  depth (set vs) = suc (vals_depth vs)
  depth (function ps) = suc (pairs_depth ps)

  pub vals_depth : Vals → ℕ
  vals_depth no_vals = 0
  vals_depth (more_vals v vs) = max (depth v) (vals_depth vs)

  pub pairs_depth : Pairs → ℕ
  pairs_depth no_pairs = 0
  pairs_depth (more_pairs k v ps) = max (max (depth k) (depth v)) (pairs_depth ps)

-- the integer that a value is, if it is one
abbrev pub int_of : Val → Option ℤ
int_of (integer z) = Some z
int_of _ = None

-- the truth value that a value is, if it is one
abbrev pub bool_of : Val → Option Bool
bool_of (truth b) = Some b
bool_of _ = None

-- the text of a string or of a model value
abbrev pub text_of : Val → Option (List ℕ)
text_of (model s) = Some s
text_of (string s) = Some s
text_of _ = None
