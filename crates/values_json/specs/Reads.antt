-- Which value of TLA+ a value of JSON is.
use Rattle.std.specs.Prelude.{◌≡◌, ◌⊎◌, ◌==◌, ℕ, ℤ, List, [], ◌∷◌, Bool, false, codes, Option, None, Some}
use Rattle.serde_json.specs.Data.{Num, Data, null, boolean, number, string, array, object, Items, no_items, item, Members, no_members, member}
use Rattle.serde_json.specs.Find.{as_i64}
use Rattle.values_core.specs.Data.{Val, model, truth, integer, set, function}
use Rattle.values_core.specs.Data as val
use Rattle.values_core.specs.IsValue.{IsValue}
use Rattle.values_core.specs.Functions.{HasKeyTwice, IsFunctionOf, fields_as_pairs, sequence_of}
use Rattle.values_core.specs.Sets.{IsSetOf}

-- the text begins with $
abbrev pub is_marked : List ℕ → Bool
is_marked [] = false
is_marked (c ∷ cs) = c == 36

-- the integer of 64 bits that it is; what has a fraction or an exponent, and -0, is a float here
abbrev pub ReadsNumber : Num → Val → Type 0
ReadsNumber n v = (z : ℤ) × (as_i64 n ≡ Some z) × (v ≡ integer z)

-- v is the sequence of vs, and within the limits
abbrev pub IsSequenceOf : List Val → Val → Type 0
IsSequenceOf vs v = (v ≡ sequence_of vs) × IsValue v

-- v is the function with these pairs, no key of which comes twice
abbrev pub IsMappingOf : List (Val × Val) → Val → Type 0
IsMappingOf ps v = ¬ HasKeyTwice ps × IsFunctionOf ps v

-- v is the value that the data stand for; an object is a record where no key begins with $
abbrev mutual
  pub Reads : Data → Val → Type 0
  Reads null v = v ≡ model (codes "null")
  Reads (boolean b) v = v ≡ truth b
  Reads (number n) v = ReadsNumber n v
  Reads (string s) v = v ≡ val.string s
  Reads (array ds) v = (vs : List Val) × ReadsEach ds vs × IsSequenceOf vs v
  Reads (object ms) v = ((fs : List (List ℕ × Val)) × ReadsFields ms fs × IsMappingOf (fields_as_pairs fs) v) ⊎ ReadsForm ms v

  -- or it has one key, which says what its content is
  pub ReadsForm : Members → Val → Type 0
  ReadsForm (member k d no_members) v =
      ((k ≡ codes "$set") × ReadsSet d v) ⊎ ((k ≡ codes "$fun") × ReadsFunction d v) ⊎ ((k ≡ codes "$model") × ReadsModel d v)
  ReadsForm _ v = ⊥

  pub ReadsSet : Data → Val → Type 0
  ReadsSet (array ds) v = (vs : List Val) × ReadsEach ds vs × IsSetOf vs v
  ReadsSet _ v = ⊥

  pub ReadsFunction : Data → Val → Type 0
  ReadsFunction (array ds) v = (ps : List (Val × Val)) × ReadsPairs ds ps × IsMappingOf ps v
  ReadsFunction _ v = ⊥

  pub ReadsModel : Data → Val → Type 0
  ReadsModel (string s) v = v ≡ model s
  ReadsModel _ v = ⊥

  pub ReadsEach : Items → List Val → Type 0
  ReadsEach no_items [] = Unit {0}
  ReadsEach (item d ds) (v ∷ vs) = Reads d v × ReadsEach ds vs
  ReadsEach _ _ = ⊥

  pub ReadsPairs : Items → List (Val × Val) → Type 0
  ReadsPairs no_items [] = Unit {0}
  ReadsPairs (item d ds) (p ∷ ps) = ReadsPair d p × ReadsPairs ds ps
  ReadsPairs _ _ = ⊥

  -- a pair is an array of two
  pub ReadsPair : Data → Val × Val → Type 0
  ReadsPair (array ds) p = ReadsEach ds (p.0 ∷ p.1 ∷ [])
  ReadsPair _ p = ⊥

  pub ReadsFields : Members → List (List ℕ × Val) → Type 0
  ReadsFields no_members [] = Unit {0}
  ReadsFields (member k d ms) (f ∷ fs) = (is_marked k ≡ false) × (f.0 ≡ k) × Reads d f.1 × ReadsFields ms fs
  ReadsFields _ _ = ⊥

-- the record with these members
abbrev pub ReadsRecord : Members → Val → Type 0
ReadsRecord ms v = (fs : List (List ℕ × Val)) × ReadsFields ms fs × IsMappingOf (fields_as_pairs fs) v

-- data stand for one value at most
abbrev pub ReadsOneValue : Type 0
ReadsOneValue = (d : Data) (v w : Val) → Reads d v → Reads d w → v ≡ w

-- what is found where something that meets P is sought: it, and none where there is none
abbrev pub Finds : {A : Type 0} → (A → Type 0) → Option A → Type 0
Finds P None = (v : _) → ¬ P v
Finds P (Some v) = P v
