-- The one hash of a value, a number of 64 bits, which a set and a function keep. That of a set begins with a number of its
-- kind, and each member's hash in order is mixed in by one xor, one product, and one rotation, which brings the product's
-- high bits down: without it a sequence of -1 and 1 shares its hash with fifteen others. So is that of a function, with its
-- values in the order of their keys; the keys themselves are left out, and equal functions have equal hashes all the same. That
-- of a text begins with a number of its kind too, and each byte is mixed in.
use Rattle.std.specs.Prelude.{ℕ, ◌*◌, ◌%◌, ◌^◌, Bool, true, false, List, [], ◌∷◌, bit_xor}
use Rattle.std.specs.Int.{w64, cast_unsigned, rotate_left}
use Rattle.values_core.specs.Data.{Val, model, truth, integer, string, set, function, Vals, no_vals, more_vals, Pairs, no_pairs, more_pairs}

-- the hash with one more mixed in
unfoldable pub mix : ℕ → ℕ → ℕ
mix hash more = rotate_left w64 ((bit_xor hash more * 0x5851_f42d_4c95_7f2d) % 2 ^ 64) 32

-- the hash with those of these bytes mixed in
abbrev pub with_bytes : ℕ → List ℕ → ℕ
with_bytes hash [] = hash
with_bytes hash (byte ∷ bytes) = with_bytes (mix hash byte) bytes

abbrev pub truth_hash : Bool → ℕ
truth_hash false = 0x1319_8a2e_0370_7344
truth_hash true = 0xa409_3822_299f_31d0

abbrev mutual
  pub hash_of : Val → ℕ
  hash_of (model s) = with_bytes 0x4528_21e6_38d0_1377 s
  hash_of (truth b) = truth_hash b
  hash_of (integer z) = cast_unsigned w64 z
  hash_of (string s) = with_bytes 0xbe54_66cf_34e9_0c6c s
  hash_of (set vs) = with_members 0x9e37_79b9_7f4a_7c15 vs
  hash_of (function ps) = with_values 0x243f_6a88_85a3_08d3 ps

  pub with_members : ℕ → Vals → ℕ
  with_members hash no_vals = hash
  with_members hash (more_vals v vs) = with_members (mix hash (hash_of v)) vs

  pub with_values : ℕ → Pairs → ℕ
  with_values hash no_pairs = hash
  with_values hash (more_pairs k v ps) = with_values (mix hash (hash_of v)) ps
