-- For the prover: a number for each described set that is above those of its parts.
use Rattle.std.specs.Prelude.{ℕ, suc, max}
use Rattle.values_sets.specs.DescribedSets.{Described, Nat, Int, Strings, Booleans, SeqOf, PowerOf, Interval, Functions, Records, Product, Union, Inter, Minus, Listed, Fields, NoFields, MoreFields, Parts, NoParts, MoreParts}

abbrev mutual
  pub described_size : Described → ℕ
  described_size Nat = 0
  described_size Int = 0
  described_size Strings = 0
  described_size Booleans = 0
  described_size (SeqOf d) = suc (described_size d)
  described_size (PowerOf d) = suc (described_size d)
  described_size (Interval y z) = 0
  described_size (Functions a d) = suc (described_size d)
  described_size (Records fs) = suc (fields_size fs)
  described_size (Product ps) = suc (parts_size ps)
  described_size (Union c d) = suc (max (described_size c) (described_size d))
  described_size (Inter c d) = suc (max (described_size c) (described_size d))
  described_size (Minus c d) = suc (max (described_size c) (described_size d))
  described_size (Listed s) = 0

  pub fields_size : Fields → ℕ
  fields_size NoFields = 0
  fields_size (MoreFields n d fs) = suc (max (described_size d) (fields_size fs))

  pub parts_size : Parts → ℕ
  parts_size NoParts = 0
  parts_size (MoreParts d ps) = suc (max (described_size d) (parts_size ps))
