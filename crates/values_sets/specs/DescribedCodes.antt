-- For the prover: how described sets are told apart, each as data of numbers, by the number of its constructor.
use Rattle.std.specs.Prelude.{◌≡◌, zero, suc, ℤ, pos, negsuc, refl}
use Rattle.std.proofs.Common.{ap, ◌∙◌}
use Rattle.std.specs.Coded.{Coded, code_by}
use base.Stored.{Gv, gnil, gnum, gcons}
use denote.Struct.Codes.{itself}
use Rattle.values_core.specs.Data.{Val}
use Rattle.values_core.specs.Tree.{stored, from_stored, from_stored-stored, to_tree, from_tree, from_tree-to_tree}
use Rattle.values_sets.specs.DescribedSets.{Described, Nat, Int, Strings, Booleans, SeqOf, PowerOf, Interval, Functions, Records, Product, Union, Inter, Minus, Listed, Fields, NoFields, MoreFields, Parts, NoParts, MoreParts}

abbrev int_gv : ℤ → Gv
int_gv (pos n) = gcons (gnum 0) (gnum n)
int_gv (negsuc n) = gcons (gnum 1) (gnum n)

abbrev gv_int : Gv → ℤ
gv_int (gcons (gnum zero) (gnum n)) = pos n
gv_int (gcons (gnum (suc k)) (gnum n)) = negsuc n
gv_int _ = pos 0

int_back : (z : ℤ) → gv_int (int_gv z) ≡ z
int_back (pos n) = refl
int_back (negsuc n) = refl

abbrev val_gv : Val → Gv
val_gv v = stored (to_tree v)

abbrev gv_val : Gv → Val
gv_val g = from_tree (from_stored g)

val_back : (v : Val) → gv_val (val_gv v) ≡ v
val_back v = ap from_tree (from_stored-stored (to_tree v)) ∙ from_tree-to_tree v

abbrev mutual
  pub described_gv : Described → Gv
  described_gv Nat = gcons (gnum 0) gnil
  described_gv Int = gcons (gnum 1) gnil
  described_gv Strings = gcons (gnum 2) gnil
  described_gv Booleans = gcons (gnum 3) gnil
  described_gv (SeqOf a) = gcons (gnum 4) (described_gv a)
  described_gv (PowerOf a) = gcons (gnum 5) (described_gv a)
  described_gv (Interval a b) = gcons (gnum 6) (gcons (int_gv a) (int_gv b))
  described_gv (Functions a b) = gcons (gnum 7) (gcons (val_gv a) (described_gv b))
  described_gv (Records a) = gcons (gnum 8) (fields_gv a)
  described_gv (Product a) = gcons (gnum 9) (parts_gv a)
  described_gv (Union a b) = gcons (gnum 10) (gcons (described_gv a) (described_gv b))
  described_gv (Inter a b) = gcons (gnum 11) (gcons (described_gv a) (described_gv b))
  described_gv (Minus a b) = gcons (gnum 12) (gcons (described_gv a) (described_gv b))
  described_gv (Listed a) = gcons (gnum 13) (val_gv a)

  pub fields_gv : Fields → Gv
  fields_gv NoFields = gcons (gnum 0) gnil
  fields_gv (MoreFields a b c) = gcons (gnum 1) (gcons (val_gv a) (gcons (described_gv b) (fields_gv c)))

  pub parts_gv : Parts → Gv
  parts_gv NoParts = gcons (gnum 0) gnil
  parts_gv (MoreParts a b) = gcons (gnum 1) (gcons (described_gv a) (parts_gv b))

abbrev mutual
  pub gv_described : Gv → Described
  gv_described (gcons (gnum zero) g) = Nat
  gv_described (gcons (gnum (suc zero)) g) = Int
  gv_described (gcons (gnum (suc (suc zero))) g) = Strings
  gv_described (gcons (gnum (suc (suc (suc zero)))) g) = Booleans
  gv_described (gcons (gnum (suc (suc (suc (suc zero))))) a) = SeqOf (gv_described a)
  gv_described (gcons (gnum (suc (suc (suc (suc (suc zero)))))) a) = PowerOf (gv_described a)
  gv_described (gcons (gnum (suc (suc (suc (suc (suc (suc zero))))))) (gcons a b)) = Interval (gv_int a) (gv_int b)
  gv_described (gcons (gnum (suc (suc (suc (suc (suc (suc (suc zero)))))))) (gcons a b)) = Functions (gv_val a) (gv_described b)
  gv_described (gcons (gnum (suc (suc (suc (suc (suc (suc (suc (suc zero))))))))) a) = Records (gv_fields a)
  gv_described (gcons (gnum (suc (suc (suc (suc (suc (suc (suc (suc (suc zero)))))))))) a) = Product (gv_parts a)
  gv_described (gcons (gnum (suc (suc (suc (suc (suc (suc (suc (suc (suc (suc zero))))))))))) (gcons a b)) = Union (gv_described a) (gv_described b)
  gv_described (gcons (gnum (suc (suc (suc (suc (suc (suc (suc (suc (suc (suc (suc zero)))))))))))) (gcons a b)) = Inter (gv_described a) (gv_described b)
  gv_described (gcons (gnum (suc (suc (suc (suc (suc (suc (suc (suc (suc (suc (suc (suc zero))))))))))))) (gcons a b)) = Minus (gv_described a) (gv_described b)
  gv_described (gcons (gnum (suc (suc (suc (suc (suc (suc (suc (suc (suc (suc (suc (suc (suc zero)))))))))))))) a) = Listed (gv_val a)
  gv_described _ = Nat

  pub gv_fields : Gv → Fields
  gv_fields (gcons (gnum zero) g) = NoFields
  gv_fields (gcons (gnum (suc zero)) (gcons a (gcons b c))) = MoreFields (gv_val a) (gv_described b) (gv_fields c)
  gv_fields _ = NoFields

  pub gv_parts : Gv → Parts
  gv_parts (gcons (gnum zero) g) = NoParts
  gv_parts (gcons (gnum (suc zero)) (gcons a b)) = MoreParts (gv_described a) (gv_parts b)
  gv_parts _ = NoParts

mutual
  pub described_back : (x : Described) → gv_described (described_gv x) ≡ x
  described_back Nat = refl
  described_back Int = refl
  described_back Strings = refl
  described_back Booleans = refl
  described_back (SeqOf a) = λ i. SeqOf (described_back a i)
  described_back (PowerOf a) = λ i. PowerOf (described_back a i)
  described_back (Interval a b) = λ i. Interval (int_back a i) (int_back b i)
  described_back (Functions a b) = λ i. Functions (val_back a i) (described_back b i)
  described_back (Records a) = λ i. Records (fields_back a i)
  described_back (Product a) = λ i. Product (parts_back a i)
  described_back (Union a b) = λ i. Union (described_back a i) (described_back b i)
  described_back (Inter a b) = λ i. Inter (described_back a i) (described_back b i)
  described_back (Minus a b) = λ i. Minus (described_back a i) (described_back b i)
  described_back (Listed a) = λ i. Listed (val_back a i)

  pub fields_back : (x : Fields) → gv_fields (fields_gv x) ≡ x
  fields_back NoFields = refl
  fields_back (MoreFields a b c) = λ i. MoreFields (val_back a i) (described_back b i) (fields_back c i)

  pub parts_back : (x : Parts) → gv_parts (parts_gv x) ≡ x
  parts_back NoParts = refl
  parts_back (MoreParts a b) = λ i. MoreParts (described_back a i) (parts_back b i)

abbrev pub described_code : Coded Described
described_code = code_by Gv itself described_gv gv_described described_back

abbrev pub fields_code : Coded Fields
fields_code = code_by Gv itself fields_gv gv_fields fields_back

abbrev pub parts_code : Coded Parts
parts_code = code_by Gv itself parts_gv gv_parts parts_back
