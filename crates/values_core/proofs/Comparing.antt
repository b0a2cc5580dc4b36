-- `val_cmp` at sets and functions as an order of lists, and at unlike kinds; `val_eq` where values differ.
use Rattle.std.proofs.Common.{◌≡◌, ℕ, suc, ◌<◌, ℤ, pos, Bool as Truth, true, false, Global, List, [], ◌∷◌, length, map, refl, ap, sym, ◌∙◌, arith}
use Rattle.std.specs.declared.rc.Rc.{Rc}
use Rattle.std.specs.declared.cmp.Ordering.{Ordering}
use Rattle.std.specs.declared.cmp.Ordering.TheVariants.{Less, Equal, Greater}
use Rattle.std.specs.Ordering.{ordering_then, ordering_reverse, nat_cmp}
use Rattle.std.proofs.lemmas.Cmp.{tied_itself}
use Rattle.std.specs.Cmp.Lexicographic.{slice_cmp}
use Rattle.values_core.specs.Data.{Val, model, truth, integer, string, set, function, vals_of, pairs_of, Vals, Pairs}
use Rattle.values_core.specs.Functions.{numbered_from, sequence_of}
use Rattle.values_core.specs.Order.{val_cmp, val_eq, kind_rank}
use Rattle.values_core.specs.OrderLaws.{val_total, val_same}
use Rattle.values_core.specs.declared.value.Entry.{Entry}
use Rattle.values_core.specs.declared.value.Field.{Field}
use Rattle.values_core.specs.declared.value.SetBody.{SetBody}
use Rattle.values_core.specs.declared.value.SequenceBody.{SequenceBody}
use Rattle.values_core.specs.declared.value.RecordBody.{RecordBody}
use Rattle.values_core.specs.declared.value.FunctionBody.{FunctionBody}
use Rattle.values_core.specs.declared.value.Node.{Node}
use Rattle.values_core.specs.declared.value.Node.TheVariants.{Model, Bool, Int, String, Set, Sequence, Record, Function}
use Rattle.values_core.specs.View.{node_view, entries_view, fields_view, entry_cmp, field_cmp}
use Rattle.values_core.proofs.Forms.{as_entry, fields_as, numbered_as, placed}

pub items_cmp : (us vs : List Val) → val_cmp (set (vals_of us)) (set (vals_of vs)) ≡ slice_cmp val_cmp us vs
unfolding val_cmp
items_cmp [] [] = refl
items_cmp [] (v ∷ vs) = refl
items_cmp (u ∷ us) [] = refl
items_cmp (u ∷ us) (v ∷ vs) = ap (ordering_then (val_cmp u v)) (items_cmp us vs)

then_then : (o p q : Ordering) → ordering_then o (ordering_then p q) ≡ ordering_then (ordering_then o p) q
then_then Less p q = refl
then_then Equal p q = refl
then_then Greater p q = refl

pub entries_cmp : (ds es : List Entry) → val_cmp (function (entries_view ds)) (function (entries_view es)) ≡ slice_cmp entry_cmp ds es
unfolding val_cmp
entries_cmp [] [] = refl
entries_cmp [] (e ∷ es) = refl
entries_cmp (d ∷ ds) [] = refl
entries_cmp (d ∷ ds) (e ∷ es) =
    ap (λ o. ordering_then (val_cmp d.key e.key) (ordering_then (val_cmp d.value e.value) o)) (entries_cmp ds es)
    ∙ then_then (val_cmp d.key e.key) (val_cmp d.value e.value) (slice_cmp entry_cmp ds es)

pub fields_cmp : (fs gs : List Field) → val_cmp (function (fields_view fs)) (function (fields_view gs)) ≡ slice_cmp field_cmp fs gs
unfolding val_cmp
fields_cmp [] [] = refl
fields_cmp [] (g ∷ gs) = refl
fields_cmp (f ∷ fs) [] = refl
fields_cmp (f ∷ fs) (g ∷ gs) =
    ap (λ o. ordering_then (slice_cmp nat_cmp f.name g.name) (ordering_then (val_cmp f.value g.value) o)) (fields_cmp fs gs)
    ∙ then_then (slice_cmp nat_cmp f.name g.name) (val_cmp f.value g.value) (slice_cmp field_cmp fs gs)

-- sequences by their values: their keys are alike
pub sequences_cmp : (n : ℕ) (us vs : List Val) → val_cmp (function (pairs_of (numbered_from n us))) (function (pairs_of (numbered_from n vs))) ≡ slice_cmp val_cmp us vs
unfolding val_cmp
sequences_cmp n [] [] = refl
sequences_cmp n [] (v ∷ vs) = refl
sequences_cmp n (u ∷ us) [] = refl
sequences_cmp n (u ∷ us) (v ∷ vs) =
    ap (λ o. ordering_then o (ordering_then (val_cmp u v) (val_cmp (function (pairs_of (numbered_from (suc n) us))) (function (pairs_of (numbered_from (suc n) vs)))))) (tied_itself val_total (integer (pos n)))
    ∙ ap (ordering_then (val_cmp u v)) (sequences_cmp (suc n) us vs)

-- a sequence stands before a record, which has a field
pub sequence_first : (vs : List Val) (fs : List Field) → 0 < length fs → Less ≡ val_cmp (sequence_of vs) (function (fields_view fs))
unfolding val_cmp
sequence_first vs [] h = absurd (omega arith)
sequence_first [] (f ∷ fs) h = refl
sequence_first (v ∷ vs) (f ∷ fs) h = refl

pub record_last : (vs : List Val) (fs : List Field) → 0 < length fs → Greater ≡ val_cmp (function (fields_view fs)) (sequence_of vs)
unfolding val_cmp
record_last vs [] h = absurd (omega arith)
record_last [] (f ∷ fs) h = refl
record_last (v ∷ vs) (f ∷ fs) h = refl

-- a function of another form, by its pairs
pub places_cmp : (vs : List Val) (es : List Entry) → val_cmp (sequence_of vs) (function (entries_view es)) ≡ slice_cmp entry_cmp (placed 1 vs) es
places_cmp vs es = ap (λ ps. val_cmp (function ps) (function (entries_view es))) (numbered_as 1 vs) ∙ entries_cmp (placed 1 vs) es

pub names_cmp : (fs : List Field) (es : List Entry) → val_cmp (function (fields_view fs)) (function (entries_view es)) ≡ slice_cmp entry_cmp (map as_entry fs) es
names_cmp fs es = ap (λ ps. val_cmp (function ps) (function (entries_view es))) (fields_as fs) ∙ entries_cmp (map as_entry fs) es

pub turned : (a b : Val) (o p : Ordering) → o ≡ ordering_reverse p → p ≡ val_cmp b a → o ≡ val_cmp a b
turned a b o p e f = e ∙ ap ordering_reverse f ∙ sym (val_total.antisymm a b)

pub unlike_model : (m : Node) (x : List ℕ) → ((y : List ℕ) → m ≡ Model y → ⊥) → nat_cmp 0 (kind_rank (node_view m)) ≡ val_cmp (model x) (node_view m)
unfolding val_cmp
unlike_model (Model y) x h = absurd (h y refl)
unlike_model _ x h = refl

pub unlike_truth : (m : Node) (x : Truth) → ((y : Truth) → m ≡ Bool y → ⊥) → nat_cmp 1 (kind_rank (node_view m)) ≡ val_cmp (truth x) (node_view m)
unfolding val_cmp
unlike_truth (Bool y) x h = absurd (h y refl)
unlike_truth _ x h = refl

pub unlike_integer : (m : Node) (x : ℤ) → ((y : ℤ) → m ≡ Int y → ⊥) → nat_cmp 2 (kind_rank (node_view m)) ≡ val_cmp (integer x) (node_view m)
unfolding val_cmp
unlike_integer (Int y) x h = absurd (h y refl)
unlike_integer _ x h = refl

pub unlike_string : (m : Node) (x : List ℕ) → ((y : List ℕ) → m ≡ String y → ⊥) → nat_cmp 3 (kind_rank (node_view m)) ≡ val_cmp (string x) (node_view m)
unfolding val_cmp
unlike_string (String y) x h = absurd (h y refl)
unlike_string _ x h = refl

pub unlike_set : (m : Node) (us : Vals) → ((y : Rc SetBody Global) → m ≡ Set y → ⊥) → nat_cmp 4 (kind_rank (node_view m)) ≡ val_cmp (set us) (node_view m)
unfolding val_cmp
unlike_set (Set y) us h = absurd (h y refl)
unlike_set _ us h = refl

pub unlike_function : (m : Node) (ps : Pairs) → ((y : Rc SequenceBody Global) → m ≡ Sequence y → ⊥) → ((y : Rc RecordBody Global) → m ≡ Record y → ⊥)
    → ((y : Rc FunctionBody Global) → m ≡ Function y → ⊥) → nat_cmp 5 (kind_rank (node_view m)) ≡ val_cmp (function ps) (node_view m)
unfolding val_cmp
unlike_function (Sequence y) ps h k l = absurd (h y refl)
unlike_function (Record y) ps h k l = absurd (k y refl)
unlike_function (Function y) ps h k l = absurd (l y refl)
unlike_function (Model y) ps h k l = refl
unlike_function (Bool y) ps h k l = refl
unlike_function (Int y) ps h k l = refl
unlike_function (String y) ps h k l = refl
unlike_function (Set y) ps h k l = refl

pub differ : (a b : Val) → ¬ (a ≡ b) → false ≡ val_eq a b
differ a b n = tested (val_eq a b) refl
  where
    tested : (t : Truth) → val_eq a b ≡ t → false ≡ t
    tested false e = refl
    tested true e = absurd (n (val_same a b e))
