-- What the contents of an operation read as.
use Rattle.std.proofs.Common.{◌≡◌, List, [], ◌∷◌, length, get_or, refl, subst, sym, Option, Result, IfOk}
use Rattle.std.specs.declared.alloc.AllocError.{AllocError}
use Rattle.serde_json.specs.Data.{Items}
use Rattle.serde_json.specs.View.{view, items_view}
use Rattle.serde_json.specs.declared.value.Value.{Value}
use Rattle.values_core.specs.Data.{Val}
use Rattle.values_json.specs.Reads.{Finds, Reads}
use Rattle.logs_shapes.specs.declared.key.Word.{Word}
use Rattle.logs_shapes.specs.declared.key.Word.TheVariants as word
use Rattle.logs_updates.specs.declared.update.Op.{Op}
use Rattle.logs_lines.specs.Values.{OpReads, PutReads, ReadsSole}

-- contents of another number than one
pub not_sole : (xs : List Value) (v : Val) → (length xs ≡ 1 → ⊥) → ¬ ReadsSole (items_view xs) v
not_sole [] v n h = h
not_sole (x ∷ []) v n h = n refl
not_sole (x ∷ y ∷ ys) v n h = h

-- contents of another number than two
pub not_two : (xs : List Value) (op : Op) → (length xs ≡ 2 → ⊥) → ¬ PutReads (items_view xs) op
not_two [] op n h = h.2
not_two (x ∷ []) op n h = h.2
not_two (x ∷ y ∷ []) op n h = n refl
not_two (x ∷ y ∷ z ∷ zs) op n h = h.2

-- a key that is no value
pub no_key : (xs : List Value) (x : Value) → x ≡ get_or xs 0 x → ((v : Val) → ¬ Reads (view x) v) → (op : Op) → ¬ PutReads (items_view xs) op
no_key [] x e n op h = h.2
no_key (a ∷ []) x e n op h = h.2
no_key (a ∷ b ∷ []) x e n op h = n h.0 (subst (λ (y : Value). Reads (view y) h.0) (sym e) h.2.0)
no_key (a ∷ b ∷ c ∷ cs) x e n op h = h.2

-- a content that is no value
pub no_content : (xs : List Value) (x : Value) → x ≡ get_or xs 1 x → ((v : Val) → ¬ Reads (view x) v) → (op : Op) → ¬ PutReads (items_view xs) op
no_content [] x e n op h = h.2
no_content (a ∷ []) x e n op h = h.2
no_content (a ∷ b ∷ []) x e n op h = n h.1 (subst (λ (y : Value). Reads (view y) h.1) (sym e) h.2.1)
no_content (a ∷ b ∷ c ∷ cs) x e n op h = h.2

-- what put reads, the word put reads
pub put_reads : (w : Word) (ds : Items) (r : Result (Option Op) AllocError) → w ≡ word.Put → IfOk r (Finds (PutReads ds)) → IfOk r (Finds (OpReads w ds))
put_reads w ds r e h = subst (λ (x : Word). IfOk r (Finds (OpReads x ds))) (sym e) h
