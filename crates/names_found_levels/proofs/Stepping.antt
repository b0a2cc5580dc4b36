-- One step of each walk.
use Rattle.std.proofs.Common.{◌≡◌, ◌∙◌, sym, ap, refl, List, [], ◌∷◌, ◌++◌, append_assoc, arith, length, ◌<◌, ◌≤◌}
use Rattle.std.specs.Prelude.{ℕ, zero, suc, ◌+◌, Bool, false, drop, get_or, take}
use Rattle.reading_trees.specs.Trees as tree
use Rattle.reading_trees.specs.Trees.{Tree}
use Rattle.reading_trees.specs.TreeSizes.{tree_size}
use Rattle.reading_trees.specs.declared.expr.Operand.{Operand}
use Rattle.reading_trees.specs.declared.expr.Bound.{Bound}
use Rattle.reading_trees.specs.declared.expr.Field.{Field}
use Rattle.reading_trees.specs.declared.expr.Change.{Change}
use Rattle.reading_trees.specs.declared.expr.Arm.{Arm}
use Rattle.reading_trees.specs.declared.expr.Definition.{Definition}
use Rattle.reading_trees.specs.declared.operators.Quantifier.{Quantifier}
use Rattle.base_core.specs.declared.place.Place.{Place}
use Rattle.names_least_levels.specs.Levels.{mark}
use Rattle.names_least_levels.specs.Rising.{Rising}
use Rattle.names_scopes.proofs.LevelLoops.{cut_at}
use Rattle.names_scopes.specs.Scopes.{at_sign}
use Rattle.names_found_levels.specs.Raised.{Marks, marked, unmarked, names_marked, bound_by, own, defined_by, raise, raise_steps, raise_bounds}
use Rattle.names_found_levels.proofs.Items.{each_items, operands_items, bounds_items, fields_items, changes_items, arms_items}
use Rattle.names_found_levels.proofs.Defining.{definitions_items}
use Rattle.names_found_levels.proofs.Walks.{Walks}

-- Lists, item by item: what stands around stays.

pub each_on : (g : Rising) (hs ks ms : Marks) (old new target : Bool) (items : List Tree) (i : ℕ) (x : Tree) → i < length items → x ≡ get_or items i x → new ≡ raise g ks old x → ms ≡ ks → (each_items g hs old (drop i items) ≡ target) × (ks ≡ hs) → (each_items g hs new (drop (i + 1) items) ≡ target) × (ms ≡ hs)
each_on g hs ks ms old new target items i x lt e n m h =
    (ap (λ (b : Bool). each_items g hs b (drop (i + 1) items)) (n ∙ ap (λ (k : Marks). raise g k old x) h.1) ∙ sym (ap (each_items g hs old) (cut_at items i x lt e)) ∙ h.0, m ∙ h.1)

pub operands_on : (g : Rising) (hs ks ms : Marks) (old new target : Bool) (items : List Operand) (i : ℕ) (x : Operand) → i < length items → x ≡ get_or items i x → new ≡ raise g ks old x.value → ms ≡ ks → (operands_items g hs old (drop i items) ≡ target) × (ks ≡ hs) → (operands_items g hs new (drop (i + 1) items) ≡ target) × (ms ≡ hs)
operands_on g hs ks ms old new target items i x lt e n m h =
    (ap (λ (b : Bool). operands_items g hs b (drop (i + 1) items)) (n ∙ ap (λ (k : Marks). raise g k old x.value) h.1) ∙ sym (ap (operands_items g hs old) (cut_at items i x lt e)) ∙ h.0, m ∙ h.1)

pub bounds_on : (g : Rising) (hs ks ms : Marks) (old new target : Bool) (items : List Bound) (i : ℕ) (x : Bound) → i < length items → x ≡ get_or items i x → new ≡ raise g ks old x.set → ms ≡ ks → (bounds_items g hs old (drop i items) ≡ target) × (ks ≡ hs) → (bounds_items g hs new (drop (i + 1) items) ≡ target) × (ms ≡ hs)
bounds_on g hs ks ms old new target items i x lt e n m h =
    (ap (λ (b : Bool). bounds_items g hs b (drop (i + 1) items)) (n ∙ ap (λ (k : Marks). raise g k old x.set) h.1) ∙ sym (ap (bounds_items g hs old) (cut_at items i x lt e)) ∙ h.0, m ∙ h.1)

pub fields_on : (g : Rising) (hs ks ms : Marks) (old new target : Bool) (items : List Field) (i : ℕ) (x : Field) → i < length items → x ≡ get_or items i x → new ≡ raise g ks old x.value → ms ≡ ks → (fields_items g hs old (drop i items) ≡ target) × (ks ≡ hs) → (fields_items g hs new (drop (i + 1) items) ≡ target) × (ms ≡ hs)
fields_on g hs ks ms old new target items i x lt e n m h =
    (ap (λ (b : Bool). fields_items g hs b (drop (i + 1) items)) (n ∙ ap (λ (k : Marks). raise g k old x.value) h.1) ∙ sym (ap (fields_items g hs old) (cut_at items i x lt e)) ∙ h.0, m ∙ h.1)

pub arms_on : (g : Rising) (hs ks ms ps : Marks) (old mid new target : Bool) (items : List Arm) (i : ℕ) (x : Arm) → i < length items → x ≡ get_or items i x → mid ≡ raise g ks old x.test → ms ≡ ks → new ≡ raise g ms mid x.value → ps ≡ ms → (arms_items g hs old (drop i items) ≡ target) × (ks ≡ hs) → (arms_items g hs new (drop (i + 1) items) ≡ target) × (ps ≡ hs)
arms_on g hs ks ms ps old mid new target items i x lt e q m n p h =
    let first : mid ≡ raise g hs old x.test = q ∙ ap (λ (k : Marks). raise g k old x.test) h.1 in
    let second : new ≡ raise g hs (raise g hs old x.test) x.value = n ∙ ap (λ (k : Marks). raise g k mid x.value) (m ∙ h.1) ∙ ap (λ (b : Bool). raise g hs b x.value) first in
    (ap (λ (b : Bool). arms_items g hs b (drop (i + 1) items)) second ∙ sym (ap (arms_items g hs old) (cut_at items i x lt e)) ∙ h.0, p ∙ m ∙ h.1)

pub changes_on : (g : Rising) (hs ks ms ps : Marks) (old mid new target : Bool) (name : List ℕ) (items : List Change) (i : ℕ) (x : Change) → name ≡ at_sign → i < length items → x ≡ get_or items i x → mid ≡ raise_steps g ks old x.path → ms ≡ ks → new ≡ raise g (ms ++ unmarked name ∷ []) mid x.value → ps ≡ ms → (changes_items g hs old (drop i items) ≡ target) × (ks ≡ hs) → (changes_items g hs new (drop (i + 1) items) ≡ target) × (ps ≡ hs)
changes_on g hs ks ms ps old mid new target name items i x a lt e q m n p h =
    let first : mid ≡ raise_steps g hs old x.path = q ∙ ap (λ (k : Marks). raise_steps g k old x.path) h.1 in
    let second : new ≡ raise g (hs ++ unmarked at_sign ∷ []) (raise_steps g hs old x.path) x.value =
    n ∙ ap (λ (k : Marks). raise g (k ++ unmarked name ∷ []) mid x.value) (m ∙ h.1) ∙ ap (λ (z : List ℕ). raise g (hs ++ unmarked z ∷ []) mid x.value) a ∙ ap (λ (b : Bool). raise g (hs ++ unmarked at_sign ∷ []) b x.value) first in
    (ap (λ (b : Bool). changes_items g hs b (drop (i + 1) items)) second ∙ sym (ap (changes_items g hs old) (cut_at items i x lt e)) ∙ h.0, p ∙ m ∙ h.1)

take_front : (xs ys : Marks) → take (length xs) (xs ++ ys) ≡ xs
take_front [] ys = refl
take_front (x ∷ xs) ys = ap (λ (l : Marks). x ∷ l) (take_front xs ys)

-- a definition of a LET: its own name and its parameters stand around its body, and then its name alone
pub define_on : (g : Rising) (a0 a1 a2 a3 a4 a5 target : Marks) (depth : ℕ) (params : List (List ℕ)) (b : Bool) (items : List Definition) (i : ℕ) (x : Definition) → i < length items → x ≡ get_or items i x → depth ≡ length a0 → a1 ≡ a0 ++ own x.name → params ≡ x.params → a2 ≡ a1 ++ names_marked params → b ≡ raise g a2 false x.body → a3 ≡ a2 → a4 ≡ take depth a3 → a5 ≡ a4 ++ marked x.name b ∷ [] → definitions_items g a0 (drop i items) ≡ target → definitions_items g a5 (drop (i + 1) items) ≡ target
define_on g a0 a1 a2 a3 a4 a5 target depth params b items i x lt e d p q r s t u v h =
    let inner : Marks = (a0 ++ own x.name) ++ names_marked x.params in
    let around : a2 ≡ inner = r ∙ ap (λ (l : Marks). l ++ names_marked params) p ∙ ap (λ (l : List (List ℕ)). (a0 ++ own x.name) ++ names_marked l) q in
    let body : b ≡ raise g inner false x.body = s ∙ ap (λ (l : Marks). raise g l false x.body) around in
    let back : a4 ≡ a0 = u ∙ ap (take depth) (t ∙ around ∙ append_assoc a0 (own x.name) (names_marked x.params)) ∙ ap (λ (n : ℕ). take n (a0 ++ (own x.name ++ names_marked x.params))) d ∙ take_front a0 (own x.name ++ names_marked x.params) in
    ap (λ (l : Marks). definitions_items g l (drop (i + 1) items)) (v ∙ ap (λ (l : Marks). l ++ marked x.name b ∷ []) back ∙ ap (λ (c : Bool). a0 ++ marked x.name c ∷ []) body) ∙ sym (ap (definitions_items g a0) (cut_at items i x lt e)) ∙ h

-- Rows whose last part reaches as far right as possible.

smaller_if : (at : Place) (p e f : Tree) → tree_size f ≤ tree_size (tree.If at p e f)
smaller_if at p e f = omega arith

smaller_quantified : (at : Place) (q : Quantifier) (bs : tree.Bounds) (e : Tree) → tree_size e ≤ tree_size (tree.Quantified at q bs e)
smaller_quantified at q bs e = omega arith

smaller_choose : (at : Place) (n : List ℕ) (s e : Tree) → tree_size e ≤ tree_size (tree.Choose at n s e)
smaller_choose at n s e = omega arith

smaller_let : (at : Place) (ds : tree.Definitions) (e : Tree) → tree_size e ≤ tree_size (tree.Let at ds e)
smaller_let at ds e = omega arith

fewer : (a b t : Tree) (n : ℕ) → a ≡ t → tree_size b ≤ tree_size a → tree_size t ≤ n → tree_size b ≤ n
fewer a b t n q le h = let same : tree_size a ≡ tree_size t = ap tree_size q in omega (arith, same, le, h)

pub walk_if : (g : Rising) (hs ks ms ps : Marks) (b c d r : Bool) (whole t : Tree) (at : Place) (p e f : Tree) → tree.If at p e f ≡ t → d ≡ raise g ks c p → ms ≡ ks → r ≡ raise g ms d e → ps ≡ ms → Walks g hs b whole ks c t → Walks g hs b whole ps r f
walk_if g hs ks ms ps b c d r whole t at p e f q x m y n w = record {
  same = ap (λ (l : Marks). raise g l r f) (n ∙ m) ∙ ap (λ (z : Bool). raise g ks z f) (y ∙ ap (λ (l : Marks). raise g l d e) m ∙ ap (λ (z : Bool). raise g ks z e) x) ∙ ap (raise g ks c) q ∙ w.same;
  more = w.more;
  grown = n ∙ m ∙ w.grown;
  within = fewer (tree.If at p e f) f t (tree_size whole) q (smaller_if at p e f) w.within;
}

pub walk_quantified : (g : Rising) (hs ks ms ps : Marks) (b c d : Bool) (whole t : Tree) (at : Place) (k : Quantifier) (bs : tree.Bounds) (e : Tree) → tree.Quantified at k bs e ≡ t → d ≡ raise_bounds g ks c bs → ms ≡ ks → ps ≡ ms ++ bound_by bs → Walks g hs b whole ks c t → Walks g hs b whole ps d e
walk_quantified g hs ks ms ps b c d whole t at k bs e q x m n w = record {
  same = ap (λ (l : Marks). raise g l d e) (n ∙ ap (λ (l : Marks). l ++ bound_by bs) m) ∙ ap (λ (z : Bool). raise g (ks ++ bound_by bs) z e) x ∙ ap (raise g ks c) q ∙ w.same;
  more = w.more ++ bound_by bs;
  grown = n ∙ ap (λ (l : Marks). l ++ bound_by bs) (m ∙ w.grown) ∙ append_assoc hs w.more (bound_by bs);
  within = fewer (tree.Quantified at k bs e) e t (tree_size whole) q (smaller_quantified at k bs e) w.within;
}

pub walk_choose : (g : Rising) (hs ks ms ps : Marks) (b c d : Bool) (whole t : Tree) (at : Place) (name : List ℕ) (s e : Tree) → tree.Choose at name s e ≡ t → d ≡ raise g ks c s → ms ≡ ks → ps ≡ ms ++ marked name false ∷ [] → Walks g hs b whole ks c t → Walks g hs b whole ps d e
walk_choose g hs ks ms ps b c d whole t at name s e q x m n w = record {
  same = ap (λ (l : Marks). raise g l d e) (n ∙ ap (λ (l : Marks). l ++ unmarked name ∷ []) m) ∙ ap (λ (z : Bool). raise g (ks ++ unmarked name ∷ []) z e) x ∙ ap (raise g ks c) q ∙ w.same;
  more = w.more ++ unmarked name ∷ [];
  grown = n ∙ ap (λ (l : Marks). l ++ unmarked name ∷ []) (m ∙ w.grown) ∙ append_assoc hs w.more (unmarked name ∷ []);
  within = fewer (tree.Choose at name s e) e t (tree_size whole) q (smaller_choose at name s e) w.within;
}

pub walk_let : (g : Rising) (hs ks ps : Marks) (b c : Bool) (whole t : Tree) (at : Place) (ds : tree.Definitions) (e : Tree) → tree.Let at ds e ≡ t → ps ≡ ks ++ defined_by g ks ds → Walks g hs b whole ks c t → Walks g hs b whole ps c e
walk_let g hs ks ps b c whole t at ds e q n w = record {
  same = ap (λ (l : Marks). raise g l c e) n ∙ ap (raise g ks c) q ∙ w.same;
  more = w.more ++ defined_by g ks ds;
  grown = n ∙ ap (λ (l : Marks). l ++ defined_by g ks ds) w.grown ∙ append_assoc hs w.more (defined_by g ks ds);
  within = fewer (tree.Let at ds e) e t (tree_size whole) q (smaller_let at ds e) w.within;
}

-- the mark at an index
pub mark_some : (bs : List Bool) (i : ℕ) (b : Bool) → i < length bs → b ≡ get_or bs i b → b ≡ mark bs i
mark_some [] i b lt e = absurd (omega (arith, lt))
mark_some (x ∷ bs) zero b lt e = e
mark_some (x ∷ bs) (suc i) b lt e = let less : i < length bs = omega (arith, lt) in mark_some bs i b less e

pub mark_none : (bs : List Bool) (i : ℕ) → length bs ≤ i → false ≡ mark bs i
mark_none [] i le = refl
mark_none (x ∷ bs) zero le = absurd (omega (arith, le))
mark_none (x ∷ bs) (suc i) le = let more : length bs ≤ i = omega (arith, le) in mark_none bs i more
