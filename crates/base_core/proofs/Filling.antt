-- What a read into a room leaves, and where a file is found.
use Rattle.std.proofs.Common.{Bool, ◌≡◌, ◌≤◌, ◌<◌, ℕ, true, Option, Some, List, ◌++◌, drop, take, length, get_or, arith, length-take, sym, subst, refl}
use Rattle.std.specs.Prelude.{Vec, slice_get}
use Rattle.std.specs.Global.{Global}
use Rattle.std.proofs.Math.Seq.{drop-cons, take-append_seam}
use Rattle.std.proofs.lemmas.List.{take-append-drop}
use Rattle.std.proofs.lemmas.Option.{slice_get_read, slice_get-map}
use Rattle.std.specs.Str.{bytes_eq}
use Rattle.base_core.specs.Device.{File, found, TakesNext, TakesOf}
use Rattle.base_core.specs.Memory.{files_of, left_of, FindsAt, Finds}

-- what was copied and what was there behind it
pub taken_bytes : (l copied rest : List ℕ) (n : ℕ) → copied ≡ take n l → n ≤ length l → l ≡ take n (copied ++ rest) ++ drop n l
taken_bytes l copied rest n e le =
    let k : length (take n l) ≡ n = omega (arith, length-take {A = ℕ}) in
    let a : take n (take n l ++ rest) ≡ take n l = subst (λ (m : ℕ). take m (take n l ++ rest) ≡ take n l) k (take-append_seam (take n l) rest) in
    rw e (rw a (sym (take-append-drop n l)))

-- the files as they are kept: names and vectors
abbrev pub Kept : Type 0
Kept = List ℕ × Vec ℕ Global

-- a kept file is a file of the same index
pub file_at : (fs : List Kept) (i : ℕ) (f : Kept) → slice_get fs i ≡ Some f → slice_get (files_of fs) i ≡ Some (f.0, f.1.items)
file_at fs i f e = rw (slice_get-map {B = File} (λ (k : Kept). (k.0, k.1.items)) fs i) (rw e refl)

-- a file is found where it stands
pub found_here : (name : List ℕ) (fs : List Kept) (i : ℕ) (f : Kept) → i < length fs → f ≡ get_or fs i f
    → bytes_eq f.0 name ≡ true → found name (files_of (drop i fs)) ≡ Some f.1.items
found_here name fs i f lt is same = rw (drop-cons fs i f) (rw (← is) (rw same refl))

-- all bytes of a file that was found are left
pub opened : (name : List ℕ) (fs kept : List Kept) (i : ℕ) → kept ≡ fs → FindsAt name (files_of kept) (Some i)
    → (bytes : List ℕ) × (found name (files_of fs) ≡ Some bytes) × (left_of (files_of fs) (Some i) 0 ≡ Some bytes)
opened name fs kept i same finds =
    let here : FindsAt name (files_of fs) (Some i) = rw same at finds in
    (here.0.1, here.2, rw here.1 refl)

-- what is taken of the open file's bytes is taken of what is left
pub taken_of : (fs kept : List Kept) (current : Option ℕ) (i from count later after : ℕ) (room bytes : List ℕ) (f : Kept)
    → current ≡ Some i → kept ≡ fs → i < length kept → f ≡ get_or kept i f → bytes ≡ f.1.items → later ≡ after
    → TakesNext (drop from bytes) count room (drop after bytes)
    → TakesOf (left_of (files_of fs) current from) count room (left_of (files_of fs) current later)
taken_of fs kept current i from count later after room bytes f is same lt at_i are at_later takes =
    let at : slice_get fs i ≡ Some f = rw same at (slice_get_read kept (length kept) i f refl lt at_i) in
    rw is (rw (file_at fs i f at) (rw at_later (drop after f.1.items, refl, rw are at takes)))

-- a file that was found by its name, among the same files
pub found_open : (name asked : List ℕ) (fs kept : List Kept) (is : Bool) (left : Option (List ℕ)) → asked ≡ name → kept ≡ fs → is ≡ true
    → Finds asked (files_of kept) is left → Finds name (files_of fs) true left
found_open name asked fs kept is left named same there finds =
    subst (λ (n : List ℕ). Finds n (files_of fs) true left) named
    (subst (λ (k : List Kept). Finds asked (files_of k) true left) same (subst (λ (b : Bool). Finds asked (files_of kept) b left) there finds))
