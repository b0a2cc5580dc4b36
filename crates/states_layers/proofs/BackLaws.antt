-- The way back along the links.
use Rattle.std.proofs.Common.{◌≡◌, ◌≤◌, ◌<◌, ◌+◌, ◌-◌, ℕ, suc, List, [], ◌∷◌, ◌++◌, length, arith, refl, sym, subst, ap, ◌∙◌, inl, inr, Some, take, drop, get_or, reverse, append_assoc}
use Rattle.std.specs.List.{Contains, slice_get}
use Rattle.std.proofs.lemmas.List.{take-append-drop, take-append-le, reverse-append}
use Rattle.std.proofs.Math.Seq.{take-append_seam}
use Rattle.std.proofs.lemmas.Grind.{common_steps}
use Rattle.std.proofs.lemmas.Option.{slice_get-get_or}
use Rattle.states_core.specs.States.{Values, shown}
use Rattle.states_core.specs.System.{System}
use Rattle.states_core.specs.Runs.{Run, start, wait, go, Layer}
use Rattle.states_layers.specs.Kept.{Linked, begins, moves, AllLinked, AllReached, EndsBehind, IsBack, IsMark}
use Rattle.states_core.specs.declared.state.Mark.{Mark}
use Rattle.states_core.specs.declared.state.Mark.TheVariants.{Init, Silent, Line}
use Rattle.base_core.specs.declared.place.LineAt.{LineAt}
use Rattle.states_layers.specs.declared.node.Node.{Node}
use Rattle.states_layers.specs.declared.node.Move.TheVariants.{Wait, Go}
use Rattle.states_core.specs.declared.state.Shown.{Shown}
use Rattle.states_layers.proofs.Members.{get_in, get_same, get_below}
use Rattle.states_layers.proofs.KeptLaws.{append_get}

pub from_take : {A : Type 0} (xs : List A) (i k : ℕ) (x : A) → slice_get (take i xs) k ≡ Some x → (slice_get xs k ≡ Some x) × (k < i)
from_take xs i k x e = let b = get_below (take i xs) k x e in
    (subst (λ ys. slice_get ys k ≡ Some x) (take-append-drop i xs) (append_get (take i xs) _ k x e), grind (arith, common_steps))

-- what is taken from the end of the first ones
pub record Popped {A : Type 0} (full nodes rest : List A) (x : A) : Type 0 where
  pub at : slice_get full (length nodes - 1) ≡ Some x
  pub rest_is : rest ≡ take (length nodes - 1) full
  pub long : length nodes ≡ length rest + 1

pub take_less : {A : Type 0} (full : List A) (m n : ℕ) → n ≤ length (take m full) → take n full ≡ take n (take m full)
take_less full m n le = ap (λ xs. take n xs) (sym (take-append-drop m full)) ∙ take-append-le n (take m full) (drop m full) le

pub popped : {A : Type 0} (full nodes rest : List A) (x : A) → nodes ≡ take (length nodes) full → nodes ≡ rest ++ x ∷ [] → Popped full nodes rest x
popped {A} full nodes rest x prefix e =
    let long : length nodes ≡ length rest + 1 = ap (λ (xs : List A). length xs) e ∙ grind (arith, common_steps) in
    let under : length rest < length (rest ++ x ∷ []) = grind (arith, common_steps) in
    let value : get_or (rest ++ x ∷ []) (length rest) x ≡ x = grind (arith, common_steps) in
    let last : slice_get (rest ++ x ∷ []) (length rest) ≡ Some x = slice_get-get_or (rest ++ x ∷ []) (length rest) x under ∙ ap (λ (z : A). Some z) value in
    let before : length rest ≡ length nodes - 1 = omega (arith, long) in
    let here : slice_get nodes (length nodes - 1) ≡ Some x =
    subst (λ (k : ℕ). slice_get nodes k ≡ Some x) before (subst (λ (xs : List A). slice_get xs (length rest) ≡ Some x) (sym e) last) in
    let taken : slice_get (take (length nodes) full) (length nodes - 1) ≡ Some x = subst (λ (xs : List A). slice_get xs (length nodes - 1) ≡ Some x) prefix here in
    let size : length nodes ≡ length (take (length nodes) full) = ap (λ (xs : List A). length xs) prefix in
    record {
      at = (from_take full (length nodes) (length nodes - 1) x taken).0;
      rest_is = sym (take-append_seam rest (x ∷ [])) ∙ ap (λ (xs : List A). take (length rest) xs) (sym e) ∙ ap (λ (xs : List A). take (length rest) xs) prefix
          ∙ sym (take_less full (length nodes) (length rest) (omega (arith, size, long))) ∙ ap (λ (k : ℕ). take k full) before;
      long = long;
    }

turned : (w states : List Shown) (s : Shown) → (w ++ s ∷ []) ++ reverse states ≡ w ++ reverse (states ++ s ∷ [])
turned w states s = append_assoc w (s ∷ []) (reverse states) ∙ ap (λ (v : List Shown). w ++ v) (sym (reverse-append states (s ∷ [])))

module _ {A : Type 0} where
  -- what led to a node by the step of a line
  pub record ByLine (y : System A) (n : ℕ) (z x : Node A) : Type 0 where
    pub left : n < y.count
    pub line : z.line ≡ n
    pub step : y.Step n z.entry x.entry

  pub by_line : (y : System A) (ns : List (Node A)) (x : Node A) (n : ℕ) (z : Node A) → Linked y ns x → x.line ≡ suc n → x.silents ≡ 0
      → slice_get ns x.from ≡ Some z → ByLine y n z x
  by_line y ns _ n z (begins s k i e) a b at = absurd (omega (arith, a))
  by_line y ns _ n z (moves v (Wait m j) s k there src o h) a b at = absurd (omega (arith, b))
  by_line y ns _ n z (moves v (Go m) s k there src o h) a b at =
      let e : m ≡ n = omega (arith, a) in
      let same : v ≡ z = get_same ns k v z there at in
      record {
        left = subst (λ (i : ℕ). i < y.count) e o;
        line = ap (λ (w : Node A). w.line) (sym same) ∙ src ∙ e;
        step = subst (λ (i : ℕ). y.Step i z.entry s) e (subst (λ (w : Node A). y.Step m w.entry s) same h);
      }

  pub linked_within : (y : System A) (ns : List (Node A)) (x : Node A) → Linked y ns x → (x.line ≡ 0 → x.silents ≡ 0 → ⊥) → x.from < length ns
  linked_within y ns _ (begins s k i e) later = absurd (later refl refl)
  linked_within y ns _ (moves v move s k there src o h) later = get_below ns k v there

  pub mark_line : (y : System A) (ns : List (Node A)) (x z : Node A) (r : LineAt) → slice_get ns x.from ≡ Some z → (x.line ≡ 0 → ⊥) → x.silents ≡ 0
      → r ≡ y.at (x.line - 1) z.entry x.entry → IsMark y ns x (Line r)
  mark_line y ns x z r at later none e = record {
    first = λ a b. absurd (later a);
    silent = λ lt. absurd (omega (arith, lt, none));
    line = λ n v a b there.
        let m : x.line - 1 ≡ n = omega (arith, a) in
        let same : z ≡ v = get_same ns x.from z v at there in
        ap (λ (l : LineAt). Line l) (e ∙ ap (λ (i : ℕ). y.at i z.entry x.entry) m ∙ ap (λ (w : Node A). y.at n w.entry x.entry) same);
  }

  pub back_first : (y : System A) (ns : List (Node A)) (x : Node A) (mark : Mark) (state : Values) → Linked y ns x → IsMark y ns x mark → y.state_of x.entry ≡ state
      → x.line ≡ 0 → x.silents ≡ 0 → Run y x.line x.silents x.entry (shown mark state ∷ [])
  back_first y ns _ mark state (begins s k i e) m shows a b =
      subst (λ (n : Mark). Run y 0 0 s (shown n state ∷ [])) (sym (m.first refl refl)) (subst (λ (z : Values). Run y 0 0 s (shown Init z ∷ [])) shows (start s i e))
  back_first y ns _ mark state (moves x (Wait n j) s k at src o h) m shows a b = absurd (omega (arith, b))
  back_first y ns _ mark state (moves x (Go n) s k at src o h) m shows a b = absurd (omega (arith, a))

  pub record Behind (y : System A) (ns : List (Node A)) (x : Node A) (mark : Mark) (state : Values) : Type 0 where
    pub node : Node A
    pub at : slice_get ns x.from ≡ Some node
    pub run : (w : List Shown) → Run y node.line node.silents node.entry w → Run y x.line x.silents x.entry (w ++ shown mark state ∷ [])

  pub back_step : (y : System A) (ns : List (Node A)) (x : Node A) (mark : Mark) (state : Values) → Linked y ns x → IsMark y ns x mark → y.state_of x.entry ≡ state
      → (x.line ≡ 0 → x.silents ≡ 0 → ⊥) → Behind y ns x mark state
  back_step y ns _ mark state (begins s k i e) m shows later = absurd (later refl refl)
  back_step y ns _ mark state (moves b (Wait n j) s k at src o h) m shows later = record {
    node = b;
    at = at;
    run = λ w r.
        subst (λ (l : Mark). Run y n (suc j) s (w ++ shown l state ∷ [])) (sym (m.silent (omega arith)))
        (subst (λ (z : Values). Run y n (suc j) s (w ++ shown Silent z ∷ [])) shows
        (wait n j b.entry s w (subst (λ (a : ℕ). Run y n a b.entry w) src.1 (subst (λ (a : ℕ). Run y a b.silents b.entry w) src.0 r)) o.0 o.1 h));
  }
  back_step y ns _ mark state (moves b (Go n) s k at src o h) m shows later = record {
    node = b;
    at = at;
    run = λ w r.
        subst (λ (l : Mark). Run y (suc n) 0 s (w ++ shown l state ∷ [])) (sym (m.line n b refl refl at))
        (subst (λ (z : Values). Run y (suc n) 0 s (w ++ shown (Line (y.at n b.entry s)) z ∷ [])) shows
        (go n b.silents b.entry s w (subst (λ (a : ℕ). Run y a b.silents b.entry w) src r) o h));
  }

  pub back_init : (y : System A) (nodes : List (Node A)) (i : ℕ) → IsBack y nodes i i []
  back_init y nodes i x z w a b r = let same : z ≡ x = get_same nodes i z x b a in
      let e : w ++ reverse [] ≡ w = grind (arith, common_steps) in
      subst (λ (v : List Shown). Run y x.line x.silents x.entry v) (sym e) (subst (λ (n : Node A). Run y n.line n.silents n.entry w) same r)

  -- where the way goes on
  pub record Turns (y : System A) (full : List (Node A)) (last : ℕ) (rest now : List (Node A)) (states : List Shown) : Type 0 where
    pub prefix : now ≡ take (length now) full
    pub some : 0 < length now
    pub back : IsBack y full last (length now - 1) states
    pub less : length now ≤ length rest

  pub back_more : (y : System A) (full nodes rest : List (Node A)) (last : ℕ) (z : Node A) (mark : Mark) (state : Values) (states : List Shown) → AllLinked y full
      → nodes ≡ take (length nodes) full → nodes ≡ rest ++ z ∷ [] → IsMark y rest z mark → y.state_of z.entry ≡ state
      → (z.line ≡ 0 → z.silents ≡ 0 → ⊥) → IsBack y full last (length nodes - 1) states
      → Turns y full last rest (take (z.from + 1) rest) (states ++ shown mark state ∷ [])
  back_more y full nodes rest last z mark state states links prefix e m shows later back =
      let p = popped full nodes rest z prefix e in
      let link : Linked y rest z = subst (λ (ns : List (Node A)). Linked y ns z) (sym p.rest_is) (links (length nodes - 1) z p.at) in
      let b = back_step y rest z mark state link m shows later in
      let lt : z.from < length rest = get_below rest z.from b.node b.at in
      let f = from_take full (length nodes - 1) z.from b.node (subst (λ (ns : List (Node A)). slice_get ns z.from ≡ Some b.node) p.rest_is b.at) in
      let long : length (take (z.from + 1) rest) ≡ z.from + 1 = grind (arith, common_steps) in
      let under : z.from + 1 ≤ length nodes - 1 = let l = p.long in omega arith in
      let same : take (z.from + 1) (take (length nodes - 1) full) ≡ take (z.from + 1) full = grind (arith, common_steps) in
      record {
        prefix = ap (λ (ns : List (Node A)). take (z.from + 1) ns) p.rest_is ∙ same ∙ ap (λ (k : ℕ). take k full) (sym long);
        some = omega arith;
        less = omega arith;
        back = λ x v w ax av r.
            let here : slice_get full z.from ≡ Some v = subst (λ (k : ℕ). slice_get full k ≡ Some v) (omega (arith, long)) av in
            let one : v ≡ b.node = get_same full z.from v b.node here f.0 in
            subst (λ (u : List Shown). Run y x.line x.silents x.entry u) (turned w states (shown mark state))
            (back x z _ ax p.at (b.run w (subst (λ (n : Node A). Run y n.line n.silents n.entry w) one r)));
      }

  pub back_end : (y : System A) (full nodes rest : List (Node A)) (z : Node A) (mark : Mark) (state : Values) (states : List Shown) → AllLinked y full
      → nodes ≡ take (length nodes) full → nodes ≡ rest ++ z ∷ [] → IsMark y rest z mark → y.state_of z.entry ≡ state
      → z.line ≡ 0 → z.silents ≡ 0 → IsBack y full (length full - 1) (length nodes - 1) states → EndsBehind y full (reverse (states ++ shown mark state ∷ []))
  back_end y full nodes rest z mark state states links prefix e m shows a b back x ax =
      let p = popped full nodes rest z prefix e in
      let link : Linked y rest z = subst (λ (ns : List (Node A)). Linked y ns z) (sym p.rest_is) (links (length nodes - 1) z p.at) in
      subst (λ (u : List Shown). Run y x.line x.silents x.entry u) (turned [] states (shown mark state))
      (back x z _ ax p.at (back_first y rest z mark state link m shows a b))

  pub link_of : (y : System A) (full nodes rest : List (Node A)) (z : Node A) → AllLinked y full → nodes ≡ take (length nodes) full → nodes ≡ rest ++ z ∷ [] → Linked y rest z
  link_of y full nodes rest z links prefix e =
      let p = popped full nodes rest z prefix e in
      subst (λ (ns : List (Node A)). Linked y ns z) (sym p.rest_is) (links (length nodes - 1) z p.at)

  pub reached_rest : (y : System A) (full nodes rest : List (Node A)) (z : Node A) → AllReached y full → nodes ≡ take (length nodes) full → nodes ≡ rest ++ z ∷ [] → AllReached y rest
  reached_rest y full nodes rest z reached prefix e x h =
      let p = popped full nodes rest z prefix e in
      let q = subst (λ (ns : List (Node A)). Contains ns x) p.rest_is h in
      reached x (grind (arith, common_steps))
