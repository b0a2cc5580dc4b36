-- The first nodes of a list, and what the last of them hold.
use Rattle.std.proofs.Common.{◌≡◌, ◌≤◌, ◌<◌, ◌+◌, ◌-◌, ℕ, zero, suc, List, [], ◌∷◌, ◌++◌, length, arith, refl, sym, subst, ap, ◌∙◌, inl, inr, Some, take, drop, get_or, map}
use Rattle.std.specs.List.{Contains, slice_get}
use Rattle.std.proofs.lemmas.List.{take-append-drop, take-append-le}
use Rattle.std.proofs.lemmas.Grind.{common_steps}
use Rattle.std.proofs.lemmas.Option.{slice_get-get_or, get_or_from_slice_get, slice_get_within}
use Rattle.states_core.specs.System.{System}
use Rattle.states_core.specs.Sets.{IsList}
use Rattle.states_core.specs.Runs.{Run, Layer, Entry, Upto}
use Rattle.states_core.specs.declared.state.Shown.{Shown}
use Rattle.states_layers.specs.Gives.{IsReached}
use Rattle.states_layers.specs.Found.{Found, members_of, Merged}
use Rattle.states_layers.specs.Moves.{entry, entries, entry_of}
use Rattle.states_layers.specs.Kept.{AllLinked, AllReached, EndsBehind, Linked, Kept, Continues, IsStuck, Gathers}
use Rattle.states_layers.specs.declared.node.Node.{Node}
use Rattle.states_layers.proofs.Members.{in_nil, in_left, in_right, in_append, in_map, map_in, in_get, get_below, no_longer}
use Rattle.states_layers.proofs.LayerLaws.{run_within}
use Rattle.states_layers.proofs.Grow.{node_layer}
use Rattle.states_layers.proofs.KeptLaws.{get_append, long_members}
use Rattle.states_layers.proofs.BackLaws.{from_take, take_less}

pub some_at : {A : Type 0} (xs : List A) (i : ℕ) → i < length xs → (x : A) × (slice_get xs i ≡ Some x)
some_at [] i lt = absurd (omega (arith, lt))
some_at (x ∷ xs) zero lt = (x, refl)
some_at (x ∷ xs) (suc i) lt = some_at xs i (omega (arith, lt))

take_get : {A : Type 0} (xs : List A) (n i : ℕ) (x : A) → slice_get xs i ≡ Some x → i < n → slice_get (take n xs) i ≡ Some x
take_get {A} xs n i x e lt =
    let a : i < length xs = slice_get_within xs i x e in
    let g : get_or xs i x ≡ x = get_or_from_slice_get xs i x x e in
    let h : get_or (take n xs) i x ≡ x = grind (arith, common_steps) in
    let u : i < length (take n xs) = grind (arith, common_steps) in
    slice_get-get_or (take n xs) i x u ∙ ap (λ (z : A). Some z) h

in_take : {A : Type 0} (xs : List A) (n : ℕ) (x : A) → Contains (take n xs) x → Contains xs x
in_take {A} xs n x h = subst (λ (ys : List A). Contains ys x) (take-append-drop n xs) (in_left (take n xs) (drop n xs) x h)

in_drop : {A : Type 0} (xs : List A) (n i : ℕ) (x : A) → slice_get xs i ≡ Some x → n ≤ i → Contains (drop n xs) x
in_drop {A} xs n i x e le =
    let lt = slice_get_within xs i x e in
    let long : length (take n xs) ≡ n = grind (arith, common_steps) in
    elim (get_append (take n xs) (drop n xs) i x (subst (λ (ys : List A). slice_get ys i ≡ Some x) (sym (take-append-drop n xs)) e)) [
      | inl a ↦ absurd (omega (arith, a.0))
      | inr b ↦ b.1
    ]

drop_in : {A : Type 0} (xs : List A) (n : ℕ) (x : A) → n < length xs → Contains (drop n xs) x → (i : ℕ) × (slice_get xs i ≡ Some x) × (n ≤ i)
drop_in {A} xs n x lt h =
    let g = in_get (drop n xs) x h in
    let at : get_or (drop n xs) g.0 x ≡ x = get_or_from_slice_get (drop n xs) g.0 x x g.1 in
    let under : g.0 < length (drop n xs) = slice_get_within (drop n xs) g.0 x g.1 in
    let value : get_or xs (n + g.0) x ≡ x = grind (arith, common_steps) in
    let within : n + g.0 < length xs = grind (arith, common_steps) in
    (n + g.0, slice_get-get_or xs (n + g.0) x within ∙ ap (λ (z : A). Some z) value, omega arith)

-- the first of the rest is that at the index
pub tail_at : {A : Type 0} (xs tail : List A) (n : ℕ) (x : A) → n < length xs → tail ≡ drop n xs → x ≡ get_or tail 0 x → slice_get xs n ≡ Some x
tail_at {A} xs tail n x lt e h =
    let value : get_or xs n x ≡ x = grind (arith, common_steps) in
    slice_get-get_or xs n x lt ∙ ap (λ (z : A). Some z) value

pub take_more : {A : Type 0} (xs : List A) (n : ℕ) (x : A) → slice_get xs n ≡ Some x → take n xs ++ x ∷ [] ≡ take (n + 1) xs
take_more xs n x e =
    let lt : n < length xs = slice_get_within xs n x e in
    let at : get_or xs n x ≡ x = get_or_from_slice_get xs n x x e in
    grind (arith, common_steps)

module _ {A : Type 0} where
  pub links_take : (y : System A) (nodes : List (Node A)) (n : ℕ) → AllLinked y nodes → AllLinked y (take n nodes)
  links_take y nodes n links i x e =
      let f = from_take nodes n i x e in
      let le : i ≤ length (take n nodes) = let lt = get_below (take n nodes) i x e in omega arith in
      subst (λ (ns : List (Node A)). Linked y ns x) (take_less nodes n i le) (links i x f.0)

  pub reached_take : (y : System A) (nodes : List (Node A)) (n m j : ℕ) → IsList (Upto y m j) (entries nodes) → AllReached y (take n nodes)
  reached_take y nodes n m j l x h = let g = in_get nodes x (in_take nodes n x h) in node_layer y m j nodes l g.0 x g.1

  -- the states along the links to the first node after a line
  pub front_run : (y : System A) (n i : ℕ) (nodes : List (Node A)) (x : Node A) (w : List Shown) → Continues n nodes i → slice_get nodes i ≡ Some x
      → EndsBehind y (take (i + 1) nodes) w → Run y n 0 x.entry w
  front_run y n i nodes x w c at e =
      let lt = slice_get_within nodes i x at in
      let long : length (take (i + 1) nodes) - 1 ≡ i = grind (arith, common_steps) in
      let r = e x (subst (λ (k : ℕ). slice_get (take (i + 1) nodes) k ≡ Some x) (sym long) (take_get nodes (i + 1) i x at (omega arith))) in
      let line : x.line ≡ n = (c.line i x at).0 (omega arith) in
      let silents : x.silents ≡ 0 = c.front x at in
      subst (λ (k : ℕ). Run y n k x.entry w) silents (subst (λ (m : ℕ). Run y m x.silents x.entry w) line r)

  pub front_layer : (y : System A) (n i m j : ℕ) (nodes : List (Node A)) (x : Node A) → Continues n nodes i → slice_get nodes i ≡ Some x
      → IsList (Upto y m j) (entries nodes) → IsReached y n x.entry
  front_layer y n i m j nodes x c at l =
      let line : x.line ≡ n = (c.line i x at).0 (omega arith) in
      (x.silents, subst (λ (k : ℕ). Layer y k x.silents x.entry) line (node_layer y m j nodes l i x at))

  pub gathered : (nodes : List (Node A)) (list : List A) (now : List (Found A)) → list ≡ map (λ (x : Node A). x.entry) nodes
      → Merged [] list 0 (length list) now → Gathers nodes (members_of now)
  gathered nodes list now e m =
      let distinct = m.distinct (λ i j x lt under. absurd (omega (arith, under))) in
      let listed : (s : A) → Contains (members_of now) s → Contains list s = λ s h. let f = map_in (λ (f : Found A). f.0) now s h in elim (m.new f.0 f.1) [
        | inl a ↦ absurd (in_nil f.0 a)
        | inr b ↦ subst (λ (z : A). Contains list z) f.2 b.1
      ] in
      let few : length (members_of now) ≤ length list = no_longer (members_of now) list distinct listed in
      let long : length (members_of now) ≡ length now = long_members now in
      record {
        distinct = distinct;
        from_nodes = λ s h. map_in (λ (x : Node A). x.entry) nodes s (subst (λ (xs : List A). Contains xs s) e (listed s h));
        all = λ x h. m.all (omega (arith, few, long)) x.entry (subst (λ (xs : List A). Contains xs x.entry) (sym e) (in_map (λ (x : Node A). x.entry) nodes x h));
      }

  -- what the nodes after n lines hold is all that is reached by n lines
  pub last_list : (y : System A) (n start : ℕ) (nodes tail : List (Node A)) (last : List A) → 1 ≤ y.within → IsStuck y n nodes start
      → tail ≡ drop start nodes → Gathers tail last → IsList (IsReached y n) last
  last_list y n start nodes tail last one k e g = record {
    are = record {
      distinct = g.distinct;
      members = λ s h.
          let x = g.from_nodes s h in
          let d = drop_in nodes start x.0 k.whole.some (subst (λ (ns : List (Node A)). Contains ns x.0) e x.1) in
          let line : x.0.line ≡ n = (k.whole.line d.0 x.0 d.1).0 d.2 in
          let l : Layer y n x.0.silents x.0.entry = subst (λ (m : ℕ). Layer y m x.0.silents x.0.entry) line (node_layer y n (y.within - 1) nodes k.kept.list d.0 x.0 d.1) in
          subst (λ (z : A). IsReached y n z) x.2 (x.0.silents, l);
    };
    all = λ s r.
        let low = run_within y n r.0 s r.1.states one r.1.run in
        let there = k.kept.list.all (entry n r.0 s) (record { layer = r.1; upto = inr (refl, omega arith) }) in
        let x = map_in entry_of nodes (entry n r.0 s) there in
        let at = in_get nodes x.0 x.1 in
        let line : x.0.line ≡ n = ap (λ (p : Entry A). p.line) x.2 in
        let h : Contains (drop start nodes) x.0 = in_drop nodes start at.0 x.0 at.1 ((k.whole.line at.0 x.0 at.1).1 line) in
        subst (λ (z : A). Contains last z) (ap (λ (p : Entry A). p.member) x.2) (g.all x.0 (subst (λ (ns : List (Node A)). Contains ns x.0) (sym e) h));
  }
