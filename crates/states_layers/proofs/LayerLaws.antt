-- How layers are made of earlier layers.
use Rattle.std.proofs.Common.{◌≡◌, ◌≤◌, ◌<◌, ◌-◌, ℕ, suc, List, arith, refl, subst, ◌⊎◌, inl, inr}
use Rattle.std.proofs.lemmas.Bool.{cases_lt}
use Rattle.states_core.specs.System.{System, Begins}
use Rattle.states_core.specs.Runs.{Run, start, wait, go, Layer, Entry, Upto, IsUpto}
use Rattle.states_layers.specs.Answers.{HasLayer}
use Rattle.states_layers.specs.Moves.{IsSource, line_of, silents_of, line_after, silents_after, IsOpen, Moves, entry}
use Rattle.states_layers.specs.declared.node.Move.{Move}
use Rattle.states_layers.specs.declared.node.Move.TheVariants.{Wait, Go}
use Rattle.states_core.specs.declared.state.Shown.{Shown}

module _ {A : Type 0} where
  -- a step leads into the layer
  pub into : (y : System A) (move : Move) (m k : ℕ) (s t : A) → IsOpen y move → IsSource move m k → Layer y m k s → Moves y move s t
      → Layer y (line_after move) (silents_after move) t
  into y (Wait n j) m k s t o e l h = record {
    states = _;
    run =
        wait n j s t l.states (subst (λ (a : ℕ). Run y n a s l.states) e.1 (subst (λ (a : ℕ). Run y a k s l.states) e.0 l.run)) o.0 o.1 h;
  }
  into y (Go n) m k s t o e l h = record { states = _; run = go n k s t l.states (subst (λ (a : ℕ). Run y a k s l.states) e l.run) o h }

  -- the state before a state
  pub record Earlier (y : System A) (move : Move) (t : A) : Type 0 where
    pub line : ℕ
    pub silents : ℕ
    pub state : A
    pub source : IsSource move line silents
    pub layer : Layer y line silents state
    pub step : Moves y move state t
    pub opens : IsOpen y move

  out_wait : (y : System A) (n j : ℕ) (t : A) (v : List Shown) → Run y n (suc j) t v → Earlier y (Wait n j) t
  out_wait y n j t v (wait m k s u w r lt le h) = record { line = n; silents = j; state = s; source = (refl, refl); layer = record { states = w; run = r }; step = h; opens = (lt, le) }

  out_go : (y : System A) (n : ℕ) (t : A) (v : List Shown) → Run y (suc n) 0 t v → Earlier y (Go n) t
  out_go y n t v (go m k s u w r lt h) = record { line = n; silents = k; state = s; source = refl; layer = record { states = w; run = r }; step = h; opens = lt }

  pub out_of : (y : System A) (move : Move) (t : A) → Layer y (line_after move) (silents_after move) t → Earlier y move t
  out_of y (Wait n j) t l = out_wait y n j t l.states l.run
  out_of y (Go n) t l = out_go y n t l.states l.run

  pub run_begin : (y : System A) (t : A) (v : List Shown) → Run y 0 0 t v → Begins y t
  run_begin y t v (start s i e) = (i, e)

  -- no more silent steps than allowed, and none after the last line
  pub run_within : (y : System A) (n j : ℕ) (t : A) (v : List Shown) → 1 ≤ y.within → Run y n j t v → j < y.within
  run_within y n j t v one (start s i e) = omega arith
  run_within y n j t v one (wait m k s u w r lt le h) = le
  run_within y n j t v one (go m k s u w r lt h) = omega arith

  pub run_lines : (y : System A) (n j : ℕ) (t : A) (v : List Shown) → Run y n j t v → n ≤ y.count
  run_lines y n j t v (start s i e) = omega arith
  run_lines y n j t v (wait m k s u w r lt le h) = omega arith
  run_lines y n j t v (go m k s u w r lt h) = omega arith

  -- the layer after a line, and the one that a move leads to, are there
  pub layer_after : (y : System A) (n : ℕ) → 1 ≤ y.within → n ≤ y.count → HasLayer y n 0
  layer_after y n one le = elim (cases_lt n y.count) [ inl lt ↦ inl (lt, omega (arith, one)) | inr ge ↦ inr (omega (arith, ge), refl) ]

  pub layer_moved : (y : System A) (move : Move) → 1 ≤ y.within → IsOpen y move → HasLayer y (line_after move) (silents_after move)
  layer_moved y (Wait n j) one o = inl o
  layer_moved y (Go n) one o = layer_after y (suc n) one (omega (arith, o))

  -- the layers up to the one that a move leads to
  pub upto_source : (y : System A) (move : Move) (m k : ℕ) (s : A) → 1 ≤ y.within → IsSource move m k → Layer y m k s → Upto y (line_of move) (silents_of y move) (entry m k s)
  upto_source y (Wait n j) m k s one e l = record { layer = l; upto = inr (e.0, omega (arith, e.1)) }
  upto_source y (Go n) m k s one e l = record { layer = l; upto = inr (e, omega (arith, run_within y m k s l.states one l.run)) }

  pub upto_old : (y : System A) (move : Move) (p : Entry A) → Upto y (line_of move) (silents_of y move) p → Upto y (line_after move) (silents_after move) p
  upto_old y (Wait n j) p u = record { layer = u.layer; upto = elim u.upto [ inl a ↦ inl a | inr b ↦ inr (b.0, omega (arith, b.1)) ] }
  upto_old y (Go n) p u = record { layer = u.layer; upto = elim u.upto [ inl a ↦ inl (omega (arith, a)) | inr b ↦ inl (omega (arith, b.0)) ] }

  pub upto_new : (y : System A) (move : Move) (p : Entry A) → 1 ≤ y.within → Upto y (line_after move) (silents_after move) p
      → Upto y (line_of move) (silents_of y move) p ⊎ ((p.line ≡ line_after move) × (p.silents ≡ silents_after move))
  upto_new y (Wait n j) p one u = elim u.upto [
    | inl a ↦ inl (record { layer = u.layer; upto = inl a })
    | inr b ↦ elim (last p.silents j b.1) [ inl c ↦ inl (record { layer = u.layer; upto = inr (b.0, c) }) | inr c ↦ inr (b.0, c) ]
  ]
    where
      last : (k j : ℕ) → k ≤ suc j → (k ≤ j) ⊎ (k ≡ suc j)
      last k j h = grind arith
  upto_new y (Go n) p one u = elim u.upto [
    | inl a ↦ inl (record { layer = u.layer; upto = below p.line n p.silents y.within a (run_within y p.line p.silents p.member u.layer.states one u.layer.run) })
    | inr b ↦ inr (b.0, omega (arith, b.1))
  ]
    where
      below : (m n k w : ℕ) → m < suc n → k < w → IsUpto n (w - 1) m k
      below m n k w lt le = grind arith
