-- Each literal has its value, where its texts are UTF-8, its numbers have 64 bits, and its sets are few enough inside each other and in their members.
use Rattle.std.proofs.Common.{◌≡◌, zero, suc, max, ◌≤◌, List, [], ◌∷◌, length, ap, subst, refl, arith}
use Rattle.std.specs.List.{Contains}
use Rattle.values_core.specs.Data.{Val}
use Rattle.values_core.specs.Data as val
use Rattle.values_core.specs.Ascending.{none_in}
use Rattle.values_core.specs.IsValue.{IsCanonical}
use Rattle.reading_trees.specs.Lits.{Lit, Lits, number, str, truth, model, set, no_lits, more_lits, list_of, depth, depth_of}
use Rattle.names_literals.specs.Spells.{IsValueOf, AreValuesOf}
use Rattle.reading_configuration.specs.Limits.{IsWithin, AreWithin}
use Rattle.names_load_laws.proofs.SetsMade.{set_made}

-- the value of a literal, which is no deeper
record Has (l : Lit) : Type 0 where
  value : Val
  is : IsValueOf l value
  canonical : IsCanonical value
  deep : val.depth value ≤ depth l

record Have (ls : Lits) : Type 0 where
  values : List Val
  are : AreValuesOf ls values
  as_many : length values ≡ length (list_of ls)
  canonical : (w : Val) → Contains values w → IsCanonical w
  deep : (w : Val) → Contains values w → val.depth w ≤ depth_of ls

more_have : (l : Lit) (ls : Lits) → Has l → Have ls → Have (more_lits l ls)
more_have l ls h k = record {
  values = h.value ∷ k.values;
  are = (h.is, k.are);
  as_many = ap suc k.as_many;
  canonical = canonical;
  deep = deep;
}
  where
    canonical : (w : Val) → Contains (h.value ∷ k.values) w → IsCanonical w
    canonical w (zero, l, e) = subst IsCanonical e h.canonical
    canonical w (suc n, l, e) = k.canonical w (n, omega (arith, l), e)

    deep : (w : Val) → Contains (h.value ∷ k.values) w → val.depth w ≤ max (depth l) (depth_of ls)
    deep w (zero, l, e) = let d : val.depth h.value ≡ val.depth w = ap val.depth e in omega (arith, d, h.deep)
    deep w (suc n, l, e) = omega (arith, k.deep w (n, omega (arith, l), e))

mutual
  has : (l : Lit) → IsWithin l → depth l ≤ 32 → Has l
  has (number z) s d = record { value = val.integer z; is = refl; canonical = s; deep = omega arith }
  has (str t) s d = record { value = val.string t; is = refl; canonical = s; deep = omega arith }
  has (truth b) s d = record { value = val.truth b; is = refl; canonical = tt; deep = omega arith }
  has (model n) s d = record { value = val.model n; is = refl; canonical = s; deep = omega arith }
  has (set ls) s d =
      let k = have ls s.1 (omega (arith, d)) in
      let m = set_made k.values (depth_of ls) (omega (arith, k.as_many, s.0)) (omega (arith, d)) k.canonical k.deep in
      record { value = _; is = (k.values, k.are, m.0); canonical = m.0.valid.canonical; deep = m.1 }

  have : (ls : Lits) → AreWithin ls → depth_of ls ≤ 32 → Have ls
  have no_lits s d = record { values = []; are = tt; as_many = refl; canonical = λ w h. absurd (none_in w h); deep = λ w h. absurd (none_in w h) }
  have (more_lits l ls) s d = more_have l ls (has l s.0 (omega (arith, d))) (have ls s.1 (omega (arith, d)))

pub value_there : (l : Lit) → IsWithin l → depth l ≤ 32 → (v : Val) × IsValueOf l v
value_there l s d = let h = has l s d in (h.value, h.is)
