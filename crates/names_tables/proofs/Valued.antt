-- The values of constants, one after another.
use Rattle.std.proofs.Common.{◌≡◌, ◌∙◌, sym, ap, refl, subst, ℕ, suc, List, [], ◌∷◌, ◌++◌, length, ◌<◌, ◌≤◌, ◌+◌, ◌⊎◌, inl, inr, arith, map, get_or}
use Rattle.std.specs.Borrow.{Bor}
use Rattle.std.specs.Prelude.{Bool, true, false, if◌then◌else◌, Option, Some, None, option_map, slice_get}
use Rattle.std.specs.Str.{bytes_eq}
use Rattle.std.proofs.lemmas.List.{length-map}
use Rattle.std.proofs.lemmas.Option.{slice_get-map, slice_get_cases, slice_get_read, slice_get_within}
use Rattle.values_core.specs.Data.{Val}
use Rattle.reading_trees.specs.declared.config.Config.{Config}
use Rattle.reading_trees.specs.declared.config.Given.{Given}
use Rattle.reading_trees.specs.declared.config.GivenAt.{GivenAt}
use Rattle.reading_trees.specs.declared.module.Declared.{Declared}
use Rattle.reading_trees.specs.declared.module.Program.{Program}
use Rattle.names_program.specs.InUnits.{constants_in}
use Rattle.names_program.specs.Names.{given_for}
use Rattle.names_tables.specs.Values.{AreSpelled, AreValues, HasAllValues, HasNoValue, IsFirstWithoutValue, IsGiven, IsSpelled}
use Rattle.names_tables.proofs.Places.{pushed_at}

spelled_for : (gs : List GivenAt) → AreSpelled gs → (n : List ℕ) → IsSpelled (given_for gs n)
spelled_for [] h n = tt
spelled_for (g ∷ gs) h n = one (bytes_eq g.name n) (spelled_for gs (λ k x e. h (suc k) x e) n)
  where
    one : (b : Bool) → IsSpelled (given_for gs n) → IsSpelled (if b then Some g.given else given_for gs n)
    one true rest = h 0 g refl
    one false rest = rest

pub spelled_there : (gs hs : List GivenAt) (n : List ℕ) (o : Option Given) → AreSpelled gs → hs ≡ gs → o ≡ given_for hs n → IsSpelled o
spelled_there gs hs n o h e q = subst (λ (x : Option Given). IsSpelled x) (sym (q ∙ ap (λ (l : List GivenAt). given_for l n) e)) (spelled_for gs h n)

-- the values of the first constants
abbrev pub GivenSoFar : List GivenAt → List Declared → List Val → Type 0
GivenSoFar gs ds values = (k : ℕ) (d : Declared) (v : Val) → slice_get ds k ≡ Some d → slice_get values k ≡ Some v → IsGiven (given_for gs d.name) v

pub given_none : (gs : List GivenAt) (ds : List Declared) (values : List Val) → values ≡ [] → GivenSoFar gs ds values
given_none gs ds values n k d v at e = absurd (none_at k v (subst (λ (l : List Val). slice_get l k ≡ Some v) n e))
  where
    none_at : (k : ℕ) (v : Val) → slice_get [] k ≡ Some v → ⊥
    none_at k v e = absurd (cc)

pub given_on : (gs hs : List GivenAt) (ds : List Declared) (old new : List Val) (i : ℕ) (x : Declared) (v : Val) (o : Option Given) → hs ≡ gs → slice_get ds i ≡ Some x → length old ≡ i → new ≡ old ++ v ∷ [] → o ≡ given_for hs x.name → IsGiven o v → GivenSoFar gs ds old → GivenSoFar gs ds new
given_on gs hs ds old new i x v o g at many e q is h k d w dk wk = elim (pushed_at old v k w (subst (λ (l : List Val). slice_get l k ≡ Some w) e wk)) [
  | inl a ↦ h k d w dk a
  | inr b ↦
      let here : slice_get ds k ≡ Some x = subst (λ (j : ℕ). slice_get ds j ≡ Some x) (sym many ∙ b.0) at in
      let both : Some x ≡ Some d = sym here ∙ dk in
      let same : x ≡ d = cc in
      let given : IsGiven (given_for gs x.name) v = subst (λ (y : Option Given). IsGiven y v) (q ∙ ap (λ (l : List GivenAt). given_for l x.name) g) is in
      subst (λ (u : Val). IsGiven (given_for gs d.name) u) b.1 (subst (λ (y : Declared). IsGiven (given_for gs y.name) v) same given)
]

pub all_given : (p : Program) (c : Config) (items : List (Bor Declared)) (values : List Val) (i : ℕ) → map (λ (d : Bor Declared). d.now) items ≡ constants_in p.units → i ≤ length items → length items ≤ i → length values ≡ i → GivenSoFar c.givens (constants_in p.units) values → AreValues p c values
all_given p c items values i e most least many h = record {
  as_many = (let same : length items ≡ length (constants_in p.units) = sym (length-map items (λ (d : Bor Declared). d.now)) ∙ ap length e in omega (arith, same, most, least, many));
  given = h;
}

-- The first constant without a value.

below_or_at : (j k : ℕ) → j < k + 1 → (j < k) ⊎ (j ≡ k)
below_or_at j k lt = grind arith

abbrev pub ValuesSoFar : Program → Config → ℕ → Type 0
ValuesSoFar p c i = (k : ℕ) (d : Declared) → k < i → ¬ HasNoValue p c k d

pub valued_on : (p : Program) (c : Config) (i : ℕ) (x : Declared) (hs : List GivenAt) (g : Given) → slice_get (constants_in p.units) i ≡ Some x → hs ≡ c.givens → Some g ≡ given_for hs x.name → ValuesSoFar p c i → ValuesSoFar p c (i + 1)
valued_on p c i x hs g at e q h k d lt w = elim (below_or_at k i lt) [
  | inl less ↦ h k d less w
  | inr same ↦
      let both : Some x ≡ Some d = sym at ∙ subst (λ (j : ℕ). slice_get (constants_in p.units) j ≡ Some d) same w.stands in
      let one : x ≡ d = cc in
      let there : Some g ≡ given_for c.givens d.name = q ∙ ap (λ (l : List GivenAt). given_for l x.name) e ∙ ap (λ (y : Declared). given_for c.givens y.name) one in
      let bad : Some g ≡ None = there ∙ w.nothing in
      absurd (cc)
]

pub first_without : (p : Program) (c : Config) (i : ℕ) (x : Declared) (hs : List GivenAt) → slice_get (constants_in p.units) i ≡ Some x → hs ≡ c.givens → None ≡ given_for hs x.name → ValuesSoFar p c i → IsFirstWithoutValue p c x
first_without p c i x hs at e q h = record {
  index = i;
  is = record { stands = at; nothing = ap (λ (l : List GivenAt). given_for l x.name) (sym e) ∙ sym q };
  none_before = h;
}

pub all_valued : (p : Program) (c : Config) (items : List (Bor Declared)) (i : ℕ) → map (λ (d : Bor Declared). d.now) items ≡ constants_in p.units → length items ≤ i → ValuesSoFar p c i → HasAllValues p c
all_valued p c items i e le h k d w =
    let same : length items ≡ length (constants_in p.units) = sym (length-map items (λ (x : Bor Declared). x.now)) ∙ ap length e in
    let lt : k < length (constants_in p.units) = slice_get_within (constants_in p.units) k d w.stands in
    let less : k < i = omega (arith, same, lt, le) in
    h k d less w

-- What stands at an index.

pub shown_at : (items : List (Bor Declared)) (ds : List Declared) (i : ℕ) (o : Option (Bor Declared)) → map (λ (d : Bor Declared). d.now) items ≡ ds → o ≡ slice_get items i → option_map (λ (d : Bor Declared). d.now) o ≡ slice_get ds i
shown_at items ds i o e q = ap (option_map (λ (d : Bor Declared). d.now)) q ∙ sym (slice_get-map (λ (d : Bor Declared). d.now) items i) ∙ ap (λ (l : List Declared). slice_get l i) e

pub few_there : (o : Option (Bor Declared)) (ds : List Declared) (n : ℕ) → option_map (λ (d : Bor Declared). d.now) o ≡ slice_get ds n → o ≡ None → length ds ≤ n
few_there o ds n e none = elim (slice_get_cases ds n).1 [
  | inl w ↦
      let bad : None ≡ Some w.0 = ap (option_map (λ (d : Bor Declared). d.now)) (sym none) ∙ e ∙ w.2 in
      absurd (cc)
  | inr w ↦ w.0
]

-- What is given is spelled.

pub spelled_on : (gs : List GivenAt) (i : ℕ) (g : GivenAt) (b : Bool) → i < length gs → g ≡ get_or gs i g → (b ≡ true → IsSpelled (Some g.given)) → b ≡ true → ((k : ℕ) (x : GivenAt) → k < i → slice_get gs k ≡ Some x → IsSpelled (Some x.given)) → (k : ℕ) (x : GivenAt) → k < i + 1 → slice_get gs k ≡ Some x → IsSpelled (Some x.given)
spelled_on gs i g b lt at is e h k x less there = elim (below_or_at k i less) [
  | inl before ↦ h k x before there
  | inr same ↦
      let here : slice_get gs i ≡ Some g = slice_get_read gs (length gs) i g refl lt at in
      let both : Some g ≡ Some x = sym here ∙ subst (λ (j : ℕ). slice_get gs j ≡ Some x) same there in
      let one : g ≡ x = cc in
      subst (λ (y : GivenAt). IsSpelled (Some y.given)) one (is e)
]

pub all_spelled : (gs : List GivenAt) (i : ℕ) → length gs ≤ i → ((k : ℕ) (x : GivenAt) → k < i → slice_get gs k ≡ Some x → IsSpelled (Some x.given)) → AreSpelled gs
all_spelled gs i le h k x there =
    let lt : k < length gs = slice_get_within gs k x there in
    let less : k < i = omega (arith, lt, le) in
    h k x less there
