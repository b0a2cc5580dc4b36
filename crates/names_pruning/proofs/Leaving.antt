-- What is needed is left, and there is one program that is left.
use Rattle.std.proofs.Common.{◌≡◌, ◌∙◌, ◌⊎◌, inl, inr, ℕ, zero, suc, ◌+◌, ◌<◌, List, [], ◌∷◌, length, refl, ap, sym, subst, arith}
use Rattle.std.specs.Prelude.{Some, Contains, slice_get}
use Rattle.reading_trees.specs.declared.config.Config.{Config}
use Rattle.reading_trees.specs.declared.expr.Definition.{Definition}
use Rattle.reading_trees.specs.declared.module.DeclaredOperator.{DeclaredOperator}
use Rattle.reading_trees.specs.declared.module.Program.{Program}
use Rattle.reading_trees.specs.declared.module.Unit.{Unit as ModuleUnit}
use Rattle.reading_trees.specs.declared.module.Unit.TheVariants.{Variables, Constants, Recursive, Define, Instance, Assume, Passed}
use Rattle.reading_trees.specs.Trees.{Tree}
use Rattle.names_program.specs.InUnits.{assumptions_in, definitions_in}
use Rattle.names_pruning.specs.Laws.{AskedIsBad, FineStays, NeededStays, NothingIsLost, NothingIsMade, OneAlone, OnePruned, OverIsNotNeeded}
use Rattle.names_pruning.specs.Pruning.{DeclaresGone, GoesWith, IsBad, IsNeeded, IsOther, LeansOn, NeedsBad, Parted, Without, all_parted, behind, by_a_definition, by_the_run, declares_gone, declares_lost, has_gone, has_lost, is_gone, is_left, lacks, uses_bad}

in_head : {A : Type 0} (x : A) (xs : List A) → Contains (x ∷ xs) x
in_head x xs = let less : 0 < length (x ∷ xs) = omega arith in (0, less, refl)

in_tail : {A : Type 0} (x y : A) (xs : List A) → Contains xs y → Contains (x ∷ xs) y
in_tail x y xs (k, h, e) = let less : suc k < length (x ∷ xs) = omega (arith, h) in (suc k, less, e)

head_or_tail : {A : Type 0} (x y : A) (xs : List A) → Contains (x ∷ xs) y → (x ≡ y) ⊎ Contains xs y
head_or_tail x y xs (zero, h, e) = inl e
head_or_tail x y xs (suc k, h, e) = let less : k < length xs = omega (arith, h) in inr (k, less, e)

none_in : {A : Type 0} (x : A) → Contains [] x → ⊥
none_in x (k, h, e) = absurd (omega (arith, h))

module _ (Goes : ℕ → ModuleUnit → Type 0) where
  -- a definition that does not go is left
  left_in : (k : ℕ) (units left gone : List ModuleUnit) → Parted Goes k units left gone → (i : ℕ) (d : Definition) → slice_get (definitions_in units) i ≡ Some d
      → (Goes (k + i) (Define d) → ⊥) → Contains (definitions_in left) d
  left_in _ _ _ _ (all_parted k) zero d e stays = absurd (cc)
  left_in _ _ _ _ (all_parted k) (suc i) d e stays = absurd (cc)
  left_in _ _ _ _ (is_left k (Variables ds) units left gone g l) i d e stays = left_in k units left gone l i d e stays
  left_in _ _ _ _ (is_left k (Constants ds) units left gone g l) i d e stays = left_in k units left gone l i d e stays
  left_in _ _ _ _ (is_left k (Assume x) units left gone g l) i d e stays = left_in k units left gone l i d e stays
  left_in _ _ _ _ (is_left k (Recursive rs) units left gone g l) i d e stays = left_in k units left gone l i d e stays
  left_in _ _ _ _ (is_left k (Instance m) units left gone g l) i d e stays = left_in k units left gone l i d e stays
  left_in _ _ _ _ (is_left k Passed units left gone g l) i d e stays = left_in k units left gone l i d e stays
  left_in _ _ _ _ (is_left k (Define x) units left gone g l) zero d e stays =
      let same : x ≡ d = cc in
      subst (λ y. Contains (x ∷ definitions_in left) y) same (in_head x (definitions_in left))
  left_in _ _ _ _ (is_left k (Define x) units left gone g l) (suc i) d e stays =
      let place : k + 1 + i ≡ k + suc i = omega arith in
      in_tail x d (definitions_in left) (left_in (k + 1) units left gone l i d e (λ b. stays (subst (λ n. Goes n (Define d)) place b)))
  left_in _ _ _ _ (is_gone k (Variables ds) units left gone b l) i d e stays = left_in k units left gone l i d e stays
  left_in _ _ _ _ (is_gone k (Constants ds) units left gone b l) i d e stays = left_in k units left gone l i d e stays
  left_in _ _ _ _ (is_gone k (Assume x) units left gone b l) i d e stays = left_in k units left gone l i d e stays
  left_in _ _ _ _ (is_gone k (Recursive rs) units left gone b l) i d e stays = left_in k units left gone l i d e stays
  left_in _ _ _ _ (is_gone k (Instance m) units left gone b l) i d e stays = left_in k units left gone l i d e stays
  left_in _ _ _ _ (is_gone k Passed units left gone b l) i d e stays = left_in k units left gone l i d e stays
  left_in _ _ _ _ (is_gone k (Define x) units left gone b l) zero d e stays =
      let same : x ≡ d = cc in
      let place : k ≡ k + 0 = omega arith in
      absurd (stays (subst (λ n. Goes n (Define d)) place (subst (λ y. Goes k (Define y)) same b)))
  left_in _ _ _ _ (is_gone k (Define x) units left gone b l) (suc i) d e stays =
      let place : k + 1 + i ≡ k + suc i = omega arith in
      left_in (k + 1) units left gone l i d e (λ b. stays (subst (λ n. Goes n (Define d)) place b))

  -- a unit that is left was there
  was_in : (k : ℕ) (units left gone : List ModuleUnit) → Parted Goes k units left gone → (u : ModuleUnit) → Contains left u → Contains units u
  was_in _ _ _ _ (all_parted k) u h = h
  was_in _ _ _ _ (is_left k x units left gone g l) u h = elim (head_or_tail x u left h) [
    | inl e ↦ subst (λ y. Contains (x ∷ units) y) e (in_head x units)
    | inr t ↦ in_tail x u units (was_in (behind k x) units left gone l u t)
  ]
  was_in _ _ _ _ (is_gone k x units left gone b l) u h = in_tail x u units (was_in (behind k x) units left gone l u h)

  -- a definition that goes, of those from the k-th on
  record GoesAt (k : ℕ) (units : List ModuleUnit) (d : Definition) : Type 0 where
    pub index : ℕ
    pub stands : slice_get (definitions_in units) index ≡ Some d
    pub goes : Goes (k + index) (Define d)

  goes_behind : (k : ℕ) (x : Definition) (units : List ModuleUnit) (d : Definition) → GoesAt (k + 1) units d → GoesAt k (Define x ∷ units) d
  goes_behind k x units d h =
      let place : k + 1 + h.index ≡ k + suc h.index = omega arith in
      record { index = suc h.index; stands = h.stands; goes = subst (λ n. Goes n (Define d)) place h.goes }

  goes_here : (k : ℕ) (x : Definition) (units : List ModuleUnit) → Goes k (Define x) → GoesAt k (Define x ∷ units) x
  goes_here k x units g =
      let place : k ≡ k + 0 = omega arith in
      record { index = 0; stands = refl; goes = subst (λ n. Goes n (Define x)) place g }

  goes_after : (k : ℕ) (u : ModuleUnit) (units : List ModuleUnit) (d : Definition) → definitions_in (u ∷ units) ≡ definitions_in units → GoesAt k units d → GoesAt k (u ∷ units) d
  goes_after k u units d e h = record { index = h.index; stands = ap (λ ds. slice_get ds h.index) e ∙ h.stands; goes = h.goes }

  -- a definition among those that go
  gone_at : (k : ℕ) (units left gone : List ModuleUnit) → Parted Goes k units left gone → (d : Definition) → Contains (definitions_in gone) d → GoesAt k units d
  gone_at _ _ _ _ (all_parted k) d h = absurd (none_in d h)
  gone_at _ _ _ _ (is_left k (Variables ds) units left gone g l) d h = goes_after k (Variables ds) units d refl (gone_at k units left gone l d h)
  gone_at _ _ _ _ (is_left k (Constants ds) units left gone g l) d h = goes_after k (Constants ds) units d refl (gone_at k units left gone l d h)
  gone_at _ _ _ _ (is_left k (Assume x) units left gone g l) d h = goes_after k (Assume x) units d refl (gone_at k units left gone l d h)
  gone_at _ _ _ _ (is_left k (Recursive rs) units left gone g l) d h = goes_after k (Recursive rs) units d refl (gone_at k units left gone l d h)
  gone_at _ _ _ _ (is_left k (Instance m) units left gone g l) d h = goes_after k (Instance m) units d refl (gone_at k units left gone l d h)
  gone_at _ _ _ _ (is_left k Passed units left gone g l) d h = goes_after k Passed units d refl (gone_at k units left gone l d h)
  gone_at _ _ _ _ (is_left k (Define x) units left gone g l) d h = goes_behind k x units d (gone_at (k + 1) units left gone l d h)
  gone_at _ _ _ _ (is_gone k (Variables ds) units left gone b l) d h = goes_after k (Variables ds) units d refl (gone_at k units left gone l d h)
  gone_at _ _ _ _ (is_gone k (Constants ds) units left gone b l) d h = goes_after k (Constants ds) units d refl (gone_at k units left gone l d h)
  gone_at _ _ _ _ (is_gone k (Assume x) units left gone b l) d h = goes_after k (Assume x) units d refl (gone_at k units left gone l d h)
  gone_at _ _ _ _ (is_gone k (Recursive rs) units left gone b l) d h = goes_after k (Recursive rs) units d refl (gone_at k units left gone l d h)
  gone_at _ _ _ _ (is_gone k (Instance m) units left gone b l) d h = goes_after k (Instance m) units d refl (gone_at k units left gone l d h)
  gone_at _ _ _ _ (is_gone k Passed units left gone b l) d h = goes_after k Passed units d refl (gone_at k units left gone l d h)
  gone_at _ _ _ _ (is_gone k (Define x) units left gone b l) d h = elim (head_or_tail x d (definitions_in gone) h) [
    | inl e ↦ subst (λ y. GoesAt k (Define x ∷ units) y) e (goes_here k x units b)
    | inr t ↦ goes_behind k x units d (gone_at (k + 1) units left gone l d t)
  ]

  -- units are parted in one way
  one_parting : (k : ℕ) (units left gone : List ModuleUnit) → Parted Goes k units left gone → (rest others : List ModuleUnit) → Parted Goes k units rest others
      → (left ≡ rest) × (gone ≡ others)
  one_parting _ _ _ _ (all_parted k) _ _ (all_parted _) = (refl, refl)
  one_parting _ _ _ _ (is_left k u units left gone g l) _ _ (is_left _ _ _ rest others h m) =
      let same = one_parting (behind k u) units left gone l rest others m in
      (ap (λ (us : List ModuleUnit). u ∷ us) same.0, same.1)
  one_parting _ _ _ _ (is_left k u units left gone g l) _ _ (is_gone _ _ _ rest others b m) = absurd (g b)
  one_parting _ _ _ _ (is_gone k u units left gone b l) _ _ (is_left _ _ _ rest others g m) = absurd (g b)
  one_parting _ _ _ _ (is_gone k u units left gone b l) _ _ (is_gone _ _ _ rest others h m) =
      let same = one_parting (behind k u) units left gone l rest others m in
      (same.0, ap (λ (us : List ModuleUnit). u ∷ us) same.1)

  -- where nothing goes all is left
  all_left : (k : ℕ) (units left gone : List ModuleUnit) → ((i : ℕ) (u : ModuleUnit) → Contains units u → Goes i u → ⊥) → Parted Goes k units left gone → (left ≡ units) × (gone ≡ [])
  all_left _ _ _ _ none (all_parted k) = (refl, refl)
  all_left _ _ _ _ none (is_left k u units left gone g l) =
      let same = all_left (behind k u) units left gone (λ i v h. none i v (in_tail u v units h)) l in
      (ap (λ (us : List ModuleUnit). u ∷ us) same.0, same.1)
  all_left _ _ _ _ none (is_gone k u units left gone b l) = absurd (none k u (in_head u units) b)

assumed_in : (units : List ModuleUnit) (e : Tree) → Contains units (Assume e) → Contains (assumptions_in units) e
assumed_in [] e h = absurd (none_in (Assume e) h)
assumed_in (Variables ds ∷ units) e h = elim (head_or_tail (Variables ds) (Assume e) units h) [ inl q ↦ absurd (cc) | inr t ↦ assumed_in units e t ]
assumed_in (Constants ds ∷ units) e h = elim (head_or_tail (Constants ds) (Assume e) units h) [ inl q ↦ absurd (cc) | inr t ↦ assumed_in units e t ]
assumed_in (Define d ∷ units) e h = elim (head_or_tail (Define d) (Assume e) units h) [ inl q ↦ absurd (cc) | inr t ↦ assumed_in units e t ]
assumed_in (Assume x ∷ units) e h = elim (head_or_tail (Assume x) (Assume e) units h) [
  | inl q ↦ let same : x ≡ e = cc in subst (λ y. Contains (x ∷ assumptions_in units) y) same (in_head x (assumptions_in units))
  | inr t ↦ in_tail x e (assumptions_in units) (assumed_in units e t)
]
assumed_in (Recursive rs ∷ units) e h = elim (head_or_tail (Recursive rs) (Assume e) units h) [ inl q ↦ absurd (cc) | inr t ↦ assumed_in units e t ]
assumed_in (Instance m ∷ units) e h = elim (head_or_tail (Instance m) (Assume e) units h) [ inl q ↦ absurd (cc) | inr t ↦ assumed_in units e t ]
assumed_in (Passed ∷ units) e h = elim (head_or_tail Passed (Assume e) units h) [ inl q ↦ absurd (cc) | inr t ↦ assumed_in units e t ]

module _ (p : Program) (c : Config) (unread : List (List ℕ)) (none : NothingIsLost p c unread) where
  none_bad : (i : ℕ) → IsBad p c unread i → ⊥
  none_bad _ (lacks i d e h) = none.0 i d e h
  none_bad _ (uses_bad i j u b) = none_bad j b

  none_assumed : (e : Tree) → Contains (assumptions_in p.units) e → LeansOn p c unread (IsBad p c unread) e → ⊥
  none_assumed e h (has_lost n m l) = none.1 e n h m l
  none_assumed e h (has_gone n i m d b) = none_bad i b

  none_declared : (rs : List DeclaredOperator) → Contains p.units (Recursive rs) → DeclaresGone p c unread (IsBad p c unread) rs → ⊥
  none_declared rs h (declares_lost r m l) = none.2 rs r h m l
  none_declared rs h (declares_gone r i m d b) = none_bad i b

  none_goes : (i : ℕ) (u : ModuleUnit) → Contains p.units u → GoesWith p c unread (IsBad p c unread) i u → ⊥
  none_goes i (Variables ds) h b = b
  none_goes i (Constants ds) h b = b
  none_goes i (Define d) h b = none_bad i b
  none_goes i (Assume e) h b = none_assumed e (assumed_in p.units e h) b
  none_goes i (Recursive rs) h b = none_declared rs h b
  none_goes i (Instance m) h b = b
  none_goes i Passed h b = b

-- programs that have the same parts
same_program : (p q : Program) → p.files ≡ q.files → p.units ≡ q.units → p.standard ≡ q.standard → p ≡ q
same_program p q f u s =
    ap (λ (x : List (List ℕ)). record { files = x; units = p.units; standard = p.standard }) f
    ∙ ap (λ (x : List ModuleUnit). record { files = q.files; units = x; standard = p.standard }) u
    ∙ ap (λ (x : List (List ℕ)). record { files = q.files; units = q.units; standard = x }) s

-- ---- a program without some definitions

module _ (p : Program) (c : Config) (unread roots : List (List ℕ)) (Goes : ℕ → Type 0) (q : Program) (over : List ModuleUnit) (left : Without p c unread Goes q over) where
  made_by : (u : ModuleUnit) → Contains q.units u → Contains p.units u
  made_by u h = was_in (GoesWith p c unread Goes) 0 p.units q.units over left.parted u h

  one_without : (r : Program) (others : List ModuleUnit) → Without p c unread Goes r others → (q ≡ r) × (over ≡ others)
  one_without r others b =
      let same = one_parting (GoesWith p c unread Goes) 0 p.units q.units over left.parted r.units others b.parted in
      (same_program q r (left.files ∙ sym b.files) same.0 (left.standard ∙ sym b.standard), same.1)

  module _ (keeps : (i : ℕ) → IsNeeded p c roots i → Goes i → ⊥) where
    needed_left : (i : ℕ) (d : Definition) → IsNeeded p c roots i → slice_get (definitions_in p.units) i ≡ Some d → Contains (definitions_in q.units) d
    needed_left i d needed e =
        left_in (GoesWith p c unread Goes) 0 p.units q.units over left.parted i d e (λ g. let place : 0 + i ≡ i = omega arith in keeps i needed (subst (λ n. Goes n) place g))

    not_needed : (d : Definition) → Contains (definitions_in over) d → (i : ℕ) × (slice_get (definitions_in p.units) i ≡ Some d) × ¬ IsNeeded p c roots i
    not_needed d h =
        let r = gone_at (GoesWith p c unread Goes) 0 p.units q.units over left.parted d h in
        let place : 0 + r.index ≡ r.index = omega arith in
        (r.index, r.stands, λ needed. keeps r.index needed (subst (λ n. Goes n) place r.goes))

-- nothing needed goes
pub good_keeps : (p : Program) (c : Config) (unread roots : List (List ℕ)) → (NeedsBad p c unread roots → ⊥) → (i : ℕ) → IsNeeded p c roots i → IsBad p c unread i → ⊥
good_keeps p c unread roots good i n b = good (inr (i, n, b))

pub alone_keeps : (p : Program) (c : Config) (roots : List (List ℕ)) (i : ℕ) → IsNeeded p c roots i → IsOther p c roots i → ⊥
alone_keeps p c roots i n o = o.1 n

-- ---- the laws

pub needed_stays : NeededStays
needed_stays p c unread roots q over (inl a) i d needed e = needed_left p c unread roots (IsBad p c unread) q over a.without (good_keeps p c unread roots a.good) i d needed e
needed_stays p c unread roots q over (inr a) i d needed e = needed_left p c unread roots (IsOther p c roots) q over a (alone_keeps p c roots) i d needed e

pub nothing_is_made : NothingIsMade
nothing_is_made p c unread roots q over (inl a) u h = made_by p c unread roots (IsBad p c unread) q over a.without u h
nothing_is_made p c unread roots q over (inr a) u h = made_by p c unread roots (IsOther p c roots) q over a u h

pub over_is_not_needed : OverIsNotNeeded
over_is_not_needed p c unread roots q over (inl a) d h = not_needed p c unread roots (IsBad p c unread) q over a.without (good_keeps p c unread roots a.good) d h
over_is_not_needed p c unread roots q over (inr a) d h = not_needed p c unread roots (IsOther p c roots) q over a (alone_keeps p c roots) d h

pub one_pruned : OnePruned
one_pruned p c unread roots q r over others a b = one_without p c unread roots (IsBad p c unread) q over a.without r others b.without

pub one_alone : OneAlone
one_alone p c unread roots q r over others a b = one_without p c unread roots (IsOther p c roots) q over a r others b

pub fine_stays : FineStays
fine_stays p c unread roots q over none a =
    let same = all_left (GoesWith p c unread (IsBad p c unread)) 0 p.units q.units over (none_goes p c unread none) a.without.parted in
    (same_program q p a.without.files same.0 a.without.standard, same.1)

pub asked_is_bad : AskedIsBad
asked_is_bad p c unread roots n h (by_the_run r) = inl (n, r, h)
asked_is_bad p c unread roots n h (by_a_definition i d needed e m f) =
    inr (i, needed, lacks i d e (inr (record { name = n; mentioned = m; no_parameter = f; lost = inl h })))
