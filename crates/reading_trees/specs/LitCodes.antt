-- Values of a configuration as data from which they are told apart.
use Rattle.std.specs.Prelude.{◌≡◌, ℕ, zero, suc, pos, negsuc, List, [], ◌∷◌, Bool, true, false, refl}
use Rattle.std.specs.Coded.{Coded, code_by, coded_list}
use Rattle.std.proofs.Common.{ap}
use base.Stored.{Gv, gnil, gnum, gcons}
use denote.Struct.Codes.{itself}
use Rattle.reading_trees.specs.Lits.{Lit, Lits, number, str, truth, model, set, no_lits, more_lits}

abbrev pub text_stored : List ℕ → Gv
text_stored [] = gnil
text_stored (b ∷ bs) = gcons (gnum b) (text_stored bs)

abbrev pub text_from : Gv → List ℕ
text_from (gcons (gnum b) g) = b ∷ text_from g
text_from _ = []

pub text_back : (s : List ℕ) → text_from (text_stored s) ≡ s
text_back [] = refl
text_back (b ∷ bs) = ap (λ t. b ∷ t) (text_back bs)

abbrev pub bit : Bool → ℕ
bit false = 0
bit true = 1

abbrev pub is_one : ℕ → Bool
is_one zero = false
is_one (suc n) = true

abbrev pub number_of : Gv → ℕ
number_of (gnum n) = n
number_of _ = 0

abbrev mutual
  pub stored : Lit → Gv
  stored (number (pos n)) = gcons (gnum 0) (gnum n)
  stored (number (negsuc n)) = gcons (gnum 1) (gnum n)
  stored (str s) = gcons (gnum 2) (text_stored s)
  stored (truth b) = gcons (gnum 3) (gnum (bit b))
  stored (model s) = gcons (gnum 4) (text_stored s)
  stored (set ls) = gcons (gnum 5) (all_stored ls)

  pub all_stored : Lits → Gv
  all_stored no_lits = gnil
  all_stored (more_lits l ls) = gcons (stored l) (all_stored ls)

abbrev mutual
  pub from : Gv → Lit
  from (gcons (gnum zero) g) = number (pos (number_of g))
  from (gcons (gnum (suc zero)) g) = number (negsuc (number_of g))
  from (gcons (gnum (suc (suc zero))) g) = str (text_from g)
  from (gcons (gnum (suc (suc (suc zero)))) g) = truth (is_one (number_of g))
  from (gcons (gnum (suc (suc (suc (suc zero))))) g) = model (text_from g)
  from (gcons (gnum (suc (suc (suc (suc (suc k)))))) g) = set (all_from g)
  from _ = truth false

  pub all_from : Gv → Lits
  all_from (gcons a g) = more_lits (from a) (all_from g)
  all_from _ = no_lits

pub bit_back : (b : Bool) → is_one (bit b) ≡ b
bit_back true = refl
bit_back false = refl

mutual
  pub back : (l : Lit) → from (stored l) ≡ l
  back (number (pos n)) = refl
  back (number (negsuc n)) = refl
  back (str s) = ap str (text_back s)
  back (truth b) = ap truth (bit_back b)
  back (model s) = ap model (text_back s)
  back (set ls) = ap set (all_back ls)

  pub all_back : (ls : Lits) → all_from (all_stored ls) ≡ ls
  all_back no_lits = refl
  all_back (more_lits l ls) = λ i. more_lits (back l i) (all_back ls i)

abbrev pub lit_code : Coded Lit
lit_code = code_by Gv itself stored from back

abbrev pub lits_code : Coded (List Lit)
lits_code = coded_list lit_code
