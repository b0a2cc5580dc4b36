-- The kinds of functions.
use Rattle.std.proofs.Common.{◌≡◌, refl, sym, ◌∙◌, ap, subst, ℕ, suc, List, [], ◌∷◌, Bool, true, false, pos, codes}
use Rattle.std.specs.Prelude.{◌&&◌, if◌then◌else◌}
use Rattle.values_core.specs.Data.{Val, model, truth, integer, string, set, function, Pairs, no_pairs, more_pairs, pairs_of, entries}
use Rattle.values_core.specs.Functions.{IsFunction, IsSequence, numbered_from, pairs_in, values_in}
use Rattle.values_core.specs.FunctionLaws.{entries-pairs_of}
use Rattle.values_core.specs.Order.{val_eq}
use Rattle.values_core.specs.OrderLaws.{val_eq_equiv}
use Rattle.values_json.specs.Prints.{are_numbered}
use Rattle.values_json.proofs.ReadBack.{numbered_is}
use Rattle.run_near_lines.specs.Kinds.{keyed_name, kind_name}

heads_are : (p q : Val × Val) (ps qs : List (Val × Val)) → p ∷ ps ≡ q ∷ qs → (p ≡ q) × (ps ≡ qs)
heads_are p q ps qs e = (cc, cc)

both_true : (a b : Bool) → a ≡ true → b ≡ true → (a && b) ≡ true
both_true true b e f = f
both_true false b e f = cc

numbered_true : (n : ℕ) (ps : Pairs) (vs : List Val) → entries ps ≡ numbered_from n vs → are_numbered n ps ≡ true
numbered_true n no_pairs vs e = refl
numbered_true n (more_pairs k v ps) [] e = cc
numbered_true n (more_pairs k v ps) (w ∷ ws) e =
    let here = heads_are (k, v) (integer (pos n), w) (entries ps) (numbered_from (suc n) ws) e in
    let key : k ≡ integer (pos n) = ap (λ (p : Val × Val). p.0) here.0 in
    both_true (val_eq k (integer (pos n))) (are_numbered (suc n) ps) (ap (λ (z : Val). val_eq z (integer (pos n))) key ∙ val_eq_equiv.refl (integer (pos n))) (numbered_true (suc n) ps ws here.1)

pub sequence_name : (v : Val) → IsSequence v → codes "sequence" ≡ kind_name v
sequence_name (model s) h = cc
sequence_name (truth b) h = cc
sequence_name (integer z) h = cc
sequence_name (string s) h = cc
sequence_name (set vs) h = cc
sequence_name (function ps) h = named (are_numbered 1 ps) (numbered_true 1 ps (values_in (function ps)) (ap pairs_in h ∙ entries-pairs_of (numbered_from 1 (values_in (function ps)))))
  where
    named : (b : Bool) → b ≡ true → codes "sequence" ≡ (if b then codes "sequence" else keyed_name (entries ps))
    named true e = refl
    named false e = cc

pub function_name : (v : Val) → IsFunction v → (IsSequence v → ⊥) → keyed_name (pairs_in v) ≡ kind_name v
function_name (model s) f none = absurd f
function_name (truth b) f none = absurd f
function_name (integer z) f none = absurd f
function_name (string s) f none = absurd f
function_name (set vs) f none = absurd f
function_name (function ps) f none = named (are_numbered 1 ps) refl
  where
    named : (b : Bool) → are_numbered 1 ps ≡ b → keyed_name (entries ps) ≡ (if b then codes "sequence" else keyed_name (entries ps))
    named true e = absurd (none (ap function (numbered_is 1 ps e)))
    named false e = refl
