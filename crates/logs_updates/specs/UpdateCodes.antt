-- For the prover: updates and what is seen, told apart as data of numbers.
use Rattle.std.specs.Prelude.{◌≡◌, ℕ, zero, suc, List, refl}
use Rattle.std.specs.Coded.{Coded, code_by, coded×, coded_ℕ, coded_list}
use Rattle.values_core.specs.Data.{Val}
use Rattle.values_core.specs.Tree.{val_code}
use Rattle.logs_updates.specs.Paths.{KeyPath}
use Rattle.logs_updates.specs.PathCodes.{path_code}
use Rattle.logs_updates.specs.declared.update.Op.{Op}
use Rattle.logs_updates.specs.declared.update.Op.TheVariants.{Set, Put, Drop, Add, Remove, Append}
use Rattle.logs_updates.specs.declared.update.See.{See}
use Rattle.logs_updates.specs.declared.update.Update.{Update}

-- an operation as a number with its values
abbrev op_to : Op → ℕ × (Val × Val)
op_to (Set w) = (0, (w, w))
op_to (Put k w) = (1, (k, w))
op_to (Drop k) = (2, (k, k))
op_to (Add w) = (3, (w, w))
op_to (Remove w) = (4, (w, w))
op_to (Append w) = (5, (w, w))

abbrev op_of : ℕ → Val → Val → Op
op_of zero a b = Set a
op_of (suc zero) a b = Put a b
op_of (suc (suc zero)) a b = Drop a
op_of (suc (suc (suc zero))) a b = Add a
op_of (suc (suc (suc (suc zero)))) a b = Remove a
op_of (suc (suc (suc (suc (suc n))))) a b = Append a

abbrev op_from-to : (op : Op) → op_of (op_to op).0 (op_to op).1.0 (op_to op).1.1 ≡ op
op_from-to (Set w) = refl
op_from-to (Put k w) = refl
op_from-to (Drop k) = refl
op_from-to (Add w) = refl
op_from-to (Remove w) = refl
op_from-to (Append w) = refl

abbrev op_code : Coded Op
op_code = code_by (ℕ × (Val × Val)) (coded× coded_ℕ (coded× val_code val_code)) op_to (λ c. op_of c.0 c.1.0 c.1.1) op_from-to

abbrev update_code : Coded Update
update_code = code_by (KeyPath × Op) (coded× path_code op_code) (λ u. (u.path, u.op)) (λ c. record { path = c.0; op = c.1 }) (λ _. refl)

abbrev see_code : Coded See
see_code = code_by (KeyPath × Val) (coded× path_code val_code) (λ s. (s.path, s.value)) (λ c. record { path = c.0; value = c.1 }) (λ _. refl)

abbrev pub updates_code : Coded (List Update)
updates_code = coded_list update_code

abbrev pub sees_code : Coded (List See)
sees_code = coded_list see_code
