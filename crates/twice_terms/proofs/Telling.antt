-- All that is told of alike terms.
use Rattle.std.proofs.Common.{◌≡◌}
use Rattle.values_core.specs.Data.{Val}
use Rattle.names_term_parts.specs.declared.fault.LevelFault.{LevelFault}
use Rattle.names_term_levels.specs.Faults.{IsFault, IsFirst, IsAssumptionFault}
use Rattle.twice_terms.specs.Alike.{Alike}
use Rattle.twice_terms.specs.Laws.{AlikeTellSame, AlikeHaveSameParts, FirstFaultIsOne}
use Rattle.twice_terms.proofs.FirstOne.{first_is_one}
use Rattle.twice_terms.proofs.Turned.{turned, term_turned}
use Rattle.twice_terms.proofs.Inverted.{same_place, same_level}
use Rattle.twice_terms.proofs.Zipped.{parts_zip}
use Rattle.twice_terms.proofs.Limited.{limits_same}
use Rattle.twice_terms.proofs.Told.{occurs, primed, fault, assumption_fault}
use Rattle.twice_terms.proofs.Fair.{fair}
use Rattle.twice_terms.proofs.Given.{gives}
use Rattle.twice_terms.proofs.Shapes.{shaped, shapes}

-- the first of two that are the same
first_on : (P Q : LevelFault → Type 0) (x y : LevelFault) → ((g : LevelFault) → P g → Q g) → ((g : LevelFault) → Q g → P g) → IsFirst P x → IsFirst Q y → x ≡ y
first_on P Q x y there back a b =
    let c : IsFirst P y = record { is_such = back y b.is_such; none_before = λ g h. b.none_before g (there g h) } in
    first_is_one P x y a c

pub tell_same : (Same : Val → Val → Type 0) → AlikeTellSame Same
tell_same Same ops all e f a =
    let b : Alike (turned Same) all ops f e = term_turned Same ops all e f a in
    let faults : (x : LevelFault) → IsFault ops e x → IsFault all f x = λ x h. fault Same ops all e x h f a in
    let faults_back : (x : LevelFault) → IsFault all f x → IsFault ops e x = λ x h. fault (turned Same) all ops f x h e b in
    let wrong : (x : LevelFault) → IsAssumptionFault ops e x → IsAssumptionFault all f x = λ x h. assumption_fault Same ops all e x h f a in
    let wrong_back : (x : LevelFault) → IsAssumptionFault all f x → IsAssumptionFault ops e x = λ x h. assumption_fault (turned Same) all ops f x h e b in
    record {
      places = same_place Same ops all e f a;
      levels = same_level Same ops all e f a;
      occurs = λ i h. occurs Same ops all e i h f a;
      occurs_back = λ i h. occurs (turned Same) all ops f i h e b;
      primed = λ i h. primed Same ops all e i h f a;
      primed_back = λ i h. primed (turned Same) all ops f i h e b;
      fault = faults;
      fault_back = faults_back;
      assumption_fault = wrong;
      assumption_fault_back = wrong_back;
      first_fault = λ x y h k. first_on (IsFault ops e) (IsFault all f) x y faults faults_back h k;
      first_assumption_fault = λ x y h k. first_on (IsAssumptionFault ops e) (IsAssumptionFault all f) x y wrong wrong_back h k;
      fair = λ h. fair Same ops all e h f a;
      fair_back = λ h. fair (turned Same) all ops f h e b;
      gives = λ p h. gives Same ops all e p h f a;
      shape = λ init next h. shaped Same ops all e init next h f a;
      shapes = λ init next first other h k. shapes Same ops all e init next f first other a h k;
    }

pub have_same_parts : (Same : Val → Val → Type 0) → AlikeHaveSameParts Same
have_same_parts Same ops all m n a = record {
  one_by_one = λ b. parts_zip Same ops all b m n a;
  limited = λ at. limits_same Same ops all at m n a;
}

pub one_first_fault : FirstFaultIsOne
one_first_fault ops e x y a b = first_is_one (IsFault ops e) x y a b
