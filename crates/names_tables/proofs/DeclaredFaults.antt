-- What RECURSIVE declares, one operator behind the other.
use Rattle.std.proofs.Common.{◌≡◌, ◌∙◌, sym, ap, List, length, ◌<◌, ◌≤◌, ◌+◌}
use Rattle.std.specs.Prelude.{ℕ, Option, Some, None, drop, get_or}
use Rattle.reading_trees.specs.declared.expr.Definition.{Definition}
use Rattle.reading_trees.specs.declared.module.DeclaredOperator.{DeclaredOperator}
use Rattle.names_scopes.proofs.LevelLoops.{cut_at, cut_end}
use Rattle.names_meanings.specs.declared.fault.NameFault.{NameFault}
use Rattle.names_meanings.specs.Complaints.{or_else}
use Rattle.names_program.specs.Names.{index_among, names_defined}
use Rattle.names_tables.specs.NameFaults.{declared_complaint, declared_complaints}

abbrev pub complaint_of : List Definition → DeclaredOperator → Option NameFault
complaint_of ds r = declared_complaint ds r (index_among (names_defined ds) r.name)

pub declared_on : (ds : List Definition) (items : List DeclaredOperator) (i : ℕ) (x : DeclaredOperator) (target found : Option NameFault) → i < length items → x ≡ get_or items i x → declared_complaints ds (drop i items) ≡ target → found ≡ complaint_of ds x → found ≡ None → declared_complaints ds (drop (i + 1) items) ≡ target
declared_on ds items i x target found lt e h q n =
    sym (ap (λ (o : Option NameFault). or_else o (declared_complaints ds (drop (i + 1) items))) (sym q ∙ n)) ∙ sym (ap (declared_complaints ds) (cut_at items i x lt e)) ∙ h

pub declared_found : (ds : List Definition) (items : List DeclaredOperator) (i : ℕ) (x : DeclaredOperator) (target found : Option NameFault) (f : NameFault) → i < length items → x ≡ get_or items i x → declared_complaints ds (drop i items) ≡ target → found ≡ complaint_of ds x → found ≡ Some f → Some f ≡ target
declared_found ds items i x target found f lt e h q s =
    sym (ap (λ (o : Option NameFault). or_else o (declared_complaints ds (drop (i + 1) items))) (sym q ∙ s)) ∙ sym (ap (declared_complaints ds) (cut_at items i x lt e)) ∙ h

pub declared_end : (ds : List Definition) (items : List DeclaredOperator) (i : ℕ) (target : Option NameFault) → length items ≤ i → declared_complaints ds (drop i items) ≡ target → None ≡ target
declared_end ds items i target le h = sym (ap (declared_complaints ds) (cut_end items i le)) ∙ h
