-- What is said of each part of a term in two ways, said in one.
use Rattle.names_terms.specs.Terms as term
use Rattle.names_terms.specs.Terms.{Term, Meaning, Terms, Operands, Step, Steps, Bounds, Fields, Changes, Arms, Placed}
use Rattle.eval_meanings.specs.Everywhere.{Everywhere, InParts, InTerms, InOperands, InStep, InSteps, InBounds, InFields, InChanges, InArms}

module _ (P Q R : Meaning → Type 0) (both : (m : Meaning) → P m → Q m → R m) where
  mutual
    pub joined : (e : Term) → Everywhere P e → Everywhere Q e → Everywhere R e
    joined (Placed at l m) p q = (both m p.0 q.0, joined_parts m p.1 q.1)

    joined_parts : (m : Meaning) → InParts P m → InParts Q m → InParts R m
    joined_parts (term.Known v) p q = tt
    joined_parts (term.Named n) p q = tt
    joined_parts (term.Variable x) p q = tt
    joined_parts (term.Slot i) p q = tt
    joined_parts (term.Use k ts) p q = joined_terms ts p q
    joined_parts (term.Standard o ts) p q = joined_terms ts p q
    joined_parts (term.Parenthesized e) p q = joined e p q
    joined_parts (term.Scoped ks e) p q = joined e p q
    joined_parts (term.All ts) p q = joined_terms ts p q
    joined_parts (term.Any ts) p q = joined_terms ts p q
    joined_parts (term.Prefix o e) p q = joined e p q
    joined_parts (term.Infix o os e) p q = (joined_operands os p.0 q.0, joined e p.1 q.1)
    joined_parts (term.Postfix e ss s) p q = (joined e p.0 q.0, joined_steps ss p.1 q.1, joined_step s p.2 q.2)
    joined_parts (term.SetOf ts) p q = joined_terms ts p q
    joined_parts (term.Filter a e) p q = (joined a p.0 q.0, joined e p.1 q.1)
    joined_parts (term.Map e bs) p q = (joined e p.0 q.0, joined_bounds bs p.1 q.1)
    joined_parts (term.Tuple ts) p q = joined_terms ts p q
    joined_parts (term.Function bs e) p q = (joined_bounds bs p.0 q.0, joined e p.1 q.1)
    joined_parts (term.FunctionSet a b) p q = (joined a p.0 q.0, joined b p.1 q.1)
    joined_parts (term.Record fs) p q = joined_fields fs p q
    joined_parts (term.RecordSet fs) p q = joined_fields fs p q
    joined_parts (term.Except e cs) p q = (joined e p.0 q.0, joined_changes cs p.1 q.1)
    joined_parts (term.Quantified o bs e) p q = (joined_bounds bs p.0 q.0, joined e p.1 q.1)
    joined_parts (term.Choose a e) p q = (joined a p.0 q.0, joined e p.1 q.1)
    joined_parts (term.If t a b) p q = (joined t p.0 q.0, joined a p.1 q.1, joined b p.2 q.2)
    joined_parts (term.Case arms) p q = joined_arms arms p q
    joined_parts (term.CaseOther arms e) p q = (joined_arms arms p.0 q.0, joined e p.1 q.1)
    joined_parts (term.BoxAction a v) p q = (joined a p.0 q.0, joined v p.1 q.1)
    joined_parts (term.AngleAction a v) p q = (joined a p.0 q.0, joined v p.1 q.1)
    joined_parts (term.Fairness v a) p q = (joined v p.0 q.0, joined a p.1 q.1)

    joined_terms : (ts : Terms) → InTerms P ts → InTerms Q ts → InTerms R ts
    joined_terms term.NoTerms p q = tt
    joined_terms (term.MoreTerms ts e) p q = (joined_terms ts p.0 q.0, joined e p.1 q.1)

    joined_operands : (os : Operands) → InOperands P os → InOperands Q os → InOperands R os
    joined_operands (term.First e) p q = joined e p q
    joined_operands (term.Next os at e) p q = (joined_operands os p.0 q.0, joined e p.1 q.1)

    joined_step : (s : Step) → InStep P s → InStep Q s → InStep R s
    joined_step term.Prime p q = tt
    joined_step (term.Index ts) p q = joined_terms ts p q
    joined_step (term.Field h) p q = tt

    joined_steps : (ss : Steps) → InSteps P ss → InSteps Q ss → InSteps R ss
    joined_steps term.NoSteps p q = tt
    joined_steps (term.MoreSteps ss at s) p q = (joined_steps ss p.0 q.0, joined_step s p.1 q.1)

    joined_bounds : (bs : Bounds) → InBounds P bs → InBounds Q bs → InBounds R bs
    joined_bounds term.NoBounds p q = tt
    joined_bounds (term.MoreBounds bs n e) p q = (joined_bounds bs p.0 q.0, joined e p.1 q.1)

    joined_fields : (fs : Fields) → InFields P fs → InFields Q fs → InFields R fs
    joined_fields term.NoFields p q = tt
    joined_fields (term.MoreFields fs h e) p q = (joined_fields fs p.0 q.0, joined e p.1 q.1)

    joined_changes : (cs : Changes) → InChanges P cs → InChanges Q cs → InChanges R cs
    joined_changes term.NoChanges p q = tt
    joined_changes (term.MoreChanges cs path e) p q = (joined_changes cs p.0 q.0, joined_steps path p.1 q.1, joined e p.2 q.2)

    joined_arms : (arms : Arms) → InArms P arms → InArms Q arms → InArms R arms
    joined_arms term.NoArms p q = tt
    joined_arms (term.MoreArms arms t e) p q = (joined_arms arms p.0 q.0, joined t p.1 q.1, joined e p.2 q.2)
