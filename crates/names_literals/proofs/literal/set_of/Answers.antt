use Rattle.names_literals.proofs.literal.set_of.Goals as goal

pub returns-in-Err-TooLarge : goal.returns-in-Err-TooLarge
returns-in-Err-TooLarge c = let why = rw c.in-Err-TooLarge.field-0-is at c.in-Err-TooLarge.ensures in λ v m. (c.laws.ensures.set_answers c.args.values.items).not_large v m why

pub returns-in-Err-TooDeep : goal.returns-in-Err-TooDeep
returns-in-Err-TooDeep c = let why = rw c.in-Err-TooDeep.field-0-is at c.in-Err-TooDeep.ensures in λ v m. (c.laws.ensures.set_answers c.args.values.items).not_deep v m why
