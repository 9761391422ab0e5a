use Rattle.command_line.proofs.told.put_why.Goals as goal

pub returns-in-FlagWithValue : goal.returns-in-FlagWithValue
returns-in-FlagWithValue c = rw (c.in-FlagWithValue.is) c.put_named-in-FlagWithValue.ensures

pub returns-in-NoNumber : goal.returns-in-NoNumber
returns-in-NoNumber c = rw (c.in-NoNumber.is) c.put_named-in-NoNumber.ensures

pub returns-in-Lacks : goal.returns-in-Lacks
returns-in-Lacks c = rw (c.in-Lacks.is) c.put_named-in-Lacks.ensures
