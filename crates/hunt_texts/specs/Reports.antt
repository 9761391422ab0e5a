-- What is reported of runs that break a claim.
use Rattle.std.specs.Prelude.{ℕ, List, ◌++◌, codes, decimal}

abbrev pub found_report : (number : ℕ) → List ℕ
found_report number = codes "rtr: run " ++ decimal number ++ codes " breaks it\n"

abbrev pub broken_report : (broken runs : ℕ) → List ℕ
broken_report broken runs =
    codes "rtr: " ++ decimal broken ++ codes " of " ++ decimal runs ++ codes " runs break it\n"

-- of a run that is given to be made small
abbrev pub whole_report : List ℕ
whole_report = codes "rtr: the run doesn't break it\n"
