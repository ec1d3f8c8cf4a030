-- How next packet numbers are kept in tables.
use Rattle.std.specs.Prelude.{◌==◌, ℕ, if◌then◌else◌, max, List, get_or}

-- a table in which the number under an epoch is this one at least
abbrev pub raised_at : List ℕ → ℕ → ℕ → ℕ → ℕ
raised_at table epoch least e =
    if epoch == e then max least (get_or table e 1) else get_or table e 1
