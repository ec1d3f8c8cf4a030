-- The different SAKs in an order, and their numbers.
use Rattle.std.specs.Prelude.{ℕ, zero, suc, Bool, if◌then◌else◌, List, [], ◌∷◌, ◌++◌, Option, Some, None}
use Rattle.aes_block.specs.declared.secret.Secret.{Secret}
use Rattle.aes_block.specs.Secrets.{same_secret}

-- at most so many keys become known
abbrev pub most_keys : ℕ
most_keys = 4096

-- the number of a SAK in a list, whose first one has this number
abbrev pub number_from : ℕ → List Secret → Secret → Option ℕ
number_from n [] sak = None
number_from n (key ∷ keys) sak = if same_secret key sak then Some n else number_from (suc n) keys sak

-- the number of a SAK among keys, from 1
abbrev pub number_in : List Secret → Secret → Option ℕ
number_in keys sak = number_from 1 keys sak

-- the keys when this SAK, if any, is one of them: one that was none stands last
abbrev pub with_number : List Secret → Secret → Option ℕ → List Secret
with_number keys sak None = keys ++ sak ∷ []
with_number keys sak (Some number) = keys

abbrev pub with_key : List Secret → Option Secret → List Secret
with_key keys None = keys
with_key keys (Some sak) = with_number keys sak (number_in keys sak)

-- those of the numbers 1 to n that pass, the greatest first
abbrev pub greatest_first : (ℕ → Bool) → ℕ → List ℕ
greatest_first passes zero = []
greatest_first passes (suc n) =
    if passes (suc n) then suc n ∷ greatest_first passes n else greatest_first passes n
