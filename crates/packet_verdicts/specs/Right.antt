-- Under which of the keys that are known to it a protected frame is right.
use Rattle.std.specs.Prelude.{ℕ, ◌-◌, ◌==◌, is_some, Bool, false, if◌then◌else◌, List, Option, Some, None, slice_get}
use Rattle.std.specs.List.{find}
use Rattle.gcm_frames.specs.declared.tag.Tag.{Tag}
use Rattle.gcm_frames.specs.Sealed.{opened}

-- the key with a number: they are numbered from 1
abbrev pub key_numbered : List (List ℕ) → ℕ → Option (List ℕ)
key_numbered keys number = if number == 0 then None else slice_get keys (number - 1)

-- a key, if there is one, opens the frame
abbrev pub is_opened : Tag → List ℕ → Option (List ℕ) → Bool
is_opened tag frame None = false
is_opened tag frame (Some key) = is_some (opened key tag frame)

-- the frame is right under the key with this number
abbrev pub is_right : List (List ℕ) → Tag → List ℕ → ℕ → Bool
is_right keys tag frame number = is_opened tag frame (key_numbered keys number)

-- the first of these numbers under whose key the frame is right
abbrev pub newest_right : List (List ℕ) → Tag → List ℕ → List ℕ → Option ℕ
newest_right keys tag frame candidates = find (is_right keys tag frame) candidates
