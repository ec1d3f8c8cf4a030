-- The memory that a worker has taken for its jobs.
use Rattle.std.specs.Prelude.{◌≡◌, ℕ, ◌+◌, ◌≤◌, List, [], length}
use Rattle.std.specs.Vec.{vec_len, vec_capacity}
use Rattle.std.specs.Global.{Vec}
use Rattle.gcm_frames.specs.Protected.{protection_octets}
use Rattle.lan_base.specs.Ranges.{IsUserData}
use Rattle.data_workers.specs.declared.entry.Entry.{Entry}

-- how many vectors there are, and for how many octets each has room
pub record RoomsAt : Type 0 where
  pub count : ℕ
  pub size : ℕ

-- an empty vector with room for so many octets
abbrev pub IsRoom : ℕ → Vec ℕ → Type 0
IsRoom size room = (room.items ≡ []) × (size ≤ vec_capacity room)

-- there is room for the frame of each job, and for its entry
pub record IsReady (body : List ℕ) (rooms : RoomsAt) (log : Vec Entry) : Type 0 where
  pub user : IsUserData body
  pub frames : length body + protection_octets ≤ rooms.size
  pub entries : vec_len log + rooms.count ≤ vec_capacity log
