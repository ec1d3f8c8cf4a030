-- Ranges that several crates speak of: how long a CKN is (IEEE Std 802.1X, 9.3.1); and, by this
-- profile's own rule, how long user data and frames are, how many frames and ticks a group has, and how
-- long is what a run left behind.
use Rattle.std.specs.Prelude.{ℕ, ◌≤◌, List, length}

-- a CKN, which names a connectivity association key, has at most so many octets
abbrev pub most_ckn_octets : ℕ
most_ckn_octets = 32

-- 1 to 32 octets
abbrev pub IsCkn : List ℕ → Type 0
IsCkn octets = (1 ≤ length octets) × (length octets ≤ most_ckn_octets)

-- the user data of a frame, its EtherType in front, has at least so many octets
abbrev pub least_user_octets : ℕ
least_user_octets = 2

-- and at most so many
abbrev pub most_user_octets : ℕ
most_user_octets = 1500

-- 2 to 1,500 octets
abbrev pub IsUserData : List ℕ → Type 0
IsUserData octets = (least_user_octets ≤ length octets) × (length octets ≤ most_user_octets)

-- foreign octets are at most so many, and so are those of a frame that is protected
abbrev pub most_frame_octets : ℕ
most_frame_octets = 65536

-- a group puts at most so many frames on the air
abbrev pub most_frames : ℕ
most_frames = 200000

-- and has at most so many ticks, at all its stations
abbrev pub most_ticks : ℕ
most_ticks = 1000000

-- a transcript, and a file of captured packets, has at most so many octets
abbrev pub most_input : ℕ
most_input = 268435456
