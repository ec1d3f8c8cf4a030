-- The frame of a packet: what it has without its VLAN tags (IEEE Std 802.1Q).
use Rattle.std.specs.Prelude.{⊤, ◌≡◌, ◌<◌, ◌≤◌, ℕ, ◌*◌, ◌==◌, ◌&&◌, ◌||◌, nat_le, Bool, true, false, if◌then◌else◌, List, [], ◌∷◌, ◌++◌, drop, flat_map, length, slice_index, take}

-- octets begin with a VLAN tag: an EtherType of 8100 or 88a8, and two octets
abbrev pub begins_with_tag : List ℕ → Bool
begins_with_tag octets =
    nat_le 4 (length octets)
    && (((slice_index octets 0 == 0x81) && (slice_index octets 1 == 0x00))
    || ((slice_index octets 0 == 0x88) && (slice_index octets 1 == 0xa8)))

-- how many of them stand in front, two at most
abbrev pub tag_count : List ℕ → ℕ
tag_count octets =
    if begins_with_tag octets then (if begins_with_tag (drop 4 octets) then 2 else 1) else 0

-- the frame: the addresses, and what stands behind the tags
abbrev pub frame_of : List ℕ → List ℕ
frame_of packet = take 12 packet ++ drop (4 * tag_count (drop 12 packet)) (drop 12 packet)

-- ---- the same as tags, and then the frame

-- octets are a VLAN tag and nothing else
pub record IsTag (octets : List ℕ) : Type 0 where
  pub whole : length octets ≡ 4
  pub begins : begins_with_tag octets ≡ true

abbrev pub AreTags : List (List ℕ) → Type 0
AreTags [] = ⊤
AreTags (tag ∷ tags) = IsTag tag × AreTags tags

-- A packet is addresses, some tags, two at most, and what is no tag, unless two tags stand before it.
pub record IsTagged (addresses : List ℕ) (tags : List (List ℕ)) (rest packet : List ℕ) : Type 0 where
  pub parts : packet ≡ addresses ++ (flat_map (λ tag. tag) tags ++ rest)
  pub twelve : length addresses ≡ 12
  pub are_tags : AreTags tags
  pub few : length tags ≤ 2
  pub all : length tags < 2 → begins_with_tag rest ≡ false
