-- Which received frames are sealed under a key, and what their user data is (IEEE Std 802.1AE,
-- clause 14).
use Rattle.std.specs.Prelude.{◌≡◌, ℕ, ◌+◌, ◌-◌, min, nat_eq, Bool, if◌then◌else◌, List, [], ◌++◌, take, drop, Option, Some, None}
use Rattle.gcm_core.specs.Gcm.{gcm, gcm_text, gcm_tag}
use Rattle.gcm_frames.specs.declared.tag.Tag.{Tag}
use Rattle.gcm_frames.specs.Protected.{iv}
use lib.Pointwise.{pointwise}

-- the secure data of a frame
abbrev pub secure_data : Tag → List ℕ → List ℕ
secure_data tag frame = take tag.len (drop tag.start frame)

-- the 16 octets of tag behind it
abbrev pub check_octets : Tag → List ℕ → List ℕ
check_octets tag frame = take 16 (drop (tag.start + tag.len) frame)

-- the additional data: the octets before the secure data, which belongs to it too where it is not
-- enciphered
abbrev pub additional_data : Tag → List ℕ → List ℕ
additional_data tag frame =
    if tag.conf then take tag.start frame else take (tag.start + tag.len) frame

-- what is enciphered: the secure data, or nothing
abbrev pub enciphered : Tag → List ℕ → List ℕ
enciphered tag frame = if tag.conf then secure_data tag frame else []

-- the frame is sealed from a text with an IV: GCM under the key makes of it what is enciphered in
-- the frame, and the frame's tag
abbrev pub IsSealedFromWith : List ℕ → List ℕ → Tag → List ℕ → List ℕ → Type 0
IsSealedFromWith key v tag frame text =
    gcm key v (additional_data tag frame) text ≡ (enciphered tag frame, check_octets tag frame)

-- with the IV of its SCI and its packet number
abbrev pub IsSealedFrom : List ℕ → Tag → List ℕ → List ℕ → Type 0
IsSealedFrom key tag frame text = IsSealedFromWith key (iv tag.sci tag.pn) tag frame text

-- the frame is sealed
abbrev pub IsSealed : List ℕ → Tag → List ℕ → Type 0
IsSealed key tag frame = (text : List ℕ) × IsSealedFrom key tag frame text

-- the user data of a frame that is sealed from a text
abbrev pub user_data : Tag → List ℕ → List ℕ → List ℕ
user_data tag frame text = if tag.conf then text else secure_data tag frame

-- a frame with this user data in the place of its secure data
abbrev pub with_user_data : Tag → List ℕ → List ℕ → List ℕ
with_user_data tag frame user = take tag.start frame ++ (user ++ drop (tag.start + tag.len) frame)

-- the frame's tag is the one that its enciphered octets call for
abbrev pub is_tag_right_with : List ℕ → List ℕ → Tag → List ℕ → Bool
is_tag_right_with key v tag frame =
    pointwise nat_eq (gcm_tag key v (additional_data tag frame) (enciphered tag frame))
    (check_octets tag frame)

abbrev pub is_tag_right : List ℕ → Tag → List ℕ → Bool
is_tag_right key tag frame = is_tag_right_with key (iv tag.sci tag.pn) tag frame

-- the user data as the enciphered octets give it: deciphering is enciphering again
abbrev pub deciphered_with : List ℕ → List ℕ → Tag → List ℕ → List ℕ
deciphered_with key v tag frame = user_data tag frame (gcm_text key v (enciphered tag frame))

abbrev pub deciphered : List ℕ → Tag → List ℕ → List ℕ
deciphered key tag frame = deciphered_with key (iv tag.sci tag.pn) tag frame

-- the user data of a frame that is sealed
abbrev pub opened_with : List ℕ → List ℕ → Tag → List ℕ → Option (List ℕ)
opened_with key v tag frame =
    if is_tag_right_with key v tag frame then Some (deciphered_with key v tag frame) else None

unfoldable pub opened : List ℕ → Tag → List ℕ → Option (List ℕ)
opened key tag frame = opened_with key (iv tag.sci tag.pn) tag frame

-- ---- under a confidentiality offset

-- the first octets of enciphered user data, so many or all of fewer, stand in clear with the octets
-- before it (IEEE Std 802.1AE, clause 10)
abbrev pub behind_clear : ℕ → Tag → Tag
behind_clear clear tag =
    if tag.conf then record tag { start = tag.start + min clear tag.len; len = tag.len - clear }
    else tag

-- the frame is sealed with an IV, and with so many octets of its user data in clear
abbrev pub IsSealedWith : List ℕ → List ℕ → ℕ → Tag → List ℕ → Type 0
IsSealedWith key v clear tag frame =
    (text : List ℕ) × IsSealedFromWith key v (behind_clear clear tag) frame text

-- the same, by the frame's tag
abbrev pub is_sealed_with : List ℕ → List ℕ → ℕ → Tag → List ℕ → Bool
is_sealed_with key v clear tag frame = is_tag_right_with key v (behind_clear clear tag) frame
