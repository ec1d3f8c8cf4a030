-- The line that tells a packet (this profile's own form): what its SecTAG says (IEEE Std 802.1AE,
-- clause 9), or what it spells as a frame of key agreement (IEEE Std 802.1X, clause 11), or its
-- first refusal.
use Rattle.std.specs.Prelude.{ℕ, if◌then◌else◌, List, [], ◌∷◌, ◌++◌, length, codes, decimal, Option, Some, None, Result, Ok, Err}
use Rattle.hex.specs.Hex.{encode_lower}
use Rattle.lan_base.specs.AssociationNumbers.{number_of}
use Rattle.gcm_frames.specs.declared.tag.Tag.{Tag}
use Rattle.gcm_frames.specs.declared.tag.TagRefusal.{TagRefusal}
use Rattle.gcm_frames.specs.Tags.{is_sec, tag_fields, tag_text}
use Rattle.mkpdu_codec.specs.declared.announcement.Announcement.{Announcement}
use Rattle.mkpdu_codec.specs.declared.given.Given.{Given}
use Rattle.mkpdu_codec.specs.declared.key_use.Uses.{Uses}
use Rattle.mkpdu_codec.specs.declared.refusal.Refusal.{Refusal}
use Rattle.mkpdu_codec.specs.declared.refusal.Refusal.TheVariants.{NotMka, Short, Shape, Repeated, Agility}
use Rattle.mkpdu_codec.specs.declared.spelled.Spelled.{Spelled}
use Rattle.mkpdu_codec.specs.Reading.{reading}
use Rattle.trace_text.specs.Words.{spaced}

-- ---- a protected frame

-- the sender, the association number, the packet number, and whether the user data is enciphered
abbrev pub tag_words : Tag → List (List ℕ)
tag_words tag =
    codes "sec" ∷ encode_lower tag.sci.0 ∷ codes "an" ∷ decimal (number_of tag.an) ∷ codes "pn"
    ∷ decimal tag.pn ∷ codes "conf" ∷ decimal (if tag.conf then 1 else 0) ∷ []

abbrev pub malformed_words : TagRefusal → List (List ℕ)
malformed_words refusal = codes "sec" ∷ codes "malformed" ∷ tag_text refusal ∷ []

-- what reading a SecTAG gave
abbrev pub sec_words : Result Tag TagRefusal → List (List ℕ)
sec_words (Ok tag) = tag_words tag
sec_words (Err refusal) = malformed_words refusal

-- ---- a frame of key agreement

-- the association number and the key number of the latest key, and those of the old one
abbrev pub use_words : Option Uses → List (List ℕ)
use_words None = codes "none" ∷ []
use_words (Some u) =
    decimal (number_of u.latest.an) ∷ decimal u.latest.number ∷ decimal (number_of u.old.an)
    ∷ decimal u.old.number ∷ []

-- the key number and the association number of a key that is given
abbrev pub given_words : Option Given → List (List ℕ)
given_words None = codes "none" ∷ []
given_words (Some g) = decimal g.number ∷ decimal (number_of g.an) ∷ []

-- who announces, and how many peers are listed
abbrev pub peer_words : Announcement → List (List ℕ)
peer_words a =
    codes "mka" ∷ encode_lower a.mi.0 ∷ codes "mn" ∷ decimal a.mn ∷ codes "sci"
    ∷ encode_lower a.sci.0 ∷ codes "priority" ∷ decimal a.priority ∷ codes "live"
    ∷ decimal (length a.live) ∷ codes "potential" ∷ decimal (length a.potential) ∷ []

abbrev pub mka_words : Announcement → List (List ℕ)
mka_words a =
    peer_words a ++ ((codes "use" ∷ use_words a.uses) ++ (codes "given" ∷ given_words a.given))

abbrev pub refusal_words : Refusal → List (List ℕ)
refusal_words NotMka = codes "other" ∷ []
refusal_words Short = codes "mka" ∷ codes "drop" ∷ codes "short" ∷ []
refusal_words (Shape at) = codes "mka" ∷ codes "drop" ∷ codes "shape" ∷ decimal at ∷ []
refusal_words (Repeated kind) = codes "mka" ∷ codes "drop" ∷ codes "repeated" ∷ decimal kind ∷ []
refusal_words Agility = codes "mka" ∷ codes "drop" ∷ codes "agility" ∷ []

abbrev pub spelled_words : Result Spelled Refusal → List (List ℕ)
spelled_words (Ok s) = mka_words s.announcement
spelled_words (Err refusal) = refusal_words refusal

-- ---- any packet

-- a packet with the EtherType of MACsec is told by its SecTAG, any other as a frame of key agreement
abbrev pub packet_words : List ℕ → List (List ℕ)
packet_words octets =
    if is_sec octets then sec_words (tag_fields octets) else spelled_words (reading octets)

-- the line of a packet, with its line feed
abbrev pub described : ℕ → List ℕ → List ℕ
described number octets =
    codes "packet" ++ (spaced (decimal number ∷ packet_words octets) ++ 10 ∷ [])
