-- Ledgers of a run: what its facts tell of one matter, newest first.
use Rattle.std.specs.Prelude.{◌≡◌, ℕ, ◌+◌, ◌==◌, ◌&&◌, Bool, List, [], ◌∷◌, length, Option, Some, None}
use Rattle.std.specs.List.{filter, find}
use Rattle.lan_base.specs.declared.address.Mi.{Mi}
use Rattle.lan_base.specs.declared.association_number.AssociationNumber.{AssociationNumber}
use Rattle.lan_base.specs.declared.key_id.KeyId.{KeyId}
use Rattle.aes_block.specs.declared.secret.Secret.{Secret}
use Rattle.lan_core.specs.declared.fact.Fact.{Fact}
use Rattle.lan_core.specs.declared.fact.Fact.TheVariants as facts
use Rattle.lan_core.specs.Run.{Run}

-- an entry in front, if there is one
abbrev pub with_one : {A : Type 0} → Option A → List A → List A
with_one None xs = xs
with_one (Some x) xs = x ∷ xs

-- a ledger after more facts, of which the first is the oldest
abbrev pub gather : {A : Type 0} → (Fact → Option A) → List Fact → List A → List A
gather read [] xs = xs
gather read (fact ∷ later) xs = gather read later (with_one (read fact) xs)

-- what the facts of a run tell, read one by one
abbrev pub collect : {A : Type 0} → (Fact → Option A) → Run → List A
collect read [] = []
collect read (x ∷ r) = gather read x.facts (collect read r)

-- ---- the air

-- a frame on the air: its number from 1, its sender, whether it is a protected one, its octets
pub record Frame : Type 0 where
  pub number : ℕ
  pub station : ℕ
  pub sec : Bool
  pub octets : List ℕ

abbrev pub framed : Fact → Option Frame
framed (facts.Framed number station sec octets) =
    Some (record { number = number; station = station; sec = sec; octets = octets })
framed _ = None

-- every frame that was ever put on the air
unfoldable pub air : Run → List Frame
air r = collect framed r

-- the frame of a number
abbrev pub frame_at : Run → ℕ → Option Frame
frame_at r number = find (λ frame. frame.number == number) (air r)

-- the number of the frame that comes next
abbrev pub next_frame : Run → ℕ
next_frame r = length (air r) + 1

-- each frame's number is its place on the air, from 1 for the first
abbrev pub AreNumbered : List Frame → Type 0
AreNumbered [] = Unit {0}
AreNumbered (frame ∷ earlier) = (frame.number ≡ length earlier + 1) × AreNumbered earlier

-- the protected frames on the air
abbrev pub emitted : Run → List Frame
emitted r = filter (λ frame. frame.sec) (air r)

-- ---- lives

-- the beginning of a life
pub record Birth : Type 0 where
  pub station : ℕ
  pub mi : Mi

abbrev pub born : Fact → Option Birth
born (facts.Life station mi) = Some (record { station = station; mi = mi })
born _ = None

unfoldable pub births : Run → List Birth
births r = collect born r

-- ---- keys

-- an install at a station
pub record Install : Type 0 where
  pub station : ℕ
  pub id : KeyId
  pub an : AssociationNumber
  pub epoch : ℕ
  pub sak : Secret

abbrev pub install_of : Fact → Option Install
install_of (facts.Installed station id an epoch sak) =
    Some (record { station = station; id = id; an = an; epoch = epoch; sak = sak })
install_of _ = None

unfoldable pub installs : Run → List Install
installs r = collect install_of r

-- the installs of a station, over all its lives
abbrev pub installs_at : ℕ → Run → List Install
installs_at s r = filter (λ i. i.station == s) (installs r)

-- the key of an epoch of a station
abbrev pub install_at : ℕ → ℕ → Run → Option Install
install_at s epoch r = find (λ i. (i.station == s) && (i.epoch == epoch)) (installs r)

-- ---- packet numbers

-- a packet number that was claimed
pub record Claim : Type 0 where
  pub station : ℕ
  pub an : AssociationNumber
  pub epoch : ℕ
  pub pn : ℕ

abbrev pub claim_of : Fact → Option Claim
claim_of (facts.Claimed station an epoch pn) =
    Some (record { station = station; an = an; epoch = epoch; pn = pn })
claim_of _ = None

unfoldable pub claims : Run → List Claim
claims r = collect claim_of r
