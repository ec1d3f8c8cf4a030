-- How an announcement lists the station: what of its two peer lists counts (IEEE Std 802.1X,
-- 9.4.3).
use Rattle.std.specs.Prelude.{ℕ, Bool, List, map, is_some, unwrap_or}
use Rattle.std.specs.List.{filter, find}
use Rattle.std.specs.Option.{option_or}
use Rattle.lan_base.specs.declared.address.Mi.{Mi}
use Rattle.mkpdu_codec.specs.declared.peer.Peer.{Peer}
use Rattle.lan_base.specs.Identifiers.{same_mi}
use Rattle.peer_lists.specs.Acceptance.{first_number}

-- whether a peer list names the station, and under which message number
pub record Listing : Type 0 where
  pub lists : Bool
  pub listed : ℕ

-- the message numbers under which the pairs of the two lists name a member
abbrev pub numbers_of : Mi → List Peer → List ℕ
numbers_of own pairs = map (λ p. p.mn) (filter (λ p. same_mi p.mi own) pairs)

-- What the pairs tell a member about itself: where they name it several times, the first number
-- that is recent counts, else the first.
abbrev pub listing : Mi → (ℕ → Bool) → List Peer → Listing
listing own is_recent pairs =
    let numbers = numbers_of own pairs in
    record {
      lists = is_some (first_number numbers);
      listed = unwrap_or (option_or (find is_recent numbers) (first_number numbers)) 0;
    }
