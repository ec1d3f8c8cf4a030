-- Two stations from their first ticks on, computed: they hear each other, elect a server, and it makes a key.
use Rattle.std.proofs.Common.{◌≡◌, ℕ, List, [], ◌∷◌, ◌++◌, None, Some, true, false, replicate, refl}
use Rattle.std.specs.Prelude.{drop}
use Rattle.lan_base.specs.declared.address.Mi.{Mi}
use Rattle.lan_base.specs.declared.address.Sci.{Sci}
use Rattle.lan_base.specs.declared.association_number.AssociationNumber.TheVariants.{An0}
use Rattle.lan_base.specs.declared.suite.Suite.TheVariants.{GcmAes128}
use Rattle.aes_block.specs.declared.secret.Secret.{Secret}
use Rattle.aes_block.specs.declared.secret.Secret.TheVariants.{S128}
use Rattle.mkpdu_codec.specs.declared.announcement.Announcement.{Announcement}
use Rattle.peer_lists.specs.declared.heard.PeerRefusal.TheVariants.{Echo, OldNumber}
use Rattle.peer_lists.specs.Acceptance.{refusal, accepted, outcome}
use Rattle.peer_lists.specs.Peers.{says, hopes, known}
use Rattle.sak_exchange.specs.Held.{received, latest, old, transmitting}
use Rattle.sak_exchange.specs.declared.held_key.Key.{Key}
use Rattle.sak_exchange.specs.declared.change.Change.TheVariants.{Installed}
use Rattle.sak_exchange.specs.declared.due.Seen.{Seen}
use Rattle.mka_station.specs.declared.verdict.Verdict.TheVariants.{Vouched, Unvouched, Dropped}
use Rattle.mka_station.specs.declared.verdict.DropReason.TheVariants.{Refused}
use Rattle.mka_station.specs.Lives.{Setup, Member, Entry, ticked, sent, heard, installed, peers_of, keys_of, elected}
use Rattle.mka_station.specs.Views.{view}
use Rattle.mka_station.specs.Tick.{tick_turn}
use Rattle.mka_station.specs.Hearing.{hear_turn}
use Rattle.mka_station.specs.Announcing.{use_of}
use Rattle.mka_station.specs.Dropped.{without_dropped}

opens : ℕ
unfolding tick_turn hear_turn view peers_of keys_of elected refusal accepted outcome says hopes known received latest old transmitting without_dropped
opens = 0

abbrev mi : ℕ → Mi
mi n = record { 0 = replicate 11 0 ++ n ∷ [] }

abbrev sci : ℕ → Sci
sci n = record { 0 = 2 ∷ 0 ∷ 0 ∷ 0 ∷ 0 ∷ n ∷ 0 ∷ 1 ∷ [] }

abbrev setup : ℕ → ℕ → Setup
setup s priority = record { sci = sci s; priority = priority; rekey = record { from = 3221225472; as_old = false }; conf = true; early_flag = false; suite = GcmAes128; ckn = 1 ∷ 2 ∷ 3 ∷ 4 ∷ []; kek = replicate 16 7; ick = replicate 16 8 }

abbrev alice : Member
alice = record { setup = setup 10 16; mi = mi 1; base = 0 }

abbrev bob : Member
bob = record { setup = setup 11 32; mi = mi 2; base = 0 }

abbrev none_seen : Seen
none_seen = record { next = 0; latest = 1; old = 1 }

abbrev sak : Secret
sak = S128 (replicate 15 0 ++ 3 ∷ [])

abbrev tick : Member → List Entry → List Entry
tick m p = (tick_turn m none_seen sak p).past

abbrev hear : Member → Announcement → List Entry → List Entry
hear m a p = (hear_turn m a p).past

-- the announcement with which a history ends
abbrev silence : Announcement
silence = record { source = record { 0 = [] }; priority = 0; server = false; sci = sci 0; mi = mi 0; mn = 0; ckn = []; live = []; potential = []; uses = None; given = None; highs = None }

abbrev said : List Entry → Announcement
said (sent a ∷ p) = a
said p = silence

-- the first round
abbrev a1 : List Entry
a1 = tick alice []

abbrev b1 : List Entry
b1 = tick bob []

first_number : (said a1).mn ≡ 1
unfolding opens
first_number = refl

abbrev a2 : List Entry
a2 = hear alice (said b1) a1

abbrev b2 : List Entry
b2 = hear bob (said a1) b1

first_is_unvouched : (hear_turn alice (said b1) a1).reaction.heard ≡ Some Unvouched
unfolding opens
first_is_unvouched = refl

-- the second round: each lists the other as potential
abbrev a3 : List Entry
a3 = tick alice a2

abbrev b3 : List Entry
b3 = tick bob b2

second_lists : (said a3).potential ≡ record { mi = mi 2; mn = 1 } ∷ []
unfolding opens
second_lists = refl

abbrev a4 : List Entry
a4 = hear alice (said b3) a3

abbrev b4 : List Entry
b4 = hear bob (said a3) b3

second_is_vouched : (hear_turn alice (said b3) a3).reaction.heard ≡ Some Vouched
unfolding opens
second_is_vouched = refl

alice_is_elected : (hear_turn bob (said a3) b3).reaction.server ≡ Some (Some (mi 1))
unfolding opens
alice_is_elected = refl

-- the third round: the server makes a key
abbrev key : Key
key = record { id = record { server = mi 1; number = 1 }; an = An0; sak = sak; conf = true; epoch = 1 }

makes_a_key : (tick_turn alice none_seen sak a4).reaction.changes ≡ Installed (record { key = key; begun = false }) ∷ []
unfolding opens
makes_a_key = refl

with_its_roster : drop 1 (tick alice a4) ≡ installed (Some (mi 1 ∷ mi 2 ∷ [])) key ∷ ticked ∷ a4
unfolding opens
with_its_roster = refl

third_number : (said (tick alice a4)).mn ≡ 3
unfolding opens
third_number = refl

-- a station says that it serves once it is elected
first_flag : (said a1).server ≡ false
unfolding opens
first_flag = refl

flag_of_the_elected : (said (tick alice a4)).server ≡ true
unfolding opens
flag_of_the_elected = refl

-- one that is set up so says it from its first announcement on, unless it never serves, and no more
-- once it has elected another
abbrev early : ℕ → ℕ → ℕ → Member
early n s priority = record { setup = record (setup s priority) { early_flag = true }; mi = mi n; base = 0 }

early_first_flag : (said (tick (early 2 11 32) [])).server ≡ true
unfolding opens
early_first_flag = refl

never_flagged : (said (tick (early 2 11 255) [])).server ≡ false
unfolding opens
never_flagged = refl

early_flag_of_a_member : (said (tick (early 2 11 32) b4)).server ≡ false
unfolding opens
early_flag_of_a_member = refl

early_flag_of_the_elected : (said (tick (early 1 10 16) a4)).server ≡ true
unfolding opens
early_flag_of_the_elected = refl

-- a frame heard again is dropped, and so is one's own
again : (hear_turn alice (said b3) a4).reaction.heard ≡ Some (Dropped (Refused (OldNumber 2)))
unfolding opens
again = refl

own_words : (hear_turn alice (said a3) a4).reaction.heard ≡ Some (Dropped (Refused Echo))
unfolding opens
own_words = refl

-- the server lists its member as live, under the number that it heard last
lists_its_member : (said (tick alice a4)).live ≡ record { mi = mi 2; mn = 2 } ∷ []
unfolding opens
lists_its_member = refl

-- its own words are not in its history without what was dropped, and another's are
without_its_own_words : without_dropped alice (heard (said a1) ∷ []) ≡ []
unfolding opens
without_its_own_words = refl

with_the_words_of_another : without_dropped alice (heard (said b1) ∷ []) ≡ heard (said b1) ∷ []
unfolding opens
with_the_words_of_another = refl

-- a key is marked as transmitting while it transmits, and not before
marked : (use_of (Some key) (λ k. 1) (Some key)).tx ≡ true
marked = refl

unmarked : (use_of None (λ k. 1) (Some key)).tx ≡ false
unmarked = refl
