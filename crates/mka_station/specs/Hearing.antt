-- What a station does when it hears a frame of key agreement (IEEE Std 802.1X, clause 9; the order
-- of the reasons to drop one is this profile's own).
use Rattle.std.specs.Prelude.{ℕ, nat_eq, Bool, true, false, not, ◌&&◌, if◌then◌else◌, List, []}
use Rattle.std.specs.Prelude.{◌∷◌, ◌++◌}
use Rattle.std.specs.Prelude.{take, Option, Some, None, option_map, option_and_then, Result, Ok}
use Rattle.std.specs.Prelude.{Err}
use Rattle.std.specs.List.{list_any}
use lib.Pointwise.{pointwise}
use Rattle.lan_base.specs.Identifiers.{same_mi}
use Rattle.aes_cmac.specs.Cmac.{cmac}
use Rattle.mkpdu_codec.specs.declared.announcement.Announcement.{Announcement}
use Rattle.mkpdu_codec.specs.declared.spelled.Spelled.{Spelled}
use Rattle.mkpdu_codec.specs.declared.refusal.Refusal.{Refusal}
use Rattle.mkpdu_codec.specs.Reading.{reading}
use Rattle.peer_lists.specs.Histories.{Peering, recent}
use Rattle.peer_lists.specs.Acceptance.{outcome}
use Rattle.peer_lists.specs.declared.heard.Outcome.{Outcome}
use Rattle.peer_lists.specs.declared.heard.Outcome.TheVariants as outcomes
use Rattle.sak_exchange.specs.declared.held_key.Key.{Key}
use Rattle.sak_exchange.specs.Histories.{Keying}
use Rattle.sak_exchange.specs.declared.change.Change.{Change}
use Rattle.sak_exchange.specs.declared.change.Why.{Why}
use Rattle.sak_exchange.specs.declared.offer.Offer.{Offer}
use Rattle.sak_exchange.specs.Beginning.{Beginning, follows}
use Rattle.sak_exchange.specs.Taking.{taken}
use Rattle.sak_exchange.specs.Outcomes.{judging, beginning}
use Rattle.sak_exchange.specs.Unwrapping.{given_sak}
use Rattle.mka_station.specs.declared.verdict.DropReason.{DropReason}
use Rattle.mka_station.specs.declared.verdict.DropReason.TheVariants as reasons
use Rattle.mka_station.specs.declared.verdict.Verdict.{Verdict}
use Rattle.mka_station.specs.declared.verdict.Verdict.TheVariants as verdicts
use Rattle.mka_station.specs.Lives.{Setup, Member, Entry, heard, own, told, peers_of}
use Rattle.mka_station.specs.Views.{View, view, is_server}
use Rattle.mka_station.specs.Tick.{Turn, new_server, with_beginning, with_install}

-- ---- whether the frame counts

-- a frame is of the group: it has the group's CKN and a right check value
abbrev pub of_group : Setup → List ℕ → Spelled → Result Announcement DropReason
of_group setup frame s =
    if not (pointwise nat_eq s.announcement.ckn setup.ckn) then Err reasons.CkName
    else if not (pointwise nat_eq s.check (cmac setup.ick (take s.covered frame)))
    then Err reasons.Check
    else Ok s.announcement

abbrev pub read_as : Setup → List ℕ → Result Spelled Refusal → Result Announcement DropReason
read_as setup frame (Ok s) = of_group setup frame s
read_as setup frame (Err refusal) = Err (reasons.Unspelled refusal)

-- the announcement of a frame of the group, or why the frame is dropped before anything is known of
-- its member
unfoldable pub judged : Setup → List ℕ → Result Announcement DropReason
judged setup frame = read_as setup frame (reading frame)

-- the announcement of a frame that is right
abbrev pub right : Setup → List ℕ → Option Announcement
right setup frame = elim (judged setup frame) [ Ok a ↦ Some a | Err reason ↦ None ]

-- ---- what an announcement comes to

abbrev pub verdict_of : Outcome → Verdict
verdict_of outcomes.Vouched = verdicts.Vouched
verdict_of outcomes.Unvouched = verdicts.Unvouched
verdict_of (outcomes.Dropped refusal) = verdicts.Dropped (reasons.Refused refusal)

abbrev pub is_accepted : Outcome → Bool
is_accepted outcomes.Vouched = true
is_accepted outcomes.Unvouched = true
is_accepted (outcomes.Dropped refusal) = false

abbrev pub is_vouched : Outcome → Bool
is_vouched outcomes.Vouched = true
is_vouched outcomes.Unvouched = false
is_vouched (outcomes.Dropped refusal) = false

-- what the peer lists make of it
abbrev pub outcome_of : Member → List Entry → Announcement → Outcome
outcome_of m p a = let h = peers_of m p in outcome (own m) h (told m.mi (recent h) a)

-- whether its Live Peer List has the station under a number that was sent less than the life time
-- ago
abbrev pub is_listed : Member → List Peering → Announcement → Bool
is_listed m h a = list_any (λ peer. same_mi peer.mi m.mi && recent h peer.mn) a.live

-- the key that it offers, where it was accepted and gives one
abbrev pub offered : Member → View → Outcome → Announcement → Option Offer
offered m v o a =
    if is_accepted o then option_map (λ g. record {
      given = g;
      server = a.mi;
      listed = is_listed m v.peers a;
      elected = is_server v.server a.mi;
    }) a.given else None

-- the key that is taken, or why it is not, if one is offered
abbrev pub taken_of : Member → View → Option Offer → Option (Result Key Why)
taken_of m v offer = option_map (λ o. taken m.base v.keys o (given_sak m.setup.kek o.given.key)) offer

abbrev pub key_taken : Option (Result Key Why) → Option Key
key_taken None = None
key_taken (Some (Ok k)) = Some k
key_taken (Some (Err why)) = None

-- what an offer changes
abbrev pub take_changes : List Keying → Option Offer → Option (Result Key Why) → List Change
take_changes h (Some o) (Some answer) = (judging h o answer).changes
take_changes h (Some o) None = []
take_changes h None answer = []

-- the latest key, where it begins because the elected server, in an announcement that is vouched,
-- says that it transmits under it
abbrev pub followed : View → Outcome → Announcement → Option Beginning
followed v o a =
    if is_vouched o && is_server v.server a.mi then option_and_then (follows v.keys) a.uses
    else None

-- the key that a hearing is offered, and what comes of it
abbrev pub offer_at : Member → Announcement → List Entry → Option Offer
offer_at m a p = offered m (view m (heard a ∷ p)) (outcome_of m p a) a

abbrev pub answer_at : Member → Announcement → List Entry → Option (Result Key Why)
answer_at m a p = taken_of m (view m (heard a ∷ p)) (offer_at m a p)

-- the history of a hearing after a key was taken
abbrev pub taken_past : Member → Announcement → List Entry → List Entry
taken_past m a p = with_install None (key_taken (answer_at m a p)) (heard a ∷ p)

-- the key that begins then
abbrev pub follow_at : Member → Announcement → List Entry → Option Beginning
follow_at m a p = followed (view m (taken_past m a p)) (outcome_of m p a) a

-- and the history after it began
abbrev pub heard_past : Member → Announcement → List Entry → List Entry
heard_past m a p = with_beginning (follow_at m a p) (taken_past m a p)

-- Hearing an announcement: the peer lists, and the server is elected; a key is taken; the latest
-- key begins.
unfoldable pub hear_turn : Member → Announcement → List Entry → Turn
hear_turn m a p =
    let now = view m (heard a ∷ p) in
    record {
      reaction = record {
        heard = Some (verdict_of (outcome_of m p a));
        server = new_server (view m p) now;
        changes = take_changes now.keys (offer_at m a p) (answer_at m a p)
            ++ (beginning (view m (taken_past m a p)).keys (follow_at m a p)).changes;
        sent = None;
      };
      past = heard_past m a p;
    }

-- a frame that is dropped before anything is known of its member
abbrev pub drop_turn : DropReason → List Entry → Turn
drop_turn reason p =
    record {
      reaction = record {
        heard = Some (verdicts.Dropped reason);
        server = None;
        changes = [];
        sent = None;
      };
      past = p;
    }

abbrev pub heard_turn : Member → Result Announcement DropReason → List Entry → Turn
heard_turn m (Ok a) p = hear_turn m a p
heard_turn m (Err reason) p = drop_turn reason p

-- hearing a frame
abbrev pub frame_turn : Member → List ℕ → List Entry → Turn
frame_turn m frame p = heard_turn m (judged m.setup frame) p
