-- Worked histories of a group: A with MI 1 serves under SCI 1, and B with MI 2 hears it under SCI 2.
use Rattle.std.proofs.Common.{◌≡◌, ◌*◌, ℕ, true, false, List, [], ◌∷◌, Option, Some, None, refl}
use Rattle.lan_base.specs.declared.address.Mi.{Mi}
use Rattle.lan_base.specs.declared.address.Sci.{Sci}
use Rattle.lan_base.specs.declared.association_number.AssociationNumber.TheVariants.{An0}
use Rattle.mkpdu_codec.specs.declared.announcement.Announcement.{Announcement}
use Rattle.mkpdu_codec.specs.declared.key_use.KeyUse.{KeyUse}
use Rattle.mkpdu_codec.specs.declared.key_use.Uses.{Uses}
use Rattle.mkpdu_codec.specs.declared.peer.Peer.{Peer}
use Rattle.use_notes.specs.declared.frame.RightFrame.{RightFrame}
use Rattle.rollover_notes.specs.declared.timing.Timing.TheVariants.{Early, Joining, Late, InTime}
use Rattle.rollover_notes.specs.Events.{Event, Gave, Spoke, Used}
use Rattle.rollover_notes.specs.Givings.{given_before, given_later, in_order}
use Rattle.rollover_notes.specs.Speaking.{is_beside}
use Rattle.rollover_notes.specs.Reports.{began, reported}
use Rattle.rollover_notes.specs.Timings.{is_late_frame, timing_beside}
use Rattle.rollover_notes.specs.Counted.{late, unready_counts}

abbrev mi : ℕ → Mi
mi n = record { 0 = n ∷ [] }

abbrev sci : ℕ → Sci
sci n = record { 0 = n ∷ [] }

abbrev peers : List ℕ → List Peer
peers [] = []
peers (n ∷ ns) = record { mi = mi n; mn = 1 } ∷ peers ns

-- a use of the key that A gave under a number
abbrev received : ℕ → KeyUse
received number = record { server = mi 1; number = number; an = An0; tx = false; rx = true; lowest = 1 }

abbrev transmitted : ℕ → KeyUse
transmitted number = record { server = mi 1; number = number; an = An0; tx = true; rx = true; lowest = 1 }

abbrev no_key : KeyUse
no_key = record { server = mi 0; number = 0; an = An0; tx = false; rx = false; lowest = 0 }

-- what is sent is not received
abbrev sent : ℕ → KeyUse
sent number = record { server = mi 1; number = number; an = An0; tx = true; rx = false; lowest = 1 }

abbrev says : ℕ → ℕ → List ℕ → Option Uses → Announcement
says s m live uses = record {
  source = record { 0 = [] };
  priority = 1;
  server = false;
  sci = sci s;
  mi = mi m;
  mn = 1;
  ckn = [];
  live = peers live;
  potential = [];
  uses = uses;
  given = None;
  highs = None;
}

-- in a packet, at a time in milliseconds, an MI spoke under an SCI, with live peers
abbrev spoke : ℕ → ℕ → ℕ → ℕ → List ℕ → Option Uses → Event
spoke packet time s m live uses = Spoke (record {
  mkpdu = record { packet = packet; group = 1; mi = mi m; mn = 1; check = [] };
  nanos = time * 1000000;
  said = says s m live uses;
})

-- A gave a key under a number
abbrev gave : ℕ → ℕ → Event
gave number key = Gave 1 (record { server = mi 1; number = number }) key

abbrev frame : ℕ → ℕ → ℕ → RightFrame
frame packet time key = record {
  packet = packet;
  key = key;
  sci = sci 1;
  pn = packet;
  check = [];
  time = time * 1000000;
  confidential = true;
}

abbrev latest : KeyUse → Option Uses
latest u = Some (record { latest = u; old = no_key })

abbrev both : KeyUse → KeyUse → Option Uses
both u v = Some (record { latest = u; old = v })

-- B receives under key 1, and A gives key 2
abbrev ready_for_one : List Event
ready_for_one =
    spoke 4 2000 1 1 (2 ∷ []) None ∷ gave 2 2 ∷ spoke 3 1000 2 2 (1 ∷ []) (latest (received 1))
    ∷ spoke 2 500 1 1 [] None ∷ gave 1 1 ∷ []

reports_one : reported ready_for_one (1, mi 2) 1 ≡ Some 3
reports_one = refl

began_none : began ready_for_one (1, mi 2) 1 ≡ None
began_none = refl

two_keys : in_order ready_for_one ≡ 1 ∷ 2 ∷ []
two_keys = refl

later_two : given_later 1 (1 ∷ 2 ∷ []) ≡ 2 ∷ []
later_two = refl

before_two : given_before 2 (1 ∷ 2 ∷ []) ≡ 1 ∷ []
before_two = refl

-- a frame under key 2 comes early to B
early_two : timing_beside ready_for_one (frame 5 2100 2) (1, mi 2) ≡ Early
early_two = refl

counted_early : unready_counts (Used (frame 6 2200 2) ∷ Used (frame 5 2100 2) ∷ ready_for_one) (2, (1, mi 2))
    ≡ Some (record { early = 2; first_early = 5; joining = 0; first_joining = 0 })
counted_early = refl

-- A itself is not beside its own frame
own_frame : is_beside ready_for_one (frame 5 2100 2) (1, mi 1) ≡ false
own_frame = refl

-- B, which said its last 6.0 s before a frame, is not beside it
too_old : is_beside ready_for_one (frame 5 7000 2) (1, mi 2) ≡ false
too_old = refl

young_enough : is_beside ready_for_one (frame 5 6999 2) (1, mi 2) ≡ true
young_enough = refl

-- B reported no key: what is sent alone is no report
joining_two : timing_beside (gave 2 2 ∷ spoke 3 1000 2 2 (1 ∷ []) (latest (sent 1)) ∷ spoke 2 500 1 1 [] None ∷ gave 1 1 ∷ [])
    (frame 4 1100 2) (1, mi 2) ≡ Joining
joining_two = refl

-- B began key 2 at 10 s, and receives under key 1 still
abbrev began_two : List Event
began_two =
    spoke 8 10000 2 2 (1 ∷ []) (both (transmitted 2) (received 1)) ∷ spoke 7 9500 1 1 (2 ∷ []) None ∷ ready_for_one

began_at : began began_two (1, mi 2) 2 ≡ Some 10000000000
began_at = refl

in_time : timing_beside began_two (frame 9 13000 1) (1, mi 2) ≡ InTime
in_time = refl

too_late : timing_beside began_two (frame 9 13001 1) (1, mi 2) ≡ Late
too_late = refl

late_frame : is_late_frame began_two (frame 9 13001 1) ≡ true
late_frame = refl

counted_late : late (Used (frame 10 13002 1) ∷ Used (frame 9 13001 1) ∷ began_two) (1, sci 1)
    ≡ record { frames = 2; first = 9 }
counted_late = refl

late_under_one : late (Used (frame 9 13001 1) ∷ began_two) (2, sci 1) ≡ record { frames = 0; first = 0 }
late_under_one = refl

-- a later life of B under MI 3 and the same SCI: B's earlier one is not beside what comes then
abbrev again : List Event
again = spoke 6 2500 2 3 (1 ∷ []) None ∷ ready_for_one

displaced : is_beside again (frame 7 2600 2) (1, mi 2) ≡ false
displaced = refl

displacing : timing_beside again (frame 7 2600 2) (1, mi 3) ≡ Joining
displacing = refl

-- an identifier that is given once more with another key keeps its first
kept_first : reported (spoke 5 1000 2 2 (1 ∷ []) (latest (received 1)) ∷ gave 1 2 ∷ gave 1 1 ∷ []) (1, mi 2) 1 ≡ Some 5
kept_first = refl
