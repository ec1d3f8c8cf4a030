-- The life of a station, computed of what is told: no octets are read and no cipher is computed.
use Rattle.std.specs.Prelude.{ℕ, ◌==◌, ◌&&◌, not, if◌then◌else◌, List, [], ◌∷◌, Bool, true, false}
use Rattle.std.specs.Prelude.{Option, Some, None, option_map, Result}
use Rattle.aes_block.specs.declared.secret.Secret.{Secret}
use Rattle.mkpdu_codec.specs.declared.announcement.Announcement.{Announcement}
use Rattle.sak_exchange.specs.declared.due.Seen.{Seen}
use Rattle.sak_exchange.specs.declared.offer.Offer.{Offer}
use Rattle.sak_exchange.specs.declared.change.Why.{Why}
use Rattle.sak_exchange.specs.declared.held_key.Key.{Key}
use Rattle.sak_exchange.specs.Histories.{Keying}
use Rattle.sak_exchange.specs.Taking.{taken}
use Rattle.mka_station.specs.Lives.{Member, Entry, heard}
use Rattle.mka_station.specs.Views.{view}
use Rattle.mka_station.specs.Tick.{tick_turn, with_beginning, with_install}
use Rattle.mka_station.specs.Hearing.{outcome_of, offered, key_taken, followed}
use Rattle.lan_core.specs.declared.event.Event.TheVariants as events
use Rattle.lan_core.specs.declared.fact.Fact.{Fact}
use Rattle.lan_core.specs.Lives.{Life, life_after, lived, sak_in, seen_at}
use Rattle.group_safety.specs.worked.Group.{settings, sak, draw_of}
use Rattle.group_safety.specs.worked.Deeds.{Deed, tells, emits, plain, happens, run_of, Gift, whole}
use Rattle.group_safety.specs.worked.Deeds.{Paper, says, carries, on_air}

-- the SAK that a gift hides
abbrev pub hidden_in : Option Gift → Option Secret
hidden_in None = None
hidden_in (Some g) = Some (sak (draw_of g.number))

-- ---- hearing an announcement, given the SAK that it hides

abbrev pub answered : Member → List Keying → Option Offer → Option Secret → Option (Result Key Why)
answered m h offer hidden = option_map (λ o. taken m.base h o hidden) offer

unfoldable pub heard_by : Member → Announcement → Option Secret → List Entry → List Entry
heard_by m a hidden p =
    let o = outcome_of m p a in
    let p1 = heard a ∷ p in
    let v1 = view m p1 in
    let p2 = with_install None (key_taken (answered m v1.keys (offered m v1 o a) hidden)) p1 in
    with_beginning (followed (view m p2) o a) p2

-- ---- ticks, while no protected frame has come

abbrev pub is_carried : Option Paper → Bool
is_carried None = true
is_carried (Some (says t a g)) = false
is_carried (Some (carries pn)) = true

-- no protected frame has reached a station
abbrev pub is_silent : ℕ → List Deed → Bool
is_silent s [] = true
is_silent s (tells t next f n a g ∷ ds) = is_silent s ds
is_silent s (emits n pn ∷ ds) = is_silent s ds
is_silent s (plain (events.Deliver n t) f ∷ ds) =
    not ((t == s) && is_carried (on_air ds n)) && is_silent s ds
is_silent s (plain (events.Inject t octets) f ∷ ds) = false
is_silent s (plain e f ∷ ds) = is_silent s ds

-- what a tick is shown of numbers: no accepted one, or what the receive slots say
abbrev pub seen : ℕ → Seen
seen next = record { next = next; latest = 1; old = 1 }

abbrev pub seen_by : ℕ → List Deed → ℕ → Life → Seen
seen_by s ds next l =
    if is_silent s ds then seen next else seen_at settings s (run_of ds) l next

abbrev pub ticked_by : ℕ → List Deed → ℕ → List Fact → Life → Life
ticked_by s ds next f l = lived l (tick_turn l.member (seen_by s ds next l) (sak_in f) l.past)

-- ---- the lives

abbrev pub reads : Option Paper → Life → Life
reads None l = l
reads (Some (says t a g)) l = record l { past = heard_by l.member (whole a g) (hidden_in g) l.past }
reads (Some (carries pn)) l = l

abbrev pub life_on : ℕ → List Deed → Deed → Option Life → Option Life
life_on s ds (tells t next f n a g) l =
    if t == s
    then option_map (ticked_by s ds next (happens (tells t next f n a g)).facts) l
    else l
life_on s ds (emits n pn) l = l
life_on s ds (plain (events.Start name sci priority) f) l =
    life_after settings s (run_of ds) f (events.Start name sci priority) l
life_on s ds (plain (events.Tick t next) f) l =
    if t == s then option_map (ticked_by s ds next f) l else l
life_on s ds (plain (events.Deliver n t) f) l =
    if t == s then option_map (reads (on_air ds n)) l else l
life_on s ds (plain (events.Restart t) f) l =
    life_after settings s (run_of ds) f (events.Restart t) l
life_on s ds (plain (events.Claim t user pn) f) l = l
life_on s ds (plain events.Emit f) l = l
life_on s ds (plain (events.Inject t octets) f) l =
    life_after settings s (run_of ds) f (events.Inject t octets) l

unfoldable pub life_by : ℕ → List Deed → Option Life
life_by s [] = None
life_by s (d ∷ ds) = life_on s ds d (life_by s ds)
