-- A protected frame that was checked reaches a station.
use Rattle.std.proofs.Common.{◌≡◌, ◌∙◌, ◌∷◌, [], ℕ, List, Bool, true, cond, Option, Some, None, ap, sym, subst}
use Rattle.gcm_frames.specs.Tags.{is_sec}
use Rattle.rx_slots.specs.Histories.{Receiving, heard}
use Rattle.rx_slots.specs.Slots.{Slots}
use Rattle.rx_slots.specs.Standing.{StandsFor as SlotsStandFor}
use Rattle.rx_slots.specs.Numbers.{answer}
use Rattle.rx_slots.specs.declared.arrival.Checked.{Checked}
use Rattle.mka_station.specs.Lives.{Setup}
use Rattle.mka_station.specs.Hearing.{frame_turn}
use Rattle.lan_core.specs.declared.fact.Fact.{Fact}
use Rattle.lan_core.specs.declared.fact.Fact.TheVariants.{Arrived}
use Rattle.lan_core.specs.declared.settings.Settings.{Settings}
use Rattle.lan_core.specs.Run.{Run, Profile}
use Rattle.lan_core.specs.Ledgers.{gather}
use Rattle.lan_core.specs.Lives.{Life, lived, lived_hearing, heard_data, receiving, slot_change}
use Rattle.lan_core.specs.Expected.{reached_facts, reaction_facts}
use Rattle.lan_core.specs.Standing.{Seat, Sits, IsSeated}
use Rattle.lan_core.specs.Batches.{HasSlots, IsChecked, checked_at}
use Rattle.lan_core.proofs.CarriedOver.{IsThere}

pub admitted-facts : (settings : Settings) (s : ℕ) (r : Run) (number : ℕ) (octets : List ℕ) (l : Life) (shown : List Fact)
    → is_sec octets ≡ true
    → shown ≡ Arrived number s (answer l.member.setup.sci settings.window (receiving s r) octets) ∷ []
    → shown ≡ reached_facts settings s r number octets l
admitted-facts settings s r number octets l shown sec is =
    is ∙ ap (λ (b : Bool). cond b
    (Arrived number s (answer l.member.setup.sci settings.window (receiving s r) octets) ∷ [])
    (reaction_facts s number 0 (frame_turn l.member octets l.past).reaction)) (sym sec)

pub admitted-sits : (settings : Settings) (s : ℕ) (r : Run) (number : ℕ) (octets : List ℕ) (l : Life) (seat : Seat)
    → is_sec octets ≡ true → Sits settings.window l (heard octets ∷ receiving s r) seat
    → Sits settings.window (lived_hearing l octets)
    (gather (slot_change s) (reached_facts settings s r number octets l) (heard_data octets (receiving s r))) seat
admitted-sits settings s r number octets l seat sec sits =
    let h = receiving s r in
    let turn = frame_turn l.member octets l.past in
    subst (λ (b : Bool). Sits settings.window (cond b l (lived l turn))
    (gather (slot_change s) (cond b
    (Arrived number s (answer l.member.setup.sci settings.window h octets) ∷ [])
    (reaction_facts s number 0 turn.reaction)) (cond b (heard octets ∷ h) h)) seat) (sym sec) sits

-- what was checked is what the station's life says of it
pub its-check : (settings : Settings) (r : Run) (number s : ℕ) (answer : Checked) (checks : IsChecked r number s answer)
    → {seats : List Seat} → (there : IsThere settings s r seats checks.profile)
    → answer ≡ checked_at s r there.alive.member.setup.sci checks.frame.octets
its-check settings r number s answer checks there =
    checks.is ∙ ap (λ (setup : Setup). checked_at s r setup.sci checks.frame.octets) (sym there.seated.1)

-- ---- the receive slots of a place

pub has-slots : (settings : Settings) (h : List Receiving) (count : ℕ) (a : Option Seat) (b : Option Life) (p : Option Profile)
    (seat : Seat) (slots : Slots) → IsSeated settings h count a b p → a ≡ Some seat → slots ≡ seat.slots
    → HasSlots settings h (Some slots) p
has-slots settings h count (Some found) (Some l) (Some p) seat slots seated is same =
    let here : found ≡ seat = cc is in
    let all : found.slots ≡ slots = ap (λ (x : Seat). x.slots) here ∙ sym same in
    subst (λ (x : Slots). SlotsStandFor p.sci settings.window x h) all
    (subst (λ (setup : Setup). SlotsStandFor setup.sci settings.window found.slots h) seated.1 seated.0.slots)
has-slots settings h count (Some found) (Some l) None seat slots seated is same = absurd seated
has-slots settings h count (Some found) None (Some p) seat slots seated is same = absurd seated
has-slots settings h count (Some found) None None seat slots seated is same = absurd seated
has-slots settings h count None b p seat slots seated is same = absurd (cc is)

pub has-none : (settings : Settings) (h : List Receiving) (count : ℕ) (a : Option Seat) (b : Option Life) (p : Option Profile)
    → IsSeated settings h count a b p → a ≡ None → HasSlots settings h None p
has-none settings h count None None None seated is = tt
has-none settings h count None None (Some p) seated is = absurd seated
has-none settings h count None (Some l) None seated is = absurd seated
has-none settings h count None (Some l) (Some p) seated is = absurd seated
has-none settings h count (Some found) b p seated is = absurd (cc is)
