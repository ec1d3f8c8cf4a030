-- More user frames change nothing of what was.
use Rattle.std.proofs.Common.{◌≡◌, ◌∙◌, ◌-◌, ℕ, zero, suc, Bool, true, false, cond, List, [], ◌∷◌}
use Rattle.std.proofs.Common.{◌++◌, length, map, drop}
use Rattle.std.proofs.Common.{Option, Some, None, refl, sym, ap, subst}
use Rattle.std.specs.Prelude.{◌==◌, option_map, option_and_then, slice_get}
use Rattle.lan_base.specs.declared.frame.UserFrame.{UserFrame}
use Rattle.lan_core.specs.declared.event.Event.{Event}
use Rattle.lan_core.specs.declared.event.Event.TheVariants as events
use Rattle.lan_core.specs.declared.fact.Fact.{Fact}
use Rattle.lan_core.specs.declared.fact.Fact.TheVariants as facts
use Rattle.lan_core.specs.declared.settings.Settings.{Settings}
use Rattle.lan_core.specs.declared.waiting.Sealed.{Sealed}
use Rattle.lan_core.specs.Run.{Run, Happening, stations}
use Rattle.lan_core.specs.Ledgers.{emitted, next_frame}
use Rattle.lan_core.specs.Claims.{Waiting, claimed, waiting, user_at, frame_by, frame_of_claim}
use Rattle.lan_core.specs.Expected.{expected, drawn_in, Drawn, emit_facts}
use Rattle.lan_core.specs.Order.{IsAllowed, IsSendable}
use Rattle.lan_core.specs.Legal.{IsStep, IsStepped, IsLegal}
use Rattle.lan_core.specs.Standing.{State, StandsFor, sealed_of}
use Rattle.lan_core.proofs.FramesNumbered.{mapped, chained}

-- ---- user frames

-- what is there stays where more come behind it
behind : {A : Type 0} (xs more : List A) (n : ℕ) (a : A) → slice_get xs n ≡ Some a
    → slice_get (xs ++ more) n ≡ Some a
behind [] more n a is = absurd (cc is)
behind (x ∷ xs) more zero a is = is
behind (x ∷ xs) more (suc n) a is = behind xs more n a is

user-stays : (users more : List UserFrame) (number : ℕ) (frame : UserFrame)
    → user_at users number ≡ Some frame
    → user_at (users ++ more) number ≡ Some frame
user-stays users more number frame is = go (number == 0) is
  where
    go : (b : Bool) → cond b None (slice_get users (number - 1)) ≡ Some frame
        → cond b None (slice_get (users ++ more) (number - 1)) ≡ Some frame
    go true is = absurd (cc is)
    go false is = behind users more (number - 1) frame is

still-sendable : (users more : List UserFrame) (number : ℕ) (o : Option UserFrame)
    → user_at users number ≡ o
    → IsSendable o → IsSendable (user_at (users ++ more) number)
still-sendable users more number None is sendable = elim sendable [ ]
still-sendable users more number (Some frame) is sendable =
    subst IsSendable (sym (user-stays users more number frame is)) sendable

frame-stays : (users more : List UserFrame) (r : Run) (w : Waiting) (octets : List ℕ)
    → frame_of_claim users r w ≡ Some octets → frame_of_claim (users ++ more) r w ≡ Some octets
frame-stays users more r w octets is =
    let place = chained (λ p. option_map (frame_by w p) (user_at users w.user))
    (slice_get (stations r) w.station) octets is in
    let user = mapped (frame_by w place.0) (user_at users w.user) octets place.2 in
    ap (option_and_then (λ p. option_map (frame_by w p) (user_at (users ++ more) w.user))) place.1
    ∙ ap (option_map (frame_by w place.0)) (user-stays users more w.user user.0 user.1)
    ∙ ap Some user.2

emission-stays : (users more : List UserFrame) (r : Run) (o : Option Waiting) (shown : List Fact)
    → option_and_then (emit_facts users r) o ≡ Some shown
    → option_and_then (emit_facts (users ++ more) r) o ≡ Some shown
emission-stays users more r None shown is = absurd (cc is)
emission-stays users more r (Some w) shown is =
    let puts = mapped (λ octets. facts.Framed (next_frame r) w.station true octets ∷ [])
    (frame_of_claim users r w) shown is in
    ap (option_map (λ octets. facts.Framed (next_frame r) w.station true octets ∷ []))
    (frame-stays users more r w puts.0 puts.1)
    ∙ ap Some puts.2

-- ---- steps

shows-more : (settings : Settings) (users more : List UserFrame) (r : Run) (event : Event)
    (drawn : Drawn) (shown : List Fact)
    → expected settings users r event drawn ≡ Some shown
    → expected settings (users ++ more) r event drawn ≡ Some shown
unfolding expected
shows-more settings users more r events.Emit drawn shown is =
    emission-stays users more r (waiting settings r) shown is
shows-more settings users more r (events.Start name sci priority) drawn shown is = is
shows-more settings users more r (events.Tick s next) drawn shown is = is
shows-more settings users more r (events.Deliver frame s) drawn shown is = is
shows-more settings users more r (events.Restart s) drawn shown is = is
shows-more settings users more r (events.Claim s user pn) drawn shown is = is
shows-more settings users more r (events.Inject s octets) drawn shown is = is

allowed-more : (settings : Settings) (users more : List UserFrame) (r : Run) (x : Happening)
    (event : Event)
    → IsAllowed settings users r x event → IsAllowed settings (users ++ more) r x event
allowed-more settings users more r x (events.Claim s user pn) (exists, sendable, numbered) =
    (exists, still-sendable users more user (user_at users user) refl sendable, numbered)
allowed-more settings users more r x (events.Start name sci priority) is = is
allowed-more settings users more r x (events.Tick s next) is = is
allowed-more settings users more r x (events.Deliver frame s) is = is
allowed-more settings users more r x (events.Restart s) is = is
allowed-more settings users more r x events.Emit is = is
allowed-more settings users more r x (events.Inject s octets) is = is

step-more : (settings : Settings) (users more : List UserFrame) (x : Happening) (r : Run)
    → IsStep settings users x r
    → IsStep settings (users ++ more) x r
step-more settings users more x r step = record {
  setting = step.setting;
  in_order = (step.in_order.0, allowed-more settings users more r x x.event step.in_order.1);
  shows = shows-more settings users more r x.event (drawn_in x.facts) x.facts step.shows;
  within = step.within;
}

pub stepped-more : (settings : Settings) (users more : List UserFrame) (r : Run)
    → IsStepped settings users r
    → IsStepped settings (users ++ more) r
stepped-more settings users more [] stepped = tt
stepped-more settings users more (x ∷ r) (step, before) =
    (step-more settings users more x r step, stepped-more settings users more r before)

pub legal-more : (settings : Settings) (users more : List UserFrame) (r : Run)
    → IsLegal settings users r
    → IsLegal settings (users ++ more) r
legal-more settings users more r legal =
    record { stepped = stepped-more settings users more r legal.stepped; excused = legal.excused }

-- ---- a group

-- octets that wait
abbrev seal : Waiting → List ℕ → Sealed
seal w octets = record { station = w.station; octets = octets }

sealed-stays : (users more : List UserFrame) (r : Run) (w : Waiting) (a : Sealed)
    → sealed_of users r w ≡ Some a
    → sealed_of (users ++ more) r w ≡ Some a
sealed-stays users more r w a is =
    let found = mapped (seal w) (frame_of_claim users r w) a is in
    ap (option_map (seal w)) (frame-stays users more r w found.0 found.1) ∙ ap Some found.2

first-is : {A : Type 0} (a b : A) (xs ys : List A) → a ∷ xs ≡ b ∷ ys → a ≡ b
first-is a b xs ys is = cc is

later-is : {A : Type 0} (a b : A) (xs ys : List A) → a ∷ xs ≡ b ∷ ys → xs ≡ ys
later-is a b xs ys is = cc is

waits-more : (users more : List UserFrame) (r : Run) (sealed : List Sealed) (ws : List Waiting)
    → map Some sealed ≡ map (sealed_of users r) ws
    → map Some sealed ≡ map (sealed_of (users ++ more) r) ws
waits-more users more r [] [] is = refl
waits-more users more r [] (w ∷ ws) is = absurd (cc is)
waits-more users more r (a ∷ sealed) [] is = absurd (cc is)
waits-more users more r (a ∷ sealed) (w ∷ ws) is =
    let one = first-is (Some a) (sealed_of users r w) (map Some sealed) (map (sealed_of users r) ws)
    is in
    let others = later-is (Some a) (sealed_of users r w) (map Some sealed)
    (map (sealed_of users r) ws) is in
    ap (λ o. o ∷ map Some sealed) (sym (sealed-stays users more r w a (sym one)))
    ∙ ap (λ os. sealed_of (users ++ more) r w ∷ os) (waits-more users more r sealed ws others)

pub stands-more : (settings : Settings) (users more : List UserFrame) (lan : State) (r : Run)
    → StandsFor settings users lan r → StandsFor settings (users ++ more) lan r
stands-more settings users more lan r stands = record {
  set_up = stands.set_up;
  setting = stands.setting;
  goes = stands.goes;
  names = stands.names;
  on_air = stands.on_air;
  numbered = stands.numbered;
  seats = stands.seats;
  waiting = waits-more users more r lan.waiting (drop (length (emitted r)) (claimed settings r))
      stands.waiting;
  in_turn = stands.in_turn;
  ticked = stands.ticked;
  drawn = stands.drawn;
  within = stands.within;
}
