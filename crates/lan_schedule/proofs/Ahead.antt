-- The words of all stations take the step of an event.
use Rattle.std.proofs.Common.{◌≡◌, ◌≤◌, ℕ, Bool, true, false, List, [], ◌∷◌, ◌++◌, length, refl}
use Rattle.std.proofs.Common.{sym, ap, ◌∙◌, subst, append-nil}
use Rattle.std.specs.Prelude.{Result, Ok, Err, OnOk}
use Rattle.lan_base.specs.declared.address.Sci.{Sci}
use Rattle.lan_base.specs.declared.name.Name.{Name}
use Rattle.association_slots.specs.Views.{ControlAt}
use Rattle.association_slots.specs.declared.view.ControlView.{ControlView}
use Rattle.lan_core.specs.declared.event.Event.{Event}
use Rattle.lan_core.specs.declared.event.Event.TheVariants as events
use Rattle.lan_core.specs.declared.settings.Settings.{Settings}
use Rattle.lan_core.specs.Run.{Run, Profile, stations, started}
use Rattle.group_safety.specs.Accounts.{Account, blank, account_at, ahead, onward}
use Rattle.group_safety.specs.Transmitting.{Carried, CarriesAt}
use Rattle.station_words.specs.Telling.{KeepUp, CatchUp, Tells}
use Rattle.station_words.specs.Ties.{AreTiedBy, AreTied, AreAheadBy, AreAhead, HaveCaughtUp}
use Rattle.station_words.specs.Ties.{CaughtAhead, HaveKeptUp, KeepAhead}
use Rattle.station_words.proofs.Public.{ahead-carried, onward-carried}
use Rattle.worker_races.specs.Carded.{AreCarded, KeepCarried}
use Rattle.lan_schedule.specs.Numbers.{shown_next}
use Rattle.lan_schedule.specs.Stages.{Says}
use Rattle.lan_schedule.specs.inside.Set.{SaysAhead, AreSet, IsGiven}

-- ---- by what the words say

-- words that have caught up with a run keep up with it
pub keeps-up : (settings : Settings) (r : Run) (cs : List ControlAt) → HaveCaughtUp settings r cs
    → HaveKeptUp settings r cs
keeps-up settings r cs caught = record {
  many = caught.many;
  each = λ s c there. let t = caught.each s c there in (t.0, t.1, t.2.keep_up);
}

-- the number that the words show
pub given-by : (raced racing : Bool) (settings : Settings) (r : Run) (s n : ℕ)
    (cs : List ControlAt) → (AreTied settings r cs → n ≡ shown_next settings s r)
    → (HaveKeptUp settings r cs → (shown_next settings s r ≤ n)
    × (shown_next settings s r ≡ 0 → n ≡ 0))
    → Says raced racing settings r cs → IsGiven raced (shown_next settings s r) n
given-by false racing settings r s n cs tied kept says = tied says
given-by true false settings r s n cs tied kept says = kept (keeps-up settings r cs says)
given-by true true settings r s n cs tied kept says = kept says

-- from before the step of an event to where it was taken
pub ahead-by : (raced racing : Bool) (settings : Settings) (r : Run) (event : Event)
    (cs ds : List ControlAt) → (AreTied settings r cs → AreAhead settings r event ds)
    → (HaveCaughtUp settings r cs → CaughtAhead settings r event ds)
    → (HaveKeptUp settings r cs → KeepAhead settings r event ds)
    → Says raced racing settings r cs → SaysAhead raced racing settings r event ds
ahead-by false racing settings r event cs ds tied caught kept says = tied says
ahead-by true false settings r event cs ds tied caught kept says = caught says
ahead-by true true settings r event cs ds tied caught kept says = kept says

-- from there on behind the event
pub behind-by : (raced racing : Bool) (settings : Settings) (r q : Run) (event : Event)
    (cs ds : List ControlAt)
    → (raced ≡ false → AreAhead settings r event cs → AreTied settings q ds)
    → (CaughtAhead settings r event cs → HaveCaughtUp settings q ds)
    → (KeepAhead settings r event cs → HaveKeptUp settings q ds)
    → SaysAhead raced racing settings r event cs → Says raced racing settings q ds
behind-by false racing settings r q event cs ds tied caught kept says = tied refl says
behind-by true false settings r q event cs ds tied caught kept says = caught says
behind-by true true settings r q event cs ds tied caught kept says = kept says

-- where the step of an event was taken, the words keep up with what is carried
carried-by : (Say : Account → ControlView → Type 0) (takes : ℕ → Event → Account → Account)
    (settings : Settings) (r : Run) (event : Event) (cs : List ControlAt)
    → ((s : ℕ) (a : Account) → (takes s event a).carried ≡ a.carried)
    → ((a : Account) (c : ControlView) → Say a c → KeepUp a c)
    → AreAheadBy Say takes settings r event cs → KeepCarried settings r cs
carried-by Say takes settings r event cs same keeps says s c there =
    let t = says.each s c there in
    let a : Account = takes s event (account_at settings s r t.0) in (
      a,
      subst (λ (k : Carried). CarriesAt settings s r k)
          (sym (same s (account_at settings s r t.0))) t.1,
      keeps a c.view t.2,
    )

pub carries-ahead : (raced racing : Bool) (settings : Settings) (r : Run) (event : Event)
    (cs : List ControlAt) → SaysAhead raced racing settings r event cs → KeepCarried settings r cs
carries-ahead false racing settings r event cs says =
    carried-by Tells ahead settings r event cs (λ s a. ahead-carried s event a)
    (λ a c tells. tells.keep_up) says
carries-ahead true false settings r event cs says =
    carried-by CatchUp onward settings r event cs (λ s a. onward-carried s event a)
    (λ a c caught. caught.keep_up) says
carries-ahead true true settings r event cs says =
    carried-by KeepUp onward settings r event cs (λ s a. onward-carried s event a)
    (λ a c kept. kept) says

-- ---- a station that starts

-- as many words as stations
said-many : (raced racing : Bool) (settings : Settings) (r : Run) (cs : List ControlAt)
    → Says raced racing settings r cs → length cs ≡ length (stations r)
said-many false racing settings r cs says = says.many
said-many true false settings r cs says = says.many
said-many true true settings r cs says = says.many

-- its words owe no card
pub start-cards : (raced racing : Bool) (settings : Settings) (r : Run) (event : Event)
    (name : Name) (sci : Sci) (priority : ℕ) (cs ds : List ControlAt)
    → event ≡ events.Start name sci priority
    → ((c : ControlAt) → length cs ≡ length (stations r) → AreCarded settings r cs
    → AreCarded settings r (cs ++ c ∷ []))
    → AreSet event raced racing settings r cs → AreCarded settings r cs
    → (c : ControlAt) × (ds ≡ cs ++ c ∷ []) × Tells blank c.view → AreCarded settings r ds
start-cards raced racing settings r event name sci priority cs ds is more set carded made =
    let says : Says raced racing settings r cs =
    subst (λ (e : Event). AreSet e raced racing settings r cs) is set in
    subst (λ (es : List ControlAt). AreCarded settings r es) (sym made.1)
    (more made.0 (said-many raced racing settings r cs says) carded)

pub on-ok : {E : Type 0} (r : Result (Unit {0}) E) (P Q : Type 0) → (P → Q) → OnOk r P → OnOk r Q
on-ok (Ok done) P Q f is = f is
on-ok (Err e) P Q f is = is

-- its words stand behind the others, and nothing happened to them
new-ahead : (raced racing : Bool) (settings : Settings) (r : Run) (event : Event)
    (cs ds : List ControlAt)
    → ((c : ControlAt) → Tells blank c.view → AreTied settings r cs
    → AreAhead settings r event (cs ++ c ∷ []))
    → ((c : ControlAt) → Tells blank c.view → HaveCaughtUp settings r cs
    → CaughtAhead settings r event (cs ++ c ∷ []))
    → ((c : ControlAt) → Tells blank c.view → HaveKeptUp settings r cs
    → KeepAhead settings r event (cs ++ c ∷ []))
    → Says raced racing settings r cs
    → (c : ControlAt) × (ds ≡ cs ++ c ∷ []) × Tells blank c.view
    → SaysAhead raced racing settings r event ds
new-ahead raced racing settings r event cs ds tied caught kept says made =
    let c = made.0 in
    subst (λ (es : List ControlAt). SaysAhead raced racing settings r event es) (sym made.1)
    (ahead-by raced racing settings r event cs (cs ++ c ∷ []) (tied c made.2) (caught c made.2)
    (kept c made.2) says)

pub start-ahead : (raced racing : Bool) (settings : Settings) (r : Run) (event : Event)
    (name : Name) (sci : Sci) (priority : ℕ) (cs ds : List ControlAt)
    → event ≡ events.Start name sci priority
    → ((c : ControlAt) → AreTied settings r cs → Tells blank c.view
    → AreAhead settings r (events.Start name sci priority) (cs ++ c ∷ []))
    → ((c : ControlAt) → HaveCaughtUp settings r cs → Tells blank c.view
    → CaughtAhead settings r (events.Start name sci priority) (cs ++ c ∷ []))
    → ((c : ControlAt) → HaveKeptUp settings r cs → Tells blank c.view
    → KeepAhead settings r (events.Start name sci priority) (cs ++ c ∷ []))
    → AreSet event raced racing settings r cs
    → (c : ControlAt) × (ds ≡ cs ++ c ∷ []) × Tells blank c.view
    → SaysAhead raced racing settings r event ds
start-ahead raced racing settings r event name sci priority cs ds is tied caught kept set made =
    let says : Says raced racing settings r cs =
    subst (λ (e : Event). AreSet e raced racing settings r cs) is set in
    subst (λ (e : Event). SaysAhead raced racing settings r e ds) (sym is)
    (new-ahead raced racing settings r (events.Start name sci priority) cs ds
    (λ c tells t. tied c t tells) (λ c tells t. caught c t tells) (λ c tells t. kept c t tells) says
    made)

-- ---- events that take no step

plain-by : (Say : Account → ControlView → Type 0) (takes : ℕ → Event → Account → Account)
    (settings : Settings) (r : Run) (event : Event) (cs : List ControlAt)
    → ((s : ℕ) (a : Account) → takes s event a ≡ a) → started event ≡ []
    → AreTiedBy Say settings r cs → AreAheadBy Say takes settings r event cs
plain-by Say takes settings r event cs same none says = record {
  many = says.many ∙ ap (λ (ps : List Profile). length ps) (sym (append-nil (stations r)))
      ∙ ap (λ (ps : List Profile). length (stations r ++ ps)) (sym none);
  each = λ s c there.
      let t = says.each s c there in (
        t.0,
        t.1,
        subst (λ (a : Account). Say a c.view) (sym (same s (account_at settings s r t.0))) t.2,
      );
}

plain : (raced racing : Bool) (settings : Settings) (r : Run) (event : Event)
    (cs : List ControlAt) → ((s : ℕ) (a : Account) → ahead s event a ≡ a)
    → ((s : ℕ) (a : Account) → onward s event a ≡ a) → started event ≡ []
    → Says raced racing settings r cs → SaysAhead raced racing settings r event cs
plain raced racing settings r event cs exact any none says =
    ahead-by raced racing settings r event cs cs
    (plain-by Tells ahead settings r event cs exact none)
    (plain-by CatchUp onward settings r event cs any none)
    (plain-by KeepUp onward settings r event cs any none) says

-- an event that starts no station finds the words ahead of it
pub set-ahead : (raced racing : Bool) (settings : Settings) (r : Run) (cs : List ControlAt)
    (event : Event) → ((x : _) (x' : _) (x'' : _) → event ≡ events.Start x x' x'' → ⊥)
    → AreSet event raced racing settings r cs → SaysAhead raced racing settings r event cs
set-ahead raced racing settings r cs (events.Start name sci priority) other set =
    absurd (other name sci priority refl)
set-ahead raced racing settings r cs (events.Tick s next) other set = set
set-ahead raced racing settings r cs (events.Deliver frame s) other set =
    plain raced racing settings r (events.Deliver frame s) cs (λ t a. refl) (λ t a. refl) refl set
set-ahead raced racing settings r cs (events.Restart s) other set =
    plain raced racing settings r (events.Restart s) cs (λ t a. refl) (λ t a. refl) refl set
set-ahead raced racing settings r cs (events.Claim s user pn) other set = set
set-ahead raced racing settings r cs events.Emit other set =
    plain raced racing settings r events.Emit cs (λ t a. refl) (λ t a. refl) refl set
set-ahead raced racing settings r cs (events.Inject s octets) other set =
    plain raced racing settings r (events.Inject s octets) cs (λ t a. refl) (λ t a. refl) refl set
