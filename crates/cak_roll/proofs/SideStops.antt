-- What stops an event of a group among the events of both, by what the group itself answers.
use Rattle.std.proofs.Common.{◌≡◌, inl, inr, ◌+◌, ℕ, Bool, true, false, List, ◌∷◌, cond}
use Rattle.std.proofs.Common.{Option, Some, None, refl, sym, ap, ◌∙◌}
use Rattle.std.specs.Prelude.{option_map, option_and_then}
use Rattle.std.specs.Option.{option_or}
use Rattle.lan_base.specs.declared.address.Mi.{Mi}
use Rattle.lan_base.specs.declared.frame.UserFrame.{UserFrame}
use Rattle.lan_base.specs.declared.suite.Suite.{Suite}
use Rattle.aes_block.specs.declared.secret.Secret.{Secret}
use Rattle.lan_core.specs.declared.event.Event.{Event}
use Rattle.lan_core.specs.declared.event.Event.TheVariants as events
use Rattle.lan_core.specs.declared.fact.Fact.{Fact}
use Rattle.lan_core.specs.declared.settings.Settings.{Settings}
use Rattle.lan_core.specs.declared.stop.Stop.{Stop}
use Rattle.lan_core.specs.declared.stop.Stop.TheVariants as stops
use Rattle.lan_core.specs.declared.stop.Which.{Which}
use Rattle.lan_core.specs.Run.{Run, Happening, happened}
use Rattle.lan_core.specs.Lives.{drawn_mi}
use Rattle.lan_core.specs.Expected.{expected, drawn_from}
use Rattle.lan_core.specs.Stops.{draws_needed, is_spent, first_stop, stop_at, passed, stop_of_draw}
use Rattle.lan_core.specs.Stops.{stop_of_forgery, draws_in, drawn_before, mi_number, sak_number}
use Rattle.lan_core.specs.Stops.{sak_of_tick}
use Rattle.lan_core.specs.Standing.{Numbers, AreDrawn, number_of_sak}
use Rattle.lan_core.proofs.Public.{mi-shown}
use Rattle.cak_roll.specs.Stepping.{Supply, shown, stop_after}
use Rattle.cak_roll.specs.Standing.{AreTraced}
use Rattle.cak_roll.specs.inside.Noting.{repeating, given_before, number_over, over_both, DrawsOne}
use Rattle.cak_roll.specs.inside.Parts.{IsHomely}
use Rattle.cak_roll.specs.inside.Sides.{event_stop}
use Rattle.cak_roll.proofs.Traced.{traced-before}

-- ---- what is drawn

-- an event draws one value at most
pub draws-one : (settings : Settings) (users : List UserFrame) (r : Run) (event : Event)
    (nth : Supply) (facts : List Fact)
    → expected settings users r event (drawn_from settings.suite nth) ≡ Some facts
    → DrawsOne event facts
draws-one settings users r (events.Start name sci priority) nth facts shows = inr refl
draws-one settings users r (events.Tick s next) nth facts shows =
    inl (mi-shown settings users r (events.Tick s next) (drawn_from settings.suite nth) facts shows)
draws-one settings users r (events.Deliver frame s) nth facts shows = inr refl
draws-one settings users r (events.Restart s) nth facts shows = inr refl
draws-one settings users r (events.Claim s user pn) nth facts shows = inr refl
draws-one settings users r events.Emit nth facts shows = inr refl
draws-one settings users r (events.Inject s octets) nth facts shows = inr refl

-- ---- what a table of draws says

pub given-is : (suite : Suite) (both : Run) (drawn : Numbers) (y : Happening)
    → AreDrawn suite both drawn
    → given_before drawn (drawn_mi y.facts) (sak_of_tick y.facts y.event)
    ≡ drawn_before suite both y
given-is suite both drawn y are = go (drawn_mi y.facts) (sak_of_tick y.facts y.event)
  where
    later : (k : Option Secret) → option_and_then (number_of_sak drawn) k
        ≡ option_and_then (sak_number suite both) k
    later None = refl
    later (Some sak) = are.saks sak

    go : (m : Option Mi) (k : Option Secret) → given_before drawn m k
        ≡ option_or (option_and_then (mi_number suite both) m)
        (option_and_then (sak_number suite both) k)
    go None k = ap (λ o. option_or None o) (later k)
    go (Some mi) k =
        ap (λ o. option_or o (option_and_then (number_of_sak drawn) k)) (are.mis mi)
        ∙ ap (λ o. option_or (mi_number suite both mi) o) (later k)

pub repeats-is : (suite : Suite) (both : Run) (drawn : Numbers) (y : Happening) (next : ℕ)
    (o : Option ℕ) → AreDrawn suite both drawn → next ≡ drawn.count + 1
    → o ≡ drawn_before suite both y → repeating next o ≡ stop_of_draw suite both y
repeats-is suite both drawn y next o are number is =
    ap (repeating next) is
    ∙ ap (λ n. repeating n (drawn_before suite both y)) number
    ∙ ap (λ n. repeating (n + 1) (drawn_before suite both y)) are.count

-- ---- stops

no-forgery : (settings : Settings) (r : Run) (event : Event) → IsHomely event
    → stop_of_forgery settings r event ≡ None
no-forgery settings r (events.Inject s octets) homely = absurd homely
no-forgery settings r (events.Start name sci priority) homely = refl
no-forgery settings r (events.Tick s next) homely = refl
no-forgery settings r (events.Deliver frame s) homely = refl
no-forgery settings r (events.Restart s) homely = refl
no-forgery settings r (events.Claim s user pn) homely = refl
no-forgery settings r events.Emit homely = refl

module _ (settings : Settings) (users : List UserFrame) (r both : Run) (event : Event)
    (nth : Supply) (draws : List ℕ) (drawn : Numbers) (next : ℕ) (homely : IsHomely event)
    (traced : AreTraced settings.suite r both draws) (are : AreDrawn settings.suite both drawn)
    (number : next ≡ drawn.count + 1) where
  -- by what an event shows, where its draws are there
  shows-stop : (facts : List Fact) (stop : Stop)
      → expected settings users r event (drawn_from settings.suite nth) ≡ Some facts
      → stop_at settings r event facts ≡ Some stop
      → Some (over_both draws next stop) ≡ stop_after settings.suite r both (happened event facts)
  shows-stop facts stop shows is = go (passed (y ∷ r)) refl is
    where
      y : Happening
      y = happened event facts

      some-same : {A : Type 0} {a b : A} → Some a ≡ Some b → a ≡ b
      some-same e = cc e

      drew : (o : Option ℕ) → drawn_before settings.suite r y ≡ o
          → option_or (option_map (λ first. stops.RepeatedDraw first (draws_in settings.suite r + 1)) o)
          (stop_of_forgery settings r event) ≡ Some stop
          → Some (over_both draws next stop) ≡ stop_of_draw settings.suite both y
      drew None is halts =
          let none = no-forgery settings r event homely in absurd (cc (halts, none))
      drew (Some own) is halts =
          ap (λ s. Some (over_both draws next s)) (sym (some-same halts))
          ∙ repeats-is settings.suite both drawn y next (Some (number_over draws own)) are number
          (traced-before settings.suite y r both draws own traced
          (draws-one settings users r event nth facts shows) is)

      go : (o : Option Which) → passed (y ∷ r) ≡ o
          → option_or (option_map stops.Limit o)
          (option_or (stop_of_draw settings.suite r y) (stop_of_forgery settings r event)) ≡ Some stop
          → Some (over_both draws next stop)
          ≡ option_or (option_map stops.Limit (passed (y ∷ r))) (stop_of_draw settings.suite both y)
      go (Some which) passes halts =
          ap (λ s. Some (over_both draws next s)) (sym (some-same halts))
          ∙ sym (ap (λ o. option_or (option_map stops.Limit o) (stop_of_draw settings.suite both y))
          passes)
      go None passes halts =
          drew (drawn_before settings.suite r y) refl halts
          ∙ sym (ap (λ o. option_or (option_map stops.Limit o) (stop_of_draw settings.suite both y))
          passes)

  pub group-stops : (stop : Stop) → first_stop settings users r event nth ≡ Some stop
      → Some (over_both draws next stop) ≡ event_stop settings users r both event nth
  unfolding first_stop
  group-stops stop is = go (is_spent (draws_needed settings r event) nth) is
    where
      some-same : {A : Type 0} {a b : A} → Some a ≡ Some b → a ≡ b
      some-same e = cc e

      within : (o : Option (List Fact))
          → expected settings users r event (drawn_from settings.suite nth) ≡ o
          → option_and_then (stop_at settings r event) o ≡ Some stop
          → Some (over_both draws next stop)
          ≡ option_and_then (stop_after settings.suite r both)
          (option_map (λ facts. happened event facts) o)
      within None shows halts = absurd (cc halts)
      within (Some facts) shows halts = shows-stop facts stop shows halts

      go : (b : Bool) → cond b (Some stops.DrawsSpent)
          (option_and_then (stop_at settings r event)
          (expected settings users r event (drawn_from settings.suite nth))) ≡ Some stop
          → Some (over_both draws next stop) ≡ cond b (Some stops.DrawsSpent)
          (option_and_then (stop_after settings.suite r both) (shown settings users r event nth))
      go true halts = ap (λ s. Some (over_both draws next s)) (sym (some-same halts))
      go false halts =
          within (expected settings users r event (drawn_from settings.suite nth)) refl halts

module _ (settings : Settings) (users : List UserFrame) (r both : Run) (event : Event)
    (nth : Supply) where
  -- an event that the group lets go on is judged by the draws of both alone
  pub others-stop : (facts : List Fact) → first_stop settings users r event nth ≡ None
      → expected settings users r event (drawn_from settings.suite nth) ≡ Some facts
      → event_stop settings users r both event nth
      ≡ stop_of_draw settings.suite both (happened event facts)
  unfolding first_stop
  others-stop facts none shows = go (is_spent (draws_needed settings r event) nth) none
    where
      y : Happening
      y = happened event facts

      limits : (o : Option Which) (p : Option Stop)
          → option_or (option_map stops.Limit o) p ≡ None
          → option_or (option_map stops.Limit o) (stop_of_draw settings.suite both y)
          ≡ stop_of_draw settings.suite both y
      limits None p none = refl
      limits (Some which) p none = absurd (cc none)

      here : option_and_then (stop_at settings r event)
          (expected settings users r event (drawn_from settings.suite nth)) ≡ None
          → stop_after settings.suite r both y ≡ stop_of_draw settings.suite both y
      here none =
          limits (passed (y ∷ r))
          (option_or (stop_of_draw settings.suite r y) (stop_of_forgery settings r event))
          (sym (ap (option_and_then (stop_at settings r event)) shows) ∙ none)

      go : (b : Bool) → cond b (Some stops.DrawsSpent)
          (option_and_then (stop_at settings r event)
          (expected settings users r event (drawn_from settings.suite nth))) ≡ None
          → cond b (Some stops.DrawsSpent)
          (option_and_then (stop_after settings.suite r both) (shown settings users r event nth))
          ≡ stop_of_draw settings.suite both y
      go true none = absurd (cc none)
      go false none =
          ap (λ o. option_and_then (stop_after settings.suite r both)
          (option_map (λ facts. happened event facts) o)) shows ∙ here none
