-- Events that change no life.
use Rattle.std.proofs.Common.{◌≡◌, ◌<◌, ℕ, false, List, ◌∷◌, length, Option, lt_irrefl, refl, subst}
use Rattle.std.proofs.lemmas.Bool.{ne_eqb}
use Rattle.lan_core.specs.declared.event.Event.{Event}
use Rattle.lan_core.specs.declared.event.Event.TheVariants as events
use Rattle.lan_core.specs.declared.fact.Fact.{Fact}
use Rattle.lan_core.specs.declared.settings.Settings.{Settings}
use Rattle.lan_core.specs.Run.{Run, Happening, happened, stations}
use Rattle.lan_core.specs.Lives.{Life, life, life_after}
use Rattle.lan_core.specs.Order.{Exists, is_event_of}

pub claims-change-none : (settings : Settings) (s station user pn : ℕ) (shown : List Fact) (r : Run)
    → life settings s (happened (events.Claim station user pn) shown ∷ r) ≡ life settings s r
unfolding life
claims-change-none settings s station user pn shown r = refl

pub emissions-change-none : (settings : Settings) (s : ℕ) (shown : List Fact) (r : Run)
    → life settings s (happened events.Emit shown ∷ r) ≡ life settings s r
unfolding life
emissions-change-none settings s shown r = refl

others : (settings : Settings) (s : ℕ) (r : Run) (shown : List Fact) (e : Event) (l : Option Life)
    → s < length (stations r) → is_event_of s e ≡ false → life_after settings s r shown e l ≡ l
others settings s r shown (events.Start name sci priority) l there not =
    rw (ne_eqb (length (stations r)) s (λ same. lt_irrefl s (subst (λ n. s < n) same there))) refl
others settings s r shown (events.Tick station next) l there not = rw not refl
others settings s r shown (events.Deliver frame station) l there not = rw not refl
others settings s r shown (events.Restart station) l there not = rw not refl
others settings s r shown (events.Claim station user pn) l there not = refl
others settings s r shown events.Emit l there not = refl
others settings s r shown (events.Inject station octets) l there not = rw not refl

pub others-change-none : (settings : Settings) (s : ℕ) (x : Happening) (r : Run) → Exists s r
    → is_event_of s x.event ≡ false → life settings s (x ∷ r) ≡ life settings s r
unfolding life
others-change-none settings s x r there not =
    others settings s r x.facts x.event (life settings s r) there not
