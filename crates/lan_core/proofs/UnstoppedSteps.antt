-- An unstopped event is a step.
use Rattle.std.proofs.Common.{◌≡◌, ◌∙◌, ◌⊎◌, ℕ, Bool, true, false, cond, List, [], ◌∷◌, length}
use Rattle.std.proofs.Common.{Option, Some, None, inl, inr, refl, sym, ap, subst}
use Rattle.std.specs.Prelude.{option_map, option_and_then}
use Rattle.lan_base.specs.declared.address.Mi.{Mi}
use Rattle.lan_base.specs.declared.frame.UserFrame.{UserFrame}
use Rattle.lan_base.specs.Suites.{sak_draws}
use Rattle.aes_block.specs.declared.secret.Secret.{Secret}
use Rattle.sak_exchange.specs.declared.held_key.Key.{Key}
use Rattle.mka_station.specs.Drawing.{makes_next, sak_of}
use Rattle.mka_station.specs.Standing.{drawn_mi as mi_of_draw}
use Rattle.lan_core.specs.declared.event.Event.{Event}
use Rattle.lan_core.specs.declared.event.Event.TheVariants as events
use Rattle.lan_core.specs.declared.fact.Fact.{Fact}
use Rattle.lan_core.specs.declared.fact.Fact.TheVariants as facts
use Rattle.lan_core.specs.declared.settings.Settings.{Settings}
use Rattle.lan_core.specs.declared.stop.Stop.{Stop}
use Rattle.lan_core.specs.declared.stop.Stop.TheVariants.{Limit, DrawsSpent}
use Rattle.lan_core.specs.Run.{Run, Happening, happened, stations}
use Rattle.lan_core.specs.Lives.{Life, life, seen_at, drawn_sak, sak_in, transmitting_at}
use Rattle.lan_core.specs.Claims.{user_at}
use Rattle.lan_core.specs.Expected.{expected, drawn_in, tick_facts, restart_facts}
use Rattle.lan_core.specs.Types.{IsMi, IfDrawn}
use Rattle.lan_core.specs.Order.{IsAllowed, IsShown, IsClaimable, IsOfSuite}
use Rattle.lan_core.specs.Legal.{IsStep, IsStepped, IsLegal}
use Rattle.lan_core.specs.Fresh.{IsFresh, IsUnforged}
use Rattle.lan_core.specs.Stops.{passed, stop_of_draw, stop_of_forgery, stop_at, first_stop}
use Rattle.lan_core.specs.Stops.{draws_needed, draws_at_tick, is_spent}
use Rattle.lan_core.specs.Stops.{IsNextShown, IsDemanded}
use Rattle.lan_core.specs.Unstopped.{IsUnstopped, AreDraws}
use Rattle.lan_core.proofs.FramesNumbered.{mapped, chained}
use Rattle.lan_core.proofs.LimitsPassed.{within-where}
use Rattle.lan_core.proofs.ExcusesStay.{step-legal}
use Rattle.lan_core.proofs.StaysFresh.{neither, stays-fresh, stays-unforged, unmapped}
use Rattle.lan_core.proofs.StaysThrifty.{needs-no-excuse}
use Rattle.lan_core.proofs.TickDraws.{tick-draws, sak-shown, tick-same, mi-is, sak-is, suite-of}

-- ---- no stop

-- nothing stops an event
pub record MeetsNoStop (settings : Settings) (r : Run) (event : Event) (nth : ℕ → Option (List ℕ))
    (shown : List Fact) :
    Type 0 where
  pub enough : is_spent (draws_needed settings r event) nth ≡ false
  pub limits : passed (happened event shown ∷ r) ≡ None
  pub draw : stop_of_draw settings.suite r (happened event shown) ≡ None
  pub forgery : stop_of_forgery settings r event ≡ None

unstopped_by : (settings : Settings) (r : Run) (event : Event) (nth : ℕ → Option (List ℕ))
    (shown : List Fact) (b : Bool)
    → is_spent (draws_needed settings r event) nth ≡ b → (stop : Stop)
    → cond b (Some stop) (stop_at settings r event shown) ≡ None
    → MeetsNoStop settings r event nth shown
unstopped_by settings r event nth shown true spent stop none = absurd (cc none)
unstopped_by settings r event nth shown false enough stop none =
    let x = happened event shown in
    let parts = neither (option_map Limit (passed (x ∷ r))) _ none in
    let others = neither (stop_of_draw settings.suite r x) (stop_of_forgery settings r event)
    parts.1 in
    record {
      enough = enough;
      limits = unmapped Limit (passed (x ∷ r)) parts.0;
      draw = others.0;
      forgery = others.1;
    }

pub unstopped : (settings : Settings) (users : List UserFrame) (r : Run) (given : Option UserFrame)
    (event : Event)
    (nth : ℕ → Option (List ℕ)) (shown : List Fact)
    → IsUnstopped settings users r given event nth shown
    → MeetsNoStop settings r event nth shown
unfolding first_stop
unstopped settings users r given event nth shown goes =
    let spent = is_spent (draws_needed settings r event) nth in
    unstopped_by settings r event nth shown spent refl DrawsSpent
    (ap (λ o. cond spent (Some DrawsSpent) (option_and_then (stop_at settings r event) o))
    (sym goes.shows) ∙ goes.goes)

-- ---- what an event shows

-- an event may come with what it shows, and shows what it has to by it
abbrev Fits : Settings → List UserFrame → Run → Event → List Fact → Type 0
Fits settings users r event shown =
    IsAllowed settings users r (happened event shown) event
    × (expected settings users r event (drawn_in shown) ≡ Some shown)

-- ---- each event

-- a station that starts, or starts again, draws a member identifier
drawn : (nth : ℕ → Option (List ℕ)) (mi : Mi) → option_map mi_of_draw (nth 0) ≡ Some mi
    → (draw : List ℕ) × (nth 0 ≡ Some draw) × (mi_of_draw draw ≡ mi)
drawn nth mi is = mapped mi_of_draw (nth 0) mi is

shown-in-order : (settings : Settings) (s shown : ℕ) (x : Happening) (r : Run) (k : Option Key)
    → IsNextShown settings s r shown k → IsShown settings s shown x r k
shown-in-order settings s shown x r None is = is
shown-in-order settings s shown x r (Some k) (some, least) = (some, inl least)

claimed-in-order : (settings : Settings) (s : ℕ) (r : Run) (pn : ℕ) (given named : Option UserFrame)
    (k : Option Key)
    → IsDemanded settings s r pn given named k → (pn ≡ 0) ⊎ IsClaimable settings s r pn k
claimed-in-order settings s r pn given named None none = inl none
claimed-in-order settings s r pn given named (Some k) (inl (none, over)) = inl none
claimed-in-order settings s r pn given named (Some k) (inr (some, least, most, same)) =
    inr (least, most)

tick-shows : (settings : Settings) (users : List UserFrame) (s next : ℕ) (r : Run) (l : Life)
    (sak : Secret) (b : Bool)
    → makes_next l.member l.past (seen_at settings s r l next) ≡ b → life settings s r ≡ Some l
    → let shown = tick_facts settings s r next sak l in
    expected settings users r (events.Tick s next) (drawn_in shown) ≡ Some shown
unfolding expected
tick-shows settings users s next r l sak true makes living =
    let shown = tick_facts settings s r next sak l in
    let drew = sak-shown settings s r next sak l makes in
    ap (option_map (tick_facts settings s r next (sak_in shown))) living
    ∙ ap (λ sak. Some (tick_facts settings s r next sak l)) drew
tick-shows settings users s next r l sak false none living =
    let shown = tick_facts settings s r next sak l in
    ap (option_map (tick_facts settings s r next (sak_in shown))) living
    ∙ ap Some (tick-same settings s r next (sak_in shown) sak l none)

-- what is drawn passes a test, where it does if a key is made
if_drawn : (P : Secret → Type 0) (sak : Secret) (b : Bool) → (b ≡ true → P sak)
    → IfDrawn P (cond b (Some sak) None)
if_drawn P sak true is = is refl
if_drawn P sak false is = tt

tick-draws-well : (settings : Settings) (s next : ℕ) (r : Run) (nth : ℕ → Option (List ℕ))
    (l : Life)
    → AreDraws nth → life settings s r ≡ Some l
    → is_spent (draws_at_tick settings s r next (life settings s r)) nth ≡ false
    → IfDrawn (IsOfSuite settings)
    (drawn_sak (tick_facts settings s r next (sak_of settings.suite nth) l))
tick-draws-well settings s next r nth l draws living enough =
    let sak = sak_of settings.suite nth in
    let makes = makes_next l.member l.past (seen_at settings s r l next) in
    subst (IfDrawn (IsOfSuite settings)) (sym (tick-draws settings s r next sak l))
    (if_drawn (IsOfSuite settings) sak makes (λ is.
    sak-is settings nth draws
    (subst (λ suite. is_spent (sak_draws suite) nth ≡ false) (suite-of settings s r l living)
    (ap (λ b. is_spent (cond b (sak_draws l.member.setup.suite) 0) nth) (sym is)
    ∙ ap (λ o. is_spent (draws_at_tick settings s r next o) nth) (sym living) ∙ enough))))

fits : (settings : Settings) (users : List UserFrame) (r : Run) (given : Option UserFrame)
    (event : Event)
    (nth : ℕ → Option (List ℕ)) (shown : List Fact)
    → IsUnstopped settings users r given event nth shown
    → is_spent (draws_needed settings r event) nth ≡ false → Fits settings users r event shown
unfolding expected
fits settings users r given (events.Start name sci priority) nth shown on enough =
    let begins = mapped (λ mi. facts.Life (length (stations r)) mi ∷ [])
    (option_map mi_of_draw (nth 0)) shown on.shows in
    let draw = drawn nth begins.0 begins.1 in
    let is : IsMi begins.0 = subst IsMi draw.2 (mi-is nth on.draws draw.0 draw.1) in
    subst (Fits settings users r (events.Start name sci priority)) begins.2
    ((on.may_come, is), refl)
fits settings users r given (events.Tick s next) nth shown on enough =
    let sak = sak_of settings.suite nth in
    let lives = mapped (tick_facts settings s r next sak) (life settings s r) shown on.shows in
    let l = lives.0 in
    let x = happened (events.Tick s next) (tick_facts settings s r next sak l) in
    subst (Fits settings users r (events.Tick s next)) lives.2 (
      (
        on.may_come.0,
        shown-in-order settings s next x r (transmitting_at settings s r) on.may_come.1,
        tick-draws-well settings s next r nth l on.draws lives.1 enough,
      ),
      tick-shows settings users s next r l sak
          (makes_next l.member l.past (seen_at settings s r l next)) refl lives.1,
    )
fits settings users r given (events.Deliver frame s) nth shown on enough = (on.may_come, on.shows)
fits settings users r given (events.Restart s) nth shown on enough =
    let begins = chained (λ mi. option_map (restart_facts s mi) (life settings s r))
    (option_map mi_of_draw (nth 0)) shown
    on.shows in
    let mi = begins.0 in
    let lives = mapped (restart_facts s mi) (life settings s r) shown begins.2 in
    let draw = drawn nth mi begins.1 in
    let is : IsMi mi = subst IsMi draw.2 (mi-is nth on.draws draw.0 draw.1) in
    subst (Fits settings users r (events.Restart s)) lives.2
    ((on.may_come, is), ap (option_map (restart_facts s mi)) lives.1)
fits settings users r given (events.Claim s user pn) nth shown on enough = (
  (
    on.may_come.0,
    on.may_come.1,
    claimed-in-order settings s r pn given (user_at users user) (transmitting_at settings s r)
        on.may_come.2,
  ),
  on.shows,
)
fits settings users r given events.Emit nth shown on enough = (on.may_come, on.shows)
fits settings users r given (events.Inject s octets) nth shown on enough = (on.may_come, on.shows)

pub is-step : (settings : Settings) (users : List UserFrame) (r : Run) (given : Option UserFrame)
    (event : Event)
    (nth : ℕ → Option (List ℕ)) (shown : List Fact)
    → IsUnstopped settings users r given event nth shown
    → IsStep settings users (happened event shown) r
is-step settings users r given event nth shown on =
    let free = unstopped settings users r given event nth shown on in
    let fit = fits settings users r given event nth shown on free.enough in
    record {
      setting = on.setting;
      in_order = (on.typed, fit.0);
      shows = fit.1;
      within = within-where (happened event shown ∷ r) free.limits;
    }

-- ---- what a run stays

pub legal : (settings : Settings) (users : List UserFrame) (r : Run) (given : Option UserFrame)
    (event : Event)
    (nth : ℕ → Option (List ℕ)) (shown : List Fact)
    → IsUnstopped settings users r given event nth shown
    → IsLegal settings users r → IsLegal settings users (happened event shown ∷ r)
legal settings users r given event nth shown on is =
    let step = is-step settings users r given event nth shown on in
    step-legal settings users (happened event shown) r is step
    (needs-no-excuse settings users r given event shown step on.may_come)

pub fresh : (settings : Settings) (users : List UserFrame) (r : Run) (given : Option UserFrame)
    (event : Event)
    (nth : ℕ → Option (List ℕ)) (shown : List Fact)
    → IsUnstopped settings users r given event nth shown
    → IsStepped settings users r → IsFresh r → IsFresh (happened event shown ∷ r)
fresh settings users r given event nth shown on stepped is =
    stays-fresh settings users (happened event shown) r stepped
    (is-step settings users r given event nth shown on)
    (unstopped settings users r given event nth shown on).draw is

pub unforged : (settings : Settings) (users : List UserFrame) (r : Run) (given : Option UserFrame)
    (event : Event)
    (nth : ℕ → Option (List ℕ)) (shown : List Fact)
    → IsUnstopped settings users r given event nth shown
    → IsUnforged settings r → IsUnforged settings (happened event shown ∷ r)
unforged settings users r given event nth shown on is =
    stays-unforged settings (happened event shown) r
    (unstopped settings users r given event nth shown on).forgery is
