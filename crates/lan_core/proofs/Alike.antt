-- Two runs that tell the same but for packet numbers: what one event more leaves, and what it
-- shows.
use Rattle.std.proofs.Common.{◌≡◌, ℕ, Bool, true, false, List, [], ◌∷◌, refl, ap, ◌∙◌, append-nil}
use Rattle.std.proofs.Common.{length, Option, Some, None}
use Rattle.lan_base.specs.declared.frame.UserFrame.{UserFrame}
use Rattle.sak_exchange.specs.declared.held_key.Key.{Key}
use Rattle.lan_core.specs.declared.event.Event.{Event}
use Rattle.lan_core.specs.declared.event.Event.TheVariants as events
use Rattle.lan_core.specs.declared.fact.Fact.{Fact}
use Rattle.lan_core.specs.declared.fact.Fact.TheVariants as facts
use Rattle.lan_core.specs.declared.settings.Settings.{Settings}
use Rattle.lan_core.specs.Run.{Run, Profile, Happening, happened, stations}
use Rattle.lan_core.specs.Ledgers.{Frame, air, installs, framed, install_of, gather, frame_at}
use Rattle.lan_core.specs.Lives.{Life, life, life_after, begun, lived_ticking, lived_reached, sak_in, receiving, reaches}
use Rattle.std.specs.Prelude.{◌==◌, cond, option_map, option_and_then, slice_get}
use Rattle.std.proofs.Common.{arith}
use Rattle.lan_core.specs.Lives.{transmitting_at}
use Rattle.lan_core.specs.Expected.{claim_fact, number_fact, lack, Drawn, expected, tick_facts, reached_facts, restart_facts}
use Rattle.lan_core.specs.Order.{is_event_of, IsWithin}
use Rattle.lan_core.specs.Stops.{draws_in, mi_number, sak_number}
use Rattle.lan_core.specs.Parts.{AreAlike}
use Rattle.aes_block.specs.declared.secret.Secret.{Secret}

pub alike-itself : (settings : Settings) (q : Run) → AreAlike settings q q
alike-itself settings q = record {
  lives = λ s. refl;
  places = refl;
  on_air = refl;
  slots = λ s. refl;
  installed = refl;
  ticked = refl;
  counted = refl;
  mis = λ mi. refl;
  saks = λ sak. refl;
}

-- the fact of a claim
abbrev pub TellsClaim : Fact → Type 0
TellsClaim (facts.Claimed s an epoch pn) = Unit {0}
TellsClaim (facts.Unclaimed s why) = Unit {0}
TellsClaim _ = ⊥

-- what it tells, whatever key transmits
pub tells-claim : (settings : Settings) (s pn : ℕ) (q : Run) (o : Option Key)
    → TellsClaim (claim_fact settings s q pn o)
tells-claim settings s pn q None = go (pn == 0)
  where
    go : (b : Bool) → TellsClaim (cond b (facts.Unclaimed s (lack settings s q None)) (number_fact s pn None))
    go true = tt
    go false = tt
tells-claim settings s pn q (Some k) = go (pn == 0)
  where
    go : (b : Bool) → TellsClaim (cond b (facts.Unclaimed s (lack settings s q (Some k))) (number_fact s pn (Some k)))
    go true = tt
    go false = tt

-- a claim behind the first
pub alike-claim : (settings : Settings) (s user pn : ℕ) (fact : Fact) (q c : Run) → TellsClaim fact
    → AreAlike settings q c
    → AreAlike settings (happened (events.Claim s user pn) (fact ∷ []) ∷ q) c
unfolding life stations air receiving installs draws_in mi_number sak_number
alike-claim settings s user pn (facts.Claimed t an epoch n) q c tells alike = record {
  lives = alike.lives;
  places = append-nil (stations q) ∙ alike.places;
  on_air = alike.on_air;
  slots = alike.slots;
  installed = alike.installed;
  ticked = omega (arith, alike.ticked);
  counted = omega (arith, alike.counted);
  mis = alike.mis;
  saks = alike.saks;
}
alike-claim settings s user pn (facts.Unclaimed t why) q c tells alike = record {
  lives = alike.lives;
  places = append-nil (stations q) ∙ alike.places;
  on_air = alike.on_air;
  slots = alike.slots;
  installed = alike.installed;
  ticked = omega (arith, alike.ticked);
  counted = omega (arith, alike.counted);
  mis = alike.mis;
  saks = alike.saks;
}
alike-claim settings s user pn fact q c tells alike = absurd tells

mapped-same : {A B : Type 0} (f g : A → B) → ((a : A) → f a ≡ g a) → (o : Option A)
    → option_map f o ≡ option_map g o
mapped-same f g same None = refl
mapped-same f g same (Some a) = ap Some (same a)

chained-same : {A B : Type 0} (f g : A → Option B) → ((a : A) → f a ≡ g a) → (o : Option A)
    → option_and_then f o ≡ option_and_then g o
chained-same f g same None = refl
chained-same f g same (Some a) = same a

module _ (settings : Settings) (q c : Run) (alike : AreAlike settings q c) where
  begun-same : (s : ℕ) (shown : List Fact) (p : Profile)
      → begun settings s q shown p ≡ begun settings s c shown p
  begun-same s shown p = rw alike.installed refl

  ticking-same : (s next : ℕ) (sak : Secret) (l : Life)
      → lived_ticking settings s q next sak l ≡ lived_ticking settings s c next sak l
  ticking-same s next sak l = rw (alike.slots s) refl

  reached-same : (s : ℕ) (l : Option Life) (e : Event) → reaches s q e ≡ reaches s c e
      → lived_reached l (reaches s q e) ≡ lived_reached l (reaches s c e)
  reached-same s l e same = ap (lived_reached l) same

  reaches-same : (s : ℕ) (e : Event) → reaches s q e ≡ reaches s c e
  reaches-same s (events.Start name sci priority) = refl
  reaches-same s (events.Tick station next) = refl
  reaches-same s (events.Deliver frame station) = rw alike.on_air refl
  reaches-same s (events.Restart station) = refl
  reaches-same s (events.Claim station user pn) = refl
  reaches-same s events.Emit = refl
  reaches-same s (events.Inject station octets) = refl

  -- the life of a station is the same behind one event after both runs
  life-same : (s : ℕ) (shown : List Fact) (e : Event)
      → life_after settings s q shown e (life settings s q)
      ≡ life_after settings s c shown e (life settings s c)
  life-same s shown (events.Start name sci priority) =
      ap (λ n. cond (n == s) (begun settings s q shown (record { name = name; sci = sci; priority = priority })) (life settings s q)) (ap length alike.places)
      ∙ (ap (λ l. cond (length (stations c) == s) l (life settings s q)) (begun-same s shown (record { name = name; sci = sci; priority = priority }))
      ∙ ap (λ l. cond (length (stations c) == s) (begun settings s c shown (record { name = name; sci = sci; priority = priority })) l) (alike.lives s))
  life-same s shown (events.Tick station next) =
      ap (λ l. cond (station == s) l (life settings s q))
      (mapped-same (lived_ticking settings s q next (sak_in shown)) (lived_ticking settings s c next (sak_in shown)) (ticking-same s next (sak_in shown)) (life settings s q))
      ∙ ap (λ l. cond (station == s) (option_map (lived_ticking settings s c next (sak_in shown)) l) l) (alike.lives s)
  life-same s shown (events.Deliver frame station) =
      ap (lived_reached (life settings s q)) (reaches-same s (events.Deliver frame station))
      ∙ ap (λ l. lived_reached l (reaches s c (events.Deliver frame station))) (alike.lives s)
  life-same s shown (events.Restart station) =
      ap (λ l. cond (station == s) l (life settings s q))
      (chained-same (begun settings s q shown) (begun settings s c shown) (begun-same s shown) (slice_get (stations q) s)
      ∙ ap (λ ps. option_and_then (begun settings s c shown) (slice_get ps s)) alike.places)
      ∙ ap (λ l. cond (station == s) (option_and_then (begun settings s c shown) (slice_get (stations c) s)) l) (alike.lives s)
  life-same s shown (events.Claim station user pn) = alike.lives s
  life-same s shown events.Emit = alike.lives s
  life-same s shown (events.Inject station octets) =
      ap (λ l. lived_reached l (reaches s c (events.Inject station octets))) (alike.lives s)

  pub alike-event : (x : Happening) → AreAlike settings (x ∷ q) (x ∷ c)
  unfolding life stations air receiving installs draws_in mi_number sak_number
  alike-event x = record {
    lives = λ s. life-same s x.facts x.event;
    places = rw alike.places refl;
    on_air = ap (gather framed x.facts) alike.on_air;
    slots = λ s. rw (reaches-same s x.event, alike.slots s) refl;
    installed = ap (gather install_of x.facts) alike.installed;
    ticked = rw alike.ticked refl;
    counted = rw alike.counted refl;
    mis = λ mi. rw (alike.counted, alike.mis mi) refl;
    saks = λ sak. rw (alike.counted, alike.saks sak) refl;
  }

  pub transmits-same : (s : ℕ) → transmitting_at settings s q ≡ transmitting_at settings s c
  transmits-same s = rw (alike.lives s) refl

  -- an event that is one of a station shows the same after both
  tick-same : (s next : ℕ) (sak : Secret) (l : Life)
      → tick_facts settings s q next sak l ≡ tick_facts settings s c next sak l
  tick-same s next sak l = rw (alike.on_air, alike.slots s) refl

  data-same : (s number : ℕ) (octets : List ℕ) (l : Life)
      → reached_facts settings s q number octets l ≡ reached_facts settings s c number octets l
  data-same s number octets l = rw (alike.slots s) refl

  data-mapped : (s number : ℕ) (octets : List ℕ)
      → option_map (reached_facts settings s q number octets) (life settings s q)
      ≡ option_map (reached_facts settings s c number octets) (life settings s c)
  data-mapped s number octets =
      mapped-same (reached_facts settings s q number octets) (reached_facts settings s c number octets) (data-same s number octets) (life settings s q)
      ∙ ap (option_map (reached_facts settings s c number octets)) (alike.lives s)

  frame-same : (frame : ℕ) → frame_at q frame ≡ frame_at c frame
  frame-same frame = rw alike.on_air refl

  pub expected-same : (users : List UserFrame) (t : ℕ) (e : Event) (drawn : Drawn)
      → is_event_of t e ≡ true
      → expected settings users q e drawn ≡ expected settings users c e drawn
  unfolding expected
  expected-same users t (events.Start name sci priority) drawn own = absurd (cc own)
  expected-same users t (events.Tick s next) drawn own =
      mapped-same (tick_facts settings s q next drawn.sak) (tick_facts settings s c next drawn.sak) (tick-same s next drawn.sak) (life settings s q)
      ∙ ap (option_map (tick_facts settings s c next drawn.sak)) (alike.lives s)
  expected-same users t (events.Deliver frame s) drawn own =
      chained-same (λ (f : Frame). option_map (reached_facts settings s q frame f.octets) (life settings s q))
      (λ (f : Frame). option_map (reached_facts settings s c frame f.octets) (life settings s c))
      (λ f. data-mapped s frame f.octets) (frame_at q frame)
      ∙ ap (option_and_then (λ (f : Frame). option_map (reached_facts settings s c frame f.octets) (life settings s c))) (frame-same frame)
  expected-same users t (events.Restart s) drawn own =
      ap (λ l. option_and_then (λ mi. option_map (restart_facts s mi) l) drawn.mi) (alike.lives s)
  expected-same users t (events.Claim s user pn) drawn own = absurd (cc own)
  expected-same users t events.Emit drawn own = absurd (cc own)
  expected-same users t (events.Inject s octets) drawn own = data-mapped s 0 octets

  -- it is within the limits after both
  pub within-same : IsWithin c → IsWithin q
  within-same w = record {
    frames = rw alike.on_air w.frames;
    octets = rw alike.on_air w.octets;
    ticks = rw alike.ticked w.ticks;
    installs = λ s. rw alike.installed (w.installs s);
    stations = rw alike.places w.stations;
  }
